use Rattle.px_effects.proofs.Common.{◌<◌, List, map, length, ap, ◌∙◌, Bor, ℕ, arith, common_steps, take_all, NameLists, with_more, text_of, SoFar}
use Rattle.px_effects.proofs.MoreNames.{more-none, next-fresh, one-more-name}
use Rattle.px_effects.proofs.declaring.declare_names.Goals as goal

pub loop-name-init : goal.loop-name-init
loop-name-init c = let changed : NameLists → SoFar = λ t. record c.args.so_far.now { names = t } in
    ap changed (more-none c.args.kind c.args.so_far.now.names)

pub add_name-requires : goal.add_name-requires
add_name-requires c =
    let below : c.loop-name.name-index < length c.args.names.now = grind (arith, common_steps) in
    record {
      fresh = next-fresh c.args.kind c.args.so_far.now.names c.loop-name.so_far.names c.args.names.now c.loop-name.name-index _
          (ap (λ s. s.names) c.loop-name.invariant) c.requires.named c.requires.fresh below;
    }

pub loop-name-preserved : goal.loop-name-preserved
loop-name-preserved c =
    let below : c.loop-name.name-index < length c.args.names.now = grind (arith, common_steps) in
    one-more-name c.args.kind c.args.so_far.now c.loop-name.so_far c.add_name.new.so_far c.args.names.now c.loop-name.name-index _
    c.in_ok-add_name.ensures.declared c.loop-name.invariant below

pub returns : goal.returns
returns c =
    let known : List (Bor (List ℕ)) → SoFar = λ ns. record c.args.so_far.now
    { names = with_more c.args.kind (map text_of ns) c.args.so_far.now.names } in
    c.loop-name.invariant ∙ ap known (take_all c.loop-name.name-index c.args.names.now c.loop-name-test.false)
