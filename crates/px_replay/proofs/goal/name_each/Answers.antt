use Rattle.std.proofs.Common.{◌∙◌, ◌++◌, ◌∷◌, [], ap, sym, take, get_or, arith}
use Rattle.px_terms.specs.declared.term.Term.TheVariants.{Obj}
use Rattle.px_replay.specs.Opened.{named_args, named_term}
use Rattle.px_replay.proofs.GoalSteps.{length-set, named_args-more, objects-more, take-set}
use Rattle.px_replay.proofs.goal.name_each.Goals as goal

pub loop-i-preserved : goal.loop-i-preserved
loop-i-preserved c =
    let i = c.loop-i.i in
    let args = c.args.args.now in
    let prefix = named_args c.args.names.now c.args.own c.args.first (take i args) in
    record {
      long = length-set c.loop-i.into i c.name_of.result ∙ c.loop-i.invariant.long;
      prefix =
          take-set c.loop-i.into i c.name_of.result (omega (arith, c.requires.room, c.loop-i.invariant.long, c.loop-i-test.true))
          ∙ ap (λ l. l ++ c.name_of.result ∷ []) c.loop-i.invariant.prefix
          ∙ ap (λ x. prefix ++ x ∷ []) (c.name_of.ensures
          ∙ ap (λ n. named_term c.args.names.now c.args.own n (get_or args i (Obj 0))) c.loop-i.invariant.next)
          ∙ sym (named_args-more c.args.names.now c.args.own c.args.first i args (Obj 0) c.loop-i-test.true);
      next = omega (arith, c.loop-i.invariant.next, c.object_count-next.ensures, objects-more args i (Obj 0) c.loop-i-test.true);
    }
