use Rattle.std.specs.Prelude.{count_by}
use Rattle.std.proofs.Common.{◌∙◌, ◌+◌, ◌++◌, ◌∷◌, [], ap, sym, take, arith}
use Rattle.std.proofs.lemmas.List.Sums.{sum_by_more}
use Rattle.px_terms.specs.declared.atom.Atom.{Atom}
use Rattle.px_replay.specs.FreshVariables.{is_object}
use Rattle.px_replay.specs.Opened.{goal_objects, named_args, named_goal}
use Rattle.px_replay.proofs.GoalSteps.{named_goal-more, objects_of}
use Rattle.px_replay.proofs.goal.named_goal.Goals as goal

pub loop-atom-preserved : goal.loop-atom-preserved
loop-atom-preserved c =
    let atoms = c.args.goal.now in
    let k = c.loop-atom.atom-index in
    let own = c.args.own in
    let prefix = named_goal c.args.names.now own c.args.first (take k atoms) in
    let next = c.args.first + goal_objects (take k atoms) in
    record {
      made =
          c.in_ok-push.ensures.ok ∙ ap (λ l. l ++ c.named_atom.result ∷ []) c.loop-atom.invariant.made
          ∙ ap (λ (a : Atom). prefix ++ a ∷ []) (c.named_atom.ensures
          ∙ ap (λ n. record { pred = c.atom-item.result.pred; args = named_args c.args.names.now own n c.atom-item.result.args })
          c.loop-atom.invariant.next
          ∙ ap (λ (a : Atom). record { pred = a.pred; args = named_args c.args.names.now own next a.args }) c.atom-item.is)
          ∙ sym (named_goal-more c.args.names.now own c.args.first k atoms c.atom-item.result c.loop-atom-test.true);
      next = omega (
        arith,
        c.loop-atom.invariant.next,
        c.count_objects-next.ensures,
        ap (count_by is_object) c.args-in-loop-atom.ensures.value,
        ap objects_of c.atom-item.is,
        sum_by_more objects_of atoms k c.atom-item.result c.loop-atom-test.true,
      );
    }
