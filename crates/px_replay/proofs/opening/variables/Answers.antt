use Rattle.std.proofs.Common.{◌∙◌, ◌+◌, ◌++◌, ◌∷◌, [], ap, sym}
use Rattle.px_terms.specs.declared.term.Term.TheVariants.{Var}
use Rattle.px_replay.proofs.OpenSteps.{variables_from-push}
use Rattle.px_replay.proofs.opening.variables.Goals as goal

pub loop-k-preserved : goal.loop-k-preserved
loop-k-preserved c =
    c.in_ok-push.ensures.ok ∙ ap (λ l. l ++ Var (c.args.first + c.loop-k.k) ∷ []) c.loop-k.invariant
    ∙ sym (variables_from-push c.args.first c.loop-k.k)
