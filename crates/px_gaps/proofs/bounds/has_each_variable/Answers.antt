use Rattle.std.proofs.Common.{ℕ, List, inl, inr, subst, sym}
use Rattle.std.specs.Prelude.{Contains}
use Rattle.px_terms.specs.declared.term.Term.{Term}
use Rattle.px_terms.specs.declared.term.Term.TheVariants.{Var}
use Rattle.px_base.proofs.Loops.{level_or_below, said_yes}
use Rattle.px_gaps.proofs.bounds.has_each_variable.Goals as goal

pub loop-v-preserved : goal.loop-v-preserved
loop-v-preserved c = λ v below.
    let args = c.args.atom.now.args in
    elim (level_or_below v c.loop-v.v below) [
      | inl earlier ↦ c.loop-v.invariant v earlier
      | inr level ↦
          let here = said_yes c.has_term.result c.has_term.ensures c.if-not-has_term.false in
          subst (λ (u : ℕ). Contains args (Var u)) (sym level)
          (subst (λ (ts : List Term). Contains ts (Var c.loop-v.v)) c.args-in-loop-v.ensures.value here)
    ]
