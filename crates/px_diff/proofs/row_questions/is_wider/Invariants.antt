use Rattle.std.proofs.Common.{◌≡◌, ◌<◌, ℕ, get_or}
use Rattle.px_terms.specs.declared.term.Term.TheVariants.{Any, Obj}
use Rattle.px_diff.proofs.row_questions.is_wider.Given as goal

abbrev pub invariant-loop-place : goal.invariant-loop-place
invariant-loop-place l = (v n : ℕ) → v < l.place → get_or l.wide v Any ≡ Obj n → get_or l.narrow v Any ≡ Obj n
