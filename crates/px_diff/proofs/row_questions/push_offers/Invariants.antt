use Rattle.std.proofs.Common.{◌-◌, ◌<◌, ◌≤◌, ℕ, List, length, get_or}
use Rattle.px_prover.specs.declared.pattern.GapPattern.{GapPattern}
use Rattle.px_gaps.specs.Bindings.{ExtendsTerms}
use Rattle.px_entries.specs.Parameters.{FitsTerms}
use Rattle.px_diff.specs.RowQuestions.{FitsOne, Widens}
use Rattle.px_diff.proofs.row_questions.push_offers.Given as goal

abbrev pub invariant-loop-passed : goal.invariant-loop-passed
invariant-loop-passed l = record {
  widens : Widens (length l.terms) l.initial.choices.items l.choices.items;
  covers : (sigma : List ℕ) (k : ℕ) (d : GapPattern) → ExtendsTerms l.limit l.terms sigma → length l.patterns - l.passed ≤ k
      → k < length l.patterns → FitsTerms (get_or l.patterns k d).terms sigma → FitsOne l.choices.items sigma;
}
