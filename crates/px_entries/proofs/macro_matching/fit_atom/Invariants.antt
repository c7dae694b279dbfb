use Rattle.std.proofs.Common.{◌≡◌, ℕ, List, length}
use Rattle.px_question.specs.Answers.{object_terms}
use Rattle.px_terms.specs.Substitution.{substitute_atom}
use Rattle.px_gaps.specs.Bindings.{ExtendsTerms, IsBinding}
use Rattle.px_entries.proofs.macro_matching.fit_atom.Given as goal

abbrev pub invariant-loop-k : goal.invariant-loop-k
invariant-loop-k l = record {
  long : length l.terms ≡ length l.initial.terms;
  binding : IsBinding l.limit l.terms;
  fits : (sigma : List ℕ) → ExtendsTerms l.limit l.initial.terms sigma → substitute_atom (object_terms sigma) l.pattern ≡ l.wanted
      → ExtendsTerms l.limit l.terms sigma;
}
