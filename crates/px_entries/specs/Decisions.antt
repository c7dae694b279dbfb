-- Whether the atoms of a predicate decide, as it is found for a model's facts one after the other.
use Rattle.std.specs.Prelude.{◌≡◌, ◌↔◌, IsTrue}
use Rattle.px_terms.specs.declared.atom.Atom.{Atom}
use Rattle.px_terms.specs.declared.problem.Problem.{Problem}
use Rattle.px_entries.specs.Deciding.{IsDeciding}
use Rattle.px_entries.specs.declared.deciding.Decision.{Decision}

-- it is what the problem says
abbrev pub IsRightDecision : Problem → Decision → Type 0
IsRightDecision problem decision = (atom : Atom) → atom.pred ≡ decision.pred → IsTrue decision.decides ↔ IsDeciding problem atom
