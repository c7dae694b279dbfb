-- What operators may add, of a problem and in a setting.
use Rattle.std.specs.Prelude.{◌↔◌, List}
use Rattle.px_terms.specs.declared.atom.Atom.{Atom}
use Rattle.px_terms.specs.declared.problem.Problem.{Problem}
use Rattle.px_terms.specs.Operators.{IsAddable}
use Rattle.px_question.specs.Settings.{setting_of, IsAddableIn}

-- an atom may be a gap for the prover exactly where an operator of the problem may add it, whatever the facts are
abbrev pub AddableAlike : Type 0
AddableAlike = (problem : Problem) (facts : List Atom) (atom : Atom) → IsAddable problem atom ↔ IsAddableIn (setting_of problem facts) atom
