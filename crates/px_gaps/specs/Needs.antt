-- What is needed: formulas that are to be proved from facts. When one has an answer or a gap, and when all are open.
use Rattle.std.specs.Prelude.{◌⊎◌, List, All, Any}
use Rattle.px_terms.specs.declared.atom.Atom.{Atom}
use Rattle.px_terms.specs.declared.problem.Problem.{Problem}
use Rattle.px_question.specs.Answers.{IsAnswer}
use Rattle.px_question.specs.Gaps.{IsGapOf}
use Rattle.px_question.specs.Settings.{setting_of}
use Rattle.px_gaps.specs.declared.question.Obligation.{Obligation}

-- some objects for its variables make each of its atoms provable
abbrev pub HasAnswer : Problem → Obligation → Type 0
HasAnswer problem needed = IsAnswer (setting_of problem needed.facts) needed.formula needed.variable_count

-- it has no answer, and the atom is what is missing in some list of gap proofs of it
abbrev pub HasGap : Problem → Obligation → Atom → Type 0
HasGap problem needed gap = IsGapOf (setting_of problem needed.facts) needed.formula needed.variable_count gap

-- all that is needed has an answer
abbrev pub IsApplicable : Problem → List Obligation → Type 0
IsApplicable problem needs = All (HasAnswer problem) needs

-- all that is needed has an answer or a gap; so what is applicable is open
abbrev pub IsOpen : Problem → List Obligation → Type 0
IsOpen problem needs = All (λ needed. HasAnswer problem needed ⊎ ((gap : Atom) × HasGap problem needed gap)) needs

-- a gap of something that is needed, where all of it is open
abbrev pub IsGapOfNeeds : Problem → List Obligation → Atom → Type 0
IsGapOfNeeds problem needs gap = IsOpen problem needs × Any (λ needed. HasGap problem needed gap) needs
