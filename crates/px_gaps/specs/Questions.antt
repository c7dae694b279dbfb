-- What a search asks of the prover, and where a question meets the shape limit.
use Rattle.std.specs.Prelude.{◌≡◌, ◌⊎◌, List, Any}
use Rattle.px_terms.specs.declared.atom.Atom.{Atom}
use Rattle.px_terms.specs.declared.problem.Problem.{Problem}
use Rattle.px_proof.specs.declared.shape.Tick.{Tick}
use Rattle.px_question.specs.Gaps.{MeetsGapLimit, StaysBelowGapLimit}
use Rattle.px_question.specs.Limits.{IsLimited, StaysBelowLimit}
use Rattle.px_question.specs.Settings.{setting_of}
use Rattle.px_gaps.specs.Needs.{HasAnswer}
use Rattle.px_gaps.specs.declared.question.MetLimit.{MetLimit}
use Rattle.px_gaps.specs.declared.question.Obligation.{Obligation}
use Rattle.px_gaps.specs.declared.question.Question.{Question}
use Rattle.px_gaps.specs.declared.question.Question.TheVariants.{Proving, FindingGaps}

-- the questions about what is needed: proving each part, and finding the gaps of each part that has no answer
abbrev pub AsksOf : Problem → List Obligation → Question → Type 0
AsksOf problem needs question = Any (λ needed. (question ≡ Proving needed)
    ⊎ ((¬ HasAnswer problem needed) × (question ≡ FindingGaps needed))) needs

-- the question meets the limit at the formula, by its first shapes
abbrev pub MeetsLimit : Problem → Question → List Atom → List (List Tick) → Type 0
MeetsLimit problem (Proving needed) formula shapes = (formula ≡ needed.formula)
    × IsLimited (setting_of problem needed.facts) needed.formula needed.variable_count shapes
MeetsLimit problem (FindingGaps needed) formula shapes = MeetsGapLimit (setting_of problem needed.facts) needed.formula needed.variable_count formula
    shapes

-- what is kept is such a question, with the formula and the shapes
abbrev pub IsMetLimit : Problem → MetLimit → Type 0
IsMetLimit problem limit = MeetsLimit problem limit.question limit.formula limit.shapes

-- no question about what is needed meets the limit
abbrev pub AreUnlimited : Problem → List Obligation → Type 0
AreUnlimited problem needs =
    (question : Question) (formula : List Atom) (shapes : List (List Tick)) → AsksOf problem needs question
    → ¬ MeetsLimit problem question formula shapes

-- the question stays below the limit
abbrev pub StaysBelow : Problem → Question → Type 0
StaysBelow problem (Proving needed) = StaysBelowLimit (setting_of problem needed.facts) needed.formula needed.variable_count
StaysBelow problem (FindingGaps needed) = StaysBelowGapLimit (setting_of problem needed.facts) needed.formula needed.variable_count

-- each question about what is needed stays below the limit
abbrev pub AreBelow : Problem → List Obligation → Type 0
AreBelow problem needs = (question : Question) → AsksOf problem needs question → StaysBelow problem question
