-- What doesn't meet the limit stays below it.
use Rattle.std.proofs.Common.{List, refl}
use Rattle.px_terms.specs.declared.problem.Problem.{Problem}
use Rattle.px_question.proofs.DecidedLaws.{questions-are_decided}
use Rattle.px_question.specs.Settings.{setting_of}
use Rattle.px_gaps.specs.Questions.{AreBelow, AreUnlimited}
use Rattle.px_gaps.specs.declared.question.Obligation.{Obligation}
use Rattle.px_gaps.specs.declared.question.Question.TheVariants.{FindingGaps, Proving}

pub unlimited-below : (problem : Problem) (needs : List Obligation) → AreUnlimited problem needs → AreBelow problem needs
unlimited-below problem needs unlimited (Proving needed) asks =
    questions-are_decided.below (setting_of problem needed.facts) needed.formula needed.variable_count
    (λ shapes met. unlimited (Proving needed) needed.formula shapes asks (refl, met))
unlimited-below problem needs unlimited (FindingGaps needed) asks =
    questions-are_decided.gaps_below (setting_of problem needed.facts) needed.formula needed.variable_count
    (λ kept shapes met. unlimited (FindingGaps needed) kept shapes asks met)
