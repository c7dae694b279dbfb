-- What is known of what is needed: of a formula, of an entry, or of the goal.
use Rattle.std.specs.Prelude.{◌≡◌, ◌↔◌, List, Contains}
use Rattle.px_terms.specs.AtomSets.{IsAtomSet}
use Rattle.px_terms.specs.declared.atom.Atom.{Atom}
use Rattle.px_terms.specs.declared.problem.Problem.{Problem}
use Rattle.px_proof.specs.declared.shape.Tick.{Tick}
use Rattle.px_gaps.specs.Needs.{HasAnswer, IsApplicable, IsOpen, IsGapOfNeeds}
use Rattle.px_gaps.specs.Questions.{AsksOf, IsMetLimit, MeetsLimit, StaysBelow, AreUnlimited, AreBelow}
use Rattle.px_gaps.specs.declared.known.Known.{Known}
use Rattle.px_gaps.specs.declared.known.Known.TheVariants.{Applicable, Open, Closed, Limited}
use Rattle.px_gaps.specs.declared.known.Tried.{Tried}
use Rattle.px_gaps.specs.declared.known.Tried.TheVariants as tried
use Rattle.px_gaps.specs.declared.question.MetLimit.{MetLimit}
use Rattle.px_gaps.specs.declared.question.Obligation.{Obligation}
use Rattle.px_gaps.specs.declared.question.Question.{Question}
use Rattle.px_gaps.specs.declared.question.Question.TheVariants.{Proving}

-- ---- whether a formula has an answer

-- the question doesn't meet the limit, and stays below it
pub record IsBelow (problem : Problem) (question : Question) : Type 0 where
  pub unlimited : (formula : List Atom) (shapes : List (List Tick)) → ¬ MeetsLimit problem question formula shapes
  pub below : StaysBelow problem question

-- the formula has an answer or none, and proving it stays below the limit; or proving it meets the limit
abbrev pub IsTriedOf : Problem → Obligation → Tried → Type 0
IsTriedOf problem needed tried.Answered = HasAnswer problem needed × IsBelow problem (Proving needed)
IsTriedOf problem needed tried.Unanswered = (¬ HasAnswer problem needed) × IsBelow problem (Proving needed)
IsTriedOf problem needed (tried.Limited limit) = (limit.question ≡ Proving needed) × IsMetLimit problem limit

-- ---- what is known of what is needed

-- no question about it meets the limit, and each stays below it
pub record AreAllBelow (problem : Problem) (needs : List Obligation) : Type 0 where
  pub unlimited : AreUnlimited problem needs
  pub below : AreBelow problem needs

-- not all of it has an answer, but each part has an answer or a gap, and these are the gaps; all questions stay below the limit
pub record IsOpenWith (problem : Problem) (needs : List Obligation) (gaps : List Atom) : Type 0 where
  pub not_applicable : ¬ IsApplicable problem needs
  pub open_needs : IsOpen problem needs
  pub order : IsAtomSet gaps
  pub exact : (atom : Atom) → Contains gaps atom ↔ IsGapOfNeeds problem needs atom
  pub questions : AreAllBelow problem needs

-- the question is one about it, and meets the limit
pub record LimitsNeeds (problem : Problem) (needs : List Obligation) (limit : MetLimit) : Type 0 where
  pub asked : AsksOf problem needs limit.question
  pub met : IsMetLimit problem limit

-- this is known of it
abbrev pub IsKnownOf : Problem → List Obligation → Known → Type 0
IsKnownOf problem needs Applicable = IsApplicable problem needs × AreAllBelow problem needs
IsKnownOf problem needs (Open gaps) = IsOpenWith problem needs gaps
IsKnownOf problem needs Closed = (¬ IsOpen problem needs) × AreAllBelow problem needs
IsKnownOf problem needs (Limited limit) = LimitsNeeds problem needs limit
