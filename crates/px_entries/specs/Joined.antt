-- What is known of two lists of needs together.
use Rattle.std.specs.Prelude.{List, ◌++◌}
use Rattle.px_terms.specs.declared.problem.Problem.{Problem}
use Rattle.px_gaps.specs.declared.question.Obligation.{Obligation}
use Rattle.px_gaps.specs.Known.{IsKnownOf}
use Rattle.px_gaps.specs.declared.known.Known.{Known}
use Rattle.px_gaps.specs.declared.known.Known.TheVariants.{Applicable, Open, Closed, Limited}

-- what is known is that the limit is met
abbrev pub IsAtLimit : Known → Type 0
IsAtLimit Applicable = ⊥
IsAtLimit (Open gaps) = ⊥
IsAtLimit Closed = ⊥
IsAtLimit (Limited limit) = Unit {0}

-- where the first is known of a list of needs and the second of another, this is known of the one followed by the other
pub record Joins (first second both : Known) : Type 0 where
  pub known : (problem : Problem) (xs ys : List Obligation) → IsKnownOf problem xs first → IsKnownOf problem ys second
      → IsKnownOf problem (xs ++ ys) both
