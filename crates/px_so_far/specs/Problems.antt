-- What the problem of the lines so far takes for granted.
use Rattle.std.specs.Prelude.{◌≡◌, ◌<◌, ◌≤◌, ◌+◌, length, IfSome}
use Rattle.px_base.specs.Bounds.{u32_max}
use Rattle.px_rooms.specs.States.{IsBuilding, standings}
use Rattle.px_terms.specs.Validity.{IsValid}
use Rattle.px_script.specs.Declarations.{Declared, problem_here}
use Rattle.px_script.specs.declared.limits.TheConstants.{SORTS as most_sorts}

-- there are no more sorts than there may be
abbrev pub HasFewSorts : Declared → Type 0
HasFewSorts d = length d.sorts ≤ most_sorts

-- It is valid, a building is whole, the objects are the robot and its things, and there are no more sorts than there may be.
pub record HasProblem (d : Declared) : Type 0 where
  pub valid : IsValid (problem_here d)
  pub building : IfSome d.things IsBuilding
  pub short : IfSome d.things (λ things. length things < u32_max)
  pub objects : IfSome d.things (λ things. length d.names.objects ≡ length (standings things) + 1)
  pub few_sorts : HasFewSorts d
