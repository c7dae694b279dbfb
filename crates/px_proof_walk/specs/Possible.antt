-- Which lists of ticks are unfinished or finished lists of proofs.
use Rattle.std.specs.Prelude.{◌≡◌, ℕ, ◌<◌, Bool, true, false, Option, Some, None, List, ◌++◌, length, replicate}
use Rattle.std.specs.List.{AllByRecursion}
use Rattle.px_terms.specs.declared.atom.Atom.{Atom}
use Rattle.px_proof.specs.declared.shape.Tick.{Tick}
use Rattle.px_proof.specs.declared.shape.Tick.TheVariants.{Fact, Anc, Step, Gap, Open}
use Rattle.px_proof.specs.Proves.{Rules}
use Rattle.px_question.specs.Settings.{Setting, proofs_in, loose_gaps_in}
use Rattle.px_proof_walk.specs.Pending.{Pending, open_after, goals_of, IsFeasible}

-- finished proofs; or finished loose gap proofs, where gaps are allowed
abbrev pub rules_for : Bool → Setting → Rules
rules_for false s = proofs_in s
rules_for true s = loose_gaps_in s

-- the tick closes a place
abbrev pub IsClosing : Tick → Type 0
IsClosing Open = ⊥
IsClosing (Fact i) = Unit {0}
IsClosing (Anc i) = Unit {0}
IsClosing (Step number place) = Unit {0}
IsClosing Gap = Unit {0}

-- the ticks close places, and some objects make the closings right
abbrev pub IsPossible : Bool → Setting → List Atom → ℕ → List Tick → Type 0
IsPossible loose s formula variable_count ticks = AllByRecursion IsClosing ticks × IsFeasible loose s formula variable_count ticks

abbrev pub left_of : Option Pending → ℕ
left_of None = 0
left_of (Some p) = length p.goals

-- how many places are open after the ticks
abbrev pub open_count : Bool → Setting → List Atom → ℕ → List Tick → ℕ
open_count loose s formula variable_count ticks = left_of (open_after loose s variable_count (goals_of s formula) ticks)

abbrev pub IsFinished : Bool → Setting → List Atom → ℕ → List Tick → Type 0
IsFinished loose s formula variable_count ticks = open_count loose s formula variable_count ticks ≡ 0

-- the ticks, and a tick for each open place
abbrev pub shape_with : List Tick → ℕ → List Tick
shape_with ticks places = ticks ++ replicate places Open

-- the shape has a tick for each place that is open after the ticks
abbrev pub shape_of : Bool → Setting → List Atom → ℕ → List Tick → List Tick
shape_of loose s formula variable_count ticks = shape_with ticks (open_count loose s formula variable_count ticks)

-- possible, and some place is open
abbrev pub IsGoingOn : Bool → Setting → List Atom → ℕ → List Tick → Type 0
IsGoingOn loose s formula variable_count ticks = IsPossible loose s formula variable_count ticks × (0 < open_count loose s formula variable_count ticks)
