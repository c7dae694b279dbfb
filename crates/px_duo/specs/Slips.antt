-- Why an action of one of two executors slips.
use Rattle.std.specs.Prelude.{◌≡◌, ◌⊎◌, ℕ, List, [], ◌∷◌, All, Contains}
use Rattle.px_terms.specs.declared.atom.Atom.{Atom}
use Rattle.px_terms.specs.declared.problem.Problem.{Problem}
use Rattle.px_terms.specs.Validity.{IsValid}
use Rattle.px_table.specs.declared.mark.Mark.{Mark}
use Rattle.px_table.specs.declared.table.Table.{Table}
use Rattle.px_table.specs.Kernels.{atom_under}
use Rattle.px_table.specs.Tables.{IsTable}
use Rattle.px_planex.specs.Executors.{ChangesNothing}
use Rattle.px_planex.specs.declared.event.Outcome.{Outcome}
use Rattle.px_planex.specs.declared.event.Outcome.TheVariants.{Sensed, Acted, Slipped}
use Rattle.px_duo.specs.Duos.{DuoRunning, DuoTraces, HappensInDuo, Pair, other_than, own}
use Rattle.px_duo.specs.declared.event.DuoEvent.{DuoEvent}
use Rattle.px_duo.specs.declared.event.DuoEvent.TheVariants as duo
use Rattle.px_duo.specs.declared.event.Who.{Who}

-- the event is an edit, or the other's
abbrev pub IsNotOf : {E : Type 0} → Who → DuoEvent E → Type 0
IsNotOf who (duo.Disturb edit) = Unit {0}
IsNotOf who (duo.Sense by) = by ≡ other_than who
IsNotOf who (duo.Act by) = by ≡ other_than who

module _ {E : Type 0} (leaves : E → List Atom → List Atom) (problem : Problem) (tables : Pair Table) where
  -- the atom goes by one of these events, an edit or a step that is taken: it is true before and isn't after
  abbrev pub GoesBy : Atom → DuoRunning → List (DuoEvent E) → List Outcome → Type 0
  GoesBy atom old [] outcomes = ⊥
  GoesBy atom old (event ∷ events) [] = ⊥
  GoesBy atom old (event ∷ events) (outcome ∷ outcomes) =
      (mid : DuoRunning) × HappensInDuo leaves problem tables old event outcome mid
      × (((¬ ChangesNothing outcome) × Contains old.atoms atom × (¬ Contains mid.atoms atom)) ⊎ GoesBy atom mid events outcomes)

-- After the one sensed kernel `i` come events that aren't its own, and then its action is taken. Or it slips: then one of these events, an edit
-- or a step of the other, made a mark of row `i` false.
abbrev pub SlipsHaveCauses : {E : Type 0} → (E → List Atom → List Atom) → Type 0
SlipsHaveCauses {E} leaves = (problem : Problem) (tables : Pair Table) (who : Who) (old sensed mid new : DuoRunning) (i : ℕ)
    (events : List (DuoEvent E)) (outcomes : List Outcome) (outcome : Outcome)
    → IsValid problem → IsTable problem (own who tables)
    → HappensInDuo leaves problem tables old (duo.Sense who) (Sensed i) sensed
    → DuoTraces leaves problem tables sensed events outcomes mid → All (IsNotOf who) events
    → HappensInDuo leaves problem tables mid (duo.Act who) outcome new
    → (outcome ≡ Acted) ⊎ ((outcome ≡ Slipped)
    × ((mark : Mark) × Contains (own who tables).marks mark × (mark.row ≡ i)
    × GoesBy leaves problem tables (atom_under (own who sensed.memories).instance mark.atom) sensed events outcomes))
