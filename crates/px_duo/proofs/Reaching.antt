-- An executor that is never hindered reaches its goal by acting and sensing in turn.
use Rattle.std.specs.Prelude.{◌≡◌, ℕ, true, ◌≤◌, ◌+◌, ◌-◌, List, [], ◌∷◌, ◌++◌, length}
use Rattle.std.proofs.Common.{zero, suc, subst, arith}
use Rattle.px_terms.specs.declared.atom.Atom.{Atom}
use Rattle.px_planex.specs.Progress.{ClimbsToGoal, alternating}
use Rattle.px_planex.specs.declared.event.Event.{Event}
use Rattle.px_planex.specs.declared.event.Outcome.{Outcome}
use Rattle.px_planex.specs.declared.event.Outcome.TheVariants.{Disturbed, Sensed, Acted, Slipped, Goal, NoKernel, NotSensed}
use Rattle.px_duo.specs.Duos.{own}
use Rattle.px_duo.specs.Sparing.{IsUnhindered, SparedReachGoal, own_outcomes}
use Rattle.px_duo.proofs.Sparing.{spared_are_unhindered}

module _ {E : Type 0} (n : ℕ) (later : List (Event E)) where
  -- so many actions and sensings in turn, and what comes after them
  abbrev turns : ℕ → List (Event E)
  turns count = alternating count ++ later

  climbs : (count i : ℕ) (outcomes : List Outcome) → n + 1 ≤ i + count → i ≤ n → IsUnhindered n true i (turns count) outcomes
      → ClimbsToGoal i outcomes
  climbs zero i outcomes enough within goes = absurd (omega (arith, enough, within))
  climbs (suc count) i [] enough within goes = absurd goes
  climbs (suc count) i (Disturbed ∷ outcomes) enough within goes = absurd goes
  climbs (suc count) i (Sensed j ∷ outcomes) enough within goes = absurd goes
  climbs (suc count) i (Slipped ∷ outcomes) enough within goes = absurd goes
  climbs (suc count) i (Goal ∷ outcomes) enough within goes = absurd goes
  climbs (suc count) i (NoKernel ∷ outcomes) enough within goes = absurd goes
  climbs (suc count) i (NotSensed ∷ outcomes) enough within goes = absurd (cc (goes.0))
  climbs (suc count) i (Acted ∷ []) enough within goes = absurd goes.1
  climbs (suc count) i (Acted ∷ Disturbed ∷ outcomes) enough within goes = absurd goes.1
  climbs (suc count) i (Acted ∷ Acted ∷ outcomes) enough within goes = absurd goes.1
  climbs (suc count) i (Acted ∷ Slipped ∷ outcomes) enough within goes = absurd goes.1
  climbs (suc count) i (Acted ∷ NoKernel ∷ outcomes) enough within goes = absurd goes.1
  climbs (suc count) i (Acted ∷ NotSensed ∷ outcomes) enough within goes = absurd goes.1
  climbs (suc count) i (Acted ∷ Goal ∷ outcomes) enough within goes = tt
  climbs (suc count) i (Acted ∷ Sensed j ∷ outcomes) enough within goes =
      (omega (arith, goes.1.0), climbs count j outcomes (omega (arith, enough, goes.1.0)) goes.1.1 goes.1.2)

pub spared_reach_goal : {E : Type 0} (leaves : E → List Atom → List Atom) → SparedReachGoal leaves
spared_reach_goal {E} leaves problem tables who old sensed new i events outcomes later valid are_tables spares ready senses trace edits is =
    let n = length (own who tables).steps in
    climbs n later (n + 1 - i) i (own_outcomes who events outcomes) (omega arith) senses.1.3
    (subst (λ (xs : List (Event E)). IsUnhindered n true i xs (own_outcomes who events outcomes)) is
    (spared_are_unhindered leaves problem tables who old sensed new i events outcomes valid are_tables spares ready senses trace edits))
