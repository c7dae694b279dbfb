-- Worked runs of the plan in which one object for two would spoil the plan (`WorkedDanger` of px_match), in a world that is a set of
-- atoms. Its steps are A(p1) and B(p1,p2).
use Rattle.std.specs.Prelude.{ℕ, true, false, Some, None, [], ◌∷◌}
use Rattle.px_terms.specs.declared.instance.OpInst.{OpInst}
use Rattle.px_terms.specs.declared.term.Term.TheVariants.{Obj}
use Rattle.px_match.specs.WorkedDanger.{a, b, a_step, b_step, danger, danger_facts, danger_table, g, p, q, r}
use Rattle.px_world.specs.declared.edits.AtomEdit.TheVariants.{Add, Remove}
use Rattle.px_world.specs.Worlds.{edited}
use Rattle.px_planex.specs.declared.event.Event.TheVariants.{Sense, Act}
use Rattle.px_planex.specs.declared.event.Outcome.TheVariants.{NotSensed, Sensed, Acted}
use Rattle.px_planex.specs.Execution.{Traces, nothing_sensed}
use Rattle.px_planex.specs.Turns.{AtGoal, AtNoKernel, ByActing, BySlipping, RunsTable, TurnEnd, TurnValue}

-- the turn that senses no kernel, the one that senses the goal, and one that tries a step
abbrev pub lost : TurnValue
lost = record { kernel = 0; op = None; end = AtNoKernel }

abbrev pub arrived : TurnValue
arrived = record { kernel = 3; op = None; end = AtGoal }

abbrev pub tried : ℕ → OpInst → TurnEnd → TurnValue
tried kernel inst end = record { kernel = kernel; op = Some inst; end = end }

pub record DangerRuns : Type 0 where
  -- Q(a) comes before the first sensing. With one object for both parameters no kernel fits then.
  pub stuck : RunsTable edited danger danger_table ((1, a) ∷ (2, a) ∷ [])
      (record { turn = 1; between = false; edits = Add (q (Obj a)) ∷ [] } ∷ [])
      (p (Obj a) ∷ q (Obj b) ∷ []) (lost ∷ []) danger_facts
  -- with only the first parameter bound, two steps lead to the goal
  pub straight : RunsTable edited danger danger_table ((1, a) ∷ []) []
      danger_facts (tried 1 (a_step (Obj a)) ByActing ∷ tried 2 (b_step (Obj a) (Obj b)) ByActing ∷ arrived ∷ [])
      (p (Obj a) ∷ q (Obj b) ∷ r (Obj a) ∷ g (Obj a) ∷ [])
  -- P(a) goes between the first sensing and its action, which slips; and then nothing fits
  pub slipped : RunsTable edited danger danger_table ((1, a) ∷ [])
      (record { turn = 1; between = true; edits = Remove (p (Obj a)) ∷ [] } ∷ [])
      danger_facts (tried 1 (a_step (Obj a)) BySlipping ∷ lost ∷ []) (q (Obj a) ∷ q (Obj b) ∷ [])
  -- an action before any sensing isn't taken, nor is a second one after a sensing
  pub unsensed : Traces edited danger danger_table ((1, a) ∷ []) (record { atoms = danger_facts; memory = nothing_sensed })
      (Act ∷ Sense ∷ Act ∷ Act ∷ []) (NotSensed ∷ Sensed 1 ∷ Acted ∷ NotSensed ∷ [])
      (record { atoms = p (Obj a) ∷ q (Obj b) ∷ r (Obj a) ∷ []; memory = record { remembered = None; instance = a ∷ b ∷ [] } })
