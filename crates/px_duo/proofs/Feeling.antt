-- Each of two executors in one world does what it does alone, where the other's steps are disturbances.
use Rattle.std.specs.Prelude.{◌≡◌, Some, None, Option, List, [], ◌∷◌, ◌++◌, map}
use Rattle.std.proofs.Common.{refl, sym, ap, ◌∙◌, subst}
use Rattle.px_terms.specs.declared.atom.Atom.{Atom}
use Rattle.px_terms.specs.declared.instance.OpInst.{OpInst}
use Rattle.px_terms.specs.declared.problem.Problem.{Problem}
use Rattle.px_terms.specs.Operators.{result_of}
use Rattle.px_table.specs.declared.table.Table.{Table}
use Rattle.px_match.specs.Matching.{KernelInstance}
use Rattle.px_planex.specs.Execution.{Happens, Memory, Running, Traces, remembered_step, step_of_kernel}
use Rattle.px_planex.specs.Executors.{running}
use Rattle.px_planex.specs.declared.event.Event.{Event}
use Rattle.px_planex.specs.declared.event.Event.TheVariants.{Disturb, Sense, Act}
use Rattle.px_planex.specs.declared.event.Outcome.{Outcome}
use Rattle.px_planex.specs.declared.event.Outcome.TheVariants.{Disturbed, Sensed, Acted, Slipped, Goal, NoKernel, NotSensed}
use Rattle.px_duo.specs.Alone.{Change, EachIsAlone, Edited, Feels, Felt, felt, felt_of, felt_step, leaves_change}
use Rattle.px_duo.specs.Duos.{DuoRunning, DuoTraces, HappensInDuo, Pair, alone, come_to, own}
use Rattle.px_duo.specs.declared.event.DuoEvent.{DuoEvent}
use Rattle.px_duo.specs.declared.event.DuoEvent.TheVariants as duo
use Rattle.px_duo.specs.declared.event.Who.{Who}
use Rattle.px_duo.specs.declared.event.Who.TheVariants.{First, Second}
use Rattle.px_duo.proofs.Outcomes.{sense_keeps}

module _ {E : Type 0} (leaves : E → List Atom → List Atom) (problem : Problem) (tables : Pair Table) where
  abbrev Comes : Who → Running → Event E → Outcome → Running → Type 0
  Comes who = Happens leaves problem (own who tables) []

  -- for the one by itself, which is disturbed by changes
  abbrev ComesAlone : Who → Running → Event (Change E) → Outcome → Running → Type 0
  ComesAlone who = Happens (leaves_change problem leaves) problem (own who tables) []

  -- ---- sensing and acting don't ask what edits leave

  sense_alone : (who : Who) (old new : Running) (outcome : Outcome) → Comes who old Sense outcome new → ComesAlone who old Sense outcome new
  sense_alone who old new Disturbed h = absurd h
  sense_alone who old new (Sensed i) h = h
  sense_alone who old new Acted h = absurd h
  sense_alone who old new Slipped h = absurd h
  sense_alone who old new Goal h = h
  sense_alone who old new NoKernel h = h
  sense_alone who old new NotSensed h = absurd h

  act_alone : (who : Who) (old new : Running) (outcome : Outcome) → Comes who old Act outcome new → ComesAlone who old Act outcome new
  act_alone who old new Disturbed h = absurd h
  act_alone who old new (Sensed i) h = absurd h
  act_alone who old new Acted h = h
  act_alone who old new Slipped h = h
  act_alone who old new Goal h = absurd h
  act_alone who old new NoKernel h = absurd h
  act_alone who old new NotSensed h = h

  -- ---- lists of what is felt

  abbrev Trace : Who → Running → List (Felt (Change E)) → Running → Type 0
  Trace who old all new = Traces (leaves_change problem leaves) problem (own who tables) [] old
      (map (λ (one : Felt (Change E)). one.event) all) (map (λ (one : Felt (Change E)). one.outcome) all) new

  join : (who : Who) (now later : List (Felt (Change E))) (old mid new : Running) → Trace who old now mid → Trace who mid later new
      → Trace who old (now ++ later) new
  join who [] later old mid new first rest = subst (λ (r : Running). Trace who r later new) first rest
  join who (one ∷ now) later old mid new first rest = (first.0, first.1, join who now later first.0 mid new first.2 rest)

  -- nothing is felt, where the atoms stay and so does what the one remembers
  unfelt : (who : Who) (old mid : DuoRunning) → mid.atoms ≡ old.atoms → own who mid.memories ≡ own who old.memories
      → Trace who (alone who old) [] (alone who mid)
  unfelt who old mid atoms memory = λ i. running (atoms i) (memory i)

  -- ---- an action of the other

  -- its step is felt
  step_felt : (who : Who) (old mid : DuoRunning) (step : Option OpInst) (inst : OpInst) → step ≡ Some inst
      → mid.atoms ≡ result_of problem old.atoms inst → own who mid.memories ≡ own who old.memories
      → Trace who (alone who old) (felt_step Acted step) (alone who mid)
  step_felt who old mid step inst is atoms memory =
      subst (λ (s : Option OpInst). Trace who (alone who old) (felt_step Acted s) (alone who mid)) (sym is)
      (alone who mid, (λ i. running (atoms i) (memory i)), refl)

  -- what the kernel that is remembered says of the step
  step_is : (table : Table) (memory : Memory) (kernel : KernelInstance) (inst : OpInst) → memory.remembered ≡ Some kernel
      → step_of_kernel table kernel ≡ Some inst → remembered_step table memory ≡ Some inst
  step_is table memory kernel inst is step =
      ap (λ (k : Option KernelInstance). elim k [ None ↦ None | Some kernel ↦ step_of_kernel table kernel ]) is ∙ step

  acting_felt : (who by : Who) (old mid : DuoRunning) (outcome : Outcome) → own who mid.memories ≡ own who old.memories
      → (seen : Running) → Comes by (alone by old) Act outcome seen → mid.atoms ≡ seen.atoms
      → Trace who (alone who old) (felt_step outcome (remembered_step (own by tables) (own by old.memories))) (alone who mid)
  acting_felt who by old mid Disturbed memory seen h atoms = absurd h
  acting_felt who by old mid (Sensed i) memory seen h atoms = absurd h
  acting_felt who by old mid Goal memory seen h atoms = absurd h
  acting_felt who by old mid NoKernel memory seen h atoms = absurd h
  acting_felt who by old mid Acted memory seen h atoms =
      step_felt who old mid (remembered_step (own by tables) (own by old.memories)) h.3.0
      (step_is (own by tables) (own by old.memories) h.0 h.3.0 h.1 h.3.1) (atoms ∙ ap (λ (r : Running). r.atoms) h.3.2) memory
  acting_felt who by old mid Slipped memory seen h atoms = unfelt who old mid (atoms ∙ ap (λ (r : Running). r.atoms) h.3) memory
  acting_felt who by old mid NotSensed memory seen h atoms = unfelt who old mid (atoms ∙ ap (λ (r : Running). r.atoms) h.1) memory

  -- ---- one event

  own_felt : (who : Who) (old mid : DuoRunning) (event : Event (Change E)) (outcome : Outcome) (seen : Running)
      → ComesAlone who (alone who old) event outcome seen → mid ≡ come_to who seen old → alone who (come_to who seen old) ≡ seen
      → Trace who (alone who old) (felt event outcome ∷ []) (alone who mid)
  own_felt who old mid event outcome seen h is same = (seen, h, ap (alone who) is ∙ same)

  event_felt : (who : Who) (old mid : DuoRunning) (event : DuoEvent E) (outcome : Outcome)
      → HappensInDuo leaves problem tables old event outcome mid
      → Trace who (alone who old) (felt_of tables who old event outcome) (alone who mid)
  event_felt who old mid (duo.Disturb edit) outcome h = (
    alone who mid,
    subst (λ (o : Outcome). ComesAlone who (alone who old) (Disturb (Edited edit)) o (alone who mid)) (sym h.0)
        (ap (alone who) h.1),
    refl,
  )
  event_felt First old mid (duo.Sense First) outcome h =
      own_felt First old mid Sense outcome h.0 (sense_alone First (alone First old) h.0 outcome h.1) h.2 refl
  event_felt Second old mid (duo.Sense Second) outcome h =
      own_felt Second old mid Sense outcome h.0 (sense_alone Second (alone Second old) h.0 outcome h.1) h.2 refl
  event_felt First old mid (duo.Sense Second) outcome h =
      unfelt First old mid (ap (λ (d : DuoRunning). d.atoms) h.2
      ∙ sense_keeps leaves problem tables.second (alone Second old) h.0 outcome h.1) (ap (λ (d : DuoRunning). d.memories.first) h.2)
  event_felt Second old mid (duo.Sense First) outcome h =
      unfelt Second old mid (ap (λ (d : DuoRunning). d.atoms) h.2
      ∙ sense_keeps leaves problem tables.first (alone First old) h.0 outcome h.1) (ap (λ (d : DuoRunning). d.memories.second) h.2)
  event_felt First old mid (duo.Act First) outcome h =
      own_felt First old mid Act outcome h.0 (act_alone First (alone First old) h.0 outcome h.1) h.2 refl
  event_felt Second old mid (duo.Act Second) outcome h =
      own_felt Second old mid Act outcome h.0 (act_alone Second (alone Second old) h.0 outcome h.1) h.2 refl
  event_felt First old mid (duo.Act Second) outcome h =
      acting_felt First Second old mid outcome (ap (λ (d : DuoRunning). d.memories.first) h.2) h.0 h.1
      (ap (λ (d : DuoRunning). d.atoms) h.2)
  event_felt Second old mid (duo.Act First) outcome h =
      acting_felt Second First old mid outcome (ap (λ (d : DuoRunning). d.memories.second) h.2) h.0 h.1
      (ap (λ (d : DuoRunning). d.atoms) h.2)

  -- ---- all events

  pub all_felt : (who : Who) (events : List (DuoEvent E)) (outcomes : List Outcome) (old new : DuoRunning)
      → DuoTraces leaves problem tables old events outcomes new
      → (all : List (Felt (Change E))) × Feels leaves problem tables who old events outcomes all new
      × Trace who (alone who old) all (alone who new)
  all_felt who [] [] old new h = ([], (refl, h), ap (alone who) h)
  all_felt who [] (outcome ∷ outcomes) old new h = absurd h
  all_felt who (event ∷ events) [] old new h = absurd h
  all_felt who (event ∷ events) (outcome ∷ outcomes) old new h =
      let rest = all_felt who events outcomes h.0 new h.2 in (
        felt_of tables who old event outcome ++ rest.0,
        (h.0, (rest.0, h.1, refl, rest.1)),
        join who (felt_of tables who old event outcome) rest.0 (alone who old) (alone who h.0) (alone who new)
            (event_felt who old h.0 event outcome h.1) rest.2,
      )

pub each_is_alone : {E : Type 0} (leaves : E → List Atom → List Atom) → EachIsAlone leaves
each_is_alone leaves problem tables who old new events outcomes h = all_felt leaves problem tables who events outcomes old new h
