-- How many atoms an event may add.
use Rattle.std.specs.Prelude.{◌≡◌, ℕ, ◌≤◌, ◌+◌, Some, None, Option, List, length}
use Rattle.std.proofs.Common.{sym, ap, subst, inl, inr, arith}
use Rattle.px_terms.specs.declared.atom.Atom.{Atom}
use Rattle.px_terms.specs.declared.instance.OpInst.{OpInst}
use Rattle.px_terms.specs.declared.problem.Problem.{Problem}
use Rattle.px_terms.specs.OperatorLaws.{result_of-length}
use Rattle.px_terms.specs.Operators.{adds}
use Rattle.px_table.specs.declared.table.Table.{Table}
use Rattle.px_match.specs.Matching.{KernelInstance}
use Rattle.px_planex.specs.declared.event.Event.TheVariants.{Disturb, Sense, Act}
use Rattle.px_planex.specs.declared.event.Outcome.{Outcome}
use Rattle.px_planex.specs.Execution.{Happens, Running, remembered_step, step_of_kernel}
use Rattle.px_planex.specs.Executors.{ChangesNothing, EventsTakePlaces, places_for}
use Rattle.px_planex.proofs.OneTrace.{ActGives, SenseGives, act_gives, disturb_gives, sense_gives}

module _ {E : Type 0} (leaves : E → List Atom → List Atom) (problem : Problem) (table : Table) (bound : List (ℕ × ℕ)) where
  -- the event adds at most `places` atoms, and none where its outcome changes nothing
  abbrev pub Adds : ℕ → Running → Outcome → Running → Type 0
  Adds places old outcome new = (length new.atoms ≤ length old.atoms + places) × (ChangesNothing outcome → new.atoms ≡ old.atoms)

  same_adds : (places : ℕ) (old new : Running) (outcome : Outcome) → new.atoms ≡ old.atoms → Adds places old outcome new
  same_adds places old new outcome same = (omega (arith, ap length same), λ _. same)

  changing_adds : (places : ℕ) (old new : Running) (outcome : Outcome) → (¬ ChangesNothing outcome)
      → length new.atoms ≤ length old.atoms + places → Adds places old outcome new
  changing_adds places old new outcome changes within = (within, λ nothing. absurd (changes nothing))

  sense_adds : (old new : Running) (answer : Option KernelInstance) (outcome : Outcome)
      → SenseGives leaves problem table bound old answer outcome new → Adds 0 old outcome new
  sense_adds old new None outcome gives = same_adds 0 old new outcome (ap (λ (r : Running). r.atoms) gives.1)
  sense_adds old new (Some kernel) outcome (inl gives) = same_adds 0 old new outcome (ap (λ (r : Running). r.atoms) gives.2)
  sense_adds old new (Some kernel) outcome (inr gives) = same_adds 0 old new outcome (ap (λ (r : Running). r.atoms) gives.2)

  -- the places of an action where this step is remembered
  abbrev pub step_places : Option OpInst → ℕ
  step_places step = elim step [ None ↦ 0 | Some inst ↦ length (adds problem inst) ]

  abbrev pub places_by : Option KernelInstance → ℕ
  places_by remembered = step_places (elim remembered [ None ↦ None | Some kernel ↦ step_of_kernel table kernel ])

  pub act_adds : (old new : Running) (remembered : Option KernelInstance) (outcome : Outcome)
      → ActGives leaves problem table bound old remembered outcome new → Adds (places_by remembered) old outcome new
  act_adds old new None outcome gives = same_adds 0 old new outcome (ap (λ (r : Running). r.atoms) gives.1)
  act_adds old new (Some kernel) outcome (inl gives) =
      same_adds (places_by (Some kernel)) old new outcome (ap (λ (r : Running). r.atoms) gives.2)
  act_adds old new (Some kernel) outcome (inr gives) =
      let inst = gives.2.0 in
      let more = result_of-length problem old.atoms inst in
      let within : length new.atoms ≤ length old.atoms + length (adds problem inst) =
      omega (arith, more, ap (λ (r : Running). length r.atoms) gives.2.2) in
      changing_adds (places_by (Some kernel)) old new outcome (λ nothing. subst ChangesNothing gives.1 nothing)
      (subst (λ (step : Option OpInst). length new.atoms ≤ length old.atoms + step_places step) (sym gives.2.1) within)

pub events_take_places : {E : Type 0} (leaves : E → List Atom → List Atom) → EventsTakePlaces leaves
events_take_places leaves problem table bound old new (Disturb edit) outcome few happens =
    let gives = disturb_gives leaves problem table bound edit old new outcome happens in
    let one = few edit old.atoms in
    changing_adds leaves problem table bound 1 old new outcome (λ nothing. subst ChangesNothing gives.0 nothing)
    (omega (arith, one, ap (λ (r : Running). length r.atoms) gives.1))
events_take_places leaves problem table bound old new Sense outcome few happens =
    let gives = sense_gives leaves problem table bound old new outcome happens in
    sense_adds leaves problem table bound old new gives.0 outcome gives.2
events_take_places leaves problem table bound old new Act outcome few happens =
    act_adds leaves problem table bound old new old.memory.remembered outcome (act_gives leaves problem table bound old new outcome happens)

-- an action adds at most as many atoms as it may want places
pub act_number : {E : Type 0} (leaves : E → List Atom → List Atom) (problem : Problem) (table : Table) (bound : List (ℕ × ℕ))
    (old new : Running) (outcome : Outcome)
    → Happens leaves problem table bound old Act outcome new
    → length new.atoms ≤ length old.atoms + places_for problem (remembered_step table old.memory)
act_number leaves problem table bound old new outcome happens =
    (act_adds leaves problem table bound old new old.memory.remembered outcome
    (act_gives leaves problem table bound old new outcome happens)).0
