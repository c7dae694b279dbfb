-- What a sensing and an action leave of the atoms, and of what is remembered.
use Rattle.std.specs.Prelude.{◌≡◌, Some, None, Option, List, []}
use Rattle.std.proofs.Common.{sym, ap, subst, inl, inr}
use Rattle.px_terms.specs.declared.atom.Atom.{Atom}
use Rattle.px_terms.specs.declared.problem.Problem.{Problem}
use Rattle.px_table.specs.declared.table.Table.{Table}
use Rattle.px_match.specs.Matching.{IsSensed, KernelInstance}
use Rattle.px_planex.specs.Execution.{Happens, Running}
use Rattle.px_planex.specs.Executors.{ChangesNothing}
use Rattle.px_planex.specs.declared.event.Event.{Event}
use Rattle.px_planex.specs.declared.event.Event.TheVariants.{Sense, Act}
use Rattle.px_planex.specs.declared.event.Outcome.{Outcome}
use Rattle.px_planex.proofs.OneTrace.{ActGives, SenseGives, act_gives, sense_gives}
use Rattle.px_duo.specs.Duos.{IsReady}

module _ {E : Type 0} (leaves : E → List Atom → List Atom) (problem : Problem) (table : Table) where
  abbrev Comes : Running → Event E → Outcome → Running → Type 0
  Comes = Happens leaves problem table []

  -- ---- sensing

  sensing_keeps : (old new : Running) (answer : Option KernelInstance) (outcome : Outcome)
      → SenseGives leaves problem table [] old answer outcome new → new.atoms ≡ old.atoms
  sensing_keeps old new None outcome gives = ap (λ (r : Running). r.atoms) gives.1
  sensing_keeps old new (Some kernel) outcome (inl gives) = ap (λ (r : Running). r.atoms) gives.2
  sensing_keeps old new (Some kernel) outcome (inr gives) = ap (λ (r : Running). r.atoms) gives.2

  pub sense_keeps : (old new : Running) (outcome : Outcome) → Comes old Sense outcome new → new.atoms ≡ old.atoms
  sense_keeps old new outcome h =
      let gives = sense_gives leaves problem table [] old new outcome h in
      sensing_keeps old new gives.0 outcome gives.2

  sensing_readies : (old new : Running) (answer : Option KernelInstance) (outcome : Outcome) → IsSensed problem table [] old.atoms answer
      → SenseGives leaves problem table [] old answer outcome new → IsReady problem table new.memory
  sensing_readies old new None outcome sensed gives = subst (λ (r : Running). IsReady problem table r.memory) (sym gives.1) (tt, tt)
  sensing_readies old new (Some kernel) outcome sensed (inl gives) =
      subst (λ (r : Running). IsReady problem table r.memory) (sym gives.2) (tt, tt)
  sensing_readies old new (Some kernel) outcome sensed (inr gives) =
      subst (λ (r : Running). IsReady problem table r.memory) (sym gives.2)
      ((sensed.fits.from_one, gives.0, sensed.fits.instantiation), sensed.fits.fitting)

  pub sense_readies : (old new : Running) (outcome : Outcome) → Comes old Sense outcome new → IsReady problem table new.memory
  sense_readies old new outcome h =
      let gives = sense_gives leaves problem table [] old new outcome h in
      sensing_readies old new gives.0 outcome gives.1 gives.2

  -- ---- acting

  acting_keeps : (old new : Running) (remembered : Option KernelInstance) (outcome : Outcome) → ChangesNothing outcome
      → ActGives leaves problem table [] old remembered outcome new → new.atoms ≡ old.atoms
  acting_keeps old new None outcome same gives = ap (λ (r : Running). r.atoms) gives.1
  acting_keeps old new (Some kernel) outcome same (inl gives) = ap (λ (r : Running). r.atoms) gives.2
  acting_keeps old new (Some kernel) outcome same (inr gives) = absurd (subst ChangesNothing gives.1 same)

  pub act_keeps : (old new : Running) (outcome : Outcome) → ChangesNothing outcome → Comes old Act outcome new → new.atoms ≡ old.atoms
  act_keeps old new outcome same h =
      acting_keeps old new old.memory.remembered outcome same (act_gives leaves problem table [] old new outcome h)

  acting_readies : (old new : Running) (remembered : Option KernelInstance) (outcome : Outcome) → IsReady problem table old.memory
      → ActGives leaves problem table [] old remembered outcome new → IsReady problem table new.memory
  acting_readies old new None outcome ready gives = subst (λ (r : Running). IsReady problem table r.memory) (sym gives.1) ready
  acting_readies old new (Some kernel) outcome ready (inl gives) =
      subst (λ (r : Running). IsReady problem table r.memory) (sym gives.2) (tt, tt)
  acting_readies old new (Some kernel) outcome ready (inr gives) =
      subst (λ (r : Running). IsReady problem table r.memory) (sym gives.2.2) (tt, tt)

  pub act_readies : (old new : Running) (outcome : Outcome) → IsReady problem table old.memory → Comes old Act outcome new
      → IsReady problem table new.memory
  act_readies old new outcome ready h =
      acting_readies old new old.memory.remembered outcome ready (act_gives leaves problem table [] old new outcome h)
