-- An action slips only where since its sensing an edit, or a step of the other, made a mark of its row false.
use Rattle.std.specs.Prelude.{◌≡◌, ◌⊎◌, ℕ, Bool, true, false, Some, None, Option, List, [], ◌∷◌, All, Contains}
use Rattle.std.proofs.Common.{refl, sym, ap, ◌∙◌, subst, inl, inr}
use Rattle.std.proofs.lemmas.List.Elements.{All-head, All-tail}
use Rattle.std.specs.Bool.{Decides}
use Rattle.px_base.specs.Answers.{both_answers}
use Rattle.px_base.specs.ListLaws.{Contains-cases, Contains-first, Contains-later, Contains-none}
use Rattle.px_terms.specs.declared.atom.Atom.{Atom}
use Rattle.px_terms.specs.declared.problem.Problem.{Problem}
use Rattle.px_terms.specs.Order.{atom_eq}
use Rattle.px_terms.specs.OrderLaws.{atom_eq-decides}
use Rattle.px_terms.specs.Validity.{IsValid}
use Rattle.px_table.specs.declared.mark.Mark.{Mark}
use Rattle.px_table.specs.declared.table.Table.{Table}
use Rattle.px_table.specs.Kernels.{atom_under}
use Rattle.px_table.specs.Tables.{IsTable}
use Rattle.px_match.specs.Matching.{IsHighest, KernelInstance}
use Rattle.px_planex.specs.Execution.{Memory, RowFails, Running, sensing}
use Rattle.px_planex.specs.Executors.{ChangesNothing}
use Rattle.px_planex.specs.declared.event.Event.TheVariants.{Sense, Act}
use Rattle.px_planex.specs.declared.event.Outcome.{Outcome}
use Rattle.px_planex.specs.declared.event.Outcome.TheVariants.{Sensed, Acted, Slipped}
use Rattle.px_planex.proofs.OneTrace.{ActGives, act_gives}
use Rattle.px_planex.proofs.Progressing.{row_of_kernel_holds}
use Rattle.px_duo.specs.Duos.{DuoRunning, DuoTraces, HappensInDuo, HappensTo, Pair, alone, other_than, own}
use Rattle.px_duo.specs.Slips.{GoesBy, IsNotOf, SlipsHaveCauses}
use Rattle.px_duo.specs.declared.event.DuoEvent.{DuoEvent}
use Rattle.px_duo.specs.declared.event.DuoEvent.TheVariants as duo
use Rattle.px_duo.specs.declared.event.Who.{Who}
use Rattle.px_duo.proofs.Outcomes.{act_keeps, sense_keeps}
use Rattle.px_duo.proofs.Whose.{came, came-atoms, own-stays}

-- ---- an atom is in a list or isn't

contains-or-not : (atoms : List Atom) (atom : Atom) → Contains atoms atom ⊎ (¬ Contains atoms atom)
contains-or-not [] atom = inr (Contains-none atom)
contains-or-not (one ∷ atoms) atom = by (atom_eq one atom) (atom_eq-decides one atom) (contains-or-not atoms atom)
  where
    by : (b : Bool) → Decides b (one ≡ atom) → Contains atoms atom ⊎ (¬ Contains atoms atom)
        → Contains (one ∷ atoms) atom ⊎ (¬ Contains (one ∷ atoms) atom)
    by true decides rest = inl (subst (Contains (one ∷ atoms)) (decides.0 refl) (Contains-first one atoms))
    by false decides (inl later) = inl (Contains-later one atoms atom later)
    by false decides (inr never) = inr (λ has. elim (Contains-cases one atoms atom has) [
      | inl same ↦ both_answers false refl (decides.1 same)
      | inr later ↦ never later
    ])

module _ {E : Type 0} (leaves : E → List Atom → List Atom) (problem : Problem) (tables : Pair Table) where
  -- ---- an atom that is true before and isn't after goes by one of the events

  event_keeps : (event : DuoEvent E) (outcome : Outcome) (old mid : DuoRunning) → HappensInDuo leaves problem tables old event outcome mid
      → ChangesNothing outcome → mid.atoms ≡ old.atoms
  event_keeps (duo.Disturb edit) outcome old mid h same = absurd (subst ChangesNothing h.0 same)
  event_keeps (duo.Sense who) outcome old mid h same =
      came-atoms who old mid h.0 h.2 ∙ sense_keeps leaves problem (own who tables) (alone who old) h.0 outcome h.1
  event_keeps (duo.Act who) outcome old mid h same =
      came-atoms who old mid h.0 h.2 ∙ act_keeps leaves problem (own who tables) (alone who old) h.0 outcome same h.1

  goes_by : (atom : Atom) (events : List (DuoEvent E)) (outcomes : List Outcome) (old new : DuoRunning)
      → DuoTraces leaves problem tables old events outcomes new → Contains old.atoms atom → (¬ Contains new.atoms atom)
      → GoesBy leaves problem tables atom old events outcomes
  goes_by atom [] [] old new h there gone = gone (subst (λ (d : DuoRunning). Contains d.atoms atom) (sym h) there)
  goes_by atom [] (outcome ∷ outcomes) old new h there gone = absurd h
  goes_by atom (event ∷ events) [] old new h there gone = absurd h
  goes_by atom (event ∷ events) (outcome ∷ outcomes) old new h there gone =
      (h.0, h.1, by (contains-or-not h.0.atoms atom) (λ still. goes_by atom events outcomes h.0 new h.2 still gone))
    where
      by : Contains h.0.atoms atom ⊎ (¬ Contains h.0.atoms atom)
          → (Contains h.0.atoms atom → GoesBy leaves problem tables atom h.0 events outcomes)
          → ((¬ ChangesNothing outcome) × Contains old.atoms atom × (¬ Contains h.0.atoms atom))
          ⊎ GoesBy leaves problem tables atom h.0 events outcomes
      by (inl still) later = inr (later still)
      by (inr here) later = inl (
        λ same. here (subst (λ (xs : List Atom). Contains xs atom) (sym (event_keeps event outcome old h.0 h.1 same)) there),
        there,
        here,
      )

  -- ---- the one remembers its kernel

  event_stays : (who : Who) (event : DuoEvent E) (outcome : Outcome) (old mid : DuoRunning) → IsNotOf who event
      → HappensInDuo leaves problem tables old event outcome mid → own who mid.memories ≡ own who old.memories
  event_stays who (duo.Disturb edit) outcome old mid theirs h = ap (λ (d : DuoRunning). own who d.memories) h.1
  event_stays who (duo.Sense by) outcome old mid theirs h =
      let h' = subst (λ (b : Who). HappensTo leaves problem tables b old Sense outcome mid) theirs h in own-stays who old mid h'.0 h'.2
  event_stays who (duo.Act by) outcome old mid theirs h =
      let h' = subst (λ (b : Who). HappensTo leaves problem tables b old Act outcome mid) theirs h in own-stays who old mid h'.0 h'.2

  all_stay : (who : Who) (events : List (DuoEvent E)) (outcomes : List Outcome) (old new : DuoRunning) → All (IsNotOf who) events
      → DuoTraces leaves problem tables old events outcomes new → own who new.memories ≡ own who old.memories
  all_stay who [] [] old new theirs h = ap (λ (d : DuoRunning). own who d.memories) h
  all_stay who [] (outcome ∷ outcomes) old new theirs h = absurd h
  all_stay who (event ∷ events) [] old new theirs h = absurd h
  all_stay who (event ∷ events) (outcome ∷ outcomes) old new theirs h =
      all_stay who events outcomes h.0 new (All-tail (IsNotOf who) event events theirs) h.2
      ∙ event_stays who event outcome old h.0 (All-head (IsNotOf who) event events theirs) h.1

  -- ---- the action

  module _ (valid : IsValid problem) (who : Who) (is_table : IsTable problem (own who tables)) (old sensed mid : DuoRunning)
      (kernel : KernelInstance) (highest : IsHighest problem (own who tables) [] old.atoms kernel)
      (here : alone who sensed ≡ sensing (alone who old) (Some kernel) kernel) (events : List (DuoEvent E)) (outcomes : List Outcome)
      (between : DuoTraces leaves problem tables sensed events outcomes mid) where
    -- a mark of the kernel's row goes by one of the events
    abbrev IsCaused : Type 0
    IsCaused = (mark : Mark) × Contains (own who tables).marks mark × (mark.row ≡ kernel.number)
        × GoesBy leaves problem tables (atom_under (own who sensed.memories).instance mark.atom) sensed events outcomes

    row_goes : RowFails (own who tables) kernel mid.atoms → IsCaused
    row_goes (mark, has, row, gone) =
        let objects : (own who sensed.memories).instance ≡ kernel.objects = ap (λ (r : Running). r.memory.instance) here in
        let atoms : sensed.atoms ≡ old.atoms = ap (λ (r : Running). r.atoms) here in
        let holds : Contains old.atoms (atom_under kernel.objects mark.atom) =
        row_of_kernel_holds problem valid (own who tables) is_table [] old.atoms kernel highest.fits mark has row in (
          mark,
          has,
          row,
          subst (λ (xs : List ℕ). GoesBy leaves problem tables (atom_under xs mark.atom) sensed events outcomes) (sym objects)
              (goes_by (atom_under kernel.objects mark.atom) events outcomes sensed mid between
              (subst (λ (xs : List Atom). Contains xs (atom_under kernel.objects mark.atom)) (sym atoms) holds) gone),
        )

    by_row : (outcome : Outcome) (seen : Running) → ActGives leaves problem (own who tables) [] (alone who mid) (Some kernel) outcome seen
        → (outcome ≡ Acted) ⊎ ((outcome ≡ Slipped) × IsCaused)
    by_row outcome seen (inl fails) = inr (fails.1, row_goes fails.0)
    by_row outcome seen (inr holds) = inl holds.1

pub slips_have_causes : {E : Type 0} (leaves : E → List Atom → List Atom) → SlipsHaveCauses leaves
slips_have_causes {E} leaves problem tables who old sensed mid new i events outcomes outcome valid is_table senses between theirs acts =
    let kernel : KernelInstance = senses.1.0 in
    let here : alone who sensed ≡ sensing (alone who old) (Some kernel) kernel = came who old sensed senses.0 senses.2 ∙ senses.1.4 in
    let remembers : (own who mid.memories).remembered ≡ Some kernel =
    ap (λ (m : Memory). m.remembered) (all_stay leaves problem tables who events outcomes sensed mid theirs between)
    ∙ ap (λ (r : Running). r.memory.remembered) here in
    let gives : ActGives leaves problem (own who tables) [] (alone who mid) (Some kernel) outcome acts.0 =
    subst (λ (o : Option KernelInstance). ActGives leaves problem (own who tables) [] (alone who mid) o outcome acts.0) remembers
    (act_gives leaves problem (own who tables) [] (alone who mid) acts.0 outcome acts.1) in
    subst (λ (n : ℕ). (outcome ≡ Acted) ⊎ ((outcome ≡ Slipped) × ((mark : Mark) × Contains (own who tables).marks mark × (mark.row ≡ n)
    × GoesBy leaves problem tables (atom_under (own who sensed.memories).instance mark.atom) sensed events outcomes))) senses.1.2
    (by_row leaves problem tables valid who is_table old sensed mid kernel senses.1.1 here events outcomes between outcome acts.0 gives)
