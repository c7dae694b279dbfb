-- A run with edits of one kind is a run with edits of both.
use Rattle.std.specs.Prelude.{◌≡◌, ◌⊎◌, ℕ, Bool, true, false, cond, List, [], ◌∷◌, ◌++◌, map, filter, flat_map}
use Rattle.std.proofs.Common.{suc, refl, sym, ap, ◌∙◌, subst, inl, inr}
use Rattle.std.proofs.lemmas.List.{map-append}
use Rattle.px_terms.specs.declared.atom.Atom.{Atom}
use Rattle.px_terms.specs.declared.problem.Problem.{Problem}
use Rattle.px_table.specs.declared.table.Table.{Table}
use Rattle.px_planex.specs.declared.event.Event.TheVariants.{Sense, Act}
use Rattle.px_planex.specs.declared.event.Outcome.{Outcome}
use Rattle.px_planex.specs.declared.event.Outcome.TheVariants.{Disturbed, Sensed, Acted, Slipped, Goal, NoKernel, NotSensed}
use Rattle.px_planex.specs.Execution.{Happens, Running}
use Rattle.px_planex.specs.Turns.{EndsTurn, Recorded, RunsTable, TakesTurn, TakesTurns, TurnValue, after_edits, disturbed_by, edits_at, is_at, IsLastTurn}
use Rattle.px_world.specs.Worlds.{edited}
use Rattle.px_rooms.specs.Changes.{facts_edited}
use Rattle.px_session.specs.Runs.{OneKindRuns, as_edits}
use Rattle.px_session.specs.Sessions.{Edit, leaves_edit, of_atoms, of_rooms}

module _ {E : Type 0} (leaves : E → List Atom → List Atom) (into : E → Edit) (same : (edit : E) (atoms : List Atom)
    → leaves_edit (into edit) atoms ≡ leaves edit atoms) where
  after-lifted : (edits : List E) (atoms : List Atom) → after_edits leaves_edit (map into edits) atoms ≡ after_edits leaves edits atoms
  after-lifted [] atoms = refl
  after-lifted (edit ∷ edits) atoms = ap (after_edits leaves_edit (map into edits)) (same edit atoms)
      ∙ after-lifted edits (leaves edit atoms)

  disturbed-lifted : (edits : List E) (old : Running) → disturbed_by leaves_edit (map into edits) old ≡ disturbed_by leaves edits old
  disturbed-lifted edits old = ap (λ (atoms : List Atom). record { atoms = atoms; memory = old.memory }) (after-lifted edits old.atoms)

  edits-lifted : (recorded : List (Recorded E)) (turn : ℕ) (between : Bool)
      → edits_at (map (as_edits into) recorded) turn between ≡ map into (edits_at recorded turn between)
  edits-lifted [] turn between = refl
  edits-lifted (one ∷ recorded) turn between = by (edits-lifted recorded turn between) (is_at turn between one)
    where
      by : edits_at (map (as_edits into) recorded) turn between ≡ map into (edits_at recorded turn between) → (b : Bool)
          → flat_map (λ (r : Recorded Edit). r.edits) (cond b (as_edits into one
          ∷ filter (is_at turn between) (map (as_edits into) recorded)) (filter (is_at turn between) (map (as_edits into) recorded)))
          ≡ map into (flat_map (λ (r : Recorded E). r.edits) (cond b (one
          ∷ filter (is_at turn between) recorded) (filter (is_at turn between) recorded)))
      by rest true = ap (λ l. map into one.edits ++ l) rest ∙ sym (map-append into one.edits (edits_at recorded turn between))
      by rest false = rest

  module _ (problem : Problem) (table : Table) (bound : List (ℕ × ℕ)) where
    sense-lifted : (outcome : Outcome) (old new : Running) → Happens leaves problem table bound old Sense outcome new
        → Happens leaves_edit problem table bound old Sense outcome new
    sense-lifted NoKernel old new is = is
    sense-lifted Goal old new is = is
    sense-lifted (Sensed i) old new is = is
    sense-lifted Disturbed old new is = absurd is
    sense-lifted NotSensed old new is = absurd is
    sense-lifted Slipped old new is = absurd is
    sense-lifted Acted old new is = absurd is

    ends-lifted : (between : List E) (sensed : Running) (outcome : Outcome) (turn : TurnValue) (new : Running)
        → EndsTurn leaves problem table bound between sensed outcome turn new
        → EndsTurn leaves_edit problem table bound (map into between) sensed outcome turn new
    ends-lifted between sensed NoKernel turn new is = is
    ends-lifted between sensed Goal turn new is = is
    ends-lifted between sensed (Sensed i) turn new (inl (told, acts)) =
        inl (
          told,
          subst (λ (r : Running). Happens leaves_edit problem table bound r Act Acted new)
              (sym (disturbed-lifted between sensed)) acts,
        )
    ends-lifted between sensed (Sensed i) turn new (inr (told, slips)) =
        inr (
          told,
          subst (λ (r : Running). Happens leaves_edit problem table bound r Act Slipped new)
              (sym (disturbed-lifted between sensed)) slips,
        )
    ends-lifted between sensed Disturbed turn new is = absurd is
    ends-lifted between sensed NotSensed turn new is = absurd is
    ends-lifted between sensed Slipped turn new is = absurd is
    ends-lifted between sensed Acted turn new is = absurd is

    turn-lifted : (before between : List E) (old : Running) (turn : TurnValue) (new : Running)
        → TakesTurn leaves problem table bound before between old turn new
        → TakesTurn leaves_edit problem table bound (map into before) (map into between) old turn new
    turn-lifted before between old turn new (outcome, (sensed, senses, ends)) = (
      outcome,
      (
        sensed,
        subst (λ (r : Running). Happens leaves_edit problem table bound r Sense outcome sensed) (sym (disturbed-lifted before old))
            (sense-lifted outcome (disturbed_by leaves before old) sensed senses),
        ends-lifted between sensed outcome turn new ends,
      ),
    )

    turns-lifted : (recorded : List (Recorded E)) (number : ℕ) (old : Running) (turns : List TurnValue) (new : Running)
        → TakesTurns leaves problem table bound recorded number old turns new
        → TakesTurns leaves_edit problem table bound (map (as_edits into) recorded) number old turns new
    turns-lifted recorded number old [] new is = absurd is
    turns-lifted recorded number old (turn
        ∷ turns) new (mid, takes, rest) = (mid, here, by (turns-lifted recorded (suc number) mid turns new) rest)
      where
        here : TakesTurn leaves_edit problem table bound (edits_at (map (as_edits into) recorded) number false)
            (edits_at (map (as_edits into) recorded) number true) old turn mid
        here =
            subst (λ (l : List Edit). TakesTurn leaves_edit problem table bound l
            (edits_at (map (as_edits into) recorded) number true) old turn mid) (sym (edits-lifted recorded number false))
            (subst (λ (l : List Edit). TakesTurn leaves_edit problem table bound (map into (edits_at recorded number false)) l old turn mid)
            (sym (edits-lifted recorded number true))
            (turn-lifted (edits_at recorded number false) (edits_at recorded number true) old turn mid takes))

        by : (TakesTurns leaves problem table bound recorded (suc number) mid turns new
            → TakesTurns leaves_edit problem table bound (map (as_edits into) recorded) (suc number) mid turns new)
            → ((IsLastTurn turn.end × (turns ≡ []) × (new ≡ mid)) ⊎ ((¬ IsLastTurn turn.end)
            × TakesTurns leaves problem table bound recorded (suc number) mid turns new))
            → (IsLastTurn turn.end × (turns ≡ []) × (new ≡ mid)) ⊎ ((¬ IsLastTurn turn.end)
            × TakesTurns leaves_edit problem table bound (map (as_edits into) recorded) (suc number) mid turns new)
        by lifts (inl last) = inl last
        by lifts (inr (goes_on, later)) = inr (goes_on, lifts later)

    pub run-lifted : (recorded : List (Recorded E)) (atoms : List Atom) (turns : List TurnValue) (after : List Atom)
        → RunsTable leaves problem table bound recorded atoms turns after
        → RunsTable leaves_edit problem table bound (map (as_edits into) recorded) atoms turns after
    run-lifted recorded atoms turns after (memory, takes) = (memory, turns-lifted recorded 1 _ turns _ takes)

pub one_kind_runs : OneKindRuns
one_kind_runs = record {
  of_atoms_alone = λ problem table bound recorded atoms turns after is. run-lifted edited of_atoms
      (λ edit atoms. refl) problem table bound recorded atoms turns after is;
  of_rooms_alone = λ problem table bound recorded atoms turns after is. run-lifted facts_edited of_rooms
      (λ edit atoms. refl) problem table bound recorded atoms turns after is;
}
