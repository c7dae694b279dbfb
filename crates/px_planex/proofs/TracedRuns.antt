-- A run is a trace of its events.
use Rattle.std.specs.Prelude.{◌≡◌, ◌⊎◌, ℕ, true, false, List, [], ◌∷◌, ◌++◌}
use Rattle.std.proofs.Common.{suc, refl, sym, subst, inl, inr}
use Rattle.px_terms.specs.declared.atom.Atom.{Atom}
use Rattle.px_terms.specs.declared.problem.Problem.{Problem}
use Rattle.px_table.specs.declared.table.Table.{Table}
use Rattle.px_planex.specs.declared.event.Event.{Event}
use Rattle.px_planex.specs.declared.event.Event.TheVariants.{Sense}
use Rattle.px_planex.specs.declared.event.Outcome.{Outcome}
use Rattle.px_planex.specs.declared.event.Outcome.TheVariants.{Disturbed, Sensed, Acted, Slipped, Goal, NoKernel, NotSensed}
use Rattle.px_planex.specs.Execution.{Happens, Running, Traces}
use Rattle.px_planex.specs.RunTraces.{RunsAreTraces, all_disturbed, disturbing, run_events, run_outcomes, turn_events, turn_outcomes}
use Rattle.px_planex.specs.Turns.{EndsTurn, IsLastTurn, Recorded, TakesTurns, TurnValue, disturbed_by, edits_at}

module _ {E : Type 0} (leaves : E → List Atom → List Atom) (problem : Problem) (table : Table) (bound : List (ℕ × ℕ)) where
  abbrev Traced : Running → List (Event E) → List Outcome → Running → Type 0
  Traced = Traces leaves problem table bound

  traced-append : (old mid new : Running) (events more : List (Event E)) (outcomes others : List Outcome) → Traced old events outcomes mid
      → Traced mid more others new
      → Traced old (events ++ more) (outcomes ++ others) new
  traced-append old mid new [] more [] others first rest = subst (λ (r : Running). Traced r more others new) first rest
  traced-append old mid new [] more (o ∷ os) others first rest = absurd first
  traced-append old mid new (e ∷ es) more [] others first rest = absurd first
  traced-append old mid new (e ∷ es) more (o ∷ os) others first rest =
      (first.0, first.1, traced-append first.0 mid new es more os others first.2 rest)

  edits_traced : (edits : List E) (old : Running) → Traced old (disturbing edits) (all_disturbed edits) (disturbed_by leaves edits old)
  edits_traced [] old = refl
  edits_traced (edit ∷ edits) old =
      let mid : Running = record { atoms = leaves edit old.atoms; memory = old.memory } in (mid, refl, edits_traced edits mid)

  module _ (recorded : List (Recorded E)) where
    abbrev TurnTraced : ℕ → Running → TurnValue → Running → Type 0
    TurnTraced number old turn new =
        Traced old (turn_events recorded number turn.end) (turn_outcomes recorded number turn.kernel turn.end) new

    turn_traced : (number : ℕ) (old sensed new : Running) (turn : TurnValue) (outcome : Outcome)
        → Happens leaves problem table bound (disturbed_by leaves (edits_at recorded number false) old) Sense outcome sensed
        → EndsTurn leaves problem table bound (edits_at recorded number true) sensed outcome turn new → TurnTraced number old turn new
    turn_traced number old sensed new turn Disturbed sense ends = absurd ends
    turn_traced number old sensed new turn Acted sense ends = absurd ends
    turn_traced number old sensed new turn Slipped sense ends = absurd ends
    turn_traced number old sensed new turn NotSensed sense ends = absurd ends
    turn_traced number old sensed new turn NoKernel sense ends =
        subst (λ (t : TurnValue). TurnTraced number old t new) (sym ends.0)
        (traced-append old _ new _ _ _ _ (edits_traced (edits_at recorded number false) old) (sensed, sense, ends.1))
    turn_traced number old sensed new turn Goal sense ends =
        subst (λ (t : TurnValue). TurnTraced number old t new) (sym ends.0)
        (traced-append old _ new _ _ _ _ (edits_traced (edits_at recorded number false) old) (sensed, sense, ends.1))
    turn_traced number old sensed new turn (Sensed i) sense (inl ends) =
        subst (λ (t : TurnValue). TurnTraced number old t new) (sym ends.0)
        (traced-append old _ new _ _ _ _ (edits_traced (edits_at recorded number false) old)
        (sensed, sense, traced-append sensed _ new _ _ _ _ (edits_traced (edits_at recorded number true) sensed) (new, ends.1, refl)))
    turn_traced number old sensed new turn (Sensed i) sense (inr ends) =
        subst (λ (t : TurnValue). TurnTraced number old t new) (sym ends.0)
        (traced-append old _ new _ _ _ _ (edits_traced (edits_at recorded number false) old)
        (sensed, sense, traced-append sensed _ new _ _ _ _ (edits_traced (edits_at recorded number true) sensed) (new, ends.1, refl)))

    turns_traced : (turns : List TurnValue) (number : ℕ) (old new : Running)
        → TakesTurns leaves problem table bound recorded number old turns new
        → Traced old (run_events recorded number turns) (run_outcomes recorded number turns) new
    turns_traced [] number old new run = absurd run
    turns_traced (turn ∷ turns) number old new (mid, (outcome, (sensed, sense, ends)), goes) =
        traced-append old mid new _ _ _ _ (turn_traced number old sensed mid turn outcome sense ends)
        (after goes (λ more. turns_traced turns (suc number) mid new more))
      where
        after : ((IsLastTurn turn.end × (turns ≡ []) × (new ≡ mid))
            ⊎ ((¬ IsLastTurn turn.end) × TakesTurns leaves problem table bound recorded (suc number) mid turns new))
            → (TakesTurns leaves problem table bound recorded (suc number) mid turns new
            → Traced mid (run_events recorded (suc number) turns) (run_outcomes recorded (suc number) turns) new)
            → Traced mid (run_events recorded (suc number) turns) (run_outcomes recorded (suc number) turns) new
        after (inl last) rest =
            subst (λ (ts : List TurnValue). Traced mid (run_events recorded (suc number) ts) (run_outcomes recorded (suc number) ts) new)
            (sym last.1) last.2
        after (inr more) rest = rest more.1

pub runs_are_traces : {E : Type 0} (leaves : E → List Atom → List Atom) → RunsAreTraces leaves
runs_are_traces leaves problem table bound recorded atoms turns after run =
    (run.0, turns_traced leaves problem table bound recorded turns 1 _ _ run.1)
