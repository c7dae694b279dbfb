-- A run is determined.
use Rattle.std.specs.Prelude.{◌≡◌, ◌⊎◌, ℕ, true, false, List, [], ◌∷◌}
use Rattle.std.proofs.Common.{suc, sym, ap, ◌∙◌, subst, inl, inr}
use Rattle.px_terms.specs.declared.atom.Atom.{Atom}
use Rattle.px_terms.specs.declared.problem.Problem.{Problem}
use Rattle.px_table.specs.declared.table.Table.{Table}
use Rattle.px_planex.specs.declared.event.Event.TheVariants.{Sense, Act}
use Rattle.px_planex.specs.declared.event.Outcome.{Outcome}
use Rattle.px_planex.specs.declared.event.Outcome.TheVariants.{Disturbed, Sensed, Acted, Slipped, Goal, NoKernel, NotSensed}
use Rattle.px_planex.specs.Execution.{Running}
use Rattle.px_planex.specs.Turns.{EndsTurn, IsLastTurn, Recorded, RunsAreOne, TakesTurn, TakesTurns, TurnValue, disturbed_by, edits_at}
use Rattle.px_planex.proofs.OneTrace.{happens_once}

module _ {E : Type 0} (leaves : E → List Atom → List Atom) (problem : Problem) (table : Table) (bound : List (ℕ × ℕ)) where
  ends_once : (between : List E) (sensed new later : Running) (outcome : Outcome) (turn other : TurnValue)
      → EndsTurn leaves problem table bound between sensed outcome turn new
      → EndsTurn leaves problem table bound between sensed outcome other later → (turn ≡ other) × (new ≡ later)
  ends_once between sensed new later Disturbed turn other a b = absurd a
  ends_once between sensed new later Acted turn other a b = absurd a
  ends_once between sensed new later Slipped turn other a b = absurd a
  ends_once between sensed new later NotSensed turn other a b = absurd a
  ends_once between sensed new later NoKernel turn other a b = (a.0 ∙ sym b.0, a.1 ∙ sym b.1)
  ends_once between sensed new later Goal turn other a b = (a.0 ∙ sym b.0, a.1 ∙ sym b.1)
  ends_once between sensed new later (Sensed i) turn other (inl a) (inl b) =
      (a.0 ∙ sym b.0, (happens_once leaves problem table bound Act (disturbed_by leaves between sensed) new later Acted Acted a.1 b.1).1)
  ends_once between sensed new later (Sensed i) turn other (inr a) (inr b) = (
    a.0 ∙ sym b.0,
    (happens_once leaves problem table bound Act
        (disturbed_by leaves between sensed) new later Slipped Slipped a.1 b.1).1,
  )
  ends_once between sensed new later (Sensed i) turn other (inl a) (inr b) =
      let e =
      (happens_once leaves problem table bound Act (disturbed_by leaves between sensed) new later Acted Slipped a.1 b.1).0 in
      absurd (cc)
  ends_once between sensed new later (Sensed i) turn other (inr a) (inl b) =
      let e =
      (happens_once leaves problem table bound Act (disturbed_by leaves between sensed) new later Slipped Acted a.1 b.1).0 in
      absurd (cc)

  turn_once : (before between : List E) (old new later : Running) (turn other : TurnValue)
      → TakesTurn leaves problem table bound before between old turn new
      → TakesTurn leaves problem table bound before between old other later → (turn ≡ other) × (new ≡ later)
  turn_once before between old new later turn other (outcome, (sensed, sense, ends)) (answer, (found, told, ended)) =
      let same = happens_once leaves problem table bound Sense (disturbed_by leaves before old) sensed found outcome answer sense told in
      ends_once between sensed new later outcome turn other ends
      (subst (λ (r : Running). EndsTurn leaves problem table bound between r outcome other later) (sym same.1)
      (subst (λ (o : Outcome). EndsTurn leaves problem table bound between found o other later) (sym same.0) ended))

  module _ (recorded : List (Recorded E)) where
    -- the run ends with the turn, or goes on
    abbrev GoesOn : ℕ → TurnValue → List TurnValue → Running → Running → Type 0
    GoesOn number turn turns mid new =
        (IsLastTurn turn.end × (turns ≡ []) × (new ≡ mid))
        ⊎ ((¬ IsLastTurn turn.end) × TakesTurns leaves problem table bound recorded (suc number) mid turns new)

    pub turns_once : (turns others : List TurnValue) (number : ℕ) (old new later : Running)
        → TakesTurns leaves problem table bound recorded number old turns new
        → TakesTurns leaves problem table bound recorded number old others later → (turns ≡ others) × (new ≡ later)
    turns_once [] others number old new later run again = absurd run
    turns_once (t ∷ ts) [] number old new later run again = absurd again
    turns_once (t ∷ ts) (u ∷ us) number old new later (mid, takes, goes) (middle, taken, went) =
        let same = turn_once (edits_at recorded number false) (edits_at recorded number true) old mid middle t u takes taken in
        both same.0 goes
        (subst (λ (r : Running). GoesOn number u us r later) (sym same.1) went)
        (λ more again. turns_once ts us (suc number) mid new later more again)
      where
        both : t ≡ u → GoesOn number t ts mid new → GoesOn number u us mid later
            → (TakesTurns leaves problem table bound recorded (suc number) mid ts new
            → TakesTurns leaves problem table bound recorded (suc number) mid us later → (ts ≡ us) × (new ≡ later))
            → (t ∷ ts ≡ u ∷ us) × (new ≡ later)
        both turn (inl a) (inl b) go = ((λ i. turn i ∷ (a.1 ∙ sym b.1) i), a.2 ∙ sym b.2)
        both turn (inl a) (inr b) go = absurd (b.0 (subst (λ (x : TurnValue). IsLastTurn x.end) turn a.0))
        both turn (inr a) (inl b) go = absurd (a.0 (subst (λ (x : TurnValue). IsLastTurn x.end) (sym turn) b.0))
        both turn (inr a) (inr b) go = let rest = go a.1 b.1 in ((λ i. turn i ∷ rest.0 i), rest.1)

pub runs_are_one : {E : Type 0} (leaves : E → List Atom → List Atom) → RunsAreOne leaves
runs_are_one leaves problem table bound recorded atoms turns others after later run again =
    let one = turns_once leaves problem table bound recorded turns others 1 _ _ _ run.1 again.1 in
    (one.0, ap (λ (r : Running). r.atoms) one.1)
