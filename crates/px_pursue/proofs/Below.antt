-- A run is disturbed by what is recorded for turns below its end alone.
use Rattle.std.specs.Prelude.{◌≡◌, ◌⊎◌, ◌<◌, ◌≤◌, ◌+◌, ◌==◌, ◌&&◌, ◌||◌, ℕ, Bool, true, false, cond, nat_le, nat_lt, List, [], ◌∷◌, ◌++◌, length, filter}
use Rattle.std.proofs.Common.{suc, refl, sym, ap, subst, inl, inr, arith}
use mathlib.Core.Bool.{beq}
use Rattle.std.proofs.lemmas.Bool.Decides.{nat_tests}
use Rattle.std.specs.List.{flat_map}
use Rattle.px_terms.specs.declared.atom.Atom.{Atom}
use Rattle.px_terms.specs.declared.problem.Problem.{Problem}
use Rattle.px_table.specs.declared.table.Table.{Table}
use Rattle.px_planex.specs.Execution.{Running}
use Rattle.px_planex.specs.Turns.{IsLastTurn, Recorded, TakesTurn, TakesTurns, TurnValue, edits_at, is_at}
use Rattle.px_planex.proofs.TurnBound.{count_after}
use Rattle.px_turns.specs.Vain.{count_from}

-- what is recorded for turns before that one
abbrev pub recorded_below : {E : Type 0} → ℕ → List (Recorded E) → List (Recorded E)
recorded_below {E} number recorded = filter (λ (one : Recorded E). nat_lt one.turn number) recorded

-- ---- edits

not-there : (turn k number : ℕ) (b : Bool) → k < number → nat_lt turn number ≡ false → (turn == k) && b ≡ false
not-there turn k number true below later = grind (arith, nat_tests)
not-there turn k number false below later = grind (arith, nat_tests)

module _ {E : Type 0} where
  abbrev edits_of : List (Recorded E) → List E
  edits_of recorded = flat_map (λ (r : Recorded E). r.edits) recorded

  first-of : (here : Bool) (one : Recorded E) (more fewer : List (Recorded E)) → edits_of more ≡ edits_of fewer
      → edits_of (cond here (one ∷ more) more) ≡ edits_of (cond here (one ∷ fewer) fewer)
  first-of true one more fewer same = ap (λ (es : List E). one.edits ++ es) same
  first-of false one more fewer same = same

  -- the edits of an earlier turn are among those that are recorded below
  pub edits-below : (number k : ℕ) (between : Bool) (recorded : List (Recorded E)) → k < number
      → edits_at recorded k between ≡ edits_at (recorded_below number recorded) k between
  edits-below number k between [] below = refl
  edits-below number k between (one ∷ recorded) below =
      by (nat_lt one.turn number) refl (edits-below number k between recorded below)
    where
      by : (b : Bool) → nat_lt one.turn number ≡ b
          → edits_at recorded k between ≡ edits_at (recorded_below number recorded) k between
          → edits_at (one ∷ recorded) k between
          ≡ edits_at (cond b (one ∷ recorded_below number recorded) (recorded_below number recorded)) k between
      by true test same = first-of (is_at k between one) one (filter (is_at k between) recorded)
          (filter (is_at k between) (recorded_below number recorded)) same
      by false test same =
          subst (λ b. edits_of (cond b (one ∷ filter (is_at k between) recorded) (filter (is_at k between) recorded))
          ≡ edits_at (recorded_below number recorded) k between)
          (sym (not-there one.turn k number (beq one.between between) below test)) same

-- ---- turns

module _ {E : Type 0} (leaves : E → List Atom → List Atom) (p : Problem) (t : Table) (bound : List (ℕ × ℕ)) (recorded : List (Recorded E))
    (end : ℕ) where
  pub turns-below : (turns : List TurnValue) (number : ℕ) (old new : Running) → number + length turns ≤ end
      → TakesTurns leaves p t bound recorded number old turns new
      → TakesTurns leaves p t bound (recorded_below end recorded) number old turns new
  turns-below [] number old new below takes = takes
  turns-below (turn ∷ turns) number old new below (mid, takes, goes) = (
    mid,
    subst (λ (es : List E). TakesTurn leaves p t bound es (edits_at (recorded_below end recorded) number true) old turn mid)
        (edits-below end number false recorded (omega (arith, below)))
        (subst (λ (es : List E). TakesTurn leaves p t bound (edits_at recorded number false) es old turn mid)
        (edits-below end number true recorded (omega (arith, below))) takes),
    after goes (λ more. turns-below turns (suc number) mid new (omega (arith, below)) more),
  )
    where
      after : ((IsLastTurn turn.end × (turns ≡ []) × (new ≡ mid))
          ⊎ ((¬ IsLastTurn turn.end) × TakesTurns leaves p t bound recorded (suc number) mid turns new))
          → (TakesTurns leaves p t bound recorded (suc number) mid turns new
          → TakesTurns leaves p t bound (recorded_below end recorded) (suc number) mid turns new)
          → (IsLastTurn turn.end × (turns ≡ []) × (new ≡ mid))
          ⊎ ((¬ IsLastTurn turn.end) × TakesTurns leaves p t bound (recorded_below end recorded) (suc number) mid turns new)
      after (inl last) more = inl last
      after (inr goes) more = inr (goes.0, more goes.1)

-- ---- counts

-- one entry, by its turn and point
counted-one : (number end turn : ℕ) (b : Bool) → number ≤ end
    → cond (nat_lt turn end) (cond (nat_lt number turn || ((turn == number) && b)) 1 0) 0 + cond (nat_le end turn) 1 0
    ≤ cond (nat_le number turn) 1 0
counted-one number end turn true less = grind (arith, nat_tests)
counted-one number end turn false less = grind (arith, nat_tests)

module _ {E : Type 0} where
  first-count : (here : Bool) (number : ℕ) (one : Recorded E) (rest : List (Recorded E))
      → count_after number (cond here (one ∷ rest) rest)
      ≡ cond here (cond (nat_lt number one.turn || ((one.turn == number) && one.between)) 1 0) 0 + count_after number rest
  first-count true number one rest = refl
  first-count false number one rest = omega arith

  -- what is recorded from that turn on and below the end, and what is recorded from the end on
  pub counts-below : (number end : ℕ) (recorded : List (Recorded E)) → number ≤ end
      → count_after number (recorded_below end recorded) + count_from end recorded ≤ count_from number recorded
  counts-below number end [] less = omega arith
  counts-below number end (one ∷ recorded) less =
      let rest = counts-below number end recorded less in
      let here = counted-one number end one.turn one.between less in
      let first = first-count (nat_lt one.turn end) number one (recorded_below end recorded) in
      omega (arith, rest, here, first)
