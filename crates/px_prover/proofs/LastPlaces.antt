-- Where no place is open besides the first, a fact or an ancestor leaves none open.
use Rattle.std.proofs.Common.{◌≡◌, ℕ, suc, ◌+◌, ◌-◌, ◌<◌, ◌≤◌, Bool, true, false, Option, Some, None, List, [], ◌∷◌, ◌++◌, length, slice_get, ap, sym, ◌∙◌, refl, inl, arith, length-append}
use Rattle.std.specs.Prelude.{MatchBool}
use Rattle.px_proof.specs.declared.shape.Tick.{Tick}
use Rattle.px_proof.specs.declared.shape.Tick.TheVariants.{Fact, Anc, Step, Gap, Open}
use Rattle.px_prover.proofs.Moves.{open-next, open-none, standing-sound}
use Rattle.px_prover.specs.Standing.{ticks_in, IsStanding}
use Rattle.px_question.specs.Settings.{Setting}
use Rattle.px_proof_state.specs.Arena.{goals_at, AreOlder}
use Rattle.px_proof_state.specs.States.{ProofStateValue}
use Rattle.px_proof_state.specs.declared.open.OpenGoal.{OpenGoal}
use Rattle.px_terms.specs.declared.atom.Atom.{Atom}
use Rattle.px_terms.specs.declared.clause.Lit.{Lit}
use Rattle.px_unify.specs.Changes.{variables_of}
use Rattle.px_proof_walk.specs.Order.{IsAfter}
use Rattle.px_proof_walk.specs.Pending.{Goal, Pending, open_after, goals_of, Closing, closing_at, fresh_of, by_fact, by_ancestor}
use Rattle.px_proof_walk.proofs.Lifting.{open_after-step}
use Rattle.px_proof_walk.specs.Possible.{IsGoingOn, left_of}

pub by-test : {P Q : Type 0} (b : Bool) → (b ≡ true → P) → (b ≡ false → Q) → MatchBool b P Q
by-test true yes' no' = yes' refl
by-test false yes' no' = no' refl

-- a goal that names no other is the only one
pub only-open : (arena : List OpenGoal) (at : ℕ) (g : OpenGoal) → AreOlder arena → 0 < at → slice_get arena (at - 1) ≡ Some g
    → g.next ≡ 0 → length (goals_at arena at) ≤ 1
only-open arena at g older some is next =
    let here = open-next arena at g older some is in
    omega (arith, here.0, open-none arena g.next next)

abbrev parts_left : Option Closing → ℕ
parts_left None = 0
parts_left (Some closing) = length closing.parts

open-whole : (lit : Lit) (closing : Closing) → Some (record { equal_to = lit; parts = [] }) ≡ Some closing → length closing.parts ≡ 0
open-whole lit closing is = ap parts_left (sym is)

fact-whole : (o : Option Atom) (closing : Closing) → by_fact o ≡ Some closing → length closing.parts ≡ 0
fact-whole None closing is = absurd (cc)
fact-whole (Some atom) closing is = ap parts_left (sym is)

ancestor-whole : (o : Option Lit) (closing : Closing) → by_ancestor o ≡ Some closing → length closing.parts ≡ 0
ancestor-whole None closing is = absurd (cc)
ancestor-whole (Some above) closing is = ap parts_left (sym is)

module _ (loose : Bool) (s : Setting) where
  -- the tick opens no part
  abbrev IsWhole : Tick → Type 0
  IsWhole u = (n : ℕ) (g : Goal) (closing : Closing) → closing_at loose s n g u ≡ Some closing → length closing.parts ≡ 0

  -- then nothing stays open
  none-open : (ticks : List Tick) (u : Tick) → IsWhole u → (n : ℕ) (goals : List Goal) (p : Pending)
      → open_after loose s n goals ticks ≡ Some p → length p.goals ≤ 1 → left_of (open_after loose s n goals (ticks ++ u ∷ [])) ≡ 0
  none-open [] u whole n [] p now few = refl
  none-open [] u whole n (g ∷ goals) p now few = go (closing_at loose s n g u) refl
    where
      go : (o : Option Closing) → closing_at loose s n g u ≡ o → left_of (open_after loose s n (g ∷ goals) (u ∷ [])) ≡ 0
      go None is = rw is refl
      go (Some closing) is =
          let first : suc (length goals) ≡ length p.goals = ap left_of now in
          let parts = whole n g closing is in
          let same : left_of (open_after loose s n (g ∷ goals) (u ∷ [])) ≡ length (closing.parts ++ goals) =
          ap left_of (open_after-step loose s n g goals u [] closing is) in
          omega (arith, few, same, first, parts, length-append closing.parts goals)
  none-open (t ∷ ticks) u whole n [] p now few = absurd (cc)
  none-open (t ∷ ticks) u whole n (g ∷ goals) p now few =
      go (closing_at loose s n g t) refl (λ closing. none-open ticks u whole (n + fresh_of s t) (closing.parts ++ goals) p)
    where
      go : (o : Option Closing) → closing_at loose s n g t ≡ o
          → ((closing : Closing) → open_after loose s (n + fresh_of s t) (closing.parts ++ goals) ticks ≡ Some p
          → length p.goals ≤ 1
          → left_of (open_after loose s (n + fresh_of s t) (closing.parts ++ goals) (ticks ++ u ∷ [])) ≡ 0)
          → left_of (open_after loose s n (g ∷ goals) (t ∷ (ticks ++ u ∷ []))) ≡ 0
      go None is next = absurd (let none = rw is at now in cc)
      go (Some closing) is next =
          ap left_of (open_after-step loose s n g goals t (ticks ++ u ∷ []) closing is)
          ∙ next closing (sym (open_after-step loose s n g goals t ticks closing is) ∙ now) few

module _ (s : Setting) (formula : List Atom) (variable_count : ℕ) (v : ProofStateValue) (standing : IsStanding true s formula variable_count v)
    (few : length (goals_at v.goals v.first) ≤ 1) where
  stuck : (u : Tick) → IsWhole true s u → ¬ IsGoingOn true s formula variable_count (ticks_in v.choices ++ u ∷ [])
  stuck u whole going =
      let none =
      none-open true s (ticks_in v.choices) u whole variable_count (goals_of s formula)
      (record { variables = variables_of v.changes; goals = goals_at v.goals v.first })
      (standing-sound true s formula variable_count v standing).stands.pending few in
      omega (arith, none, going.1)

  -- so what goes on comes after the ancestors
  pub going-later : (most : ℕ) (u : Tick) → IsGoingOn true s formula variable_count (ticks_in v.choices ++ u ∷ []) → IsAfter (Some (Anc most)) u
  going-later most (Fact i) going = absurd (stuck (Fact i) (λ n g closing is. fact-whole (slice_get s.facts i) closing is) going)
  going-later most (Anc i) going = absurd (stuck (Anc i) (λ n g closing is. ancestor-whole (slice_get g.path i) closing is) going)
  going-later most (Step number place) going = inl (omega arith)
  going-later most Gap going = inl (omega arith)
  going-later most Open going = absurd (stuck Open (λ n g closing is. open-whole g.lit closing is) going)
