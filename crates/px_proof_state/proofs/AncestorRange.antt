-- Attempts at the literals above a goal, from the nearest up.
use Rattle.std.proofs.Common.{◌≡◌, ℕ, zero, suc, ◌+◌, ◌-◌, ◌<◌, ◌≤◌, Bool, true, false, Some, List, [], ◌∷◌, length, drop, slice_get, refl, ap, sym, ◌∙◌, arith}
use Rattle.std.specs.Prelude.{All}
use Rattle.px_base.specs.Answers.{some_same}
use Rattle.px_proof.specs.PlaceLaws.{All-got, slice_get-within}
use Rattle.px_terms.specs.declared.clause.Lit.{Lit}
use Rattle.px_proof_state.specs.declared.open.OpenGoal.{OpenGoal}
use Rattle.px_proof_state.specs.Arena.{path_at}
use Rattle.px_proof_state.specs.States.{ProofStateValue}
use Rattle.px_proof_state.specs.Ranges.{TriesRange}
use Rattle.px_proof_state.specs.Ancestors.{TriesAncestor, NeverAncestor, ComesAncestor}
use Rattle.px_proof_state.proofs.Hanging.{path_at-index, path_at-nothing}
use Rattle.px_proof_state.proofs.Trying.{never-next, range-found, range-none}

drop-first : {X : Type 0} (xs : List X) (k : ℕ) (x : X) (ys : List X) → drop k xs ≡ x ∷ ys
    → (slice_get xs k ≡ Some x) × (drop (suc k) xs ≡ ys)
drop-first [] zero x ys e = absurd (cc)
drop-first [] (suc k) x ys e = absurd (cc)
drop-first (z ∷ xs) zero x ys e = let a : z ≡ x = cc in let b : xs ≡ ys = cc in (ap (λ y. Some y) a, b)
drop-first (z ∷ xs) (suc k) x ys e = drop-first xs k x ys e

drop-end : {X : Type 0} (xs : List X) (k : ℕ) → drop k xs ≡ [] → length xs ≤ k
drop-end [] k e = omega arith
drop-end (x ∷ xs) zero e = absurd (cc)
drop-end (x ∷ xs) (suc k) e = omega (arith, drop-end xs k e)

-- where the walk up stands, and that nothing came before
pub record IsOnTheWayUp (old : ProofStateValue) (goal : OpenGoal) (from : ℕ) (now : ProofStateValue) (at number : ℕ) : Type 0 where
  pub same : now ≡ old
  pub within : at ≤ length old.goals
  pub short : number + at ≤ length old.goals
  pub path : drop number (path_at old.goals goal.above) ≡ path_at old.goals at
  pub never : (j : ℕ) → from ≤ j → j < number → NeverAncestor (path_at old.goals goal.above) old goal j

pub way-end : (old : ProofStateValue) (goal : OpenGoal) (from : ℕ) (now : ProofStateValue) (at number : ℕ)
    → IsOnTheWayUp old goal from now at number → at ≡ 0
    → TriesRange (NeverAncestor (path_at old.goals goal.above) old goal) (ComesAncestor (path_at old.goals goal.above) old goal) from
    (length (path_at old.goals goal.above)) old now false
way-end old goal from now at number way none =
    range-none (NeverAncestor (path_at old.goals goal.above) old goal) (ComesAncestor (path_at old.goals goal.above) old goal) from
    (length (path_at old.goals goal.above)) number old now way.same way.never
    (drop-end (path_at old.goals goal.above) number (way.path ∙ ap (path_at old.goals) none ∙ path_at-nothing old.goals))

-- the literal that is reached is one of the path
module _ (old : ProofStateValue) (goal : OpenGoal) (from : ℕ) (now : ProofStateValue) (at number : ℕ)
    (way : IsOnTheWayUp old goal from now at number) (g : OpenGoal) (some : 0 < at)
    (is : slice_get now.goals (at - 1) ≡ Some g) (older : g.above ≤ at - 1) where
  abbrev whole : List Lit
  whole = path_at old.goals goal.above

  here : (slice_get whole number ≡ Some g.lit) × (drop (suc number) whole ≡ path_at old.goals g.above)
  here =
      let place : at ≡ suc (at - 1) = omega (arith, some) in
      drop-first whole number g.lit (path_at old.goals g.above)
      (way.path ∙ ap (path_at old.goals) place ∙ path_at-index old.goals (at - 1) g (rw way.same at is) older)

  pub way-within : number < length whole
  way-within = slice_get-within whole number g.lit here.0

  pub way-in : (P : Lit → Type 0) → All P whole → P g.lit
  way-in P all = All-got P whole number g.lit all here.0

  module _ (new : ProofStateValue) (found : Bool) (tried : TriesAncestor now new number g.lit goal from found) where
    pub way-found : found ≡ true → TriesRange (NeverAncestor whole old goal) (ComesAncestor whole old goal) from (length whole) old new true
    way-found is_found =
        let comes = rw way.same at (tried.comes is_found) in
        range-found (NeverAncestor whole old goal) (ComesAncestor whole old goal) from (length whole) old new number comes.0 way-within
        (g.lit, here.0, comes.1) way.never

    pub way-next : found ≡ false → (next : ℕ) → next ≡ suc number → IsOnTheWayUp old goal from new g.above next
    way-next is_not next next_is =
        let none = rw way.same at (tried.never is_not) in
        record {
          same = none.0;
          within = omega (arith, older, way.within);
          short = omega (arith, older, way.short, next_is, some);
          path = rw next_is here.1;
          never = λ j after before. by_case j after (rw next_is at before);
        }
      where
        by_case : (j : ℕ) → from ≤ j → j < suc number → NeverAncestor whole old goal j
        by_case j after before above above_is =
            never-next (λ k. from ≤ k → NeverAncestor whole old goal k) from number
            (λ k after_k before_k reached. way.never k after_k before_k)
            (λ reached other other_is. let e : g.lit ≡ other = some_same (sym here.0 ∙ other_is) in
            rw e at ((rw way.same at (tried.never is_not)).1 reached)) j after before after above above_is
