-- Why kernels carry: by induction over the steps that are left, what each step and the later rows rest on holds when the
-- step is reached.
use Rattle.std.specs.Prelude.{◌≡◌, ◌⊎◌, ℕ, ◌<◌, ◌≤◌, Some, List, [], ◌∷◌, length, drop, slice_get, All, Contains}
use Rattle.std.proofs.Common.{zero, suc, refl, ap, subst, inl, inr, arith}
use Rattle.px_base.specs.ListLaws.{All-at}
use Rattle.px_terms.specs.declared.atom.Atom.{Atom}
use Rattle.px_terms.specs.declared.instance.OpInst.{OpInst}
use Rattle.px_terms.specs.declared.problem.Problem.{Problem}
use Rattle.px_terms.specs.Operators.{precondition, adds}
use Rattle.px_terms.specs.Plans.{IsRun, MeetsEach, GoalHolds, last_of}
use Rattle.px_terms.specs.States.{State, IsState, Holds, AxiomsHold, Described}
use Rattle.px_terms.specs.Validity.{IsAtomOf}
use Rattle.px_table.specs.declared.mark.Mark.{Mark}
use Rattle.px_table.specs.Marks.{IsNamed, IsKept, step_at}

below_or_at : (a b : ℕ) → a < suc b → (a < b) ⊎ (a ≡ b)
below_or_at a b h = grind arith

-- where the list from a place on begins with an item, the item stands at that place
pub first_of_rest : {A : Type 0} (k : ℕ) (xs : List A) (y : A) (ys : List A) → drop k xs ≡ y ∷ ys → (slice_get xs k ≡ Some y)
    × (drop (suc k) xs ≡ ys)
first_of_rest zero [] y ys e = absurd (cc)
first_of_rest zero (x ∷ xs) y ys e = (cc, cc)
first_of_rest (suc k) [] y ys e = absurd (cc)
first_of_rest (suc k) (x ∷ xs) y ys e = first_of_rest k xs y ys e

no_rest : {A : Type 0} (k : ℕ) (xs : List A) → k ≤ length xs → drop k xs ≡ [] → k ≡ length xs
no_rest zero [] h e = refl
no_rest zero (x ∷ xs) h e = absurd (cc)
no_rest (suc k) [] h e = omega arith
no_rest (suc k) (x ∷ xs) h e = ap suc (no_rest k xs (omega arith) e)

within_rest : {A : Type 0} (k : ℕ) (xs : List A) (y : A) (ys : List A) → k ≤ length xs → drop k xs ≡ y ∷ ys → suc k ≤ length xs
within_rest zero [] y ys h e = absurd (cc)
within_rest zero (x ∷ xs) y ys h e = omega arith
within_rest (suc k) [] y ys h e = absurd (cc)
within_rest (suc k) (x ∷ xs) y ys h e = let r = within_rest k xs y ys (omega arith) e in omega arith

pub contains_at : {A : Type 0} (xs : List A) (k : ℕ) (x : A) → slice_get xs k ≡ Some x → Contains xs x
contains_at [] k x e = absurd (cc)
contains_at (y ∷ xs) zero x e = (0, omega arith, cc)
contains_at (y ∷ xs) (suc k) x e = let r = contains_at xs k x e in (suc r.0, omega (arith, r.1), r.2)

-- the marks of the row of that number hold in the state
abbrev pub RowHolds : List Mark → State → ℕ → Type 0
RowHolds marks state row = (mark : Mark) → Contains marks mark → mark.row ≡ row → Holds state mark.atom

-- what step `i` and the later rows rest on, and what stands before step `i`, holds in the state
abbrev pub KernelHolds : List Mark → State → ℕ → Type 0
KernelHolds marks state i = (mark : Mark) → Contains marks mark → i ≤ mark.row → mark.column < i → Holds state mark.atom

-- Steps with marks: each is an atom of the problem and names where it comes from; each step's precondition holds where its
-- row's marks do, and the goal where those of the last row do.
pub record IsCarried (problem : Problem) (steps : List OpInst) (variable_count : ℕ) (goal : List Atom) (marks : List Mark) : Type 0 where
  pub named : All (IsNamed problem steps) marks
  pub atoms : All (λ mark. IsAtomOf problem 0 mark.atom) marks
  pub rows : (row : ℕ) (inst : OpInst) (state : State) → step_at steps row ≡ Some inst → IsState state → AxiomsHold problem state
      → RowHolds marks state row → All (Holds state) (precondition problem inst)
  pub last : (state : State) → IsState state → AxiomsHold problem state → RowHolds marks state (suc (length steps))
      → GoalHolds state variable_count goal

module _ (problem : Problem) (steps : List OpInst) (variable_count : ℕ) (goal : List Atom) (marks : List Mark)
    (carried : IsCarried problem steps variable_count goal marks) where
  kernel-row : (state : State) (i : ℕ) → KernelHolds marks state i → RowHolds marks state i
  kernel-row state i kernel mark has row =
      let named = All-at (IsNamed problem steps) marks mark carried.named has in
      kernel mark has (omega arith) (omega (arith, named.earlier))

  -- no step from `i` on deletes what a later step rests on
  abbrev KeptFrom : ℕ → Type 0
  KeptFrom i = (mark : Mark) → Contains marks mark → IsKept problem steps i mark

  -- where kernel k + 1 holds before step k + 1, the next one holds after it
  kernel-next : (k : ℕ) (inst : OpInst) (before after : State) → step_at steps (suc k) ≡ Some inst → IsState before
      → AxiomsHold problem before → Described problem inst before after
      → KeptFrom (suc k) → KernelHolds marks before (suc k) → KernelHolds marks after (suc (suc k))
  kernel-next k inst before after at is axioms described kept kernel mark has row column =
      let named = All-at (IsNamed problem steps) marks mark carried.named has in
      let met = carried.rows (suc k) inst before at is axioms (kernel-row before (suc k) kernel) in
      elim (below_or_at mark.column (suc k) column) [
        | inl earlier ↦ described.kept met mark.atom (All-at (λ (m : Mark). IsAtomOf problem 0 m.atom) marks mark carried.atoms has)
            (kernel mark has (omega arith) earlier)
            (kept mark has (suc k) inst (omega arith) earlier row at)
        | inr here ↦
            let add = named.added (omega arith) in
            let same : add.0 ≡ inst = let e = ap (step_at steps) here in cc (e, add.1, at) in
            let has_add : slice_get (adds problem inst) mark.index ≡ Some mark.atom =
            subst (λ (x : OpInst). slice_get (adds problem x) mark.index ≡ Some mark.atom) same add.2 in
            All-at (Holds after) (adds problem inst) mark.atom (described.added met)
            (contains_at (adds problem inst) mark.index mark.atom has_add)
      ]

  pub carry_meets : (rest : List OpInst) (later : List State) (k : ℕ) (state : State) → drop k steps ≡ rest
      → KernelHolds marks state (suc k) → KeptFrom (suc k)
      → IsRun problem (state ∷ later) rest → MeetsEach problem (state ∷ later) rest
  carry_meets [] [] k state e kernel kept run = tt
  carry_meets [] (next ∷ later) k state e kernel kept run = tt
  carry_meets (inst ∷ rest) [] k state e kernel kept run =
      (carried.rows (suc k) inst state (first_of_rest k steps inst rest e).0 run.0 run.1 (kernel-row state (suc k) kernel), tt)
  carry_meets (inst ∷ rest) (next ∷ later) k state e kernel kept run =
      let first = first_of_rest k steps inst rest e in (
        carried.rows (suc k) inst state first.0 run.0.0 run.0.1 (kernel-row state (suc k) kernel),
        carry_meets rest later (suc k) next first.1 (kernel-next k inst state next first.0 run.0.0 run.0.1 run.1 kept kernel)
            (λ mark has j q low. kept mark has j q (omega arith)) run.2,
      )

  pub carry_ends : (rest : List OpInst) (later : List State) (k : ℕ) (state : State) → k ≤ length steps → drop k steps ≡ rest
      → KernelHolds marks state (suc k) → KeptFrom (suc k)
      → IsRun problem (state ∷ later) rest → length later ≡ length rest → GoalHolds (last_of state later) variable_count goal
  carry_ends [] [] k state within e kernel kept run long =
      carried.last state run.0 run.1 (kernel-row state (suc (length steps)) (rw (← no_rest k steps within e) kernel))
  carry_ends [] (next ∷ later) k state within e kernel kept run long = absurd (omega arith)
  carry_ends (inst ∷ rest) [] k state within e kernel kept run long = absurd (omega arith)
  carry_ends (inst ∷ rest) (next ∷ later) k state within e kernel kept run long =
      let first = first_of_rest k steps inst rest e in
      carry_ends rest later (suc k) next (within_rest k steps inst rest within e) first.1
      (kernel-next k inst state next first.0 run.0.0 run.0.1 run.1 kept kernel)
      (λ mark has j q low. kept mark has j q (omega arith)) run.2 (omega arith)
