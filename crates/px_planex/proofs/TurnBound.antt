-- A run has at most (D + 1) * (n + 1) turns: between disturbances each turn's kernel is greater than the one before.
use Rattle.std.specs.Prelude.{◌≡◌, ◌⊎◌, ◌<◌, ◌≤◌, ◌+◌, ◌-◌, ◌*◌, ◌==◌, ◌&&◌, ◌||◌, ℕ, Bool, true, false, cond, nat_lt, Option, Some, None, List, [], ◌∷◌, length, filter}
use Rattle.std.proofs.Common.{suc, refl, sym, ap, subst, inl, inr, arith}
use mathlib.Core.Bool.{beq}
use Rattle.std.proofs.lemmas.Bool.Decides.{nat_tests}
use Rattle.std.proofs.lemmas.List.{length-map}
use Rattle.std.proofs.Math.Nat.{mul-le-mul_left}
use Rattle.std.specs.List.{flat_map}
use Rattle.px_terms.specs.declared.atom.Atom.{Atom}
use Rattle.px_terms.specs.declared.instance.OpInst.{OpInst}
use Rattle.px_terms.specs.declared.problem.Problem.{Problem}
use Rattle.px_terms.specs.Validity.{IsValid}
use Rattle.px_table.specs.declared.table.Table.{Table}
use Rattle.px_table.specs.Kernels.{instance_under, steps_under}
use Rattle.px_table.specs.Marks.{step_at}
use Rattle.px_table.specs.Tables.{IsTable}
use Rattle.px_match.specs.Matching.{IsSensed, KernelFits, KernelInstance}
use Rattle.px_match.proofs.Proper.{last_step}
use Rattle.px_planex.specs.Turns.{IsLastTurn, Recorded, TurnValue, TurnsAreFew, after_edits, edits_at, is_at}
use Rattle.px_planex.proofs.InAtoms.{RunInAtoms, TurnInAtoms, run_in_atoms}
use Rattle.px_planex.proofs.Progressing.{next_kernel_fits, row_of_kernel_holds}

-- the tests of one entry, by its turn and point
abbrev after_test : ℕ → ℕ → Bool → Bool
after_test number turn between = nat_lt number turn || ((turn == number) && between)

later_test : (number turn : ℕ) (b : Bool) → after_test (suc number) turn b ≡ true → after_test number turn b ≡ true
later_test number turn true e = grind (arith, nat_tests)
later_test number turn false e = grind (arith, nat_tests)

before_test : (number turn : ℕ) (b : Bool) → (turn == suc number) && beq b false ≡ true
    → (after_test number turn b ≡ true) × (after_test (suc number) turn b ≡ false)
before_test number turn true e = (grind (arith, nat_tests), grind (arith, nat_tests))
before_test number turn false e = (grind (arith, nat_tests), grind (arith, nat_tests))

between_test : (number turn : ℕ) (b : Bool) → (turn == number) && beq b true ≡ true
    → (after_test number turn b ≡ true) × (after_test (suc number) turn b ≡ false)
between_test number turn true e = (grind (arith, nat_tests), grind (arith, nat_tests))
between_test number turn false e = (grind (arith, nat_tests), grind (arith, nat_tests))

-- how the count of later entries changes by one entry
count_step : (a b : Bool) (m n : ℕ) → (a ≡ true → b ≡ true) → m ≤ n → cond a 1 0 + m ≤ cond b 1 0 + n
count_step true true m n h g = omega arith
count_step true false m n h g = absurd (let e : false ≡ true = h refl in cc)
count_step false true m n h g = omega arith
count_step false false m n h g = omega arith

count_less : (a b : Bool) (m n : ℕ) → (a ≡ true → b ≡ true) → m < n → cond a 1 0 + m < cond b 1 0 + n
count_less true true m n h g = omega arith
count_less true false m n h g = absurd (let e : false ≡ true = h refl in cc)
count_less false true m n h g = omega arith
count_less false false m n h g = omega arith

count_used : (a b : Bool) (m n : ℕ) → (b ≡ true) × (a ≡ false) → m ≤ n → cond a 1 0 + m < cond b 1 0 + n
count_used true b m n h g = absurd (cc)
count_used false true m n h g = omega arith
count_used false false m n h g = absurd (cc)

module _ {E : Type 0} where
  abbrev pub count_after : ℕ → List (Recorded E) → ℕ
  count_after number [] = 0
  count_after number (r ∷ rs) = cond (after_test number r.turn r.between) 1 0 + count_after number rs

  pub count-all : (number : ℕ) (rs : List (Recorded E)) → count_after number rs ≤ length rs
  count-all number [] = omega arith
  count-all number (r ∷ rs) = by (after_test number r.turn r.between) (count-all number rs)
    where
      by : (b : Bool) → count_after number rs ≤ length rs → cond b 1 0 + count_after number rs ≤ suc (length rs)
      by true h = omega arith
      by false h = omega arith

  count_falls : (number : ℕ) (rs : List (Recorded E)) → count_after (suc number) rs ≤ count_after number rs
  count_falls number [] = omega arith
  count_falls number (r ∷ rs) =
      count_step (after_test (suc number) r.turn r.between) (after_test number r.turn r.between) _ _ (later_test number r.turn r.between)
      (count_falls number rs)

  -- an edit before the next sensing, or one between this sensing and the action, is one fewer that comes later
  edits_before : (number : ℕ) (rs : List (Recorded E))
      → (edits_at rs (suc number) false ≡ []) ⊎ (count_after (suc number) rs < count_after number rs)
  edits_before number [] = inl refl
  edits_before number (r ∷ rs) = by ((r.turn == suc number) && beq r.between false) refl (edits_before number rs)
    where
      by : (b : Bool) → (r.turn == suc number) && beq r.between false ≡ b
          → (edits_at rs (suc number) false ≡ []) ⊎ (count_after (suc number) rs < count_after number rs)
          → (flat_map (λ (r : Recorded E). r.edits)
          (cond b (r ∷ filter (is_at (suc number) false) rs) (filter (is_at (suc number) false) rs)) ≡ [])
          ⊎ (count_after (suc number) (r ∷ rs) < count_after number (r ∷ rs))
      by true e h =
          inr (count_used (after_test (suc number) r.turn r.between) (after_test number r.turn r.between) _ _
          (before_test number r.turn r.between e) (count_falls number rs))
      by false e (inl h) = inl h
      by false e (inr h) =
          inr (count_less (after_test (suc number) r.turn r.between) (after_test number r.turn r.between) _ _
          (later_test number r.turn r.between) h)

  edits_between : (number : ℕ) (rs : List (Recorded E))
      → (edits_at rs number true ≡ []) ⊎ (count_after (suc number) rs < count_after number rs)
  edits_between number [] = inl refl
  edits_between number (r ∷ rs) = by ((r.turn == number) && beq r.between true) refl (edits_between number rs)
    where
      by : (b : Bool) → (r.turn == number) && beq r.between true ≡ b
          → (edits_at rs number true ≡ []) ⊎ (count_after (suc number) rs < count_after number rs)
          → (flat_map (λ (r : Recorded E). r.edits) (cond b (r ∷ filter (is_at number true) rs) (filter (is_at number true) rs)) ≡ [])
          ⊎ (count_after (suc number) (r ∷ rs) < count_after number (r ∷ rs))
      by true e h =
          inr (count_used (after_test (suc number) r.turn r.between) (after_test number r.turn r.between) _ _
          (between_test number r.turn r.between e) (count_falls number rs))
      by false e (inl h) = inl h
      by false e (inr h) =
          inr (count_less (after_test (suc number) r.turn r.between) (after_test number r.turn r.between) _ _
          (later_test number r.turn r.between) h)

module _ (p : Problem) (valid : IsValid p) (t : Table) (table : IsTable p t) (binding : List (ℕ × ℕ)) {E : Type 0}
    (leaves : E → List Atom → List Atom) (recorded : List (Recorded E)) where
  abbrev n : ℕ
  n = length t.steps

  -- the most turns that are left at a sensing that finds this
  abbrev turns_left : Option KernelInstance → ℕ → ℕ
  turns_left None number = 1
  turns_left (Some kernel) number = (n + 2 - kernel.number) + (n + 1) * count_after number recorded

  pub turns_left-any : (answer : Option KernelInstance) (number : ℕ) (atoms : List Atom) → IsSensed p t binding atoms answer
      → turns_left answer number ≤ (n + 1) + (n + 1) * count_after number recorded
  turns_left-any None number atoms senses = omega arith
  turns_left-any (Some kernel) number atoms senses = omega (arith, senses.fits.from_one)

  -- what the turns after this one are at most, where they are bounded
  abbrev RestBounded : ℕ → List TurnValue → List Atom → Type 0
  RestBounded number turns after = (mid : List Atom) (rest : RunInAtoms leaves p t binding recorded number mid turns after)
      → (answer : Option KernelInstance) × IsSensed p t binding (after_edits leaves (edits_at recorded number false) mid) answer
      × (length turns ≤ turns_left answer number)

  -- a disturbance came in between
  disturbed : (kernel : ℕ) (number : ℕ) (turns : List TurnValue) (after mid : List Atom) → kernel ≤ n + 1
      → count_after (suc number) recorded < count_after number recorded
      → RestBounded (suc number) turns after → RunInAtoms leaves p t binding recorded (suc number) mid turns after
      → suc (length turns) ≤ (n + 2 - kernel) + (n + 1) * count_after number recorded
  disturbed kernel number turns after mid within less bound rest =
      let b = bound mid rest in
      let any = turns_left-any b.0 (suc number) _ b.1 in
      let product : (n + 1) * (count_after (suc number) recorded + 1) ≤ (n + 1) * count_after number recorded =
      mul-le-mul_left (n + 1) (omega (arith, less)) in
      omega (arith, b.2, any, product)

  undisturbed : (kernel : KernelInstance) (number : ℕ) (turn : TurnValue) (turns : List TurnValue) (atoms mid after : List Atom)
      → KernelFits p t binding atoms kernel.number kernel.objects
      → (¬ IsLastTurn turn.end) → TurnInAtoms p t (Some kernel) atoms atoms turn mid → RestBounded (suc number) turns after
      → RunInAtoms leaves p t binding recorded (suc number) mid turns after
      → suc (length turns) ≤ (n + 2 - kernel.number) + (n + 1) * count_after number recorded
  undisturbed kernel number turn turns atoms mid after fits not_last (inl goal) bound rest =
      absurd (not_last (subst IsLastTurn (sym goal.1) tt))
  undisturbed kernel number turn turns atoms mid after fits not_last (inr (inl fails)) bound rest =
      absurd (fails.3 (row_of_kernel_holds p valid t table binding atoms kernel fits fails.0 fails.1 fails.2))
  undisturbed kernel number turn turns atoms mid after fits not_last (inr (inr taken)) bound rest =
      let within : kernel.number ≤ n =
      omega (
        arith,
        last_step (steps_under t kernel.objects) kernel.number taken.0 taken.1,
        length-map t.steps (instance_under kernel.objects),
      ) in
      let next : KernelFits p t binding mid (suc kernel.number) kernel.objects =
      subst (λ (x : List Atom). KernelFits p t binding x (suc kernel.number) kernel.objects) (sym taken.2)
      (next_kernel_fits p valid t table binding atoms kernel.number kernel.objects taken.0 fits within taken.1) in
      elim (edits_before number recorded) [
        | inr less ↦ disturbed kernel.number number turns after mid (omega arith) less bound rest
        | inl none ↦
            let b = bound mid rest in
            let senses : IsSensed p t binding mid b.0 =
            subst (λ (xs : List E). IsSensed p t binding (after_edits leaves xs mid) b.0) none b.1 in
            greater kernel number turns mid within next b.0 senses b.2
      ]
    where
      greater : (kernel : KernelInstance) (number : ℕ) (turns : List TurnValue) (mid : List Atom) → kernel.number ≤ n
          → KernelFits p t binding mid (suc kernel.number) kernel.objects → (answer : Option KernelInstance)
          → IsSensed p t binding mid answer → length turns ≤ turns_left answer (suc number)
          → suc (length turns) ≤ (n + 2 - kernel.number) + (n + 1) * count_after number recorded
      greater kernel number turns mid within next None senses left = absurd (senses (suc kernel.number) kernel.objects next)
      greater kernel number turns mid within next (Some higher) senses left =
          let product : (n + 1) * count_after (suc number) recorded ≤ (n + 1) * count_after number recorded =
          mul-le-mul_left (n + 1) (count_falls number recorded) in
          omega (arith, left, product, senses.highest (suc kernel.number) kernel.objects next)

  pub bounded : (turns : List TurnValue) (number : ℕ) (after : List Atom) → RestBounded number turns after
  bounded [] number after atoms run = absurd run
  bounded (turn ∷ turns) number after atoms run =
      (run.0, run.1, by run.0 run.1 run.2.0 run.2.1 run.2.2 (bounded turns (suc number) after))
    where
      sensed : List Atom
      sensed = after_edits leaves (edits_at recorded number false) atoms

      by : (answer : Option KernelInstance) → IsSensed p t binding sensed answer → (mid : List Atom)
          → TurnInAtoms p t answer sensed (after_edits leaves (edits_at recorded number true) sensed) turn mid
          → ((IsLastTurn turn.end × (turns ≡ []) × (after ≡ mid))
          ⊎ ((¬ IsLastTurn turn.end) × RunInAtoms leaves p t binding recorded (suc number) mid turns after))
          → RestBounded (suc number) turns after → suc (length turns) ≤ turns_left answer number
      by None senses mid takes (inl last) bound = omega (arith, ap length last.1)
      by None senses mid takes (inr more) bound = absurd (more.0 (subst IsLastTurn (sym takes.0) tt))
      by (Some kernel) senses mid takes (inl last) bound = omega (arith, ap length last.1, senses.fits.to_goal)
      by (Some kernel) senses mid takes (inr more) bound = elim (edits_between number recorded) [
        | inr less ↦ disturbed kernel.number number turns after mid senses.fits.to_goal less bound more.1
        | inl none ↦ undisturbed kernel number turn turns sensed mid after senses.fits more.0
            (subst (λ (xs : List E). TurnInAtoms p t (Some kernel) sensed (after_edits leaves xs sensed) turn mid) none takes) bound more.1
      ]

  -- a run with D recorded disturbances has at most (D + 1) * (n + 1) turns
  pub turns-bounded : (turns : List TurnValue) (atoms after : List Atom) → RunInAtoms leaves p t binding recorded 1 atoms turns after
      → length turns ≤ (length recorded + 1) * (n + 1)
  turns-bounded turns atoms after run =
      let b = bounded turns 1 after atoms run in
      let any = turns_left-any b.0 1 _ b.1 in
      let product : (n + 1) * count_after 1 recorded ≤ (n + 1) * length recorded = mul-le-mul_left (n + 1) (count-all 1 recorded) in
      omega (arith, b.2, any, product)

  -- ---- the same turn by turn, as the loop of a run needs it: what is left falls from each sensing to the next

  fall_disturbed : (kernel number : ℕ) (mid : List Atom) (next : Option KernelInstance) → kernel ≤ n + 1
      → count_after (suc number) recorded < count_after number recorded
      → IsSensed p t binding mid next → turns_left next (suc number) < (n + 2 - kernel) + (n + 1) * count_after number recorded
  fall_disturbed kernel number mid next within less senses =
      let any = turns_left-any next (suc number) mid senses in
      let product : (n + 1) * (count_after (suc number) recorded + 1) ≤ (n + 1) * count_after number recorded =
      mul-le-mul_left (n + 1) (omega (arith, less)) in
      omega (arith, any, product)

  pub turns-fall : (kernel : KernelInstance) (number : ℕ) (turn : TurnValue) (atoms mid : List Atom) (next : Option KernelInstance)
      → KernelFits p t binding atoms kernel.number kernel.objects → (¬ IsLastTurn turn.end)
      → TurnInAtoms p t (Some kernel) atoms (after_edits leaves (edits_at recorded number true) atoms) turn mid
      → IsSensed p t binding (after_edits leaves (edits_at recorded (suc number) false) mid) next
      → turns_left next (suc number) < turns_left (Some kernel) number
  turns-fall kernel number turn atoms mid next fits not_last takes senses = elim (edits_between number recorded) [
    | inr less ↦ fall_disturbed kernel.number number _ next fits.to_goal less senses
    | inl none ↦ quiet (subst (λ (xs : List E). TurnInAtoms p t (Some kernel) atoms (after_edits leaves xs atoms) turn mid) none takes)
  ]
    where
      higher : (o : OpInst) → step_at (steps_under t kernel.objects) kernel.number ≡ Some o
          → KernelFits p t binding mid (suc kernel.number) kernel.objects → (next : Option KernelInstance)
          → IsSensed p t binding mid next → turns_left next (suc number) < turns_left (Some kernel) number
      higher o at fits' None senses = absurd (senses (suc kernel.number) kernel.objects fits')
      higher o at fits' (Some found) senses =
          let within = last_step (steps_under t kernel.objects) kernel.number o at in
          let product : (n + 1) * count_after (suc number) recorded ≤ (n + 1) * count_after number recorded =
          mul-le-mul_left (n + 1) (count_falls number recorded) in
          omega (
            arith,
            product,
            senses.highest (suc kernel.number) kernel.objects fits',
            within,
            length-map t.steps (instance_under kernel.objects),
          )

      quiet : TurnInAtoms p t (Some kernel) atoms atoms turn mid → turns_left next (suc number) < turns_left (Some kernel) number
      quiet (inl goal) = absurd (not_last (subst IsLastTurn (sym goal.1) tt))
      quiet (inr (inl fails)) = absurd (fails.3 (row_of_kernel_holds p valid t table binding atoms kernel fits fails.0 fails.1 fails.2))
      quiet (inr (inr taken)) =
          let within : kernel.number ≤ n =
          omega (
            arith,
            last_step (steps_under t kernel.objects) kernel.number taken.0 taken.1,
            length-map t.steps (instance_under kernel.objects),
          ) in
          let fits' : KernelFits p t binding mid (suc kernel.number) kernel.objects =
          subst (λ (x : List Atom). KernelFits p t binding x (suc kernel.number) kernel.objects) (sym taken.2)
          (next_kernel_fits p valid t table binding atoms kernel.number kernel.objects taken.0 fits within taken.1) in
          elim (edits_before number recorded) [
            | inr less ↦ fall_disturbed kernel.number number _ next fits.to_goal less senses
            | inl none ↦ higher taken.0 taken.1 fits' next
                (subst (λ (xs : List E). IsSensed p t binding (after_edits leaves xs mid) next) none senses)
          ]

pub turns_are_few : {E : Type 0} (leaves : E → List Atom → List Atom) → TurnsAreFew leaves
turns_are_few leaves problem table bound recorded atoms turns after valid is_table run =
    turns-bounded problem valid table is_table bound leaves recorded turns atoms after
    (run_in_atoms leaves problem table bound recorded turns 1 _ _ run.1)
