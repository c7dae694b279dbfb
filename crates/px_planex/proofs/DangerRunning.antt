-- The worked runs go as they say.
use Rattle.std.specs.Prelude.{◌≡◌, ◌≢◌, ◌≤◌, ℕ, true, false, Some, None, Option, List, [], ◌∷◌, Contains}
use Rattle.std.proofs.Common.{refl, sym, ap, ◌∙◌, subst, inl, inr, arith}
use Rattle.std.proofs.lemmas.List.Elements.{All-cons, All-head}
use Rattle.px_base.specs.ListLaws.{Contains-cases, Contains-one, Contains-first, Contains-later, All-at}
use Rattle.px_base.specs.Sets.{set_of, with_item}
use Rattle.px_terms.specs.declared.atom.Atom.{Atom}
use Rattle.px_terms.specs.declared.term.Term.TheVariants.{Obj}
use Rattle.px_terms.specs.MergedNamesLaws.{one}
use Rattle.px_terms.specs.Operators.{result_of}
use Rattle.px_table.specs.declared.mark.Mark.{Mark}
use Rattle.px_table.specs.Kernels.{atom_under}
use Rattle.px_match.specs.Matching.{Extends, IsHighest, KernelInstance, NoKernelFits}
use Rattle.px_match.specs.WorkedDanger.{a, b, a_step, b_step, danger, danger_facts, danger_table, g, kernel, p, p_mark, q, r}
use Rattle.px_match.proofs.DangerLaws.{danger_kernels, each_mark, has_p, same_object}
use Rattle.px_match.proofs.DangerSensing.{Differs, Fitting, IsBound, NotLess, below_two, danger_sensed, first_bound, fitting, greater_not_less, lacks, same_not_less}
use Rattle.px_world.specs.declared.edits.AtomEdit.TheVariants.{Add, Remove}
use Rattle.px_world.specs.Worlds.{edited}
use Rattle.px_planex.specs.declared.event.Event.TheVariants.{Sense, Act}
use Rattle.px_planex.specs.declared.event.Outcome.TheVariants.{NotSensed, Acted, Sensed, Goal, NoKernel}
use Rattle.px_planex.specs.Execution.{Traces, KernelRowHolds, Running, nothing_sensed}
use Rattle.px_planex.specs.Turns.{ByActing, BySlipping, RunsTable}
use Rattle.px_planex.specs.WorkedRuns.{DangerRuns, arrived, lost, tried}

-- ---- what edits and steps leave

add_q : edited (Add (q (Obj a))) (p (Obj a) ∷ q (Obj b) ∷ []) ≡ danger_facts
unfolding with_item
add_q = refl

-- P(a), Q(b), R(a), and then G(a)
abbrev after_a : List Atom
after_a = p (Obj a) ∷ q (Obj b) ∷ r (Obj a) ∷ []

abbrev after_b : List Atom
after_b = p (Obj a) ∷ q (Obj b) ∷ r (Obj a) ∷ g (Obj a) ∷ []

a_leaves : result_of danger danger_facts (a_step (Obj a)) ≡ after_a
unfolding with_item set_of
a_leaves = refl

b_leaves : result_of danger after_a (b_step (Obj a) (Obj b)) ≡ after_b
unfolding with_item set_of
b_leaves = refl

-- ---- what is sensed

abbrev chosen_a : List (ℕ × ℕ)
chosen_a = (1, a) ∷ []

-- where the first parameter is bound to the first object
extends_a : (y : ℕ) → Extends chosen_a (a ∷ y ∷ [])
extends_a y = one (IsBound (a ∷ y ∷ [])) (1, a) (0, refl, refl)

is_a : (x y : ℕ) → Extends chosen_a (x ∷ y ∷ []) → x ≡ a
is_a x y extends = first_bound x y a (All-head (IsBound (x ∷ y ∷ [])) (1, a) [] extends)

-- ---- what the rows need

row_holds : (x y i : ℕ) (atoms : List Atom) → (i ≡ 1 → Contains atoms (p (Obj x)))
    → (i ≡ 2 → Contains atoms (r (Obj x)) × Contains atoms (q (Obj y))) → i ≤ 2 → KernelRowHolds danger_table (kernel i x y) atoms
row_holds x y i atoms first second within mark has row =
    All-at (λ (m : Mark). m.row ≡ i → Contains atoms (atom_under (x ∷ y ∷ []) m.atom)) danger_table.marks mark
    (each_mark (λ (m : Mark). m.row ≡ i → Contains atoms (atom_under (x ∷ y ∷ []) m.atom))
    (λ e. first (sym e)) (λ e. (second (sym e)).0) (λ e. (second (sym e)).1) (λ e. absurd (omega (arith, e, within)))) has row

-- ---- the second sensing

after_a-no_g : (x : ℕ) → ¬ Contains after_a (g (Obj x))
after_a-no_g x = lacks after_a (g (Obj x))
    (All-cons (Differs (g (Obj x))) (p (Obj a)) (q (Obj b) ∷ r (Obj a) ∷ []) (λ e. omega (arith, e))
    (All-cons (Differs (g (Obj x))) (q (Obj b)) (r (Obj a) ∷ []) (λ e. omega (arith, e))
    (one (Differs (g (Obj x))) (r (Obj a)) (λ e. omega (arith, e)))))

-- of Q only Q(b) is left
only_b : (y : ℕ) → Contains after_a (q (Obj y)) → y ≡ b
only_b y has = elim (Contains-cases (p (Obj a)) (q (Obj b) ∷ r (Obj a) ∷ []) (q (Obj y)) has) [
  | inl is ↦ absurd (omega (arith, ap (λ (t : Atom). t.pred) is))
  | inr later ↦ elim (Contains-cases (q (Obj b)) (r (Obj a) ∷ []) (q (Obj y)) later) [
    | inl is ↦ same_object y b is
    | inr last ↦ absurd (omega (arith, ap (λ (t : Atom). t.pred) (Contains-one (r (Obj a)) (q (Obj y)) last)))
  ]
]

has_q_b : Contains after_a (q (Obj b))
has_q_b = Contains-later (p (Obj a)) (q (Obj b) ∷ r (Obj a) ∷ []) (q (Obj b)) (Contains-first (q (Obj b)) (r (Obj a) ∷ []))

has_r_a : Contains after_a (r (Obj a))
has_r_a =
    Contains-later (p (Obj a)) (q (Obj b) ∷ r (Obj a) ∷ []) (r (Obj a))
    (Contains-later (q (Obj b)) (r (Obj a) ∷ []) (r (Obj a)) (Contains-first (r (Obj a)) []))

second_first : (others : List ℕ) → Fitting chosen_a after_a 2 others → NotLess others (a ∷ b ∷ [])
second_first others (x, (y, is, are, inl (number, has_p, has_q, differ))) = absurd (omega (arith, number))
second_first others (x, (y, is, are, inr (inl (number, has_r, has_q)))) =
    subst (λ (xs : List ℕ). NotLess xs (a ∷ b ∷ []))
    (sym (is ∙ ap (λ n. n ∷ y ∷ []) (is_a x y are.2) ∙ ap (λ n. a ∷ n ∷ []) (only_b y has_q)))
    (same_not_less (a ∷ b ∷ []) (a ∷ b ∷ []) refl)
second_first others (x, (y, is, are, inr (inr (number, has_g)))) = absurd (omega (arith, number))

second_highest : (j : ℕ) (others : List ℕ) → Fitting chosen_a after_a j others → j ≤ 2
second_highest j others (x, (y, is, are, inl (number, has_p, has_q, differ))) = omega (arith, number)
second_highest j others (x, (y, is, are, inr (inl (number, has_r, has_q)))) = omega (arith, number)
second_highest j others (x, (y, is, are, inr (inr (number, has_g)))) = absurd (after_a-no_g x has_g)

second_sensed : IsHighest danger danger_table chosen_a after_a (kernel 2 a b)
second_sensed = record {
  fits = (danger_kernels.second chosen_a after_a a b).1 ((omega arith, omega arith, extends_a b), (has_r_a, has_q_b));
  highest = λ j others fits. second_highest j others (fitting chosen_a after_a j others fits);
  first = λ others fits. second_first others (fitting chosen_a after_a 2 others fits);
}

-- ---- the third

has_g_a : Contains after_b (g (Obj a))
has_g_a = Contains-later (p (Obj a)) (q (Obj b) ∷ r (Obj a) ∷ g (Obj a) ∷ []) (g (Obj a))
    (Contains-later (q (Obj b)) (r (Obj a) ∷ g (Obj a) ∷ []) (g (Obj a))
    (Contains-later (r (Obj a)) (g (Obj a) ∷ []) (g (Obj a)) (Contains-first (g (Obj a)) [])))

third_first : (others : List ℕ) → Fitting chosen_a after_b 3 others → NotLess others (a ∷ a ∷ [])
third_first others (x, (y, is, are, by)) =
    subst (λ (xs : List ℕ). NotLess xs (a ∷ a ∷ [])) (sym (is ∙ ap (λ n. n ∷ y ∷ []) (is_a x y are.2)))
    (below_two (λ n. NotLess (a ∷ n ∷ []) (a ∷ a ∷ [])) (same_not_less (a ∷ a ∷ []) (a ∷ a ∷ []) refl)
    (greater_not_less (a ∷ b ∷ []) (a ∷ a ∷ []) refl) y are.1)

third_sensed : IsHighest danger danger_table chosen_a after_b (kernel 3 a a)
third_sensed = record {
  fits = (danger_kernels.third chosen_a after_b a a).1 ((omega arith, omega arith, extends_a a), has_g_a);
  highest = λ j others fits. fits.to_goal;
  first = λ others fits. third_first others (fitting chosen_a after_b 3 others fits);
}

-- ---- without P and R

abbrev only_q : List Atom
only_q = q (Obj a) ∷ q (Obj b) ∷ []

only_q-lacks : (atom : Atom) → atom.pred ≢ 1 → ¬ Contains only_q atom
only_q-lacks atom other = lacks only_q atom
    (All-cons (Differs atom) (q (Obj a)) (q (Obj b) ∷ []) (λ e. other (sym e)) (one (Differs atom) (q (Obj b)) (λ e. other (sym e))))

nothing_fits : (i : ℕ) (objects : List ℕ) → ¬ Fitting chosen_a only_q i objects
nothing_fits i objects (x, (y, is, are, inl (number, has_p, has_q, differ))) = only_q-lacks (p (Obj x)) (λ e. omega (arith, e)) has_p
nothing_fits i objects (x, (y, is, are, inr (inl (number, has_r, has_q)))) = only_q-lacks (r (Obj x)) (λ e. omega (arith, e)) has_r
nothing_fits i objects (x, (y, is, are, inr (inr (number, has_g)))) = only_q-lacks (g (Obj x)) (λ e. omega (arith, e)) has_g

no_kernel : NoKernelFits danger danger_table chosen_a only_q
no_kernel i objects fits = nothing_fits i objects (fitting chosen_a only_q i objects fits)

-- ---- the runs

-- with these atoms, this kernel remembered and these objects last sensed
abbrev at : List Atom → Option KernelInstance → List ℕ → Running
at atoms remembered objects = record { atoms = atoms; memory = record { remembered = remembered; instance = objects } }

stuck : RunsTable edited danger danger_table ((1, a) ∷ (2, a) ∷ [])
    (record { turn = 1; between = false; edits = Add (q (Obj a)) ∷ [] } ∷ []) (p (Obj a) ∷ q (Obj b) ∷ []) (lost ∷ []) danger_facts
unfolding with_item
stuck = (
  nothing_sensed,
  (
    at danger_facts None [],
    (NoKernel, (at danger_facts None [], (danger_sensed.one_object, refl), (refl, refl))),
    inl (tt, refl, refl),
  ),
)

straight : RunsTable edited danger danger_table chosen_a [] danger_facts
    (tried 1 (a_step (Obj a)) ByActing ∷ tried 2 (b_step (Obj a) (Obj b)) ByActing ∷ arrived ∷ []) after_b
unfolding with_item set_of
straight = (
  record { remembered = None; instance = a ∷ a ∷ [] },
  (
    at after_a None (a ∷ b ∷ []),
    (
      Sensed 1,
      (
        at danger_facts (Some (kernel 1 a b)) (a ∷ b ∷ []),
        (kernel 1 a b, danger_sensed.next_object, refl, omega arith, refl),
        inl (
          refl,
          (
            kernel 1 a b,
            refl,
            row_holds a b 1 danger_facts (λ _. Contains-first (p (Obj a)) only_q) (λ e. absurd (omega (arith, e))) (omega arith),
            (a_step (Obj a), refl, refl),
          ),
        ),
      ),
    ),
    inr (
      λ none. none,
      (
        at after_b None (a ∷ b ∷ []),
        (
          Sensed 2,
          (
            at after_a (Some (kernel 2 a b)) (a ∷ b ∷ []),
            (kernel 2 a b, second_sensed, refl, omega arith, refl),
            inl (
              refl,
              (
                kernel 2 a b,
                refl,
                row_holds a b 2 after_a (λ e. absurd (omega (arith, e))) (λ _. (has_r_a, has_q_b)) (omega arith),
                (b_step (Obj a) (Obj b), refl, refl),
              ),
            ),
          ),
        ),
        inr (
          λ none. none,
          (
            at after_b None (a ∷ a ∷ []),
            (Goal, (at after_b None (a ∷ a ∷ []), (kernel 3 a a, third_sensed, refl, refl), (refl, refl))),
            inl (tt, refl, refl),
          ),
        ),
      ),
    ),
  ),
)

slipped : RunsTable edited danger danger_table chosen_a
    (record { turn = 1; between = true; edits = Remove (p (Obj a)) ∷ [] } ∷ []) danger_facts
    (tried 1 (a_step (Obj a)) BySlipping ∷ lost ∷ []) only_q
slipped = (
  record { remembered = None; instance = a ∷ b ∷ [] },
  (
    at only_q None (a ∷ b ∷ []),
    (
      Sensed 1,
      (
        at danger_facts (Some (kernel 1 a b)) (a ∷ b ∷ []),
        (kernel 1 a b, danger_sensed.next_object, refl, omega arith, refl),
        inr (refl, (kernel 1 a b, refl, (p_mark, has_p, refl, only_q-lacks (p (Obj a)) (λ e. omega (arith, e))), refl)),
      ),
    ),
    inr (
      λ none. none,
      (
        at only_q None (a ∷ b ∷ []),
        (NoKernel, (at only_q None (a ∷ b ∷ []), (no_kernel, refl), (refl, refl))),
        inl (tt, refl, refl),
      ),
    ),
  ),
)

unsensed : Traces edited danger danger_table chosen_a (record { atoms = danger_facts; memory = nothing_sensed })
    (Act ∷ Sense ∷ Act ∷ Act ∷ []) (NotSensed ∷ Sensed 1 ∷ Acted ∷ NotSensed ∷ []) (at after_a None (a ∷ b ∷ []))
unfolding with_item set_of
unsensed = (
  at danger_facts None [],
  (refl, refl),
  (
    at danger_facts (Some (kernel 1 a b)) (a ∷ b ∷ []),
    (kernel 1 a b, danger_sensed.next_object, refl, omega arith, refl),
    (
      at after_a None (a ∷ b ∷ []),
      (
        kernel 1 a b,
        refl,
        row_holds a b 1 danger_facts (λ _. Contains-first (p (Obj a)) only_q) (λ e. absurd (omega (arith, e)))
            (omega arith),
        (a_step (Obj a), refl, refl),
      ),
      (at after_a None (a ∷ b ∷ []), (refl, refl), refl),
    ),
  ),
)

pub danger_runs : DangerRuns
danger_runs = record { stuck = stuck; straight = straight; slipped = slipped; unsensed = unsensed }
