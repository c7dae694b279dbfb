-- What the worked example of one object for two says is so.
use Rattle.std.specs.Prelude.{◌≡◌, ◌≢◌, ◌↔◌, ◌<◌, ◌≤◌, ℕ, List, [], ◌∷◌, map, All, Contains}
use Rattle.std.proofs.Common.{zero, suc, refl, sym, ap, ◌∙◌, subst, arith}
use Rattle.std.proofs.lemmas.List.Elements.{All-cons, All-head}
use Rattle.px_base.specs.ListLaws.{Contains-first, Contains-later, All-at, All-each}
use Rattle.px_terms.specs.declared.atom.Atom.{Atom}
use Rattle.px_terms.specs.declared.instance.OpInst.{OpInst}
use Rattle.px_terms.specs.declared.term.Term.{Term}
use Rattle.px_terms.specs.declared.term.Term.TheVariants.{Obj, Var}
use Rattle.px_terms.specs.Instances.{fill}
use Rattle.px_terms.specs.Language.{substitute}
use Rattle.px_terms.specs.MergedNamesLaws.{one}
use Rattle.px_terms.specs.Operators.{IsDeleted, schema_of}
use Rattle.px_base.specs.Answers.{some_same}
use Rattle.px_proof.specs.PlaceLaws.{Contains-mapped}
use Rattle.px_table.specs.declared.mark.Mark.{Mark}
use Rattle.px_table.specs.KernelLaws.{Contains-from_map, from_kernel, kernel-has}
use Rattle.px_table.specs.Kernels.{IsInstantiation, IsProper, atom_under, kernel_of, kernel_under, mark_under, steps_under}
use Rattle.px_table.specs.Marks.{IsKept}
use Rattle.px_match.specs.Matching.{Extends, KernelFits}
use Rattle.px_match.specs.WorkedDanger.{AreBothChosen, DangerKernels, a_schema, a_step, danger, danger_table, g, g_mark, p, p_mark, q, q_mark, r, r_mark}
use Rattle.px_match.proofs.DangerTable.{danger-fit, danger-table, danger-valid}

-- ---- what the first step deletes

first_object : List Term → ℕ
first_object (Obj n ∷ terms) = n
first_object terms = 0

pub same_object : (x y : ℕ) → q (Obj y) ≡ q (Obj x) → x ≡ y
unfolding first_object
same_object x y e = sym (ap (λ (atom : Atom). first_object atom.args) e)

deletes_same : (x y : ℕ) → IsDeleted a_schema (a_step (Obj x)) (q (Obj y)) → x ≡ y
deletes_same x y (zero, pattern, below, is, (objects, e)) =
    same_object x y (subst (λ (t : Atom). q (Obj y) ≡ record { pred = t.pred; args = fill objects (map (substitute (Obj x ∷ [])) t.args) })
    (sym is) e)
deletes_same x y (suc k, pattern, below, is, deleted) = absurd (omega (arith, below))

same_deletes : (x : ℕ) → IsDeleted a_schema (a_step (Obj x)) (q (Obj x))
same_deletes x = (0, q (Var 0), omega arith, refl, (λ k. 0, refl))

-- ---- the marks

pub each_mark : (P : Mark → Type 0) → P p_mark → P r_mark → P q_mark → P g_mark → All P danger_table.marks
each_mark P hp hr hq hg =
    All-cons P p_mark (r_mark ∷ q_mark ∷ g_mark ∷ []) hp
    (All-cons P r_mark (q_mark ∷ g_mark ∷ []) hr (All-cons P q_mark (g_mark ∷ []) hq (one P g_mark hg)))

pub has_p : Contains danger_table.marks p_mark
has_p = Contains-first p_mark (r_mark ∷ q_mark ∷ g_mark ∷ [])

has_r : Contains danger_table.marks r_mark
has_r = Contains-later p_mark (r_mark ∷ q_mark ∷ g_mark ∷ []) r_mark (Contains-first r_mark (q_mark ∷ g_mark ∷ []))

has_q : Contains danger_table.marks q_mark
has_q =
    Contains-later p_mark (r_mark ∷ q_mark ∷ g_mark ∷ []) q_mark
    (Contains-later r_mark (q_mark ∷ g_mark ∷ []) q_mark (Contains-first q_mark (g_mark ∷ [])))

has_g : Contains danger_table.marks g_mark
has_g =
    Contains-later p_mark (r_mark ∷ q_mark ∷ g_mark ∷ []) g_mark
    (Contains-later r_mark (q_mark ∷ g_mark ∷ []) g_mark (Contains-later q_mark (g_mark ∷ []) g_mark (Contains-first g_mark [])))

module _ (x y : ℕ) where
  -- ---- which instances are proper

  abbrev Kept : ℕ → Mark → Type 0
  Kept i mark = IsKept danger (steps_under danger_table (x ∷ y ∷ [])) i (mark_under (x ∷ y ∷ []) mark)

  -- a mark whose row comes right after its column is deleted by nothing
  adjacent : (i : ℕ) (mark : Mark) → mark.row ≡ suc mark.column → Kept i mark
  adjacent i mark next k inst low after before at deleted = absurd (omega (arith, after, before, next))

  proper_where : (i : ℕ) → Kept i q_mark → IsProper danger danger_table (x ∷ y ∷ []) i
  proper_where i kept = each_mark (Kept i) (adjacent i p_mark refl) (adjacent i r_mark refl) kept (adjacent i g_mark refl)

  proper_later : (i : ℕ) → 2 ≤ i → IsProper danger danger_table (x ∷ y ∷ []) i
  proper_later i later = proper_where i (λ k inst low after before at deleted. absurd (omega (arith, low, later, before)))

  -- the step between the column and the row of Q(p2) is the first
  kept_first : x ≢ y → Kept 1 q_mark
  kept_first differ zero inst low after before at deleted = absurd (omega (arith, low))
  kept_first differ (suc zero) inst low after before at deleted =
      differ (deletes_same x y (subst (λ (i : OpInst). IsDeleted (schema_of danger i) i (q (Obj y)))
      (sym (some_same at)) deleted))
  kept_first differ (suc (suc k)) inst low after before at deleted = absurd (omega (arith, before))

  differ_first : IsProper danger danger_table (x ∷ y ∷ []) 1 → x ≢ y
  differ_first proper same =
      All-at (Kept 1) danger_table.marks q_mark proper has_q 1 (a_step (Obj x)) (omega arith) (omega arith) (omega arith) refl
      (subst (λ (n : ℕ). IsDeleted a_schema (a_step (Obj x)) (q (Obj n))) same (same_deletes x))

  -- ---- which kernels are true

  module _ (atoms : List Atom) where
    abbrev Needed : ℕ → Mark → Type 0
    Needed i mark = i ≤ mark.row → mark.column < i → Contains atoms (atom_under (x ∷ y ∷ []) mark.atom)

    true_where : (i : ℕ) → All (Needed i) danger_table.marks → All (Contains atoms) (kernel_under danger_table (x ∷ y ∷ []) i)
    true_where i needed = All-each (Contains atoms) (kernel_under danger_table (x ∷ y ∷ []) i) (λ atom has.
        (let from = Contains-from_map (atom_under (x ∷ y ∷ [])) (kernel_of danger_table i) atom has in
        let mark = from_kernel danger_table i from.0 from.1 in
        subst (Contains atoms) (ap (atom_under (x ∷ y ∷ [])) mark.2 ∙ from.2)
        (All-at (Needed i) danger_table.marks mark.0 needed mark.1 mark.3 mark.4)))

    needs : (i : ℕ) (mark : Mark) → Contains danger_table.marks mark → All (Contains atoms) (kernel_under danger_table (x ∷ y ∷ []) i)
        → Needed i mark
    needs i mark has all row column =
        All-at (Contains atoms) (kernel_under danger_table (x ∷ y ∷ []) i) (atom_under (x ∷ y ∷ []) mark.atom) all
        (Contains-mapped (atom_under (x ∷ y ∷ [])) (kernel_of danger_table i) mark.atom (kernel-has danger_table i mark has row column))

    module _ (bound : List (ℕ × ℕ)) where
      chosen : IsInstantiation danger danger_table (x ∷ y ∷ []) → Extends bound (x ∷ y ∷ []) → AreBothChosen bound x y
      chosen given extends = (
        All-head (λ n. n < 2) x (y ∷ []) given.objects,
        All-at (λ n. n < 2) (x ∷ y ∷ []) y given.objects (Contains-later x (y ∷ []) y (Contains-first y [])),
        extends,
      )

      given : AreBothChosen bound x y → IsInstantiation danger danger_table (x ∷ y ∷ [])
      given are = record { count = refl; objects = All-cons (λ n. n < 2) x (y ∷ []) are.0 (one (λ n. n < 2) y are.1) }

      first_fits : KernelFits danger danger_table bound atoms 1 (x ∷ y ∷ [])
          ↔ (AreBothChosen bound x y × (Contains atoms (p (Obj x)) × Contains atoms (q (Obj y))) × (x ≢ y))
      first_fits = (
        λ fits. (
          chosen fits.instantiation fits.extends,
          (needs 1 p_mark has_p fits.holds (omega arith) (omega arith), needs 1 q_mark has_q fits.holds (omega arith) (omega arith)),
          differ_first fits.proper,
        ),
        λ are. record {
          from_one = omega arith;
          to_goal = omega arith;
          instantiation = given are.0;
          extends = are.0.2;
          fitting = danger-fit (x ∷ y ∷ []);
          proper = proper_where 1 (kept_first are.2);
          holds =
              true_where 1 (each_mark (Needed 1) (λ row column. are.1.0) (λ row column. absurd (omega (arith, column)))
              (λ row column. are.1.1) (λ row column. absurd (omega (arith, column))));
        },
      )

      second_fits : KernelFits danger danger_table bound atoms 2 (x ∷ y ∷ [])
          ↔ (AreBothChosen bound x y × (Contains atoms (r (Obj x)) × Contains atoms (q (Obj y))))
      second_fits = (
        λ fits. (
          chosen fits.instantiation fits.extends,
          (needs 2 r_mark has_r fits.holds (omega arith) (omega arith), needs 2 q_mark has_q fits.holds (omega arith) (omega arith)),
        ),
        λ are. record {
          from_one = omega arith;
          to_goal = omega arith;
          instantiation = given are.0;
          extends = are.0.2;
          fitting = danger-fit (x ∷ y ∷ []);
          proper = proper_later 2 (omega arith);
          holds =
              true_where 2 (each_mark (Needed 2) (λ row column. absurd (omega (arith, row))) (λ row column. are.1.0) (λ row column. are.1.1)
              (λ row column. absurd (omega (arith, column))));
        },
      )

      third_fits : KernelFits danger danger_table bound atoms 3 (x ∷ y ∷ []) ↔ (AreBothChosen bound x y × Contains atoms (g (Obj x)))
      third_fits = (
        λ fits. (chosen fits.instantiation fits.extends, needs 3 g_mark has_g fits.holds (omega arith) (omega arith)),
        λ are. record {
          from_one = omega arith;
          to_goal = omega arith;
          instantiation = given are.0;
          extends = are.0.2;
          fitting = danger-fit (x ∷ y ∷ []);
          proper = proper_later 3 (omega arith);
          holds =
              true_where 3 (each_mark (Needed 3) (λ row column. absurd (omega (arith, row))) (λ row column. absurd (omega (arith, row)))
              (λ row column. absurd (omega (arith, row))) (λ row column. are.1));
        },
      )

pub danger_kernels : DangerKernels
danger_kernels = record {
  valid = danger-valid;
  table = danger-table;
  first = λ bound atoms x y. first_fits x y atoms bound;
  second = λ bound atoms x y. second_fits x y atoms bound;
  third = λ bound atoms x y. third_fits x y atoms bound;
  no_other = λ bound atoms i objects fits. (fits.from_one, fits.to_goal, fits.instantiation.count);
}
