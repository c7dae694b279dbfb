-- Each instance of a table that is proper at 1, over any objects, supports its steps and goal from any atoms that have its first kernel.
use Rattle.std.specs.Prelude.{◌≡◌, ◌+◌, ◌-◌, ℕ, List, [], ◌∷◌, ◌++◌, map, length, slice_index_or, All, Contains}
use Rattle.std.proofs.Common.{zero, suc, refl, sym, ap, ◌∙◌, subst, inl, inr, arith}
use Rattle.std.proofs.lemmas.List.{length-map}
use Rattle.std.proofs.lemmas.List.Elements.{All-map, All-contains_itself}
use Rattle.px_base.specs.ListLaws.{All-at, All-each}
use Rattle.px_terms.specs.declared.atom.Atom.{Atom}
use Rattle.px_terms.specs.declared.instance.OpInst.{OpInst}
use Rattle.px_terms.specs.declared.problem.Problem.{Problem}
use Rattle.px_terms.specs.declared.term.Term.{Term}
use Rattle.px_terms.specs.declared.term.Term.TheVariants.{Obj, Var, Any as WildCard}
use Rattle.px_terms.specs.Language.{substitute, IsObject}
use Rattle.px_terms.specs.Operators.{precondition}
use Rattle.px_terms.specs.Substitution.{substitute_atom}
use Rattle.px_terms.specs.Validity.{IsGroundInstanceOf}
use Rattle.px_proof.specs.Derivation.{Derivation, leaves_of, leaf_atoms}
use Rattle.px_proof.specs.Literals.{positive_of}
use Rattle.px_proof.specs.PlaceLaws.{Contains-mapped}
use Rattle.px_proof.specs.Proves.{IsObjectOrParameter}
use Rattle.px_proof.specs.Substitution.{derivation_under}
use Rattle.px_proof.specs.SubstitutionLaws.{leaf_atoms-under, object_under-is_object, proves_from_facts}
use Rattle.px_proof.specs.ProvesLaws.{name_of_term}
use Rattle.px_table.specs.declared.mark.Mark.{Mark}
use Rattle.px_table.specs.declared.table.Table.{Table}
use Rattle.px_table.specs.KernelLaws.{kernel-has}
use Rattle.px_table.specs.Kernels.{IsProper, atom_under, goal_under, instance_under, kernel_of, kernel_under, mark_under, rows_under, steps_under}
use Rattle.px_table.specs.Marks.{IsKept, IsNamed, marks_from}
use Rattle.px_table.specs.Supports.{IsProofOf, ProvesEachOf, RowsProve, Supports, variables}
use Rattle.px_table.specs.Tables.{IsTable, rows_of}
use Rattle.px_table.specs.UnderLaws.{IsNamed-under, precondition-under}
use Rattle.px_terms.proofs.VariableLemmas.{length-variables}
use Rattle.px_replay.proofs.GoalSteps.{read-variable}
use Rattle.px_general.proofs.Reading.{less_or_not, read-left, read-map, read-past, read-right}
use Rattle.px_general.proofs.Under.{from_marks-under}

objects_all : (sigma : List ℕ) → All IsObject (map Obj sigma)
objects_all sigma = All-map IsObject Obj sigma (λ k d below. tt)

module _ (problem : Problem) (sigma : List ℕ) (params : ℕ) (count : length sigma ≡ params) where
  abbrev pub terms : List Term
  terms = map Obj sigma

  terms-count : length terms ≡ params
  terms-count = length-map sigma Obj ∙ count

  pub object-there : (t : Term) → IsObjectOrParameter problem.objects params t → IsObject (substitute terms t)
  object-there t is =
      object_under-is_object problem.objects terms (objects_all sigma) t
      (subst (λ n. IsObjectOrParameter problem.objects n t) (sym terms-count) is)

  proof-under : (atom : Atom) (d : Derivation) → IsProofOf (IsObjectOrParameter problem.objects params) problem.axioms atom d
      → IsProofOf IsObject problem.axioms (substitute_atom terms atom) (derivation_under terms d)
  proof-under atom d is = record {
    proves =
        proves_from_facts terms d problem.axioms problem.objects params (leaf_atoms (leaves_of (derivation_under terms d)))
        (positive_of atom) (omega (arith, terms-count)) (objects_all sigma)
        (subst (λ (l : List Atom). All (Contains (leaf_atoms (leaves_of (derivation_under terms d)))) l) (leaf_atoms-under terms d)
        (All-contains_itself (leaf_atoms (leaves_of (derivation_under terms d)))))
        record { proves = is.proves; terms = is.terms };
    terms = All-map IsObject (substitute terms) atom.args (λ k d below. object-there _ (is.terms k d below));
  }

  row-under : (atoms : List Atom) (row : List Derivation)
      → ProvesEachOf (IsObjectOrParameter problem.objects params) problem.axioms atoms row
      → ProvesEachOf IsObject problem.axioms (map (substitute_atom terms) atoms) (map (derivation_under terms) row)
  row-under [] [] p = tt
  row-under [] (d ∷ row) p = absurd p
  row-under (a ∷ atoms) [] p = absurd p
  row-under (a ∷ atoms) (d ∷ row) p = (proof-under a d p.0, row-under atoms row p.1)

  -- the goal's variables get the instances of what was chosen for them
  chosen-under : (goal_variable_count : ℕ) (chosen : List Term) → length chosen ≡ goal_variable_count → (t : Term)
      → substitute terms (substitute (variables params ++ chosen) t)
      ≡ substitute (map (substitute terms) chosen) (substitute (terms ++ variables goal_variable_count) t)
  chosen-under goal_variable_count chosen long (Obj n) = refl
  chosen-under goal_variable_count chosen long WildCard = refl
  chosen-under goal_variable_count chosen long (Var v) = elim (less_or_not v params) [
    | inl inside ↦
        let left : slice_index_or (variables params ++ chosen) v WildCard ≡ Var v =
        read-left (variables params) chosen v (omega (arith, inside, length-variables 0 params)) ∙ read-variable 0 params v inside
        ∙ ap Var (omega arith) in
        let right = read-left terms (variables goal_variable_count) v (omega (arith, inside, terms-count)) in
        rw left (rw right (stays sigma v (map (substitute terms) chosen)))
    | inr outside ↦
        let back : params + (v - params) ≡ v = omega (arith, outside) in
        let left : slice_index_or (variables params ++ chosen) v WildCard ≡ slice_index_or chosen (v - params) WildCard =
        ap (λ k. slice_index_or (variables params ++ chosen) k WildCard) (sym back)
        ∙ read-right (variables params) chosen params (v - params) (sym (length-variables 0 params)) in
        let right : slice_index_or (terms ++ variables goal_variable_count) v WildCard ≡ slice_index_or (variables goal_variable_count) (v - params) WildCard =
        ap (λ k. slice_index_or (terms ++ variables goal_variable_count) k WildCard) (sym back)
        ∙ read-right terms (variables goal_variable_count) params (v - params) (sym terms-count) in
        rw left (rw right (behind (v - params)))
  ]
    where
      stays : (ns : List ℕ) (v : ℕ) (others : List Term)
          → slice_index_or (map Obj ns) v WildCard ≡ substitute others (slice_index_or (map Obj ns) v WildCard)
      stays [] v others = refl
      stays (n ∷ ns) zero others = refl
      stays (n ∷ ns) (suc v) others = stays ns v others

      behind : (k : ℕ) → substitute terms (slice_index_or chosen k WildCard)
          ≡ substitute (map (substitute terms) chosen) (slice_index_or (variables goal_variable_count) k WildCard)
      behind k = elim (less_or_not k goal_variable_count) [
        | inl inside ↦
            sym (read-map (substitute terms) chosen k (omega (arith, inside, long)))
            ∙ ap (substitute (map (substitute terms) chosen)) (sym (read-variable 0 goal_variable_count k inside ∙ ap Var (omega arith)))
        | inr outside ↦
            ap (substitute terms) (read-past chosen k (omega (arith, outside, long)))
            ∙ ap (substitute (map (substitute terms) chosen))
            (sym (read-past (variables goal_variable_count) k (omega (arith, outside, length-variables 0 goal_variable_count))))
      ]

  args-chosen : (goal_variable_count : ℕ) (chosen : List Term) → length chosen ≡ goal_variable_count → (ts : List Term)
      → map (substitute terms) (map (substitute (variables params ++ chosen)) ts)
      ≡ map (substitute (map (substitute terms) chosen)) (map (substitute (terms ++ variables goal_variable_count)) ts)
  args-chosen goal_variable_count chosen long [] = refl
  args-chosen goal_variable_count chosen long (t ∷ ts) = cc (chosen-under goal_variable_count chosen long t, args-chosen goal_variable_count chosen long ts)

  goal-chosen : (goal_variable_count : ℕ) (chosen : List Term) → length chosen ≡ goal_variable_count → (goal : List Atom)
      → map (substitute_atom terms) (map (substitute_atom (variables params ++ chosen)) goal)
      ≡ map (substitute_atom (map (substitute terms) chosen)) (map (substitute_atom (terms ++ variables goal_variable_count)) goal)
  goal-chosen goal_variable_count chosen long [] = refl
  goal-chosen goal_variable_count chosen long (a ∷ goal) =
      let args = args-chosen goal_variable_count chosen long a.args in
      let rest = goal-chosen goal_variable_count chosen long goal in
      λ i. record { pred = a.pred; args = args i } ∷ rest i

  rows_prove-under : (goal : List Atom) (goal_variable_count : ℕ) (steps : List OpInst) (rows : List (List Derivation))
      → RowsProve (IsObjectOrParameter problem.objects params) problem params steps goal goal_variable_count rows
      → RowsProve IsObject problem 0 (map (instance_under sigma) steps)
      (map (substitute_atom (terms ++ variables goal_variable_count)) goal) goal_variable_count (map (map (derivation_under terms)) rows)
  rows_prove-under goal goal_variable_count [] [] p = absurd p
  rows_prove-under goal goal_variable_count [] (row ∷ []) p = (
    map (substitute terms) p.0,
    length-map p.0 (substitute terms) ∙ p.1,
    subst (λ (l : List Atom). ProvesEachOf IsObject problem.axioms l (map (derivation_under terms) row))
        (goal-chosen goal_variable_count p.0 p.1 goal) (row-under (map (substitute_atom (variables params ++ p.0)) goal) row p.2),
  )
  rows_prove-under goal goal_variable_count [] (row ∷ second ∷ rows) p = absurd p
  rows_prove-under goal goal_variable_count (s ∷ steps) [] p = absurd p
  rows_prove-under goal goal_variable_count (s ∷ steps) (row ∷ rows) p = (
    subst (λ (l : List Atom). ProvesEachOf IsObject problem.axioms l (map (derivation_under terms) row))
        (sym (precondition-under problem terms s)) (row-under (precondition problem s) row p.0),
    rows_prove-under goal goal_variable_count steps rows p.1,
  )

pub instance_supports : (problem : Problem) (table : Table) → IsTable problem table → (objects : List ℕ) → length objects ≡ table.params
    → IsProper problem table objects 1
    → (atoms : List Atom) → All (Contains atoms) (kernel_under table objects 1)
    → Supports problem atoms (steps_under table objects) (goal_under table objects) table.goal_variable_count (rows_under table objects)
instance_supports problem table is_table objects count proper atoms kernel = record {
  instances = All-map (IsGroundInstanceOf problem) (instance_under objects) table.steps (λ k d below.
      let step = is_table.in_range.steps k d below in
      record {
        op = step.op;
        count = length-map _ (substitute (map Obj objects)) ∙ step.count;
        all_objects =
            All-map IsObject (substitute (map Obj objects)) _
            (λ j e under. object-there problem objects table.params count _ (name_of_term problem table.params _ (step.terms j e under)));
      });
  prove = rows_prove-under problem objects table.params count table.goal table.goal_variable_count table.steps (rows_of table.proofs) is_table.prove;
  named = All-each (IsNamed problem (steps_under table objects)) (marks_from 1 (rows_under table objects)) (λ mark has.
      let from = mark_of_table mark has in
      subst (IsNamed problem (steps_under table objects)) from.2
      (IsNamed-under problem table.steps objects from.0
      (All-at (IsNamed problem table.steps) table.marks from.0 is_table.named from.1)));
  given = All-each (λ (m : Mark). m.column ≡ 0 → Contains atoms m.atom) (marks_from 1 (rows_under table objects)) (λ mark has.
      let from = mark_of_table mark has in
      subst (λ (m : Mark). m.column ≡ 0 → Contains atoms m.atom) from.2 (λ first. initial from.0 from.1 first));
  kept = All-each (IsKept problem (steps_under table objects) 1) (marks_from 1 (rows_under table objects)) (λ mark has.
      let from = mark_of_table mark has in
      subst (IsKept problem (steps_under table objects) 1) from.2
      (All-at (λ m. IsKept problem (steps_under table objects) 1 (mark_under objects m)) table.marks from.0 proper from.1));
}
  where
    mark_of_table : (mark : Mark) → Contains (marks_from 1 (rows_under table objects)) mark
        → (m : Mark) × Contains table.marks m × (mark_under objects m ≡ mark)
    mark_of_table mark has =
        let from = from_marks-under (map Obj objects) 1 (rows_of table.proofs) mark has in
        (from.0, subst (λ (l : List Mark). Contains l from.0) (sym is_table.marks) from.1, from.2)

    initial : (mark : Mark) → Contains table.marks mark → mark.column ≡ 0 → Contains atoms (atom_under objects mark.atom)
    initial mark has first =
        let named = All-at (IsNamed problem table.steps) table.marks mark is_table.named has in
        All-at (Contains atoms) (kernel_under table objects 1) (atom_under objects mark.atom) kernel
        (Contains-mapped (atom_under objects) (kernel_of table 1) mark.atom
        (kernel-has table 1 mark has (omega (arith, named.earlier)) (omega (arith, first))))
