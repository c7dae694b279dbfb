-- A row of a learned table put onto first proofs: it proves what the step needs, and its leaves name where their facts come from.
use Rattle.std.specs.Prelude.{◌≡◌, ◌≤◌, ◌<◌, ◌+◌, ◌==◌, false, ℕ, Some, List, [], ◌∷◌, ◌++◌, length, map, All, Contains}
use Rattle.std.proofs.Common.{zero, suc, refl, sym, ap, ◌∙◌, subst, inl, inr, arith, length-append}
use Rattle.std.specs.List.{AllZip}
use Rattle.std.proofs.lemmas.List.Elements.{All-cons, All-head, All-map, All-nil, All-tail, Contains-append_cases, Contains-append_left, Contains-append_right}
use Rattle.px_base.specs.ListLaws.{All-at, All-each, Contains-filter, Contains-first, Contains-later, Contains-none}
use Rattle.px_terms.specs.declared.atom.Atom.{Atom}
use Rattle.px_terms.specs.declared.instance.OpInst.{OpInst}
use Rattle.px_terms.specs.declared.problem.Problem.{Problem}
use Rattle.px_terms.specs.declared.term.Term.{Term}
use Rattle.px_terms.specs.declared.term.Term.TheVariants.{Obj}
use Rattle.px_terms.specs.Instances.{IsGround}
use Rattle.px_terms.specs.Language.{IsObject}
use Rattle.px_terms.specs.Operators.{results_of}
use Rattle.px_terms.specs.Substitution.{substitute_atom}
use Rattle.px_terms.specs.Validity.{HasArity, IsAtomOf, IsGroundInstanceOf, IsTermOf, IsValid}
use Rattle.px_proof.specs.declared.proof.Leaf.{Leaf}
use Rattle.px_proof.specs.Derivation.{Derivation, leaf_atoms, leaves_of, terms_of}
use Rattle.px_proof.specs.GraftLaws.{EachHas, graft_is_tree, grafted_leaves-all}
use Rattle.px_proof.specs.Grafting.{first_leaves, raised}
use Rattle.px_proof.specs.Literals.{positive_of}
use Rattle.px_proof.specs.PlaceLaws.{Contains-mapped}
use Rattle.px_proof.specs.Proves.{IsObjectOrParameter, IsTree, from_atoms}
use Rattle.px_proof.specs.ProvesLaws.{proves_by, terms_from}
use Rattle.px_proof.specs.Substitution.{derivation_under, leaf_under}
use Rattle.px_proof.specs.SubstitutionLaws.{leaf_atoms-under, leaves-under}
use Rattle.px_question.proofs.RowLaws.{IsName-from_term, IsObject-from_name, IsTermOf-from_name, answers-make_rows}
use Rattle.px_question.specs.Rows.{IsAnswerProof, IsRowProof}
use Rattle.px_table.specs.declared.mark.Mark.{Mark}
use Rattle.px_table.specs.declared.table.Table.{Table}
use Rattle.px_table.specs.Kernels.{instance_under, mark_under}
use Rattle.px_table.specs.Marks.{IsKept, IsNamed, mark_of, row_leaves, step_at}
use Rattle.px_table.specs.Prefixes.{IsMacro}
use Rattle.px_table.specs.Supports.{IsProofOf, ProvesEachOf}
use Rattle.px_table.specs.Tables.{IsTable}
use Rattle.px_table.specs.UnderLaws.{IsNamed-under}
use Rattle.px_entries.proofs.RowSteps.{mark-is_of}
use Rattle.px_ends.specs.Made.{IsGraft, IsPart}
use Rattle.px_support.proofs.Lists.{each-mapped, step-behind, step-found, step-prefix, step-within}
use Rattle.px_support.proofs.Marking.{IsSupported, IsSupportedRow}
use Rattle.px_support.proofs.RowLeaves.{proof-supported}
use Rattle.px_support.proofs.TreesUnder.{choice-under, proves-under}

positive : (n : ℕ) → (n == 0) ≡ false → 0 < n
positive zero e = absurd (cc)
positive (suc n) e = omega arith

-- only what belongs to the problem stands in the proof
abbrev pub IsOfProblem : Problem → Derivation → Type 0
IsOfProblem problem d = All (IsTermOf problem 0) (terms_of d) × All (HasArity problem) (leaf_atoms (leaves_of d))

module _ (problem : Problem) (valid : IsValid problem) (initial : List Atom) (table : Table) (is : IsTable problem table) (prefix : ℕ)
    (sigma : List ℕ) (m : IsMacro problem table prefix sigma)
    (before front made rest : List OpInst) (all_ground : All (IsGroundInstanceOf problem) made) (made_is : made ≡ before ++ front)
    (whole : map (instance_under sigma) table.steps ≡ front ++ rest) (early : length front < prefix)
    (facts : List Atom) (held : (atom : Atom) → IsGround atom → Contains facts atom → Contains (results_of problem initial made) atom) where
  abbrev objects_for : List Term
  objects_for = map Obj sigma

  abbrev row : ℕ
  row = suc (length front)

  abbrev atom_with : Atom → Atom
  atom_with = substitute_atom objects_for

  -- a leaf that is put in, or rises
  record IsGoodLeaf (leaf : Leaf) : Type 0 where
    of : IsAtomOf problem 0 leaf.atom
    supported : IsSupported problem initial made leaf

  -- ---- the parts

  record IsGoodPart (leaf : Leaf) (part : Derivation) : Type 0 where
    tree : IsTree problem.axioms problem.objects 0 (positive_of leaf.atom) part
    leaves : All IsGoodLeaf (leaves_of part)

  good-part : (leaf : Leaf) (part : Derivation) → IsAtomOf problem 0 leaf.atom → IsPart problem made facts leaf part → IsGoodPart leaf part
  good-part leaf part of (first, is_first, sourced) =
      let answers =
      answers-make_rows.without_variables problem facts (leaf.atom ∷ []) [] (first ∷ []) valid.axioms
      (All-cons (IsAtomOf problem 0) leaf.atom [] of (All-nil (IsAtomOf problem 0))) is_first.finished in
      let answer : IsAnswerProof problem facts leaf.atom first = answers.0 in
      let new : IsRowProof problem leaf.atom sourced.0 part =
      subst (IsRowProof problem leaf.atom sourced.0) (sym sourced.3) (answer.renamed sourced.0 sourced.1) in
      record {
        tree = new.tree;
        leaves = All-each IsGoodLeaf (leaves_of part) (λ l has. record {
          of = All-at (IsAtomOf problem 0) (leaf_atoms (leaves_of part)) l.atom new.of_problem.leaves
              (Contains-mapped (λ (x : Leaf). x.atom) (leaves_of part) l has);
          supported = proof-supported problem valid initial made all_ground facts leaf.atom first part held answer sourced l has;
        });
      }

  good-parts : (leaves : List Leaf) (parts : List Derivation) → ((leaf : Leaf) → Contains leaves leaf → IsAtomOf problem 0 leaf.atom)
      → AllZip (IsPart problem made facts) leaves parts → AllZip IsGoodPart leaves parts
  good-parts [] [] of all = tt
  good-parts [] (part ∷ parts) of all = absurd all
  good-parts (leaf ∷ leaves) [] of all = absurd all
  good-parts (leaf ∷ leaves) (part ∷ parts) of all = (
    good-part leaf part (of leaf (Contains-first leaf leaves)) all.0,
    good-parts leaves parts (λ l has. of l (Contains-later leaf leaves l has)) all.1,
  )

  part-trees : (leaves : List Leaf) (parts : List Derivation) → AllZip IsGoodPart leaves parts
      → AllZip (λ (atom : Atom) (part : Derivation). IsTree problem.axioms problem.objects 0 (positive_of atom) part)
      (leaf_atoms leaves) parts
  part-trees [] [] all = tt
  part-trees [] (part ∷ parts) all = absurd all
  part-trees (leaf ∷ leaves) [] all = absurd all
  part-trees (leaf ∷ leaves) (part ∷ parts) all = (all.0.tree, part-trees leaves parts all.1)

  part-leaves : (leaves : List Leaf) (parts : List Derivation) → AllZip IsGoodPart leaves parts
      → EachHas (λ leaf part. All IsGoodLeaf (leaves_of part)) leaves parts
  part-leaves [] parts all = tt
  part-leaves (leaf ∷ leaves) [] all = absurd all
  part-leaves (leaf ∷ leaves) (part ∷ parts) all = (all.0.leaves, part-leaves leaves parts all.1)

  -- ---- the leaves of the table's proof

  module _ (leaf : Leaf) (has : Contains table.marks (mark_of row leaf)) where
    mark : Mark
    mark = mark_of row leaf

    leaf-of : IsAtomOf problem 0 (atom_with leaf.atom)
    leaf-of = mark-is_of problem table prefix sigma is m (mark_of row leaf) has (omega (arith, early))

    named : IsNamed problem (map (instance_under sigma) table.steps) (mark_under sigma (mark_of row leaf))
    named =
        IsNamed-under problem table.steps sigma (mark_of row leaf)
        (All-at (IsNamed problem table.steps) table.marks (mark_of row leaf) is.named has)

    kept : IsKept problem (map (instance_under sigma) table.steps) 1 (mark_under sigma (mark_of row leaf))
    kept =
        All-at (λ (x : Mark). x.row ≤ prefix → IsKept problem (map (instance_under sigma) table.steps) 1 (mark_under sigma x)) table.marks
        (mark_of row leaf) m.kept has (omega (arith, early))

    long : length made ≡ length before + length front
    long = ap length made_is ∙ length-append before front

    -- the step of a number of the table has a higher number among those that are made
    risen : (j : ℕ) (inst : OpInst) → 0 < j → j ≤ length front → step_at (map (instance_under sigma) table.steps) j ≡ Some inst
        → step_at made (j + length before) ≡ Some inst
    risen j inst some within at =
        ap (λ (s : List OpInst). step_at s (j + length before)) made_is ∙ step-behind before front j (j + length before) some refl
        ∙ sym (step-prefix front rest j within) ∙ ap (λ (s : List OpInst). step_at s j) (sym whole) ∙ at

    sunk : (k : ℕ) (inst : OpInst) → length before < k → step_at made k ≡ Some inst
        → (j : ℕ) × (k ≡ j + length before) × (j ≤ length front) × (step_at (map (instance_under sigma) table.steps) j ≡ Some inst)
    sunk k inst after at =
        let found = step-found before front k inst after (ap (λ (s : List OpInst). step_at s k) (sym made_is) ∙ at) in
        let within = step-within front found.0 inst found.2 in
        (found.0, found.1, within, ap (λ (s : List OpInst). step_at s found.0) whole ∙ step-prefix front rest found.0 within ∙ found.2)

    later-supported : (leaf.column == 0) ≡ false → IsSupported problem initial made (raised (length before) (leaf_under objects_for leaf))
    later-supported later =
        let some : 0 < leaf.column = positive leaf.column later in
        record {
          earlier = omega (arith, named.earlier, long);
          first = λ e. absurd (omega (arith, some, e));
          added = λ _.
              let add = named.added some in
              (add.0, risen leaf.column add.0 some (omega (arith, named.earlier)) add.1, add.2);
          given = λ e. absurd (omega (arith, some, e));
          kept = λ k inst after at.
              let found = sunk k inst (omega (arith, after)) at in
              kept found.0 inst (omega (arith, some, after, found.1)) (omega (arith, after, found.1)) (omega (arith, found.2)) found.3;
        }

  module _ (atom : Atom) (d : Derivation) (marked : (leaf : Leaf) → Contains (leaves_of d) leaf → Contains table.marks (mark_of row leaf))
    where
      abbrev under : Derivation
      under = derivation_under objects_for d

      each-leaf : (P : Leaf → Type 0) → ((leaf : Leaf) → Contains (leaves_of d) leaf → P (leaf_under objects_for leaf)) → (leaf : Leaf)
          → Contains (leaves_of under) leaf → P leaf
      each-leaf P each leaf has =
          each-mapped P (leaf_under objects_for) (leaves_of d) each leaf
          (subst (λ (ls : List Leaf). Contains ls leaf) (leaves-under objects_for d) has)

      leaves-of : (leaf : Leaf) → Contains (leaves_of under) leaf → IsAtomOf problem 0 leaf.atom
      leaves-of = each-leaf (λ (leaf : Leaf). IsAtomOf problem 0 leaf.atom) (λ leaf has. leaf-of leaf (marked leaf has))

      leaves-rise : (leaf : Leaf) → Contains (leaves_of under) leaf → (leaf.column == 0) ≡ false → IsGoodLeaf (raised (length before) leaf)
      leaves-rise = each-leaf (λ (leaf : Leaf). (leaf.column == 0) ≡ false → IsGoodLeaf (raised (length before) leaf))
          (λ leaf has later. record { of = leaf-of leaf (marked leaf has); supported = later-supported leaf (marked leaf has) later })

      -- ---- the table's proof with the objects

      tree-under : IsAtomOf problem 0 (atom_with atom) → IsProofOf (IsObjectOrParameter problem.objects table.params) problem.axioms atom d
          → IsTree problem.axioms problem.objects 0 (positive_of (atom_with atom)) under
      tree-under of proof = record {
        proves =
            proves-under problem.axioms objects_for (IsObjectOrParameter problem.objects table.params)
            (IsObjectOrParameter problem.objects 0)
            (leaf_atoms (leaves_of d)) (leaf_atoms (leaves_of under))
            (choice-under problem valid table prefix sigma m) [] (positive_of atom) d
            (λ leaf has. (
              subst (λ (atoms : List Atom). Contains atoms (atom_with leaf.atom)) (sym (leaf_atoms-under objects_for d))
                  (Contains-mapped atom_with (leaf_atoms (leaves_of d)) leaf.atom
                  (Contains-mapped (λ (l : Leaf). l.atom) (leaves_of d) leaf has)),
              λ k e below. IsName-from_term problem _ ((leaf-of leaf (marked leaf has)).1 k e below),
            )) proof.proves;
        terms = λ k e below. IsName-from_term problem _ (of.1 k e below);
      }

      -- ---- and put onto the parts

      module _ (new : Derivation) (of : IsAtomOf problem 0 (atom_with atom))
          (proof : IsProofOf (IsObjectOrParameter problem.objects table.params) problem.axioms atom d)
          (graft : IsGraft problem (length before) made facts under new) where
        abbrev firsts : List Leaf
        firsts = first_leaves (leaves_of under)

        parts-good : AllZip IsGoodPart firsts graft.0
        parts-good =
            good-parts firsts graft.0 (λ leaf has. leaves-of leaf
            ((Contains-filter (λ (l : Leaf). l.column == 0) (leaves_of under) leaf).0 has).0) graft.1

        tree : IsTree problem.axioms problem.objects 0 (positive_of (atom_with atom)) new
        tree =
            subst (IsTree problem.axioms problem.objects 0 (positive_of (atom_with atom))) (sym graft.2)
            (graft_is_tree (length before) graft.0 under problem.axioms problem.objects 0 (positive_of (atom_with atom))
            (part-trees firsts graft.0 parts-good) (tree-under of proof))

        leaves-good : All IsGoodLeaf (leaves_of new)
        leaves-good =
            subst (λ (d : Derivation). All IsGoodLeaf (leaves_of d)) (sym graft.2)
            (grafted_leaves-all IsGoodLeaf (length before) under graft.0 (part-leaves firsts graft.0 parts-good) leaves-rise)

        new-proves : IsProofOf IsObject problem.axioms (atom_with atom) new
        new-proves = record {
          proves =
              proves_by problem.axioms (from_atoms (IsObjectOrParameter problem.objects 0) (leaf_atoms (leaves_of new)))
              (from_atoms IsObject (leaf_atoms (leaves_of new)))
              (record { choices = IsObject-from_name problem.objects; gaps = λ a h. h; opens = λ h. h }) []
              (positive_of (atom_with atom)) new
              (λ leaf has h. (h.0, λ k e below. IsObject-from_name problem.objects _ (h.1 k e below))) tree.proves;
          terms = λ k e below. IsObject-from_name problem.objects _ (tree.terms k e below);
        }

        new-of_problem : IsOfProblem problem new
        new-of_problem = (
          (λ k e below. IsTermOf-from_name problem _
              (terms_from (IsObjectOrParameter problem.objects 0) problem.axioms (leaf_atoms (leaves_of new)) []
              (positive_of (atom_with atom)) new tree.proves k e below)),
          All-map (HasArity problem) (λ (l : Leaf). l.atom) (leaves_of new) (λ k e below. (leaves-good k e below).of.0),
        )

        new-supported : (leaf : Leaf) → Contains (leaves_of new) leaf → IsSupported problem initial made leaf
        new-supported leaf has = (All-at IsGoodLeaf (leaves_of new) leaf leaves-good has).supported

  -- ---- the row

  pub record IsGoodRow (atoms : List Atom) (first : List Derivation) : Type 0 where
    pub proves : ProvesEachOf IsObject problem.axioms (map atom_with atoms) first
    pub of_problem : All (IsOfProblem problem) first
    pub supported : IsSupportedRow problem initial made first

  supported-cons : (new : Derivation) (first : List Derivation)
      → ((leaf : Leaf) → Contains (leaves_of new) leaf → IsSupported problem initial made leaf) → IsSupportedRow problem initial made first
      → IsSupportedRow problem initial made (new ∷ first)
  supported-cons new first here later leaf has = elim (Contains-append_cases (leaves_of new) (row_leaves first) leaf has) [
    | inl inside ↦ here leaf inside
    | inr behind ↦ later leaf behind
  ]

  pub good-row : (atoms : List Atom) (ds first : List Derivation) → All (IsAtomOf problem 0) (map atom_with atoms)
      → ((leaf : Leaf) → Contains (row_leaves ds) leaf → Contains table.marks (mark_of row leaf))
      → ProvesEachOf (IsObjectOrParameter problem.objects table.params) problem.axioms atoms ds
      → AllZip (IsGraft problem (length before) made facts) (map (derivation_under objects_for) ds) first → IsGoodRow atoms first
  good-row [] [] [] of marked proofs grafts =
      record { proves = tt; of_problem = All-nil (IsOfProblem problem); supported = λ leaf has. absurd (Contains-none leaf has) }
  good-row [] [] (new ∷ first) of marked proofs grafts = absurd grafts
  good-row [] (d ∷ ds) first of marked proofs grafts = absurd proofs
  good-row (atom ∷ atoms) [] first of marked proofs grafts = absurd proofs
  good-row (atom ∷ atoms) (d ∷ ds) [] of marked proofs grafts = absurd grafts
  good-row (atom ∷ atoms) (d ∷ ds) (new ∷ first) of marked proofs grafts =
      let here =
      λ (leaf : Leaf) (has : Contains (leaves_of d) leaf). marked leaf (Contains-append_left (leaves_of d) (row_leaves ds) leaf has) in
      let head = All-head (IsAtomOf problem 0) (atom_with atom) (map atom_with atoms) of in
      let rest =
      good-row atoms ds first (All-tail (IsAtomOf problem 0) (atom_with atom) (map atom_with atoms) of)
      (λ leaf has. marked leaf (Contains-append_right (leaves_of d) (row_leaves ds) leaf has)) proofs.1 grafts.1 in
      record {
        proves = (new-proves atom d here new head proofs.0 grafts.0, rest.proves);
        of_problem = All-cons (IsOfProblem problem) new first (new-of_problem atom d here new head proofs.0 grafts.0) rest.of_problem;
        supported = supported-cons new first (new-supported atom d here new head proofs.0 grafts.0) rest.supported;
      }
