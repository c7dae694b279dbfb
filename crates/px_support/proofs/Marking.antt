-- Rows whose leaves each name where their facts come from, and are kept since then: their marks are those of a support.
use Rattle.std.specs.Prelude.{◌≡◌, ◌≤◌, ◌<◌, ℕ, Some, List, [], ◌∷◌, ◌++◌, length, map, slice_get, All, Contains}
use Rattle.std.proofs.Common.{suc, refl, sym, ap, ◌∙◌, subst, arith, append_assoc}
use Rattle.std.proofs.lemmas.List.Elements.{All-append, All-nil}
use Rattle.px_base.specs.ListLaws.{All-each}
use Rattle.px_terms.specs.declared.atom.Atom.{Atom}
use Rattle.px_terms.specs.declared.instance.OpInst.{OpInst}
use Rattle.px_terms.specs.declared.problem.Problem.{Problem}
use Rattle.px_terms.specs.Operators.{IsDeleted, adds, schema_of}
use Rattle.px_proof.specs.declared.proof.Leaf.{Leaf}
use Rattle.px_proof.specs.Derivation.{Derivation}
use Rattle.px_table.specs.declared.mark.Mark.{Mark}
use Rattle.px_table.specs.Marks.{IsKept, IsNamed, mark_eq, mark_of, marks_from, row_leaves, row_marks, step_at}
use Rattle.px_table.specs.OnceLaws.{Contains-from_each_once}
use Rattle.px_support.proofs.Lists.{each-mapped, step-prefix}

module _ (problem : Problem) (initial : List Atom) where
  -- after these steps the leaf names where its fact comes from, and no step since deletes it
  pub record IsSupported (made : List OpInst) (leaf : Leaf) : Type 0 where
    pub earlier : leaf.column ≤ length made
    pub first : leaf.column ≡ 0 → leaf.index ≡ 0
    pub added : 0 < leaf.column → (inst : OpInst) × (step_at made leaf.column ≡ Some inst)
        × (slice_get (adds problem inst) leaf.index ≡ Some leaf.atom)
    pub given : leaf.column ≡ 0 → Contains initial leaf.atom
    pub kept : (k : ℕ) (inst : OpInst) → leaf.column < k → step_at made k ≡ Some inst → ¬ IsDeleted (schema_of problem inst) inst leaf.atom

  abbrev pub IsSupportedRow : List OpInst → List Derivation → Type 0
  IsSupportedRow made row = (leaf : Leaf) → Contains (row_leaves row) leaf → IsSupported made leaf

  -- each row after the steps before its own, and the last row after all
  abbrev pub AreSupportedRows : List OpInst → List OpInst → List (List Derivation) → Type 0
  AreSupportedRows made steps [] = Unit {0}
  AreSupportedRows made [] (row ∷ rows) = IsSupportedRow made row × (rows ≡ [])
  AreSupportedRows made (step ∷ steps) (row ∷ rows) = IsSupportedRow made row × AreSupportedRows (made ++ step ∷ []) steps rows

  -- the mark is one of a support of all the steps
  pub record IsSupportMark (steps : List OpInst) (mark : Mark) : Type 0 where
    pub named : IsNamed problem steps mark
    pub given : mark.column ≡ 0 → Contains initial mark.atom
    pub kept : IsKept problem steps 1 mark

  supported-mark : (made rest : List OpInst) (leaf : Leaf) → IsSupported made leaf
      → IsSupportMark (made ++ rest) (mark_of (suc (length made)) leaf)
  supported-mark made rest leaf is = record {
    named = record {
      earlier = omega (arith, is.earlier);
      initial = is.first;
      added = λ some. let a = is.added some in (a.0, step-prefix made rest leaf.column is.earlier ∙ a.1, a.2);
    };
    given = is.given;
    kept = λ k inst first after before at. is.kept k inst after (sym (step-prefix made rest k (omega (arith, before))) ∙ at);
  }

  -- ---- from leaves to marks

  row-marked : (made rest : List OpInst) (row : List Derivation) → IsSupportedRow made row
      → All (IsSupportMark (made ++ rest)) (row_marks (suc (length made)) row)
  row-marked made rest row is =
      All-each (IsSupportMark (made ++ rest)) (row_marks (suc (length made)) row) (λ mark has.
      each-mapped (IsSupportMark (made ++ rest)) (mark_of (suc (length made))) (row_leaves row)
      (λ leaf inside. supported-mark made rest leaf (is leaf inside)) mark
      (Contains-from_each_once mark_eq (map (mark_of (suc (length made))) (row_leaves row)) mark has))

  length-push : (made : List OpInst) (step : OpInst) → length (made ++ step ∷ []) ≡ suc (length made)
  length-push [] step = refl
  length-push (m ∷ made) step = ap suc (length-push made step)

  pub rows-marked : (made steps : List OpInst) (rows : List (List Derivation)) → AreSupportedRows made steps rows
      → All (IsSupportMark (made ++ steps)) (marks_from (suc (length made)) rows)
  rows-marked made steps [] are = All-nil (IsSupportMark (made ++ steps))
  rows-marked made [] (row ∷ rows) are =
      All-append (IsSupportMark (made ++ [])) (row_marks (suc (length made)) row) (marks_from (suc (suc (length made))) rows)
      (row-marked made [] row are.0)
      (subst (λ (rs : List (List Derivation)). All (IsSupportMark (made ++ [])) (marks_from (suc (suc (length made))) rs)) (sym are.1)
      (All-nil (IsSupportMark (made ++ []))))
  rows-marked made (step ∷ steps) (row ∷ rows) are =
      All-append (IsSupportMark (made ++ step ∷ steps)) (row_marks (suc (length made)) row) (marks_from (suc (suc (length made))) rows)
      (row-marked made (step ∷ steps) row are.0)
      (subst (λ (n : ℕ). All (IsSupportMark (made ++ step ∷ steps)) (marks_from (suc n) rows)) (length-push made step)
      (subst (λ (all : List OpInst). All (IsSupportMark all) (marks_from (suc (length (made ++ step ∷ []))) rows))
      (append_assoc made (step ∷ []) steps) (rows-marked (made ++ step ∷ []) steps rows are.1)))
