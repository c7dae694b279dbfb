-- The leaves of a row of first proofs name where their facts come from, and are kept since then.
use Rattle.std.specs.Prelude.{◌≡◌, ◌≤◌, ◌<◌, ℕ, Some, List, [], ◌∷◌, length, map, All, Contains}
use Rattle.std.proofs.Common.{zero, suc, ap, ◌∙◌, subst, inl, inr, arith}
use Rattle.std.specs.List.{AllZip}
use Rattle.std.proofs.lemmas.List.Elements.{Contains-append_cases}
use Rattle.px_base.specs.ListLaws.{All-at, Contains-cases, Contains-none}
use Rattle.px_terms.specs.declared.atom.Atom.{Atom}
use Rattle.px_terms.specs.declared.instance.OpInst.{OpInst}
use Rattle.px_terms.specs.declared.problem.Problem.{Problem}
use Rattle.px_terms.specs.Instances.{IsGround}
use Rattle.px_terms.specs.Operators.{results_of}
use Rattle.px_terms.specs.Substitution.{substitute_atom}
use Rattle.px_terms.specs.Validity.{IsAtomOf, IsGroundInstanceOf, IsValid}
use Rattle.px_terms.specs.ValidityLaws.{atom_of-is_ground}
use Rattle.px_proof.specs.declared.proof.Leaf.{Leaf}
use Rattle.px_proof.specs.Derivation.{Derivation, derivations, leaf_atoms, leaves_of}
use Rattle.px_proof.specs.PlaceLaws.{Contains-mapped}
use Rattle.px_question.proofs.RowLaws.{answers-make_rows}
use Rattle.px_question.specs.Answers.{IsList, object_terms}
use Rattle.px_question.specs.Rows.{IsAnswerProof}
use Rattle.px_question.specs.Settings.{proofs_in, setting_of}
use Rattle.px_table.specs.Carrying.{contains_at}
use Rattle.px_table.specs.Marks.{row_leaves, step_at}
use Rattle.px_entries.specs.AnswerRows.{HasOtherLeaves}
use Rattle.px_ends.specs.Made.{IsFirstRow, IsSource, IsSourced}
use Rattle.px_support.proofs.Lists.{step-within}
use Rattle.px_support.proofs.Marking.{IsSupported, IsSupportedRow}
use Rattle.px_support.proofs.Staying.{stays}

-- ---- the leaves of an answer's proofs

-- the proofs of an answer are proofs of the formula's atoms under its objects
pub answer-proofs : (problem : Problem) (facts formula : List Atom) (variable_count : ℕ) (objects : List ℕ) (ds : List Derivation) → IsValid problem
    → All (IsAtomOf problem variable_count) formula
    → IsList (proofs_in (setting_of problem facts)) (setting_of problem facts) formula variable_count objects (derivations ds)
    → AllZip (IsAnswerProof problem facts) (map (substitute_atom (object_terms objects)) formula) ds
answer-proofs problem facts formula variable_count objects ds valid are list =
    answers-make_rows.under problem facts formula variable_count objects ds valid.axioms are list

-- a sourced proof has other leaves of the same atoms
pub others-in : (problem : Problem) (made : List OpInst) (ds row : List Derivation) → AllZip (IsSourced problem made) ds row
    → AllZip HasOtherLeaves ds row
others-in problem made [] [] all = tt
others-in problem made [] (new ∷ row) all = absurd all
others-in problem made (d ∷ ds) [] all = absurd all
others-in problem made (d ∷ ds) (new ∷ row) all = ((all.0.0, all.0.1, all.0.3), others-in problem made ds row all.1)

module _ (problem : Problem) (valid : IsValid problem) (initial : List Atom) (made : List OpInst)
    (are : All (IsGroundInstanceOf problem) made) where
  -- a leaf that names where its fact comes from, where the fact holds after the steps
  source-supported : (leaf : Leaf) → IsAtomOf problem 0 leaf.atom → Contains (results_of problem initial made) leaf.atom
      → IsSource problem made leaf → IsSupported problem initial made leaf
  source-supported leaf of has is =
      let s = stays problem valid leaf.atom (atom_of-is_ground problem leaf.atom of) initial made leaf.column are has is.last in
      record {
        earlier = by leaf.column (λ some. (is.adder some).0) (λ some. (is.adder some).1);
        first = is.initial;
        added = λ some. let a = is.adder some in (a.0, a.1, a.2);
        given = s.given;
        kept = s.kept;
      }
    where
      by : (column : ℕ) (inst : 0 < column → OpInst) → ((some : 0 < column) → step_at made column ≡ Some (inst some)) → column ≤ length made
      by zero inst at = omega arith
      by (suc k) inst at = step-within made (suc k) (inst (omega arith)) (at (omega arith))

  -- of one proof, from facts that hold after the steps
  pub proof-supported : (facts : List Atom) (atom : Atom) (d new : Derivation)
      → ((a : Atom) → IsGround a → Contains facts a → Contains (results_of problem initial made) a) → IsAnswerProof problem facts atom d
      → IsSourced problem made d new
      → (leaf : Leaf) → Contains (leaves_of new) leaf → IsSupported problem initial made leaf
  proof-supported facts atom d new hold is sourced leaf has =
      let leaves = sourced.0 in
      let made_row = is.renamed leaves sourced.1 in
      let its : leaves_of new ≡ leaves = ap leaves_of sourced.3 ∙ made_row.leaves_are in
      let inside : Contains leaves leaf = subst (λ (ls : List Leaf). Contains ls leaf) its has in
      let source = All-at (IsSource problem made) leaves leaf sourced.2 inside in
      let named : Contains (leaf_atoms (leaves_of d)) leaf.atom =
      subst (λ (as_ : List Atom). Contains as_ leaf.atom) sourced.1 (Contains-mapped (λ (l : Leaf). l.atom) leaves leaf inside) in
      let of : IsAtomOf problem 0 leaf.atom =
      All-at (IsAtomOf problem 0) (leaf_atoms (leaves_of d)) leaf.atom is.here.of_problem.leaves named in
      let held : Contains facts leaf.atom =
      in-facts (leaves_of d) (λ k e below. contains_at facts _ _ (is.placed k e below).1) leaf.atom named in
      source-supported leaf of (hold leaf.atom (atom_of-is_ground problem leaf.atom of) held) source
    where
      in-facts : (leaves : List Leaf) → All (λ (l : Leaf). Contains facts l.atom) leaves → (atom : Atom) → Contains (leaf_atoms leaves) atom
          → Contains facts atom
      in-facts [] all atom has = absurd (Contains-none atom has)
      in-facts (l ∷ leaves) all atom has = elim (Contains-cases l.atom (leaf_atoms leaves) atom has) [
        | inl same ↦ subst (Contains facts) same (all 0 l (omega arith))
        | inr later ↦ in-facts leaves (λ k e below. all (suc k) e (omega (arith, below))) atom later
      ]

  proofs-supported : (facts atoms : List Atom) (ds row : List Derivation) → facts ≡ results_of problem initial made
      → AllZip (IsAnswerProof problem facts) atoms ds → AllZip (IsSourced problem made) ds row
      → IsSupportedRow problem initial made row
  proofs-supported facts [] [] [] model all sourced leaf has = absurd (Contains-none leaf has)
  proofs-supported facts [] [] (new ∷ row) model all sourced leaf has = absurd sourced
  proofs-supported facts [] (d ∷ ds) row model all sourced leaf has = absurd all
  proofs-supported facts (atom ∷ atoms) [] row model all sourced leaf has = absurd all
  proofs-supported facts (atom ∷ atoms) (d ∷ ds) [] model all sourced leaf has = absurd sourced
  proofs-supported facts (atom ∷ atoms) (d ∷ ds) (new ∷ row) model all sourced leaf has =
      elim (Contains-append_cases (leaves_of new) (row_leaves row) leaf has) [
        | inl here ↦ proof-supported facts atom d new
            (λ a g there. subst (λ (fs : List Atom). Contains fs a) model there) all.0 sourced.0 leaf
            here
        | inr later ↦ proofs-supported facts atoms ds row model all.1 sourced.1 leaf later
      ]

  -- of a row of first proofs
  pub first_row-supported : (facts formula : List Atom) (variable_count : ℕ) (row : List Derivation) → facts ≡ results_of problem initial made
      → All (IsAtomOf problem variable_count) formula
      → IsFirstRow problem made facts formula variable_count row → IsSupportedRow problem initial made row
  first_row-supported facts formula variable_count row model of is =
      proofs-supported facts (map (substitute_atom (object_terms is.0)) formula) is.1 row model
      (answer-proofs problem facts formula variable_count is.0 is.1 valid of is.2.finished) is.3
