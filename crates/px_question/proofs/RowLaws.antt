-- The proofs of an answer are proofs for a row.
use Rattle.std.proofs.Common.{◌≡◌, ◌∙◌, ℕ, ◌+◌, ◌<◌, Some, List, [], ◌∷◌, length, refl, ap, sym, subst, arith}
use Rattle.std.specs.Prelude.{◌==◌, All, cond, flat_map, map, slice_get}
use Rattle.std.specs.List.{AllZip}
use Rattle.std.proofs.lemmas.List.{length-map}
use Rattle.std.proofs.lemmas.List.Elements.{All-head, All-map, All-tail}
use Rattle.px_base.specs.ListLaws.{All-at, Contains-first}
use Rattle.px_terms.specs.Language.{IsObject, substitute, IsObjectBelow}
use Rattle.px_terms.specs.Substitution.{substitute_atom}
use Rattle.px_terms.specs.Validity.{IsAtomOf, IsAxiomOf, IsTermOf}
use Rattle.px_terms.specs.declared.atom.Atom.{Atom}
use Rattle.px_terms.specs.declared.clause.Lit.{Lit}
use Rattle.px_terms.specs.declared.problem.Problem.{Problem}
use Rattle.px_terms.specs.declared.term.Term.{Term}
use Rattle.px_terms.specs.declared.term.Term.TheVariants.{Obj, Var, Any}
use Rattle.px_proof.specs.declared.proof.Leaf.{Leaf}
use Rattle.px_proof.specs.Derivation.{Derivation, derivations, fact, leaf_atoms, leaves_of, terms_of}
use Rattle.px_proof.specs.GraftLaws.{first_leaves-all, graft_is_tree, leaves-grafted}
use Rattle.px_proof.specs.Grafting.{grafted, in_places_of}
use Rattle.px_proof.specs.LeafRange.{leaves_of_problem}
use Rattle.px_proof.specs.Literals.{positive_of}
use Rattle.px_proof.specs.PlaceLaws.{Contains-mapped}
use Rattle.px_proof.specs.Proves.{IsObjectOrParameter, IsTree, Proves, ProvesEach, from_atoms}
use Rattle.px_proof.specs.ProvesLaws.{leaves_allowed, proves_by, terms_from}
use Rattle.px_proof.specs.SubstitutionLaws.{each_choice}
use Rattle.px_question.specs.Answers.{IsList, literals_of, object_terms}
use Rattle.px_question.specs.Rows.{AnswersMakeRows, IsAnswerProof, IsRowProof}
use Rattle.px_question.specs.Settings.{proofs_in, setting_of}

-- ---- kinds of terms

pub IsName-from_term : (problem : Problem) (t : Term) → IsTermOf problem 0 t → IsObjectOrParameter problem.objects 0 t
IsName-from_term problem (Obj n) h = h
IsName-from_term problem (Var v) h = h
IsName-from_term problem Any h = h

pub IsTermOf-from_name : (problem : Problem) (t : Term) → IsObjectOrParameter problem.objects 0 t → IsTermOf problem 0 t
IsTermOf-from_name problem (Obj n) h = h
IsTermOf-from_name problem (Var v) h = h
IsTermOf-from_name problem Any h = h

pub IsObject-from_name : (objects : ℕ) (t : Term) → IsObjectOrParameter objects 0 t → IsObject t
IsObject-from_name objects (Obj n) h = tt
IsObject-from_name objects (Var v) h = absurd (omega (arith, h))
IsObject-from_name objects Any h = h

pub IsName-from_object : (objects : ℕ) (t : Term) → IsObjectBelow objects t → IsObjectOrParameter objects 0 t
IsName-from_object objects (Obj n) h = h
IsName-from_object objects (Var v) h = absurd h
IsName-from_object objects Any h = h

all_names : (problem : Problem) (ts : List Term) → All (IsTermOf problem 0) ts → All (IsObjectOrParameter problem.objects 0) ts
all_names problem ts all k d below = IsName-from_term problem _ (all k d below)

all_terms : (problem : Problem) (ts : List Term) → All (IsObjectOrParameter problem.objects 0) ts → All (IsTermOf problem 0) ts
all_terms problem ts all k d below = IsTermOf-from_name problem _ (all k d below)

objects_named : (objects : ℕ) (ts : List Term) → All (IsObjectOrParameter objects 0) ts → All IsObject ts
objects_named objects ts all k d below = IsObject-from_name objects _ (all k d below)

-- ---- a tree over the problem's objects is one for a row

tree-row : (problem : Problem) (atom : Atom) (d : Derivation) → All (IsAtomOf problem 0) (leaf_atoms (leaves_of d))
    → IsTree problem.axioms problem.objects 0 (positive_of atom) d → IsRowProof problem atom (leaves_of d) d
tree-row problem atom d leaves tree = record {
  tree = tree;
  proves =
      proves_by problem.axioms (from_atoms (IsObjectOrParameter problem.objects 0) (leaf_atoms (leaves_of d)))
      (from_atoms IsObject (leaf_atoms (leaves_of d)))
      (record { choices = IsObject-from_name problem.objects; gaps = λ atom h. h; opens = λ h. h }) [] (positive_of atom) d
      (λ leaf has h. (h.0, objects_named problem.objects leaf.atom.args h.1)) tree.proves;
  all_objects = objects_named problem.objects atom.args tree.terms;
  of_problem =
      record {
        leaves = leaves;
        terms = all_terms problem (terms_of d)
            (terms_from (IsObjectOrParameter problem.objects 0) problem.axioms (leaf_atoms (leaves_of d)) []
            (positive_of atom) d tree.proves);
      };
  leaves_are = refl;
}

-- ---- other leaves put in

abbrev AreInitial : List Leaf → Type 0
AreInitial = All (λ leaf. leaf.column ≡ 0)

abbrev facts_of : List Leaf → List Derivation
facts_of leaves = map (λ leaf. fact leaf) leaves

-- each leaf in column 0 gets its fact
put_in : (old new : List Leaf) → AreInitial old → length new ≡ length old → in_places_of 0 (facts_of new) old ≡ facts_of new
put_in [] [] are long = refl
put_in [] (leaf ∷ new) are long = absurd (omega (arith, long))
put_in (was ∷ old) [] are long = absurd (omega (arith, long))
put_in (was ∷ old) (leaf ∷ new) are long =
    let first = ap (λ (n : ℕ). n == 0) (All-head (λ (l : Leaf). l.column ≡ 0) was old are) in
    ap (λ b. cond b (fact leaf) (fact (record { column = was.column + 0; index = was.index; atom = was.atom }))
    ∷ in_places_of 0 (cond b (facts_of new) (facts_of (leaf ∷ new))) old) first
    ∙ ap (λ (ds : List Derivation). fact leaf ∷ ds)
    (put_in old new (All-tail (λ (l : Leaf). l.column ≡ 0) was old are) (omega (arith, long)))

leaves-facts : (leaves : List Leaf) → flat_map leaves_of (facts_of leaves) ≡ leaves
leaves-facts [] = refl
leaves-facts (leaf ∷ leaves) = ap (λ (ls : List Leaf). leaf ∷ ls) (leaves-facts leaves)

facts-trees : (problem : Problem) (leaves : List Leaf) → All (IsAtomOf problem 0) (leaf_atoms leaves)
    → AllZip (λ atom part. IsTree problem.axioms problem.objects 0 (positive_of atom) part) (leaf_atoms leaves) (facts_of leaves)
facts-trees problem [] are = tt
facts-trees problem (leaf ∷ leaves) are =
    let names = all_names problem leaf.atom.args (All-head (IsAtomOf problem 0) leaf.atom (leaf_atoms leaves) are).1 in (
      record { proves = (refl, (Contains-first leaf.atom [], names)); terms = names },
      facts-trees problem leaves (All-tail (IsAtomOf problem 0) leaf.atom (leaf_atoms leaves) are),
    )

renamed-row : (problem : Problem) (atom : Atom) (d : Derivation) → AreInitial (leaves_of d) → IsRowProof problem atom (leaves_of d) d
    → (leaves : List Leaf) → leaf_atoms leaves ≡ leaf_atoms (leaves_of d) → IsRowProof problem atom leaves (grafted 0 (facts_of leaves) d)
renamed-row problem atom d first row leaves same =
    let new = grafted 0 (facts_of leaves) d in
    let are : All (IsAtomOf problem 0) (leaf_atoms leaves) = subst (All (IsAtomOf problem 0)) (sym same) row.of_problem.leaves in
    let long : length leaves ≡ length (leaves_of d) =
    sym (length-map leaves (λ (l : Leaf). l.atom)) ∙ ap length same ∙ length-map (leaves_of d) (λ (l : Leaf). l.atom) in
    let leaves_are : leaves_of new ≡ leaves =
    leaves-grafted 0 (facts_of leaves) d ∙ ap (flat_map leaves_of) (put_in (leaves_of d) leaves first long) ∙ leaves-facts leaves in
    let tree : IsTree problem.axioms problem.objects 0 (positive_of atom) new =
    graft_is_tree 0 (facts_of leaves) d problem.axioms problem.objects 0 (positive_of atom)
    (subst (λ (atoms : List Atom). AllZip (λ a part. IsTree problem.axioms problem.objects 0 (positive_of a) part) atoms (facts_of leaves))
    (same ∙ ap leaf_atoms (sym (first_leaves-all (leaves_of d) first))) (facts-trees problem leaves are))
    row.tree in
    let made = tree-row problem atom new (subst (λ (ls : List Leaf). All (IsAtomOf problem 0) (leaf_atoms ls)) (sym leaves_are) are) tree in
    record { tree = made.tree; proves = made.proves; all_objects = made.all_objects; of_problem = made.of_problem; leaves_are = leaves_are }

-- ---- the proofs of an answer

term-under : (problem : Problem) (variable_count : ℕ) (objects : List ℕ) → length objects ≡ variable_count → All (λ n. n < problem.objects) objects
    → (t : Term) → IsTermOf problem variable_count t → IsTermOf problem 0 (substitute (object_terms objects) t)
term-under problem variable_count objects count below (Obj n) h = h
term-under problem variable_count objects count below (Var v) h =
    All-map (IsTermOf problem 0) (λ n. Obj n) objects below v Any
    (subst (λ (n : ℕ). v < n) (sym count ∙ sym (length-map objects (λ n. Obj n))) h)
term-under problem variable_count objects count below Any h = h

atom-under : (problem : Problem) (variable_count : ℕ) (objects : List ℕ) → length objects ≡ variable_count → All (λ n. n < problem.objects) objects
    → (atom : Atom) → IsAtomOf problem variable_count atom → IsAtomOf problem 0 (substitute_atom (object_terms objects) atom)
atom-under problem variable_count objects count below atom is = (
  (is.0.0, length-map atom.args (substitute (object_terms objects)) ∙ is.0.1),
  each_choice (object_terms objects) (IsTermOf problem variable_count) (IsTermOf problem 0)
      (term-under problem variable_count objects count below) atom.args is.1,
)

module _ (problem : Problem) (atoms : List Atom) (axioms : All (IsAxiomOf problem) problem.axioms) where
  abbrev IsPlaced : Leaf → Type 0
  IsPlaced leaf = (leaf.column ≡ 0) × (slice_get atoms leaf.index ≡ Some leaf.atom)

  proof-answers : (atom : Atom) (d : Derivation) → IsAtomOf problem 0 atom
      → Proves (proofs_in (setting_of problem atoms)) problem.axioms [] (positive_of atom) d → IsAnswerProof problem atoms atom d
  proof-answers atom d is proved =
      let rules = proofs_in (setting_of problem atoms) in
      let leaves =
      leaves_of_problem problem 0 axioms rules (λ t h. IsTermOf-from_name problem t (IsName-from_object problem.objects t h)) []
      (positive_of atom) d is proved in
      let placed : All IsPlaced (leaves_of d) = leaves_allowed rules problem.axioms [] (positive_of atom) d proved in
      let tree : IsTree problem.axioms problem.objects 0 (positive_of atom) d = record {
        proves = proves_by problem.axioms rules (from_atoms (IsObjectOrParameter problem.objects 0) (leaf_atoms (leaves_of d)))
            (record { choices = IsName-from_object problem.objects; gaps = λ a h. h; opens = λ h. h }) [] (positive_of atom) d
            (λ leaf has h.
            let there = Contains-mapped (λ (l : Leaf). l.atom) (leaves_of d) leaf has in
            (there, all_names problem leaf.atom.args (All-at (IsAtomOf problem 0) (leaf_atoms (leaves_of d)) leaf.atom leaves there).1))
            proved;
        terms = all_names problem atom.args is.1;
      } in
      let row = tree-row problem atom d leaves tree in
      record {
        here = row;
        placed = placed;
        renamed = renamed-row problem atom d (λ k e below. (placed k e below).0) row;
      }

  proofs-answer : (formula : List Atom) (ds : List Derivation) → All (IsAtomOf problem 0) formula
      → ProvesEach (proofs_in (setting_of problem atoms)) problem.axioms [] (map positive_of formula) (derivations ds)
      → AllZip (IsAnswerProof problem atoms) formula ds
  proofs-answer [] [] are each = tt
  proofs-answer [] (d ∷ ds) are each = absurd each
  proofs-answer (atom ∷ formula) [] are each = absurd each
  proofs-answer (atom ∷ formula) (d ∷ ds) are each = (
    proof-answers atom d (All-head (IsAtomOf problem 0) atom formula are) each.0,
    proofs-answer formula ds (All-tail (IsAtomOf problem 0) atom formula are) each.1,
  )

literals-under : (formula : List Atom) (objects : List ℕ)
    → literals_of formula objects ≡ map positive_of (map (substitute_atom (object_terms objects)) formula)
literals-under [] objects = refl
literals-under (atom ∷ formula) objects =
    ap (λ (ls : List Lit). positive_of (substitute_atom (object_terms objects) atom) ∷ ls) (literals-under formula objects)

-- without variables nothing is put in
no_term_under : (problem : Problem) (terms : List Term) (t : Term) → IsTermOf problem 0 t → substitute terms t ≡ t
no_term_under problem terms (Obj n) h = refl
no_term_under problem terms (Var v) h = absurd (omega (arith, h))
no_term_under problem terms Any h = absurd h

no_terms_under : (problem : Problem) (terms args : List Term) → All (IsTermOf problem 0) args → map (substitute terms) args ≡ args
no_terms_under problem terms [] all = refl
no_terms_under problem terms (t ∷ args) all =
    let here = no_term_under problem terms t (All-head (IsTermOf problem 0) t args all) in
    let rest = no_terms_under problem terms args (All-tail (IsTermOf problem 0) t args all) in
    λ i. here i ∷ rest i

no_atoms_under : (problem : Problem) (terms : List Term) (formula : List Atom) → All (IsAtomOf problem 0) formula
    → map (substitute_atom terms) formula ≡ formula
no_atoms_under problem terms [] all = refl
no_atoms_under problem terms (atom ∷ formula) all =
    let here = no_terms_under problem terms atom.args (All-head (IsAtomOf problem 0) atom formula all).1 in
    let rest = no_atoms_under problem terms formula (All-tail (IsAtomOf problem 0) atom formula all) in
    λ i. record { pred = atom.pred; args = here i } ∷ rest i

answers_under : (problem : Problem) (atoms formula : List Atom) (variable_count : ℕ) (objects : List ℕ) (ds : List Derivation)
    → All (IsAxiomOf problem) problem.axioms → All (IsAtomOf problem variable_count) formula
    → IsList (proofs_in (setting_of problem atoms)) (setting_of problem atoms) formula variable_count objects (derivations ds)
    → AllZip (IsAnswerProof problem atoms) (map (substitute_atom (object_terms objects)) formula) ds
answers_under problem atoms formula variable_count objects ds axioms are is =
    proofs-answer problem atoms axioms (map (substitute_atom (object_terms objects)) formula) ds
    (All-map (IsAtomOf problem 0) (substitute_atom (object_terms objects)) formula
    (λ k d below. atom-under problem variable_count objects is.count is.below _ (are k d below)))
    (subst (λ (ls : List Lit). ProvesEach (proofs_in (setting_of problem atoms)) problem.axioms [] ls (derivations ds))
    (literals-under formula objects) is.proved)

pub answers-make_rows : AnswersMakeRows
answers-make_rows = record {
  under = answers_under;
  without_variables = λ problem atoms formula objects ds axioms are is.
      subst (λ (those : List Atom). AllZip (IsAnswerProof problem atoms) those ds)
      (no_atoms_under problem (object_terms objects) formula are) (answers_under problem atoms formula 0 objects ds axioms are is);
}
