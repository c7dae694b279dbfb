-- What an answer of the prover gives to a support.
use Rattle.std.specs.Prelude.{List, [], ◌∷◌, map, All}
use Rattle.std.proofs.Common.{◌∙◌, sym, subst}
use Rattle.std.specs.List.{AllZip}
use Rattle.std.proofs.lemmas.List.{length-map}
use Rattle.std.proofs.lemmas.List.Elements.{All-cons, All-nil}
use Rattle.px_terms.specs.Language.{IsObject}
use Rattle.px_terms.specs.Substitution.{substitute_atom}
use Rattle.px_terms.specs.Validity.{IsTermOf, HasArity}
use Rattle.px_terms.specs.declared.atom.Atom.{Atom}
use Rattle.px_terms.specs.declared.problem.Problem.{Problem}
use Rattle.px_terms.specs.declared.term.Term.TheVariants.{Obj}
use Rattle.px_proof.specs.declared.proof.Leaf.{Leaf}
use Rattle.px_proof.specs.Derivation.{Derivation, leaf_atoms, leaves_of, terms_of}
use Rattle.px_question.proofs.RowLaws.{answers-make_rows}
use Rattle.px_question.specs.Answers.{object_terms}
use Rattle.px_question.specs.Rows.{IsAnswerProof, IsRowProof}
use Rattle.px_table.specs.Supports.{IsProofOf, ProvesEachOf}
use Rattle.px_table.specs.Tables.{AreOfProblem}
use Rattle.px_entries.specs.AnswerRows.{AnswersSupport, HasOtherLeaves}

-- only what belongs to the problem stands in it
abbrev IsOfProblem : Problem → Derivation → Type 0
IsOfProblem problem d = All (IsTermOf problem 0) (terms_of d) × All (HasArity problem) (leaf_atoms (leaves_of d))

one-row : (problem : Problem) (row : List Derivation) → All (IsOfProblem problem) row → AreOfProblem problem (row ∷ [])
one-row problem row all = All-cons (All (IsOfProblem problem)) row [] all (All-nil (All (IsOfProblem problem)))

module _ (problem : Problem) where
  is-proof : (atom : Atom) (leaves : List Leaf) (d : Derivation) → IsRowProof problem atom leaves d
      → IsProofOf IsObject problem.axioms atom d
  is-proof atom leaves d p = record { proves = p.proves; terms = p.all_objects }

  is-of_problem : (atom : Atom) (leaves : List Leaf) (d : Derivation) → IsRowProof problem atom leaves d → IsOfProblem problem d
  is-of_problem atom leaves d p = (p.of_problem.terms, λ k e below. (p.of_problem.leaves k e below).0)

  renamed : (facts : List Atom) (atom : Atom) (d new : Derivation) → IsAnswerProof problem facts atom d → HasOtherLeaves d new
      → (leaves : List Leaf) × IsRowProof problem atom leaves new
  renamed facts atom d new p other = (other.0, subst (IsRowProof problem atom other.0) (sym other.2) (p.renamed other.0 other.1))

  each-row : (facts atoms : List Atom) (ds row : List Derivation) → AllZip (IsAnswerProof problem facts) atoms ds
      → AllZip HasOtherLeaves ds row
      → ProvesEachOf IsObject problem.axioms atoms row × All (IsOfProblem problem) row
  each-row facts [] [] [] are others = (tt, All-nil (IsOfProblem problem))
  each-row facts [] [] (new ∷ row) are others = absurd others
  each-row facts [] (d ∷ ds) row are others = absurd are
  each-row facts (atom ∷ atoms) [] row are others = absurd are
  each-row facts (atom ∷ atoms) (d ∷ ds) [] are others = absurd others
  each-row facts (atom ∷ atoms) (d ∷ ds) (new ∷ row) are others =
      let first = renamed facts atom d new are.0 others.0 in
      let rest = each-row facts atoms ds row are.1 others.1 in (
        (is-proof atom first.0 new first.1, rest.0),
        All-cons (IsOfProblem problem) new row (is-of_problem atom first.0 new first.1) rest.1,
      )

pub answers-support : AnswersSupport
answers-support = record {
  one = λ problem atom leaves d p. (
    is-proof problem atom leaves d p,
    one-row problem (d ∷ []) (All-cons (IsOfProblem problem) d [] (is-of_problem problem atom leaves d p)
        (All-nil (IsOfProblem problem))),
  );
  step = λ problem facts formula objects ds row valid of list others.
      let r =
      each-row problem facts formula ds row (answers-make_rows.without_variables problem facts formula objects ds valid.axioms of list)
      others in
      (r.0, one-row problem row r.1);
  goal = λ problem facts formula variable_count objects ds row valid of list others.
      let r =
      each-row problem facts (map (substitute_atom (object_terms objects)) formula) ds row
      (answers-make_rows.under problem facts formula variable_count objects ds valid.axioms of list) others in
      ((object_terms objects, length-map objects Obj ∙ list.count, r.0), one-row problem row r.1);
}
