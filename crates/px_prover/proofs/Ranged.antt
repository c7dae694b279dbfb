-- Only what belongs to the problem stands in the proofs of a first answer.
use Rattle.std.proofs.Common.{ℕ, List, [], ◌∷◌}
use Rattle.std.specs.Prelude.{All, map}
use Rattle.std.specs.List.{AllZip}
use Rattle.std.proofs.lemmas.List.Elements.{All-cons, All-nil}
use Rattle.px_proof.specs.Derivation.{Derivation, derivations}
use Rattle.px_proof.specs.Range.{IsDerivationOf}
use Rattle.px_question.proofs.RowLaws.{answers-make_rows}
use Rattle.px_question.specs.Answers.{IsFirst, object_terms}
use Rattle.px_question.specs.Rows.{IsAnswerProof}
use Rattle.px_question.specs.Settings.{setting_of}
use Rattle.px_terms.specs.Substitution.{substitute_atom}
use Rattle.px_terms.specs.Validity.{IsAtomOf, IsValid}
use Rattle.px_terms.specs.declared.atom.Atom.{Atom}
use Rattle.px_terms.specs.declared.problem.Problem.{Problem}

each_of_problem : (problem : Problem) (listed atoms : List Atom) (ds : List Derivation) → AllZip (IsAnswerProof problem listed) atoms ds
    → All (IsDerivationOf problem 0) ds
each_of_problem problem listed [] [] each = All-nil (IsDerivationOf problem 0)
each_of_problem problem listed [] (d ∷ ds) each = absurd each
each_of_problem problem listed (atom ∷ atoms) [] each = absurd each
each_of_problem problem listed (atom ∷ atoms) (d ∷ ds) each =
    All-cons (IsDerivationOf problem 0) d ds each.0.here.of_problem (each_of_problem problem listed atoms ds each.1)

pub answer-of_problem : (problem : Problem) (listed formula : List Atom) (variable_count : ℕ) (objects : List ℕ) (ds : List Derivation)
    → IsValid problem → All (IsAtomOf problem variable_count) formula
    → IsFirst (setting_of problem listed) formula variable_count objects (derivations ds) → All (IsDerivationOf problem 0) ds
answer-of_problem problem listed formula variable_count objects ds valid scope first =
    each_of_problem problem listed (map (substitute_atom (object_terms objects)) formula) ds
    (answers-make_rows.under problem listed formula variable_count objects ds valid.axioms scope first.finished)
