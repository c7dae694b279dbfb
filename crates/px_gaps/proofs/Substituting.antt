-- Terms that stand for variables: an atom keeps its predicate, and stays one of the problem.
use Rattle.std.specs.Prelude.{ℕ, List, length, map, All}
use Rattle.std.proofs.Common.{◌∙◌, ◌≡◌, [], ◌∷◌, refl, ap}
use Rattle.std.proofs.lemmas.List.{length-map}
use Rattle.std.proofs.lemmas.List.Elements.{All-map}
use Rattle.px_terms.specs.declared.atom.Atom.{Atom}
use Rattle.px_terms.specs.declared.problem.Problem.{Problem}
use Rattle.px_terms.specs.declared.term.Term.{Term}
use Rattle.px_terms.specs.declared.term.Term.TheVariants.{Obj, Var, Any}
use Rattle.px_terms.specs.Language.{IsVariableBelow, substitute}
use Rattle.px_terms.specs.Substitution.{substitute_atom}
use Rattle.px_terms.specs.Validity.{IsAtomOf, IsTermOf}

pub term_variable : (problem : Problem) (variable_count : ℕ) (t : Term) → IsTermOf problem variable_count t → IsVariableBelow variable_count t
term_variable problem variable_count (Obj n) of = tt
term_variable problem variable_count (Var v) of = of
term_variable problem variable_count Any of = tt

pub term_in : (problem : Problem) (variable_count : ℕ) (args : List Term) → All (IsTermOf problem variable_count) args → (t : Term)
    → IsTermOf problem (length args) t → IsTermOf problem variable_count (substitute args t)
term_in problem variable_count args all (Obj n) of = of
term_in problem variable_count args all (Var v) of = all v Any of
term_in problem variable_count args all Any of = absurd of

pub atom_in : (problem : Problem) (variable_count : ℕ) (args : List Term) → All (IsTermOf problem variable_count) args → (atom : Atom)
    → IsAtomOf problem (length args) atom → IsAtomOf problem variable_count (substitute_atom args atom)
atom_in problem variable_count args all atom of = (
  (of.0.0, length-map atom.args (substitute args) ∙ of.0.1),
  All-map (IsTermOf problem variable_count) (substitute args) atom.args (λ k d below. term_in problem variable_count args all _ (of.1 k d below)),
)

pub preds-same : (args : List Term) (atoms : List Atom)
    → map (λ (atom : Atom). atom.pred) (map (substitute_atom args) atoms) ≡ map (λ (atom : Atom). atom.pred) atoms
preds-same args [] = refl
preds-same args (atom ∷ atoms) = ap (λ (l : List ℕ). atom.pred ∷ l) (preds-same args atoms)
