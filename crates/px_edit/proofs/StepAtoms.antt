-- The atoms of a step over parameters are over these parameters.
use Rattle.std.specs.Prelude.{◌≡◌, ◌<◌, ℕ, List, [], ◌∷◌, ◌++◌, map, length, slice_index_or, All, Contains}
use Rattle.std.proofs.Common.{suc, refl, sym, ap, ◌∙◌, subst, arith, append-nil}
use Rattle.std.proofs.lemmas.List.{length-map}
use Rattle.std.proofs.lemmas.List.Elements.{All-map}
use Rattle.px_base.specs.ListLaws.{All-at, All-each}
use Rattle.px_terms.specs.declared.atom.Atom.{Atom}
use Rattle.px_terms.specs.declared.instance.OpInst.{OpInst}
use Rattle.px_terms.specs.declared.problem.Problem.{Problem}
use Rattle.px_terms.specs.declared.term.Term.{Term}
use Rattle.px_terms.specs.declared.term.Term.TheVariants.{Obj, Var, Any}
use Rattle.px_terms.specs.Language.{substitute}
use Rattle.px_terms.specs.Operators.{adds, precondition, schema_of}
use Rattle.px_terms.specs.Substitution.{substitute_atom}
use Rattle.px_terms.specs.Validity.{IsAtomOf, IsTermOf, IsValid}
use Rattle.px_table.specs.Supports.{variables}
use Rattle.px_table.specs.Tables.{IsStepOf}
use Rattle.px_edit.proofs.Names.{read-variable}

module _ (problem : Problem) (params : ℕ) (args : List Term) (terms : All (IsTermOf problem params) args) where
  term-of : (variable_count : ℕ) → length args ≡ variable_count → (t : Term) → IsTermOf problem variable_count t → IsTermOf problem params (substitute args t)
  term-of variable_count long (Obj n) is = is
  term-of variable_count long (Var v) is = terms v Any (omega (arith, long, is))
  term-of variable_count long Any is = absurd is

  atom-of : (variable_count : ℕ) → length args ≡ variable_count → (atom : Atom) → IsAtomOf problem variable_count atom
      → IsAtomOf problem params (substitute_atom args atom)
  atom-of variable_count long atom is = (
    (is.0.0, length-map atom.args (substitute args) ∙ is.0.1),
    All-map (IsTermOf problem params) (substitute args) atom.args (λ k d below. term-of variable_count long _ (is.1 k d below)),
  )

module _ (problem : Problem) (valid : IsValid problem) (params : ℕ) (inst : OpInst) (is : IsStepOf problem params inst) where
  pub adds-of_step : All (IsAtomOf problem params) (adds problem inst)
  adds-of_step = All-map (IsAtomOf problem params) (substitute_atom inst.args) (schema_of problem inst).add
      (λ k d below. atom-of problem params inst.args is.terms (schema_of problem inst).params is.count _
      ((valid.schemas inst.op is.op).add k d below))

  pub precondition-of_step : All (IsAtomOf problem params) (precondition problem inst)
  precondition-of_step = All-map (IsAtomOf problem params) (substitute_atom inst.args) (schema_of problem inst).pre
      (λ k d below. atom-of problem params inst.args is.terms (schema_of problem inst).params is.count _
      ((valid.schemas inst.op is.op).pre k d below))

-- ---- the parameters for themselves

own-term : (problem : Problem) (params : ℕ) (t : Term) → IsTermOf problem params t → substitute (variables params ++ []) t ≡ t
own-term problem params (Obj n) is = refl
own-term problem params (Var v) is =
    ap (λ l. slice_index_or l v Any) (append-nil (variables params)) ∙ read-variable 0 params v is ∙ ap Var (omega arith)
own-term problem params Any is = absurd is

own-terms : (problem : Problem) (params : ℕ) (ts : List Term) → All (IsTermOf problem params) ts
    → map (substitute (variables params ++ [])) ts ≡ ts
own-terms problem params [] all = refl
own-terms problem params (t ∷ ts) all =
    let head = own-term problem params t (all 0 t (omega arith)) in
    let tail = own-terms problem params ts (λ k d below. all (suc k) d (omega (arith, below))) in
    λ i. head i ∷ tail i

pub own-goal : (problem : Problem) (params : ℕ) (goal : List Atom) → All (IsAtomOf problem params) goal
    → map (substitute_atom (variables params ++ [])) goal ≡ goal
own-goal problem params [] all = refl
own-goal problem params (a ∷ goal) all =
    let args = own-terms problem params a.args (all 0 a (omega arith)).1 in
    let tail = own-goal problem params goal (λ k d below. all (suc k) d (omega (arith, below))) in
    λ i. record { pred = a.pred; args = args i } ∷ tail i
