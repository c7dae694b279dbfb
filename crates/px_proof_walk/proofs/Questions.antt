-- What a valid problem and a model give to the walk.
use Rattle.std.proofs.Common.{◌≡◌, ℕ, zero, suc, ◌<◌, List, refl, arith}
use Rattle.std.specs.Prelude.{All}
use Rattle.std.specs.List.{AllByRecursion}
use Rattle.px_ops.specs.Models.{IsModel}
use Rattle.px_proof.specs.PlaceLaws.{All-got}
use Rattle.px_proof.specs.Proves.{IsObjectOrParameter}
use Rattle.px_question.specs.Settings.{setting_of}
use Rattle.px_terms.specs.declared.atom.Atom.{Atom}
use Rattle.px_terms.specs.declared.clause.Clause.{Clause}
use Rattle.px_terms.specs.declared.clause.Lit.{Lit}
use Rattle.px_terms.specs.declared.problem.Problem.{Problem}
use Rattle.px_terms.specs.declared.term.Term.{Term}
use Rattle.px_terms.specs.declared.term.Term.TheVariants.{Obj, Var, Any}
use Rattle.px_terms.specs.Instances.{IsGround}
use Rattle.px_terms.specs.Language.{IsObject}
use Rattle.px_terms.specs.Validity.{IsValid, IsAxiomOf, IsAtomOf, IsTermOf}
use Rattle.px_proof_walk.specs.Scope.{IsAtomIn, IsLitIn, IsSetting}
use Rattle.px_proof_walk.proofs.Every.{all-recursion, all-weaker}

term-in : (problem : Problem) (variable_count : ℕ) (t : Term) → IsTermOf problem variable_count t → IsObjectOrParameter problem.objects variable_count t
term-in problem variable_count (Obj n) h = h
term-in problem variable_count (Var v) h = h
term-in problem variable_count Any h = h

pub atom-in : (problem : Problem) (variable_count : ℕ) (atom : Atom) → IsAtomOf problem variable_count atom → IsAtomIn problem.objects variable_count atom
atom-in problem variable_count atom h =
    all-weaker (IsTermOf problem variable_count) (IsObjectOrParameter problem.objects variable_count) atom.args (term-in problem variable_count)
    (all-recursion (IsTermOf problem variable_count) atom.args h.1)

-- the atoms of a formula of the problem are in scope
pub formula-in : (problem : Problem) (variable_count : ℕ) (formula : List Atom) → All (IsAtomOf problem variable_count) formula
    → AllByRecursion (IsAtomIn problem.objects variable_count) formula
formula-in problem variable_count formula all =
    all-weaker (IsAtomOf problem variable_count) (IsAtomIn problem.objects variable_count) formula (atom-in problem variable_count)
    (all-recursion (IsAtomOf problem variable_count) formula all)

some_below : (objects variable_count : ℕ) → (objects ≡ 0 → variable_count ≡ 0) → 0 < variable_count → 0 < objects
some_below zero variable_count never some = omega (arith, never refl, some)
some_below (suc n) variable_count never some = omega arith

-- what is read of a valid problem and a model is as the walk asks
pub setting_of-is : (problem : Problem) (atoms : List Atom) → IsValid problem → IsModel atoms → IsSetting (setting_of problem atoms)
setting_of-is problem atoms valid model = record {
  clauses = λ number clause at.
      let one : IsAxiomOf problem clause = All-got (IsAxiomOf problem) problem.axioms number clause valid.axioms at in
      all-weaker (λ (lit : Lit). IsAtomOf problem clause.variable_count lit.atom) (IsLitIn problem.objects clause.variable_count) clause.lits
      (λ lit. atom-in problem clause.variable_count lit.atom)
      (all-recursion (λ (lit : Lit). IsAtomOf problem clause.variable_count lit.atom) clause.lits one.lits);
  facts = λ i atom at. all-recursion IsObject atom.args (All-got IsGround atoms i atom model.all_ground at);
  some_height = valid.height.0;
  some_object =
      λ number clause at. some_below problem.objects clause.variable_count
      (λ none_there. All-got (λ (c : Clause). c.variable_count ≡ 0) problem.axioms number clause (valid.no_objects none_there).1 at);
}
