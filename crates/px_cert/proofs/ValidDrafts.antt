-- The problem of lines that are sound is valid.
use Rattle.std.proofs.Common.{◌≡◌, ℕ, zero, suc, length, refl, arith}
use Rattle.std.proofs.lemmas.List.Elements.{All-from_get_or}
use Rattle.px_terms.specs.declared.atom.Atom.{Atom}
use Rattle.px_terms.specs.declared.clause.Clause.{Clause}
use Rattle.px_terms.specs.declared.problem.Problem.{Problem}
use Rattle.px_terms.specs.declared.problem.Schema.{Schema}
use Rattle.px_terms.specs.declared.term.Term.{Term}
use Rattle.px_terms.specs.declared.term.Term.TheVariants.{Obj, Var, Any}
use Rattle.px_terms.specs.Clauses.{IsClause}
use Rattle.px_terms.specs.Language.{IsPlainBelow}
use Rattle.px_terms.specs.Operators.{no_schema}
use Rattle.px_terms.specs.Validity.{IsAtomOf, IsAxiomOf, IsPatternOf, IsPatternTermOf, IsSchemaOf, IsTermOf, IsValid}
use Rattle.px_cert.specs.declared.draft.Draft.{Draft}
use Rattle.px_cert.specs.Drafts.{HasObjectFor, language, problem_of}
use Rattle.px_cert.specs.Sound.{IsGoodClause, IsSound}

plain_term : (p : Problem) (variable_count : ℕ) (t : Term) → IsTermOf p variable_count t → IsPlainBelow variable_count t
plain_term p variable_count (Obj n) is = tt
plain_term p variable_count (Var v) is = is
plain_term p variable_count Any is = is

no_object_for : (d : Draft) (count : ℕ) → length d.objects ≡ 0 → HasObjectFor d count → count ≡ 0
no_object_for d zero nothing has = refl
no_object_for d (suc count) nothing has = let some = has (omega arith) in absurd (omega (arith, nothing, some))

-- the axioms and operators are no part of what a term is of
module _ (d : Draft) (variable_count : ℕ) where
  term_of_problem : (t : Term) → IsTermOf (language d) variable_count t → IsTermOf (problem_of d) variable_count t
  term_of_problem (Obj n) is = is
  term_of_problem (Var v) is = is
  term_of_problem Any is = is

  pattern_of_problem : (t : Term) → IsPatternTermOf (language d) variable_count t → IsPatternTermOf (problem_of d) variable_count t
  pattern_of_problem (Obj n) is = is
  pattern_of_problem (Var v) is = is
  pattern_of_problem Any is = is

  atom_of_problem : (a : Atom) → IsAtomOf (language d) variable_count a → IsAtomOf (problem_of d) variable_count a
  atom_of_problem a is = (is.0, λ k t below. term_of_problem _ (is.1 k t below))

  atom_pattern_of_problem : (a : Atom) → IsPatternOf (language d) variable_count a → IsPatternOf (problem_of d) variable_count a
  atom_pattern_of_problem a is = (is.0, λ k t below. pattern_of_problem _ (is.1 k t below))

schema_of_problem : (d : Draft) (place : ℕ) (s : Schema) → IsSchemaOf (language d) place s → IsSchemaOf (problem_of d) place s
schema_of_problem d place s is = record {
  number = is.number;
  params = is.params;
  pre = λ k a below. atom_of_problem d s.params _ (is.pre k a below);
  del = λ k a below. atom_pattern_of_problem d s.params _ (is.del k a below);
  add = λ k a below. atom_of_problem d s.params _ (is.add k a below);
  short = is.short;
  sorts = is.sorts;
}

axiom_of_problem : (d : Draft) (c : Clause) → IsAxiomOf (language d) c → IsAxiomOf (problem_of d) c
axiom_of_problem d c is = record { variable_count = is.variable_count; lits = λ k l below. atom_of_problem d c.variable_count _ (is.lits k l below) }

pub clause_of_axiom : (d : Draft) (c : Clause) → IsGoodClause d c → IsClause c
clause_of_axiom d c is = record {
  size = is.1;
  plain = λ k l below j t inside. plain_term (language d) c.variable_count _ ((is.0.lits k l below).1 j t inside);
}

pub sound_valid : (d : Draft) → IsSound d → IsValid (problem_of d)
sound_valid d sound =
    let few_clauses = sound.few_clauses in
    let few_operators = sound.few_operators in
    let objects = sound.objects.0 in
    let arities = sound.arities.0 in
    record {
      schemas = λ k below. schema_of_problem d k _ (sound.operators k below).0;
      axioms = λ k c below. axiom_of_problem d _ (sound.clauses k c below).0;
      arena = record { each = λ k c below. clause_of_axiom d _ (sound.clauses k c below); most = omega arith };
      short = (omega arith, omega arith);
      height = (omega arith, omega arith);
      nodes = (omega arith, omega arith);
      shapes = (omega arith, omega arith);
      weight = omega arith;
      sorts = (refl, sound.objects.1, omega arith);
      no_objects = λ nothing. (
        All-from_get_or (λ (s : Schema). s.params ≡ 0) d.schemas no_schema (λ k below. no_object_for d _ nothing (sound.operators k below).1),
        λ k c below. no_object_for d _ nothing (sound.clauses k c below).2,
      );
    }
