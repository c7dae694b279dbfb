-- The problem's schema at its place is that of its instances.
use Rattle.std.proofs.Common.{◌≡◌, ◌<◌, ℕ, length, get_or, sym, ap, ◌∙◌, subst}
use Rattle.std.proofs.lemmas.List.{get_or_default}
use Rattle.px_terms.specs.declared.instance.OpInst.{OpInst}
use Rattle.px_terms.specs.declared.problem.Problem.{Problem}
use Rattle.px_terms.specs.declared.problem.Schema.{Schema}
use Rattle.std.specs.Prelude.{slice_index_or}
use Rattle.px_terms.specs.Operators.{no_schema, schema_of, precondition, adds, atoms_of, IsSchemaAt}
use Rattle.px_terms.specs.Validity.{IsValid, IsSchemaOf, IsSchemaWellFormed, IsInstanceOf}
use Rattle.px_terms.specs.ValidityLaws.{well_formed_schema}

pub schema_here : (problem : Problem) (schema : Schema) (inst : OpInst) → IsSchemaAt problem schema → schema.op ≡ inst.op
    → schema_of problem inst ≡ schema
schema_here problem schema inst at op = ap (λ n. slice_index_or problem.schemas n no_schema) (sym op) ∙ at.here

pub precondition_here : (problem : Problem) (schema : Schema) (inst : OpInst) → IsSchemaAt problem schema → schema.op ≡ inst.op
    → precondition problem inst ≡ atoms_of schema.pre inst
precondition_here problem schema inst at op = ap (λ (s : Schema). atoms_of s.pre inst) (schema_here problem schema inst at op)

pub adds_here : (problem : Problem) (schema : Schema) (inst : OpInst) → IsSchemaAt problem schema → schema.op ≡ inst.op
    → adds problem inst ≡ atoms_of schema.add inst
adds_here problem schema inst at op = ap (λ (s : Schema). atoms_of s.add inst) (schema_here problem schema inst at op)

pub schema_of_problem : (problem : Problem) (schema : Schema) → IsValid problem → IsSchemaAt problem schema
    → IsSchemaOf problem schema.op schema
schema_of_problem problem schema valid at = subst (IsSchemaOf problem schema.op) at.here (valid.schemas schema.op at.within)

pub well_formed_here : (problem : Problem) (schema : Schema) → IsValid problem → IsSchemaAt problem schema → IsSchemaWellFormed schema
well_formed_here problem schema valid at = well_formed_schema problem schema.op schema (schema_of_problem problem schema valid at)

pub count_here : (problem : Problem) (schema : Schema) (inst : OpInst) → IsSchemaAt problem schema → schema.op ≡ inst.op
    → IsInstanceOf problem inst → length inst.args ≡ schema.params
count_here problem schema inst at op is = is.count ∙ ap (λ (s : Schema). s.params) (schema_here problem schema inst at op)

pub schema_number : (problem : Problem) (i : ℕ) (schema : Schema) → IsValid problem → i < length problem.schemas
    → schema ≡ get_or problem.schemas i schema → schema.op ≡ i
schema_number problem i schema valid below is =
    let same : slice_index_or problem.schemas i no_schema ≡ schema = get_or_default problem.schemas i no_schema schema below ∙ sym is in
    sym (ap (λ (s : Schema). s.op) same) ∙ (valid.schemas i below).number

pub schema_at : (problem : Problem) (i : ℕ) (schema : Schema) → IsValid problem → i < length problem.schemas
    → schema ≡ get_or problem.schemas i schema → IsSchemaAt problem schema
schema_at problem i schema valid below is =
    let number = schema_number problem i schema valid below is in record {
      within = subst (λ (n : ℕ). n < length problem.schemas) (sym number) below;
      here = ap (λ (n : ℕ). slice_index_or problem.schemas n no_schema) number ∙ get_or_default problem.schemas i no_schema schema below ∙
          sym is;
    }
