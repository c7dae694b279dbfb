-- The table of a MACROP, and its first steps with the objects.
use Rattle.std.specs.Prelude.{◌≡◌, ◌≤◌, ℕ, Option, List, [], ◌∷◌, length, map, take, unwrap_or, All, Contains}
use Rattle.std.proofs.Common.{zero, suc, refl, sym, ap, ◌∙◌, subst, inl, arith}
use Rattle.std.proofs.lemmas.List.{length-map}
use Rattle.std.proofs.lemmas.List.Elements.{All-map, All-take}
use Rattle.px_table.specs.Limits.{most_steps}
use Rattle.px_base.specs.ListLaws.{All-at, All-each}
use Rattle.px_terms.specs.declared.instance.OpInst.{OpInst}
use Rattle.px_terms.specs.declared.problem.Problem.{Problem}
use Rattle.px_terms.specs.declared.term.Term.{Term}
use Rattle.px_terms.specs.declared.term.Term.TheVariants.{Obj, Var, Any}
use Rattle.px_terms.specs.Language.{substitute}
use Rattle.px_terms.specs.Validity.{IsInstanceOf, IsTermOf}
use Rattle.px_table.specs.declared.entry.Entry.TheVariants.{Macro}
use Rattle.px_table.specs.declared.table.Table.{Table}
use Rattle.px_table.specs.Kernels.{instance_under, steps_under}
use Rattle.px_table.specs.Prefixes.{IsMacro}
use Rattle.px_table.specs.Tables.{IsStepOf, IsTable, empty_table}
use Rattle.px_ops.specs.KeepLaws.{has_at}
use Rattle.px_entries.proofs.RowSteps.{object-of}
use Rattle.px_entries.specs.Entries.{IsEntry, table_at}
use Rattle.px_entries.specs.Learned.{AreLearned}

-- the table of the number, of which the entry takes first steps
module _ (problem : Problem) (tables : List Table) (learned : AreLearned problem tables) (number prefix : ℕ) (sigma : List ℕ)
    (entry : IsEntry problem tables (Macro number prefix sigma)) where
  pub table-same : table_at tables number ≡ entry.0
  table-same =
      ap (λ (o : Option Table). unwrap_or o empty_table) entry.1

  pub macro-table : IsTable problem (table_at tables number) × IsMacro problem (table_at tables number) prefix sigma
      × (length (table_at tables number).steps ≤ most_steps)
  macro-table =
      let has = has_at tables number entry.0 entry.1 in
      subst (λ (t : Table). IsTable problem t × IsMacro problem t prefix sigma × (length t.steps ≤ most_steps)) (sym table-same) (
        All-at (IsTable problem) tables entry.0 learned.each has,
        entry.2,
        All-at (λ (t : Table). length t.steps ≤ most_steps) tables entry.0 learned.short has,
      )

module _ (problem : Problem) (table : Table) (prefix : ℕ) (sigma : List ℕ) (is : IsTable problem table)
    (m : IsMacro problem table prefix sigma) where
  term-in : (inst : OpInst) → Contains (take prefix table.steps) inst → (t : Term) → Contains inst.args t → IsTermOf problem table.params t
      → IsTermOf problem 0 (substitute (map Obj sigma) t)
  term-in inst has (Obj n) there h = h
  term-in inst has (Var v) there h =
      object-of problem sigma v (omega (arith, h, m.count)) (m.used v h (inl (has.0, inst, has.1, has.2, there)))
  term-in inst has Any there h = h

  step-in : (inst : OpInst) → Contains (take prefix table.steps) inst → IsStepOf problem table.params inst
      → IsInstanceOf problem (instance_under sigma inst)
  step-in inst has of = record {
    op = of.op;
    count = length-map inst.args (substitute (map Obj sigma)) ∙ of.count;
    objects = All-map (IsTermOf problem 0) (substitute (map Obj sigma)) inst.args
        (All-each (λ t. IsTermOf problem 0 (substitute (map Obj sigma) t)) inst.args
        (λ t there. term-in inst has t there (All-at (IsTermOf problem table.params) inst.args t of.terms there)));
  }

  take-map : (n : ℕ) (steps : List OpInst) → take n (map (instance_under sigma) steps) ≡ map (instance_under sigma) (take n steps)
  take-map zero steps = refl
  take-map (suc n) [] = refl
  take-map (suc n) (s ∷ steps) = ap (λ (l : List OpInst). instance_under sigma s ∷ l) (take-map n steps)

  -- they are instances over the problem's objects
  pub macro-instances : All (IsInstanceOf problem) (take prefix (steps_under table sigma))
  macro-instances =
      subst (All (IsInstanceOf problem)) (sym (take-map prefix table.steps))
      (All-map (IsInstanceOf problem) (instance_under sigma) (take prefix table.steps)
      (All-each (λ inst. IsInstanceOf problem (instance_under sigma inst)) (take prefix table.steps) (λ inst has.
      step-in inst has (All-at (IsStepOf problem table.params) (take prefix table.steps) inst
      (All-take (IsStepOf problem table.params) prefix table.steps is.in_range.steps) has))))
