-- The steps of a learned table with objects for its parameters.
use Rattle.std.proofs.Common.{◌≡◌, ◌++◌, ℕ, zero, suc, List, [], ◌∷◌, map, take, length, refl, sym, ◌∙◌, ap, subst, Some, slice_get}
use Rattle.std.specs.Prelude.{All, Option, slice_index_or, unwrap_or}
use Rattle.std.proofs.lemmas.List.{length-map}
use Rattle.std.proofs.lemmas.List.Elements.{All-map, All-take}
use Rattle.std.proofs.lemmas.Option.{slice_get_read, slice_get_within}
use Rattle.px_base.specs.ListLaws.{All-at, All-each, Contains-one}
use Rattle.px_ops.specs.KeepLaws.{has_at}
use Rattle.px_entries.specs.Entries.{IsEntry, effect_of, table_at}
use Rattle.px_entries.specs.Learned.{AreLearned}
use Rattle.px_terms.specs.declared.atom.Atom.{Atom}
use Rattle.px_terms.specs.declared.instance.OpInst.{OpInst}
use Rattle.px_terms.specs.declared.problem.Problem.{Problem}
use Rattle.px_terms.specs.Operators.{result_of, results_of}
use Rattle.px_terms.specs.Validity.{IsGroundInstanceOf}
use Rattle.px_table.specs.declared.entry.Entry.{Entry}
use Rattle.px_table.specs.declared.entry.Entry.TheVariants.{Op, Macro}
use Rattle.px_table.specs.declared.table.Table.{Table}
use Rattle.px_table.specs.Kernels.{instance_under, steps_under}
use Rattle.px_table.specs.Tables.{IsStepOf, IsTable, empty_table}
use Rattle.px_terms.specs.ValidityLaws.{instance-is_ground}
use Rattle.px_table.specs.UnderLaws.{step_under-objects}

pub ground-of : (problem : Problem) (sigma : List ℕ) (inst : OpInst) → IsStepOf problem (length sigma) inst
    → IsGroundInstanceOf problem (instance_under sigma inst)
ground-of problem sigma inst is =
    record {
      op = is.op;
      count = length-map inst.args _
          ∙ is.count;
      all_objects = step_under-objects problem (length sigma) sigma inst refl is;
    }

pub results-more : (problem : Problem) (model : List Atom) (steps : List OpInst) (step : OpInst)
    → results_of problem model (steps ++ step ∷ []) ≡ result_of problem (results_of problem model steps) step
results-more problem model [] step = refl
results-more problem model (s ∷ ss) step = results-more problem (result_of problem model s) ss step

pub applied-more : (problem : Problem) (model next after : List Atom) (steps : List OpInst) (step : OpInst)
    → next ≡ results_of problem model steps → after ≡ result_of problem next step → after ≡ results_of problem model (steps ++ step ∷ [])
applied-more problem model next after steps step so_far is =
    is ∙ ap (λ (m : List Atom). result_of problem m step) so_far ∙ sym (results-more problem model steps step)

pub take-map : {A B : Type 0} (f : A → B) (n : ℕ) (xs : List A) → take n (map f xs) ≡ map f (take n xs)
take-map f zero xs = refl
take-map f (suc n) [] = refl
take-map f (suc n) (x ∷ xs) = ap (λ l. f x ∷ l) (take-map f n xs)

-- a MACROP's effect: the first steps of its table, with the objects for the parameters
pub effect-macro : (problem : Problem) (tables : List Table) (number prefix : ℕ) (sigma given : List ℕ) (entry : Entry) (table : Table)
    (steps : List OpInst) → IsEntry problem tables entry → entry ≡ Macro number prefix sigma
    → table ≡ slice_index_or tables number table → steps ≡ table.steps → given ≡ sigma
    → map (instance_under given) (take prefix steps) ≡ effect_of tables entry
effect-macro problem tables number prefix sigma given entry table steps is_entry entry_is table_is steps_are given_is =
    let e : IsEntry problem tables (Macro number prefix sigma) = subst (IsEntry problem tables) entry_is is_entry in
    let at : slice_get tables number ≡ Some table =
    slice_get_read tables (length tables) number table refl (slice_get_within tables number e.0 e.1) table_is in
    let same : table_at tables number ≡ table =
    ap (λ (o : Option Table). unwrap_or o empty_table) at in
    (λ i. map (instance_under (given_is i)) (take prefix (steps_are i))) ∙ sym (take-map (instance_under sigma) prefix table.steps)
    ∙ ap (λ (t : Table). take prefix (steps_under t sigma)) (sym same) ∙ ap (effect_of tables) (sym entry_is)

module _ (problem : Problem) (tables : List Table) (learned : AreLearned problem tables) where
  -- the table of a MACROP's number
  table-is : (number : ℕ) (table : Table) → slice_get tables number ≡ Some table → IsTable problem table
  table-is number table at = All-at (IsTable problem) tables table learned.each (has_at tables number table at)

  pub steps-are : (number prefix : ℕ) (sigma : List ℕ) → IsEntry problem tables (Macro number prefix sigma)
      → All (IsStepOf problem (length sigma)) (take prefix (table_at tables number).steps)
  steps-are number prefix sigma (table, at, macro) =
      let same : table_at tables number ≡ table =
      ap (λ (o : Option Table). unwrap_or o empty_table) at
      in
      let is = (table-is number table at).in_range.steps in
      subst (λ (t : Table). All (IsStepOf problem (length sigma)) (take prefix t.steps)) (sym same)
      (subst (λ (n : ℕ). All (IsStepOf problem n) (take prefix table.steps)) (sym macro.count)
      (All-take (IsStepOf problem table.params) prefix table.steps is))

  -- each step of an entry's effect is an instance of an operator
  pub effect-ground : (entry : Entry) → IsEntry problem tables entry → All (IsGroundInstanceOf problem) (effect_of tables entry)
  effect-ground (Op inst) is =
      All-each (IsGroundInstanceOf problem) (inst ∷ [])
      (λ step has. subst (IsGroundInstanceOf problem) (Contains-one inst step has) (instance-is_ground problem inst is.of))
  effect-ground (Macro number prefix sigma) is =
      subst (All (IsGroundInstanceOf problem)) (sym (take-map (instance_under sigma) prefix (table_at tables number).steps))
      (All-map (IsGroundInstanceOf problem) (instance_under sigma) (take prefix (table_at tables number).steps)
      (λ k d below. ground-of problem sigma _ (steps-are number prefix sigma is k d below)))
