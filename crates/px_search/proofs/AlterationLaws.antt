-- What an operator's instance changes in a model decides what it leaves.
use Rattle.std.proofs.Common.{◌≡◌, ◌∙◌, ◌++◌, ℕ, Bool, List, [], ◌∷◌, map, refl, ap, sym, subst}
use Rattle.std.specs.Prelude.{◌||◌, not, slice_get, Some}
use Rattle.std.specs.List.{filter, list_any}
use Rattle.px_terms.specs.AtomSets.{atom_set}
use Rattle.px_terms.specs.Instances.{is_instance}
use Rattle.px_terms.specs.Operators.{adds, atoms_of, results_of, schema_of}
use Rattle.px_terms.specs.Substitution.{substitute_atom}
use Rattle.px_terms.specs.declared.atom.Atom.{Atom}
use Rattle.px_terms.specs.declared.instance.OpInst.{OpInst}
use Rattle.px_terms.specs.declared.problem.Problem.{Problem}
use Rattle.px_table.specs.declared.entry.Entry.{Entry}
use Rattle.px_table.specs.declared.entry.Entry.TheVariants.{Op}
use Rattle.px_entries.specs.Entries.{effect_of}
use Rattle.px_numbers.specs.Numbers.{Kept, IsModelAt, KeepsAll}
use Rattle.px_numbers.specs.NumberLaws.{one_at, one_model}
use Rattle.px_ends.specs.Tasks.{Task}
use Rattle.px_search.specs.Cache.{IsAlterationAt, IsAlterationOf, IsAlteredAt, IsEntryAt, IsResultAt, model_altered}
use Rattle.px_search.specs.declared.cache.Alteration.{Alteration}
use Rattle.px_search.specs.declared.cache.EntryPlace.{EntryPlace}

any-mapped : (test : Atom → Bool) (f : Atom → Atom) (atoms : List Atom) → list_any test (map f atoms) ≡ list_any (λ x. test (f x)) atoms
any-mapped test f [] = refl
any-mapped test f (x ∷ xs) = ap (λ b. test (f x) || b) (any-mapped test f xs)

-- the model that the instance leaves is the one that is altered so
pub altered-by : (problem : Problem) (inst : OpInst) (facts deleted added : List Atom) → deleted ≡ atoms_of (schema_of problem inst).del
    inst
    → added ≡ adds problem inst → results_of problem facts (inst ∷ []) ≡ model_altered deleted added facts
altered-by problem inst facts deleted added deleted_is added_is =
    let patterns = (schema_of problem inst).del in
    let under : Atom → Atom = substitute_atom inst.args in
    let plain : results_of problem facts (inst ∷ []) ≡ model_altered (atoms_of patterns inst) (adds problem inst) facts =
    λ i. atom_set (filter (λ (atom : Atom). not (sym (any-mapped (is_instance atom) under patterns) i)) facts ++ adds problem inst) in
    plain ∙ (λ i. model_altered (sym deleted_is i) (sym added_is i) facts)

-- what an operator's instance changes is what its entry changes
pub alteration-at : (task : Task) (kept : Kept) (place : EntryPlace) (entry : Entry) (inst : OpInst) (alteration : Alteration)
    → slice_get kept.entries place.entry ≡ Some entry → entry ≡ Op inst → IsAlterationOf task.problem place.model inst alteration
    → IsAlterationAt task kept place alteration
alteration-at task kept place entry inst alteration at is of = record {
  model_is = of.model_is;
  same = λ other model other_at.
      let one : other ≡ Op inst = one_at kept.entries place.entry other entry other_at at ∙ is in
      ap (λ (e : Entry). results_of task.problem model (effect_of task.tables e)) one
      ∙ altered-by task.problem inst model alteration.deleted alteration.added of.deleted_is of.added_is;
}

-- a model that is kept for what the entry changes is the one that the entry leaves
pub altered-result : (task : Task) (kept : Kept) (place : EntryPlace) (alteration : Alteration) (number : ℕ) → IsEntryAt task kept place
    → IsAlterationAt task kept place alteration → IsAlteredAt kept alteration number → IsResultAt task kept place number
altered-result task kept place alteration number (model, entry, model_at, entry_at, is_entry) is (other, other_at, left) =
    let one : other ≡ model =
    one_model kept place.model other model (subst (λ (n : ℕ). IsModelAt kept n other) is.model_is other_at) model_at in
    let same : model_altered alteration.deleted alteration.added other ≡ results_of task.problem model (effect_of task.tables entry) =
    ap (model_altered alteration.deleted alteration.added) one ∙ sym (is.same entry model entry_at) in
    (model, entry, model_at, entry_at, subst (IsModelAt kept number) same left)

-- and the model that the entry leaves is one for what it changes
pub result-altered : (task : Task) (old new : Kept) (place : EntryPlace) (alteration : Alteration) (number : ℕ) → KeepsAll old new
    → IsEntryAt task old place → IsAlterationAt task old place alteration → IsResultAt task new place number
    → IsAlteredAt new alteration number
result-altered task old new place alteration number keeps at is (model, other, model_at, other_at, left) =
    let entry = at.1 in
    let one : other ≡ entry = one_at new.entries place.entry other entry other_at (keeps.entries place.entry entry at.3) in
    let same : results_of task.problem model (effect_of task.tables other) ≡ model_altered alteration.deleted alteration.added model =
    ap (λ (e : Entry). results_of task.problem model (effect_of task.tables e)) one ∙ is.same entry model at.3 in (
      model,
      subst (λ (n : ℕ). IsModelAt new n model) (sym is.model_is) model_at,
      subst (IsModelAt new number) same left,
    )
