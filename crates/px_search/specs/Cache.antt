-- What a search keeps of what it has learned.
use Rattle.std.specs.Prelude.{◌≡◌, ℕ, List, [], ◌∷◌, ◌++◌, not, Some, slice_get, Contains, IsTrue, Result, Ok, Err}
use Rattle.std.specs.List.{filter, list_any}
use Rattle.px_terms.specs.declared.atom.Atom.{Atom}
use Rattle.px_terms.specs.declared.instance.OpInst.{OpInst}
use Rattle.px_terms.specs.declared.problem.Problem.{Problem}
use Rattle.px_terms.specs.AtomSets.{atom_set}
use Rattle.px_terms.specs.Instances.{is_instance}
use Rattle.px_terms.specs.Operators.{adds, atoms_of, results_of, schema_of}
use Rattle.px_table.specs.declared.entry.Entry.{Entry}
use Rattle.px_entries.specs.Entries.{IsEntry, effect_of}
use Rattle.px_entries.specs.Unlimited.{IsNeverLimited}
use Rattle.px_diff.specs.Outcomes.{AtStop}
use Rattle.px_diff.specs.declared.move_err.MoveErr.{MoveErr}
use Rattle.px_numbers.specs.Numbers.{Kept, IsModelAt, IsStackAt, KeepsAll}
use Rattle.px_ends.specs.Tasks.{Task}
use Rattle.px_search.specs.Going.{AreFirstSuccessors}
use Rattle.px_search.specs.Offers.{IsOfferAt}
use Rattle.px_search.specs.declared.cache.Cache.{Cache}
use Rattle.px_search.specs.declared.cache.Offer.{Offer}
use Rattle.px_search.specs.declared.cache.EntryPlace.{EntryPlace}
use Rattle.px_search.specs.declared.cache.Alteration.{Alteration}

-- the steps are the first moves where the entry of the place stands on the stack, alone, in its model
abbrev pub IsStepsAt : Task → Kept → EntryPlace → Offer → Type 0
IsStepsAt task kept place offer =
    (model : List Atom) × (entry : Entry) × IsModelAt kept place.model model × (slice_get kept.entries place.entry ≡ Some entry)
    × AreFirstSuccessors task kept (record { model = model; stack = entry ∷ [] }) offer.steps offer.is_all

-- the stack has the entry of the place on top, over the stack of that number, and the model is that of the place
pub record IsTopAt (kept : Kept) (place : EntryPlace) (below : ℕ) (model : List Atom) (stack : List Entry) : Type 0 where
  pub entry : Entry
  pub rest : List Entry
  pub stack_is : stack ≡ entry ∷ rest
  pub model_at : IsModelAt kept place.model model
  pub entry_at : slice_get kept.entries place.entry ≡ Some entry
  pub below_at : IsStackAt kept below rest

-- the entry of the place is one of the problem's, in the model of the place
abbrev pub IsEntryAt : Task → Kept → EntryPlace → Type 0
IsEntryAt task kept place =
    (model : List Atom) × (entry : Entry) × IsModelAt kept place.model model × (slice_get kept.entries place.entry ≡ Some entry)
    × IsEntry task.problem task.tables entry

-- applying the entry of the place in its model leaves the model of the number
abbrev pub IsResultAt : Task → Kept → EntryPlace → ℕ → Type 0
IsResultAt task kept place number =
    (model : List Atom) × (entry : Entry) × IsModelAt kept place.model model × (slice_get kept.entries place.entry ≡ Some entry)
    × IsModelAt kept number (results_of task.problem model (effect_of task.tables entry))

-- what is left of a model without what these patterns delete, and with what is added
abbrev pub model_altered : List Atom → List Atom → List Atom → List Atom
model_altered deleted added model = atom_set (filter (λ atom. not (list_any (is_instance atom) deleted)) model ++ added)

-- it is what the instance changes in the model of the number
pub record IsAlterationOf (problem : Problem) (model : ℕ) (inst : OpInst) (alteration : Alteration) : Type 0 where
  pub model_is : alteration.model ≡ model
  pub deleted_is : alteration.deleted ≡ atoms_of (schema_of problem inst).del inst
  pub added_is : alteration.added ≡ adds problem inst

-- it is what applying the entry of the place changes in its model
pub record IsAlterationAt (task : Task) (kept : Kept) (place : EntryPlace) (alteration : Alteration) : Type 0 where
  pub model_is : alteration.model ≡ place.model
  pub same : (entry : Entry) (model : List Atom) → slice_get kept.entries place.entry ≡ Some entry
      → results_of task.problem model (effect_of task.tables entry) ≡ model_altered alteration.deleted alteration.added model

-- changing this in its model leaves the model of the number
abbrev pub IsAlteredAt : Kept → Alteration → ℕ → Type 0
IsAlteredAt kept alteration number =
    (model : List Atom) × IsModelAt kept alteration.model model
    × IsModelAt kept number (model_altered alteration.deleted alteration.added model)

-- each key has a value of which the fact is true
module _ {K V : Type 0} (P : K → V → Type 0) where
  abbrev pub AreEach : List (K × V) → Type 0
  AreEach entries = (key : K) (value : V) → Contains entries (key, value) → P key value

-- all that is kept is right
pub record AreRight (task : Task) (cache : Cache) : Type 0 where
  pub tops : AreEach (IsStepsAt task cache.numbers) cache.tops.entries
  pub wants : AreEach (IsOfferAt task cache.numbers) cache.wants.entries
  pub results : AreEach (IsResultAt task cache.numbers) cache.results.entries
  pub altered : AreEach (IsAlteredAt cache.numbers) cache.altered.entries
  pub never_limited : IsTrue cache.is_never_limited → IsNeverLimited task.problem task.tables

-- what had a number still has it, and all that is kept is right
pub record HaveGrown (task : Task) (old new : Cache) : Type 0 where
  pub keeps : KeepsAll old.numbers new.numbers
  pub right : AreRight task new

-- the fact is true, unless memory ran out
abbrev pub OnAnswer : {A : Type 0} → Result A MoveErr → Type 0 → Type 0
OnAnswer (Ok answer) P = P
OnAnswer (Err error) P = AtStop error (λ limit. P)
