-- What a search keeps of what may be pushed for a wanted atom.
use Rattle.std.specs.Prelude.{◌≡◌, ◌↔◌, ◌⊎◌, ℕ, Bool, true, List, [], ◌∷◌, map, Contains}
use Rattle.std.specs.List.Sorted.{IsStrictlySortedBy}
use Rattle.std.specs.declared.cmp.Ordering.TheVariants.{Less}
use Rattle.px_terms.specs.AtomSets.{IsAtomSet}
use Rattle.px_terms.specs.declared.atom.Atom.{Atom}
use Rattle.px_terms.specs.declared.problem.Problem.{Problem}
use Rattle.px_table.specs.declared.entry.Entry.{Entry}
use Rattle.px_table.specs.declared.entry.Move.TheVariants as move
use Rattle.px_table.specs.declared.table.Table.{Table}
use Rattle.px_table.specs.EntryOrder.{order_of_entries}
use Rattle.px_entries.specs.Deciding.{AreDeciding}
use Rattle.px_entries.specs.Unlimited.{IsNeverLimited}
use Rattle.px_diff.specs.Pushes.{IsPushable}
use Rattle.px_diff.specs.Stacks.{AreUnlimitedOver}
use Rattle.px_numbers.specs.Numbers.{Kept, IsModelAt}
use Rattle.px_ends.specs.Tasks.{Task}
use Rattle.px_search.specs.Steps.{AreStepsOf}
use Rattle.px_search.specs.declared.cache.Offer.{Offer}
use Rattle.px_search.specs.declared.cache.Want.{Want}
use Rattle.px_search.specs.declared.step.Step.{Step}

-- The entries are the first, in order, of those that may be pushed for one of the wanted atoms where the stack is empty: each other one
-- comes after all of them. Where it is said that they are all, they are. (`AreFirstOf` is for moves, whose order is by all pairs;
-- `AreFirstEntries` of `px_diff` is for its requests.)
pub record AreFirstOffers (task : Task) (facts wanted : List Atom) (entries : List Entry) (is_all : Bool) : Type 0 where
  pub sound : (entry : Entry) → Contains entries entry → IsPushable task.problem task.tables wanted [] facts entry
  pub ordered : IsStrictlySortedBy order_of_entries entries
  pub others : (entry : Entry) → IsPushable task.problem task.tables wanted [] facts entry → Contains entries entry
      ⊎ ((first : Entry) → Contains entries first → order_of_entries first entry ≡ Less)
  pub every : is_all ≡ true → (entry : Entry) → IsPushable task.problem task.tables wanted [] facts entry → Contains entries entry

-- the steps are the pushes of such entries, and no question about an entry that is relevant for one of the wanted atoms meets the limit
pub record IsOffered (task : Task) (kept : Kept) (facts wanted : List Atom) (steps : List Step) (is_all : Bool) : Type 0 where
  pub entries : List Entry
  pub first : AreFirstOffers task facts wanted entries is_all
  pub steps_are : AreStepsOf kept steps (map move.Push entries)
  pub unlimited : AreUnlimitedOver task.problem task.tables wanted facts []

-- the entries are all those that may be pushed for one of the wanted atoms where the stack is empty, and no question about an entry that is
-- relevant for one of these meets the limit
pub record AreWhole (task : Task) (facts wanted : List Atom) (entries : List Entry) : Type 0 where
  pub exact : (entry : Entry) → Contains entries entry ↔ IsPushable task.problem task.tables wanted [] facts entry
  pub unlimited : AreUnlimitedOver task.problem task.tables wanted facts []

-- the steps are the pushes of all of these, in order
pub record IsOfferedWhole (task : Task) (kept : Kept) (facts wanted : List Atom) (steps : List Step) : Type 0 where
  pub entries : List Entry
  pub whole : AreWhole task facts wanted entries
  pub ordered : IsStrictlySortedBy order_of_entries entries
  pub steps_are : AreStepsOf kept steps (map move.Push entries)

-- the part is these facts, or the deciding ones among them where no question about an entry ever meets the limit
abbrev pub IsAlike : Problem → List Table → List Atom → List Atom → Type 0
IsAlike problem tables facts part = (facts ≡ part) ⊎ (IsNeverLimited problem tables × AreDeciding problem facts part)

-- the number is that of such a part of these facts
pub record IsPartAt (task : Task) (kept : Kept) (number : ℕ) (facts : List Atom) : Type 0 where
  pub is_set : IsAtomSet facts
  pub part : List Atom
  pub part_at : IsModelAt kept number part
  pub alike : IsAlike task.problem task.tables facts part

-- the steps are the pushes for the wanted atom in each model of which the place's number is such a part
abbrev pub IsOfferAt : Task → Kept → Want → Offer → Type 0
IsOfferAt task kept want offer =
    (part : List Atom) × IsModelAt kept want.part part
    × ((facts : List Atom) → IsAtomSet facts → IsAlike task.problem task.tables facts part
    → IsOffered task kept facts (want.atom ∷ []) offer.steps offer.is_all)

-- the steps are the pushes of these entries, which are in order
pub record ArePushes (kept : Kept) (entries : List Entry) (steps : List Step) : Type 0 where
  pub ordered : IsStrictlySortedBy order_of_entries entries
  pub steps_are : AreStepsOf kept steps (map move.Push entries)

-- the steps are the pushes, in order, of the entries that stand in one of the lists
pub record AreJoined (kept : Kept) (firsts seconds : List Entry) (steps : List Step) : Type 0 where
  pub entries : List Entry
  pub members : (entry : Entry) → Contains entries entry ↔ (Contains firsts entry ⊎ Contains seconds entry)
  pub pushes : ArePushes kept entries steps
