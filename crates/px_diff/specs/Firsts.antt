-- The first of what may be pushed.
use Rattle.std.specs.Prelude.{◌≡◌, ◌⊎◌, ◌<◌, ◌≤◌, ℕ, Bool, false, List, length, All, Contains, IsTrue}
use Rattle.std.specs.List.Sorted.{IsStrictlySortedBy}
use Rattle.std.specs.declared.cmp.Ordering.{Ordering}
use Rattle.std.specs.declared.cmp.Ordering.TheVariants.{Less}
use Rattle.std.specs.Ordering.{is_gt}
use Rattle.px_table.specs.EntryOrder.{order_of_entries}
use Rattle.px_table.specs.declared.entry.Entry.{Entry}
use Rattle.px_table.specs.declared.entry.Entry.TheVariants.{Macro, Op}
use Rattle.px_terms.specs.Order.{instance_cmp}
use Rattle.px_terms.specs.declared.instance.OpInst.{OpInst}
use Rattle.px_diff.specs.Macros.{IsOfTable}
use Rattle.px_diff.specs.Requests.{IsPushableFor}
use Rattle.px_diff.specs.declared.request.Request.{Request}

-- in order, each once, and at least as many as are enough
pub record AreEnough {X : Type 0} (order : X → X → Ordering) (enough : ℕ) (xs : List X) : Type 0 where
  pub ordered : IsStrictlySortedBy order xs
  pub many : enough ≤ length xs

-- The new list has what the old one had, and besides only what is wanted: enough, in order. Everything of the part that is wanted and
-- isn't in it comes after all that it has.
pub record BringsFirst {X : Type 0} (order : X → X → Ordering) (IsWanted : X → Type 0) (enough : ℕ) (IsPart : X → Type 0) (old new : List X)
    : Type 0 where
  pub kept : (x : X) → Contains old x → Contains new x
  pub only : (x : X) → Contains new x → Contains old x ⊎ IsWanted x
  pub others : (x : X) → IsPart x → IsWanted x → Contains new x ⊎ All (λ earlier. order earlier x ≡ Less) new
  pub are_enough : AreEnough order enough new

-- `BringsFirst` for the entries that may be pushed
abbrev pub BringsFirstEntries : Request → ℕ → (Entry → Type 0) → List Entry → List Entry → Type 0
BringsFirstEntries request = BringsFirst order_of_entries (IsPushableFor request)

-- `BringsFirst` for the instances that may be pushed
abbrev pub BringsFirstInstances : Request → ℕ → (OpInst → Type 0) → List OpInst → List OpInst → Type 0
BringsFirstInstances request = BringsFirst instance_cmp (λ inst. IsPushableFor request (Op inst))

-- the first instance doesn't come after the second
abbrev pub IsNotAfter : OpInst → OpInst → Type 0
IsNotAfter first second = is_gt (instance_cmp first second) ≡ false

-- all of them come before the instance
abbrev pub ComeBefore : List OpInst → OpInst → Type 0
ComeBefore insts inst = All (λ earlier. instance_cmp earlier inst ≡ Less) insts

-- `count` first steps of the table of this number, whatever the objects are, come after the entry
abbrev pub IsBeforePrefix : ℕ → ℕ → Entry → Type 0
IsBeforePrefix number count (Op inst) = Unit {0}
IsBeforePrefix number count (Macro n prefix sigma) = (n < number) ⊎ ((n ≡ number) × (prefix < count))

-- it takes first steps of that table or of a later one
abbrev pub IsOfTableFrom : ℕ → Entry → Type 0
IsOfTableFrom number entry = (n : ℕ) × (number ≤ n) × IsOfTable n entry

-- They may be pushed, and each other entry that may be comes after them. Where it is said that they are all, there is no other. Else there
-- are enough of them, in order.
pub record AreFirstEntries (request : Request) (enough : ℕ) (is_all : Bool) (entries : List Entry) : Type 0 where
  pub sound : (entry : Entry) → Contains entries entry → IsPushableFor request entry
  pub all : IsTrue is_all → (entry : Entry) → IsPushableFor request entry → Contains entries entry
  pub others : (entry : Entry) → IsPushableFor request entry
      → Contains entries entry ⊎ All (λ kept. order_of_entries kept entry ≡ Less) entries
  pub are_enough : is_all ≡ false → AreEnough order_of_entries enough entries
