-- Moves and lists of moves by numbers.
use Rattle.std.specs.Prelude.{◌≡◌, ◌≤◌, ℕ, Bool, false, not, List, [], ◌∷◌, ◌++◌, Some, filter, slice_get}
use Rattle.std.specs.List.{list_any}
use Rattle.std.proofs.Common.{suc}
use Rattle.px_table.specs.declared.entry.Entry.{Entry}
use Rattle.px_table.specs.declared.entry.Move.{Move}
use Rattle.px_table.specs.declared.entry.Move.TheVariants as move
use Rattle.px_table.specs.EntryOrder.{entry_eq}
use Rattle.px_numbers.specs.Numbers.{Kept}
use Rattle.px_search.specs.declared.step.Step.{Step}
use Rattle.px_search.specs.declared.step.Step.TheVariants as step
use Rattle.px_search.specs.declared.step.Origin.{Origin}

-- the step is the move
abbrev pub DescribesMove : Kept → Step → Move → Type 0
DescribesMove kept step.Apply move.Apply = Unit {0}
DescribesMove kept step.Apply (move.Push entry) = ⊥
DescribesMove kept (step.Push number) move.Apply = ⊥
DescribesMove kept (step.Push number) (move.Push entry) = slice_get kept.entries number ≡ Some entry

-- the steps are the moves, in order
abbrev pub AreStepsOf : Kept → List Step → List Move → Type 0
AreStepsOf kept [] [] = Unit {0}
AreStepsOf kept [] (m ∷ ms) = ⊥
AreStepsOf kept (s ∷ ss) [] = ⊥
AreStepsOf kept (s ∷ ss) (m ∷ ms) = DescribesMove kept s m × AreStepsOf kept ss ms

-- it is the push of an entry on the stack
abbrev pub is_push_on : List Entry → Move → Bool
is_push_on stack move.Apply = false
is_push_on stack (move.Push entry) = list_any (entry_eq entry) stack

-- the moves but for such pushes
abbrev pub unstruck : List Entry → List Move → List Move
unstruck stack moves = filter (λ m. not (is_push_on stack m)) moves

-- each node was found from one before it
abbrev pub AreEarlier : List Origin → Type 0
AreEarlier origins = (k : ℕ) (origin : Origin) → slice_get origins k ≡ Some origin → origin.parent ≤ k

-- the first list is empty, and each other one is that of the node that it was found from, and the move
pub record Trace (kept : Kept) (origins : List Origin) (found : List (List Move)) : Type 0 where
  pub first : slice_get found 0 ≡ Some []
  pub later : (k : ℕ) (origin : Origin) → slice_get origins k ≡ Some origin → (parent : List Move) × (m : Move)
      × (slice_get found origin.parent ≡ Some parent) × DescribesMove kept origin.last m
      × (slice_get found (suc k) ≡ Some (parent ++ m ∷ []))
