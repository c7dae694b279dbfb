-- Which node a pair of numbers is.
use Rattle.std.specs.Prelude.{◌≡◌, ◌≤◌, ℕ, Option, None, List, [], ◌∷◌, Some, length, slice_get}
use Rattle.std.proofs.Common.{suc}
use Rattle.px_terms.specs.AtomSets.{IsAtomSet}
use Rattle.px_terms.specs.declared.atom.Atom.{Atom}
use Rattle.px_table.specs.declared.entry.Entry.{Entry}
use Rattle.px_table.specs.declared.node.Node.{Node}
use Rattle.px_numbers.specs.declared.nodes.NodeKey.{NodeKey}
use Rattle.px_numbers.specs.declared.stacks.Frame.{Frame}
use Rattle.px_ops.specs.Keeping.{AreOnce, KeepsPlaces}

-- what is kept, in the order of the numbers
pub record Kept : Type 0 where
  pub atoms : List Atom
  pub lists : List (List ℕ)
  pub entries : List Entry
  pub frames : List Frame

-- nothing is kept twice
pub record AreEachOnce (kept : Kept) : Type 0 where
  pub atoms : AreOnce kept.atoms
  pub lists : AreOnce kept.lists
  pub entries : AreOnce kept.entries
  pub frames : AreOnce kept.frames

-- each frame stands over one before it, or over the empty stack
abbrev pub AreDescending : List Frame → Type 0
AreDescending frames = (k : ℕ) (frame : Frame) → slice_get frames k ≡ Some frame → frame.below ≤ k

pub record AreSound (kept : Kept) : Type 0 where
  pub once : AreEachOnce kept
  pub descending : AreDescending kept.frames

-- the numbers are those of these atoms, in their order
abbrev pub AreNumbersOf : List Atom → List ℕ → List Atom → Type 0
AreNumbersOf atoms [] [] = Unit {0}
AreNumbersOf atoms [] (atom ∷ model) = ⊥
AreNumbersOf atoms (number ∷ numbers) [] = ⊥
AreNumbersOf atoms (number ∷ numbers) (atom ∷ model) = (slice_get atoms number ≡ Some atom) × AreNumbersOf atoms numbers model

-- a model, and the numbers of its atoms, in their order
pub record IsModelOf (atoms : List Atom) (numbers : List ℕ) (model : List Atom) : Type 0 where
  pub is_set : IsAtomSet model
  pub numbers_are : AreNumbersOf atoms numbers model

-- the model of the number
abbrev pub IsModelAt : Kept → ℕ → List Atom → Type 0
IsModelAt kept number model = (numbers : List ℕ) × (slice_get kept.lists number ≡ Some numbers) × IsModelOf kept.atoms numbers model

-- the stack of the number: 0 is the empty one, and each other one is that of the frame at the place before
abbrev pub IsStackAt : Kept → ℕ → List Entry → Type 0
IsStackAt kept number [] = number ≡ 0
IsStackAt kept number (entry ∷ below) =
    (place : ℕ) × (frame : Frame) × (number ≡ suc place) × (slice_get kept.frames place ≡ Some frame)
    × (slice_get kept.entries frame.entry ≡ Some entry) × IsStackAt kept frame.below below

-- nothing is on top of the empty stack, and on top of another one is this entry, over this stack
abbrev pub IsTopOf : Kept → List Entry → Option Frame → Type 0
IsTopOf kept [] None = Unit {0}
IsTopOf kept [] (Some frame) = ⊥
IsTopOf kept (entry ∷ below) None = ⊥
IsTopOf kept (entry ∷ below) (Some frame) = (slice_get kept.entries frame.entry ≡ Some entry) × IsStackAt kept frame.below below

-- the pair of numbers is the node
pub record IsKeyOf (kept : Kept) (key : NodeKey) (node : Node) : Type 0 where
  pub model : IsModelAt kept key.model node.model
  pub stack : IsStackAt kept key.stack node.stack

-- what is kept still has its number
pub record KeepsAll (old new : Kept) : Type 0 where
  pub atoms : KeepsPlaces old.atoms new.atoms
  pub lists : KeepsPlaces old.lists new.lists
  pub entries : KeepsPlaces old.entries new.entries
  pub frames : KeepsPlaces old.frames new.frames

-- the pairs are the nodes, in order
pub record AllStand (kept : Kept) (keys : List NodeKey) (nodes : List Node) : Type 0 where
  pub count : length keys ≡ length nodes
  pub each : (k : ℕ) (key : NodeKey) (node : Node) → slice_get keys k ≡ Some key → slice_get nodes k ≡ Some node → IsKeyOf kept key node
