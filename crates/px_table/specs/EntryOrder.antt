-- Equality, order and hashes of entries, as their `==`, `cmp` and `hash` compute them, and what they say; equality of moves.
use Rattle.std.specs.Prelude.{◌≡◌, Bool}
use Rattle.std.specs.Bool.{Decides}
use Rattle.std.specs.Ordering.{nat_cmp, ordering_then}
use Rattle.std.specs.Cmp.Lexicographic.{slice_cmp}
use Rattle.std.specs.Hash as fed
use Rattle.std.specs.declared.cmp.Ordering.{Ordering}
use Rattle.std.specs.declared.cmp.Ordering.TheVariants.{Less, Greater}
use Rattle.px_terms.specs.Order.{instance_cmp}
use Rattle.px_table.specs.contracts.entry.EntryHash.TheImpl as entry_hash
use Rattle.px_table.specs.contracts.entry.EntryOrd.TheImpl as entry_order
use Rattle.px_table.specs.contracts.entry.EntryPartialEq.TheImpl as entry_equality
use Rattle.px_table.specs.contracts.entry.MovePartialEq.TheImpl as move_equality
use Rattle.px_table.specs.declared.entry.Entry.{Entry}
use Rattle.px_table.specs.declared.entry.Entry.TheVariants.{Op, Macro}
use Rattle.px_table.specs.declared.entry.Move.{Move}

abbrev pub entry_eq : Entry → Entry → Bool
entry_eq = (entry_equality.ghosts).eq

abbrev pub entry_cmp : Entry → Entry → Ordering
entry_cmp = (entry_order.ghosts).cmp

-- what a hash of an entry is fed
abbrev pub entry_hash_input : Entry → fed.HashWrites
entry_hash_input = (entry_hash.ghosts).hash_input

-- Operators come before tables. Operators are ordered by number and then by arguments, tables by number, then by how
-- many steps are taken, then by objects.
abbrev pub order_of_entries : Entry → Entry → Ordering
order_of_entries (Op first) (Op second) = instance_cmp first second
order_of_entries (Op first) (Macro number prefix sigma) = Less
order_of_entries (Macro number prefix sigma) (Op second) = Greater
order_of_entries (Macro number prefix sigma) (Macro number' prefix' sigma') =
    ordering_then (nat_cmp number number') (ordering_then (nat_cmp prefix prefix') (slice_cmp nat_cmp sigma sigma'))

-- `cmp` is this order, and `==` is equality
pub record EntriesAreOrdered : Type 0 where
  pub order : (first second : Entry) → entry_cmp first second ≡ order_of_entries first second
  pub equality : (first second : Entry) → Decides (entry_eq first second) (first ≡ second)

-- what `==` of moves computes
abbrev pub move_eq : Move → Move → Bool
move_eq = (move_equality.ghosts).eq

-- `==` of moves is equality
abbrev pub MovesAreCompared : Type 0
MovesAreCompared = (first second : Move) → Decides (move_eq first second) (first ≡ second)
