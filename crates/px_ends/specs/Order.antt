-- The order of lists of moves: fewer first, and then by the entry at the first different push.
use Rattle.std.specs.Prelude.{◌≡◌, List, length}
use Rattle.std.specs.Ordering.{nat_cmp, on, then_cmp}
use Rattle.std.specs.declared.cmp.Ordering.{Ordering}
use Rattle.std.specs.declared.cmp.Ordering.TheVariants.{Less, Equal, Greater}
use Rattle.std.specs.Cmp.Lexicographic.{slice_cmp}
use Rattle.px_table.specs.declared.entry.Move.{Move}
use Rattle.px_table.specs.declared.entry.Move.TheVariants.{Apply, Push}
use Rattle.px_table.specs.EntryOrder.{order_of_entries}

abbrev pub move_cmp : Move → Move → Ordering
move_cmp Apply Apply = Equal
move_cmp Apply (Push entry) = Less
move_cmp (Push entry) Apply = Greater
move_cmp (Push entry) (Push other) = order_of_entries entry other

abbrev pub moves_cmp : List Move → List Move → Ordering
moves_cmp = then_cmp (on length nat_cmp) (slice_cmp move_cmp)

abbrev pub IsBefore : List Move → List Move → Type 0
IsBefore ms ns = moves_cmp ms ns ≡ Less
