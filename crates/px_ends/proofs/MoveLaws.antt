-- Moves are in a total order, and so are lists of them, in an order that a search can follow.
use Rattle.std.proofs.Common.{◌≡◌, refl, ap}
use Rattle.std.specs.Cmp.{IsTotalOrder}
use Rattle.std.specs.Ordering.{ordering_reverse}
use Rattle.std.specs.declared.cmp.Ordering.TheVariants.{Less, Equal}
use Rattle.px_table.specs.EntryLaws.{order_of_entries-total, order_of_entries-same}
use Rattle.px_table.specs.declared.entry.Move.{Move}
use Rattle.px_table.specs.declared.entry.Move.TheVariants.{Apply, Push}
use Rattle.px_order.specs.Frontier.{IsMoveOrder}
use Rattle.px_order.specs.Shortlex.{move_order}
use Rattle.px_ends.specs.Order.{move_cmp, IsBefore}

antisymm : (x y : Move) → move_cmp x y ≡ ordering_reverse (move_cmp y x)
antisymm Apply Apply = refl
antisymm Apply (Push f) = refl
antisymm (Push e) Apply = refl
antisymm (Push e) (Push f) = order_of_entries-total.antisymm e f

trans : (x y z : Move) → move_cmp x y ≡ Less → move_cmp y z ≡ Less → move_cmp x z ≡ Less
trans Apply Apply z h k = absurd (cc)
trans Apply (Push f) Apply h k = absurd (cc)
trans Apply (Push f) (Push g) h k = refl
trans (Push e) Apply z h k = absurd (cc)
trans (Push e) (Push f) Apply h k = absurd (cc)
trans (Push e) (Push f) (Push g) h k = order_of_entries-total.trans e f g h k

congr : (x y z : Move) → move_cmp x y ≡ Equal → move_cmp x z ≡ move_cmp y z
congr Apply Apply z h = refl
congr Apply (Push f) z h = absurd (cc)
congr (Push e) Apply z h = absurd (cc)
congr (Push e) (Push f) Apply h = refl
congr (Push e) (Push f) (Push g) h = order_of_entries-total.congr e f g h

pub move_cmp-total : IsTotalOrder move_cmp
move_cmp-total = record { antisymm = antisymm; trans = trans; congr = congr }

pub move_cmp-same : (x y : Move) → move_cmp x y ≡ Equal → x ≡ y
move_cmp-same Apply Apply h = refl
move_cmp-same Apply (Push f) h = absurd (cc)
move_cmp-same (Push e) Apply h = absurd (cc)
move_cmp-same (Push e) (Push f) h = ap Push (order_of_entries-same e f h)

abbrev pub order : IsMoveOrder IsBefore
order = move_order move_cmp move_cmp-total move_cmp-same
