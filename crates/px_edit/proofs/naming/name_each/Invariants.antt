use Rattle.std.proofs.Common.{◌≡◌, ◌+◌, length, take}
use Rattle.px_edit.specs.Parts.{AreNamesAlong, unnamed}
use Rattle.px_edit.proofs.naming.name_each.Given as goal

abbrev pub invariant-loop-term : goal.invariant-loop-term
invariant-loop-term l = record {
  long : length l.names ≡ length l.initial.names;
  left : l.next + unnamed l.names ≡ unnamed l.initial.names;
  named : AreNamesAlong (length l.initial.names) (take l.term-index l.terms) l.names l.next;
}
