use Rattle.px_reader.proofs.Common.{◌≡◌, ◌==◌, length, chars, slice_split, without_return, stage_view, declared_of}
use Rattle.px_reader.proofs.LineSteps.{HasRead}
use Rattle.px_reader.proofs.reading.read_each.Given as goal

abbrev pub invariant-loop-line : goal.invariant-loop-line
invariant-loop-line l = record {
  count : l.number ≡ length l.yielded;
  read : HasRead (stage_view l.stage) (λ line. chars (without_return line)) (slice_split (λ b. b == 10) l.text) (declared_of l.so_far) l.number;
}
