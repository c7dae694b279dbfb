-- What the loop of `SoFar::proofs_from_last` in src/rows.rt keeps true.
use Rattle.px_so_far.proofs.Common.{◌≡◌, ◌-◌, map, drop, length, declared_of}
use Rattle.std.specs.Prelude.{reverse}
use Rattle.px_proof.specs.ProofTerm.{derivation_of}
use Rattle.px_script.specs.Declarations.{proofs_read}
use Rattle.px_lines.specs.ItemViews.{part_view}
use Rattle.px_so_far.proofs.so_far.SoFar.proofs_from_last.Given as goal

abbrev pub invariant-loop-done : goal.invariant-loop-done
invariant-loop-done l = record {
  made : map derivation_of (reverse l.made.items)
      ≡ proofs_read (declared_of l.self) (map part_view (drop (length l.parts - l.done) l.parts));
}
