use Rattle.std.proofs.Common.{◌≡◌, ◌-◌, length, take}
use Rattle.px_cert.specs.Reading.{many_at, term_at}
use Rattle.px_cert.proofs.Loop.{with_prefix}
use Rattle.px_cert.proofs.terms.fill.Given as goal

abbrev pub invariant-loop-place : goal.invariant-loop-place
invariant-loop-place l = record {
  read : with_prefix (take l.place l.terms) (many_at (term_at l.objects l.variable_count l.wild) (length l.initial.terms - l.place) l.rest)
      ≡ many_at (term_at l.objects l.variable_count l.wild) (length l.initial.terms) l.bytes;
  count : length l.terms ≡ length l.initial.terms;
}
