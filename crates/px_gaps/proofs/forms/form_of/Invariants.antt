use Rattle.std.proofs.Common.{◌≡◌, map, take, length}
use Rattle.px_gaps.specs.Forms.{named_by}
use Rattle.px_gaps.proofs.forms.form_of.Given as goal

abbrev pub invariant-loop-k : goal.invariant-loop-k
invariant-loop-k l = record {
  count : length l.terms ≡ 6;
  made : take l.k l.terms ≡ map (named_by l.args) (take l.k l.args);
}
