use Rattle.std.proofs.Common.{◌<◌}
use Rattle.std.specs.Prelude.{Contains}
use Rattle.px_terms.specs.declared.instance.OpInst.{OpInst}
use Rattle.px_terms.specs.Operators.{adds}
use Rattle.px_entries.specs.Instances.{Covers}
use Rattle.px_entries.proofs.matching.match_atom.Given as goal

abbrev pub invariant-loop-schema : goal.invariant-loop-schema
invariant-loop-schema l =
    Covers l.problem (λ (full : OpInst). (full.op < l.schema-index) × Contains (adds l.problem full) l.wanted) l.initial.found.items
    l.found.items
