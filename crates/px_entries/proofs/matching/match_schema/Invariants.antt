use Rattle.std.proofs.Common.{◌≡◌, take}
use Rattle.px_terms.specs.declared.instance.OpInst.{OpInst}
use Rattle.px_terms.specs.Substitution.{substitute_atom}
use Rattle.px_gaps.specs.Closings.{OneOf}
use Rattle.px_entries.specs.Instances.{Covers}
use Rattle.px_entries.proofs.matching.match_schema.Given as goal

abbrev pub invariant-loop-pattern : goal.invariant-loop-pattern
invariant-loop-pattern l =
    Covers l.problem (λ (full : OpInst). (full.op ≡ l.schema.op)
    × OneOf (take l.pattern-index l.patterns) (λ pattern. substitute_atom full.args pattern ≡ l.wanted)) l.initial.found.items
    l.found.items
