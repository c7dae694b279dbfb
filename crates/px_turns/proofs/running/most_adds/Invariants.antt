use Rattle.std.proofs.Common.{◌≤◌, length, take, All}
use Rattle.px_turns.specs.Turning.{adds_most}
use Rattle.px_turns.proofs.running.most_adds.Given as goal

abbrev pub invariant-loop-schema : goal.invariant-loop-schema
invariant-loop-schema l =
    All (λ schema. length schema.add ≤ l.most) (take l.schema-index l.schema-items) × (l.most ≤ adds_most l.schema-items)
