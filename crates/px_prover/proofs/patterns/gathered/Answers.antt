use Rattle.std.proofs.Common.{ℕ, true, List, subst}
use Rattle.px_proof.specs.declared.shape.Tick.{Tick}
use Rattle.px_prover.proofs.Beginnings.{all-within, begins-possible, begins-standing}
use Rattle.px_prover.proofs.GapDeciding.{decided-few_gaps, decided-gap_limit}
use Rattle.px_prover.proofs.PatternDeciding.{decided-patterns}
use Rattle.px_prover.proofs.PatternOrder.{patterns-same}
use Rattle.px_prover.specs.GapAsking.{gap_setting}
use Rattle.px_prover.specs.Patterns.{kept_count}
use Rattle.px_proof_walk.specs.Possible.{IsGoingOn}
use Rattle.px_proof_walk.specs.Search.{LimitComes}
use Rattle.px_prover.proofs.patterns.gathered.Goals as goal

pub walk_to_end-requires-clause-stands : goal.walk_to_end-requires-clause-stands
walk_to_end-requires-clause-stands c =
    begins-standing (gap_setting c.args.question.now) c.args.question.now.formula.now c.args.question.now.variable_count c.requires.asked.proper
    c.in-Ok.state c.in-Ok.ensures

pub walk_to_end-requires-clause-possible : goal.walk_to_end-requires-clause-possible
walk_to_end-requires-clause-possible c =
    begins-possible (gap_setting c.args.question.now) c.args.question.now.formula.now c.args.question.now.variable_count c.requires.asked.proper
    c.in-Ok.state c.in-Ok.ensures c.requires.asked.some_atom

pub returns-in-Ok-None-clause-patterns : goal.returns-in-Ok-None-clause-patterns
returns-in-Ok-None-clause-patterns c =
    let s = gap_setting c.args.question.now in
    let formula = c.args.question.now.formula.now in
    let variable_count = c.args.question.now.variable_count in
    let h = rw c.in-Ok-None.field-0-is at c.in-Ok-None.ensures.all in
    let kept = kept_count c.args.question.now in
    patterns-same c.walk_to_end.new.gather.found.items c.unite.new.patterns.items c.unite.ensures kept s formula variable_count
    (decided-patterns kept s formula variable_count c.requires.asked.proper c.requires.asked.some_atom h.0 c.walk_to_end.new.gather.found.items
    (all-within s formula variable_count c.requires.asked.proper c.args.limit h.0 c.requires.within h.1) h.2)

pub returns-in-Ok-None-clause-few : goal.returns-in-Ok-None-clause-few
returns-in-Ok-None-clause-few c =
    let s = gap_setting c.args.question.now in
    let formula = c.args.question.now.formula.now in
    let variable_count = c.args.question.now.variable_count in
    let h = rw c.in-Ok-None.field-0-is at c.in-Ok-None.ensures.all in
    decided-few_gaps s formula variable_count c.requires.asked.proper h.0
    (all-within s formula variable_count c.requires.asked.proper c.args.limit h.0 c.requires.within h.1)

pub returns-in-Ok-Some-clause-limited : goal.returns-in-Ok-Some-clause-limited
returns-in-Ok-Some-clause-limited c = λ whole.
    let s = gap_setting c.args.question.now in
    let formula = c.args.question.now.formula.now in
    let variable_count = c.args.question.now.variable_count in
    let h = rw c.in-Ok-Some.field-0-is at c.in-Ok-Some.ensures.limited in
    decided-gap_limit s formula variable_count c.requires.asked.proper c.in-Ok-Some.shapes.items h.0 h.1
    (subst (λ (n : ℕ). LimitComes (IsGoingOn true s formula variable_count) (λ (ticks : List Tick). ⊥) n h.0) whole h.2)
