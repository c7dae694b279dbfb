use Rattle.px_proof.specs.Literals.{positive_of}
use Rattle.px_proof.specs.declared.shape.Tick.TheVariants.{Fact}
use Rattle.px_proof_state.specs.Matches.{ClosesBy}
use Rattle.px_proof_state.specs.Ranges.{TriesFact}
use Rattle.px_proof_state.proofs.FactPlaces.{tried-fact, untried-fact}
use Rattle.px_proof_state.proofs.Trying.{if_ok}
use Rattle.px_proof_state.proofs.facts.try_fact.Goals as goal

pub returns : goal.returns
returns c =
    if_ok c.close_by.result
    (λ found. ClosesBy c.args.state.now c.close_by.new.self (Fact c.args.number) c.args.goal.now.lit
    (positive_of c.args.fact.now) c.args.goal.now.next found)
    (λ found. TriesFact c.args.state.now c.close_by.new.self c.args.objects c.args.number c.args.fact.now c.args.goal.now found)
    (λ found closes. tried-fact c.args.state.now c.close_by.new.self c.args.objects c.args.number c.args.fact.now c.args.goal.now found
    (rw c.args-2.ensures.value at (c.are_objects_below.ensures.0 c.if-not-are_objects_below.false)) closes)
    c.close_by.ensures

pub returns-then-are_apart : goal.returns-then-are_apart
returns-then-are_apart c =
    untried-fact c.args.state.now c.args.objects c.args.number c.args.fact.now c.args.goal.now c.args.ends.now c.requires.ends_are
    (c.are_apart.ensures c.if-are_apart.true)
