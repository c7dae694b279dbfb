use Rattle.std.proofs.Common.{map, take}
use Rattle.px_prover.specs.GapAsking.{gap_setting}
use Rattle.px_prover.specs.Gathering.{AreMissing}
use Rattle.px_proof_state.specs.declared.open.Choice.{Choice}
use Rattle.px_unify.specs.Changes.{variables_of}
use Rattle.px_prover.proofs.gathering.missing_atoms.Given as goal

abbrev pub invariant-loop-choice : goal.invariant-loop-choice
invariant-loop-choice l =
    AreMissing (gap_setting l.fn._question) l.fn._question.formula.now l.fn._question.variable_count
    (map (λ (x : Choice). x.tick) (take l.choice-index l.choices)) (variables_of l.state.changes) l.atoms.items
