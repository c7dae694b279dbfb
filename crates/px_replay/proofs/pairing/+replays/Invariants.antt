use Rattle.std.proofs.Common.{map}
use Rattle.px_proof.specs.ProofTerm.{derivation_of}
use Rattle.px_proof.specs.Proves.{parts_of}
use Rattle.px_proof.specs.Path.{path_literals}
use Rattle.px_replay.proofs.ReplaySteps.{Goes}
use Rattle.px_replay.proofs.pairing.+replays.Given as goal

abbrev pub invariant-replay_each-loop-k : goal.invariant-replay_each-loop-k
invariant-replay_each-loop-k l =
    Goes l.arena (path_literals l.path) (parts_of l.lits l.theta l.place) (map derivation_of l.subs) l.initial.bind l.bind l.k
