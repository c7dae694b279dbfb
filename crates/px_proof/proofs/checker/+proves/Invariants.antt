use Rattle.std.proofs.Common.{◌↔◌, map, drop}
use Rattle.px_proof.specs.Basis.{rules_of}
use Rattle.px_proof.specs.Derivation.{derivations}
use Rattle.px_proof.specs.Path.{path_literals}
use Rattle.px_proof.specs.ProofTerm.{derivation_of}
use Rattle.px_proof.specs.Proves.{ProvesEach, parts_of}
use Rattle.px_proof.proofs.checker.+proves.Given as goal

-- what is left to be proved, where the parts up to here prove what they have to
abbrev pub invariant-each_proves-loop-k : goal.invariant-each_proves-loop-k
invariant-each_proves-loop-k l =
    ProvesEach (rules_of l.basis) l.arena (path_literals l.path) (drop l.k (parts_of l.lits l.theta l.place))
    (derivations (drop l.k (map derivation_of l.subs)))
    ↔ ProvesEach (rules_of l.basis) l.arena (path_literals l.path) (parts_of l.lits l.theta l.place)
    (derivations (map derivation_of l.subs))
