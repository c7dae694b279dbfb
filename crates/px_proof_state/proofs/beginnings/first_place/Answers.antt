use Rattle.std.proofs.Common.{rules}
use Rattle.std.proofs.lemmas.List.Sorted.{IsPartitionPoint-from_clause}
use Rattle.px_proof_state.proofs.BeginningLemmas.{is_before, none-before, parted-before}
use Rattle.px_proof_state.proofs.beginnings.first_place.Goals as goal

pub returns-clause-before : goal.returns-clause-before
returns-clause-before c =
    let facts = c.args.facts.now in
    let atom = c.args.atom.now in
    let count = c.args.count in
    let below =
    IsPartitionPoint-from_clause (is_before count atom) _ _ c.partition_point.ensures.partitioned
    (parted-before facts c.requires.ascending count atom) (λ a r q k. search rules) in
    none-before facts count atom c.requires.objects c.args.from c.partition_point.result below
