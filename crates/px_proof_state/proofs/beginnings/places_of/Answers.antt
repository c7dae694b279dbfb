use Rattle.std.proofs.Common.{rules}
use Rattle.std.proofs.lemmas.List.Sorted.{IsPartitionPoint-from_clause}
use Rattle.px_proof_state.proofs.BeginningLemmas.{has-its-facts, is_before, is_not_after, parted-before, parted-not_after}
use Rattle.px_proof_state.proofs.beginnings.places_of.Goals as goal

pub returns : goal.returns
returns c =
    let facts = c.args.facts.now in
    let atom = c.args.atom.now in
    let count = c.leading_objects-count.result in
    let below =
    IsPartitionPoint-from_clause (is_before count atom) _ _ c.partition_point-first.ensures.partitioned
    (parted-before facts c.requires count atom) (λ a r q k. search rules) in
    let upto_end =
    IsPartitionPoint-from_clause (is_not_after count atom) _ _ c.partition_point-end.ensures.partitioned
    (parted-not_after facts c.requires count atom) (λ a r q k. search rules) in
    has-its-facts facts count atom (rw c.args-2.ensures.value at c.leading_objects-count.ensures.objects) c.partition_point-first.result
    c.partition_point-end.result c.partition_point-end.ensures.bound below upto_end
