use Rattle.std.proofs.Common.{◌≡◌, ◌<◌, length, get_or, sym, arith}
use Rattle.std.proofs.lemmas.List.{length-map}
use Rattle.std.proofs.lemmas.Option.{get_or_from_slice_get}
use Rattle.px_base.proofs.Loops.{next_taken}
use Rattle.px_terms.specs.Operators.{atoms_of}
use Rattle.px_ops.proofs.problems.precondition_of.Goals as goal

pub loop-k-preserved : goal.loop-k-preserved
loop-k-preserved c =
    let atoms = atoms_of c.schema_of-schema.result.now.pre c.args.inst.now in
    let below : c.loop-k.k < length atoms = rw length-map (omega arith) in
    let is : c.pre.result ≡ get_or atoms c.loop-k.k c.pre.result =
    sym (get_or_from_slice_get atoms c.loop-k.k c.pre.result c.pre.result c.pre.ensures) in
    next_taken atoms c.loop-k.atoms.items c.push.new.items.items c.loop-k.k c.pre.result below is c.loop-k.invariant c.in_ok-push.ensures.ok
