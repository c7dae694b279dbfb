use Rattle.px_prover.proofs.Noting.{over-both}
use Rattle.px_prover.proofs.gathering.free_of.Goals as goal

pub returns : goal.returns
returns c =
    over-both c.args.roots.now c.args.variable_count c.args.missing.now c.new-free.result.items c.note_first.new.free.items
    c.note_atoms.new.free.items c.new-free.ensures.items c.in_ok-note_first.ensures c.in_ok-note_atoms.ensures
