use Rattle.px_prover.proofs.Noting.{term-variable, term-object, term-any}
use Rattle.px_proof.specs.PlaceLaws.{slice_get-read}
use Rattle.px_prover.proofs.gathering.note_term.Goals as goal

pub returns-in_ok-note_root-in-Var : goal.returns-in_ok-note_root-in-Var
returns-in_ok-note_root-in-Var c =
    term-variable c.args.term c.args.roots.now c.in-Var.variable _ c.args.free.now.items c.note_root.new.free.items c.in-Var.is
    (slice_get-read c.args.roots.now c.in-Var.variable _ (rw c.in-Var.is at c.requires)) c.in_ok-note_root-in-Var.ensures

pub returns-in-Obj : goal.returns-in-Obj
returns-in-Obj c = term-object c.args.term c.args.roots.now _ c.args.free.now.items c.in-Obj.is

pub returns-in-Any : goal.returns-in-Any
returns-in-Any c = term-any c.args.term c.args.roots.now c.args.free.now.items c.in-Any.is
