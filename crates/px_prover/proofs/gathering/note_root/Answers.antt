use Rattle.px_prover.proofs.Noting.{root-variable, root-object, root-any}
use Rattle.px_prover.proofs.gathering.note_root.Goals as goal

pub returns-in_ok-note_variable-in-Var : goal.returns-in_ok-note_variable-in-Var
returns-in_ok-note_variable-in-Var c =
    root-variable c.args.root c.in-Var.variable c.args.free.now.items c.note_variable.new.free.items c.in-Var.is
    c.in_ok-note_variable-in-Var.ensures

pub returns-in-Obj : goal.returns-in-Obj
returns-in-Obj c = root-object c.args.root _ c.args.free.now.items c.in-Obj.is

pub returns-in-Any : goal.returns-in-Any
returns-in-Any c = root-any c.args.root c.args.free.now.items c.in-Any.is
