use Rattle.px_unify.proofs.Narrowing.{narrowed-bound, narrowed-bound_back, binds-bound}
use Rattle.px_unify.proofs.bind.Bind.unify_terms.Goals as goal

pub returns-in-Obj-Var-clause-ok : goal.returns-in-Obj-Var-clause-ok
returns-in-Obj-Var-clause-ok c =
    narrowed-bound_back c.args.self.now c.bind_variable.new.self c.in-Obj-Var.w c.resolve-s_root.result c.bind_variable.ensures.bound
    c.args.s c.args.t c.resolve-s_root.ensures.value (rw c.in-Obj-Var.is-1 at c.resolve-t_root.ensures.value)

pub returns-in-Obj-Var-clause-grows : goal.returns-in-Obj-Var-clause-grows
returns-in-Obj-Var-clause-grows c =
    binds-bound c.args.self.now c.bind_variable.new.self c.in-Obj-Var.w c.resolve-s_root.result c.bind_variable.ensures.bound

pub returns-in-Var-Obj-clause-ok : goal.returns-in-Var-Obj-clause-ok
returns-in-Var-Obj-clause-ok c =
    narrowed-bound c.args.self.now c.bind_variable-in-Var-Obj.new.self c.in-Var-Obj.v c.resolve-t_root.result
    c.bind_variable-in-Var-Obj.ensures.bound c.args.s c.args.t
    (rw c.in-Var-Obj.is-0 at c.resolve-s_root.ensures.value) c.resolve-t_root.ensures.value

pub returns-in-Var-Obj-clause-grows : goal.returns-in-Var-Obj-clause-grows
returns-in-Var-Obj-clause-grows c =
    binds-bound c.args.self.now c.bind_variable-in-Var-Obj.new.self c.in-Var-Obj.v c.resolve-t_root.result
    c.bind_variable-in-Var-Obj.ensures.bound

pub returns-then-v-w-clause-ok : goal.returns-then-v-w-clause-ok
returns-then-v-w-clause-ok c =
    narrowed-bound_back c.args.self.now c.bind_variable-then-v-w.new.self c.in-Var-Var.w c.resolve-s_root.result
    c.bind_variable-then-v-w.ensures.bound c.args.s c.args.t c.resolve-s_root.ensures.value
    (rw c.in-Var-Var.is-1 at c.resolve-t_root.ensures.value)

pub returns-then-v-w-clause-grows : goal.returns-then-v-w-clause-grows
returns-then-v-w-clause-grows c =
    binds-bound c.args.self.now c.bind_variable-then-v-w.new.self c.in-Var-Var.w c.resolve-s_root.result
    c.bind_variable-then-v-w.ensures.bound

pub returns-then-w-v-clause-ok : goal.returns-then-w-v-clause-ok
returns-then-w-v-clause-ok c =
    narrowed-bound c.args.self.now c.bind_variable-then-w-v.new.self c.in-Var-Var.v c.resolve-t_root.result
    c.bind_variable-then-w-v.ensures.bound c.args.s c.args.t
    (rw c.in-Var-Var.is-0 at c.resolve-s_root.ensures.value) c.resolve-t_root.ensures.value

pub returns-then-w-v-clause-grows : goal.returns-then-w-v-clause-grows
returns-then-w-v-clause-grows c =
    binds-bound c.args.self.now c.bind_variable-then-w-v.new.self c.in-Var-Var.v c.resolve-t_root.result
    c.bind_variable-then-w-v.ensures.bound
