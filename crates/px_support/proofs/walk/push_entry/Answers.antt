use Rattle.std.proofs.Common.{◌∙◌, ◌++◌, ◌∷◌, [], refl, ap}
use Rattle.px_table.specs.declared.entry.Entry.{Entry}
use Rattle.px_support.specs.Asking.{task_for}
use Rattle.px_support.proofs.GoingLaws.{taken-push}
use Rattle.px_support.proofs.walk.push_entry.Goals as goal

pub returns : goal.returns
returns c =
    taken-push (task_for c.args.asked.now) c.args.entry.now c.args.walk _
    (c.in_ok-push.ensures.ok ∙ ap (λ (e : Entry). c.args.walk.stack.items ++ e ∷ []) c.in_ok-copy.ensures) refl refl refl
