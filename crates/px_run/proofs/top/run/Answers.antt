use Rattle.px_script.specs.ReadScripts.{content}
use Rattle.px_run.proofs.AnswerLemmas.{wrote-none}
use Rattle.px_run.proofs.CheckLemmas.{run-unread}
use Rattle.px_run.proofs.OutcomeLemmas.{run-executed, run-refused}
use Rattle.px_run.proofs.top.run.Goals as goal

pub returns-in-Ok-read_script-clause-right : goal.returns-in-Ok-read_script-clause-right
returns-in-Ok-read_script-clause-right g c =
    let is = rw c.deref.ensures.value at c.in-Ok-read_script.ensures.script in
    run-executed _ _ c.in-Ok.bytes.items (content c.in-Ok-read_script.script) c.answer.result c.in-Ok.ensures.came is c.answer.ensures.right

pub returns-in-Err-Refused-clause-right : goal.returns-in-Err-Refused-clause-right
returns-in-Err-Refused-clause-right g c =
    let first = rw c.in-Err-Refused.field-0-is at c.in-Err-Refused.ensures.refused in
    let fault = rw c.deref.ensures.value at first in
    run-refused _ _ c.in-Ok.bytes.items c.in-Err-Refused.refused c.refuse.result c.in-Ok.ensures.came fault c.refuse.ensures.right

pub returns-in-Err-clause-right : goal.returns-in-Err-clause-right
returns-in-Err-clause-right g c = run-unread _ _ c.in-Err.unread c.in-Err.ensures.unread (wrote-none _ _ _)
