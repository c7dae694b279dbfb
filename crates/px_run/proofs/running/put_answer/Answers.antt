use Rattle.px_run.proofs.AnswerLemmas.{answer-right, wrote-none}
use Rattle.px_run.proofs.running.put_answer.Goals as goal

pub returns-in-Ok-clause-right : goal.returns-in-Ok-clause-right
returns-in-Ok-clause-right g c =
    let right = rw c.deref.ensures.value at c.put_text.ensures.right in
    answer-right _ _ _ c.in-Ok.text.items c.put_text.result c.in-Ok.ensures right

pub returns-in-Err-clause-right : goal.returns-in-Err-clause-right
returns-in-Err-clause-right g c = wrote-none _ _ _
