use Rattle.px_run.proofs.AnswerLemmas.{text-answers}
use Rattle.px_run.proofs.running.answer_text.Goals as goal

pub returns : goal.returns
returns c = text-answers c.text_of-text.result
    (λ text. text.items) c.args.session.now c.lawful_reply.new.session c.in_ok-reply.reply c.in_ok-reply.ensures.answered
    c.text_of-text.ensures.text
