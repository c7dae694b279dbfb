use Rattle.px_run.proofs.CountLemmas.{answer-counts}
use Rattle.px_run.proofs.counts.count_answer.Goals as goal

pub returns : goal.returns
returns c = answer-counts c.with_reply-more.result c.args.session.now c.lawful_reply.new.session c.args.counts c.in_ok-reply.reply
    c.in_ok-reply.ensures.answered
    c.with_reply-more.ensures.plans c.with_reply-more.ensures.steps c.with_reply-more.ensures.goals
