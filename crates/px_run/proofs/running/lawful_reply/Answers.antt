use Rattle.px_run.proofs.AnswerLemmas.{answered-of, named-of}
use Rattle.px_run.proofs.running.lawful_reply.Goals as goal

pub returns-clause-answered : goal.returns-clause-answered
returns-clause-answered c = answered-of c.execute.result _ _ c.args.place c.requires.next c.execute.ensures.lawful c.execute.ensures.frame

pub returns-clause-named : goal.returns-clause-named
returns-clause-named c = named-of c.execute.result _ _ _ _ _ c.execute.ensures.named c.execute.ensures.frame
