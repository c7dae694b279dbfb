-- The demo's line for five replies.
use Rattle.std.specs.Prelude.{◌≡◌, List, [], ◌∷◌, codes}
use Rattle.px_terms.specs.declared.instance.OpInst.{OpInst}
use Rattle.px_printer.specs.declared.reply.Reply.{Reply}
use Rattle.px_printer.specs.declared.reply.Reply.TheVariants as reply
use Rattle.px_session.specs.Demo.{summary_line}
use Rattle.px_session.specs.WorkedSession.{at_goal, at_nothing}

-- any step
abbrev pub any_step : OpInst
any_step = record { op = 0; args = [] }

-- a plan of two steps that is learned and run to its goal, one that isn't found, and a run that is lost
abbrev pub five_answers : List Reply
five_answers =
    reply.Plan 0 4 (any_step ∷ any_step ∷ []) ∷ reply.Learned 1 2 2 ∷ reply.Ran 0 (at_nothing ∷ at_goal ∷ []) ∷ reply.Exhausted 2
    ∷ reply.Ran 1 (at_goal ∷ at_nothing ∷ []) ∷ []

pub record WorkedDemoLine : Type 0 where
  pub line : summary_line 3 0 9 five_answers ≡ codes "demo 3 0 9 commands 1 plans 2 steps 1 goals\n"
