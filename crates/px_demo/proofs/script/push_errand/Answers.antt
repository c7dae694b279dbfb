use Rattle.px_demo.specs.Script.{learn_line, plan_line, run_line}
use Rattle.px_demo.proofs.Texts.{on-ok, three-grow}
use Rattle.px_demo.proofs.script.push_errand.Goals as goal

pub returns : goal.returns
returns c = on-ok c.push_run.result _ _
    (three-grow (plan_line c.args.errand c.args.room) (learn_line c.args.errand)
    (run_line c.args.errand) _ _ _ _ c.in_ok-push_plan.ensures c.in_ok-push_learn.ensures)
    c.push_run.ensures
