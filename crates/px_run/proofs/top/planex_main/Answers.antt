use Rattle.px_run.proofs.CheckLemmas.{check-completes, check-completes_surely, check-prefix, check-refuses, check-right, is_certified}
use Rattle.px_run.proofs.DemoLemmas.{demo-completes, demo-completes_surely, demo-prefix, demo-right, run-right}
use Rattle.px_run.specs.Outcomes.{source_ends}
use Rattle.px_run.proofs.Prefixes.{run-prefix}
use Rattle.px_run.proofs.OutcomeLemmas.{run-completes, run-completes_surely, run-refuses}
use Rattle.px_run.proofs.top.planex_main.Goals as goal

pub returns-clause-completes : goal.returns-clause-completes
returns-clause-completes g c =
    λ taken. run-completes _ _ c.obey.result c.obey.ensures.gone.0 (run-right _ _ _ c.obey.result taken c.obey.ensures.right)
    c.obey.ensures.gone.1 c.obey.ensures.gone.2

pub returns-clause-completes_surely : goal.returns-clause-completes_surely
returns-clause-completes_surely g c =
    λ taken. run-completes_surely _ _ c.obey.result c.obey.ensures.gone.0 (run-right _ _ _ c.obey.result taken c.obey.ensures.right)
    c.obey.ensures.gone.1 c.obey.ensures.gone.2

pub returns-clause-refuses : goal.returns-clause-refuses
returns-clause-refuses g c = λ taken. run-refuses _ _ c.obey.result c.obey.ensures.gone.0
    (run-right _ _ _ c.obey.result taken c.obey.ensures.right)
    c.obey.ensures.gone.1 c.obey.ensures.gone.2

pub returns-clause-prefix : goal.returns-clause-prefix
returns-clause-prefix g c = λ taken. run-prefix _ _ c.obey.result (run-right _ _ _ c.obey.result taken c.obey.ensures.right)

pub returns-clause-demo_completes : goal.returns-clause-demo_completes
returns-clause-demo_completes g c =
    λ rooms seed taken. demo-completes rooms seed _ c.obey.result (demo-right rooms seed _ _ _ c.obey.result taken c.obey.ensures.right)

pub returns-clause-demo_completes_surely : goal.returns-clause-demo_completes_surely
returns-clause-demo_completes_surely g c =
    λ rooms seed taken. demo-completes_surely rooms seed _ c.obey.result
    (demo-right rooms seed _ _ _ c.obey.result taken c.obey.ensures.right)

pub returns-clause-demo_prefix : goal.returns-clause-demo_prefix
returns-clause-demo_prefix g c =
    λ rooms seed taken. demo-prefix rooms seed _ c.obey.result (demo-right rooms seed _ _ _ c.obey.result taken c.obey.ensures.right)

pub returns-clause-check_completes : goal.returns-clause-check_completes
returns-clause-check_completes g c =
    λ taken. check-completes _ _ c.obey.result c.obey.ensures.gone.0 (check-right _ _ _ c.obey.result taken c.obey.ensures.right)
    c.obey.ensures.gone.1 c.obey.ensures.gone.2

pub returns-clause-check_completes_surely : goal.returns-clause-check_completes_surely
returns-clause-check_completes_surely g c =
    λ taken. check-completes_surely _ _ c.obey.result c.obey.ensures.gone.0
    (check-right _ _ _ c.obey.result taken c.obey.ensures.right)
    c.obey.ensures.gone.1 c.obey.ensures.gone.2

pub returns-clause-check_refuses : goal.returns-clause-check_refuses
returns-clause-check_refuses g c = λ taken. check-refuses _ _ c.obey.result c.obey.ensures.gone.0
    (check-right _ _ _ c.obey.result taken c.obey.ensures.right)
    c.obey.ensures.gone.1 c.obey.ensures.gone.2

pub returns-clause-check_prefix : goal.returns-clause-check_prefix
returns-clause-check_prefix g c = λ taken. check-prefix _ _ c.obey.result (check-right _ _ _ c.obey.result taken c.obey.ensures.right)

pub returns-clause-certifies : goal.returns-clause-certifies
returns-clause-certifies g c = λ taken. is_certified
    (source_ends g.S.Source.left g.S.Source.taken g.S.Source.faults g.S.Source.never_fails c.args.source.now c.obey.new.source)
    c.obey.result
