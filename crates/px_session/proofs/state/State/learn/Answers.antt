use Rattle.std.proofs.Common.{◌≡◌, refl, sym, subst}
use Rattle.std.specs.Prelude.{Some}
use Rattle.px_general.specs.declared.general_err.GeneralErr.TheVariants.{TooLong, TooDeep, TooWide}
use Rattle.px_general.specs.Limits.{IsTooDeep, IsTooWide}
use Rattle.px_library.specs.Libraries.{table_named}
use Rattle.px_session.specs.Lawful.{TellsLearning}
use Rattle.px_session.specs.Sessions.{SessionState}
use Rattle.px_session.specs.contracts.state.State as held
use Rattle.px_session.proofs.Learned.{general-few, not-answered, put-told}
use Rattle.px_session.proofs.OneLearning.{plan-right}
use Rattle.px_session.proofs.state.State.learn.Goals as goal

pub generalise-requires-clause-table : goal.generalise-requires-clause-table
generalise-requires-clause-table c =
    let named = subst (λ (s : SessionState). table_named s.plans c.args.source ≡ Some c.in-Some.plan.now) c.self.view_is
    (sym c.in-Some.ensures) in
    (plan-right c.args.problem.now c.args.self.now c.requires.session c.args.source c.in-Some.plan.now named).table

pub generalise-requires-clause-no_params : goal.generalise-requires-clause-no_params
generalise-requires-clause-no_params c =
    let named = subst (λ (s : SessionState). table_named s.plans c.args.source ≡ Some c.in-Some.plan.now) c.self.view_is
    (sym c.in-Some.ensures) in
    (plan-right c.args.problem.now c.args.self.now c.requires.session c.args.source c.in-Some.plan.now named).no_params

pub put_learned-requires-clause-short : goal.put_learned-requires-clause-short
put_learned-requires-clause-short c =
    let named = subst (λ (s : SessionState). table_named s.plans c.args.source ≡ Some c.in-Some.plan.now) c.self.view_is
    (sym c.in-Some.ensures) in
    general-few c.args.problem.now c.args.self.now c.requires.session c.args.source c.in-Some.plan.now c.in-Ok.general named
    (not-answered c.in-Ok.general TooLong c.in-Ok.ensures.too_long) c.in-Ok.ensures.general

pub returns-in_ok-reply-in-Ok-clause-told : goal.returns-in_ok-reply-in-Ok-clause-told
returns-in_ok-reply-in-Ok-clause-told c =
    let short = not-answered c.in-Ok.general TooLong c.in-Ok.ensures.too_long in
    let low : ¬ IsTooDeep c.in-Some.plan.now = λ deep. not-answered c.in-Ok.general TooDeep c.in-Ok.ensures.too_deep (short, deep) in
    let narrow : ¬ IsTooWide c.in-Some.plan.now = λ wide. not-answered c.in-Ok.general TooWide c.in-Ok.ensures.too_wide
    (short, low, wide) in
    subst (λ (s : SessionState). TellsLearning c.args.problem.now s c.args.name c.args.source c.in_ok-reply-in-Ok.reply
    (record (held.the_view c.self.inside) { learned = c.put_learned.new.library }))
    c.self.view_is
    (put-told c.args.problem.now c.args.name c.args.source (held.the_view c.self.inside) c.in-Some.plan.now c.in-Ok.general
    (sym c.in-Some.ensures) short low narrow
    c.in-Ok.ensures.general c.in_ok-reply-in-Ok.reply c.put_learned.new.library c.in_ok-reply-in-Ok.ensures.put)

pub returns-in-Err-TooLong-clause-told : goal.returns-in-Err-TooLong-clause-told
returns-in-Err-TooLong-clause-told c =
    let exact = rw c.in-Err-TooLong.field-0-is at c.in-Err-TooLong.ensures.too_long in
    let named = subst (λ (s : SessionState). table_named s.plans c.args.source ≡ Some c.in-Some.plan.now) c.self.view_is
    (sym c.in-Some.ensures) in
    (refl, record { plan = c.in-Some.plan.now; named = named; refused = exact.0 refl; same = refl })

pub returns-in-Err-TooDeep-clause-told : goal.returns-in-Err-TooDeep-clause-told
returns-in-Err-TooDeep-clause-told c =
    let exact = rw c.in-Err-TooDeep.field-0-is at c.in-Err-TooDeep.ensures.too_deep in
    let named = subst (λ (s : SessionState). table_named s.plans c.args.source ≡ Some c.in-Some.plan.now) c.self.view_is
    (sym c.in-Some.ensures) in
    (refl, record { plan = c.in-Some.plan.now; named = named; refused = exact.0 refl; same = refl })

pub returns-in-Err-TooWide-clause-told : goal.returns-in-Err-TooWide-clause-told
returns-in-Err-TooWide-clause-told c =
    let exact = rw c.in-Err-TooWide.field-0-is at c.in-Err-TooWide.ensures.too_wide in
    let named = subst (λ (s : SessionState). table_named s.plans c.args.source ≡ Some c.in-Some.plan.now) c.self.view_is
    (sym c.in-Some.ensures) in
    (refl, record { plan = c.in-Some.plan.now; named = named; refused = exact.0 refl; same = refl })
