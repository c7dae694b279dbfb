use Rattle.std.proofs.Common.{◌≡◌, refl, sym, ap, subst}
use Rattle.std.specs.Prelude.{Some, Err, Contains}
use Rattle.px_edit.specs.declared.edit_err.EditErr.{EditErr}
use Rattle.px_edit.specs.EditCauses.{KeepsTooDeep, KeepsTooMany}
use Rattle.px_session.specs.Lawful.{TellsEditing}
use Rattle.px_session.specs.Sessions.{SessionState, any_table}
use Rattle.px_session.specs.contracts.state.State as held
use Rattle.px_session.proofs.OneEditing.{not-too-deep, not-too-many, put-edited, told-want}
use Rattle.px_session.proofs.OneLearning.{any-right}
use Rattle.px_session.proofs.state.State.edit.Goals as goal

pub edit-requires-clause-table : goal.edit-requires-clause-table
edit-requires-clause-table c =
    any-right c.args.problem.now c.args.self.now c.requires.session.plans c.requires.session.learned c.args.source c.in-Some.table.now
    (sym c.in-Some.ensures)

pub put_edited-requires-clause-new_name : goal.put_edited-requires-clause-new_name
put_edited-requires-clause-new_name c =
    subst (λ (s : SessionState). ¬ Contains s.learned.names c.args.name) (sym c.self.view_is) c.requires.new_name

pub returns-in_ok-reply-in-Ok-clause-told : goal.returns-in_ok-reply-in-Ok-clause-told
returns-in_ok-reply-in-Ok-clause-told c =
    let may = c.in-Ok.ensures.editable in
    let named = subst (λ (s : SessionState). any_table s c.args.source ≡ Some c.in-Some.table.now) (sym c.self.view_is) (sym c.in-Some.ensures) in
    let few : ¬ KeepsTooMany c.in-Some.table.now c.args.wanted.now = not-too-many c.in-Ok.edited (c.in-Ok.ensures.always_too_long may) in
    let low : ¬ KeepsTooDeep c.in-Some.table.now c.args.wanted.now = not-too-deep c.in-Ok.edited (c.in-Ok.ensures.always_too_deep may few) in
    subst (λ (s : SessionState). TellsEditing c.args.problem.now s c.args.name c.args.source c.args.prefix c.args.wanted.now
    c.in_ok-reply-in-Ok.reply (record (held.the_view c.self.inside) { learned = c.put_edited.new.library }))
    c.self.view_is
    (put-edited c.args.problem.now (held.the_view c.self.inside) c.args.name c.args.source c.args.prefix c.args.wanted.now c.in-Some.table.now
    c.in-Ok.edited named may few low c.in-Ok.ensures.edited c.in_ok-reply-in-Ok.reply c.put_edited.new.library
    c.in_ok-reply-in-Ok.ensures.put)

pub returns-in-Err-BadPrefix-clause-told : goal.returns-in-Err-BadPrefix-clause-told
returns-in-Err-BadPrefix-clause-told c =
    let exact = rw c.in-Err-BadPrefix.field-0-is at c.in-Err-BadPrefix.ensures.bad_prefix in
    (refl, record { table = c.in-Some.table.now; named = sym c.in-Some.ensures; refused = exact.0 refl; same = refl })

pub returns-in-Err-BadWant-clause-told : goal.returns-in-Err-BadWant-clause-told
returns-in-Err-BadWant-clause-told c =
    let bad = told-want c.args.problem.now c.in-Some.table.now c.args.prefix c.args.wanted.now (Err c.in-Err-BadWant.field-0) _
    (ap (λ (e : EditErr). Err e) c.in-Err-BadWant.field-0-is) c.in-Err-BadWant.ensures.bad_want in
    (refl, record { table = c.in-Some.table.now; named = sym c.in-Some.ensures; refused = bad; same = refl })

pub returns-in-Err-TooLong-clause-told : goal.returns-in-Err-TooLong-clause-told
returns-in-Err-TooLong-clause-told c =
    let told = rw c.in-Err-TooLong.field-0-is at c.in-Err-TooLong.ensures.too_long in
    (refl, record { table = c.in-Some.table.now; named = sym c.in-Some.ensures; refused = told refl; same = refl })

pub returns-in-Err-TooDeep-clause-told : goal.returns-in-Err-TooDeep-clause-told
returns-in-Err-TooDeep-clause-told c =
    let told = rw c.in-Err-TooDeep.field-0-is at c.in-Err-TooDeep.ensures.too_deep in
    (refl, record { table = c.in-Some.table.now; named = sym c.in-Some.ensures; refused = told refl; same = refl })
