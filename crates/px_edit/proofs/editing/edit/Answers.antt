use Rattle.std.proofs.Common.{refl, ap, subst}
use Rattle.std.specs.Prelude.{◌≡◌, Err, ℕ}
use Rattle.px_base.specs.Answers.{both_answers}
use Rattle.px_edit.specs.declared.edit_err.EditErr.TheVariants.{BadWant}
use Rattle.px_edit.specs.EditCauses.{IsBadPrefix, IsFirstBadWant}
use Rattle.px_edit.specs.Editing.{IsEdited}
use Rattle.px_edit.specs.Refusals.{IsWithinLimits}
use Rattle.px_edit.proofs.EditLimits.{bad-prefix-not, good-prefix, if_ok}
use Rattle.px_edit.proofs.EditSteps.{all-editable, editable-none, first-is_one}
use Rattle.px_edit.proofs.Replies.{always-too_deep, always-too_long, is-too_deep, is-too_long, made-few, made-kernels, made-lows, made-serves, made-table, no-bad_prefix, no-bad_want, ok_both}
use Rattle.px_edit.proofs.editing.edit.Goals as goal

pub first_bad_want-requires-clause-most : goal.first_bad_want-requires-clause-most
first_bad_want-requires-clause-most c =
    (good-prefix c.args.table.now c.args.prefix
    (λ bad. both_answers _ c.if-is_bad_prefix.false (c.is_bad_prefix.ensures.1 bad))).1

pub edit_editable-requires-clause-editable : goal.edit_editable-requires-clause-editable
edit_editable-requires-clause-editable c =
    let good = good-prefix c.args.table.now c.args.prefix
    (λ bad. both_answers _ c.if-is_bad_prefix.false (c.is_bad_prefix.ensures.1 bad)) in
    all-editable c.args.problem.now c.args.table.now c.args.prefix c.args.wanted.now (c.first_bad_want.ensures.none c.in-None.is) good.0 good.1

pub returns-then-is_bad_prefix : goal.returns-then-is_bad_prefix
returns-then-is_bad_prefix c =
    let bad = c.is_bad_prefix.ensures.0 c.if-is_bad_prefix.true in
    record {
      edited = tt;
      editable = tt;
      table = tt;
      kernels = tt;
      serves = tt;
      few_steps = tt;
      low = tt;
      bad_prefix = (λ _. bad, λ _. refl);
      bad_want = λ place. (λ e. absurd (cc), λ h. absurd (h.0 bad));
      too_long = λ e. absurd (cc);
      always_too_long = λ may many.
          absurd (bad-prefix-not c.args.problem.now c.args.table.now c.args.prefix c.args.wanted.now may bad);
      too_deep = λ e. absurd (cc);
      always_too_deep = λ may few deep.
          absurd (bad-prefix-not c.args.problem.now c.args.table.now c.args.prefix c.args.wanted.now may bad);
    }

pub returns-in-Some : goal.returns-in-Some
returns-in-Some c =
    let good : ¬ IsBadPrefix c.args.table.now c.args.prefix =
    λ bad. both_answers _ c.if-is_bad_prefix.false (c.is_bad_prefix.ensures.1 bad) in
    let first = c.first_bad_want.ensures.first c.in-Some.place c.in-Some.is in
    record {
      edited = tt;
      editable = tt;
      table = tt;
      kernels = tt;
      serves = tt;
      few_steps = tt;
      low = tt;
      bad_prefix = (λ e. absurd (cc), λ bad. absurd (good bad));
      bad_want = λ place. (
        λ e.
            let same : c.in-Some.place ≡ place = cc in
            (good, subst (IsFirstBadWant c.args.problem.now c.args.table.now c.args.prefix c.args.wanted.now) same first),
        λ h. ap (λ (n : ℕ). Err (BadWant n))
            (first-is_one c.args.problem.now c.args.table.now c.args.prefix c.args.wanted.now c.in-Some.place place first h.1),
      );
      too_long = λ e. absurd (cc);
      always_too_long = λ may many.
          absurd (editable-none c.args.problem.now c.args.table.now c.args.prefix c.args.wanted.now may c.in-Some.place first.bad);
      too_deep = λ e. absurd (cc);
      always_too_deep = λ may few deep.
          absurd (editable-none c.args.problem.now c.args.table.now c.args.prefix c.args.wanted.now may c.in-Some.place first.bad);
    }

pub returns-in-None : goal.returns-in-None
returns-in-None c =
    let problem = c.args.problem.now in
    let table = c.args.table.now in
    let wanted = c.args.wanted.now in
    let good = good-prefix table c.args.prefix
    (λ bad. both_answers _ c.if-is_bad_prefix.false (c.is_bad_prefix.ensures.1 bad)) in
    let none = c.first_bad_want.ensures.none c.in-None.is in
    let may = all-editable problem table c.args.prefix wanted none good.0 good.1 in
    let r = c.edit_editable.result in
    let done = c.edit_editable.ensures.edited in
    let allowed = c.edit_editable.ensures.allowed in
    let refused = c.edit_editable.ensures.refused in
    record {
      edited = done;
      editable = if_ok (IsEdited problem table wanted) _ (λ edited is. may) r done;
      table = if_ok (IsEdited problem table wanted) _
          (made-table problem c.requires.problem table c.requires.table c.args.prefix wanted may) r done;
      kernels = if_ok (IsEdited problem table wanted) _
          (made-kernels problem c.requires.problem table c.requires.table c.args.prefix wanted may) r done;
      serves = if_ok (IsEdited problem table wanted) _
          (made-serves problem c.requires.problem table c.requires.table c.args.prefix wanted may) r done;
      few_steps = ok_both (IsEdited problem table wanted) (λ _. IsWithinLimits table wanted) _
          (made-few problem c.requires.problem table c.requires.table c.args.prefix wanted may) r done allowed;
      low = ok_both (IsEdited problem table wanted) (λ _. IsWithinLimits table wanted) _
          (made-lows problem c.requires.problem table c.requires.table c.args.prefix wanted may) r done allowed;
      bad_prefix = (
        λ e. absurd (no-bad_prefix table wanted r refused e),
        λ bad. absurd (bad-prefix-not problem table c.args.prefix wanted may bad),
      );
      bad_want = λ place. (
        λ e. absurd (no-bad_want table wanted r refused place e),
        λ h. absurd (none place h.1.bad),
      );
      too_long = λ e. (may, is-too_long table wanted r refused e);
      always_too_long = λ _ many. always-too_long table wanted r allowed refused many;
      too_deep = λ e. let h = is-too_deep table wanted r refused e in (may, h.0, h.1);
      always_too_deep = λ _ few deep. always-too_deep table wanted r allowed refused few deep;
    }
