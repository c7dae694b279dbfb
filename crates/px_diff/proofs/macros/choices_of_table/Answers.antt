use Rattle.std.proofs.Common.{◌≡◌, ◌∙◌, ℕ, length, ap, sym, subst, arith}
use Rattle.std.specs.Prelude.{All}
use Rattle.px_table.specs.Tables.{IsStepOf}
use Rattle.px_gaps.specs.Bindings.{AreUnbound, IsBinding}
use Rattle.px_gaps.proofs.Describing.{unbound-binding}
use Rattle.px_diff.proofs.macros.choices_of_table.Goals as goal

pub one_matches-requires-clause-steps : goal.one_matches-requires-clause-steps
one_matches-requires-clause-steps c =
    let long : length c.as_slice-terms.result.now ≡ c.args.table.now.params =
    ap length c.as_slice-terms.ensures.value ∙ c.in_ok-made.ensures.count in
    subst (λ (n : ℕ). All (IsStepOf c.args.request.now.problem.now n) c.as_slice-steps.result.now) (sym long)
    (subst (All (IsStepOf c.args.request.now.problem.now c.args.table.now.params))
    (sym c.as_slice-steps.ensures) c.requires.table.in_range.steps)

pub one_matches-requires-clause-binding : goal.one_matches-requires-clause-binding
one_matches-requires-clause-binding c =
    subst (IsBinding c.args.request.now.problem.now.objects) (sym c.as_slice-terms.ensures.value)
    (unbound-binding c.args.request.now.problem.now.objects c.args.table.now.params c.in_ok-made.made.items c.in_ok-made.ensures
    (λ _. omega (arith, c.if-problem-eq0.false)))

pub choices_of_rows-requires : goal.choices_of_rows-requires
choices_of_rows-requires c = record {
  valid = c.requires.problem;
  is_table = c.requires.table;
  long = ap length c.as_slice-terms.ensures.value ∙ c.in_ok-made.ensures.count;
  binding =
      subst (IsBinding c.args.request.now.problem.now.objects) (sym c.as_slice-terms.ensures.value)
      (unbound-binding c.args.request.now.problem.now.objects c.args.table.now.params c.in_ok-made.made.items c.in_ok-made.ensures
      (λ _. omega (arith, c.if-problem-eq0.false)));
  few = omega (arith, c.if-table-gt-MOST_GAP_VARIABLES.false);
}

pub returns : goal.returns
returns c = record {
  terms = c.as_slice-terms.result.now;
  unbound = subst (AreUnbound c.args.table.now.params) (sym c.as_slice-terms.ensures.value) c.in_ok-made.ensures;
  some_object = omega (arith, c.if-problem-eq0.false);
  set = c.in_ok-rows.ensures.facts.ascending;
  known = c.in_ok-rows.ensures.rows;
}
