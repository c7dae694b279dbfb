use Rattle.std.proofs.Common.{◌<◌, List, [], length, get_or, subst, sym, arith}
use Rattle.std.proofs.lemmas.List.{get_or_default}
use Rattle.px_terms.specs.declared.clause.Clause.{Clause}
use Rattle.px_terms.specs.declared.clause.Lit.{Lit}
use Rattle.px_entries.specs.Plain.{AreAboutAddable}
use Rattle.px_base.proofs.Loops.{all_before_next, is_false, is_true, not_any, said_no, said_yes}
use Rattle.px_entries.proofs.plain.axioms_mention_addable.Goals as goal

abbrev empty : Clause
empty = record { variable_count = 0; lits = [] }

pub returns-then-are_about_addable : goal.returns-then-are_about_addable
returns-then-are_about_addable c =
    let problem = c.args.problem.now in
    let clause = get_or problem.axioms c.loop-number.number empty in
    let within : c.loop-number.number < length problem.axioms = omega (arith, c.loop-number-test.true, c.count-number-end.ensures.count) in
    is_true (
      c.loop-number.number,
      clause,
      within,
      get_or_default problem.axioms c.loop-number.number clause empty within,
      subst (λ (lits : List Lit). AreAboutAddable problem lits) (c.lits.ensures.value empty)
          (said_yes c.are_about_addable.result c.are_about_addable.ensures c.if-are_about_addable.true),
    )

pub loop-number-preserved : goal.loop-number-preserved
loop-number-preserved c =
    let problem = c.args.problem.now in
    let clause = get_or problem.axioms c.loop-number.number empty in
    let within : c.loop-number.number < length problem.axioms = omega (arith, c.loop-number-test.true, c.count-number-end.ensures.count) in
    all_before_next (λ (each : Clause). ¬ AreAboutAddable problem each.lits) problem.axioms c.loop-number.number clause
    c.loop-number.invariant within (get_or_default problem.axioms c.loop-number.number empty clause within)
    (λ about. said_no c.are_about_addable.result c.are_about_addable.ensures c.if-are_about_addable.false
    (subst (λ (lits : List Lit). AreAboutAddable problem lits) (sym (c.lits.ensures.value empty)) about))

pub returns : goal.returns
returns c =
    is_false (not_any (λ (clause : Clause). AreAboutAddable c.args.problem.now clause.lits) c.args.problem.now.axioms c.loop-number.number
    c.loop-number.invariant (omega (arith, c.loop-number-test.false, c.count-number-end.ensures.count)))
