use Rattle.std.proofs.Common.{◌<◌, List, [], length, get_or, subst, sym, arith}
use Rattle.std.proofs.lemmas.List.{get_or_default}
use Rattle.px_terms.specs.declared.clause.Clause.{Clause}
use Rattle.px_terms.specs.declared.clause.Lit.{Lit}
use Rattle.px_gaps.specs.Concluding.{Asserts}
use Rattle.px_base.proofs.Loops.{all_before_next, is_false, is_true, not_any, said_no, said_yes}
use Rattle.px_gaps.proofs.facts.is_concluded.Goals as goal

abbrev empty : Clause
empty = record { variable_count = 0; lits = [] }

pub returns-then-asserts : goal.returns-then-asserts
returns-then-asserts c =
    let axioms = c.args.problem.now.axioms in
    let clause = get_or axioms c.loop-number.number empty in
    let within : c.loop-number.number < length axioms = omega (arith, c.loop-number-test.true, c.count-number-end.ensures.count) in
    is_true (
      c.loop-number.number,
      clause,
      within,
      get_or_default axioms c.loop-number.number clause empty within,
      subst (λ (lits : List Lit). Asserts c.args.pred lits) (c.lits.ensures.value empty)
          (said_yes c.asserts.result c.asserts.ensures c.if-asserts.true),
    )

pub loop-number-preserved : goal.loop-number-preserved
loop-number-preserved c =
    let axioms = c.args.problem.now.axioms in
    let clause = get_or axioms c.loop-number.number empty in
    let within : c.loop-number.number < length axioms = omega (arith, c.loop-number-test.true, c.count-number-end.ensures.count) in
    all_before_next (λ (each : Clause). ¬ Asserts c.args.pred each.lits) axioms c.loop-number.number clause c.loop-number.invariant within
    (get_or_default axioms c.loop-number.number empty clause within)
    (λ asserted. said_no c.asserts.result c.asserts.ensures c.if-asserts.false
    (subst (λ (lits : List Lit). Asserts c.args.pred lits) (sym (c.lits.ensures.value empty)) asserted))

pub returns : goal.returns
returns c =
    is_false (not_any (λ (clause : Clause). Asserts c.args.pred clause.lits) c.args.problem.now.axioms c.loop-number.number
    c.loop-number.invariant (omega (arith, c.loop-number-test.false, c.count-number-end.ensures.count)))
