use Rattle.px_so_far.proofs.Common.{◌≡◌, ◌<◌, ◌++◌, ◌∷◌, [], ◌∙◌, ap, arith, get_or, length, sym, subst, take, take_more, Err, ArePlainBelow}
use Rattle.px_terms.specs.Clauses.{HasClauseLength}
use Rattle.px_terms.specs.declared.clause.Clause.{Clause}
use Rattle.px_so_far.proofs.problem.copied_axioms.Goals as goal

pub push-requires : goal.push-requires
push-requires c =
    let d : Clause = record { variable_count = 0; lits = [] } in
    let below : c.loop-number.number < length c.args.axioms.now
    = omega (arith, c.loop-number-test.true, c.loop-number.auto.number-end, c.count-number-end.ensures.count) in
    let one = c.lits.ensures.arena.each c.loop-number.number d below in
    subst (λ n. ArePlainBelow n c.lits.result.now) (sym (c.variable_count.ensures.value d))
    (subst (ArePlainBelow _) (sym (c.lits.ensures.value d)) one.plain)

pub unreachable-requires : goal.unreachable-requires
unreachable-requires c =
    let d : Clause = record { variable_count = 0; lits = [] } in
    let below : c.loop-number.number < length c.args.axioms.now
    = omega (arith, c.loop-number-test.true, c.loop-number.auto.number-end, c.count-number-end.ensures.count) in
    let one = c.lits.ensures.arena.each c.loop-number.number d below in
    c.push.ensures.length.0 (c.in-Err-BadLength.is ∙ ap Err c.in-Err-BadLength.field-0-is)
    (subst HasClauseLength (sym (c.lits.ensures.value d)) one.size)

pub loop-number-preserved : goal.loop-number-preserved
loop-number-preserved c =
    let d : Clause = record { variable_count = 0; lits = [] } in
    let k = c.loop-number.number in
    let below : k < length c.args.axioms.now
    = omega (arith, c.loop-number-test.true, c.loop-number.auto.number-end, c.count-number-end.ensures.count) in
    let new : ◌≡◌ {A = Clause} (record { variable_count = c.variable_count.result; lits = c.lits.result.now }) (get_or c.args.axioms.now k d)
    = λ i. record { variable_count = c.variable_count.ensures.value d i; lits = c.lits.ensures.value d i } in
    c.in-Ok.ensures.added
    ∙ ap (λ clauses. clauses ++ record { variable_count = c.variable_count.result; lits = c.lits.result.now } ∷ []) c.loop-number.invariant
    ∙ ap (λ (clause : Clause). take k c.args.axioms.now ++ clause ∷ []) new ∙ sym (take_more c.args.axioms.now k d below)
