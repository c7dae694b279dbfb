use Rattle.std.proofs.Common.{◌≡◌, ◌+◌, drop, get_or, sym, ap, ◌∙◌, arith, Some, None}
use Rattle.std.specs.Prelude.{Option}
use Rattle.std.proofs.lemmas.Slice.Zip.{AllZip-long}
use Rattle.px_terms.specs.declared.term.Term.{Term}
use Rattle.px_table.specs.Choices.{choice_of, chosen_or_any, first_answer, term_beside}
use Rattle.px_table.specs.Conclusions.{IsConclusion}
use Rattle.px_table.proofs.Choosing.{choice_end, choice_here, conclusion_here, no_atom}
use Rattle.px_table.proofs.goal_row.choice.Goals as goal

pub returns-then-k-row : goal.returns-then-k-row
returns-then-k-row c = λ atoms concluded.
    let same = AllZip-long (IsConclusion c.args.axioms.now) atoms c.args.row.now concluded in
    ap chosen_or_any (sym (choice_end c.args.variable c.args.goal.now atoms c.loop-k.k (omega (arith, same, c.if-k-row.true)))
    ∙ c.loop-k.invariant atoms concluded)

pub returns-in-Some : goal.returns-in-Some
returns-in-Some c = λ atoms concluded.
    let here =
    conclusion_here c.args.axioms.now c.args.row.now c.loop-k.k c.index-row-k.result c.index-row-k.is c.if-k-row.false atoms concluded
    in
    let found : term_beside c.args.variable c.index-goal-k.result.args (get_or atoms c.loop-k.k no_atom).args ≡ Some c.in-Some.term =
    sym (c.term_of_proof.ensures (get_or atoms c.loop-k.k no_atom) here) ∙ c.in-Some.is in
    let step =
    choice_here c.args.axioms.now c.args.row.now c.loop-k.k c.index-row-k.result c.index-row-k.is c.if-k-row.false atoms concluded
    c.args.variable c.args.goal.now c.index-goal-k.result c.loop-k-test.true c.index-goal-k.is in
    sym (ap chosen_or_any (sym (c.loop-k.invariant atoms concluded) ∙ step
    ∙ ap (λ (o : Option Term). first_answer o (choice_of c.args.variable (drop (c.loop-k.k + 1) c.args.goal.now)
    (drop (c.loop-k.k + 1) atoms))) found))

pub loop-k-preserved : goal.loop-k-preserved
loop-k-preserved c = λ atoms concluded.
    let here =
    conclusion_here c.args.axioms.now c.args.row.now c.loop-k.k c.index-row-k.result c.index-row-k.is c.if-k-row.false atoms concluded
    in
    let missing : term_beside c.args.variable c.index-goal-k.result.args (get_or atoms c.loop-k.k no_atom).args ≡ None =
    sym (c.term_of_proof.ensures (get_or atoms c.loop-k.k no_atom) here) ∙ c.in_default.is in
    let step =
    choice_here c.args.axioms.now c.args.row.now c.loop-k.k c.index-row-k.result c.index-row-k.is c.if-k-row.false atoms concluded
    c.args.variable c.args.goal.now c.index-goal-k.result c.loop-k-test.true c.index-goal-k.is in
    sym (ap (λ (o : Option Term). first_answer o (choice_of c.args.variable (drop (c.loop-k.k + 1) c.args.goal.now)
    (drop (c.loop-k.k + 1) atoms))) missing)
    ∙ sym step ∙ c.loop-k.invariant atoms concluded
