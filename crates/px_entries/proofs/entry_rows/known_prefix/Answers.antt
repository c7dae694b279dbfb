use Rattle.std.proofs.Common.{◌∙◌, ◌<◌, ◌≤◌, ◌+◌, List, take, ap, sym, subst, arith, add-one}
use Rattle.std.specs.Prelude.{[], ◌∷◌, All}
use Rattle.px_table.specs.Kernels.{steps_under}
use Rattle.px_terms.specs.Validity.{IsAtomOf}
use Rattle.px_terms.specs.declared.atom.Atom.{Atom}
use Rattle.px_entries.specs.Entries.{initial_atoms}
use Rattle.px_gaps.specs.Known.{IsKnownOf}
use Rattle.px_entries.proofs.RowSteps.{asked-all, asked-limit, asked-next, initial-are_of, marks-variables, none-asked, steps-count, steps-ground, step-taken, steps-variables}
use Rattle.px_entries.proofs.entry_rows.known_prefix.Goals as goal

pub loop-place-init : goal.loop-place-init
loop-place-init c =
    none-asked c.args.problem.now c.args.table.now c.args.sigma.now
    (take c.args.prefix (steps_under c.args.table.now c.args.sigma.now)) c.args.model.now.atoms c.in_ok-facts.facts.atoms
    c.in_ok-facts.ensures

pub step_under-step-requires-clause-place : goal.step_under-step-requires-clause-place
step_under-step-requires-clause-place c = omega (arith, c.loop-place-test.true, c.requires.prefix.within)

pub step_under-step-requires-clause-steps : goal.step_under-step-requires-clause-steps
step_under-step-requires-clause-steps c =
    steps-variables c.args.problem.now c.args.table.now c.args.sigma.now c.requires.table c.requires.prefix.count

pub initial_of-requires : goal.initial_of-requires
initial_of-requires c =
    record { marks = marks-variables c.args.problem.now c.args.table.now c.args.sigma.now c.requires.table c.requires.prefix.count }

pub known_row-requires-clause-formula : goal.known_row-requires-clause-formula
known_row-requires-clause-formula c =
    subst (All (IsAtomOf c.args.problem.now 0)) (sym (c.deref.ensures.value ∙ c.in_ok-formula.ensures))
    (initial-are_of c.args.problem.now c.args.table.now c.args.prefix c.args.sigma.now c.requires.table c.requires.prefix
    (c.loop-place.place + 1) (omega (arith, c.loop-place-test.true)))

pub returns-then-is_limited : goal.returns-then-is_limited
returns-then-is_limited c =
    let problem = c.args.problem.now in
    let table = c.args.table.now in
    let sigma = c.args.sigma.now in
    let place = c.loop-place.place in
    let facts = c.loop-place.facts.atoms in
    let steps = take c.args.prefix (steps_under table sigma) in
    asked-limit problem table sigma steps c.args.model.now.atoms place facts c.loop-place.known c.in_ok-row.row c.in_ok-both.both
    c.step_under-step.result
    (subst (λ n. place < n) (sym (steps-count table sigma c.args.prefix c.requires.prefix.within)) c.loop-place-test.true)
    (step-taken table sigma c.args.prefix place c.step_under-step.result c.loop-place-test.true c.step_under-step.ensures)
    c.loop-place.invariant
    (subst (λ (l : List Atom). IsKnownOf problem (record { formula = l; variable_count = 0; facts = facts } ∷ []) c.in_ok-row.row)
    (c.deref.ensures.value ∙ c.in_ok-formula.ensures ∙ ap (initial_atoms table sigma) (add-one place)) c.in_ok-row.ensures)
    c.in_ok-both.ensures (c.is_limited.ensures.0 c.if-is_limited.true)

pub left_in_place-requires-clause-inst : goal.left_in_place-requires-clause-inst
left_in_place-requires-clause-inst c =
    steps-ground c.args.problem.now c.args.table.now c.args.sigma.now c.loop-place.place c.step_under-step.result c.requires.table
    c.requires.prefix.count (omega (arith, c.loop-place-test.true, c.requires.prefix.within)) c.step_under-step.ensures

pub loop-place-preserved : goal.loop-place-preserved
loop-place-preserved c =
    let problem = c.args.problem.now in
    let table = c.args.table.now in
    let sigma = c.args.sigma.now in
    let place = c.loop-place.place in
    let facts = c.loop-place.facts.atoms in
    let steps = take c.args.prefix (steps_under table sigma) in
    asked-next problem table sigma steps c.args.model.now.atoms place facts c.loop-place.known c.in_ok-row.row c.in_ok-both.both
    c.step_under-step.result
    (subst (λ n. place < n) (sym (steps-count table sigma c.args.prefix c.requires.prefix.within)) c.loop-place-test.true)
    (step-taken table sigma c.args.prefix place c.step_under-step.result c.loop-place-test.true c.step_under-step.ensures)
    c.loop-place.invariant
    (subst (λ (l : List Atom). IsKnownOf problem (record { formula = l; variable_count = 0; facts = facts } ∷ []) c.in_ok-row.row)
    (c.deref.ensures.value ∙ c.in_ok-formula.ensures ∙ ap (initial_atoms table sigma) (add-one place)) c.in_ok-row.ensures)
    c.in_ok-both.ensures c.in_ok-left.left.atoms (place + 1) c.in_ok-left.ensures (add-one place)

pub returns : goal.returns
returns c =
    let table = c.args.table.now in
    let sigma = c.args.sigma.now in
    asked-all c.args.problem.now table sigma (take c.args.prefix (steps_under table sigma)) c.args.model.now.atoms c.loop-place.place
    c.loop-place.facts.atoms c.loop-place.known
    (subst (λ n. n ≤ c.loop-place.place) (sym (steps-count table sigma c.args.prefix c.requires.prefix.within)) c.loop-place-test.false)
    c.loop-place.invariant
