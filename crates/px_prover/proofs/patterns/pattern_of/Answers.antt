use Rattle.std.proofs.Common.{◌≡◌, ◌≤◌, subst, sym, ℕ, List}
use Rattle.std.specs.Prelude.{All, cond}
use Rattle.px_prover.specs.GapAsking.{gap_setting}
use Rattle.px_prover.specs.Gathering.{AreEnds, AreMissing}
use Rattle.px_prover.specs.Patterns.{IsPatternBy, IsQuestionPattern, kept_count}
use Rattle.px_prover.specs.Standing.{ticks_in}
use Rattle.px_prover.specs.declared.pattern.GapPattern.{GapPattern}
use Rattle.px_prover.proofs.Gathered.{ends-read, first-within, missing-within, state-pattern}
use Rattle.px_prover.proofs.Keeping.{few-kept, ok-weaker}
use Rattle.px_terms.specs.declared.atom.Atom.{Atom}
use Rattle.px_unify.specs.Changes.{variables_of}
use Rattle.px_prover.proofs.patterns.pattern_of.Goals as goal

pub free_of-requires-clause-first : goal.free_of-requires-clause-first
free_of-requires-clause-first c =
    let q = c.args.question.now in
    let v = c.args.state.now in
    let few : c.kept_terms-terms.result ≤ q.variable_count =
    subst (λ (n : ℕ). n ≤ q.variable_count) (sym c.kept_terms-terms.ensures) (few-kept q.with_terms q.variable_count) in
    first-within (gap_setting q) q.formula.now q.variable_count v c.requires c.as_slice-roots.result.now
    (ends-read v.changes c.bind.result.now _ c.as_slice-roots.result.now c.bind.ensures c.in_ok-ends.ensures c.as_slice-roots.ensures.value)
    c.as_slice-missing.result.now
    (subst (AreMissing (gap_setting q) q.formula.now q.variable_count (ticks_in v.choices) (variables_of v.changes))
    (sym c.as_slice-missing.ensures.value) c.in_ok-atoms.ensures)
    c.kept_terms-terms.result few

pub free_of-requires-clause-atoms : goal.free_of-requires-clause-atoms
free_of-requires-clause-atoms c =
    let q = c.args.question.now in
    let v = c.args.state.now in
    missing-within (gap_setting q) q.formula.now q.variable_count v c.requires c.as_slice-roots.result.now
    (ends-read v.changes c.bind.result.now _ c.as_slice-roots.result.now c.bind.ensures c.in_ok-ends.ensures c.as_slice-roots.ensures.value)
    c.as_slice-missing.result.now
    (subst (AreMissing (gap_setting q) q.formula.now q.variable_count (ticks_in v.choices) (variables_of v.changes))
    (sym c.as_slice-missing.ensures.value) c.in_ok-atoms.ensures)

pub returns : goal.returns
returns c =
    let q = c.args.question.now in
    let v = c.args.state.now in
    ok-weaker c.pattern_by.result
    (λ pattern. IsPatternBy c.kept_terms-terms.result c.as_slice-missing.result.now c.as_slice-roots.result.now c.as_slice-free.result.now
    pattern)
    (IsQuestionPattern q v)
    (λ pattern by. state-pattern (kept_count q) c.kept_terms-terms.result (gap_setting q) q.formula.now q.variable_count v c.kept_terms-terms.ensures
    c.as_slice-roots.result.now
    (ends-read v.changes c.bind.result.now _ c.as_slice-roots.result.now c.bind.ensures c.in_ok-ends.ensures c.as_slice-roots.ensures.value)
    _ c.as_slice-missing.result.now c.in_ok-atoms.ensures c.as_slice-missing.ensures.value
    _ c.as_slice-free.result.now c.in_ok-variables.ensures c.as_slice-free.ensures.value pattern by) c.pattern_by.ensures
