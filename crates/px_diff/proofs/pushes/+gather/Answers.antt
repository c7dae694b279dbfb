use Rattle.std.proofs.Common.{◌≡◌, ◌<◌, ◌+◌, ℕ, List, sym, ◌∙◌, subst, inl, inr, arith}
use Rattle.std.specs.Prelude.{All, slice_index}
use Rattle.px_prover.proofs.PatternLists.{patterns-are}
use Rattle.px_prover.specs.PatternLists.{lists_of}
use Rattle.px_question.specs.Settings.{setting_of}
use Rattle.px_terms.specs.declared.atom.Atom.{Atom}
use Rattle.px_terms.specs.declared.instance.OpInst.{OpInst}
use Rattle.px_terms.specs.Operators.{precondition}
use Rattle.px_terms.specs.Validity.{IsAtomOf}
use Rattle.px_gaps.specs.GapAnswers.{IsGapAnswer}
use Rattle.px_entries.specs.Instances.{Fills, StandsFor}
use Rattle.px_diff.specs.Reordered.{IsReorderedAnswer}
use Rattle.px_gaps.proofs.Describing.{answer-listed}
use Rattle.px_diff.proofs.FittingLemmas.{some_found}
use Rattle.px_gaps.proofs.GapLemmas.{none-provable}
use Rattle.px_diff.proofs.Opening.{all-gathered}
use Rattle.px_entries.proofs.RestLaws.{rest-all}
use Rattle.px_diff.proofs.Reordering.{lists-reordered, reordered-all}
use Rattle.px_diff.proofs.RestOpening.{rest-gathered}
use Rattle.px_diff.proofs.Gathered.{gathers_less, gathers_part}
use Rattle.px_diff.proofs.SortedLemmas.{gathers-unfit}
use Rattle.px_base.proofs.Loops.{level_or_below, on_ok}
use Rattle.px_entries.proofs.PartialLemmas.{needs-are, stands-closed}
use Rattle.px_diff.proofs.pushes.+gather.Goals as goal

pub returns-then-not-may_fit-clause-gathers : goal.returns-then-not-may_fit-clause-gathers
returns-then-not-may_fit-clause-gathers t c =
    gathers-unfit c.args.request.now.problem.now c.args.request.now.tables.now c.args.request.now.wanted.now c.args.request.now.stack.now
    c.args.request.now.model.now.atoms c.args.partial.now c.args.found.now.items (c.may_fit.ensures c.if-not-may_fit.true)

pub precondition_of-requires-clause-count : goal.precondition_of-requires-clause-count
precondition_of-requires-clause-count t c = c.requires.partial.count

pub rest_answer-requires-clause-formula : goal.rest_answer-requires-clause-formula
rest_answer-requires-clause-formula t c =
    subst (All (IsAtomOf c.args.request.now.problem.now c.args.partial.now.variable_count)) (sym (c.deref.ensures.value ∙ c.in_ok-formula.ensures))
    (needs-are c.args.request.now.problem.now c.args.partial.now c.requires.problem c.requires.partial)

pub whole_answer-requires-clause-formula : goal.whole_answer-requires-clause-formula
whole_answer-requires-clause-formula t c =
    subst (All (IsAtomOf c.args.request.now.problem.now c.args.partial.now.variable_count)) (sym (c.deref-2.ensures.value ∙ c.in_ok-formula.ensures))
    (needs-are c.args.request.now.problem.now c.args.partial.now c.requires.problem c.requires.partial)

pub keep_open-requires-clause-answer : goal.keep_open-requires-clause-answer
keep_open-requires-clause-answer t c =
    let problem = c.args.request.now.problem.now in
    let partial = c.args.partial.now in
    let rest =
    subst (λ (l : List Atom). IsReorderedAnswer problem c.args.request.now.model.now.atoms l partial.variable_count c.in-Some.answer.patterns.items
    c.in-Some.answer.provable.atoms) (c.deref.ensures.value ∙ c.in_ok-formula.ensures)
    (some_found (λ answer. IsReorderedAnswer problem c.args.request.now.model.now.atoms c.deref.result.now partial.variable_count
    answer.patterns.items
    answer.provable.atoms) c.in_ok-answer.field-0 c.in-Some.answer c.in-Some.is c.in_ok-answer.ensures) in (
      rest.ordered,
      reordered-all (IsAtomOf problem partial.variable_count) rest.rest rest.ordered rest.reordered
          (rest-all (IsAtomOf problem partial.variable_count) problem (precondition problem partial.inst) rest.rest rest.is_rest
          (needs-are problem partial c.requires.problem c.requires.partial)),
      rest.answer,
    )

pub returns-in-Some-clause-gathers : goal.returns-in-Some-clause-gathers
returns-in-Some-clause-gathers t c =
    let problem = c.args.request.now.problem.now in
    let partial = c.args.partial.now in
    let patterns = c.in-Some.answer.patterns.items in
    let provable = c.in-Some.answer.provable.atoms in
    let model = c.args.request.now.model.now.atoms in
    let rest =
    subst (λ (l : List Atom). IsReorderedAnswer problem model l partial.variable_count patterns provable)
    (c.deref.ensures.value ∙ c.in_ok-formula.ensures)
    (some_found (λ answer. IsReorderedAnswer problem model c.deref.result.now partial.variable_count answer.patterns.items answer.provable.atoms)
    c.in_ok-answer.field-0 c.in-Some.answer c.in-Some.is c.in_ok-answer.ensures) in
    let lists = lists_of problem.objects patterns in
    let listed =
    lists-reordered (setting_of problem model) partial.variable_count rest.rest rest.ordered rest.reordered lists
    (patterns-are (setting_of problem model) rest.ordered partial.variable_count patterns rest.answer.all) in
    rest-gathered problem c.requires.problem model partial c.requires.partial rest.rest rest.is_rest lists listed provable
    (none-provable (setting_of problem model) rest.ordered partial.variable_count patterns provable rest.answer)
    c.args.request.now.tables.now c.args.request.now.wanted.now c.args.request.now.stack.now c.atoms-facts.ensures.model.ascending rest.few
    rest.answer.unlimited c.args.found.now.items c.keep_open.new.found.items c.in_ok-keep_open-in-Some.ensures

pub keep_open-requires-in-Some-2-clause-answer : goal.keep_open-requires-in-Some-2-clause-answer
keep_open-requires-in-Some-2-clause-answer t c =
    let problem = c.args.request.now.problem.now in
    let partial = c.args.partial.now in (
      c.deref-2.result.now,
      subst (All (IsAtomOf problem partial.variable_count)) (sym (c.deref-2.ensures.value ∙ c.in_ok-formula.ensures))
          (needs-are problem partial c.requires.problem c.requires.partial),
      some_found (λ answer. IsGapAnswer (setting_of problem c.args.request.now.model.now.atoms) c.deref-2.result.now partial.variable_count
          answer.patterns.items answer.provable.atoms) c.in_ok-answer-2.field-0 c.in-Some-2.answer c.in-Some-2.is
          c.in_ok-answer-2.ensures,
    )

pub returns-in-Some-2-clause-gathers : goal.returns-in-Some-2-clause-gathers
returns-in-Some-2-clause-gathers t c =
    let problem = c.args.request.now.problem.now in
    let partial = c.args.partial.now in
    let patterns = c.in-Some-2.answer.patterns.items in
    let provable = c.in-Some-2.answer.provable.atoms in
    let s = setting_of problem c.args.request.now.model.now.atoms in
    let answer =
    subst (λ (l : List Atom). IsGapAnswer s l partial.variable_count patterns provable)
    (c.deref-2.ensures.value ∙ c.in_ok-formula.ensures)
    (some_found (λ answer. IsGapAnswer s c.deref-2.result.now partial.variable_count answer.patterns.items answer.provable.atoms)
    c.in_ok-answer-2.field-0 c.in-Some-2.answer c.in-Some-2.is c.in_ok-answer-2.ensures) in
    all-gathered problem c.requires.problem c.args.request.now.model.now.atoms partial c.requires.partial
    (lists_of problem.objects patterns) (answer-listed s (precondition problem partial.inst) partial.variable_count patterns provable answer)
    provable
    (none-provable s (precondition problem partial.inst) partial.variable_count patterns provable answer)
    c.args.request.now.tables.now c.args.request.now.wanted.now c.args.request.now.stack.now answer.unlimited c.args.found.now.items
    c.keep_open-in-Some-2.new.found.items c.in_ok-keep_open-in-Some-2.ensures

pub returns-then-partial-eq0-clause-gathers : goal.returns-then-partial-eq0-clause-gathers
returns-then-partial-eq0-clause-gathers t c =
    let problem = c.args.request.now.problem.now in
    let partial = c.args.partial.now in
    on_ok c.gather_one.result (gathers_less problem c.args.request.now.tables.now c.args.request.now.wanted.now c.args.request.now.stack.now
    c.args.request.now.model.now.atoms (λ (other : OpInst). partial.inst ≡ other)
    (StandsFor problem partial) c.args.found.now.items c.gather_one.new.found.items
    (λ inst stands. stands-closed problem partial inst c.requires.partial c.if-partial-eq0.true stands)) c.gather_one.ensures.gathers

pub loop-object-preserved : goal.loop-object-preserved
loop-object-preserved t c =
    let problem = c.args.request.now.problem.now in
    let partial = c.args.partial.now in
    let object = c.loop-object.object in
    gathers_part problem c.args.request.now.tables.now c.args.request.now.wanted.now c.args.request.now.stack.now
    c.args.request.now.model.now.atoms (λ (inst : OpInst). (objects : List ℕ) × Fills problem partial inst objects
    × (slice_index objects 0 < object))
    (StandsFor problem c.bound_instance-next.result)
    (λ (inst : OpInst). (objects : List ℕ) × Fills problem partial inst objects × (slice_index objects 0 < object + 1))
    c.args.found.now.items c.loop-object.found.items c.gather.new.found.items
    (λ inst w. elim (level_or_below (slice_index w.0 0) object w.2) [
      | inl before ↦ inl (w.0, w.1, before)
      | inr level ↦ inr (c.bound_instance-next.ensures.fills problem inst w.0 w.1 level)
    ])
    c.loop-object.invariant c.in_ok-gather.ensures.gathers

pub returns-clause-gathers : goal.returns-clause-gathers
returns-clause-gathers t c =
    let problem = c.args.request.now.problem.now in
    let partial = c.args.partial.now in
    gathers_less problem c.args.request.now.tables.now c.args.request.now.wanted.now c.args.request.now.stack.now
    c.args.request.now.model.now.atoms (λ (inst : OpInst). (objects : List ℕ) × Fills problem partial inst objects
    × (slice_index objects 0 < c.loop-object.object))
    (StandsFor problem partial) c.args.found.now.items c.loop-object.found.items
    (λ inst stands. (
      stands.0,
      stands.1,
      omega (arith, stands.1.below 0 0 (omega (arith, stands.1.count, c.if-partial-eq0.false)), c.loop-object-test.false),
    ))
    c.loop-object.invariant
