use Rattle.std.proofs.Common.{◌≡◌, ◌<◌, ◌+◌, ◌∙◌, sym, ap, subst, get_or, length, arith}
use Rattle.std.specs.Prelude.{List, All, Contains}
use Rattle.px_base.specs.ListLaws.{All-at}
use Rattle.px_terms.specs.declared.atom.Atom.{Atom}
use Rattle.px_terms.specs.Instances.{IsInstance}
use Rattle.px_terms.specs.Language.{IsVariableBelow}
use Rattle.px_terms.specs.Operators.{schema_of}
use Rattle.px_terms.specs.Substitution.{substitute_atom}
use Rattle.px_terms.specs.Validity.{IsAtomOf}
use Rattle.px_table.specs.declared.mark.Mark.{Mark}
use Rattle.px_table.specs.Kernels.{atom_under}
use Rattle.px_table.specs.Tables.{IsStepOf}
use Rattle.px_match.specs.Reasons.{IsSameBefore}
use Rattle.px_terms.specs.declared.problem.Schema.{Schema}
use Rattle.px_terms.specs.declared.term.Term.{Term}
use Rattle.px_match.proofs.Clashing.{ground_mark, never_answer, plain_pattern}
use Rattle.px_match.proofs.raising.deleting.Goals as goal

pub instance_of-requires-clause-is_ground : goal.instance_of-requires-clause-is_ground
instance_of-requires-clause-is_ground c =
    let question = c.args.question.now in
    let mark = c.index-marks-clash.result in
    let is : mark ≡ get_or question.table.now.marks c.args.clash.now.mark mark = rw c.as_slice-marks.ensures at c.index-marks-clash.is in
    let below : c.args.clash.now.mark < length question.table.now.marks = rw c.as_slice-marks.ensures at c.if-clash-marks.false in
    rw c.atom_with.ensures (ground_mark question.problem.now question.table.now c.args.work.now mark.atom c.requires.work
    (All-at (λ (m : Mark). IsAtomOf question.problem.now question.table.now.params m.atom) question.table.now.marks mark
    c.requires.asked.table.atoms (c.args.clash.now.mark, below, sym is)))

pub instance_of-requires-clause-no_variable : goal.instance_of-requires-clause-no_variable
instance_of-requires-clause-no_variable c =
    let question = c.args.question.now in
    let step = c.index-steps-clash.result in
    let raw = c.index-patterns-clash.result in
    let is : step ≡ get_or question.table.now.steps c.args.clash.now.step step = rw c.as_slice-steps.ensures at c.index-steps-clash.is in
    let below : c.args.clash.now.step < length question.table.now.steps = rw c.as_slice-steps.ensures at c.if-clash-steps.false in
    let is_step : IsStepOf question.problem.now question.table.now.params step =
    All-at (IsStepOf question.problem.now question.table.now.params) question.table.now.steps step c.requires.asked.table.in_range.steps
    (c.args.clash.now.step, below, sym is) in
    let raw_is : raw ≡ get_or c.schema_of.result.now.del c.args.clash.now.pattern raw =
    rw c.as_slice-patterns.ensures at c.index-patterns-clash.is in
    let raw_below : c.args.clash.now.pattern < length c.schema_of.result.now.del =
    rw c.as_slice-patterns.ensures at c.if-clash-patterns.false in
    let plain : All (IsVariableBelow (length step.args)) raw.args =
    subst (λ n. All (IsVariableBelow n) raw.args) (sym (c.schema_of.ensures.instance is_step.count))
    (All-at (λ (a : Atom). All (IsVariableBelow c.schema_of.result.now.params) a.args) c.schema_of.result.now.del raw
    c.schema_of.ensures.well_formed.del (c.args.clash.now.pattern, raw_below, sym raw_is)) in
    rw (c.atom_with-2.ensures, c.apply-pattern.ensures, c.args-2.ensures.value)
    (plain_pattern question.problem.now question.table.now c.args.work.now step raw c.requires.work is_step plain)

pub returns : goal.returns
returns c = record {
  never = λ objects fits pattern_same mark_same.
      let question = c.args.question.now in
      let mark = c.index-marks-clash.result in
      let step = c.index-steps-clash.result in
      let raw = c.index-patterns-clash.result in
      let mark_is : mark ≡ get_or question.table.now.marks c.args.clash.now.mark mark =
      rw c.as_slice-marks.ensures at c.index-marks-clash.is in
      let mark_there : c.args.clash.now.mark < length question.table.now.marks = rw c.as_slice-marks.ensures at c.if-clash-marks.false in
      let is : step ≡ get_or question.table.now.steps c.args.clash.now.step step = rw c.as_slice-steps.ensures at c.index-steps-clash.is in
      let below : c.args.clash.now.step < length question.table.now.steps = rw c.as_slice-steps.ensures at c.if-clash-steps.false in
      let raw_is : raw ≡ get_or c.schema_of.result.now.del c.args.clash.now.pattern raw =
      rw c.as_slice-patterns.ensures at c.index-patterns-clash.is in
      let raw_below : c.args.clash.now.pattern < length c.schema_of.result.now.del =
      rw c.as_slice-patterns.ensures at c.if-clash-patterns.false in
      let listed : Contains (schema_of question.problem.now step).del raw =
      subst (λ (schema : Schema). Contains schema.del raw) c.schema_of.ensures.schema (c.args.clash.now.pattern, raw_below, sym raw_is) in
      let pattern : c.apply-pattern.result ≡ substitute_atom step.args raw =
      c.apply-pattern.ensures ∙ ap (λ args. substitute_atom args raw) c.args-2.ensures.value in
      let pattern_below : All (IsVariableBelow (c.args.place + 1)) (substitute_atom step.args raw).args =
      subst (λ (a : Atom). All (IsVariableBelow (c.args.place + 1)) a.args) pattern
      (subst (λ (terms : List Term). All (IsVariableBelow (c.args.place + 1)) terms) c.args-3.ensures.value
      (c.are_up_to.ensures c.if-not-are_up_to.false)) in
      let mark_below : All (IsVariableBelow (c.args.place + 1)) mark.atom.args =
      subst (λ (terms : List Term). All (IsVariableBelow (c.args.place + 1)) terms) c.args-else-not-are_up_to.ensures.value
      (c.are_up_to-else-not-are_up_to.ensures c.if-not-are_up_to-2.false) in
      let instance : IsInstance (atom_under c.args.work.now mark.atom) (atom_under c.args.work.now (substitute_atom step.args raw)) =
      subst (IsInstance (atom_under c.args.work.now mark.atom)) (c.atom_with-2.ensures ∙ ap (atom_under c.args.work.now) pattern)
      (subst (λ (a : Atom). IsInstance a c.atom_with-2.result) c.atom_with.ensures
      (c.instance_of.ensures.meaning.0 c.if-not-instance_of.false)) in
      never_answer question.problem.now question.table.now question.bound.now question.model.now.atoms question.number c.args.work.now
      objects (c.args.place + 1) mark c.args.clash.now.step step raw
      (omega (arith, c.requires.place)) c.requires.work.count (c.args.clash.now.mark, mark_there, sym mark_is) below is listed
      (omega (arith, c.if-number-question.false)) (omega (arith, c.if-number-mark.false))
      (omega (arith, c.if-number-mark-2.false)) pattern_below mark_below instance fits
      (subst (λ (a : Atom). All (IsSameBefore c.args.work.now (c.args.place + 1) objects) a.args) pattern pattern_same) mark_same;
}
