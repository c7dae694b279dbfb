use Rattle.std.proofs.Common.{◌≡◌, ◌≤◌, List, take, ap, ◌∙◌, subst}
use Rattle.std.specs.Prelude.{◌↔◌, Any, Contains, IsTrue}
use Rattle.std.proofs.lemmas.List.{take_min}
use Rattle.px_terms.specs.declared.instance.OpInst.{OpInst}
use Rattle.px_terms.specs.declared.term.Term.TheVariants.{Var}
use Rattle.px_table.specs.declared.mark.Mark.{Mark}
use Rattle.px_table.proofs.PrefixSteps.{first_of_two, second_of_two}
use Rattle.px_table.proofs.prefix.is_used.Goals as goal

pub returns-then-steps_use : goal.returns-then-steps_use
returns-then-steps_use c =
    let taken : take c.min-taken.result c.as_slice-steps.result.now ≡ take c.args.prefix c.args.table.now.steps =
    ap (λ n. take n c.as_slice-steps.result.now) c.min-taken.ensures ∙ take_min c.args.prefix c.as_slice-steps.result.now
    ∙ ap (take c.args.prefix) c.as_slice-steps.ensures in
    first_of_two _ _ c.steps_use.result (subst (λ (steps : List OpInst). IsTrue c.steps_use.result
    ↔ Any (λ (inst : OpInst). Contains inst.args (Var c.args.parameter)) steps) taken c.steps_use.ensures) c.if-steps_use.true

pub returns-else-steps_use : goal.returns-else-steps_use
returns-else-steps_use c =
    let taken : take c.min-taken.result c.as_slice-steps.result.now ≡ take c.args.prefix c.args.table.now.steps =
    ap (λ n. take n c.as_slice-steps.result.now) c.min-taken.ensures ∙ take_min c.args.prefix c.as_slice-steps.result.now
    ∙ ap (take c.args.prefix) c.as_slice-steps.ensures in
    second_of_two _ _ c.steps_use.result c.marks_use.result
    (subst (λ (steps : List OpInst). IsTrue c.steps_use.result ↔ Any (λ (inst : OpInst). Contains inst.args (Var c.args.parameter)) steps)
    taken c.steps_use.ensures)
    (subst (λ (marks : List Mark). IsTrue c.marks_use.result
    ↔ Any (λ (mark : Mark). (mark.row ≤ c.args.prefix) × Contains mark.atom.args (Var c.args.parameter)) marks) c.as_slice.ensures
    c.marks_use.ensures)
    c.if-steps_use.false
