-- Where the marks of a kernel's row are true in a world, no world refuses the step.
use Rattle.std.specs.Prelude.{◌≡◌, ℕ, List, All, Any, Contains, slice_index_or}
use Rattle.std.proofs.Common.{ap, subst}
use Rattle.px_base.specs.ListLaws.{All-at}
use Rattle.px_terms.specs.declared.atom.Atom.{Atom}
use Rattle.px_terms.specs.declared.clause.Clause.{Clause}
use Rattle.px_terms.specs.declared.instance.OpInst.{OpInst}
use Rattle.px_terms.specs.declared.problem.Problem.{Problem}
use Rattle.px_terms.specs.declared.problem.Schema.{Schema}
use Rattle.px_terms.specs.Operators.{atoms_of, no_schema, precondition}
use Rattle.px_terms.specs.States.{State, Holds, AxiomsHold, AreValues, LiteralHoldsUnder}
use Rattle.px_table.specs.KernelLaws.{rows_meet_preconditions}
use Rattle.px_table.specs.Kernels.{atom_under}
use Rattle.px_world.specs.Worlds.{HaveSameRules}
use Rattle.px_planex.specs.Guards.{GuardNever}

same_precondition : (one other : Problem) (inst : OpInst) → HaveSameRules one other → precondition one inst ≡ precondition other inst
same_precondition one other inst same =
    ap (λ (schemas : List Schema). atoms_of (slice_index_or schemas inst.op no_schema).pre inst) same.schemas

same_axioms : (one other : Problem) (state : State) → HaveSameRules one other → AxiomsHold one state → AxiomsHold other state
same_axioms one other state same hold =
    subst (λ (axioms : List Clause). All (λ (clause : Clause). (values : List ℕ) → AreValues state clause.variable_count values
    → Any (LiteralHoldsUnder state values) clause.lits) axioms) same.axioms hold

pub guard_never : GuardNever
guard_never rules problem table kernel atoms inst is_table given same row at refused =
    let met = rows_meet_preconditions problem table kernel.objects kernel.number inst refused.state is_table given at refused.is_state
    (same_axioms rules problem refused.state same refused.axioms)
    (λ mark has is. All-at (Holds refused.state) atoms (atom_under kernel.objects mark.atom) refused.hold (row mark has is)) in
    refused.false_there (All-at (Holds refused.state) (precondition problem inst) refused.atom met
    (subst (λ (needed : List Atom). Contains needed refused.atom) (same_precondition rules problem inst same) refused.needed))
