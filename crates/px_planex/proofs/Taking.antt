-- Acting by a kernel: which step it is, the marks of its row one after the other, and worlds with the problem's rules.
use Rattle.std.proofs.Common.{◌≡◌, ◌<◌, ◌≤◌, ◌-◌, ◌++◌, ℕ, zero, suc, List, [], length, get_or, refl, sym, ap, ◌∙◌, subst, arith}
use Rattle.std.specs.Prelude.{Contains, Some, slice_index_or}
use Rattle.std.proofs.lemmas.Option.{slice_get_read}
use Rattle.std.proofs.lemmas.List.{append-nil}
use Rattle.px_table.specs.WellSortedLaws.{step-fits}
use Rattle.px_table.specs.WellSorted.{IsWellSortedStep, ParametersFit}
use Rattle.px_terms.specs.Sorts.{IsWellSorted, IsWellSortedBy}
use Rattle.px_base.proofs.Loops.{AllBefore, all_whole, contains_here}
use Rattle.px_base.specs.ListLaws.{All-at, All-each}
use Rattle.px_terms.specs.declared.atom.Atom.{Atom}
use Rattle.px_terms.specs.declared.instance.OpInst.{OpInst}
use Rattle.px_terms.specs.declared.problem.Problem.{Problem}
use Rattle.px_terms.specs.declared.problem.Schema.{Schema}
use Rattle.px_terms.specs.declared.term.Term.{Term}
use Rattle.px_terms.specs.declared.term.Term.TheVariants.{Obj, Var, Any as WildCard}
use Rattle.px_terms.specs.Operators.{adds, atoms_of, no_schema, result_by, result_of}
use Rattle.px_terms.specs.Validity.{IsInstanceOf, IsTermOf, IsValid}
use Rattle.px_table.specs.declared.mark.Mark.{Mark}
use Rattle.px_table.specs.declared.table.Table.{Table}
use Rattle.px_table.specs.Kernels.{IsInstantiation, atom_under, instance_under}
use Rattle.px_table.specs.Tables.{IsStepOf, IsTable}
use Rattle.px_table.specs.UnderLaws.{step_at-map, step_under-is_of}
use Rattle.px_match.specs.MatcherValue.{kernel_with}
use Rattle.px_world.specs.Worlds.{HaveSameRules}
use Rattle.px_planex.specs.Execution.{KernelRowHolds, step_of_kernel}

pub step_here : (table : Table) (objects : List ℕ) (number : ℕ) (step inst : OpInst) → 1 ≤ number → number ≤ length table.steps
    → step ≡ get_or table.steps (number - 1) step → inst ≡ instance_under objects step
    → step_of_kernel table (kernel_with objects number) ≡ Some inst
step_here table objects zero step inst low high is made = absurd (omega (arith, low))
step_here table objects (suc k) step inst low high is made =
    let before : suc k - 1 ≡ k = omega arith in
    let here : step ≡ get_or table.steps k step = rw before at is in
    step_at-map (instance_under objects) table.steps (suc k) step
    (slice_get_read table.steps (length table.steps) k step refl (omega (arith, high)) here)
    ∙ ap Some (sym made)

-- ---- rules that are the same

pub same_adds : (one other : Problem) (inst : OpInst) → HaveSameRules one other → adds one inst ≡ adds other inst
same_adds one other inst same = ap (λ (schemas : List Schema). atoms_of (slice_index_or schemas inst.op no_schema).add inst) same.schemas

pub same_result : (one other : Problem) (atoms : List Atom) (inst : OpInst) → HaveSameRules one other
    → result_of one atoms inst ≡ result_of other atoms inst
same_result one other atoms inst same =
    ap (λ (schemas : List Schema). result_by (slice_index_or schemas inst.op no_schema) atoms inst) same.schemas

-- ---- the marks of a row

-- if the mark is of the row, it is true
abbrev pub HoldsIfOf : ℕ → List ℕ → List Atom → Mark → Type 0
HoldsIfOf row objects atoms mark = mark.row ≡ row → Contains atoms (atom_under objects mark.atom)

-- a term of the one is a term of the other
same_term : (one other : Problem) (term : Term) → one.objects ≡ other.objects → IsTermOf other 0 term → IsTermOf one 0 term
same_term one other (Obj n) same within = subst (λ (objects : ℕ). n < objects) (sym same) within
same_term one other (Var v) same within = within
same_term one other WildCard same within = within

pub same_instance : (one other : Problem) (inst : OpInst) → HaveSameRules one other → IsInstanceOf other inst → IsInstanceOf one inst
same_instance one other inst same is = record {
  op = subst (λ (schemas : List Schema). inst.op < length schemas) (sym same.schemas) is.op;
  count = is.count ∙ ap (λ (schemas : List Schema). (slice_index_or schemas inst.op no_schema).params) (sym same.schemas);
  objects =
      All-each (IsTermOf one 0) inst.args (λ term has. same_term one other term same.objects
      (All-at (IsTermOf other 0) inst.args term is.objects has));
}

pub instance_here : (problem : Problem) (table : Table) (objects : List ℕ) (number : ℕ) (step inst : OpInst) → 1 ≤ number
    → number ≤ length table.steps
    → step ≡ get_or table.steps (number - 1) step → inst ≡ instance_under objects step → IsTable problem table
    → IsInstantiation problem table objects
    → IsInstanceOf problem inst
instance_here problem table objects number step inst low high is made whole given =
    let has = contains_here table.steps (number - 1) step (omega (arith, low, high)) is in
    subst (IsInstanceOf problem) (sym made)
    (step_under-is_of problem table objects step given (All-at (IsStepOf problem table.params) table.steps step whole.in_range.steps has))

-- the step fits, where the objects fit the parameters
pub step_fits : (problem : Problem) (table : Table) (objects : List ℕ) (number : ℕ) (step inst : OpInst) → 1 ≤ number
    → number ≤ length table.steps
    → step ≡ get_or table.steps (number - 1) step → inst ≡ instance_under objects step → IsValid problem → IsTable problem table
    → IsInstantiation problem table objects → ParametersFit problem.object_sorts table objects
    → IsWellSorted problem inst
step_fits problem table objects number step inst low high is made valid whole given fitting =
    let has = contains_here table.steps (number - 1) step (omega (arith, low, high)) is in
    let same : problem.object_sorts ++ [] ≡ problem.object_sorts = append-nil problem.object_sorts in
    subst (IsWellSorted problem) (sym made)
    (subst (λ (sorts : List ℕ). IsWellSortedBy sorts problem (instance_under objects step)) same
    (step-fits problem table.param_sorts table.params [] objects step valid
    (All-at (IsStepOf problem table.params) table.steps step whole.in_range.steps has)
    (All-at (IsWellSortedStep problem table.param_sorts) table.steps step whole.sorted.steps has)
    given.count
    (subst (λ (sorts : List ℕ). ParametersFit sorts table objects) (sym same) fitting)))
