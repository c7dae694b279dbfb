-- The table of a plan fits, by its first kernel, the atoms from which the plan was found.
use Rattle.std.specs.Prelude.{◌≡◌, ℕ, ◌<◌, Some, List, [], ◌∷◌, map, slice_get, All, Contains}
use Rattle.std.proofs.Common.{suc, refl, sym, ap, ◌∙◌, subst, arith}
use Rattle.std.proofs.lemmas.List.Elements.{All-head, All-nil, All-tail}
use Rattle.px_base.specs.ListLaws.{All-at, All-each}
use Rattle.px_terms.specs.declared.atom.Atom.{Atom}
use Rattle.px_terms.specs.declared.instance.OpInst.{OpInst}
use Rattle.px_terms.specs.declared.problem.Problem.{Problem}
use Rattle.px_terms.specs.declared.term.Term.{Term}
use Rattle.px_terms.specs.declared.term.Term.TheVariants.{Obj, Var, Any}
use Rattle.px_terms.specs.Language.{substitute}
use Rattle.px_terms.specs.Sorts.{ObjectsFit}
use Rattle.px_terms.specs.Validity.{IsAtomOf, IsTermOf}
use Rattle.px_table.specs.declared.mark.Mark.{Mark}
use Rattle.px_table.specs.declared.table.Table.{Table}
use Rattle.px_table.specs.KernelLaws.{Contains-from_map, from_kernel}
use Rattle.px_table.specs.Kernels.{IsProper, atom_under, instance_under, kernel_of, kernel_under, mark_under}
use Rattle.px_table.specs.Marks.{IsKept, marks_from}
use Rattle.px_table.specs.Supports.{Supports}
use Rattle.px_table.specs.Tables.{IsStepOf, IsTable, rows_of}
use Rattle.px_match.specs.Matching.{KernelFits}
use Rattle.px_pursue.specs.PursuitLaws.{PlansFit}
use Rattle.px_pursue.proofs.FoundTables.{found-supports, found-table}

term-stays : (problem : Problem) (t : Term) → IsTermOf problem 0 t → substitute [] t ≡ t
term-stays problem (Obj n) of = refl
term-stays problem (Var v) of = absurd (omega (arith, of))
term-stays problem Any of = elim of [ ]

terms-stay : (problem : Problem) (args : List Term) → All (IsTermOf problem 0) args → map (substitute []) args ≡ args
terms-stay problem [] of = refl
terms-stay problem (t ∷ args) of =
    let one = term-stays problem t (All-head (IsTermOf problem 0) t args of) in
    let rest = terms-stay problem args (All-tail (IsTermOf problem 0) t args of) in
    λ i. one i ∷ rest i

atom-stays : (problem : Problem) (atom : Atom) → IsAtomOf problem 0 atom → atom_under [] atom ≡ atom
atom-stays problem atom of = ap (λ (args : List Term). record { pred = atom.pred; args = args }) (terms-stay problem atom.args of.1)

-- what kernel 1 has of a table whose marks in column 0 are among the atoms
first_kernel-holds : (problem : Problem) (plan : Table) (atoms : List Atom) → IsTable problem plan → plan.params ≡ 0
    → All (λ mark. mark.column ≡ 0 → Contains atoms mark.atom) plan.marks → All (Contains atoms) (kernel_under plan [] 1)
first_kernel-holds problem plan atoms is_table none given =
    All-each (Contains atoms) (kernel_under plan [] 1)
    (λ atom has.
    let from = Contains-from_map (atom_under []) (kernel_of plan 1) atom has in
    let mark = from_kernel plan 1 from.0 from.1 in
    let of = All-at (λ (m : Mark). IsAtomOf problem plan.params m.atom) plan.marks mark.0 is_table.atoms mark.1 in
    let stays = atom-stays problem mark.0.atom (subst (λ n. IsAtomOf problem n mark.0.atom) none of) in
    let there = All-at (λ (m : Mark). m.column ≡ 0 → Contains atoms m.atom) plan.marks mark.0 given mark.1 (omega (arith, mark.4)) in
    subst (λ (a : Atom). Contains atoms a) (sym stays ∙ ap (atom_under []) mark.2 ∙ from.2) there)

pub first_kernel_holds : (problem : Problem) (plan : Table) (atoms : List Atom) → IsTable problem plan → plan.params ≡ 0
    → plan.marks ≡ marks_from 1 (rows_of plan.proofs) → Supports problem atoms plan.steps plan.goal plan.goal_variable_count (rows_of plan.proofs)
    → All (Contains atoms) (kernel_under plan [] 1)
first_kernel_holds problem plan atoms is_table none marks supports =
    first_kernel-holds problem plan atoms is_table none
    (subst (λ (ms : List Mark). All (λ mark. mark.column ≡ 0 → Contains atoms mark.atom) ms) (sym marks) supports.given)

-- ---- its first kernel is proper

step-stays : (problem : Problem) (inst : OpInst) → IsStepOf problem 0 inst → instance_under [] inst ≡ inst
step-stays problem inst of = ap (λ (args : List Term). record { op = inst.op; args = args }) (terms-stay problem inst.args of.terms)

steps-stay : (problem : Problem) (steps : List OpInst) → All (IsStepOf problem 0) steps → map (instance_under []) steps ≡ steps
steps-stay problem [] of = refl
steps-stay problem (inst ∷ steps) of =
    let one = step-stays problem inst (All-head (IsStepOf problem 0) inst steps of) in
    let rest = steps-stay problem steps (All-tail (IsStepOf problem 0) inst steps of) in
    λ i. one i ∷ rest i

mark-stays : (problem : Problem) (mark : Mark) → IsAtomOf problem 0 mark.atom → mark_under [] mark ≡ mark
mark-stays problem mark of =
    ap (λ (args : List Term). record {
      atom = record { pred = mark.atom.pred; args = args };
      row = mark.row;
      column = mark.column;
      index = mark.index;
    })
    (terms-stay problem mark.atom.args of.1)

plan_is_proper : (problem : Problem) (plan : Table) → IsTable problem plan → plan.params ≡ 0
    → All (IsKept problem plan.steps 1) plan.marks → IsProper problem plan [] 1
plan_is_proper problem plan is_table none kept =
    let steps = steps-stay problem plan.steps (subst (λ n. All (IsStepOf problem n) plan.steps) none is_table.in_range.steps) in
    let atoms = subst (λ n. All (λ (m : Mark). IsAtomOf problem n m.atom) plan.marks) none is_table.atoms in
    All-each (λ mark. IsKept problem (map (instance_under []) plan.steps) 1 (mark_under [] mark)) plan.marks
    (λ mark has.
    let of = All-at (λ (m : Mark). IsAtomOf problem 0 m.atom) plan.marks mark atoms has in
    subst (λ (m : Mark). IsKept problem (map (instance_under []) plan.steps) 1 m) (sym (mark-stays problem mark of))
    (subst (λ (os : List OpInst). IsKept problem os 1 mark) (sym steps)
    (All-at (IsKept problem plan.steps 1) plan.marks mark kept has)))

-- where the table rests on the atoms, its first kernel fits them
first_kernel-fits : (problem : Problem) (plan : Table) (atoms : List Atom) → IsTable problem plan → plan.params ≡ 0
    → plan.param_sorts ≡ [] → plan.marks ≡ marks_from 1 (rows_of plan.proofs)
    → Supports problem atoms plan.steps plan.goal plan.goal_variable_count (rows_of plan.proofs)
    → KernelFits problem plan [] atoms 1 []
first_kernel-fits problem plan atoms is_table none unsorted marks supports = record {
  from_one = omega arith;
  to_goal = omega arith;
  instantiation = record { count = sym none; objects = All-nil (λ n. n < problem.objects) };
  extends = All-nil (λ (pair : ℕ × ℕ). (k : ℕ) × (pair.0 ≡ suc k) × (slice_get [] k ≡ Some pair.1));
  fitting = subst (λ (sorts : List ℕ). ObjectsFit problem.object_sorts sorts []) (sym unsorted)
      (λ v below. absurd (omega (arith, below)));
  proper = plan_is_proper problem plan is_table none
      (subst (λ (ms : List Mark). All (IsKept problem plan.steps 1) ms) (sym marks) supports.kept);
  holds = first_kernel_holds problem plan atoms is_table none marks supports;
}

pub plans_fit : PlansFit
plans_fit task moves plan searchable found made =
    first_kernel-fits task.problem plan task.initial (found-table task searchable moves plan found made) made.params
    made.param_sorts made.marks
    (found-supports task searchable moves plan found made)
