-- The table of a plan that is found is as that of a stored plan.
use Rattle.std.specs.Prelude.{◌≡◌, ℕ, List, [], ◌∷◌, map, length, All}
use Rattle.std.proofs.Common.{refl, sym, ap, subst, arith}
use Rattle.std.proofs.lemmas.List.Elements.{All-head, All-tail}
use Rattle.px_base.specs.ListLaws.{All-at, All-each}
use Rattle.px_terms.specs.declared.atom.Atom.{Atom}
use Rattle.px_terms.specs.declared.instance.OpInst.{OpInst}
use Rattle.px_terms.specs.declared.problem.Problem.{Problem}
use Rattle.px_terms.specs.declared.term.Term.{Term}
use Rattle.px_terms.specs.declared.term.Term.TheVariants.{Obj, Var, Any}
use Rattle.px_terms.specs.Language.{substitute}
use Rattle.px_terms.specs.Validity.{IsInstanceOf, IsTermOf, IsAtomOf}
use Rattle.px_proof.specs.declared.proof.Proof.{Proof}
use Rattle.px_table.specs.declared.entry.Move.{Move}
use Rattle.px_table.specs.declared.mark.Mark.{Mark}
use Rattle.px_table.specs.declared.table.Table.{Table}
use Rattle.px_table.specs.Kernels.{IsProper, instance_under, mark_under}
use Rattle.px_table.specs.Marks.{IsKept}
use Rattle.px_table.specs.SupportLaws.{marks-are_of}
use Rattle.px_table.specs.Supports.{Supports}
use Rattle.px_table.specs.Tables.{AreOfProblem, IsTable, rows_of, table_of_rows}
use Rattle.px_ends.specs.Made.{IsTableOfMoves, MovesRows}
use Rattle.px_ends.specs.Tasks.{Task, initial_node, steps_of}
use Rattle.px_library.specs.Libraries.{with_table}
use Rattle.px_search.specs.declared.ends.Found.{Found}
use Rattle.px_session.specs.Lawful.{FindsPlan}
use Rattle.px_session.specs.Planning.{IsFoundPlan}
use Rattle.px_session.specs.Sessions.{IsPlanTable, SessionState}

-- ---- what has no variables stays as it is

term-stays : (problem : Problem) (t : Term) → IsTermOf problem 0 t → substitute [] t ≡ t
term-stays problem (Obj n) of = refl
term-stays problem (Var v) of = absurd (omega (arith, of))
term-stays problem Any of = elim of [ ]

terms-stay : (problem : Problem) (args : List Term) → All (IsTermOf problem 0) args → map (substitute []) args ≡ args
terms-stay problem [] of = refl
terms-stay problem (t ∷ args) of =
    let one = term-stays problem t (All-head (IsTermOf problem 0) t args of) in
    let rest = terms-stay problem args (All-tail (IsTermOf problem 0) t args of) in
    λ i. one i ∷ rest i

step-stays : (problem : Problem) (inst : OpInst) → IsInstanceOf problem inst → instance_under [] inst ≡ inst
step-stays problem inst of = ap (λ (args : List Term). record { op = inst.op; args = args }) (terms-stay problem inst.args of.objects)

steps-stay : (problem : Problem) (steps : List OpInst) → All (IsInstanceOf problem) steps → map (instance_under []) steps ≡ steps
steps-stay problem [] of = refl
steps-stay problem (inst ∷ steps) of =
    let one = step-stays problem inst (All-head (IsInstanceOf problem) inst steps of) in
    let rest = steps-stay problem steps (All-tail (IsInstanceOf problem) inst steps of) in
    λ i. one i ∷ rest i

mark-stays : (problem : Problem) (mark : Mark) → IsAtomOf problem 0 mark.atom → mark_under [] mark ≡ mark
mark-stays problem mark of =
    ap (λ (args : List Term). record {
      atom = record { pred = mark.atom.pred; args = args };
      row = mark.row;
      column = mark.column;
      index = mark.index;
    })
    (terms-stay problem mark.atom.args of.1)

-- ---- the table

-- a table of these steps and marks
pub kept-proper : (problem : Problem) (table : Table) → All (IsInstanceOf problem) table.steps
    → All (λ mark. IsAtomOf problem 0 mark.atom) table.marks
    → All (IsKept problem table.steps 1) table.marks → IsProper problem table [] 1
kept-proper problem table instances atoms kept =
    All-each (λ mark. IsKept problem (map (instance_under []) table.steps) 1 (mark_under [] mark)) table.marks
    (λ mark has.
    let of = All-at (λ (mark : Mark). IsAtomOf problem 0 mark.atom) table.marks mark atoms has in
    subst (λ (m : Mark). IsKept problem (map (instance_under []) table.steps) 1 m) (sym (mark-stays problem mark of))
    (subst (λ (steps : List OpInst). IsKept problem steps 1 mark) (sym (steps-stay problem table.steps instances))
    (All-at (IsKept problem table.steps 1) table.marks mark kept has)))

-- the table that is built of a support
abbrev pub built : List OpInst → List Atom → ℕ → List (List Proof) → Table
built steps goal variable_count support = table_of_rows 0 [] steps goal variable_count support

pub built-plan : (problem : Problem) (atoms : List Atom) (steps : List OpInst) (goal : List Atom) (variable_count : ℕ) (support : List (List Proof))
    → All (IsInstanceOf problem) steps → Supports problem atoms steps goal variable_count (rows_of support) → AreOfProblem problem (rows_of support)
    → IsTable problem (built steps goal variable_count support) → IsPlanTable problem (built steps goal variable_count support)
built-plan problem atoms steps goal variable_count support instances supports of table = record {
  table = table;
  no_params = refl;
  proper = kept-proper problem (built steps goal variable_count support) instances (marks-are_of problem (rows_of support) of) supports.kept;
}

pub built-moves : (task : Task) (moves : List Move) (steps : List OpInst) (support : List (List Proof))
    → steps ≡ steps_of task.tables [] moves
    → MovesRows task (initial_node task) [] moves (rows_of support) → IsTableOfMoves task moves (built steps task.goal task.variable_count support)
built-moves task moves steps support taken rows =
    record { params = refl; steps = taken; goal = refl; goal_variable_count = refl; rows = rows; marks = refl; param_sorts = refl }

-- what is reported of a plan that is found, where its table is stored
pub finds-plan : (task : Task) (name count : ℕ) (old new : SessionState) (plan : Found) (made : Table) → IsFoundPlan task plan
    → made ≡ built plan.steps task.goal task.variable_count plan.support.items → count ≡ length plan.moves
    → new ≡ record old { plans = with_table old.plans name made } → FindsPlan task name old count plan.steps new
finds-plan task name count old new plan made is made_is counted stored =
    record {
      moves = plan.moves;
      found = is.found;
      counted = counted;
      taken = is.steps;
      made = made;
      table = subst (IsTableOfMoves task plan.moves) (sym made_is)
          (built-moves task plan.moves plan.steps plan.support.items is.steps is.rows);
      stored = stored;
    }
