-- The limits of searches, the sorts that there may be and the weight are no part of what a table is worth.
use Rattle.std.proofs.Common.{◌≤◌, ℕ, List, [], ◌∷◌, arith}
use Rattle.std.specs.Prelude.{◌↔◌}
use Rattle.px_terms.specs.declared.atom.Atom.{Atom}
use Rattle.px_terms.specs.declared.instance.OpInst.{OpInst}
use Rattle.px_terms.specs.declared.problem.Problem.{Problem}
use Rattle.px_terms.specs.declared.term.Term.{Term}
use Rattle.px_terms.specs.declared.term.Term.TheVariants.{Obj, Var, Any}
use Rattle.px_terms.specs.Plans.{IsRun, MeetsEach}
use Rattle.px_terms.specs.States.{Described, State}
use Rattle.px_terms.specs.Validity.{AreSortsOf, IsAtomOf, IsTermOf}
use Rattle.px_proof.specs.Derivation.{Derivation}
use Rattle.px_proof.specs.Proves.{IsObjectOrParameter}
use Rattle.px_table.specs.declared.table.Table.{Table}
use Rattle.px_table.specs.Kernels.{KernelsCarry}
use Rattle.px_table.specs.Supports.{RowsProve}
use Rattle.px_table.specs.Tables.{IsTable}
use Rattle.px_cert.specs.ClaimRanges.{certified}
use Rattle.px_cert.specs.Limits.{greatest_sort}

-- the problem with these numbers
abbrev limited : Problem → ℕ → ℕ → ℕ → ℕ → ℕ → Problem
limited p height nodes shapes sorts weight = record p { height = height; nodes = nodes; shapes = shapes; sorts = sorts; weight = weight }

-- what is so with some numbers is so with others
module _ (p : Problem) (h n s o w h2 n2 s2 o2 w2 : ℕ) where
  abbrev one : Problem
  one = limited p h n s o w

  abbrev other : Problem
  other = limited p h2 n2 s2 o2 w2

  term_there : (variable_count : ℕ) (t : Term) → IsTermOf one variable_count t → IsTermOf other variable_count t
  term_there variable_count (Obj k) is = is
  term_there variable_count (Var v) is = is
  term_there variable_count Any is = is

  term_back : (variable_count : ℕ) (t : Term) → IsTermOf other variable_count t → IsTermOf one variable_count t
  term_back variable_count (Obj k) is = is
  term_back variable_count (Var v) is = is
  term_back variable_count Any is = is

  atom_there : (variable_count : ℕ) (a : Atom) → IsAtomOf one variable_count a → IsAtomOf other variable_count a
  atom_there variable_count a is = (is.0, λ k t below. term_there variable_count _ (is.1 k t below))

  -- ---- tables

  rows_there : (params : ℕ) (steps : List OpInst) (goal : List Atom) (goal_variable_count : ℕ) (rows : List (List Derivation))
      → RowsProve (IsObjectOrParameter p.objects params) one params steps goal goal_variable_count rows
      → RowsProve (IsObjectOrParameter p.objects params) other params steps goal goal_variable_count rows
  rows_there params [] goal goal_variable_count [] is = is
  rows_there params [] goal goal_variable_count (row ∷ []) is = is
  rows_there params [] goal goal_variable_count (row ∷ second ∷ rows) is = is
  rows_there params (inst ∷ steps) goal goal_variable_count [] is = is
  rows_there params (inst ∷ steps) goal goal_variable_count (row ∷ rows) is = (is.0, rows_there params steps goal goal_variable_count rows is.1)

  table_there : (t : Table) → AreSortsOf other t.param_sorts → IsTable one t → IsTable other t
  table_there t sorts is = record {
    in_range = record {
      short = is.in_range.short;
      steps = λ k d below.
          let inst_is = is.in_range.steps k d below in
          record { op = inst_is.op; count = inst_is.count; terms = λ j u inside. term_there t.params _ (inst_is.terms j u inside) };
      goal = λ k d below. atom_there _ _ (is.in_range.goal k d below);
    };
    prove = rows_there t.params t.steps t.goal t.goal_variable_count _ is.prove;
    marks = is.marks;
    atoms = λ k d below. atom_there t.params _ (is.atoms k d below);
    named = λ k d below.
        let mark = is.named k d below in record { earlier = mark.earlier; initial = mark.initial; added = mark.added };
    sorted = record { count = is.sorted.count; sorts = sorts; steps = is.sorted.steps };
  }

  -- ---- kernels

  described_back : (inst : OpInst) (before after : State) → Described other inst before after → Described one inst before after
  described_back inst before after is = record {
    kept = λ holds a of held stays. is.kept holds a (atom_there 0 a of) held stays;
    added = is.added;
  }

  run_back : (states : List State) (steps : List OpInst) → IsRun other states steps → IsRun one states steps
  run_back [] steps is = is
  run_back (state ∷ []) steps is = is
  run_back (state ∷ next ∷ later) [] is = is
  run_back (state ∷ next ∷ later) (step ∷ steps) is = (is.0, described_back step state next is.1, run_back (next ∷ later) steps is.2)

  meets_there : (states : List State) (steps : List OpInst) → MeetsEach one states steps → MeetsEach other states steps
  meets_there [] steps is = is
  meets_there (state ∷ states) [] is = is
  meets_there (state ∷ states) (step ∷ steps) is = (is.0, meets_there states steps is.1)

  worth_there : (t : Table) → KernelsCarry one t → KernelsCarry other t
  worth_there t is = record {
    carry = λ sigma inst i low high proper.
        let tail = is.carry sigma (record { count = inst.count; objects = inst.objects }) i low high proper in
        record {
          meets = λ state later run facts. meets_there (state ∷ later) _ (tail.meets state later (run_back (state ∷ later) _ run) facts);
          ends = λ state later run facts whole. tail.ends state later (run_back (state ∷ later) _ run) facts whole;
        };
  }

-- ---- certificates

pub right : (p : Problem) (t : Table) → p.sorts ≤ greatest_sort → IsTable p t → IsTable (certified p) t
right p t few is =
    table_there p p.height p.nodes p.shapes p.sorts p.weight 1 1 2 greatest_sort 0 t
    (λ k d below. let sort = is.sorted.sorts k d below in omega (arith, sort, few)) is

pub only_right : (p : Problem) (t : Table) → AreSortsOf p t.param_sorts → IsTable (certified p) t → IsTable p t
only_right p t sorts is = table_there p 1 1 2 greatest_sort 0 p.height p.nodes p.shapes p.sorts p.weight t sorts is

pub worth : (p : Problem) (t : Table) → KernelsCarry (certified p) t ↔ KernelsCarry p t
worth p t = (
  worth_there p 1 1 2 greatest_sort 0 p.height p.nodes p.shapes p.sorts p.weight t,
  worth_there p p.height p.nodes p.shapes p.sorts p.weight 1 1 2 greatest_sort 0 t,
)
