-- How many fresh variables generalising a plan starts from.
use Rattle.std.specs.Prelude.{◌+◌, ◌==◌, ℕ, Bool, true, false, if◌then◌else◌, length, sum_by, count_by}
use Rattle.px_terms.specs.declared.atom.Atom.{Atom}
use Rattle.px_terms.specs.declared.instance.OpInst.{OpInst}
use Rattle.px_terms.specs.declared.term.Term.{Term}
use Rattle.px_terms.specs.declared.term.Term.TheVariants.{Obj, Var, Any as WildCard}
use Rattle.px_proof.specs.Derivation.{Derivation, Derivations, fact, ancestor, step, gap, open_place, none, also}
use Rattle.px_table.specs.declared.table.Table.{Table}
use Rattle.px_table.specs.Tables.{rows_of}

-- the variables that a proof takes: one for each argument of a fact of the initial model, and one for each variable of each axiom
abbrev mutual
  pub fresh_in : Derivation → ℕ
  fresh_in (fact leaf) = if leaf.column == 0 then length leaf.atom.args else 0
  fresh_in (ancestor i) = 0
  fresh_in (step number theta place parts) = length theta + all_fresh_in parts
  fresh_in (gap atom) = 0
  fresh_in open_place = 0

  pub all_fresh_in : Derivations → ℕ
  all_fresh_in none = 0
  all_fresh_in (also d ds) = fresh_in d + all_fresh_in ds

abbrev pub is_object : Term → Bool
is_object (Obj n) = true
is_object (Var v) = false
is_object WildCard = false

-- one variable for each parameter of the operator of each step, for each object in the goal and for each variable of the goal, and those
-- of the proofs
abbrev pub fresh_variables : Table → ℕ
fresh_variables table =
    sum_by (λ (inst : OpInst). length inst.args) table.steps + sum_by (λ (atom : Atom). count_by is_object atom.args) table.goal +
    table.goal_variable_count
    + sum_by (sum_by fresh_in) (rows_of table.proofs)
