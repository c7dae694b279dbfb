-- The parameters of a table by the places at which they stand, and how they are numbered.
use Rattle.std.specs.Prelude.{◌≡◌, ℕ, Bool, false, nat_lt, List, ◌++◌, filter, flat_map}
use Rattle.px_terms.specs.declared.atom.Atom.{Atom}
use Rattle.px_terms.specs.declared.instance.OpInst.{OpInst}
use Rattle.px_terms.specs.declared.term.Term.{Term}
use Rattle.px_terms.specs.declared.term.Term.TheVariants.{Obj, Var, Any as WildCard}
use Rattle.px_terms.specs.Order.{term_eq}
use Rattle.px_proof.specs.Derivation.{Derivation, terms_of}
use Rattle.px_table.specs.declared.mark.Mark.{Mark}
use Rattle.px_table.specs.declared.table.Table.{Table}
use Rattle.px_table.specs.Once.{each_once}
use Rattle.px_table.specs.Supports.{variables}
use Rattle.px_table.specs.Tables.{rows_of}

abbrev pub is_parameter : ℕ → Term → Bool
is_parameter params (Obj n) = false
is_parameter params (Var v) = nat_lt v params
is_parameter params WildCard = false

abbrev pub step_terms : List OpInst → List Term
step_terms steps = flat_map (λ (inst : OpInst). inst.args) steps

abbrev pub goal_terms : List Atom → List Term
goal_terms goal = flat_map (λ (atom : Atom). atom.args) goal

abbrev pub row_terms : List (List Derivation) → List Term
row_terms rows = flat_map (flat_map terms_of) rows

-- the terms in the marks, then those in the steps, the goal and the proofs
abbrev pub terms_in : Table → List Term
terms_in table =
    flat_map (λ (mark : Mark). mark.atom.args) table.marks ++
    (step_terms table.steps ++ (goal_terms table.goal ++ row_terms (rows_of table.proofs)))

-- each parameter occurs, and they are numbered in the order in which they first occur
abbrev pub IsNumbered : Table → Type 0
IsNumbered table = each_once term_eq (filter (is_parameter table.params) (terms_in table)) ≡ variables table.params
