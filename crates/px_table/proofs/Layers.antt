-- The one atom that a step of a proof can prove.
use Rattle.std.proofs.Common.{◌≡◌, ℕ, ◌<◌, List, [], length, get_or, slice_get, Some, sym, ap, ◌∙◌, subst}
use Rattle.px_terms.specs.Clauses.{IsArena, ArePlainBelow}
use Rattle.px_terms.specs.declared.atom.Atom.{Atom}
use Rattle.px_terms.specs.declared.clause.Clause.{Clause}
use Rattle.px_terms.specs.declared.clause.Lit.{Lit}
use Rattle.px_terms.specs.declared.term.Term.{Term}
use Rattle.px_terms.specs.declared.term.Term.TheVariants.{Obj, Var, Any}
use Rattle.px_terms.specs.Language.{IsPlainBelow, IsVariableBelow}
use Rattle.px_terms.specs.Substitution.{substitute_atom}
use Rattle.px_proof.specs.Literals.{positive_of, substitute_literal}
use Rattle.px_base.specs.Answers.{some_same}
use Rattle.px_proof.specs.PlaceLaws.{slice_get-map, slice_get-read}
use Rattle.px_proof.specs.Proves.{instance_of}

abbrev pub no_clause : Clause
no_clause = record { variable_count = 0; lits = [] }

pub plain_variable : (variable_count : ℕ) (t : Term) → IsPlainBelow variable_count t → IsVariableBelow variable_count t
plain_variable variable_count (Obj n) h = tt
plain_variable variable_count (Var v) h = h
plain_variable variable_count Any h = tt

-- the literals of an arena's clause are plain below its variables
pub plain_lits : (axioms : List Clause) (number : ℕ) (theta : List Term) (lits : List Lit) → IsArena axioms → number < length axioms
    → length theta ≡ (get_or axioms number no_clause).variable_count
    → lits ≡ (get_or axioms number no_clause).lits → ArePlainBelow (length theta) lits
plain_lits axioms number theta lits arena below same is =
    subst (λ n. ArePlainBelow n lits) (sym same) (subst (λ ls. ArePlainBelow (get_or axioms number no_clause).variable_count ls) (sym is)
    (arena.each number no_clause below).plain)

-- the literal at the place is the one that a step proves
pub concluded : (axioms : List Clause) (number : ℕ) (theta : List Term) (place : ℕ) (lits : List Lit) (atom : Atom) (used : Clause)
    (item : Lit) → number < length axioms
    → lits ≡ (get_or axioms number no_clause).lits → place < length lits → slice_get axioms number ≡ Some used
    → slice_get (instance_of used.lits theta) place ≡ Some (positive_of atom)
    → substitute_atom theta (get_or lits place item).atom ≡ atom
concluded axioms number theta place lits atom used item below is within at_clause at_literal =
    let same : used ≡ get_or axioms number no_clause = some_same (sym at_clause ∙ slice_get-read axioms number no_clause below) in
    let lits_same : used.lits ≡ lits = ap (λ (c : Clause). c.lits) same ∙ sym is in
    let read = slice_get-map (substitute_literal theta) lits place (get_or lits place item) (slice_get-read lits place item within) in
    ap (λ (l : Lit). l.atom) (some_same (sym read ∙ ap (λ ls. slice_get (instance_of ls theta) place) (sym lits_same) ∙ at_literal))
