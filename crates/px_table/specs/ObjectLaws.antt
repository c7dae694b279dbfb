-- The rows of a support name finitely many objects.
use Rattle.std.specs.Prelude.{ℕ, ◌+◌, ◌≤◌, List, [], ◌∷◌, map, All}
use Rattle.std.proofs.Common.{suc, arith}
use Rattle.std.proofs.lemmas.List.Elements.{All-append, All-cons}
use Rattle.px_terms.specs.declared.atom.Atom.{Atom}
use Rattle.px_terms.specs.declared.clause.Clause.{Clause}
use Rattle.px_terms.specs.declared.clause.Lit.{Lit}
use Rattle.px_terms.specs.declared.instance.OpInst.{OpInst}
use Rattle.px_terms.specs.declared.problem.Problem.{Problem}
use Rattle.px_terms.specs.declared.term.Term.{Term}
use Rattle.px_terms.specs.declared.term.Term.TheVariants.{Obj, Var, Any}
use Rattle.px_terms.specs.Language.{IsObject}
use Rattle.px_terms.specs.Operators.{precondition}
use Rattle.px_terms.specs.Substitution.{substitute_atom}
use Rattle.px_terms.specs.Validity.{IsTermOf}
use Rattle.px_proof.specs.Derivation.{Derivation, Derivations, fact, ancestor, step, gap, open_place, none, also, terms_of, all_terms_of}
use Rattle.px_proof.specs.Proves.{Proves, ProvesEach, from_atoms, parts_of}
use Rattle.px_table.specs.SupportClaims.{with_object_count}
use Rattle.px_table.specs.Supports.{ProvesEachOf, RowsProve}

-- ---- ground proofs name objects alone

nothing_else : All IsObject []
nothing_else k d below = absurd (omega (arith, below))

mutual
  objects_of : (axioms : List Clause) (atoms : List Atom) (path : List Lit) (lit : Lit) (d : Derivation)
      → Proves (from_atoms IsObject atoms) axioms path lit d → All IsObject (terms_of d)
  objects_of axioms atoms path lit (fact leaf) proved = proved.1.1
  objects_of axioms atoms path lit (ancestor i) proved = nothing_else
  objects_of axioms atoms path lit (step number theta place parts) proved =
      All-append IsObject theta (all_terms_of parts) proved.1.choices
      (objects_of_all axioms atoms (lit ∷ path) (parts_of proved.0.lits theta place) parts proved.2)
  objects_of axioms atoms path lit (gap atom) proved = absurd proved.1
  objects_of axioms atoms path lit open_place proved = absurd proved

  objects_of_all : (axioms : List Clause) (atoms : List Atom) (path lits : List Lit) (ds : Derivations)
      → ProvesEach (from_atoms IsObject atoms) axioms path lits ds → All IsObject (all_terms_of ds)
  objects_of_all axioms atoms path [] none each = nothing_else
  objects_of_all axioms atoms path (lit ∷ lits) (also d ds) each =
      All-append IsObject (terms_of d) (all_terms_of ds) (objects_of axioms atoms path lit d each.0)
      (objects_of_all axioms atoms path lits ds each.1)
  objects_of_all axioms atoms path [] (also d ds) each = absurd each
  objects_of_all axioms atoms path (lit ∷ lits) none each = absurd each

-- the derivation names objects alone
abbrev pub NamesObjects : Derivation → Type 0
NamesObjects d = All IsObject (terms_of d)

row_objects : (axioms : List Clause) (atoms : List Atom) (row : List Derivation) → ProvesEachOf IsObject axioms atoms row
    → All NamesObjects row
row_objects axioms [] [] each = λ k d below. absurd (omega (arith, below))
row_objects axioms [] (d ∷ row) each = absurd each
row_objects axioms (atom ∷ atoms) [] each = absurd each
row_objects axioms (atom ∷ atoms) (d ∷ row) each =
    All-cons NamesObjects d row (objects_of axioms _ [] _ d each.0.proves) (row_objects axioms atoms row each.1)

pub rows_objects : (problem : Problem) (goal : List Atom) (goal_variable_count : ℕ) (steps : List OpInst) (rows : List (List Derivation))
    → RowsProve IsObject problem 0 steps goal goal_variable_count rows → All (All NamesObjects) rows
rows_objects problem goal goal_variable_count [] [] h = absurd h
rows_objects problem goal goal_variable_count [] (row ∷ []) h =
    All-cons (All NamesObjects) row [] (row_objects problem.axioms (map (substitute_atom h.0) goal) row h.2)
    (λ k d below. absurd (omega (arith, below)))
rows_objects problem goal goal_variable_count [] (row ∷ second ∷ rows) h = absurd h
rows_objects problem goal goal_variable_count (inst ∷ steps) [] h = absurd h
rows_objects problem goal goal_variable_count (inst ∷ steps) (row ∷ rows) h =
    All-cons (All NamesObjects) row rows (row_objects problem.axioms (precondition problem inst) row h.0)
    (rows_objects problem goal goal_variable_count steps rows h.1)

-- ---- from some number on

-- what holds from some number on
abbrev pub FromSome : (ℕ → Type 0) → Type 0
FromSome P = (least : ℕ) × ((count : ℕ) → least ≤ count → P count)

pub from_each : {X : Type 0} (P : ℕ → X → Type 0) (xs : List X) → All (λ x. FromSome (λ count. P count x)) xs
    → FromSome (λ count. All (P count) xs)
from_each P [] all = (0, λ count enough k d below. absurd (omega (arith, below)))
from_each P (x ∷ xs) all =
    let here = all 0 x (omega arith) in
    let rest = from_each P xs (λ k d below. all (suc k) d (omega (arith, below))) in
    (here.0 + rest.0, λ count enough. All-cons (P count) x xs (here.1 count (omega (arith, enough))) (rest.1 count (omega (arith, enough))))

term_from : (problem : Problem) (t : Term) → IsObject t → FromSome (λ count. IsTermOf (with_object_count problem count) 0 t)
term_from problem (Obj n) is = (suc n, λ count enough. omega (arith, enough))
term_from problem (Var v) is = absurd is
term_from problem Any is = absurd is

-- the terms of such a derivation are the problem's, with enough objects
pub terms_name_objects : (problem : Problem) (d : Derivation) → NamesObjects d
    → FromSome (λ count. All (IsTermOf (with_object_count problem count) 0) (terms_of d))
terms_name_objects problem d objects =
    from_each (λ count. IsTermOf (with_object_count problem count) 0) (terms_of d) (λ k t below. term_from problem _ (objects k t below))
