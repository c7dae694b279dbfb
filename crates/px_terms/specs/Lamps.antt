-- A worked example of axioms and goal variables: a lamp is on or off, and shines where it is on.
use Rattle.std.specs.Prelude.{ℕ, true, false, List, [], ◌∷◌}
use Rattle.px_terms.specs.declared.atom.Atom.{Atom}
use Rattle.px_terms.specs.declared.clause.Clause.{Clause}
use Rattle.px_terms.specs.declared.instance.OpInst.{OpInst}
use Rattle.px_terms.specs.declared.problem.Problem.{Problem}
use Rattle.px_terms.specs.declared.problem.Schema.{Schema}
use Rattle.px_terms.specs.declared.term.Term.{Term}
use Rattle.px_terms.specs.declared.term.Term.TheVariants.{Obj, Var}
use Rattle.px_terms.specs.Plans.{Carries}
use Rattle.px_terms.specs.Problems.{problem_without_sorts, schema_without_sorts}
use Rattle.px_terms.specs.States.{State, IsState, AxiomsHold}
use Rattle.px_terms.specs.Validity.{IsInstanceOf, IsValid}

-- ON(x), OFF(x) and SHINES(x), the predicates 0, 1 and 2
abbrev pub on : Term → Atom
on x = record { pred = 0; args = x ∷ [] }

abbrev pub off : Term → Atom
off x = record { pred = 1; args = x ∷ [] }

abbrev pub shines : Term → Atom
shines x = record { pred = 2; args = x ∷ [] }

-- each thing is on or off; and what is on shines
abbrev pub on_or_off : Clause
on_or_off = record { variable_count = 1; lits = record { positive = true; atom = on (Var 0) } ∷ record { positive = true; atom = off (Var 0) } ∷ [] }

abbrev pub on_shines : Clause
on_shines = record {
  variable_count = 1;
  lits = record { positive = false; atom = on (Var 0) } ∷ record { positive = true; atom = shines (Var 0) } ∷
      [];
}

-- SWITCH_ON(x) needs OFF(x), deletes it and adds ON(x)
abbrev pub switch_schema : Schema
switch_schema = schema_without_sorts 0 1 (off (Var 0) ∷ []) (off (Var 0) ∷ []) (on (Var 0) ∷ [])

-- one object, the lamp, with these axioms
abbrev pub lamp_with : List Clause → Problem
lamp_with axioms = problem_without_sorts 1 (1 ∷ 1 ∷ 1 ∷ []) axioms (switch_schema ∷ []) 1 1 2

abbrev pub lamp : Problem
lamp = lamp_with (on_or_off ∷ on_shines ∷ [])

abbrev pub switch_on : OpInst
switch_on = record { op = 0; args = Obj 0 ∷ [] }

-- states of one element, the lamp, of which each predicate is true or not
abbrev pub lamp_state : List (List ℕ) → List (List ℕ) → List (List ℕ) → State
lamp_state is_on is_off is_shining = record { size = 1; elements = 0 ∷ []; tuples = is_on ∷ is_off ∷ is_shining ∷ [] }

abbrev pub it : List (List ℕ)
it = (0 ∷ []) ∷ []

abbrev pub dark : State
dark = lamp_state [] it []

abbrev pub shining : State
shining = lamp_state it [] it

-- on, and doesn't shine
abbrev pub broken : State
broken = lamp_state it [] []

-- neither on nor off
abbrev pub missing : State
missing = lamp_state [] [] []

-- The axioms hold where the lamp is off, and where it is on and shines. They fail where it is on and doesn't shine, and where it
-- is neither on nor off. From OFF(lamp), switching it on carries to "something shines", though no operator adds SHINES: the axiom
-- gives it. Without the axioms it doesn't carry there, and neither does the empty plan.
pub record LampFact : Type 0 where
  pub valid : IsValid lamp
  pub instance : IsInstanceOf lamp switch_on
  pub states : IsState dark × IsState shining × IsState broken × IsState missing
  pub holding : AxiomsHold lamp dark × AxiomsHold lamp shining
  pub failing : (¬ AxiomsHold lamp broken) × (¬ AxiomsHold lamp missing)
  pub carried : Carries lamp (off (Obj 0) ∷ []) (switch_on ∷ []) 1 (shines (Var 0) ∷ [])
  pub no_axioms : ¬ Carries (lamp_with []) (off (Obj 0) ∷ []) (switch_on ∷ []) 1 (shines (Var 0) ∷ [])
  pub no_steps : ¬ Carries lamp (off (Obj 0) ∷ []) [] 1 (shines (Var 0) ∷ [])

-- P, and not P
abbrev pub claim : Clause
claim = record { variable_count = 0; lits = record { positive = true; atom = record { pred = 0; args = [] } } ∷ [] }

abbrev pub denial : Clause
denial = record { variable_count = 0; lits = record { positive = false; atom = record { pred = 0; args = [] } } ∷ [] }

abbrev pub contradiction : Problem
contradiction = problem_without_sorts 0 (0 ∷ []) (claim ∷ denial ∷ []) [] 1 1 2

-- No state meets axioms that contradict each other. So there is no run, and any facts carry any steps to any goal.
pub record ContradictionFact : Type 0 where
  pub valid : IsValid contradiction
  pub unmet : (state : State) → ¬ AxiomsHold contradiction state
  pub carried : (facts : List Atom) (steps : List OpInst) (variable_count : ℕ) (goal : List Atom) → Carries contradiction facts steps variable_count goal
