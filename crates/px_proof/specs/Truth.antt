-- What follows from axioms and facts, over finite interpretations in which two objects may be one element.
use Rattle.std.specs.Prelude.{ℕ, List, [], All, Any}
use Rattle.px_terms.specs.declared.atom.Atom.{Atom}
use Rattle.px_terms.specs.declared.clause.Clause.{Clause}
use Rattle.px_terms.specs.declared.clause.Lit.{Lit}
use Rattle.px_terms.specs.States.{State, IsState, Holds, HoldsUnder, AreValues, LiteralHoldsUnder}

-- whatever elements its variables have, some literal of the clause is true
abbrev pub ClauseHolds : State → Clause → Type 0
ClauseHolds state clause = (values : List ℕ) → AreValues state clause.variable_count values → Any (LiteralHoldsUnder state values) clause.lits

-- `AxiomsHold problem state` says this of the problem's axioms
abbrev pub ClausesHold : List Clause → State → Type 0
ClausesHold axioms state = All (ClauseHolds state) axioms

-- the literal is true in each state in which the axioms and the facts hold
abbrev pub Follows : List Clause → List Atom → Lit → Type 0
Follows axioms facts lit =
    (state : State) → IsState state → ClausesHold axioms state → All (Holds state) facts → LiteralHoldsUnder state [] lit

-- whatever elements the variables have, the literal is true in each state in which the axioms and the atoms hold
abbrev pub FollowsUnder : List Clause → ℕ → List Atom → Lit → Type 0
FollowsUnder axioms variable_count atoms lit =
    (state : State) → IsState state → ClausesHold axioms state
    → (values : List ℕ) → AreValues state variable_count values → All (HoldsUnder state values) atoms → LiteralHoldsUnder state values lit
