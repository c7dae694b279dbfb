-- What a derivation proves is true in each state in which the axioms and its leaves hold. By induction over the
-- derivation under its path: the literals of the path are false, or the literal would be true already.
use Rattle.std.specs.Prelude.{◌≡◌, ℕ, ◌<◌, Some, List, [], ◌∷◌, remove, slice_get, Any}
use Rattle.std.proofs.Common.{sym, ap, ◌∙◌, subst, inl, inr, zero, suc}
use Rattle.std.proofs.lemmas.List.{length-map}
use Rattle.std.proofs.lemmas.List.Elements.{All-map}
use Rattle.px_base.specs.ListLaws.{All-at}
use Rattle.px_terms.specs.declared.atom.Atom.{Atom}
use Rattle.px_terms.specs.declared.clause.Clause.{Clause}
use Rattle.px_terms.specs.declared.clause.Lit.{Lit}
use Rattle.px_terms.specs.declared.term.Term.{Term}
use Rattle.px_terms.specs.States.{State, Holds, HoldsUnder, LiteralHoldsUnder, element_of}
use Rattle.px_proof.specs.declared.proof.Leaf.{Leaf}
use Rattle.px_proof.specs.Derivation.{Derivation, Derivations, fact, ancestor, step, gap, open_place, none, also, leaves_of, leaf_atoms}
use Rattle.px_proof.specs.Literals.{substitute_literal, complement_of}
use Rattle.px_base.specs.Answers.{some_same}
use Rattle.px_proof.specs.PlaceLaws.{slice_get-map, slice_get-read, All-got, other_part}
use Rattle.px_proof.specs.Proves.{Rules, Proves, ProvesEach, UsesClause, instance_of, parts_of, from_atoms, from_facts, IsObjectOrParameter, IsTree}
use Rattle.px_proof.specs.Truth.{ClauseHolds, ClausesHold, Follows, FollowsUnder}
use Rattle.px_proof.specs.TruthLaws.{elements_of, literal-decided, complement-fails, complement-holds, literal-under, object-within, name-within}

-- where the variables have these elements, the axioms and all leaves that the rules allow hold in the state, and the
-- rules allow no gap and no open place
pub record Satisfies (state : State) (values : List ℕ) (rules : Rules) (axioms : List Clause) : Type 1 where
  pub axioms_hold : ClausesHold axioms state
  pub choices : (t : Term) → rules.IsChoice t → element_of state values t < state.size
  pub facts_hold : (leaf : Leaf) → rules.IsFact leaf → HoldsUnder state values leaf.atom
  pub no_gap : (atom : Atom) → ¬ rules.IsGap atom
  pub no_open : ¬ rules.IsOpen

module _ (state : State) (values : List ℕ) (rules : Rules) (axioms : List Clause) (model : Satisfies state values rules axioms) where
  abbrev IsTrueHere : Lit → Type 0
  IsTrueHere = LiteralHoldsUnder state values

  -- each literal of the path is false
  abbrev PathFalse : List Lit → Type 0
  PathFalse path = (i : ℕ) (lit : Lit) → slice_get path i ≡ Some lit → ¬ IsTrueHere lit

  path_false-under : (path : List Lit) (lit : Lit) → (¬ IsTrueHere lit) → PathFalse path → PathFalse (lit ∷ path)
  path_false-under path lit here above zero other at = subst (λ l. ¬ IsTrueHere l) (some_same at) here
  path_false-under path lit here above (suc i) other at = above i other at

  -- the literal of the clause that is true is the one at the place, where the complements of all others are true
  at_place : (lit : Lit) (theta : List Term) (place : ℕ) (lits : List Lit) → slice_get (instance_of lits theta) place ≡ Some lit
      → Any (LiteralHoldsUnder state (elements_of state values theta)) lits
      → ((k : ℕ) (other : Lit) → slice_get (parts_of lits theta place) k ≡ Some other → IsTrueHere other) → IsTrueHere lit
  at_place lit theta place lits at (k, l, below, is, holds) others =
      let here = (literal-under state values theta l).1 holds in
      let at_k = slice_get-map (substitute_literal theta) lits k l (slice_get-read lits k l below ∙ ap Some is) in
      elim (other_part (instance_of lits theta) place k (substitute_literal theta l) at_k) [
        | inl same ↦ subst IsTrueHere (some_same (sym at_k ∙ ap (slice_get (instance_of lits theta)) same ∙ at)) here
        | inr part ↦ absurd (complement-fails state values (substitute_literal theta l)
            (others part.0 (complement_of (substitute_literal theta l))
            (slice_get-map complement_of (remove (instance_of lits theta) place) part.0 (substitute_literal theta l) part.1)) here)
      ]

  by_step : (lit : Lit) (number : ℕ) (theta : List Term) (place : ℕ) (clause : Clause)
      → UsesClause rules.IsChoice axioms lit number theta place clause
      → ((¬ IsTrueHere lit) → (k : ℕ) (other : Lit) → slice_get (parts_of clause.lits theta place) k ≡ Some other → IsTrueHere other)
      → IsTrueHere lit
  by_step lit number theta place clause uses others =
      elim (literal-decided state values lit) [
        | inl holds ↦ holds
        | inr fails ↦ at_place lit theta place clause.lits uses.literal_at
            (All-got (ClauseHolds state) axioms number clause model.axioms_hold uses.axiom_at (elements_of state values theta) (
              length-map theta (element_of state values) ∙ uses.terms,
              All-map (λ e. e < state.size) (element_of state values) theta (λ k d below. model.choices _ (uses.choices k d below)),
            ))
            (others fails)
      ]

  mutual
    sound_under : (path : List Lit) (lit : Lit) (d : Derivation) → Proves rules axioms path lit d → PathFalse path → IsTrueHere lit
    sound_under path lit (fact leaf) proved path_false = subst IsTrueHere (sym proved.0) (model.facts_hold leaf proved.1)
    sound_under path lit (ancestor i) proved path_false = complement-holds state values lit (path_false i (complement_of lit) proved)
    sound_under path lit (step number theta place parts) proved path_false =
        by_step lit number theta place proved.0 proved.1 (λ fails. sound_each (lit ∷ path) (parts_of proved.0.lits theta place) parts
        proved.2 (path_false-under path lit fails path_false))
    sound_under path lit (gap atom) proved path_false = absurd (model.no_gap atom proved.1)
    sound_under path lit open_place proved path_false = absurd (model.no_open proved)

    sound_each : (path lits : List Lit) (ds : Derivations) → ProvesEach rules axioms path lits ds → PathFalse path
        → (k : ℕ) (other : Lit) → slice_get lits k ≡ Some other → IsTrueHere other
    sound_each path [] none each path_false k other at = absurd (cc)
    sound_each path (lit ∷ lits) (also d ds) each path_false zero other at =
        subst IsTrueHere (some_same at) (sound_under path lit d each.0 path_false)
    sound_each path (lit ∷ lits) (also d ds) each path_false (suc k) other at = sound_each path lits ds each.1 path_false k other at
    sound_each path [] (also d ds) each path_false k other at = absurd each
    sound_each path (lit ∷ lits) none each path_false k other at = absurd each

  -- under the empty path
  pub sound : (lit : Lit) (d : Derivation) → Proves rules axioms [] lit d → LiteralHoldsUnder state values lit
  sound lit d proved = sound_under [] lit d proved (λ i other at. absurd (cc))

-- what has a proof from facts follows from the axioms and the facts
pub follows : (axioms : List Clause) (facts : List Atom) (lit : Lit) (d : Derivation) → Proves (from_facts facts) axioms [] lit d
    → Follows axioms facts lit
follows axioms facts lit d proved state is axioms_hold facts_hold =
    sound state [] (from_facts facts) axioms
    record {
      axioms_hold = axioms_hold;
      choices = object-within state is [];
      facts_hold = λ leaf from. All-at (Holds state) facts leaf.atom facts_hold from.0;
      no_gap = λ atom h. h;
      no_open = λ h. h;
    }
    lit d proved

-- what has a proof over objects and parameters follows from the axioms and its leaves, whatever elements the parameters have
pub tree_follows : (axioms : List Clause) (objects params : ℕ) (lit : Lit) (d : Derivation) → IsTree axioms objects params lit d
    → FollowsUnder axioms params (leaf_atoms (leaves_of d)) lit
tree_follows axioms objects params lit d tree state is axioms_hold values are atoms_hold =
    sound state values (from_atoms (IsObjectOrParameter objects params) (leaf_atoms (leaves_of d))) axioms
    record {
      axioms_hold = axioms_hold;
      choices = name-within state is objects params values are;
      facts_hold = λ leaf from. All-at (HoldsUnder state values) (leaf_atoms (leaves_of d)) leaf.atom atoms_hold from.0;
      no_gap = λ atom h. h;
      no_open = λ h. h;
    }
    lit d tree.proves
