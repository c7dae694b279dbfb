-- A world refuses an action where an atom of its precondition isn't a fact.
use Rattle.std.specs.Prelude.{◌≡◌, ◌≤◌, ℕ, Some, length, slice_get, All, Contains}
use Rattle.std.proofs.Common.{ap, ◌∙◌, subst, arith}
use Rattle.std.proofs.lemmas.List.{length-map}
use Rattle.px_base.specs.ListLaws.{All-at, All-each}
use Rattle.px_terms.specs.declared.atom.Atom.{Atom}
use Rattle.px_terms.specs.declared.instance.OpInst.{OpInst}
use Rattle.px_terms.specs.declared.problem.Problem.{Problem}
use Rattle.px_terms.specs.declared.problem.Schema.{Schema}
use Rattle.px_terms.specs.Operators.{atoms_of, precondition, schema_of}
use Rattle.px_terms.specs.Substitution.{substitute_atom}
use Rattle.px_terms.specs.States.{Holds}
use Rattle.px_terms.specs.Validity.{IsAtomOf, IsInstanceOf}
use Rattle.px_world.specs.Worlds.{IsActionRefused}
use Rattle.px_rooms.specs.Following.{FactsAreFew, IsMet, RefusalsAreAllowed}
use Rattle.px_rooms.specs.States.{IsRoomWorld, RoomState, building_rules, rendering}
use Rattle.px_rooms.proofs.Meeting.{HaveBelow, have-all, have-not}
use Rattle.px_rooms.proofs.Effects.{has_at}
use Rattle.px_rooms.proofs.Instanced.{needed-belongs}
use Rattle.px_rooms.proofs.Interpreting.{interpreted}
use Rattle.px_rooms.proofs.Belonging.{facts-are-atoms}
use Rattle.px_rooms.proofs.Counting.{rendering-few}
use Rattle.px_rooms.proofs.Worlds.{rendering-ground}

pub record IsUnmet (state : RoomState) (inst : OpInst) : Type 0 where
  pub not_met : ¬ IsMet state inst
  pub may_fail : IsActionRefused (building_rules state) (rendering state) inst

-- in an interpretation of the state an atom of the building that isn't a fact is false
pub refusals-allowed : RefusalsAreAllowed
refusals-allowed state inst atom is of_problem needed unknown =
    let found = interpreted state is in
    let belongs = IsAtomOf (building_rules state) 0 in
    record {
      state = found.0;
      is_state = found.1.is_state;
      axioms = found.1.axioms;
      hold = All-each (Holds found.0) (rendering state)
          (λ fact has. (found.1.facts fact (All-at belongs (rendering state) fact (facts-are-atoms state is).1 has)).1 has);
      atom = atom;
      needed = needed;
      false_there = λ holds. unknown ((found.1.facts atom
          (All-at belongs (precondition (building_rules state) inst) atom (needed-belongs state inst of_problem) needed)).0 holds);
    }

-- what the problem of a world needs is what the rules of its state need
pub needs-same : (problem : Problem) (state : RoomState) (schema : Schema) (inst : OpInst) → IsRoomWorld problem state
    → schema ≡ schema_of problem inst
    → atoms_of schema.pre inst ≡ precondition (building_rules state) inst
needs-same problem state schema inst world here =
    ap (λ (s : Schema). atoms_of s.pre inst) here ∙ ap (λ (p : Problem). precondition p inst) world.rules

pub unmet : (problem : Problem) (state : RoomState) (schema : Schema) (inst : OpInst) (k : ℕ) (atom : Atom) → IsRoomWorld problem state
    → IsInstanceOf (building_rules state) inst
    → schema ≡ schema_of problem inst → slice_get (atoms_of schema.pre inst) k ≡ Some atom → ¬ Contains (rendering state) atom
    → IsUnmet state inst
unmet problem state schema inst k atom world of_problem here at unknown =
    let there : slice_get (precondition (building_rules state) inst) k ≡ Some atom =
    subst (λ atoms. slice_get atoms k ≡ Some atom) (needs-same problem state schema inst world here) at in
    let needed = has_at (precondition (building_rules state) inst) k atom there in
    record {
      not_met = have-not (Contains (rendering state)) (precondition (building_rules state) inst) k atom there unknown;
      may_fail = refusals-allowed state inst atom world.is_state of_problem needed unknown;
    }

pub met : (problem : Problem) (state : RoomState) (schema : Schema) (inst : OpInst) (k : ℕ) → IsRoomWorld problem state
    → schema ≡ schema_of problem inst
    → HaveBelow (Contains (rendering state)) (atoms_of schema.pre inst) k → length schema.pre ≤ k → IsMet state inst
met problem state schema inst k world here have past =
    let count : length (atoms_of schema.pre inst) ≡ length schema.pre = length-map schema.pre (substitute_atom inst.args) in
    subst (All (Contains (rendering state))) (needs-same problem state schema inst world here)
    (have-all (Contains (rendering state)) (atoms_of schema.pre inst) (λ j y below at. have j y (omega (arith, below, count, past)) at))

pub facts-few : FactsAreFew
facts-few state is = (rendering-ground state, rendering-few state is)
