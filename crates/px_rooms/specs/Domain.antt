-- The domain of every building: its predicates, its axiom and its operators, by number, with their names (after Fikes, Hart and
-- Nilsson 1972).
use Rattle.std.specs.Prelude.{ℕ, ◌+◌, ◌≤◌, ◌<◌, true, false, List, [], ◌∷◌, map, length, codes}
use Rattle.px_base.specs.Bounds.{u32_max}
use Rattle.px_terms.specs.declared.atom.Atom.{Atom}
use Rattle.px_terms.specs.declared.clause.Clause.{Clause}
use Rattle.px_terms.specs.declared.problem.Problem.{Problem}
use Rattle.px_terms.specs.declared.problem.Schema.{Schema}
use Rattle.px_terms.specs.declared.term.Term.{Term}
use Rattle.px_terms.specs.declared.term.Term.TheVariants.{Obj, Var, Any as WildCard}
use Rattle.px_terms.specs.Limits.{most_height, most_nodes, most_shapes}
use Rattle.px_terms.specs.Problems.{problem_without_sorts, schema_without_sorts}
use Rattle.px_terms.specs.Validity.{IsValid}

-- ---- the predicates

-- a predicate's name and its number of arguments
pub record RoomPredicate : Type 0 where
  pub name : List ℕ
  pub arity : ℕ

abbrev pub room_predicates : List RoomPredicate
room_predicates =
    record { name = codes "INROOM"; arity = 2 }
    ∷ record { name = codes "NEXTTO"; arity = 2 }
    ∷ record { name = codes "CONNECTS"; arity = 3 }
    ∷ record { name = codes "OPENED"; arity = 1 }
    ∷ record { name = codes "CLOSED"; arity = 1 }
    ∷ record { name = codes "ROOM"; arity = 1 }
    ∷ record { name = codes "DOOR"; arity = 1 }
    ∷ record { name = codes "BOX"; arity = 1 }
    ∷ []

-- Alike: `WorkedDanger` of `px_match` and `Lamps` of `px_terms` name their own predicates, too; each example is read by itself.

abbrev pub in_room : Term → Term → Atom
in_room x r = record { pred = 0; args = x ∷ r ∷ [] }

abbrev pub next_to : Term → Term → Atom
next_to x y = record { pred = 1; args = x ∷ y ∷ [] }

abbrev pub connects : Term → Term → Term → Atom
connects d x y = record { pred = 2; args = d ∷ x ∷ y ∷ [] }

abbrev pub opened_door : Term → Atom
opened_door d = record { pred = 3; args = d ∷ [] }

abbrev pub closed : Term → Atom
closed d = record { pred = 4; args = d ∷ [] }

abbrev pub is_room : Term → Atom
is_room r = record { pred = 5; args = r ∷ [] }

abbrev pub is_door : Term → Atom
is_door d = record { pred = 6; args = d ∷ [] }

abbrev pub is_box : Term → Atom
is_box b = record { pred = 7; args = b ∷ [] }

-- ---- the axiom

-- a door that connects two rooms in one order connects them in the other, too
abbrev pub both_ways : Clause
both_ways = let d = Var 0 in let x = Var 1 in let y = Var 2 in record {
  variable_count = 3;
  lits = record { positive = false; atom = connects d x y } ∷ record { positive = true; atom = connects d y x } ∷ [];
}

abbrev pub room_axioms : List Clause
room_axioms = both_ways ∷ []

-- ---- the operators

-- the robot is object 0
abbrev pub robot : Term
robot = Obj 0

abbrev pub robot_name : List ℕ
robot_name = codes "ROBOT"

-- an operator's name and those of its parameters, what it needs, what it deletes and what it adds
pub record RoomOperator : Type 0 where
  pub name : List ℕ
  pub parameters : List (List ℕ)
  pub pre : List Atom
  pub del : List Atom
  pub add : List Atom

-- Alike: the operators from `go_to_box` to `push_through` are written out one by one, each to be read by itself.

-- the robot goes to box b in room r
abbrev pub go_to_box : RoomOperator
go_to_box = let b = Var 0 in let r = Var 1 in record {
  name = codes "GOTOB";
  parameters = codes "b" ∷ codes "r" ∷ [];
  pre = is_box b ∷ in_room b r ∷ in_room robot r ∷ [];
  del = next_to robot WildCard ∷ [];
  add = next_to robot b ∷ [];
}

-- the robot goes to door d between room r, where it is, and room s
abbrev pub go_to_door : RoomOperator
go_to_door = let d = Var 0 in let r = Var 1 in let s = Var 2 in record {
  name = codes "GOTOD";
  parameters = codes "d" ∷ codes "r" ∷ codes "s" ∷ [];
  pre = in_room robot r ∷ connects d r s ∷ [];
  del = next_to robot WildCard ∷ [];
  add = next_to robot d ∷ [];
}

-- the robot opens door d, which it is beside
abbrev pub open_door : RoomOperator
open_door = let d = Var 0 in record {
  name = codes "OPEN";
  parameters = codes "d" ∷ [];
  pre = is_door d ∷ next_to robot d ∷ closed d ∷ [];
  del = closed d ∷ [];
  add = opened_door d ∷ [];
}

-- the robot closes door d, which it is beside
abbrev pub close_door : RoomOperator
close_door = let d = Var 0 in record {
  name = codes "CLOSE";
  parameters = codes "d" ∷ [];
  pre = is_door d ∷ next_to robot d ∷ opened_door d ∷ [];
  del = opened_door d ∷ [];
  add = closed d ∷ [];
}

-- the robot goes through door d from room r to room s
abbrev pub go_through : RoomOperator
go_through = let d = Var 0 in let r = Var 1 in let s = Var 2 in record {
  name = codes "GOTHRU";
  parameters = codes "d" ∷ codes "r" ∷ codes "s" ∷ [];
  pre = connects d r s ∷ in_room robot r ∷ opened_door d ∷ [];
  del = in_room robot WildCard ∷ next_to robot WildCard ∷ [];
  add = in_room robot s ∷ [];
}

-- the robot pushes box b to door d between room r, where both are, and room s
abbrev pub push_to_door : RoomOperator
push_to_door = let b = Var 0 in let d = Var 1 in let r = Var 2 in let s = Var 3 in record {
  name = codes "PUSHD";
  parameters = codes "b" ∷ codes "d" ∷ codes "r" ∷ codes "s" ∷ [];
  pre = is_box b ∷ in_room b r ∷ in_room robot r ∷ next_to robot b ∷ connects d r s ∷ [];
  del = next_to robot WildCard ∷ next_to b WildCard ∷ [];
  add = next_to robot b ∷ next_to b d ∷ [];
}

-- the robot pushes box b through door d from room r to room s
abbrev pub push_through : RoomOperator
push_through = let b = Var 0 in let d = Var 1 in let r = Var 2 in let s = Var 3 in record {
  name = codes "PUSHTHRU";
  parameters = codes "b" ∷ codes "d" ∷ codes "r" ∷ codes "s" ∷ [];
  pre = is_box b ∷ in_room b r ∷ in_room robot r ∷ connects d r s ∷ opened_door d ∷ next_to robot b ∷ next_to b d ∷ [];
  del = in_room robot WildCard ∷ in_room b WildCard ∷ next_to robot WildCard ∷ next_to b WildCard ∷ [];
  add = in_room robot s ∷ in_room b s ∷ next_to robot b ∷ [];
}

abbrev pub room_operators : List RoomOperator
room_operators = go_to_box ∷ go_to_door ∷ open_door ∷ close_door ∷ go_through ∷ push_to_door ∷ push_through ∷ []

-- the operators from that number on as schemas
abbrev pub schemas_from : ℕ → List RoomOperator → List Schema
schemas_from number [] = []
schemas_from number (one ∷ operators) =
    schema_without_sorts number (length one.parameters) one.pre one.del one.add ∷ schemas_from (number + 1) operators

abbrev pub room_schemas : List Schema
room_schemas = schemas_from 0 room_operators

-- ---- the problem

-- with this number of objects, the robot among them, and these limits
abbrev pub building_problem : ℕ → ℕ → ℕ → ℕ → Problem
building_problem objects height nodes shapes =
    problem_without_sorts objects (map (λ (p : RoomPredicate). p.arity) room_predicates) room_axioms room_schemas height nodes shapes

-- it is valid where there is an object, there are fewer than a list may have, and the limits are those of a valid problem
abbrev pub BuildingsAreValid : Type 0
BuildingsAreValid = (objects height nodes shapes : ℕ) → (1 ≤ objects) × (objects < u32_max) → (1 ≤ height) × (height ≤ most_height)
    → (1 ≤ nodes) × (nodes ≤ most_nodes) → (2 ≤ shapes) × (shapes ≤ most_shapes)
    → IsValid (building_problem objects height nodes shapes)
