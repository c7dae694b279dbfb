-- Small texts, and what the definitions say of them.
use Rattle.std.specs.Prelude.{ℕ, false, List, [], ◌∷◌, ◌++◌, codes, None, Some}
use Rattle.std.specs.List.{AllByRecursion}
use Rattle.px_proof.specs.Derivation.{fact}
use Rattle.px_proof.specs.LayerLaws.{proof_of}
use Rattle.px_table.specs.Tables.{table_of_rows}
use Rattle.px_terms.specs.Problems.{problem_without_sorts, schema_without_sorts}
use Rattle.px_script.specs.Common.{no_names, building_problem, closed, connects, in_room, is_box, is_door, is_room, Obj, Problem, Var}
use Rattle.px_world.specs.declared.edits.RoomEdit.TheVariants as room_edit
use Rattle.px_world.specs.declared.thing.Thing.TheVariants as thing
use Rattle.px_script.specs.declared.command.Command.TheVariants.{Plan, Show, DisturbRooms, Facts}
use Rattle.px_script.specs.Content.{ScriptValue}
use Rattle.px_script.specs.Limits.{default_height, default_nodes, default_shapes}
use Rattle.px_script.specs.Lines.{mark}
use Rattle.px_script.specs.Declarations.{predicate_names, operator_names}
use Rattle.px_script.specs.Stages.{stage_now}
use Rattle.px_script.specs.Scripts.{IsScript, FirstFault}
use Rattle.px_script.specs.WorkedLines.{asserted, clause, denied, long_name, numbered, words_in}

-- the first fault of the bytes: its line, its code and its limit
abbrev pub IsTextRefused : List ℕ → ℕ → ℕ → ℕ → Type 0
IsTextRefused bytes line code limit = FirstFault stage_now bytes line (record { code = code; limit = limit })

-- the problem of a script that declares this many objects
abbrev of_objects : ℕ → Problem
of_objects n = problem_without_sorts n [] [] [] default_height (default_nodes 1) default_shapes

-- what a script that declares nothing is about
abbrev pub nothing : ScriptValue
nothing = record {
  version = 1;
  names = no_names;
  problem = of_objects 0;
  facts = [];
  building = None;
  saved = [];
  commands = [];
}

-- two objects, two operators, the second of which needs what the first may delete, and two facts
abbrev two_operators : List ℕ
two_operators = codes "object a b\npredicate P 1\npredicate Q 1\npredicate R 1\npredicate G 1\n"
    ++ codes "operator A(x)\npre P(x)\ndelete Q(x)\nadd R(x)\nend\noperator B(x,y)\npre R(x) Q(y)\nadd G(x)\nend\nfact P(a) Q(b)\n"

-- a table of both, whose second step takes R(?p1) from this column
abbrev table_by : List ℕ → List ℕ
table_by column = codes "table M 2\nstep A(?p1)\nstep B(?p1,?p2)\ngoal G(?p1)\nproof f 0 0 P(?p1)\nproof f " ++ column
    ++ codes " 0 R(?p1) f 0 0 Q(?p2)\nproof f 2 0 G(?p1)\nend\n"

-- texts that are scripts, with what they are about
pub record WorkedScripts : Type 0 where
  -- two objects, two operators, the second of which needs what the first may delete, two facts, and two commands
  pub danger : IsScript stage_now (two_operators ++ codes "plan N G(a)\nfacts\n") (record nothing {
    names = record {
      objects = words_in (codes "a b");
      predicates = words_in (codes "P Q R G");
      operators = words_in (codes "A B");
      results = codes "N" ∷ [];
    };
    problem = record (of_objects 2) {
      arities = 1 ∷ 1 ∷ 1 ∷ 1 ∷ [];
      schemas =
          schema_without_sorts 0 1 (numbered 0 (Var 0 ∷ []) ∷ []) (numbered 1 (Var 0 ∷ []) ∷ []) (numbered 2 (Var 0 ∷ []) ∷ [])
          ∷ schema_without_sorts 1 2 (numbered 2 (Var 0 ∷ []) ∷ numbered 1 (Var 1 ∷ []) ∷ []) [] (numbered 3 (Var 0 ∷ []) ∷ []) ∷ [];
    };
    facts = numbered 0 (Obj 0 ∷ []) ∷ numbered 1 (Obj 1 ∷ []) ∷ [];
    commands = Plan 0 (numbered 3 (Obj 0 ∷ []) ∷ []) 0 ∷ Facts ∷ [];
  })
  -- Carriage returns, an empty line, comments, tabs, zeros in front of a number, a fact that stands twice, and no line feed at the end.
  pub blanks : IsScript stage_now
      (codes "script 1\r\n\r\n# object c\nobject\ta b#c\npredicate P 01\nfact P(b)P( a )\nfact P (a)\nnodes 007\r") (record nothing {
        names = record no_names { objects = codes "a" ∷ codes "b" ∷ []; predicates = codes "P" ∷ [] };
        problem = record (of_objects 2) { arities = 1 ∷ []; nodes = 7 };
        facts = numbered 0 (Obj 0 ∷ []) ∷ numbered 0 (Obj 1 ∷ []) ∷ [];
      })
  -- a byte order mark in front
  pub marked : IsScript stage_now (mark ++ codes "object a\nfacts\n") (record nothing {
    names = record no_names { objects = codes "a" ∷ [] };
    problem = of_objects 1;
    commands = Facts ∷ [];
  })
  -- an axiom, the numbers of the search, a goal with a variable, and a plan that is shown
  pub shown : IsScript stage_now (codes "object a b\npredicate P 2\naxiom ~P(?x,?y) P(?y,?x)\nheight 3\nshapes 900\nfact P(a,b)\n"
      ++ codes "plan N P(?z,a)\nshow N") (record nothing {
        names = record no_names { objects = codes "a" ∷ codes "b" ∷ []; predicates = codes "P" ∷ []; results = codes "N" ∷ [] };
        problem = record (of_objects 2) {
          arities = 2 ∷ [];
          height = 3;
          shapes = 900;
          axioms = clause 2 (denied (numbered 0 (Var 0 ∷ Var 1 ∷ [])) ∷ asserted (numbered 0 (Var 1 ∷ Var 0 ∷ [])) ∷ []) ∷ [];
        };
        facts = numbered 0 (Obj 0 ∷ Obj 1 ∷ []) ∷ [];
        commands = Plan 0 (numbered 0 (Var 0 ∷ Obj 0 ∷ []) ∷ []) 1 ∷ Show 0 ∷ [];
      })
  -- a building of two rooms with a closed door, a box in the second room and the robot in the first; and three commands
  pub door : IsScript stage_now (codes "nodes 500\nbuilding\nroom R1\nroom R2\ndoor D1 R1 R2 closed\nbox B1 R2\nrobot R1\nend\n"
      ++ codes "plan Q INROOM(ROBOT,R2)\ndisturb 3 before door D1 closed\nfacts\n") (record {
        version = 1;
        names = record {
          objects = words_in (codes "ROBOT R1 R2 D1 B1");
          predicates = predicate_names;
          operators = operator_names;
          results = codes "Q" ∷ [];
        };
        problem = building_problem 5 default_height 500 default_shapes;
        facts = in_room (Obj 0) (Obj 1) ∷ in_room (Obj 4) (Obj 2) ∷ connects (Obj 3) (Obj 1) (Obj 2) ∷ connects (Obj 3) (Obj 2) (Obj 1)
            ∷ closed (Obj 3) ∷ is_room (Obj 1) ∷ is_room (Obj 2) ∷ is_door (Obj 3) ∷ is_box (Obj 4) ∷ [];
        building = Some (thing.Room ∷ thing.Room ∷ thing.Door 1 2 false ∷ thing.Box 2 ∷ thing.Robot 1 ∷ []);
        saved = [];
        commands = Plan 0 (in_room (Obj 0) (Obj 2) ∷ []) 0 ∷ DisturbRooms 3 false (room_edit.Door 3 false ∷ []) ∷ Facts ∷ [];
      })
  -- sorts of two objects and of a parameter
  pub sorted : IsScript stage_now (codes "script 2\nobject a\nsort S b c\nobject d\npredicate P 1\noperator O(x,y)\nparam S y\n"
      ++ codes "pre P(x)\nadd P(y)\nend\nfacts") (record nothing {
        version = 2;
        names = record no_names { objects = words_in (codes "a b c d"); predicates = codes "P" ∷ []; operators = codes "O" ∷ [] };
        problem = record (of_objects 4) {
          arities = 1 ∷ [];
          sorts = 1;
          object_sorts = 0 ∷ 1 ∷ 1 ∷ 0 ∷ [];
          schemas = record (schema_without_sorts 0 2 (numbered 0 (Var 0 ∷ []) ∷ []) [] (numbered 0 (Var 1 ∷ []) ∷ []))
              { param_sorts = 0 ∷ 1 ∷ [] } ∷ [];
        };
        commands = Facts ∷ [];
      })
  -- a table of one step without parameters, which a command then names
  pub saved : IsScript stage_now (codes "script 2\npredicate G 0\noperator MAKE\nadd G\nend\ntable N 0\nstep MAKE\ngoal G\nproof\n"
      ++ codes "proof f 1 0 G\nend\nshow N") (record nothing {
        version = 2;
        names = record no_names { predicates = codes "G" ∷ []; operators = codes "MAKE" ∷ []; results = codes "N" ∷ [] };
        problem = record (of_objects 0) {
          arities = 0 ∷ [];
          schemas = schema_without_sorts 0 0 [] [] (numbered 0 [] ∷ []) ∷ [];
        };
        saved = (
          0,
          table_of_rows 0 [] (record { op = 0; args = [] } ∷ []) (numbered 0 [] ∷ []) 0
              ([] ∷ (proof_of (fact (record { column = 1; index = 0; atom = numbered 0 [] })) ∷ []) ∷ []),
        ) ∷ [];
        commands = Show 0 ∷ [];
      })

-- Each text has its first fault in the line of this number, with this code.
pub record AreRefused (texts : List (ℕ × ℕ × List ℕ)) : Type 0 where
  pub each : AllByRecursion (λ t. IsTextRefused t.2 t.0 t.1 0) texts

-- texts that are no scripts, with the line, the code and the limit of their first fault
pub record WorkedRefusals : Type 0 where
  pub no_character : IsTextRefused (0xFF ∷ []) 1 1 0
  pub second_mark : IsTextRefused (mark ++ mark ++ codes "object a") 1 2 0
  pub late_mark : IsTextRefused (codes "object a\n" ++ mark ++ codes "facts") 2 2 0
  -- no name, source, time or state of a door; no such parameter, or sign; what is no token, and a form, before what else is wrong
  pub no_form : AreRefused ((1, 2, codes "object 9") ∷ (1, 2, codes "learn M of N") ∷ (1, 2, codes "disturb 1 while +P")
      ∷ (1, 2, codes "door D R S ajar") ∷ (1, 2, codes "run N p0=a") ∷ (1, 2, codes "run N p01=a") ∷ (1, 2, codes "run N p10000=a")
      ∷ (1, 2, codes "axiom +P") ∷ (1, 2, codes "fly %") ∷ (2, 2, codes "operator A\nobject")
      ∷ (4, 2, codes "object a\n\noperator A(x)\ndelete\n") ∷ [])
  pub unknown : AreRefused ((1, 3, codes "fly R1") ∷ (1, 3, codes "obj") ∷ (1, 4, codes "fact P(a)") ∷ (1, 4, codes "learn M from N")
      ∷ (4, 4, codes "object a\npredicate P 1\nplan N P(a)\nplan N P(b)") ∷ [])
  -- duplicates, also before a wrong arity and before a limit
  pub duplicate : AreRefused ((1, 5, codes "object a a") ∷ (2, 5, codes "object a\noperator A(x,x)")
      ∷ (4, 5, codes "object a\npredicate P 1\nplan N P(a)\nplan N P(a,a)") ∷ (2, 5, codes "nodes 5\nnodes 0") ∷ [])
  -- wrong arities, also before a variable; variables and wild cards, also before a long name
  pub arity : AreRefused ((3, 6, codes "object a\npredicate P 1\nfact P(a,a)") ∷ (3, 6, codes "object a\npredicate P 1\nfact P(?x,a)")
      ∷ (3, 7, codes "object a\npredicate P 1\nfact P(?x)")
      ∷ (3, 7, codes "object a\npredicate P 1\nplan " ++ long_name ++ codes " P($)") ∷ [])
  pub wide_predicate : IsTextRefused (codes "predicate P 7") 1 8 4
  pub other_version : IsTextRefused (codes "script 4") 1 8 16
  -- sorts: in version 1, declared twice, not declared, late, and a second sort of a parameter
  pub of_sorts : AreRefused ((1, 3, codes "sort S a") ∷ (3, 5, codes "script 2\nsort S a\nsort S b")
      ∷ (3, 5, codes "script 2\nsort S a\nsort T a") ∷ (4, 4, codes "script 2\nsort S a\noperator O(x)\nparam T x")
      ∷ (5, 5, codes "script 2\nsort S a\noperator O(x)\nparam S x\nparam S x") ∷ (3, 9, codes "script 2\nfacts\nsort S a") ∷ [])
  -- a table that is none: a step takes its fact from a step that doesn't add it; and a block that is cut off
  pub bad_table : IsTextRefused (codes "script 2\n" ++ (two_operators ++ table_by (codes "2"))) 24 12 0
  pub cut_table : IsTextRefused (codes "script 2\ntable M 2\n") 2 10 0
  -- late lines, and blocks that are cut off
  pub order : AreRefused ((2, 9, codes "facts\nobject a") ∷ (3, 9, codes "building\nroom R1\nend")
      ∷ (3, 10, codes "object a\n\noperator A(x)\n") ∷ (2, 10, codes "nodes 5\nbuilding\nroom R1\nrobot R1\n") ∷ [])
  -- where only these words are built
  pub not_built : FirstFault (codes "object" ∷ []) (codes "object a\n# not yet\nfacts") 3 (record { code = 11; limit = 0 })
  pub order_before_unbuilt : FirstFault (codes "operator" ∷ []) (codes "operator A\nfacts") 2 (record { code = 9; limit = 0 })
  pub unbuilt_before_name : FirstFault (codes "plan" ∷ []) (codes "learn M from N") 1 (record { code = 11; limit = 0 })
