-- How small lines are worked: after lines that have no fault, what the next ones leave, or their fault, where all is built.
use Rattle.std.specs.Prelude.{◌≡◌, ℕ, ◌==◌, true, false, List, [], ◌∷◌, map, replicate, codes, Some, ◌++◌}
use Rattle.std.specs.List.{AllByRecursion, flat_map, range_with_len, slice_split}
use Rattle.px_terms.specs.Problems.{schema_without_sorts}
use Rattle.px_base.specs.Bounds.{u32_max}
use Rattle.px_script.specs.Common.{Atom, Clause, Lit, Term, Obj, Var, Any}
use Rattle.px_world.specs.declared.edits.AtomEdit.TheVariants as atom_edit
use Rattle.px_world.specs.declared.edits.RoomEdit.TheVariants as room_edit
use Rattle.px_world.specs.declared.thing.Thing.TheVariants as thing
use Rattle.px_script.specs.Items.{Argument, SignedAtom, Sign, named, open_variable, anything, bare, negated, added, removed, robot_to, box_to, door_to}
use Rattle.px_script.specs.Statements.{Statement, spelling, building, room, robot, door, box, «axiom», operator, delete, height, shapes, plan, learn, disturb_atoms, disturb_rooms, run, duo, edit}
use Rattle.px_script.specs.Lexemes.{Lexes}
use Rattle.px_script.specs.declared.command.Command.TheVariants.{Facts, Plan, Learn, Show, DisturbAtoms, DisturbRooms, Run, Duo, Edit}
use Rattle.px_script.specs.Declarations.{Declared, nothing_declared}
use Rattle.px_script.specs.Stages.{whole_language}
use Rattle.px_script.specs.Scripts.{Passes, PassAll, Fails}

-- the characters of the lines of a text
abbrev pub lines : List ℕ → List (List ℕ)
lines text = slice_split (λ c. c == 10) text

-- The lines of the text have no fault, and leave this.
abbrev pub Pass : List ℕ → Declared → Type 0
Pass text d = PassAll whole_language 1 nothing_declared (lines text) d

-- The lines have no fault, and what they leave has this property.
pub record After (text : List ℕ) (P : Declared → Type 0) : Type 0 where
  pub left : Declared
  pub passes : Pass text left
  pub holds : P left

-- The lines leave this in one part.
abbrev pub Leave : {A : Type 0} → List ℕ → (Declared → A) → A → Type 0
Leave text part value = After text (λ d. part d ≡ value)

-- The lines leave this in one part, and this in another.
abbrev pub LeaveBoth : {A B : Type 0} → List ℕ → (Declared → A) → A → (Declared → B) → B → Type 0
LeaveBoth text one value other other_value = After text (λ d. (one d ≡ value) × (other d ≡ other_value))

-- After lines that have no fault, and with what they leave changed, each line of the other text has no fault.
pub record Fit (before : List ℕ) (change : Declared → Declared) (cases : List ℕ) : Type 0 where
  pub fit : After before (λ d. AllByRecursion (λ line. (next : Declared) × Passes whole_language 1 (change d) line next) (lines cases))

-- After lines that have no fault, and with what they leave changed, each line of the other text is refused so.
pub record RefuseWhere (before : List ℕ) (change : Declared → Declared) (code limit : ℕ) (cases : List ℕ) : Type 0 where
  pub refuse : After before (λ d. AllByRecursion (λ line. Fails whole_language (change d) line (record { code = code; limit = limit }))
      (lines cases))

-- After each of the first texts each line of the second has this code, and passes no limit.
abbrev pub Refuse : ℕ → List (List ℕ × List ℕ) → Type 0
Refuse code texts = AllByRecursion (λ t. RefuseWhere t.0 (λ d. d) code 0 t.1) texts

-- after each first text each line of the second one passes the limit of this number
abbrev pub Exceed : List (ℕ × List ℕ × List ℕ) → Type 0
Exceed texts = AllByRecursion (λ t. RefuseWhere t.1 (λ d. d) 8 t.0 t.2) texts

-- the words of a text, between spaces
abbrev pub words_in : List ℕ → List (List ℕ)
words_in text = slice_split (λ c. c == 32) text

-- the text, the given number of times
abbrev pub times : ℕ → List ℕ → List ℕ
times n text = flat_map (λ k. text) (range_with_len 0 n)

-- 65 letters
abbrev pub long_name : List ℕ
long_name = replicate 65 97

-- the atom of a predicate by its number, and literals. Alike: `asserted` is `positive_of` of `px_proof`, on which nothing here stands
abbrev pub numbered : ℕ → List Term → Atom
numbered p terms = record { pred = p; args = terms }

abbrev pub asserted : Atom → Lit
asserted atom = record { positive = true; atom = atom }

abbrev pub denied : Atom → Lit
denied atom = record { positive = false; atom = atom }

abbrev pub clause : ℕ → List Lit → Clause
clause n literals = record { variable_count = n; lits = literals }

abbrev pub small : List ℕ
small = codes "object a b\npredicate P 1\npredicate Q 0"

-- a building without its `end`, and the whole of it
abbrev pub open_building : List ℕ
open_building = codes "building\nroom R1\nroom R2\ndoor D1 R1 R2 closed\nbox B1 R2\nrobot R1"

abbrev pub closed_building : List ℕ
closed_building = open_building ++ codes "\nend"

-- ---- lines of a script's own domain, and of its settings
abbrev pub in_operator : List ℕ
in_operator = small ++ codes "\noperator O(x)"

-- an object, and a predicate of six arguments; atoms of twelve variables, and of thirteen
abbrev pub of_six : List ℕ
of_six = codes "object a\npredicate P 6"

abbrev pub twelve : List ℕ
twelve = codes " P(?a,?b,?c,?d,?e,?f) P(?g,?h,?i,?j,?k,?l)"

abbrev pub thirteen : List ℕ
thirteen = twelve ++ codes " P(?m,?a,?b,?c,?d,?e)"

pub record WorkedDomains : Type 0 where
  -- what lines leave
  pub version : Leave (codes "script 1") (λ d. d.version) 1
  pub objects : Leave (codes "object a x\nobject b") (λ d. d.names.objects) (codes "a" ∷ codes "x" ∷ codes "b" ∷ [])
  pub predicates : LeaveBoth small (λ d. d.names.predicates) (codes "P" ∷ codes "Q" ∷ []) (λ d. d.arities) (1 ∷ 0 ∷ [])
  pub like_an_object : Leave (codes "object a\npredicate a 0") (λ d. d.names.predicates) (codes "a" ∷ [])
  pub axioms : Leave (small ++ codes "\naxiom ~P(?x) P(a) P(?x)") (λ d. d.axioms)
      (clause 1 (denied (numbered 0 (Var 0 ∷ [])) ∷ asserted (numbered 0 (Obj 0 ∷ [])) ∷ asserted (numbered 0 (Var 0 ∷ [])) ∷ []) ∷ [])
  -- variables are numbered by first occurrence
  pub numbers_variables : Leave (codes "object a\npredicate R 2\naxiom R(?y,?x) R(?x,?z)") (λ d. d.axioms)
      (clause 3 (asserted (numbered 0 (Var 0 ∷ Var 1 ∷ [])) ∷ asserted (numbered 0 (Var 1 ∷ Var 2 ∷ [])) ∷ []) ∷ [])
  pub operators : LeaveBoth (in_operator ++ codes "\npre P(x)\npre Q\ndelete P($)\nadd P(a)\nend") (λ d. d.names.operators) (codes "O" ∷ [])
      (λ d. d.schemas)
      (schema_without_sorts 0 1 (numbered 0 (Var 0 ∷ []) ∷ numbered 1 [] ∷ []) (numbered 0 (Any ∷ []) ∷ [])
      (numbered 0 (Obj 0 ∷ []) ∷ []) ∷ [])
  pub without_parameters : Leave (codes "operator a\nend\noperator x\nend") (λ d. map (λ s. s.op) d.schemas) (0 ∷ 1 ∷ [])
  pub like_its_operator : Leave (codes "object a\noperator x(x)") (λ d. d.names.operators) (codes "x" ∷ [])
  pub long_parameter : Leave (codes "object a\noperator x(" ++ long_name ++ codes ")") (λ d. d.names.operators) (codes "x" ∷ [])
  pub some_facts : Leave (small ++ codes "\nfact Q P(b)\nfact P(a) Q") (λ d. d.facts)
      (numbered 0 (Obj 0 ∷ []) ∷ numbered 0 (Obj 1 ∷ []) ∷ numbered 1 [] ∷ [])
  pub settings : LeaveBoth (codes "height 8\nnodes 50000") (λ d. d.height) (Some 8) (λ d. d.nodes) (Some 50000)
  pub last_setting : Leave (codes "shapes 70000") (λ d. d.shapes) (Some 70000)
  -- no such form
  pub no_form : Refuse 2 (([], codes "object") ∷ (small, codes "axiom\naxiom +Q") ∷ (in_operator, codes "pre\npre ~Q") ∷ [])
  -- unknown names
  pub unknown : Refuse 4 ((small, codes "axiom R\naxiom P(x)\nfact P(x)") ∷ (in_operator, codes "pre P(y)") ∷ [])
  -- duplicates
  pub duplicates : Refuse 5 (([], codes "object a a") ∷ (codes "object a", codes "object x a")
      ∷ (small, codes "predicate P 0\noperator a(x,x)\noperator x(a)") ∷ (in_operator ++ codes "\nend", codes "operator O")
      ∷ (codes "height 4\nnodes 4\nshapes 4", codes "height 9\nnodes 0\nshapes 1") ∷ [])
  -- wrong arities, and arguments that may not stand there
  pub arity : Refuse 6 ((small, codes "axiom Q(a)\nfact P(a,a)") ∷ [])
  pub unbound : Refuse 7 ((small, codes "axiom P($)\nfact P(?x)\nfact P($)")
      ∷ (in_operator, codes "pre P(?x)\npre P($)\ndelete P(?x)\nadd P(?x)\nadd P($)") ∷ [])
  -- lines out of order
  pub out_of_order : Refuse 9 ((codes "object a", codes "script 1") ∷ (codes "facts", codes "object a\nnodes 5")
      ∷ (in_operator, codes "object c\noperator a\nfact Q\nfacts\nnodes 5")
      ∷ (closed_building, codes "object a\npredicate a 0\naxiom BOX(ROBOT)\noperator a\nfact BOX(ROBOT)")
      ∷ (codes "predicate P 1", codes "axiom P(?x)\noperator a(x)") ∷ (small, codes "pre Q\ndelete Q\nadd Q\nend") ∷ [])
  -- limits
  pub limits : Exceed ((1, [], codes "object " ++ long_name ++ codes "\npredicate " ++ long_name ++ codes " 0\noperator " ++ long_name)
      ∷ (4, [], codes "predicate a 7") ∷ (6, small, codes "axiom Q Q Q Q Q Q Q") ∷ (7, of_six, codes "axiom" ++ thirteen)
      ∷ (9, small, codes "operator a(ya,yb,yc,yd,ye,yf,yg,yh,yi)") ∷ (
        10,
        in_operator ++ times 10 (codes "\npre Q\ndelete Q\nadd Q"),
        codes "pre Q Q Q Q Q Q Q\ndelete Q Q Q Q Q Q Q\nadd Q Q Q Q Q Q Q",
      )
      ∷ (16, [], codes "script 4\nscript 0\nheight 0\nheight 9\nnodes 0\nnodes 50001\nshapes 1\nshapes 70001") ∷ [])

-- ---- lines of a building
abbrev one_room : List ℕ
one_room = codes "building\nroom R"

pub record WorkedBuildings : Type 0 where
  -- what lines leave
  pub names : LeaveBoth (codes "building") (λ d. d.names.objects) (codes "ROBOT" ∷ []) (λ d. d.arities) (2 ∷ 2 ∷ 3 ∷ 1 ∷ 1 ∷ 1 ∷ 1 ∷ 1 ∷ [])
  pub predicates : Leave (codes "building") (λ d. d.names.predicates)
      (words_in (codes "INROOM NEXTTO CONNECTS OPENED CLOSED ROOM DOOR BOX"))
  pub operators : Leave (codes "building") (λ d. d.names.operators) (words_in (codes "GOTOB GOTOD OPEN CLOSE GOTHRU PUSHD PUSHTHRU"))
  pub beside_setting : Leave (codes "height 4\nbuilding") (λ d. d.names.objects) (codes "ROBOT" ∷ [])
  pub things : Leave closed_building (λ d. d.things)
      (Some (thing.Room ∷ thing.Room ∷ thing.Door 1 2 false ∷ thing.Box 2 ∷ thing.Robot 1 ∷ []))
  pub objects : Leave closed_building (λ d. d.names.objects) (codes "ROBOT" ∷ codes "R1" ∷ codes "R2" ∷ codes "D1" ∷ codes "B1" ∷ [])
  pub roles : LeaveBoth closed_building (λ d. d.roles.doors) (codes "D1" ∷ []) (λ d. d.roles.boxes) (codes "B1" ∷ [])
  -- what the names of a building are good for afterwards
  pub goal : Leave (closed_building ++ codes "\nplan N INROOM(B1,R1)") (λ d. d.names.results) (codes "N" ∷ [])
  pub goal_arity : Refuse 6 ((closed_building, codes "plan N INROOM(B1)") ∷ [])
  pub goal_unknown : Refuse 4 ((closed_building, codes "plan N AT(B1)") ∷ [])
  -- unknown rooms
  pub unknown : Refuse 4 ((codes "building", codes "box B R\nrobot R") ∷ (one_room, codes "door D ROBOT R open")
      ∷ (one_room ++ codes "\nbox B R", codes "door D R B open\nrobot B") ∷ [])
  -- duplicates
  pub duplicates : Refuse 5 ((closed_building, codes "building") ∷ (codes "building", codes "room ROBOT")
      ∷ (one_room, codes "door D R R open") ∷ (open_building, codes "door R1 R1 R2 open\nbox D1 R1\nrobot R2") ∷ [])
  -- lines out of order
  pub out_of_order : Refuse 9 ((codes "object R", codes "building") ∷ (codes "predicate R 0", codes "building")
      ∷ (codes "facts", codes "building") ∷ (open_building, codes "building\nfacts")
      ∷ ([], codes "room R\ndoor D R R open\nbox B R\nrobot R") ∷ (closed_building, codes "room R") ∷ (one_room, codes "end") ∷ [])
  -- limits
  pub long_names : Exceed ((1, open_building, codes "room " ++ long_name ++ codes "\nbox " ++ long_name ++ codes " R1")
      ∷ (1, open_building, codes "door " ++ long_name ++ codes " R1 R2 open") ∷ [])

-- ---- lines at the limits: the greatest numbers that may be, and the least limit of those that are passed
-- these numbers of objects, predicates, operators, axioms, facts of which P(a) is one, commands, disturbances
abbrev objects : ℕ → Declared → Declared
objects n d = record d { names = record d.names { objects = replicate n (codes "x") } }

abbrev predicates : ℕ → Declared → Declared
predicates n d = record d { names = record d.names { predicates = replicate n (codes "x") } }

abbrev operators : ℕ → Declared → Declared
operators n d = record d { names = record d.names { operators = replicate n (codes "x") } }

abbrev axioms : ℕ → Declared → Declared
axioms n d = record d { axioms = replicate n (record { variable_count = 0; lits = [] }) }

abbrev facts : ℕ → Declared → Declared
facts n d = record d { facts = map (λ k. numbered 0 (Obj k ∷ [])) (range_with_len 0 n) }

abbrev pub commands : ℕ → Declared → Declared
commands n d = record d { commands = replicate n Facts }

abbrev disturbs : ℕ → Declared → Declared
disturbs n d = record d { disturbs = n }

abbrev in_bare_operator : List ℕ
in_bare_operator = small ++ codes "\noperator O"

-- 17 edits
abbrev edits : List ℕ
edits = codes "disturb 0 before" ++ times 17 (codes "+Q")

-- this many sorts, in version 2
abbrev sorts : ℕ → Declared → Declared
sorts n d = record d { version = 2; sorts = replicate n (codes "x") }

-- the same in version 2
abbrev in_two : Declared → Declared
in_two d = record d { version = 2 }

abbrev in_sorted : List ℕ
in_sorted = codes "script 2\nobject a\nsort S b c\npredicate P 1\noperator O(x,y)"

-- ---- lines of sorts, which version 2 has
pub record WorkedSorts : Type 0 where
  -- what lines leave: a sort may be called as an object, and an object without a sort stands among those that have one
  pub two_sorts : LeaveBoth (codes "script 2\nsort S S b\nobject a\nsort T c") (λ d. d.sorts) (codes "S" ∷ codes "T" ∷ [])
      (λ d. d.object_sorts) (1 ∷ 1 ∷ 0 ∷ 2 ∷ [])
  pub sorted_objects : LeaveBoth (codes "script 2\nobject a\nsort S b") (λ d. d.names.objects) (codes "a" ∷ codes "b" ∷ [])
      (λ d. d.version) 2
  pub sorted_parameter : Leave (in_sorted ++ codes "\nparam S y\nend") (λ d. map (λ s. s.param_sorts) d.schemas) ((0 ∷ 1 ∷ []) ∷ [])
  pub sorted_parameters : Leave (in_sorted ++ codes "\nparam S y\nparam S x\nend") (λ d. map (λ s. s.param_sorts) d.schemas)
      ((1 ∷ 1 ∷ []) ∷ [])
  pub last_sort : Fit [] (sorts 31) (codes "sort a a")
  pub more_objects : Fit [] (λ d. objects 1023 (in_two d)) (codes "object a\nsort S a")
  pub more_facts : Fit small (λ d. facts 1023 (in_two d)) (codes "fact Q")
  pub more_commands : Fit [] (λ d. commands 1023 (in_two d)) (codes "facts")
  -- words of version 1 alone, and no such form
  pub new : Refuse 3 (([], codes "sort S a\nparam S x") ∷ (codes "script 1", codes "sort S a") ∷ [])
  pub no_form : Refuse 2 ((codes "script 2", codes "sort\nsort S\nsort S,a") ∷ (in_sorted, codes "param\nparam S\nparam S(x)") ∷ [])
  -- unknown names
  pub unknown : Refuse 4 ((in_sorted, codes "param T x\nparam S z\nparam S a\nparam S x z") ∷ [])
  -- duplicates
  pub duplicates : Refuse 5 ((codes "script 2\nsort S a", codes "sort S b\nsort T a\nsort T b b")
      ∷ (in_sorted ++ codes "\nparam S x", codes "param S x\nparam S y x\nparam S y y") ∷ [])
  -- lines out of order
  pub out_of_order : Refuse 9 ((codes "script 2\nobject a", codes "param S x") ∷ (codes "script 2\nfacts", codes "sort S a")
      ∷ (in_sorted, codes "sort T d") ∷ (codes "script 2\n" ++ closed_building, codes "sort S a")
      ∷ (codes "script 2\nsort S a", codes "building") ∷ [])
  -- limits
  pub long_sort : Exceed ((1, codes "script 2", codes "sort " ++ long_name ++ codes " a\nsort S " ++ long_name) ∷ [])
  pub many_sorts : RefuseWhere [] (sorts 32) 8 17 (codes "sort a a")
  pub many_objects : RefuseWhere [] (λ d. objects 1024 (sorts 32 d)) 8 2 (codes "sort a a")
  pub many_facts : RefuseWhere small (λ d. facts 1024 (in_two d)) 8 11 (codes "fact Q")
  pub many_commands : RefuseWhere [] (λ d. commands 1024 (in_two d)) 8 13 (codes "facts")

pub record WorkedLimits : Type 0 where
  -- the greatest sizes that are allowed, and the least numbers
  pub long_enough : Leave (codes "object " ++ replicate 64 97) (λ d. d.names.objects) (replicate 64 97 ∷ [])
  pub last_object : Fit [] (objects 255) (codes "object a")
  pub last_predicate : Fit [] (predicates 63) (codes "predicate a 6")
  pub last_axiom : Fit small (axioms 63) (codes "axiom Q Q Q Q Q Q")
  pub variables : Fit of_six (λ d. d) (codes "axiom" ++ twelve ++ codes "\nplan a" ++ twelve)
  pub last_operator : Fit (codes "object o") (operators 31) (codes "operator a(xa,xb,xc,xd,xe,xf,xg,xh)")
  pub long_lists : Fit in_bare_operator (λ d. d) (codes "pre" ++ times 16 (codes " Q") ++ codes "\ndelete" ++ times 16 (codes " Q"))
  pub long_adds : Fit (in_bare_operator ++ codes "\nadd" ++ times 10 (codes " Q")) (λ d. d) (codes "add Q Q Q Q Q Q")
  -- facts are counted once
  pub last_fact : Fit small (facts 511) (codes "fact Q\nfact Q P(a) Q")
  pub fact_that_is_there : Fit small (facts 512) (codes "fact P(a)")
  pub long_goal : Fit small (λ d. d) (codes "plan a" ++ times 16 (codes " Q"))
  pub last_command : Fit [] (commands 511) (codes "facts")
  pub last_disturbance : Fit small (disturbs 63) (codes "disturb 9999 before" ++ times 16 (codes "+Q"))
  pub last_room_edits : Fit closed_building (disturbs 63) (codes "disturb 1 between" ++ times 16 (codes " robot R1"))
  pub least_numbers : LeaveBoth (codes "height 1\nnodes 1\nshapes 2") (λ d. d.height) (Some 1) (λ d. d.shapes) (Some 2)
  -- one more than there may be
  pub many_objects : RefuseWhere [] (objects 256) 8 2 (codes "object a")
  pub many_things : RefuseWhere (codes "building\nroom R\nroom S") (objects 256) 8 2 (codes "room a\ndoor a R S open\nbox a R")
  pub many_axioms : RefuseWhere small (axioms 64) 8 5 (codes "axiom Q\naxiom Q Q Q Q Q Q Q")
  pub many_predicates : RefuseWhere [] (predicates 64) 8 3 (codes "predicate a 0\npredicate a 7")
  pub many_operators : RefuseWhere (codes "object o") (operators 32) 8 8 (codes "operator a\noperator a(xa,xb,xc,xd,xe,xf,xg,xh,xi)")
  pub many_facts : RefuseWhere small (facts 512) 8 11 (codes "fact Q")
  -- the least limit of those that are passed
  pub least_first : Exceed ((6, of_six, codes "axiom" ++ thirteen ++ thirteen ++ thirteen)
      ∷ (1, small, codes "plan " ++ long_name ++ times 17 (codes " Q"))
      ∷ (7, of_six, codes "plan a" ++ times 15 (codes " P(?y,?y,?y,?y,?y,?y)") ++ thirteen) ∷ (15, small, edits) ∷ [])
  pub atoms_first : RefuseWhere small (commands 512) 8 12 (codes "plan a" ++ times 17 (codes " Q"))
  pub commands_first : RefuseWhere small (λ d. commands 512 (disturbs 64 d)) 8 13 edits
  pub disturbs_first : RefuseWhere small (disturbs 64) 8 14 edits

-- ---- commands
abbrev pub learned : List ℕ
learned = small ++ codes "\nplan N Q\nlearn M from N"

pub record WorkedCommands : Type 0 where
  -- what lines leave
  pub plans : LeaveBoth (small ++ codes "\nplan N P(?x) P(b) P(?x)\nplan M Q") (λ d. d.names.results) (codes "N" ∷ codes "M" ∷ [])
      (λ d. d.commands) (Plan 0 (map (numbered 0) ((Var 0 ∷ []) ∷ (Obj 1 ∷ []) ∷ (Var 0 ∷ []) ∷ [])) 1 ∷ Plan 1 (numbered 1 [] ∷ []) 0 ∷ [])
  pub numbers_variables : Leave (codes "object a\npredicate R 2\nplan N R(?y,?x) R(?x,?z)") (λ d. d.commands)
      (Plan 0 (numbered 0 (Var 0 ∷ Var 1 ∷ []) ∷ numbered 0 (Var 1 ∷ Var 2 ∷ []) ∷ []) 3 ∷ [])
  pub learns : LeaveBoth learned (λ d. d.names.results) (codes "N" ∷ codes "M" ∷ [])
      (λ d. d.commands) (Plan 0 (numbered 1 [] ∷ []) 0 ∷ Learn 1 0 ∷ [])
  pub shows : Leave (learned ++ codes "\nshow M\nshow N") (λ d. d.commands)
      (Plan 0 (numbered 1 [] ∷ []) 0 ∷ Learn 1 0 ∷ Show 1 ∷ Show 0 ∷ [])
  pub disturbs : LeaveBoth (small ++ codes "\ndisturb 9999 between +Q -P(a)") (λ d. d.disturbs) 1 (λ d. d.commands)
      (DisturbAtoms 9999 true (atom_edit.Add (numbered 1 []) ∷ atom_edit.Remove (numbered 0 (Obj 0 ∷ [])) ∷ []) ∷ [])
  pub disturbs_after_run : Leave (learned ++ codes "\ndisturb 1 before +Q\nrun N") (λ d. d.disturbs) 0
  pub disturbs_rooms : LeaveBoth (closed_building ++ codes "\ndisturb 1 before robot R2 box B1 R1 door D1 open") (λ d. d.disturbs) 1
      (λ d. d.commands) (DisturbRooms 1 false (room_edit.Robot 2 ∷ room_edit.Box 4 1 ∷ room_edit.Door 3 true ∷ []) ∷ [])
  pub runs : Leave (learned ++ codes "\nrun M p2=b p1=a\nrun N") (λ d. d.commands)
      (Plan 0 (numbered 1 [] ∷ []) 0 ∷ Learn 1 0 ∷ Run 1 ((2, 1) ∷ (1, 0) ∷ []) ∷ Run 0 [] ∷ [])
  pub last_parameter : Leave (learned ++ codes "\nrun M p9999=a") (λ d. d.disturbs) 0
  pub tells_facts : Leave (codes "facts") (λ d. d.commands) (Facts ∷ [])
  -- no such form
  pub no_form : Refuse 2 ((small, codes "plan N\nplan N ~Q\ndisturb 1 before\ndisturb 1 before Q\ndisturb 1 before robot a")
      ∷ (closed_building, codes "disturb 1 before +BOX(B1)\ndisturb 1 before") ∷ (learned, codes "run M p0=a\nrun M p10000=a") ∷ [])
  -- unknown names
  pub unknown : Refuse 4 ((small, codes "plan N P(c)\nlearn M from N\ndisturb 1 before +R")
      ∷ (learned, codes "learn L from M\nlearn L from L\nshow L\nrun L\nrun M p1=c")
      ∷ (closed_building, codes "disturb 1 before robot B1\ndisturb 1 before box ROBOT R1\ndisturb 1 before box B1 D1")
      ∷ (closed_building, codes "disturb 1 before door R1 open") ∷ [])
  -- duplicates
  pub known_result : Refuse 5 ((learned, codes "plan M Q\nlearn M from N\nrun M p1=a p1=b") ∷ [])
  -- wrong arities, and arguments that may not stand there
  pub arity : Refuse 6 ((small, codes "plan N Q(a)\ndisturb 1 before +P") ∷ [])
  pub unbound : Refuse 7 ((small, codes "plan N P($)\ndisturb 1 before +P(?x)\ndisturb 1 before -P($)") ∷ [])
  -- lines out of order
  pub out_of_order : Refuse 9 ((codes "predicate P 1", codes "plan N P(?x)") ∷ (codes "predicate Q 0\nplan N Q", codes "run N p1=a") ∷ [])
  -- limits
  pub many_commands : RefuseWhere learned (commands 512) 8 13 (codes "plan L Q\nlearn L from N\nshow N\nrun N\ndisturb 1 before +Q\nfacts")
  pub many_disturbing_rooms : RefuseWhere closed_building (commands 512) 8 13 (codes "disturb 1 before robot R1")
  pub many_disturbed_rooms : RefuseWhere closed_building (λ d. record d { disturbs = 64 }) 8 14 (codes "disturb 1 before robot R1")
  pub limits : Exceed ((1, learned, codes "plan " ++ long_name ++ codes " Q\nlearn " ++ long_name ++ codes " from N")
      ∷ (7, of_six, codes "plan N" ++ thirteen) ∷ (12, small, codes "plan N" ++ times 17 (codes " Q"))
      ∷ (14, small ++ times 64 (codes "\ndisturb 1 before +Q"), codes "disturb 1 before +Q")
      ∷ (15, small, codes "disturb 1 before" ++ times 17 (codes "+Q"))
      ∷ (15, closed_building, codes "disturb 1 before" ++ times 17 (codes " robot R1"))
      ∷ (16, small, codes "disturb 0 before +Q\ndisturb 10000 before +Q")
      ∷ (16, closed_building, codes "disturb 10000 before robot R1") ∷ [])

-- a plan N and a learned table M, in version 2
abbrev pub learned_in_two : List ℕ
learned_in_two = codes "script 2\n" ++ learned

-- ---- lines of two executors, which version 2 has
pub record WorkedDuos : Type 0 where
  -- what lines leave
  pub duos : Leave (learned_in_two ++ codes "\nduo M N 1 2 2\nduo N N 1") (λ d. d.commands)
      (Plan 0 (numbered 1 [] ∷ []) 0 ∷ Learn 1 0 ∷ Duo 1 0 (1 ∷ 2 ∷ 2 ∷ []) ∷ Duo 0 0 (1 ∷ []) ∷ [])
  pub keeps_disturbs : Leave (learned_in_two ++ codes "\ndisturb 1 before +Q\nduo N N 1") (λ d. d.disturbs) 1
  pub most_events : Fit learned_in_two (λ d. d) (codes "duo N M" ++ times 256 (codes " 2"))
  -- no word of version 1, and no such form
  pub new : Refuse 3 ((learned, codes "duo N M 1") ∷ [])
  pub no_form : Refuse 2 ((learned_in_two, codes "duo\nduo N\nduo N M\nduo N M x\nduo N M 1 N\nduo 1 N 1") ∷ [])
  -- unknown names
  pub unknown : Refuse 4 ((learned_in_two, codes "duo K N 1\nduo N K 1") ∷ [])
  -- limits
  pub numbers : Exceed ((16, learned_in_two, codes "duo N M 0\nduo N M 1 3\nduo N M 4294967297") ∷ [])
  pub many_events : RefuseWhere learned_in_two (λ d. d) 8 22 (codes "duo N M" ++ times 257 (codes " 1"))
  pub numbers_first : RefuseWhere learned_in_two (λ d. d) 8 16 (codes "duo N M 3" ++ times 257 (codes " 1"))
  pub commands_first : RefuseWhere learned_in_two (commands 1024) 8 13 (codes "duo N M 3")

-- ---- lines of edited tables, which version 2 has
abbrev edited : List ℕ
edited = learned_in_two ++ codes "\nedit E from M 2 1=0 2 = 10"

pub record WorkedEdits : Type 0 where
  -- what lines leave
  pub edits : Leave (edited ++ codes "\nedit F from E 0 9999=0") (λ d. d.commands)
      (Plan 0 (numbered 1 [] ∷ []) 0 ∷ Learn 1 0 ∷ Edit 2 1 2 ((1, 0) ∷ (2, 10) ∷ []) ∷ Edit 3 2 0 ((9999, 0) ∷ []) ∷ [])
  pub gives_a_table : LeaveBoth edited (λ d. d.roles.plans) (codes "N" ∷ [])
      (λ d. d.roles.tables) (codes "N" ∷ codes "M" ∷ codes "E" ∷ [])
  -- An edited table may be shown, run and edited, but not learned.
  pub named : Fit edited (λ d. d) (codes "show E\nrun E\nduo E M 1\nedit F from E 1 1=0")
  pub no_plan : Refuse 4 ((edited, codes "learn L from E") ∷ [])
  pub most_pairs : Fit learned_in_two (λ d. d) (codes "edit E from M 9999 9999=0 1=9999\nedit E from N 1" ++ times 16 (codes " 1=0"))
  -- no word of version 1, and no such form; not in a block
  pub new : Refuse 3 ((learned, codes "edit E from M 1 1=0") ∷ [])
  pub no_form : Refuse 2 ((
    learned_in_two,
    codes "edit\nedit E from M 2\nedit E M 2 1=0\nedit E from M 1=0\nedit E from M 2 1=0 2\nedit E from M 2 1=\nedit 1 from M 2 1=0",
  ) ∷ [])
  pub out_of_order : Refuse 9 ((codes "script 2\n" ++ in_operator, codes "edit E from M 1 1=0") ∷ [])
  -- unknown names, also before names that are taken, and those before limits
  pub unknown : Refuse 4 ((learned_in_two, codes "edit E from L 2 1=0\nedit E from E 2 1=0\nedit M from L 1 1=0") ∷ [])
  pub known_result : Refuse 5 ((learned_in_two, codes "edit M from N 2 1=0\nedit N from N 10000 1=0") ∷ [])
  -- limits, and the least of those that are passed
  pub limits : Exceed ((1, learned_in_two, codes "edit " ++ long_name ++ codes " from M 10000 1=0")
      ∷ (16, learned_in_two, codes "edit E from M 10000 1=0\nedit E from M 1 1=0 10000=0\nedit E from M 1 1=10000")
      ∷ (16, learned_in_two, codes "edit E from M 10000" ++ times 17 (codes " 1=0"))
      ∷ (21, learned_in_two, codes "edit E from M 1" ++ times 17 (codes " 1=0")) ∷ [])
  pub commands_first : RefuseWhere learned_in_two (commands 1024) 8 13 (codes "edit E from M 10000 1=0")

-- ---- how lines are written, from their characters
-- The characters spell the statement.
pub record Spell (characters : List ℕ) (s : Statement) : Type 0 where
  pub lexes : Lexes characters (spelling s)

-- an atom with a sign, over these arguments
abbrev pub with_sign : Sign → List ℕ → List Argument → SignedAtom
with_sign sign p arguments = record { sign = sign; atom = record { predicate = p; arguments = arguments } }

abbrev pub q : SignedAtom
q = with_sign bare (codes "Q") []

pub record WorkedSpellings : Type 0 where
  pub an_axiom : Spell (codes "axiom ~P(?x,a) Q")
      («axiom» (with_sign negated (codes "P") (open_variable (codes "x") ∷ named (codes "a") ∷ []) ∷ q ∷ []))
  pub an_operator : Spell (codes "operator O ( x , y )") (operator (codes "O") (codes "x" ∷ codes "y" ∷ []))
  pub without_parameters : Spell (codes "operator O") (operator (codes "O") [])
  pub a_pattern : Spell (codes "delete P($,a)") (delete (with_sign bare (codes "P") (anything ∷ named (codes "a") ∷ []) ∷ []))
  pub a_building : Spell (codes "building # of rooms") building
  pub a_room : Spell (codes "room R") (room (codes "R"))
  pub an_open_door : Spell (codes "door D R S open") (door (codes "D") (codes "R") (codes "S") true)
  pub a_closed_door : Spell (codes "door D R S closed") (door (codes "D") (codes "R") (codes "S") false)
  pub a_box : Spell (codes "box B R") (box (codes "B") (codes "R"))
  pub a_robot : Spell (codes "robot R") (robot (codes "R"))
  pub a_height : Spell (codes "height 04") (height 4)
  pub many_shapes : Spell (codes "shapes 99999999999") (shapes u32_max)
  pub a_goal : Spell (codes "plan N P(?x) Q") (plan (codes "N") (with_sign bare (codes "P") (open_variable (codes "x") ∷ []) ∷ q ∷ []))
  pub learning : Spell (codes "learn M from N") (learn (codes "M") (codes "N"))
  pub executing_two : Spell (codes "duo N M 1 2") (duo (codes "N") (codes "M") (1 ∷ 2 ∷ []))
  pub editing : Spell (codes "edit E from M 2 1=0 2 = 10") (edit (codes "E") (codes "M") 2 ((1, 0) ∷ (2, 10) ∷ []))
  pub edits_before : Spell (codes "disturb 3 before +P(a)-Q")
      (disturb_atoms 3 false (with_sign added (codes "P") (named (codes "a") ∷ []) ∷ with_sign removed (codes "Q") [] ∷ []))
  pub edits_between : Spell (codes "disturb 3 between + Q") (disturb_atoms 3 true (with_sign added (codes "Q") [] ∷ []))
  pub edits_of_rooms : Spell (codes "disturb 1 before robot R box B S door D open door E closed")
      (disturb_rooms 1 false (robot_to (codes "R") ∷ box_to (codes "B") (codes "S") ∷ door_to (codes "D") true
      ∷ door_to (codes "E") false ∷ []))
  pub bindings : Spell (codes "run M p1=a p20 = a") (run (codes "M")
      (record { parameter = 1; object = codes "a" } ∷ record { parameter = 20; object = codes "a" } ∷ []))
