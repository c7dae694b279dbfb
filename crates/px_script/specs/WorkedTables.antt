-- Blocks of tables, and commands that only name a table: how their lines are written, what they leave, and what they are refused for.
use Rattle.std.specs.Prelude.{◌≡◌, ℕ, true, false, List, [], ◌∷◌, ◌++◌, codes, length, map, replicate, None}
use Rattle.std.specs.Fmt.{decimal}
use Rattle.std.specs.List.{AllByRecursion}
use Rattle.px_proof.specs.Derivation as derivation
use Rattle.px_proof.specs.Derivation.{none, also}
use Rattle.px_proof.specs.LayerLaws.{proof_of}
use Rattle.px_table.specs.Tables.{empty_table}
use Rattle.px_table.specs.declared.table.Table.{Table}
use Rattle.px_script.specs.Common.{Var}
use Rattle.px_script.specs.Items.{Argument, SignedAtom, named, open_variable, bare, a_fact, an_ancestor, an_axiom, are_proofs}
use Rattle.px_script.specs.Statements.{table, step, goal, proof, About, ask}
use Rattle.px_script.specs.declared.command.About.TheVariants as about
use Rattle.px_script.specs.Commands.{Command}
use Rattle.px_script.specs.declared.command.Command.TheVariants.{Plan, Learn, Show, Save, Certify, Run, Duo, Edit}
use Rattle.px_script.specs.Declarations.{Declared}
use Rattle.px_script.specs.WorkedLines.{Exceed, Fit, Leave, LeaveBoth, Refuse, RefuseWhere, Spell, closed_building, in_operator, numbered, q, commands, learned, learned_in_two, small, times, with_sign}

abbrev p : ℕ → Argument
p k = open_variable (112 ∷ decimal k)

abbrev g : ℕ → Argument
g k = open_variable (103 ∷ decimal k)

abbrev p_of : List Argument → SignedAtom
p_of ts = with_sign bare (codes "P") ts

-- two operators, of which A(x) takes Q(x) away, and what it adds serves B(x,y)
abbrev danger : List ℕ
danger = codes "script 2\nobject a b\npredicate P 1\npredicate Q 1\npredicate R 1\npredicate G 1\noperator A(x)\npre P(x)\n"
    ++ codes "delete Q(x)\nadd R(x)\nend\noperator B(x,y)\npre R(x) Q(y)\nadd G(x)\nend\nfact P(a) Q(b)"

-- a table of both: its name, its steps, its goal, and its rows
abbrev pub opened : List ℕ
opened = danger ++ codes "\ntable M 2"

abbrev stepped : List ℕ
stepped = opened ++ codes "\nstep A(?p1)\nstep B(?p1,?p2)"

abbrev aimed : List ℕ
aimed = stepped ++ codes "\ngoal G(?p1)"

abbrev two_rows : List ℕ
two_rows = aimed ++ codes "\nproof f 0 0 P(?p1)\nproof f 1 0 R(?p1) f 0 0 Q(?p2)"

abbrev all_rows : List ℕ
all_rows = two_rows ++ codes "\nproof f 2 0 G(?p1)"

-- an axiom by which what is P is G; a table without steps whose goal follows from a fact by this axiom
abbrev with_axiom : List ℕ
with_axiom = codes "script 2\nobject a\npredicate P 1\npredicate G 1\naxiom ~P(?x) G(?x)\ntable T 1\ngoal G(?p1)"

-- this many tables stand
abbrev tables : ℕ → Declared → Declared
tables k d = record d { saved = replicate k (0, empty_table) }

-- the proofs of a row whose steps take one proof each, up to this height
abbrev chain : ℕ → List ℕ
chain k = times k (codes " s 0 0 1 ()") ++ codes " a 0"

pub record WorkedTables : Type 0 where
  -- how they are written
  pub opening : Spell (codes "table M 2") (table (codes "M") 2)
  pub a_step : Spell (codes "step O(?p1,a)") (step (codes "O") (p 1 ∷ named (codes "a") ∷ []))
  pub a_plain_step : Spell (codes "step MAKE") (step (codes "MAKE") [])
  pub a_goal : Spell (codes "goal P(?g1) Q") (goal (p_of (g 1 ∷ []) ∷ q ∷ []))
  pub proofs : Spell (codes "proof s 0 1 2 () f 1 0 Q a 1 s 3 0 0 (?p1,a)")
      (proof (an_axiom 0 1 2 [] ∷ a_fact 1 0 q ∷ an_ancestor 1 ∷ an_axiom 3 0 0 (p 1 ∷ named (codes "a") ∷ []) ∷ []))
  pub no_proofs_written : Spell (codes "proof") (proof [])
  pub whole_proofs : are_proofs (a_fact 0 0 q ∷ an_axiom 0 1 2 [] ∷ a_fact 1 0 q ∷ an_ancestor 1 ∷ []) ≡ true
  pub no_proofs : are_proofs [] ≡ true
  pub cut_proof : are_proofs (an_axiom 0 1 2 [] ∷ a_fact 1 0 q ∷ []) ≡ false
  -- what blocks leave: a table with its steps, the proofs of its rows, and the number of its goal's last variable
  pub steps : LeaveBoth (all_rows ++ codes "\nend") (λ d. map (λ (one : ℕ × Table). one.0) d.saved) (0 ∷ [])
      (λ d. map (λ (one : ℕ × Table). one.1.steps) d.saved)
      ((record { op = 0; args = Var 0 ∷ [] } ∷ record { op = 1; args = Var 0 ∷ Var 1 ∷ [] } ∷ []) ∷ [])
  pub rows : Leave (with_axiom ++ codes "\nproof s 0 1 1 (?p1) f 0 0 P(?p1)\nend") (λ d. map (λ (one : ℕ × Table). one.1.proofs) d.saved)
      (((proof_of (derivation.step 0 (Var 0 ∷ []) 1
      (also (derivation.fact (record { column = 0; index = 0; atom = numbered 0 (Var 0 ∷ []) })) none)) ∷ []) ∷ []) ∷ [])
  pub variables : Leave (codes "script 2\nobject a\npredicate P 1\ntable T 1\ngoal P(?g2) P(?p1)\nproof f 0 0 P(a) f 0 0 P(?p1)\nend")
      (λ d. map (λ (one : ℕ × Table). one.1.goal_variable_count) d.saved) (2 ∷ [])
  pub closed : LeaveBoth (all_rows ++ codes "\nend") (λ d. d.block) None (λ d. d.roles.tables) (codes "M" ∷ [])
  pub in_a_building : Leave (codes "script 2\n" ++ closed_building ++ codes "\ntable T 0\ngoal ROOM(R1)\nproof f 0 0 ROOM(R1)\nend")
      (λ d. length d.saved) 1
  -- blocks of tables that are none: lines that lack, one too many; a fact from a step that doesn't add it; a step that has a parameter
  -- more; another place of an axiom, and other terms
  pub bad_tables : Refuse 12 ((stepped, codes "end") ∷ (aimed, codes "end") ∷ (two_rows, codes "end")
      ∷ (all_rows ++ codes "\nproof", codes "end") ∷ (two_rows ++ codes "\nproof f 1 0 G(?p1)", codes "end")
      ∷ (opened ++ codes "\nstep A(?p1,?p1)\ngoal R(?p1)\nproof f 0 0 P(?p1)\nproof f 1 0 R(?p1)", codes "end") ∷ [])
  pub bad_proofs : Refuse 12 ((with_axiom ++ codes "\nproof s 0 0 1 (?p1) f 0 0 P(?p1)", codes "end")
      ∷ (with_axiom ++ codes "\nproof s 0 1 1 () f 0 0 P(?p1)", codes "end")
      ∷ (with_axiom ++ codes "\nproof s 0 1 1 (a) f 0 0 P(?p1)", codes "end") ∷ [])
  -- no words of version 1, no such forms, and lines that stand wrong
  pub new : Refuse 3 ((small, codes "table M 2\nstep O\ngoal Q\nproof") ∷ [])
  pub no_form : Refuse 2 ((
    codes "script 2",
    codes "table M\ntable M x\ntable 2 M\nstep\nstep O()\nstep O(a\nstep O a\ngoal\ngoal ~Q\n"
        ++ codes "proof Q\nproof f 0 Q\nproof f 0 0\nproof f 0 0 +Q\nproof a\nproof s 0 0 0\nproof s 0 0 ()\nproof s 0 0 1 ()\n"
        ++ codes "proof s 0 0 2 () a 0\nproof s 0 0 0 (a\nproof s 0 0 0 (a,)",
  ) ∷ [])
  pub out_of_order : Refuse 9 ((codes "script 2\n" ++ small, codes "step O\ngoal Q\nproof\nproof a 0 s 0 0 2 () a 0 a 1")
      ∷ (codes "script 2\n" ++ in_operator, codes "table M 2") ∷ (codes "script 2\nfacts", codes "table M 2")
      ∷ (stepped, codes "proof f 0 0 P(?p1)\nobject c\ntable L 2\nplan N P(a)") ∷ (aimed, codes "goal G(?p1)\nstep A(?p1)") ∷ [])
  pub early : Refuse 9 ((codes "script 2\npredicate P 1\noperator O\nend\ntable M 1", codes "step O(?p1)\ngoal P(?g1)") ∷ [])
  -- unknown names, duplicates, wrong arities, and variables that may not stand there
  pub unknown : Refuse 4 ((opened, codes "step C\nstep A(c)\ngoal S") ∷ (aimed, codes "proof f 0 0 S\nproof s 0 0 0 (c)") ∷ [])
  pub known_table : Refuse 5 ((all_rows ++ codes "\nend", codes "table M 2") ∷ [])
  pub arity : Refuse 6 ((opened, codes "goal P") ∷ (aimed, codes "proof f 0 0 P(a,b)") ∷ [])
  pub unbound : Refuse 7 ((opened, codes "step A(?p3)\nstep A(?p0)\nstep A(?p01)\nstep A(?g1)\ngoal P(?g13)\ngoal P(?x)\ngoal P($)")
      ∷ (aimed, codes "proof s 0 0 0 (?p3)\nproof f 0 0 P(?g1)") ∷ [])
  -- the greatest numbers, and limits
  pub fit : Fit danger (tables 31) (codes "table M 9999")
  pub proofs_fit : Fit aimed (λ d. d) (codes "proof" ++ chain 55 ++ codes "\nproof f 9999 9999 P(?p2)")
  pub many_atoms : Exceed ((12, opened, codes "goal" ++ times 17 (codes " P(?p1)")) ∷ [])
  pub great_numbers : RefuseWhere danger (tables 32) 8 16 (codes "table M 10000")
  pub great_in_proofs : Exceed ((
    16,
    aimed,
    codes "proof f 10000 0 P(?p1)\nproof f 0 10000 P(?p1)\nproof a 10000" ++ chain 56
        ++ codes "\nproof s 10000 0 0 ()\nproof s 0 10000 0 ()",
  ) ∷ [])
  pub many_tables : RefuseWhere danger (tables 32) 8 18 (codes "table M 2")
  pub many_steps : Exceed ((19, opened ++ times 64 (codes "\nstep A(?p1)"), codes "step A(?p1)") ∷ [])
  pub high_proofs : Exceed ((20, aimed, codes "proof" ++ chain 56 ++ codes "\nproof f 0 0 P(?p1)" ++ chain 56) ∷ [])

-- ---- lines of commands that only name a table

-- those that version 2 is the first to have, with this name
abbrev pub asking : List ℕ → List ℕ
asking name = codes "save " ++ (name ++ codes "\ncertify ") ++ name

-- and what they leave, by the number of the name
abbrev asked : ℕ → List Command
asked number = Save number ∷ Certify number ∷ []

pub record WorkedAsking : Type 0 where
  -- how they are written, and what they leave
  pub are_written : AllByRecursion (λ (t : List ℕ × About). Spell t.0 (ask t.1 (codes "M")))
      ((codes "show M", about.Show) ∷ (codes "save M", about.Save) ∷ (codes "certify M", about.Certify) ∷ [])
  pub asks : Leave (learned_in_two ++ codes "\n" ++ asking (codes "M")) (λ d. d.commands)
      (Plan 0 (numbered 1 [] ∷ []) 0 ∷ Learn 1 0 ∷ asked 1)
  pub of_blocks : Leave (all_rows ++ codes "\nend\nshow M\nrun M p1=a\nduo M M 1\nedit E from M 1 1=0\n" ++ asking (codes "M"))
      (λ d. d.commands) (Show 0 ∷ Run 0 ((1, 0) ∷ []) ∷ Duo 0 0 (1 ∷ []) ∷ Edit 1 0 1 ((1, 0) ∷ []) ∷ asked 0)
  pub keep_disturbs : Leave (learned_in_two ++ codes "\ndisturb 1 before +Q\n" ++ asking (codes "N")) (λ d. d.disturbs) 1
  -- no words of version 1, no such forms, and not in a block
  pub new_commands : Refuse 3 ((learned, asking (codes "M")) ∷ [])
  pub without_form : Refuse 2 ((learned_in_two, asking [] ++ codes "\n" ++ asking (codes "M N") ++ codes "\n" ++ asking (codes "1")) ∷ [])
  pub in_blocks : Refuse 9 ((codes "script 2\n" ++ in_operator, asking (codes "M")) ∷ (all_rows, asking (codes "M")) ∷ [])
  -- unknown names; a table that was read isn't learned from
  pub unknown_tables : Refuse 4 ((learned_in_two, asking (codes "L")) ∷ (all_rows ++ codes "\nend", codes "learn L from M") ∷ [])
  pub many_commands : RefuseWhere learned_in_two (commands 1024) 8 13 (asking (codes "M"))
