-- Lines that version 3 has: how they are written, what they leave, and what they are refused for.
use Rattle.std.specs.Prelude.{ℕ, List, [], ◌∷◌, ◌++◌, codes, Some}
use Rattle.px_script.specs.Statements.{weight, tree}
use Rattle.px_script.specs.Common.{Var}
use Rattle.px_script.specs.declared.command.Command.TheVariants.{Plan, Learn, Tree}
use Rattle.px_script.specs.Items.{bare, open_variable}
use Rattle.px_script.specs.Declarations.{problem_here}
use Rattle.px_script.specs.WorkedTables.{asking}
use Rattle.px_script.specs.WorkedLines.{Exceed, Fit, Leave, LeaveBoth, Refuse, RefuseWhere, Spell, closed_building, commands, in_operator, learned, learned_in_two, long_name, numbered, q, small, times, with_sign}

-- ---- the weight of the search
pub record WorkedWeights : Type 0 where
  pub weighing : Spell (codes "weight 16") (weight 16)
  -- what lines leave: the greatest numbers, what holds where no line says it, and in a building
  pub most : LeaveBoth (codes "script 3\nweight 1000\nnodes 1000000") (λ d. d.weight) (Some 1000) (λ d. d.nodes) (Some 1000000)
  pub none : Leave (codes "script 3\nweight 0") (λ d. (problem_here d).weight) 0
  pub defaults : LeaveBoth (codes "script 3\nobject a") (λ d. (problem_here d).weight) 16 (λ d. (problem_here d).nodes) 100000
  pub old_defaults : LeaveBoth (codes "script 2\nobject a") (λ d. (problem_here d).weight) 0 (λ d. (problem_here d).nodes) 10000
  pub of_a_building : LeaveBoth (codes "script 3\nweight 3\n" ++ closed_building) (λ d. (problem_here d).weight) 3
      (λ d. (problem_here d).nodes) 100000
  -- version 3 has the words and the limits of version 2
  pub sorted : Leave (codes "script 3\nsort S a b") (λ d. d.sorts) (codes "S" ∷ [])
  pub many_objects : Fit (codes "script 3\n" ++ small) (λ d. d) (codes "sort S c d")
  -- no word of the versions before, no such form, and lines that stand wrong
  pub new : Refuse 3 (([], codes "weight 16") ∷ (codes "script 2", codes "weight 16") ∷ [])
  pub no_form : Refuse 2 ((codes "script 3", codes "weight\nweight a\nweight 1 2") ∷ [])
  pub out_of_order : Refuse 9 ((codes "script 3\nfacts", codes "weight 3") ∷ (codes "script 3\nbuilding", codes "weight 3") ∷ [])
  -- duplicates, also before limits; and limits
  pub twice : Refuse 5 ((codes "script 3\nweight 3", codes "weight 3\nweight 1001") ∷ [])
  pub limits : Exceed ((16, codes "script 3", codes "weight 1001\nnodes 1000001\nnodes 0")
      ∷ (16, codes "script 2", codes "nodes 50001") ∷ [])

-- ---- search trees
abbrev in_three : List ℕ
in_three = codes "script 3\n" ++ learned

abbrev grown : List ℕ
grown = in_three ++ codes "\ntree K 1000 P(?x) Q"

pub record WorkedTrees : Type 0 where
  pub growing : Spell (codes "tree K 7 P(?x) Q") (tree (codes "K") 7 (with_sign bare (codes "P") (open_variable (codes "x") ∷ []) ∷ q ∷ []))
  -- what lines leave: a result that is no table
  pub grows : LeaveBoth grown (λ d. d.commands)
      (Plan 0 (numbered 1 [] ∷ []) 0 ∷ Learn 1 0 ∷ Tree 2 1000 (numbered 0 (Var 0 ∷ []) ∷ numbered 1 [] ∷ []) 1 ∷ [])
      (λ d. d.names.results) (codes "N" ∷ codes "M" ∷ codes "K" ∷ [])
  pub gives_no_table : LeaveBoth grown (λ d. d.roles.tables) (codes "N" ∷ codes "M" ∷ []) (λ d. d.roles.plans) (codes "N" ∷ [])
  -- no word of the versions before, no such forms, and lines that stand wrong
  pub new_command : Refuse 3 ((learned, codes "tree K 1 Q") ∷ (learned_in_two, codes "tree K 1 Q") ∷ [])
  pub without_form : Refuse 2 ((in_three, codes "tree\ntree K\ntree K 1\ntree K Q\ntree 1 K Q\ntree K 1 ~Q") ∷ [])
  pub wrong_place : Refuse 9 ((codes "script 3\n" ++ in_operator, codes "tree K 1 Q")
      ∷ (codes "script 3\npredicate P 1", codes "tree K 1 P(?x)") ∷ [])
  -- unknown names; no command may name a tree
  pub unknown : Refuse 4 ((in_three, codes "tree K 1 R\ntree N 0 P(c)") ∷ (grown, codes "show K\nrun K\nlearn L from K\n" ++ asking (codes "K")) ∷ [])
  pub known_result : Refuse 5 ((in_three, codes "tree N 1 Q\ntree M 0 Q(a)") ∷ [])
  pub arity : Refuse 6 ((in_three, codes "tree K 1 P\ntree K 0 Q($)") ∷ [])
  pub unbound : Refuse 7 ((in_three, codes "tree K 0 P($)") ∷ [])
  -- limits, and the least of those that are passed
  pub passed : Exceed ((1, in_three, codes "tree " ++ long_name ++ codes " 0 Q") ∷ (12, in_three, codes "tree K 0" ++ times 17 (codes " Q"))
      ∷ (16, in_three, codes "tree K 0 Q\ntree K 1001 Q") ∷ [])
  pub many_commands : RefuseWhere in_three (commands 1024) 8 13 (codes "tree K 0 Q")
