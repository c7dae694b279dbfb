-- Lines of pursuits, which version 2 has: how they are written, what they leave, and what they are refused for; and what else it has.
use Rattle.std.specs.Prelude.{◌≡◌, ℕ, false, List, [], ◌∷◌, ◌++◌, codes}
use Rattle.px_script.specs.Common.{Var}
use Rattle.px_script.specs.Items.{open_variable, bare}
use Rattle.px_script.specs.Statements.{line_of, edit, pursue}
use Rattle.px_script.specs.declared.command.Command.TheVariants.{Plan, Learn, Pursue}
use Rattle.px_script.specs.Limits as limit
use Rattle.px_script.specs.Limits.{greatest}
use Rattle.px_script.specs.Declarations.{nothing_declared}
use Rattle.px_script.specs.Forms.{is_formed}
use Rattle.px_script.specs.WorkedTables.{asking}
use Rattle.px_script.specs.WorkedLines.{Exceed, Leave, LeaveBoth, Refuse, RefuseWhere, Spell, commands, in_operator, learned, learned_in_two, long_name, numbered, of_six, q, thirteen, times, with_sign}

abbrev pursued : List ℕ
pursued = learned_in_two ++ codes "\npursue K P(?x) Q"

pub record WorkedPursuits : Type 0 where
  pub pursuing : Spell (codes "pursue K P(?x) Q")
      (pursue (codes "K") (with_sign bare (codes "P") (open_variable (codes "x") ∷ []) ∷ q ∷ []))
  -- what lines leave: a result that is no table, and as many disturbances as before
  pub pursues : LeaveBoth pursued (λ d. d.commands)
      (Plan 0 (numbered 1 [] ∷ []) 0 ∷ Learn 1 0 ∷ Pursue 2 (numbered 0 (Var 0 ∷ []) ∷ numbered 1 [] ∷ []) 1 ∷ [])
      (λ d. d.names.results) (codes "N" ∷ codes "M" ∷ codes "K" ∷ [])
  pub gives_no_table : LeaveBoth pursued (λ d. d.roles.tables) (codes "N" ∷ codes "M" ∷ []) (λ d. d.roles.plans) (codes "N" ∷ [])
  pub keeps_disturbs : Leave (learned_in_two ++ codes "\ndisturb 1 before +Q\npursue K Q") (λ d. d.disturbs) 1
  -- no word of version 1, no such forms, and lines that stand wrong
  pub new : Refuse 3 ((learned, codes "pursue K Q") ∷ [])
  pub no_form : Refuse 2 ((learned_in_two, codes "pursue\npursue K\npursue P(a)\npursue K +Q") ∷ [])
  pub out_of_order : Refuse 9 ((codes "script 2\n" ++ in_operator, codes "pursue K Q")
      ∷ (codes "script 2\npredicate P 1", codes "pursue K P(?x)") ∷ [])
  -- unknown names; no command may name a pursuit
  pub unknown : Refuse 4 ((learned_in_two, codes "pursue K R\npursue K P(c)\npursue N R") ∷ [])
  pub unknown_table : Refuse 4 ((
    pursued,
    codes "show K\nrun K\nlearn L from K\nduo K N 1\nduo N K 1\nedit E from K 1 1=0\n" ++ asking (codes "K"),
  ) ∷ [])
  -- duplicates, wrong arities, and what may not stand in a goal
  pub known_result : Refuse 5 ((learned_in_two, codes "pursue N Q\npursue M Q(a)") ∷ (pursued, codes "plan K Q") ∷ [])
  pub arity : Refuse 6 ((learned_in_two, codes "pursue K P\npursue K Q($)") ∷ [])
  pub unbound : Refuse 7 ((learned_in_two, codes "pursue K P($)") ∷ [])
  -- limits, and the least of those that are passed
  pub limits : Exceed ((1, learned_in_two, codes "pursue " ++ long_name ++ times 17 (codes " Q"))
      ∷ (7, codes "script 2\n" ++ of_six, codes "pursue K" ++ times 15 (codes " P(?y,?y,?y,?y,?y,?y)") ++ thirteen) ∷ [])
  pub many_atoms : RefuseWhere learned_in_two (commands 1024) 8 12 (codes "pursue K" ++ times 17 (codes " Q"))
  pub many_commands : RefuseWhere learned_in_two (commands 1024) 8 13 (codes "pursue K Q")

-- ---- what else version 2 has
pub record WorkedLater : Type 0 where
  pub later_limits : greatest 2 limit.objects ≡ 1024
  pub same_limits : greatest 2 limit.disturbs ≡ greatest 1 limit.disturbs
  pub edit_without_pairs : is_formed (record nothing_declared { version = 2 }) (line_of (edit (codes "E") (codes "N") 2 [])) ≡ false
