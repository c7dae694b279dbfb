-- A pursuit that is underway: its searches so far were in vain.
use Rattle.std.specs.Prelude.{◌≡◌, ℕ, ◌<◌, ◌+◌, Option, None, Some, List, ◌++◌, length, map}
use Rattle.std.proofs.Common.{suc, refl, sym, ap, ◌∙◌, subst, arith}
use Rattle.std.proofs.lemmas.List.{length-append, length-map, map-append}
use Rattle.px_terms.specs.declared.atom.Atom.{Atom}
use Rattle.px_terms.specs.declared.problem.Problem.{Problem}
use Rattle.px_table.specs.declared.table.Table.{Table}
use Rattle.px_ends.specs.Tasks.{task_of}
use Rattle.px_planex.specs.Turns.{Recorded, TurnValue}
use Rattle.px_printer.specs.declared.pursue_end.PursueEnd.{PursueEnd}
use Rattle.px_printer.specs.declared.turn.Turn.{Turn}
use Rattle.px_turns.specs.Told.{turn_told}
use Rattle.px_turns.specs.Vain.{count_from}
use Rattle.px_pursue.specs.Pursuits.{EndsBy, IsPursuit, RunsInVain, RunsPlan}
use Rattle.px_pursue.specs.Searches.{IsSearchable}
use Rattle.px_pursue.specs.Seeking.{SearchesOnce}
use Rattle.px_pursue.proofs.Few.{one_more, plan_uses}

module _ {E : Type 0} (leaves : E → List Atom → List Atom) (problem : Problem) (tables : List Table) (goal : List Atom) (variable_count : ℕ)
    (recorded : List (Recorded E)) (start : List Atom) where
  abbrev Plan : ℕ → List Atom → List TurnValue → List Atom → Type 0
  Plan = RunsPlan leaves problem tables goal variable_count recorded

  abbrev Searches : List Turn → List Atom → List Turn → Option PursueEnd → List Atom → Type 0
  Searches = SearchesOnce leaves problem tables goal variable_count recorded

  -- so many searches were in vain, and their plans were executed in these turns
  abbrev pub VainSoFar : ℕ → List Turn → List Atom → Type 0
  VainSoFar count turns atoms = RunsInVain leaves problem tables goal variable_count recorded count 1 start (map turn_told turns) atoms

  told-after : (before run turns : List Turn) → turns ≡ before ++ run → map turn_told turns ≡ map turn_told before ++ map turn_told run
  told-after before run turns are = ap (map turn_told) are ∙ map-append turn_told before run

  -- one more was
  pub vain-next : (count : ℕ) (before turns : List Turn) (atoms after : List Atom) → VainSoFar count before atoms
      → Searches before atoms turns None after → VainSoFar (suc count) turns after
  vain-next count before turns atoms after vain (run, are, plan, ends) =
      let place : length before + 1 ≡ 1 + length (map turn_told before) = omega (arith, length-map before turn_told) in
      subst (λ (ts : List TurnValue). RunsInVain leaves problem tables goal variable_count recorded (suc count) 1 start ts after)
      (sym (told-after before run turns are))
      (one_more leaves problem tables goal variable_count recorded count 1 start (map turn_told before) atoms (map turn_told run) after vain
      (subst (λ k. Plan k atoms (map turn_told run) after) place plan) ends)

  -- fewer disturbances are left then
  pub vain-uses : IsSearchable (task_of problem tables start goal variable_count) → (before turns : List Turn) (atoms after : List Atom)
      → Searches before atoms turns None after → count_from (length turns + 1) recorded < count_from (length before + 1) recorded
  vain-uses searchable before turns atoms after (run, are, plan, ends) =
      let used = plan_uses leaves problem tables goal variable_count recorded start searchable (length before + 1) atoms (map turn_told run)
      after plan ends in
      let place : (length before + 1) + length (map turn_told run) ≡ length turns + 1 =
      omega (arith, length-map run turn_told, ap length are, length-append before run) in
      subst (λ k. count_from k recorded < count_from (length before + 1) recorded) place used

  -- the last search
  pub pursued : (count : ℕ) (before turns : List Turn) (atoms after : List Atom) (end : PursueEnd) → VainSoFar count before atoms
      → Searches before atoms turns (Some end) after
      → IsPursuit leaves problem tables goal variable_count recorded start (suc count) (map turn_told turns) end after
  pursued count before turns atoms after end vain (run, are, ends) =
      let place : length before + 1 ≡ length (map turn_told before) + 1 = omega (arith, length-map before turn_told) in
      record {
        in_vain = count;
        searches_are = refl;
        before = map turn_told before;
        last = map turn_told run;
        turns_are = told-after before run turns are;
        mid = atoms;
        vain = vain;
        ends = subst (λ k. EndsBy leaves problem tables goal variable_count recorded k atoms (map turn_told run) end after) place ends;
      }
