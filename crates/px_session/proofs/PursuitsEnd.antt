-- Each pursuit ends: each run in vain uses a disturbance.
use Rattle.std.specs.Prelude.{◌≡◌, ◌⊎◌, ◌<◌, ◌≤◌, ◌+◌, ◌++◌, ℕ, List, [], ◌∷◌, length, All}
use Rattle.std.proofs.Common.{zero, suc, refl, sym, ap, subst, inl, inr, arith}
use Rattle.std.proofs.lemmas.List.{length-append}
use Rattle.px_terms.specs.declared.atom.Atom.{Atom}
use Rattle.px_terms.specs.declared.problem.Problem.{Problem}
use Rattle.px_terms.specs.Validity.{IsAtomOf, IsValid}
use Rattle.px_table.specs.declared.entry.Move.{Move}
use Rattle.px_table.specs.declared.table.Table.{Table}
use Rattle.px_entries.specs.Learned.{AreLearned}
use Rattle.px_ends.specs.Made.{IsTableOfMoves}
use Rattle.px_ends.specs.Tasks.{Task, task_of}
use Rattle.px_planex.specs.Execution.{Memory, Running, nothing_sensed}
use Rattle.px_planex.specs.Executors.{running}
use Rattle.px_planex.specs.Existing.{TracesExist}
use Rattle.px_planex.specs.Turns.{AtGoal, AtNoKernel, ByActing, BySlipping, IsLastTurn, Recorded, TakesTurns, TurnEnd, TurnValue}
use Rattle.px_printer.specs.declared.pursue_end.PursueEnd.{PursueEnd}
use Rattle.px_printer.specs.declared.pursue_end.PursueEnd.TheVariants.{Goal, Exhausted, NodeLimit, ShapeLimit}
use Rattle.px_pursue.specs.Pursuits.{IsPursuit}
use Rattle.px_pursue.specs.Searches.{EndsWithoutPlan, FindsMoves}
use Rattle.px_pursue.proofs.Few.{plan_uses}
use Rattle.px_pursue.proofs.FoundTables.{found-table}
use Rattle.px_totality.specs.SearchEnds.{HasEnd}
use Rattle.px_totality.proofs.MadeTables.{found_have_tables}
use Rattle.px_totality.proofs.SomeEnd.{searches_end}
use Rattle.px_turns.specs.Told.{EndsRun}
use Rattle.px_turns.specs.Vain.{count_from}
use Rattle.px_session.specs.Sessions.{Edit, leaves_edit}
use Rattle.px_session.proofs.PursuitRuns.{Ends, Runs, Vain, searchable}
use Rattle.px_session.proofs.Shifted.{turns-end}

-- ---- the last turn

last-end : (end : TurnEnd) → IsLastTurn end → (end ≡ AtGoal) ⊎ (end ≡ AtNoKernel)
last-end AtGoal last = inl refl
last-end AtNoKernel last = inr refl
last-end ByActing last = absurd last
last-end BySlipping last = absurd last

ends-run : (problem : Problem) (table : Table) (recorded : List (Recorded Edit)) (turns : List TurnValue) (number : ℕ) (old new : Running)
    → TakesTurns leaves_edit problem table [] recorded number old turns new → EndsRun AtGoal turns ⊎ EndsRun AtNoKernel turns
ends-run problem table recorded [] number old new takes = absurd takes
ends-run problem table recorded (turn ∷ []) number old new (mid, takes, inl last) = last-end turn.end last.0
ends-run problem table recorded (turn ∷ []) number old new (mid, takes, inr later) = absurd later.1
ends-run problem table recorded (turn ∷ next ∷ turns) number old new (mid, takes, inl last) =
    absurd (let e : next ∷ turns ≡ [] = last.1 in cc (e))
ends-run problem table recorded (turn ∷ next ∷ turns) number old new (mid, takes, inr later) =
    ends-run problem table recorded (next ∷ turns) (suc number) mid new later.1

module _ (traces-exist : TracesExist leaves_edit) (problem : Problem) (valid : IsValid problem) (tables : List Table)
    (learned : AreLearned problem tables) (goal : List Atom) (variable_count : ℕ) (own : All (IsAtomOf problem variable_count) goal)
    (recorded : List (Recorded Edit)) where
  abbrev from : List Atom → Task
  from atoms = task_of problem tables atoms goal variable_count

  abbrev Run : ℕ → List Atom → List TurnValue → List Atom → Type 0
  Run = Runs problem tables goal variable_count recorded

  -- searches and runs from that turn on, up to the last
  record GoesOn (number : ℕ) (atoms : List Atom) : Type 0 where
    pub count : ℕ
    pub before : List TurnValue
    pub mid : List Atom
    pub vain : Vain problem tables goal variable_count recorded count number atoms before mid
    pub last : List TurnValue
    pub end : PursueEnd
    pub after : List Atom
    pub ends : Ends problem tables goal variable_count recorded (number + length before) mid last end after

  -- the last search is the first
  at-once : (number : ℕ) (atoms : List Atom) (run : List TurnValue) (end : PursueEnd) (after : List Atom)
      → Ends problem tables goal variable_count recorded number atoms run end after → GoesOn number atoms
  at-once number atoms run end after ends = record {
    count = 0;
    before = [];
    mid = atoms;
    vain = (refl, refl);
    last = run;
    end = end;
    after = after;
    ends = let none : number ≡ number + 0 = omega arith in
        subst (λ n. Ends problem tables goal variable_count recorded n atoms run end after) none ends;
  }

  -- one run in vain before
  after-vain : (number : ℕ) (atoms : List Atom) (run : List TurnValue) (mid : List Atom) → Run number atoms run mid → EndsRun AtNoKernel run
      → GoesOn (number + length run) mid → GoesOn number atoms
  after-vain number atoms run mid plan none rest = record {
    count = suc rest.count;
    before = run ++ rest.before;
    mid = rest.mid;
    vain = (run, rest.before, (mid, plan, none, refl, rest.vain));
    last = rest.last;
    end = rest.end;
    after = rest.after;
    ends = let place : (number + length run) + length rest.before ≡ number + length (run ++ rest.before) =
        omega (arith, length-append run rest.before) in
        subst (λ n. Ends problem tables goal variable_count recorded n rest.mid rest.last rest.end rest.after) place rest.ends;
  }

  -- the plan is executed
  record HasRun (number : ℕ) (atoms : List Atom) : Type 0 where
    pub run : List TurnValue
    pub after : List Atom
    pub plan : Run number atoms run after
    pub ends : EndsRun AtGoal run ⊎ EndsRun AtNoKernel run

  runs-there : (number : ℕ) → 1 ≤ number → (atoms : List Atom) (moves : List Move) → FindsMoves (from atoms) moves → HasRun number atoms
  runs-there number some atoms moves found =
      let made = found_have_tables (from atoms) problem.weight moves valid own learned found in
      let is_table = found-table (from atoms) (searchable problem tables goal variable_count recorded valid learned own atoms) moves made.0 found
      made.1 in
      let run = turns-end leaves_edit problem made.0 [] recorded number some atoms traces-exist valid is_table in
      record {
        run = run.0;
        after = run.1.0;
        plan = record { moves = moves; found = found; plan = made.0; made = made.1; memory = run.1.1.0; takes = run.1.1.1 };
        ends = ends-run problem made.0 recorded run.0 number (running atoms nothing_sensed) (running run.1.0 run.1.1.0) run.1.1.1;
      }

  -- there is fuel for what goes on from each turn for whose number and later ones fewer disturbances are recorded
  abbrev HasFuel : ℕ → Type 0
  HasFuel fuel = (number : ℕ) → 1 ≤ number → (atoms : List Atom) → count_from number recorded < fuel → ¬ ¬ GoesOn number atoms

  module _ (fuel number : ℕ) (some : 1 ≤ number) (atoms : List Atom) (enough : count_from number recorded < suc fuel)
      (never : ¬ GoesOn number atoms) (later : HasFuel fuel) where
    by-run : (ran : HasRun number atoms) → EndsRun AtGoal ran.run ⊎ EndsRun AtNoKernel ran.run → ⊥
    by-run ran (inl reached) = never (at-once number atoms ran.run Goal ran.after (ran.plan, reached))
    by-run ran (inr none) =
        let used = plan_uses leaves_edit problem tables goal variable_count recorded atoms
        (searchable problem tables goal variable_count recorded valid learned own atoms) number atoms ran.run ran.after ran.plan none in
        later (number + length ran.run) (omega (arith, some)) ran.after (omega (arith, used, enough))
        (λ rest. never (after-vain number atoms ran.run ran.after ran.plan none rest))

    by-end : HasEnd (from atoms) problem.weight → ⊥
    by-end (inl found) = let ran = runs-there number some atoms found.0 found.1 in by-run ran ran.ends
    by-end (inr (inl exhausted)) = never (at-once number atoms [] Exhausted atoms (exhausted, refl, refl))
    by-end (inr (inr (inl limit))) = never (at-once number atoms [] (NodeLimit limit.0 limit.1) atoms (limit.2, refl, refl))
    by-end (inr (inr (inr limit))) = never (at-once number atoms [] (ShapeLimit limit.0 limit.1) atoms (limit.2, refl, refl))

  goes-on : (fuel : ℕ) → HasFuel fuel
  goes-on zero number some atoms enough never = absurd (omega (arith, enough))
  goes-on (suc fuel) number some atoms enough never =
      searches_end (from atoms) problem.weight
      (by-end fuel number some atoms enough never (λ next above start less. goes-on fuel next above start less))

  abbrev HasPursuit : List Atom → Type 0
  HasPursuit atoms = (searches : ℕ) × (turns : List TurnValue) × ((end : PursueEnd) × (after : List Atom)
      × IsPursuit leaves_edit problem tables goal variable_count recorded atoms searches turns end after)

  -- it can't be that there is no pursuit
  pub pursuits_end : (atoms : List Atom) → ¬ ¬ HasPursuit atoms
  pursuits_end atoms never =
      goes-on (suc (count_from 1 recorded)) 1 (omega arith) atoms (omega arith) (λ is. never (
        suc is.count,
        is.before ++ is.last,
        (
          is.end,
          is.after,
          record {
            in_vain = is.count;
            searches_are = refl;
            before = is.before;
            last = is.last;
            turns_are = refl;
            mid = is.mid;
            vain = is.vain;
            ends = let place : 1 + length is.before ≡ length is.before + 1 = omega arith in
                subst (λ n. Ends problem tables goal variable_count recorded n is.mid is.last is.end is.after) place is.ends;
          },
        ),
      ))
