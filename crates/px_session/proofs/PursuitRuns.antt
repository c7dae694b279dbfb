-- What the runs of a pursuit keep of the world's atoms, a pursuit keeps; and its turns are theirs.
use Rattle.std.specs.Prelude.{◌≡◌, ◌+◌, ◌++◌, ℕ, List, [], length, All}
use Rattle.std.proofs.Common.{zero, suc, sym, subst}
use Rattle.std.proofs.lemmas.List.Elements.{All-append, All-nil}
use Rattle.px_terms.specs.declared.atom.Atom.{Atom}
use Rattle.px_terms.specs.declared.problem.Problem.{Problem}
use Rattle.px_terms.specs.AtomSets.{IsAtomSet}
use Rattle.px_terms.specs.Validity.{IsAtomOf, IsValid}
use Rattle.px_table.specs.declared.table.Table.{Table}
use Rattle.px_table.specs.Tables.{IsTable}
use Rattle.px_entries.specs.Learned.{AreLearned}
use Rattle.px_ends.specs.Tasks.{task_of}
use Rattle.px_planex.specs.Turns.{Recorded, TurnValue}
use Rattle.px_printer.specs.declared.pursue_end.PursueEnd.{PursueEnd}
use Rattle.px_printer.specs.declared.pursue_end.PursueEnd.TheVariants.{Goal, Exhausted, NodeLimit, ShapeLimit}
use Rattle.px_pursue.specs.Pursuits.{EndsBy, IsPursuit, RunsInVain, RunsPlan}
use Rattle.px_pursue.specs.Searches.{IsSearchable}
use Rattle.px_pursue.proofs.FoundTables.{found-table}
use Rattle.px_session.specs.OwnStates.{AreOwnEdits}
use Rattle.px_session.specs.Sessions.{Edit, leaves_edit}
use Rattle.px_session.proofs.Ascending.{turns-set}
use Rattle.px_session.proofs.OwnRuns.{AreOwn, IsOwnStep, turns-own, turns-steps}

module _ (problem : Problem) (tables : List Table) (goal : List Atom) (variable_count : ℕ) (recorded : List (Recorded Edit)) where
  abbrev pub Runs : ℕ → List Atom → List TurnValue → List Atom → Type 0
  Runs = RunsPlan leaves_edit problem tables goal variable_count recorded

  abbrev pub Vain : ℕ → ℕ → List Atom → List TurnValue → List Atom → Type 0
  Vain = RunsInVain leaves_edit problem tables goal variable_count recorded

  abbrev pub Ends : ℕ → List Atom → List TurnValue → PursueEnd → List Atom → Type 0
  Ends = EndsBy leaves_edit problem tables goal variable_count recorded

  abbrev Pursues : List Atom → ℕ → List TurnValue → PursueEnd → List Atom → Type 0
  Pursues = IsPursuit leaves_edit problem tables goal variable_count recorded

  -- ---- the atoms

  module _ (P : List Atom → Type 0)
      (each : (number : ℕ) (atoms : List Atom) (run : List TurnValue) (after : List Atom) → Runs number atoms run after → P atoms
      → P after) where
    vain-keeps : (count number : ℕ) (atoms : List Atom) (turns : List TurnValue) (after : List Atom) → Vain count number atoms turns after
        → P atoms → P after
    vain-keeps zero number atoms turns after is holds = subst P (sym is.1) holds
    vain-keeps (suc count) number atoms turns after (run, rest, (mid, plan, ends, are, later)) holds =
        vain-keeps count (number + length run) mid rest after later (each number atoms run mid plan holds)

    ends-keep : (number : ℕ) (atoms : List Atom) (run : List TurnValue) (end : PursueEnd) (after : List Atom)
        → Ends number atoms run end after → P atoms → P after
    ends-keep number atoms run Goal after ends holds = each number atoms run after ends.0 holds
    ends-keep number atoms run Exhausted after ends holds = subst P (sym ends.2) holds
    ends-keep number atoms run (NodeLimit nodes moves) after ends holds = subst P (sym ends.2) holds
    ends-keep number atoms run (ShapeLimit node limit) after ends holds = subst P (sym ends.2) holds

    pub pursuit-keeps : (atoms : List Atom) (searches : ℕ) (turns : List TurnValue) (end : PursueEnd) (after : List Atom)
        → Pursues atoms searches turns end after → P atoms → P after
    pursuit-keeps atoms searches turns end after is holds =
        ends-keep (length is.before + 1) is.mid is.last end after is.ends (vain-keeps is.in_vain 1 atoms is.before is.mid is.vain holds)

  -- ---- the turns

  module _ (P : TurnValue → Type 0)
      (each : (number : ℕ) (atoms : List Atom) (run : List TurnValue) (after : List Atom) → Runs number atoms run after → All P run) where
    vain-all : (count number : ℕ) (atoms : List Atom) (turns : List TurnValue) (after : List Atom) → Vain count number atoms turns after
        → All P turns
    vain-all zero number atoms turns after is = subst (All P) (sym is.0) (All-nil P)
    vain-all (suc count) number atoms turns after (run, rest, (mid, plan, ends, are, later)) =
        subst (All P) (sym are)
        (All-append P run rest (each number atoms run mid plan) (vain-all count (number + length run) mid rest after later))

    ends-all : (number : ℕ) (atoms : List Atom) (run : List TurnValue) (end : PursueEnd) (after : List Atom)
        → Ends number atoms run end after → All P run
    ends-all number atoms run Goal after ends = each number atoms run after ends.0
    ends-all number atoms run Exhausted after ends = subst (All P) (sym ends.1) (All-nil P)
    ends-all number atoms run (NodeLimit nodes moves) after ends = subst (All P) (sym ends.1) (All-nil P)
    ends-all number atoms run (ShapeLimit node limit) after ends = subst (All P) (sym ends.1) (All-nil P)

    pursuit-all : (atoms : List Atom) (searches : ℕ) (turns : List TurnValue) (end : PursueEnd) (after : List Atom)
        → Pursues atoms searches turns end after → All P turns
    pursuit-all atoms searches turns end after is =
        subst (All P) (sym is.turns_are)
        (All-append P is.before is.last (vain-all is.in_vain 1 atoms is.before is.mid is.vain)
        (ends-all (length is.before + 1) is.mid is.last end after is.ends))

  pub pursuit-set : (atoms : List Atom) (searches : ℕ) (turns : List TurnValue) (end : PursueEnd) (after : List Atom)
      → Pursues atoms searches turns end after → IsAtomSet atoms → IsAtomSet after
  pursuit-set atoms searches turns end after is set =
      pursuit-keeps IsAtomSet
      (λ number from run to plan set. turns-set problem plan.plan [] recorded number _ run _ plan.takes set) atoms searches turns end after
      is set

  -- ---- of the problem

  module _ (valid : IsValid problem) (learned : AreLearned problem tables) (own : All (IsAtomOf problem variable_count) goal) where
    pub searchable : (atoms : List Atom) → IsSearchable (task_of problem tables atoms goal variable_count)
    searchable atoms = record { valid = valid; goal = own; learned = learned; nodes = valid.nodes.1 }

    -- the table of each run is one
    pub run-table : (number : ℕ) (atoms : List Atom) (run : List TurnValue) (after : List Atom) (plan : Runs number atoms run after)
        → IsTable problem plan.plan
    run-table number atoms run after plan =
        found-table (task_of problem tables atoms goal variable_count) (searchable atoms) plan.moves plan.plan plan.found plan.made

    pub pursuit-steps : (atoms : List Atom) (searches : ℕ) (turns : List TurnValue) (end : PursueEnd) (after : List Atom)
        → Pursues atoms searches turns end after → All (λ turn. IsOwnStep problem turn.op) turns
    pursuit-steps atoms searches turns end after is =
        pursuit-all (λ turn. IsOwnStep problem turn.op)
        (λ number from run to plan.
        turns-steps problem plan.plan (run-table number from run to plan) [] recorded number _ run _ plan.takes) atoms searches turns end
        after is

    pub pursuit-own : (atoms : List Atom) (searches : ℕ) (turns : List TurnValue) (end : PursueEnd) (after : List Atom)
        → Pursues atoms searches turns end after → AreOwnEdits problem recorded → AreOwn problem atoms → AreOwn problem after
    pursuit-own atoms searches turns end after is edits atoms_own =
        pursuit-keeps (AreOwn problem)
        (λ number from run to plan own_before.
        turns-own problem valid plan.plan (run-table number from run to plan) [] recorded number _ run _ edits plan.takes own_before) atoms
        searches turns end after is atoms_own
