-- The steps of two executors are instances of the problem's operators, and what they leave of atoms of the problem are such.
use Rattle.std.specs.Prelude.{ℕ, Some, List, [], ◌∷◌, All}
use Rattle.std.proofs.Common.{sym, subst}
use Rattle.std.proofs.lemmas.List.Elements.{All-cons, All-nil}
use Rattle.px_terms.specs.declared.atom.Atom.{Atom}
use Rattle.px_terms.specs.declared.problem.Problem.{Problem}
use Rattle.px_terms.specs.Validity.{IsValid}
use Rattle.px_table.specs.declared.table.Table.{Table}
use Rattle.px_table.specs.Tables.{IsTable}
use Rattle.px_planex.specs.Executors.{IsActable}
use Rattle.px_duo.specs.Duos.{AreReady, DuoRunning, Pair, both, duo_running, neither_sensed, own}
use Rattle.px_duo.specs.declared.event.Who.{Who}
use Rattle.px_duo.specs.declared.event.Who.TheVariants.{First, Second}
use Rattle.px_printer.specs.declared.duo_line.DuoLine.{DuoLine}
use Rattle.px_session.specs.DuoRuns.{AreDuoLines, IsDuoLine, RunsDuo, who_of}
use Rattle.px_session.specs.Sessions.{leaves_edit}
use Rattle.px_session.proofs.OwnRuns.{AreOwn, IsOwnStep, kernel-own, remembered-own, result-own}
use Rattle.px_session.proofs.TwoRunning.{TakesStep, first_ready, line_readies, line_step, lines_keep}

pub each_table : (problem : Problem) (one other : Table) → IsTable problem one → IsTable problem other → (who : Who)
    → IsTable problem (own who (both one other))
each_table problem one other first second First = first
each_table problem one other first second Second = second

module _ (problem : Problem) (tables : Pair Table) (are_tables : (who : Who) → IsTable problem (own who tables)) where
  -- the kernel that is remembered has an object for each parameter
  pub step-ready : (who : Who) (old new : DuoRunning) → AreReady problem tables old.memories
      → (step : TakesStep leaves_edit problem tables who old new) → IsActable problem (own who tables) (Some step.kernel)
  step-ready who old new ready step = subst (IsActable problem (own who tables)) step.remembered (ready who).0

  pub duo-own : IsValid problem → (atoms : List Atom) (numbers : List ℕ) (lines : List DuoLine) (after : List Atom)
      → RunsDuo leaves_edit problem tables atoms numbers lines after → AreOwn problem atoms → AreOwn problem after
  duo-own valid atoms numbers lines after (memories, is) own_atoms =
      lines_keep leaves_edit problem tables (AreOwn problem)
      (λ who old new ready step owned.
      subst (AreOwn problem) (sym step.left)
      (result-own problem valid old.atoms step.inst
      (kernel-own problem (own who tables) (are_tables who) [] step.kernel step.inst (step-ready who old new ready step).2 step.step) owned))
      numbers (duo_running atoms neither_sensed) (duo_running after memories) lines is (first_ready leaves_edit problem tables) own_atoms

  -- the steps that lines print
  abbrev HasOwnStep : DuoLine → Type 0
  HasOwnStep line = IsOwnStep problem line.op

  line-own : (number : ℕ) (old new : DuoRunning) (line : DuoLine) → IsDuoLine leaves_edit problem tables number old line new
      → AreReady problem tables old.memories → HasOwnStep line
  line-own number old new line is ready =
      let who = who_of number in
      let memory = own who new.memories in
      subst (IsOwnStep problem) (sym (line_step leaves_edit problem tables number old new line is))
      (remembered-own problem (own who tables) (are_tables who) [] memory.remembered memory.instance
      (line_readies leaves_edit problem tables number old new line is ready who).0)

  lines-own : (numbers : List ℕ) (old new : DuoRunning) (lines : List DuoLine)
      → AreDuoLines leaves_edit problem tables numbers old lines new
      → AreReady problem tables old.memories → All HasOwnStep lines
  lines-own [] old new [] is ready = All-nil HasOwnStep
  lines-own [] old new (line ∷ lines) is ready = absurd is
  lines-own (n ∷ ns) old new [] is ready = absurd is
  lines-own (n ∷ ns) old new (line ∷ lines) (mid, here, rest) ready =
      All-cons HasOwnStep line lines (line-own n old mid line here ready)
      (lines-own ns mid new lines rest (line_readies leaves_edit problem tables n old mid line here ready))

  pub duo-steps : (atoms : List Atom) (numbers : List ℕ) (lines : List DuoLine) (after : List Atom)
      → RunsDuo leaves_edit problem tables atoms numbers lines after → All (λ line. IsOwnStep problem line.op) lines
  duo-steps atoms numbers lines after (memories, is) =
      lines-own numbers (duo_running atoms neither_sensed) (duo_running after memories) lines is (first_ready leaves_edit problem tables)
