-- A command to run has one lawful reply.
use Rattle.std.specs.Prelude.{◌≡◌, ℕ, List, [], ◌∷◌, map}
use Rattle.std.proofs.Common.{refl, sym, ap, ◌∙◌, subst, inl}
use Rattle.px_terms.specs.declared.atom.Atom.{Atom}
use Rattle.px_terms.specs.declared.problem.Problem.{Problem}
use Rattle.px_table.specs.declared.table.Table.{Table}
use Rattle.px_planex.specs.Turns.{AtGoal, AtNoKernel, ByActing, BySlipping, RunsTable, TurnValue}
use Rattle.px_planex.specs.Turns as executed
use Rattle.px_planex.proofs.OneRun.{runs_are_one}
use Rattle.px_printer.specs.declared.reply.Reply.{Reply}
use Rattle.px_printer.specs.declared.reply.Reply.TheVariants as reply
use Rattle.px_printer.specs.declared.turn.Turn.{Turn}
use Rattle.px_printer.specs.declared.turn.TurnEnd.{TurnEnd}
use Rattle.px_printer.specs.declared.turn.TurnEnd.TheVariants.{Acted, Slipped, Goal, NoKernel}
use Rattle.px_session.specs.Determined.{SameReply}
use Rattle.px_session.specs.Lawful.{HasNoParameter, IsRunOf, TellsRun, first_unknown, end_told, turn_told}
use Rattle.px_session.specs.Sessions.{SessionState, any_table, leaves_edit}
use Rattle.px_session.proofs.OneLearning.{none_or_some, one_some}

-- ---- the turns that are reported are those that were taken

abbrev told_end : executed.TurnEnd → TurnEnd
told_end AtGoal = Goal
told_end AtNoKernel = NoKernel
told_end ByActing = Acted
told_end BySlipping = Slipped

abbrev told_turn : TurnValue → Turn
told_turn turn = record { kernel = turn.kernel; op = turn.op; end = told_end turn.end }

told_back : (end : TurnEnd) → told_end (end_told end) ≡ end
told_back Acted = refl
told_back Slipped = refl
told_back Goal = refl
told_back NoKernel = refl

turns_told : (turns : List Turn) → turns ≡ map told_turn (map turn_told turns)
turns_told [] = refl
turns_told (turn ∷ turns) =
    let one : turn ≡ told_turn (turn_told turn) = ap (λ (end : TurnEnd). record turn { end = end }) (sym (told_back turn.end)) in
    let rest = turns_told turns in
    λ i. one i ∷ rest i

pub same-told : (turns others : List Turn) → map turn_told turns ≡ map turn_told others → turns ≡ others
same-told turns others same = turns_told turns ∙ ap (map told_turn) same ∙ sym (turns_told others)

-- ---- replies

module _ (problem : Problem) (old : SessionState) (name : ℕ) (bound : List (ℕ × ℕ)) where
  ran-one : (told others : List Turn) (new later : SessionState) → IsRunOf problem name bound old told new
      → IsRunOf problem name bound old others later → (told ≡ others) × (new ≡ later)
  ran-one told others new later p q =
      let table : p.table ≡ q.table = one_some (any_table old name) p.table q.table p.named q.named in
      let runs = runs_are_one leaves_edit problem q.table bound old.recorded old.atoms (map turn_told told)
      (map turn_told others) p.after q.after
      (subst (λ (x : Table). RunsTable leaves_edit problem x bound old.recorded old.atoms
      (map turn_told told) p.after) table p.runs) q.runs in (
        same-told told others runs.0,
        p.changed ∙ ap (λ (atoms : List Atom). record old { atoms = atoms; recorded = [] }) runs.1 ∙ sym q.changed,
      )

  no-parameter-one : (param other : ℕ) (new later : SessionState) → HasNoParameter name bound old param new
      → HasNoParameter name bound old other later → (param ≡ other) × (new ≡ later)
  no-parameter-one param other new later p q =
      let table : p.table ≡ q.table = one_some (any_table old name) p.table q.table p.named q.named in (
        one_some (first_unknown q.table bound) param other (ap (λ (x : Table). first_unknown x bound) (sym table)
            ∙ p.unknown) q.unknown,
        p.same ∙ sym q.same,
      )

  no-parameter-or-ran : (param : ℕ) (told : List Turn) (new later : SessionState) → HasNoParameter name bound old param new
      → ¬ IsRunOf problem name bound old told later
  no-parameter-or-ran param told new later p q =
      let table : p.table ≡ q.table = one_some (any_table old name) p.table q.table p.named q.named in
      none_or_some (first_unknown q.table bound) param q.known (ap (λ (x : Table). first_unknown x bound) (sym table) ∙ p.unknown)

  pub run-one : (one other : Reply) (new later : SessionState) → TellsRun problem old name bound one new
      → TellsRun problem old name bound other later → SameReply one other × (new ≡ later)
  run-one (reply.Unknown n) (reply.Unknown m) new later p q = (inl (ap reply.Unknown (p.0 ∙ sym q.0)), p.2 ∙ sym q.2)
  run-one (reply.Unknown n) (reply.UnknownParam param) new later p q = absurd (none_or_some (any_table old name) q.table p.1 q.named)
  run-one (reply.Unknown n) (reply.Ran m turns) new later p q = absurd (none_or_some (any_table old name) q.1.table p.1 q.1.named)
  run-one (reply.UnknownParam param) (reply.Unknown m) new later p q = absurd (none_or_some (any_table old name) p.table q.1 p.named)
  run-one (reply.UnknownParam param) (reply.UnknownParam other) new later p q =
      let same = no-parameter-one param other new later p q in
      (inl (ap reply.UnknownParam same.0), same.1)
  run-one (reply.UnknownParam param) (reply.Ran m turns) new later p q = absurd (no-parameter-or-ran param turns new later p q.1)
  run-one (reply.Ran n turns) (reply.Unknown m) new later p q = absurd (none_or_some (any_table old name) p.1.table q.1 p.1.named)
  run-one (reply.Ran n turns) (reply.UnknownParam param) new later p q = absurd (no-parameter-or-ran param turns later new q p.1)
  run-one (reply.Ran n turns) (reply.Ran m others) new later p q =
      let same = ran-one turns others new later p.1 q.1 in
      let names : n ≡ m = p.0 ∙ sym q.0 in
      (inl (λ i. reply.Ran (names i) (same.0 i)), same.1)
  run-one (reply.Unknown n) other new later p q = absurd q
  run-one (reply.UnknownParam param) other new later p q = absurd q
  run-one (reply.Ran n turns) other new later p q = absurd q
  run-one one other new later p q = absurd p
