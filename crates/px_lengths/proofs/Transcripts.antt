-- No text of lawful replies to the first commands of a script is longer than its longest transcript.
use Rattle.std.specs.Prelude.{All, Option, count_by, sum_by}
use Rattle.std.proofs.Common.{◌≡◌, ℕ, ◌+◌, ◌*◌, ◌≤◌, suc, List, [], ◌∷◌, ◌++◌, codes, length, sym, ap, subst, arith, length-append}
use Rattle.std.specs.Fmt.{decimal}
use Rattle.std.proofs.Math.Nat.{le_trans, mul-le-mul_right}
use Rattle.std.proofs.lemmas.List.Elements.{All-head, All-nil, All-tail, All-weaker}
use Rattle.px_names.specs.declared.kind.Kind.TheVariants as kind
use Rattle.px_terms.specs.declared.problem.Problem.{Problem}
use Rattle.px_terms.specs.Validity.{IsValid}
use Rattle.px_proof.specs.PlaceLaws.{All-prefix}
use Rattle.px_printer.specs.Notices.{yes_text}
use Rattle.px_printer.specs.Replies.{reply_text}
use Rattle.px_printer.specs.Texts.{text_line}
use Rattle.px_printer.specs.declared.reply.Reply.{Reply}
use Rattle.px_world.specs.declared.thing.Thing.{Thing}
use Rattle.px_script.specs.declared.command.Command.{Command}
use Rattle.px_script.specs.declared.command.Command.TheVariants as command
use Rattle.px_script.specs.Content.{ScriptValue}
use Rattle.px_script.specs.Ranges.{IsCommandOf, IsInRange}
use Rattle.px_session.specs.Demo.{Summary, is_plan, reaches_goal, step_count}
use Rattle.px_session.specs.Lawful.{Lawful, recorded_for}
use Rattle.px_session.specs.OwnStates.{HasOwnEdits, IsOwnEdit, IsOwnGoal, IsOwnState, edits_given}
use Rattle.px_session.specs.Sessions.{IsSession, SessionState, opening}
use Rattle.px_session.specs.Transcripts.{AreAnswers, texts}
use Rattle.px_session.specs.Writable.{AsksWritable, HasWritableTables}
use Rattle.px_session.proofs.Executing.{own-goals, own-pursuit, ready-at}
use Rattle.px_session.proofs.Kept.{sessions_are_kept}
use Rattle.px_session.proofs.OwnKept.{own-kept}
use Rattle.px_session.proofs.Replied.{replied}
use Rattle.px_session.proofs.Writables.{all-ask, certifiable-problem, writable-kept, writable-opened}
use Rattle.px_lengths.specs.Bounded.{TextsAreBounded}
use Rattle.px_lengths.specs.Longest.{longest_reply, longest_summary, longest_transcript, longest_verdict}
use Rattle.px_lengths.proofs.Parts.{AreShort, number-short}
use Rattle.px_lengths.proofs.Replies.{AsksFew, reply-bounded}
use Rattle.px_lengths.proofs.Sizes.{line-short, one-more}

-- ---- what the commands of a script are

asks-few : (version : ℕ) (problem : Problem) (building : Option (List Thing)) (results : ℕ) (c : Command)
    → IsCommandOf version problem building results c → AsksFew c
asks-few version problem building results (command.Duo first second numbers) of = of.2.few
asks-few version problem building results (command.Tree name nodes goal variable_count) of = of.1.1
asks-few version problem building results _ of = tt

module _ (script : ScriptValue) (range : IsInRange script) where
  short-names : AreShort script.names
  short-names kind.Object = range.names.objects.short
  short-names kind.Predicate = range.names.predicates.short
  short-names kind.Operator = range.names.operators.short
  short-names kind.Result = range.names.results.short

  all-few : All AsksFew script.commands
  all-few =
      All-weaker (IsCommandOf script.version script.problem script.building (length script.names.results)) AsksFew
      (asks-few script.version script.problem script.building (length script.names.results)) script.commands range.commands.each

  -- the edits of the commands are of the problem
  own-edits : All (HasOwnEdits script.problem) script.commands
  own-edits k c below = (ready-at script range k c below).0.1.own

-- ---- how many disturbances are recorded

-- no more than one is recorded beside those before
abbrev HasOneMore : SessionState → SessionState → Type 0
HasOneMore old new = length new.recorded ≤ length old.recorded + 1

one-recorded : (problem : Problem) (old : SessionState) (given : Command) (answer : Reply) (new : SessionState)
    → Lawful problem old given answer new → HasOneMore old new
one-recorded problem old given answer new is =
    replied problem old given (HasOneMore old) (omega arith)
    (λ name goal variable_count count steps new by is. omega arith)
    (λ name source params steps new by is. subst (HasOneMore old) (sym is.learned) (omega arith))
    (λ name source prefix wanted params steps new by is. subst (HasOneMore old) (sym is.learned) (omega arith))
    (λ turn between. omega (arith, length-append old.recorded (recorded_for turn between (edits_given given) ∷ [])))
    (λ name bound told new by is. subst (HasOneMore old) (sym is.changed) (omega arith))
    (λ first second numbers lines new by is. subst (HasOneMore old) (sym is.changed) (omega arith))
    (λ name goal variable_count searches told end new by is. subst (HasOneMore old) (sym is.changed) (omega arith))
    answer new is

-- ---- all commands

-- what a session keeps, and how many disturbances may still be recorded
record IsKept (problem : Problem) (state : SessionState) (left disturbances : ℕ) : Type 0 where
  pub session : IsSession problem state
  pub written : HasWritableTables problem state
  pub own : IsOwnState problem state
  pub recorded : length state.recorded + left ≤ disturbances

-- what the commands ask for
record AskFew (problem : Problem) (commands : List Command) : Type 0 where
  pub goals : All (IsOwnGoal problem) commands
  pub tables : All (AsksWritable problem) commands
  pub edits : All (HasOwnEdits problem) commands
  pub few : All AsksFew commands

ask-first : (problem : Problem) (given : Command) (commands : List Command) → AskFew problem (given ∷ commands)
    → IsOwnGoal problem given × AsksWritable problem given × HasOwnEdits problem given × AsksFew given
ask-first problem given commands ask = (
  All-head (IsOwnGoal problem) given commands ask.goals,
  All-head (AsksWritable problem) given commands ask.tables,
  All-head (HasOwnEdits problem) given commands ask.edits,
  All-head AsksFew given commands ask.few,
)

ask-rest : (problem : Problem) (given : Command) (commands : List Command) → AskFew problem (given ∷ commands) → AskFew problem commands
ask-rest problem given commands ask = record {
  goals = All-tail (IsOwnGoal problem) given commands ask.goals;
  tables = All-tail (AsksWritable problem) given commands ask.tables;
  edits = All-tail (HasOwnEdits problem) given commands ask.edits;
  few = All-tail AsksFew given commands ask.few;
}

ask-before : (problem : Problem) (commands before after : List Command) → commands ≡ before ++ after → AskFew problem commands
    → AskFew problem before
ask-before problem commands before after whole ask =
    let all = subst (AskFew problem) whole ask in
    record {
      goals = All-prefix (IsOwnGoal problem) before after all.goals;
      tables = All-prefix (AsksWritable problem) before after all.tables;
      edits = All-prefix (HasOwnEdits problem) before after all.edits;
      few = All-prefix AsksFew before after all.few;
    }

module _ (script : ScriptValue) (range : IsInRange script) (disturbances : ℕ) where
  abbrev problem : Problem
  problem = script.problem

  abbrev valid : IsValid problem
  valid = range.problem.valid

  kept : (given : Command) (left : ℕ) (old : SessionState) (answer : Reply) (new : SessionState)
      → IsKept problem old (suc left) disturbances
      → IsOwnGoal problem given → AsksWritable problem given → HasOwnEdits problem given → Lawful problem old given answer new
      → IsKept problem new left disturbances
  kept given left old answer new is goal table edits lawful = record {
    session = sessions_are_kept.kept problem old given answer new valid is.session goal lawful;
    written = writable-kept problem old given answer new valid is.session is.written table lawful;
    own = own-kept problem old given answer new valid is.session is.own edits (own-pursuit problem valid given goal) lawful;
    recorded = omega (arith, one-recorded problem old given answer new lawful, is.recorded);
  }

  all-bounded : (commands : List Command) (answers : List Reply) (old last : SessionState)
      → IsKept problem old (length commands) disturbances → AskFew problem commands → AreAnswers problem old commands answers last
      → length (texts script.names answers) ≤ length commands * longest_reply problem disturbances
  all-bounded [] [] old last is ask lawful = omega arith
  all-bounded [] (answer ∷ answers) old last is ask lawful = absurd lawful
  all-bounded (given ∷ commands) [] old last is ask lawful = absurd lawful
  all-bounded (given ∷ commands) (answer ∷ answers) old last is ask lawful =
      let first = ask-first problem given commands ask in
      let here = reply-bounded problem valid (certifiable-problem script range) script.names (short-names script range) old is.session
      is.written is.own.atoms disturbances (omega (arith, is.recorded)) given first.0 first.3 answer lawful.0 lawful.1 in
      let next = kept given (length commands) old answer lawful.0 is first.0 first.1 first.2 lawful.1 in
      let rest = all-bounded commands answers lawful.0 last next (ask-rest problem given commands ask) lawful.2 in
      let sum = one-more (length commands) (longest_reply problem disturbances) (length (reply_text script.names answer))
      (length (texts script.names answers)) here rest in
      omega (arith, length-append (reply_text script.names answer) (texts script.names answers), sum)

  -- at first nothing is recorded
  at-first : (left : ℕ) → left ≤ disturbances → IsKept problem (opening script.facts script.saved) left disturbances
  at-first left few = record {
    session = sessions_are_kept.scripts script range;
    written = writable-opened script range;
    own = record { atoms = range.facts.atoms; edits = All-nil (λ one. All (IsOwnEdit problem) one.edits) };
    recorded = omega (arith, few);
  }

begun : (script : ScriptValue) (before after : List Command) (answers : List Reply) (last : SessionState) → IsInRange script
    → script.commands ≡ before ++ after → AreAnswers script.problem (opening script.facts script.saved) before answers last
    → length (texts script.names answers) ≤ longest_transcript script
unfolding longest_transcript
begun script before after answers last range whole lawful =
    let disturbances = length script.commands in
    let count : length before ≤ disturbances = omega (arith, ap length whole, length-append before after) in
    let ask = ask-before script.problem script.commands before after whole
    (record {
      goals = own-goals script range;
      tables = all-ask script range;
      edits = own-edits script range;
      few = all-few script range;
    }) in
    let here = all-bounded script range disturbances before answers (opening script.facts script.saved) last
    (at-first script range disturbances (length before) count) ask lawful in
    le_trans here (mul-le-mul_right (longest_reply script.problem disturbances) count)

-- ---- single lines

summaries : (rooms seed : ℕ) (text : List ℕ) → Summary rooms seed text → length text ≤ longest_summary
summaries rooms seed text is =
    let plans = count_by is_plan is.answers in
    let steps = sum_by step_count is.answers in
    let goals = count_by reaches_goal is.answers in
    let commands = length is.script.commands in
    let words = codes "demo" ∷ decimal rooms ∷ decimal seed ∷ decimal commands ∷ codes "commands" ∷ decimal plans ∷ codes "plans"
    ∷ decimal steps ∷ codes "steps" ∷ decimal goals ∷ codes "goals" ∷ [] in
    let line : length (text_line words) ≤ longest_summary =
    omega (
      arith,
      line-short words,
      number-short rooms,
      number-short seed,
      number-short commands,
      number-short plans,
      number-short steps,
      number-short goals,
    ) in
    subst (λ (t : List ℕ). length t ≤ longest_summary) (sym is.text_is) line

right : (params steps : ℕ) → length (yes_text params steps) ≤ longest_verdict
right params steps =
    let words = codes "yes" ∷ decimal params ∷ codes "parameters" ∷ decimal steps ∷ codes "steps" ∷ [] in
    omega (arith, line-short words, number-short params, number-short steps)

pub texts_are_bounded : TextsAreBounded
texts_are_bounded = record { begun = begun; summaries = summaries; right = right; wrong = omega arith }
