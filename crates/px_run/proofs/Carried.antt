-- Each plan of a transcript carries, and so does each table that is kept on the way.
use Rattle.std.proofs.Common.{◌≡◌, ℕ, zero, suc, ◌≤◌, List, [], ◌∷◌, length, take, get_or, refl, sym, subst, arith}
use Rattle.std.specs.Prelude.{All}
use Rattle.std.proofs.lemmas.List.Elements.{All-head, All-tail}
use Rattle.px_terms.specs.declared.problem.Problem.{Problem}
use Rattle.px_terms.specs.Validity.{IsValid}
use Rattle.px_table.specs.Kernels.{KernelsCarry}
use Rattle.px_printer.specs.declared.reply.Reply.{Reply}
use Rattle.px_printer.specs.declared.reply.Reply.TheVariants as reply
use Rattle.px_script.specs.declared.command.Command.{Command}
use Rattle.px_script.specs.declared.command.Command.TheVariants as command
use Rattle.px_script.specs.Stages.{stage_now}
use Rattle.px_script.proofs.Kept.{in-range}
use Rattle.px_session.specs.CertifiedReplies.{IsCertifiableProblem, ReplyIsAccepted}
use Rattle.px_session.specs.Lawful.{Lawful}
use Rattle.px_session.specs.Opened.{tables_of}
use Rattle.px_session.specs.OwnStates.{IsOwnGoal}
use Rattle.px_session.specs.Sessions.{IsSession, SessionState, opening}
use Rattle.px_session.specs.Transcripts.{AreAnswers, Transcript}
use Rattle.px_session.specs.Writable.{AsksWritable, HasWritableTables}
use Rattle.px_session.proofs.Certifying.{certificates_are_accepted}
use Rattle.px_session.proofs.Executing.{own-goals}
use Rattle.px_session.proofs.Kept.{sessions_are_kept}
use Rattle.px_session.proofs.KeptRooms.{rooms_are_kept}
use Rattle.px_session.proofs.ToldPursuits.{told_pursuits}
use Rattle.px_session.proofs.Undisturbed.{undisturbed_runs}
use Rattle.px_session.proofs.Writables.{all-ask, certifiable-problem, writable-kept, writable-opened}
use Rattle.px_run.specs.Laws.{CarriesAfter, CarriesWhereDone, PlanCarries, PursuitReaches, RunReaches, TranscriptsCarry}
use Rattle.px_run.specs.Outcomes.{SourceEnds}
use Rattle.px_run.specs.declared.status.Status.{Status}
use Rattle.px_run.specs.declared.status.Status.TheVariants as status

plan-carries : (problem : Problem) (old : SessionState) (c : Command) (answer : Reply) (new : SessionState) → IsValid problem
    → IsSession problem old → IsOwnGoal problem c → Lawful problem old c answer new → PlanCarries problem old c answer
plan-carries problem old (command.Plan name goal variable_count) (reply.Plan given count steps) new valid session own is =
    sessions_are_kept.plans problem old name goal variable_count given count steps new valid session own is
plan-carries problem old (command.Plan name goal variable_count) answer new valid session own is = tt
plan-carries problem old c answer new valid session own is = tt

run-reaches : (problem : Problem) (old : SessionState) (c : Command) (answer : Reply) (new : SessionState) → IsValid problem
    → IsSession problem old → Lawful problem old c answer new → RunReaches old c answer
run-reaches problem old (command.Run name bound) (reply.Ran given told) new valid session is =
    λ table named. undisturbed_runs.reached problem old name given bound table told new valid session named is
run-reaches problem old (command.Run name bound) answer new valid session is = tt
run-reaches problem old c answer new valid session is = tt

record Carries (problem : Problem) (old : SessionState) (commands : List Command) (answers : List Reply) (done : ℕ) : Type 0 where
  state : SessionState
  left : AreAnswers problem old (take done commands) (take done answers) state
  plan : PlanCarries problem state (get_or commands done command.Facts) (get_or answers done (reply.FactsAre []))
  run : RunReaches state (get_or commands done command.Facts) (get_or answers done (reply.FactsAre []))
  pursuit : PursuitReaches problem state (get_or commands done command.Facts) (get_or answers done (reply.FactsAre []))
  kernels : All (KernelsCarry problem) (tables_of state)
  certified : ReplyIsAccepted problem state (get_or answers done (reply.FactsAre []))

module _ (problem : Problem) (valid : IsValid problem) (limits : IsCertifiableProblem problem) where
  carried : (old : SessionState) → IsSession problem old → HasWritableTables problem old → (commands : List Command)
      → All (IsOwnGoal problem) commands → All (AsksWritable problem) commands → (answers : List Reply) (last : SessionState)
      → AreAnswers problem old commands answers last → (done : ℕ) → done ≤ length commands → Carries problem old commands answers done
  carried old session writable [] own ask [] last are done below = let none : done ≡ 0 = omega (arith, below) in
      subst (Carries problem old [] []) (sym none)
      (record {
        state = old;
        left = refl;
        plan = tt;
        run = tt;
        pursuit = λ new is. tt;
        kernels = sessions_are_kept.kernels problem old session;
        certified = tt;
      })
  carried old session writable [] own ask (a ∷ answers) last are done below = absurd are
  carried old session writable (c ∷ commands) own ask [] last are done below = absurd are
  carried old session writable (c ∷ commands) own ask (a ∷ answers) last are zero below =
      record {
        state = old;
        left = refl;
        plan = plan-carries problem old c a are.0 valid session (All-head (IsOwnGoal problem) c commands own) are.1;
        run = run-reaches problem old c a are.0 valid session are.1;
        pursuit = λ new is. told_pursuits.worth problem old c a new valid session (All-head (IsOwnGoal problem) c commands own) is;
        kernels = sessions_are_kept.kernels problem old session;
        certified = certificates_are_accepted.replies problem old c a are.0 valid limits session writable are.1;
      }
  carried old session writable (c ∷ commands) own ask (a ∷ answers) last are (suc done) below =
      let next = sessions_are_kept.kept problem old c a are.0 valid session (All-head (IsOwnGoal problem) c commands own) are.1 in
      let later = writable-kept problem old c a are.0 valid session writable (All-head (AsksWritable problem) c commands ask) are.1 in
      let rest = carried are.0 next later commands (All-tail (IsOwnGoal problem) c commands own) (All-tail (AsksWritable problem) c commands ask)
      answers last are.2 done (omega (arith, below)) in
      record {
        state = rest.state;
        left = (are.0, are.1, rest.left);
        plan = rest.plan;
        run = rest.run;
        pursuit = rest.pursuit;
        kernels = rest.kernels;
        certified = rest.certified;
      }

carry : (bytes text : List ℕ) → (transcript : Transcript bytes text) → (done : ℕ) → done ≤ length transcript.script.commands
    → CarriesAfter transcript.script transcript.answers done
carry bytes text transcript done below =
    let script = transcript.script in
    let range = in-range stage_now bytes script transcript.spelt in
    let session = sessions_are_kept.scripts script range in
    let is = carried script.problem range.problem.valid (certifiable-problem script range) (opening script.facts script.saved) session
    (writable-opened script range) script.commands (own-goals script range) (all-ask script range) transcript.answers
    transcript.lawful.last transcript.lawful.lawful done below in
    record {
      state = is.state;
      left = is.left;
      plan = is.plan;
      run = is.run;
      pursuit = is.pursuit;
      kernels = is.kernels;
      certified = is.certified;
      rooms = λ things building.
          let kept = rooms_are_kept.answers script things done (take done transcript.answers) is.state range building is.left in
          record { building = kept.0; left = kept.1; inside = kept.2 };
    }

pub transcripts_carry : TranscriptsCarry
transcripts_carry = record { carry = carry }

pub is_carried : (source : SourceEnds) (result : Status) → CarriesWhereDone source result
is_carried source status.Done = λ bytes text came transcript done below. carry bytes text transcript done below
is_carried source status.Usage = tt
is_carried source (status.Refused refused) = tt
is_carried source status.ReadFault = tt
is_carried source status.WriteFault = tt
is_carried source status.NoMemory = tt
is_carried source status.TooLong = tt
