-- The bytes of certificates are accepted, since the tables of a session can be written.
use Rattle.std.specs.Prelude.{◌≡◌, ℕ, Some, List, [], ◌∷◌, take, slice_index_or, All}
use Rattle.std.proofs.Common.{sym, subst}
use Rattle.std.proofs.lemmas.List.Elements.{All-head, All-tail, All-take}
use Rattle.px_terms.specs.declared.problem.Problem.{Problem}
use Rattle.px_terms.specs.Validity.{IsValid}
use Rattle.px_table.specs.KernelLaws.{kernels_carry}
use Rattle.px_cert.specs.ClaimRanges.{certified}
use Rattle.px_cert.proofs.Certifying.{accepted}
use Rattle.px_printer.specs.declared.reply.Reply.{Reply}
use Rattle.px_printer.specs.declared.reply.Reply.TheVariants as reply
use Rattle.px_script.specs.declared.command.Command.{Command}
use Rattle.px_script.specs.declared.command.Command.TheVariants as command
use Rattle.px_script.specs.Content.{ScriptValue}
use Rattle.px_script.specs.Ranges.{IsInRange}
use Rattle.px_session.specs.Asked.{TellsCertifying}
use Rattle.px_session.specs.CertifiedReplies.{CertificatesAreAccepted, IsAccepted, IsCertifiableProblem, ReplyIsAccepted, TablesStayWritable}
use Rattle.px_session.specs.Lawful.{Lawful}
use Rattle.px_session.specs.OwnStates.{IsOwnGoal}
use Rattle.px_session.specs.Sessions.{IsSession, SessionState, any_table, opening}
use Rattle.px_session.specs.Transcripts.{AreAnswers}
use Rattle.px_session.specs.Writable.{AsksWritable, HasWritableTables}
use Rattle.px_session.proofs.Executing.{own-goals}
use Rattle.px_session.proofs.Kept.{sessions_are_kept}
use Rattle.px_session.proofs.Writables.{all-ask, certifiable-problem, writable-kept, writable-opened}
use Rattle.px_session.proofs.WrittenTables.{certifiable, in-block, no-cause}

-- ---- replies

module _ (problem : Problem) (old : SessionState) (new : SessionState) (valid : IsValid problem) (limits : IsCertifiableProblem problem)
    (session : IsSession problem old) (written : HasWritableTables problem old) where
  of-certify : (name given : ℕ) (bytes : List ℕ) → TellsCertifying problem old name (reply.Certified given bytes) new
      → IsAccepted problem old given bytes
  of-certify name given bytes is =
      let none = no-cause is.1.table is.1.written.allowed in
      let both = accepted problem is.1.table bytes is.1.bytes_are
      (certifiable problem old session written name is.1.table is.1.written.named none valid limits) in
      record {
        table = is.1.table;
        named = subst (λ (n : ℕ). any_table old n ≡ Some is.1.table) (sym is.0) is.1.written.named;
        certificate = both.0;
        right = both.1;
        carries = kernels_carry (certified problem) is.1.table both.1;
      }

  of-command : (given : Command) (name : ℕ) (bytes : List ℕ) → Lawful problem old given (reply.Certified name bytes) new
      → IsAccepted problem old name bytes
  of-command (command.Plan n goal variable_count) name bytes is = absurd is
  of-command (command.Learn n source) name bytes is = absurd is
  of-command (command.Edit n source prefix wanted) name bytes is = absurd is
  of-command (command.Show n) name bytes is = absurd is
  of-command (command.Save n) name bytes is = absurd is
  of-command (command.Certify n) name bytes is = of-certify n name bytes is
  of-command (command.DisturbAtoms turn between edits) name bytes is = absurd is
  of-command (command.DisturbRooms turn between edits) name bytes is = absurd is
  of-command (command.Run n bound) name bytes is = absurd is
  of-command (command.Duo first second numbers) name bytes is = absurd is
  of-command (command.Pursue n goal variable_count) name bytes is = absurd is
  of-command (command.Tree n nodes goal variable_count) name bytes is = absurd is
  of-command command.Facts name bytes is = absurd is

  pub reply-accepted : (given : Command) (answer : Reply) → Lawful problem old given answer new → ReplyIsAccepted problem old answer
  reply-accepted given (reply.Certified name bytes) is = of-command given name bytes is
  reply-accepted given _ is = tt

-- ---- all commands of a script

abbrev IsKept : Problem → SessionState → Type 0
IsKept problem state = IsSession problem state × HasWritableTables problem state

module _ (problem : Problem) (valid : IsValid problem) where
  through : (commands : List Command) (answers : List Reply) (old last : SessionState) → IsKept problem old
      → All (IsOwnGoal problem) commands → All (AsksWritable problem) commands → AreAnswers problem old commands answers last
      → IsKept problem last
  through [] [] old last kept own asks is = subst (IsKept problem) (sym is) kept
  through [] (answer ∷ answers) old last kept own asks is = absurd is
  through (first ∷ commands) [] old last kept own asks is = absurd is
  through (first ∷ commands) (answer ∷ answers) old last kept own asks is =
      let session = sessions_are_kept.kept problem old first answer is.0 valid kept.0 (All-head (IsOwnGoal problem) first commands own) is.1 in
      let written = writable-kept problem old first answer is.0 valid kept.0 kept.1 (All-head (AsksWritable problem) first commands asks) is.1 in
      through commands answers is.0 last (session, written) (All-tail (IsOwnGoal problem) first commands own)
      (All-tail (AsksWritable problem) first commands asks) is.2

script-accepted : (script : ScriptValue) (done : ℕ) (answers : List Reply) (state : SessionState) (answer : Reply) (new : SessionState)
    → IsInRange script → AreAnswers script.problem (opening script.facts script.saved) (take done script.commands) answers state
    → Lawful script.problem state (slice_index_or script.commands done command.Facts) answer new
    → ReplyIsAccepted script.problem state answer
script-accepted script done answers state answer new range are is =
    let kept = through script.problem range.problem.valid (take done script.commands) answers (opening script.facts script.saved) state
    (sessions_are_kept.scripts script range, writable-opened script range)
    (All-take (IsOwnGoal script.problem) done script.commands (own-goals script range))
    (All-take (AsksWritable script.problem) done script.commands (all-ask script range)) are in
    reply-accepted script.problem state new range.problem.valid (certifiable-problem script range) kept.0 kept.1
    (slice_index_or script.commands done command.Facts) answer is

pub certificates_are_accepted : CertificatesAreAccepted
certificates_are_accepted = record {
  replies = λ problem old given answer new valid limits session written is.
      reply-accepted problem old new valid limits session written given answer is;
  scripts = λ script done answers state answer new range below are is. script-accepted script done answers state answer new range are is;
}

pub tables_stay_writable : TablesStayWritable
tables_stay_writable = record {
  opened = λ script range. (writable-opened script range, all-ask script range);
  kept = writable-kept;
  within = λ problem state name table session written named allowed.
      in-block problem state session written name table named (no-cause table allowed);
}
