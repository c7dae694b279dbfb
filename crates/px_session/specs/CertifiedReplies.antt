-- That the bytes of each certificate that a reply prints are a certificate, and what it is worth; and that the tables of a session can be
-- written.
use Rattle.std.specs.Prelude.{◌≡◌, ◌≤◌, ◌<◌, ℕ, Some, List, length, take, slice_index_or, All}
use Rattle.px_terms.specs.Limits.{most_arguments}
use Rattle.px_terms.specs.declared.problem.Problem.{Problem}
use Rattle.px_terms.specs.Validity.{IsValid}
use Rattle.px_table.specs.declared.table.Table.{Table}
use Rattle.px_table.specs.Kernels.{KernelsCarry}
use Rattle.px_table.specs.Tables.{IsTable}
use Rattle.px_cert.specs.Certificates.{IsCertificate, certified_claim}
use Rattle.px_cert.specs.ClaimRanges.{AreAtMost, IsShortSchema, certified}
use Rattle.px_cert.specs.Limits.{greatest_sort, most_objects, most_operators, most_predicates}
use Rattle.px_printer.specs.declared.reply.Reply.{Reply}
use Rattle.px_printer.specs.declared.reply.Reply.TheVariants as reply
use Rattle.px_script.specs.declared.command.Command.{Command}
use Rattle.px_script.specs.declared.command.Command.TheVariants.{Facts}
use Rattle.px_script.specs.Content.{ScriptValue}
use Rattle.px_script.specs.Ranges.{IsInRange, IsSavedTable}
use Rattle.px_session.specs.Asked.{MayBeWritten}
use Rattle.px_session.specs.Lawful.{Lawful}
use Rattle.px_session.specs.Sessions.{IsSession, SessionState, any_table, opening}
use Rattle.px_session.specs.Transcripts.{AreAnswers}
use Rattle.px_session.specs.Writable.{AsksWritable, HasWritableTables}

-- The bytes are a certificate of the problem, but for its limits, with the name's table. That claim is right: this is a table for that
-- problem, so each proper instance of each of its kernels carries the steps that are left to the goal.
pub record IsAccepted (problem : Problem) (state : SessionState) (name : ℕ) (bytes : List ℕ) : Type 0 where
  pub table : Table
  pub named : any_table state name ≡ Some table
  pub certificate : IsCertificate bytes (certified_claim problem table)
  pub right : IsTable (certified problem) table
  pub carries : KernelsCarry (certified problem) table

-- the bytes of a reply to `certify` are so
abbrev pub ReplyIsAccepted : Problem → SessionState → Reply → Type 0
ReplyIsAccepted problem state (reply.Certified name bytes) = IsAccepted problem state name bytes
ReplyIsAccepted problem state _ = Unit {0}

-- the problem is within the limits of certificates
pub record IsCertifiableProblem (problem : Problem) : Type 0 where
  pub objects : problem.objects ≤ most_objects
  pub sorts : problem.sorts ≤ greatest_sort
  pub predicates : AreAtMost most_predicates (λ arity. arity ≤ most_arguments) problem.arities
  pub operators : AreAtMost most_operators IsShortSchema problem.schemas

-- Where a session's tables can be written and its problem is within the limits of certificates, the bytes of a lawful reply to `certify`
-- are accepted. So are those of each script, after however many of its commands.
pub record CertificatesAreAccepted : Type 0 where
  pub replies : (problem : Problem) (old : SessionState) (given : Command) (answer : Reply) (new : SessionState) → IsValid problem
      → IsCertifiableProblem problem → IsSession problem old → HasWritableTables problem old → Lawful problem old given answer new
      → ReplyIsAccepted problem old answer
  pub scripts : (script : ScriptValue) (done : ℕ) (answers : List Reply) (state : SessionState) (answer : Reply) (new : SessionState)
      → IsInRange script → done < length script.commands
      → AreAnswers script.problem (opening script.facts script.saved) (take done script.commands) answers state
      → Lawful script.problem state (slice_index_or script.commands done Facts) answer new → ReplyIsAccepted script.problem state answer

-- The tables that a script begins with can be written, and those that its commands ask for are so after each lawful reply. Of such tables
-- each that may be written is within the limits of a table's block.
pub record TablesStayWritable : Type 0 where
  pub opened : (script : ScriptValue) → IsInRange script
      → HasWritableTables script.problem (opening script.facts script.saved) × All (AsksWritable script.problem) script.commands
  pub kept : (problem : Problem) (old : SessionState) (given : Command) (answer : Reply) (new : SessionState) → IsValid problem
      → IsSession problem old → HasWritableTables problem old → AsksWritable problem given → Lawful problem old given answer new
      → HasWritableTables problem new
  pub within : (problem : Problem) (state : SessionState) (name : ℕ) (table : Table) → IsSession problem state
      → HasWritableTables problem state → any_table state name ≡ Some table → MayBeWritten table → IsSavedTable 2 problem table
