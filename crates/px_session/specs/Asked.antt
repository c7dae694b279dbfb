-- Which replies are lawful where it is asked for one table: to show, to save or to certify it.
use Rattle.std.specs.Prelude.{◌≡◌, ◌<◌, ℕ, Option, Some, None, List}
use Rattle.px_terms.specs.declared.problem.Problem.{Problem}
use Rattle.px_table.specs.declared.table.Table.{Table}
use Rattle.px_cert.specs.Certificates.{certificate_text}
use Rattle.px_general.specs.Limits.{IsTooDeep, IsTooLong}
use Rattle.px_printer.specs.declared.reply.Reply.{Reply}
use Rattle.px_printer.specs.declared.reply.Reply.TheVariants as reply
use Rattle.px_printer.specs.declared.reply.SaveWhy.{SaveWhy}
use Rattle.px_printer.specs.declared.reply.SaveWhy.TheVariants as why
use Rattle.px_script.specs.declared.limits.TheConstants.{LAST_NUMBER as last_number}
use Rattle.px_session.specs.Sessions.{SessionState, any_table}

-- ---- the causes not to write a table

-- the table may be written neither as a block nor as a certificate, for the first of these causes
abbrev pub RefusesWriting : Table → SaveWhy → Type 0
RefusesWriting table why.TooLong = IsTooLong table
RefusesWriting table why.TooDeep = (¬ IsTooLong table) × IsTooDeep table
RefusesWriting table why.TooMany = (¬ IsTooLong table) × (¬ IsTooDeep table) × (last_number < table.params)

-- there is none of them
abbrev pub MayBeWritten : Table → Type 0
MayBeWritten table = (cause : SaveWhy) → ¬ RefusesWriting table cause

-- the first cause, or that there is none
abbrev pub IsFirstCause : Table → Option SaveWhy → Type 0
IsFirstCause table None = MayBeWritten table
IsFirstCause table (Some cause) = RefusesWriting table cause

-- the name's table may not be written, for this cause; nothing changes
pub record IsTableRefused (name : ℕ) (old : SessionState) (cause : SaveWhy) (new : SessionState) : Type 0 where
  pub table : Table
  pub named : any_table old name ≡ Some table
  pub refused : RefusesWriting table cause
  pub same : new ≡ old

-- this is the name's table, and it may be written; nothing changes
pub record IsTableWritten (name : ℕ) (old : SessionState) (table : Table) (new : SessionState) : Type 0 where
  pub named : any_table old name ≡ Some table
  pub allowed : MayBeWritten table
  pub same : new ≡ old

-- the bytes are the text of the certificate of such a table
pub record IsCertified (problem : Problem) (name : ℕ) (old : SessionState) (bytes : List ℕ) (new : SessionState) : Type 0 where
  pub table : Table
  pub written : IsTableWritten name old table new
  pub bytes_are : bytes ≡ certificate_text problem table

-- ---- each word

-- to `show NAME`: the name has no table, or this one
abbrev pub TellsShow : SessionState → ℕ → Reply → SessionState → Type 0
TellsShow old name (reply.Unknown given) new = (given ≡ name) × (any_table old name ≡ None) × (new ≡ old)
TellsShow old name (reply.Shown given table) new = (given ≡ name) × (any_table old name ≡ Some table) × (new ≡ old)
TellsShow old name answer new = ⊥

-- to `save NAME`: the name has no table, or its table may not be written, or this is the table whose block is printed
abbrev pub TellsSaving : SessionState → ℕ → Reply → SessionState → Type 0
TellsSaving old name (reply.Unknown given) new = (given ≡ name) × (any_table old name ≡ None) × (new ≡ old)
TellsSaving old name (reply.SaveRefused given cause) new = (given ≡ name) × IsTableRefused name old cause new
TellsSaving old name (reply.Saved given table) new = (given ≡ name) × IsTableWritten name old table new
TellsSaving old name answer new = ⊥

-- to `certify NAME`: the name has no table, or its table may not be written, or these are the bytes of its certificate
abbrev pub TellsCertifying : Problem → SessionState → ℕ → Reply → SessionState → Type 0
TellsCertifying problem old name (reply.Unknown given) new = (given ≡ name) × (any_table old name ≡ None) × (new ≡ old)
TellsCertifying problem old name (reply.CertifyRefused given cause) new = (given ≡ name) × IsTableRefused name old cause new
TellsCertifying problem old name (reply.Certified given bytes) new = (given ≡ name) × IsCertified problem name old bytes new
TellsCertifying problem old name answer new = ⊥
