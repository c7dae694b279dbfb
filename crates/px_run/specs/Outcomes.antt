-- The outcomes of the top call.
use Rattle.std.specs.Prelude.{◌≡◌, ◌⊎◌, ◌<◌, ◌≤◌, ◌+◌, ℕ, Bool, true, false, List, [], ◌++◌, length, Option, None, Some}
use Rattle.std.specs.Io.KnownBytes.{Appends}
use Rattle.px_cert.specs.Certificates.{Claim, IsCertificate, IsFirstBadLine}
use Rattle.px_io.specs.Causes.{Rose}
use Rattle.px_io.specs.Reading.{ReadToEnd}
use Rattle.px_io.specs.Writing.{HasNoRoomFor}
use Rattle.px_printer.specs.Notices.{no_text, usage_text, yes_text}
use Rattle.px_reader.specs.declared.refused.Refused.{Refused}
use Rattle.px_script.specs.Content.{ScriptValue}
use Rattle.px_script.specs.Stages.{stage_now}
use Rattle.px_script.specs.Scripts.{IsScript}
use Rattle.px_session.specs.Demo.{Summary}
use Rattle.px_session.specs.Opened.{SessionValue, opened_session}
use Rattle.px_session.specs.Transcripts.{Transcript}
use Rattle.px_table.specs.Tables.{IsTable}
use Rattle.px_words.specs.declared.orders.Order.{Order}
use Rattle.px_words.specs.declared.orders.Order.TheVariants.{Run, Demo, Check}
use Rattle.px_run.specs.Sums.{IsSumOf}
use Rattle.px_run.specs.Transcripts.{Begun, IsTextOf, IsBegunOf, IsNextOf, IsScriptRefused, IsWritten, refusal_text}
use Rattle.px_run.specs.declared.status.Status.{Status}
use Rattle.px_run.specs.declared.status.Status.TheVariants as status

-- what a source shows, before a call and after it
pub record SourceEnds : Type 0 where
  pub left : Option (List ℕ)
  pub left_after : Option (List ℕ)
  pub taken : ℕ
  pub taken_after : ℕ
  pub faults : ℕ
  pub faults_after : ℕ
  pub never_fails : Bool

-- what a source of these meanings shows, before a call and after it
abbrev pub source_ends : {S : Type 0} → (S → Option (List ℕ)) → (S → ℕ) → (S → ℕ) → (S → Bool) → S → S → SourceEnds
source_ends left taken faults never_fails before after = record {
  left = left before;
  left_after = left after;
  taken = taken before;
  taken_after = taken after;
  faults = faults before;
  faults_after = faults after;
  never_fails = never_fails before;
}

-- what a sink shows, before a call and after it
pub record SinkEnds : Type 0 where
  pub written : Option (List ℕ)
  pub written_after : Option (List ℕ)
  pub faults : ℕ
  pub faults_after : ℕ
  pub sure : Option ℕ

-- what a sink of these meanings shows, before a call and after it
abbrev pub sink_ends : {S : Type 0} → (S → Option (List ℕ)) → (S → ℕ) → (S → Option ℕ) → S → S → SinkEnds
sink_ends written faults sure before after = record {
  written = written before;
  written_after = written after;
  faults = faults before;
  faults_after = faults after;
  sure = sure before;
}

-- how many bytes a script or a certificate has at most
abbrev pub limit : ℕ
limit = 1048576

-- these bytes came, the source had no more, and no read failed
abbrev pub Came : SourceEnds → List ℕ → Type 0
Came ends bytes = ReadToEnd limit bytes ends.left ends.left_after ends.taken ends.taken_after ends.faults ends.faults_after

-- this text was written, and no write failed
pub record Wrote (ends : SinkEnds) (text : List ℕ) : Type 0 where
  pub appended : Appends ends.written ends.written_after text
  pub no_fault : ends.faults_after ≡ ends.faults

-- A text was written and a proper prefix of the next one, and then a write failed. The sink wasn't sure to take both.
pub record Broke (ends : SinkEnds) (done next : List ℕ) : Type 0 where
  pub prefix : List ℕ
  pub rest : List ℕ
  pub whole : next ≡ prefix ++ rest
  pub proper : 0 < length rest
  pub appended : Appends ends.written ends.written_after (done ++ prefix)
  pub rose : Rose ends.faults ends.faults_after
  pub no_room : HasNoRoomFor ends.sure ends.written (done ++ next)

-- the outcomes where the words aren't taken
abbrev pub UsageRight : SinkEnds → Status → Type 0
UsageRight sink status.Usage = Wrote sink usage_text
UsageRight sink status.WriteFault = Broke sink [] usage_text
UsageRight sink _ = ⊥

-- The outcomes of `run`.
abbrev pub RunRight : SourceEnds → SinkEnds → Status → Type 0
RunRight source sink status.Done = (bytes : List ℕ) × (text : List ℕ) × Came source bytes × Transcript bytes text × Wrote sink text
RunRight source sink (status.Refused refused) =
    (bytes : List ℕ) × Came source bytes × IsScriptRefused bytes refused × Wrote sink (refusal_text refused)
RunRight source sink status.ReadFault =
    Rose source.faults source.faults_after × (source.taken_after ≤ source.taken + limit) × (source.never_fails ≡ false) × Wrote sink []
RunRight source sink status.TooLong = (source.taken + limit < source.taken_after) × (source.faults_after ≡ source.faults) × Wrote sink []
RunRight source sink status.WriteFault =
    (bytes : List ℕ) × (done : List ℕ) × (next : List ℕ) × Came source bytes × IsWritten bytes done next × Broke sink done next
RunRight source sink status.NoMemory = (source.faults_after ≡ source.faults) × (source.taken_after ≤ source.taken + limit)
    × (Wrote sink [] ⊎ ((bytes : List ℕ) × (text : List ℕ) × Came source bytes × Begun bytes text × Wrote sink text))
RunRight source sink status.Usage = ⊥

-- The outcomes of `demo`, which reads nothing. Its line sums up the replies to its script, and no demo is refused.
abbrev pub DemoRight : (rooms seed : ℕ) → SinkEnds → Status → Type 0
DemoRight rooms seed sink status.Done = (text : List ℕ) × Summary rooms seed text × Wrote sink text
DemoRight rooms seed sink status.WriteFault = (text : List ℕ) × Summary rooms seed text × Broke sink [] text
DemoRight rooms seed sink status.NoMemory = Wrote sink []
DemoRight rooms seed sink _ = ⊥

-- The one line of a claim: `yes` with its numbers of parameters and steps where its table is one for its problem, and else `no`.
abbrev pub IsVerdict : Claim → List ℕ → Type 0
IsVerdict claim text = (IsTable claim.problem claim.table × (text ≡ yes_text claim.table.params (length claim.table.steps)))
    ⊎ ((¬ IsTable claim.problem claim.table) × (text ≡ no_text))

-- the first bad line of bytes that aren't a certificate, by the code 13
abbrev pub IsCertRefused : List ℕ → Refused → Type 0
IsCertRefused bytes refused = IsFirstBadLine bytes refused.line × (refused.code ≡ 13) × (refused.limit ≡ 0)

-- what `check` writes in one piece for the bytes: the line of the claim that they are the certificate of, or where they are refused
abbrev pub IsCheckText : List ℕ → List ℕ → Type 0
IsCheckText bytes text = ((claim : Claim) × IsCertificate bytes claim × IsVerdict claim text)
    ⊎ ((refused : Refused) × IsCertRefused bytes refused × (text ≡ refusal_text refused))

-- The outcomes of `check`.
abbrev pub CheckRight : SourceEnds → SinkEnds → Status → Type 0
CheckRight source sink status.Done = (bytes : List ℕ) × (claim : Claim) × (text : List ℕ)
    × Came source bytes × IsCertificate bytes claim × IsVerdict claim text × Wrote sink text
CheckRight source sink (status.Refused refused) =
    (bytes : List ℕ) × Came source bytes × IsCertRefused bytes refused × Wrote sink (refusal_text refused)
CheckRight source sink status.ReadFault =
    Rose source.faults source.faults_after × (source.taken_after ≤ source.taken + limit) × (source.never_fails ≡ false) × Wrote sink []
CheckRight source sink status.TooLong =
    (source.taken + limit < source.taken_after) × (source.faults_after ≡ source.faults) × Wrote sink []
CheckRight source sink status.WriteFault =
    (bytes : List ℕ) × (text : List ℕ) × Came source bytes × IsCheckText bytes text × Broke sink [] text
CheckRight source sink status.NoMemory =
    (source.faults_after ≡ source.faults) × (source.taken_after ≤ source.taken + limit) × Wrote sink []
CheckRight source sink status.Usage = ⊥

-- the table of the statuses, by what the words order
abbrev pub StatusRight : Option Order → SourceEnds → SinkEnds → Status → Type 0
StatusRight None source sink result = UsageRight sink result
StatusRight (Some Run) source sink result = RunRight source sink result
StatusRight (Some Check) source sink result = CheckRight source sink result
StatusRight (Some (Demo rooms seed)) source sink result = DemoRight rooms seed sink result

-- Where a script's bytes are known and no count rose, the whole transcript is written, or memory ran out.
abbrev pub Completes : SourceEnds → SinkEnds → Status → Type 0
Completes source sink result =
    (bytes : List ℕ) (script : ScriptValue) → source.left ≡ Some bytes → length bytes ≤ limit → IsScript stage_now bytes script
    → (¬ Rose source.faults source.faults_after) → (¬ Rose sink.faults sink.faults_after)
    → (result ≡ status.Done) ⊎ (result ≡ status.NoMemory)

-- The same holds for a source that never fails and a sink that is sure to take all that may be written.
abbrev pub CompletesSurely : SourceEnds → SinkEnds → Status → Type 0
CompletesSurely source sink result =
    (bytes : List ℕ) (script : ScriptValue) (held : List ℕ) (room : ℕ) → source.left ≡ Some bytes → length bytes ≤ limit
    → IsScript stage_now bytes script
    → source.never_fails ≡ true → sink.written ≡ Some held → sink.sure ≡ Some room
    → ((text : List ℕ) → IsBegunOf (opened_session script) text → length held + length text ≤ room)
    → (result ≡ status.Done) ⊎ (result ≡ status.NoMemory)

-- Bytes that are known and no script are refused, if no read failed, no write failed and memory didn't run out.
abbrev pub Refuses : SourceEnds → SinkEnds → Status → Type 0
Refuses source sink result = (bytes : List ℕ) (refused : Refused) → source.left ≡ Some bytes → length bytes ≤ limit
    → IsScriptRefused bytes refused
    → (¬ Rose source.faults source.faults_after) → (result ≡ status.Refused refused) ⊎ (result ≡ status.NoMemory)
    ⊎ (result ≡ status.WriteFault)

-- Where the bytes are known to be a certificate and no count rose, its line is written, or memory ran out.
abbrev pub CheckCompletes : SourceEnds → SinkEnds → Status → Type 0
CheckCompletes source sink result = (bytes : List ℕ) (claim : Claim) → source.left ≡ Some bytes → length bytes ≤ limit
    → IsCertificate bytes claim → (¬ Rose source.faults source.faults_after) → (¬ Rose sink.faults sink.faults_after)
    → (result ≡ status.Done) ⊎ (result ≡ status.NoMemory)

-- The same holds for a source that never fails and a sink that is sure to take the line.
abbrev pub CheckCompletesSurely : SourceEnds → SinkEnds → Status → Type 0
CheckCompletesSurely source sink result =
    (bytes : List ℕ) (claim : Claim) (held : List ℕ) (room : ℕ) → source.left ≡ Some bytes → length bytes ≤ limit
    → IsCertificate bytes claim
    → source.never_fails ≡ true → sink.written ≡ Some held → sink.sure ≡ Some room
    → ((text : List ℕ) → IsVerdict claim text → length held + length text ≤ room)
    → (result ≡ status.Done) ⊎ (result ≡ status.NoMemory)

-- Bytes that are known and no certificate are refused, if no read failed, no write failed and memory didn't run out.
abbrev pub CheckRefuses : SourceEnds → SinkEnds → Status → Type 0
CheckRefuses source sink result = (bytes : List ℕ) (refused : Refused) → source.left ≡ Some bytes → length bytes ≤ limit
    → IsCertRefused bytes refused
    → (¬ Rose source.faults source.faults_after) → (result ≡ status.Refused refused) ⊎ (result ≡ status.NoMemory)
    ⊎ (result ≡ status.WriteFault)

-- Where no write failed, a demo's line is written, or memory ran out.
abbrev pub DemoCompletes : SinkEnds → Status → Type 0
DemoCompletes sink result = (¬ Rose sink.faults sink.faults_after) → (result ≡ status.Done) ⊎ (result ≡ status.NoMemory)

-- It is also written where the sink is sure to take it, unless memory ran out.
abbrev pub DemoCompletesSurely : (rooms seed : ℕ) → SinkEnds → Status → Type 0
DemoCompletesSurely rooms seed sink result = (held : List ℕ) (room : ℕ) → sink.written ≡ Some held → sink.sure ≡ Some room
    → ((text : List ℕ) → Summary rooms seed text → length held + length text ≤ room)
    → (result ≡ status.Done) ⊎ (result ≡ status.NoMemory)

-- the outcomes of summing up a demo's script
abbrev pub SumRight : (rooms seed : ℕ) → SessionValue → SinkEnds → Status → Type 0
SumRight rooms seed session sink status.Done = (text : List ℕ) × IsSumOf rooms seed session text × Wrote sink text
SumRight rooms seed session sink status.WriteFault = (text : List ℕ) × IsSumOf rooms seed session text × Broke sink [] text
SumRight rooms seed session sink status.NoMemory = Wrote sink []
SumRight rooms seed session sink _ = ⊥

-- the outcomes of answering the commands of a session
abbrev pub ExecutedRight : SessionValue → SinkEnds → Status → Type 0
ExecutedRight session sink status.Done = (text : List ℕ) × IsTextOf session text × Wrote sink text
ExecutedRight session sink status.WriteFault = (done : List ℕ) × (next : List ℕ) × IsNextOf session done next × Broke sink done next
ExecutedRight session sink status.NoMemory = (text : List ℕ) × IsBegunOf session text × Wrote sink text
ExecutedRight session sink _ = ⊥

-- the outcomes of writing whether a claim is right
abbrev pub JudgedRight : Claim → SinkEnds → Status → Type 0
JudgedRight claim sink status.Done = (text : List ℕ) × IsVerdict claim text × Wrote sink text
JudgedRight claim sink status.WriteFault = (text : List ℕ) × IsVerdict claim text × Broke sink [] text
JudgedRight claim sink status.NoMemory = Wrote sink []
JudgedRight claim sink _ = ⊥

-- why no bytes came: a read failed, too many came, or memory ran out
abbrev pub IsUnread : SourceEnds → Status → Type 0
IsUnread source status.ReadFault =
    Rose source.faults source.faults_after × (source.taken_after ≤ source.taken + limit) × (source.never_fails ≡ false)
IsUnread source status.TooLong = (source.taken + limit < source.taken_after) × (source.faults_after ≡ source.faults)
IsUnread source status.NoMemory = (source.faults_after ≡ source.faults) × (source.taken_after ≤ source.taken + limit)
IsUnread source _ = ⊥

-- the outcomes of writing a refusal
abbrev pub RefusalRight : Refused → SinkEnds → Status → Type 0
RefusalRight refused sink (status.Refused answered) = (answered ≡ refused) × Wrote sink (refusal_text refused)
RefusalRight refused sink status.WriteFault = Broke sink [] (refusal_text refused)
RefusalRight refused sink status.NoMemory = Wrote sink []
RefusalRight refused sink _ = ⊥
