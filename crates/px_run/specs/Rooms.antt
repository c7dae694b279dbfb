-- How much room suffices in a sink, so that all is written unless memory runs out.
use Rattle.std.specs.Prelude.{◌≡◌, ◌⊎◌, ◌≤◌, ◌+◌, ℕ, true, List, length, Some}
use Rattle.px_cert.specs.Certificates.{Claim, IsCertificate}
use Rattle.px_lengths.specs.Longest.{longest_summary, longest_verdict}
use Rattle.px_script.specs.Content.{ScriptValue}
use Rattle.px_script.specs.Scripts.{IsScript}
use Rattle.px_script.specs.Stages.{stage_now}
use Rattle.px_session.specs.Transcripts.{Transcript}
use Rattle.px_run.specs.Outcomes.{CheckCompletesSurely, CompletesSurely, DemoCompletesSurely, SinkEnds, SourceEnds, limit}
use Rattle.px_run.specs.declared.status.Status.{Status}
use Rattle.px_run.specs.declared.status.Status.TheVariants as status

-- A script is answered whose bytes come from a source that never fails, unless memory runs out, if the sink is sure to take this text
-- after what it holds.
abbrev pub CompletesWithin : (bytes text : List ℕ) → SourceEnds → SinkEnds → Status → Type 0
CompletesWithin bytes text source sink result =
    (script : ScriptValue) (held : List ℕ) (room : ℕ) → source.left ≡ Some bytes → length bytes ≤ limit
    → IsScript stage_now bytes script → source.never_fails ≡ true → sink.written ≡ Some held → sink.sure ≡ Some room
    → length held + length text ≤ room
    → (result ≡ status.Done) ⊎ (result ≡ status.NoMemory)

-- the line of a demo is written if the sink is sure to take the longest one
abbrev pub DemoCompletesWithin : SinkEnds → Status → Type 0
DemoCompletesWithin sink result =
    (held : List ℕ) (room : ℕ) → sink.written ≡ Some held → sink.sure ≡ Some room → length held + longest_summary ≤ room
    → (result ≡ status.Done) ⊎ (result ≡ status.NoMemory)

-- and likewise that of a certificate
abbrev pub CheckCompletesWithin : SourceEnds → SinkEnds → Status → Type 0
CheckCompletesWithin source sink result =
    (bytes : List ℕ) (claim : Claim) (held : List ℕ) (room : ℕ) → source.left ≡ Some bytes → length bytes ≤ limit
    → IsCertificate bytes claim → source.never_fails ≡ true → sink.written ≡ Some held → sink.sure ≡ Some room
    → length held + longest_verdict ≤ room
    → (result ≡ status.Done) ⊎ (result ≡ status.NoMemory)

-- What the top call says of a sink that is sure to take all that may be written, it says of one that is sure to take the transcript; of
-- one that is sure to take the longest line of a demo; and of one that is sure to take the longest line of a certificate.
pub record RoomsSuffice : Type 0 where
  pub transcript : (source : SourceEnds) (sink : SinkEnds) (result : Status) → CompletesSurely source sink result
      → (bytes text : List ℕ) → Transcript bytes text → CompletesWithin bytes text source sink result
  pub demo : (rooms seed : ℕ) (sink : SinkEnds) (result : Status) → DemoCompletesSurely rooms seed sink result
      → DemoCompletesWithin sink result
  pub check : (source : SourceEnds) (sink : SinkEnds) (result : Status) → CheckCompletesSurely source sink result
      → CheckCompletesWithin source sink result
