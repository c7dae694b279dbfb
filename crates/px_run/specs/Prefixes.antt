-- What is written where a write failed or memory ran out: a prefix of what the bytes demand.
use Rattle.std.specs.Prelude.{◌≡◌, ◌⊎◌, ℕ, List, []}
use Rattle.px_io.specs.Writing.{AppendsPrefix, AppendsProperPrefix}
use Rattle.px_reader.specs.declared.refused.Refused.{Refused}
use Rattle.px_session.specs.Demo.{Summary}
use Rattle.px_session.specs.Transcripts.{Transcript}
use Rattle.px_run.specs.Outcomes.{Came, IsCheckText, SinkEnds, SourceEnds, Wrote}
use Rattle.px_run.specs.Transcripts.{IsScriptRefused, refusal_text}
use Rattle.px_run.specs.declared.status.Status.{Status}
use Rattle.px_run.specs.declared.status.Status.TheVariants as status

-- what is to be written for the bytes: a transcript, if they are a script, or their refusal
abbrev pub IsDemanded : List ℕ → List ℕ → Type 0
IsDemanded bytes text = Transcript bytes text ⊎ ((refused : Refused) × IsScriptRefused bytes refused × (text ≡ refusal_text refused))

-- of the text a prefix was written, and not the whole text
abbrev pub WroteProperPrefix : SinkEnds → List ℕ → Type 0
WroteProperPrefix sink text = AppendsProperPrefix sink.written sink.written_after text

-- of the text a prefix was written, which may be the whole text
abbrev pub WrotePrefix : SinkEnds → List ℕ → Type 0
WrotePrefix sink text = (prefix : List ℕ) × (rest : List ℕ) × AppendsPrefix sink.written sink.written_after text prefix rest

-- Where a write failed, bytes came, and of each text that they demand a proper prefix was written. Where memory ran out, nothing was
-- written, or bytes came, and of each text that they demand a prefix was.
abbrev pub HasPrefix : SourceEnds → SinkEnds → Status → Type 0
HasPrefix source sink status.WriteFault =
    (bytes : List ℕ) × Came source bytes × ((text : List ℕ) → IsDemanded bytes text → WroteProperPrefix sink text)
HasPrefix source sink status.NoMemory = Wrote sink []
    ⊎ ((bytes : List ℕ) × Came source bytes × ((text : List ℕ) → IsDemanded bytes text → WrotePrefix sink text))
HasPrefix source sink _ = Unit {0}

-- the same for a demo: where a write failed, a proper prefix of its line was written, and where memory ran out nothing
abbrev pub HasDemoPrefix : (rooms seed : ℕ) → SinkEnds → Status → Type 0
HasDemoPrefix rooms seed sink status.WriteFault = (text : List ℕ) → Summary rooms seed text → WroteProperPrefix sink text
HasDemoPrefix rooms seed sink status.NoMemory = Wrote sink []
HasDemoPrefix rooms seed sink _ = Unit {0}

-- the same for `check`, whose text is one piece
abbrev pub HasCheckPrefix : SourceEnds → SinkEnds → Status → Type 0
HasCheckPrefix source sink status.WriteFault =
    (bytes : List ℕ) × Came source bytes × ((text : List ℕ) → IsCheckText bytes text → WroteProperPrefix sink text)
HasCheckPrefix source sink status.NoMemory = Wrote sink []
HasCheckPrefix source sink _ = Unit {0}
