-- What is written where a write failed or memory ran out is a prefix of what the bytes demand.
use Rattle.std.proofs.Common.{◌≡◌, ℕ, ◌<◌, List, [], ◌++◌, length, sym, ap, ◌∙◌, inl, inr, arith, length-append}
use Rattle.std.proofs.lemmas.List.{append_assoc}
use Rattle.px_session.specs.Opened.{opened_session}
use Rattle.px_run.specs.Prefixes.{HasPrefix, IsDemanded, WrotePrefix, WroteProperPrefix}
use Rattle.px_run.specs.Outcomes.{Broke, RunRight, SinkEnds, SourceEnds, Wrote}
use Rattle.px_run.specs.Transcripts.{Begun, IsWritten, refusal_text}
use Rattle.px_run.specs.declared.status.Status.{Status}
use Rattle.px_run.specs.declared.status.Status.TheVariants as status
use Rattle.px_run.proofs.AnswerLemmas.{begun-next}
use Rattle.px_run.proofs.OneText.{texts_are_one}
use Rattle.px_run.proofs.OutcomeLemmas.{not-both, one-fault}

long-append : (xs ys : List ℕ) → 0 < length xs → 0 < length (xs ++ ys)
long-append xs ys long = let sum = length-append xs ys in omega (arith, sum, long)

-- a part of what comes next was written after what was done, of a text that goes on beyond it
broke-prefix : (sink : SinkEnds) (done next rest text : List ℕ) → Broke sink done next → text ≡ (done ++ next) ++ rest
    → WroteProperPrefix sink text
broke-prefix sink done next rest text broke is = (
  done ++ broke.prefix,
  broke.rest ++ rest,
  record {
    whole = is ∙ ap (λ (l : List ℕ). (done ++ l) ++ rest) broke.whole ∙ ap (λ (l : List ℕ). l ++ rest) (sym
        (append_assoc done broke.prefix broke.rest))
        ∙ append_assoc (done ++ broke.prefix) broke.rest rest;
    appended = broke.appended;
  },
  long-append broke.rest rest broke.proper,
)

-- the same where nothing was done, and nothing comes after
pub broke-text : (sink : SinkEnds) (done next text : List ℕ) → Broke sink done next → done ≡ [] → text ≡ next → WroteProperPrefix sink text
broke-text sink done next text broke none is = (
  done ++ broke.prefix,
  broke.rest,
  record { whole = is ∙ broke.whole ∙ ap (λ (l : List ℕ). (l ++ broke.prefix) ++ broke.rest) (sym none); appended = broke.appended },
  broke.proper,
)

broke-demanded : (sink : SinkEnds) (bytes done next text : List ℕ) → IsWritten bytes done next → Broke sink done next
    → IsDemanded bytes text
    → WroteProperPrefix sink text
broke-demanded sink bytes done next text (inl (refused, fault, none, next_is)) broke (inl transcript) =
    absurd (not-both bytes transcript.script refused transcript.spelt fault)
broke-demanded sink bytes done next text (inl (refused, fault, none, next_is)) broke (inr (other, also, is)) =
    let same = one-fault bytes other refused also fault in
    broke-text sink done next text broke none (is ∙ ap refusal_text same ∙ sym next_is)
broke-demanded sink bytes done next text (inr (script, spelt, of)) broke (inl transcript) =
    let begins =
    texts_are_one.prefix bytes (done ++ next) text (script, spelt, begun-next (opened_session script) done next of) transcript in
    broke-prefix sink done next begins.0 text broke begins.1
broke-demanded sink bytes done next text (inr (script, spelt, of)) broke (inr (
  refused,
  fault,
  is,
)) = absurd (not-both bytes script refused spelt fault)

wrote-demanded : (sink : SinkEnds) (bytes begun text : List ℕ) → Begun bytes begun → Wrote sink begun → IsDemanded bytes text
    → WrotePrefix sink text
wrote-demanded sink bytes begun text first wrote (inl transcript) =
    let begins = texts_are_one.prefix bytes begun text first transcript in
    (begun, begins.0, record { whole = begins.1; appended = wrote.appended })
wrote-demanded sink bytes begun text (script, spelt, of) wrote (inr (
  refused,
  fault,
  is,
)) = absurd (not-both bytes script refused spelt fault)

pub run-prefix : (source : SourceEnds) (sink : SinkEnds) (result : Status) → RunRight source sink result → HasPrefix source sink result
run-prefix source sink status.WriteFault (bytes, done, next, came, written, broke) =
    (bytes, came, λ text demanded. broke-demanded sink bytes done next text written broke demanded)
run-prefix source sink status.NoMemory (quiet, within, inl nothing) = inl nothing
run-prefix source sink status.NoMemory (quiet, within, inr (bytes, begun, came, first, wrote)) =
    inr (bytes, came, λ text demanded. wrote-demanded sink bytes begun text first wrote demanded)
run-prefix source sink status.Done right = tt
run-prefix source sink (status.Refused refused) right = tt
run-prefix source sink status.ReadFault right = tt
run-prefix source sink status.TooLong right = tt
run-prefix source sink status.Usage right = tt
