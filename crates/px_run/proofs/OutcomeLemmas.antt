-- What the outcomes of the parts say of the whole.
use Rattle.std.proofs.Common.{◌≡◌, ℕ, ◌+◌, ◌≤◌, ◌<◌, List, [], ◌++◌, length, refl, sym, ap, ◌∙◌, subst, arith, inl, inr, length-append}
use Rattle.std.specs.Prelude.{Option, None, Some}
use Rattle.std.specs.Io.KnownBytes.{Consumes, IsAtEnd}
use Rattle.std.proofs.lemmas.List.{append-nil}
use Rattle.px_io.specs.Writing.{HasNoRoomFor}
use Rattle.px_reader.specs.declared.refused.Refused.{Refused}
use Rattle.px_script.specs.Content.{ScriptValue}
use Rattle.px_script.specs.Faults.{Refusal}
use Rattle.px_script.specs.Stages.{stage_now}
use Rattle.px_script.specs.Scripts.{IsScript}
use Rattle.px_script.proofs.Law.{reads-one-way}
use Rattle.px_session.specs.Opened.{opened_session}
use Rattle.px_run.specs.Transcripts.{IsNextOf, IsScriptRefused, refusal_text}
use Rattle.px_run.specs.Outcomes.{SourceEnds, SinkEnds, Came, ExecutedRight, RefusalRight, RunRight, Completes, CompletesSurely, Refuses, limit}
use Rattle.px_run.specs.declared.status.Status.{Status}
use Rattle.px_run.specs.declared.status.Status.TheVariants as status
use Rattle.px_run.proofs.AnswerLemmas.{begun-next}

-- no more bytes came than a script has
pub came-short : (source : SourceEnds) (bytes : List ℕ) → Came source bytes → source.taken_after ≤ source.taken + limit
came-short source bytes came =
    let count = came.count in
    let short = came.short in
    omega (arith, count, short)

pub run-executed : (source : SourceEnds) (sink : SinkEnds) (bytes : List ℕ) (script : ScriptValue) (result : Status) → Came source bytes
    → IsScript stage_now bytes script → ExecutedRight (opened_session script) sink result → RunRight source sink result
run-executed source sink bytes script status.Done came is right =
    let text = right.1 in (
      bytes,
      right.0,
      came,
      record {
        script = script;
        spelt = is;
        answers = text.answers;
        lawful = record { last = text.last; lawful = text.lawful };
        text_is = text.text_is;
      },
      right.2,
    )
run-executed source sink bytes script status.WriteFault came is right = (bytes, right.0, right.1, came, inr (script, is, right.2), right.3)
run-executed source sink bytes script status.NoMemory came is right =
    (came.no_fault, came-short source bytes came, inr (bytes, right.0, came, (script, is, right.1), right.2))
run-executed source sink bytes script status.Usage came is right = elim right [ ]
run-executed source sink bytes script status.ReadFault came is right = elim right [ ]
run-executed source sink bytes script status.TooLong came is right = elim right [ ]
run-executed source sink bytes script (status.Refused refused) came is right = elim right [ ]

pub run-refused : (source : SourceEnds) (sink : SinkEnds) (bytes : List ℕ) (refused : Refused) (result : Status) → Came source bytes
    → IsScriptRefused bytes refused → RefusalRight refused sink result → RunRight source sink result
run-refused source sink bytes refused (status.Refused answered) came fault right =
    subst (λ r. RunRight source sink (status.Refused r)) (sym right.0) (bytes, came, fault, right.1)
run-refused source sink bytes refused status.WriteFault came fault right =
    (bytes, [], refusal_text refused, came, inl (refused, fault, refl, refl), right)
run-refused source sink bytes refused status.NoMemory came fault right = (came.no_fault, came-short source bytes came, inl right)
run-refused source sink bytes refused status.Done came fault right = elim right [ ]
run-refused source sink bytes refused status.Usage came fault right = elim right [ ]
run-refused source sink bytes refused status.ReadFault came fault right = elim right [ ]
run-refused source sink bytes refused status.TooLong came fault right = elim right [ ]

-- all that came from a source of known bytes is these bytes
pub told-all : (before after : Option (List ℕ)) (bytes came : List ℕ) → before ≡ Some bytes → Consumes before after came → IsAtEnd after
    → bytes ≡ came
told-all None after bytes came told consumed at_end = cc
told-all (Some xs) None bytes came told consumed at_end = elim consumed [ ]
told-all (Some xs) (Some ys) bytes came told consumed at_end =
    let same : xs ≡ bytes = cc in
    sym same ∙ consumed ∙ ap (λ t. came ++ t) at_end ∙ append-nil came

-- no more bytes came from a source of known bytes than it had
told-length : (before after : Option (List ℕ)) (bytes came : List ℕ) → before ≡ Some bytes → Consumes before after came
    → length came ≤ length bytes
told-length None after bytes came told consumed = cc
told-length (Some xs) None bytes came told consumed = elim consumed [ ]
told-length (Some xs) (Some ys) bytes came told consumed =
    let same : bytes ≡ came ++ ys = let e : xs ≡ bytes = cc in sym e ∙ consumed in
    rw (same, length-append) (omega arith)

pub not-too-long : (source : SourceEnds) (bytes came : List ℕ) → source.left ≡ Some bytes → length bytes ≤ limit
    → Consumes source.left source.left_after came → source.taken_after ≡ source.taken + length came
    → ¬ (source.taken + limit < source.taken_after)
not-too-long source bytes came told short gone count long =
    let few : length came ≤ length bytes = told-length source.left source.left_after bytes came told gone in
    omega (arith, long, count, few, short)

told-script : (source : SourceEnds) (bytes came : List ℕ) (script : ScriptValue) → source.left ≡ Some bytes → Came source came
    → IsScript stage_now bytes script → IsScript stage_now came script
told-script source bytes came script told all is =
    subst (λ b. IsScript stage_now b script) (told-all source.left source.left_after bytes came told all.all all.at_end) is

told-refused : (source : SourceEnds) (bytes came : List ℕ) (refused : Refused) → source.left ≡ Some bytes → Came source came
    → IsScriptRefused bytes refused → IsScriptRefused came refused
told-refused source bytes came refused told all fault =
    subst (λ b. IsScriptRefused b refused) (told-all source.left source.left_after bytes came told all.all all.at_end) fault

-- a script has no first fault
pub not-both : (bytes : List ℕ) (script : ScriptValue) (refused : Refused) → IsScript stage_now bytes script
    → ¬ IsScriptRefused bytes refused
not-both bytes script refused is fault =
    (reads-one-way stage_now bytes).not_both is.last refused.line (record { code = refused.code; limit = refused.limit }) is.spells fault

abbrev code_of : Refusal → ℕ
code_of r = r.code

abbrev limit_of : Refusal → ℕ
limit_of r = r.limit

-- bytes have one first fault
pub one-fault : (bytes : List ℕ) (a b : Refused) → IsScriptRefused bytes a → IsScriptRefused bytes b → a ≡ b
one-fault bytes a b p q =
    let same = (reads-one-way stage_now bytes).one_fault a.line b.line (record { code = a.code; limit = a.limit })
    (record { code = b.code; limit = b.limit }) p q in
    let codes : a.code ≡ b.code = ap code_of same.1 in
    let limits : a.limit ≡ b.limit = ap limit_of same.1 in
    λ i. record { line = same.0 i; code = codes i; limit = limits i }

pub run-completes : (source : SourceEnds) (sink : SinkEnds) (result : Status) (came : List ℕ) → RunRight source sink result
    → Consumes source.left source.left_after came → source.taken_after ≡ source.taken + length came → Completes source sink result
run-completes source sink status.Done came right gone count bytes script told short is no_read_fault no_write_fault = inl refl
run-completes source sink status.NoMemory came right gone count bytes script told short is no_read_fault no_write_fault = inr refl
run-completes source sink status.Usage came right gone count bytes script told short is no_read_fault no_write_fault = elim right [ ]
run-completes source sink status.ReadFault came right gone count bytes script told short is no_read_fault no_write_fault =
    absurd (no_read_fault right.0)
run-completes source sink status.WriteFault came right gone count bytes script told short is no_read_fault no_write_fault =
    absurd (no_write_fault right.5.rose)
run-completes source sink status.TooLong came right gone count bytes script told short is no_read_fault no_write_fault =
    absurd (not-too-long source bytes came told short gone count right.0)
run-completes source sink (status.Refused refused) came right gone count bytes script told short is no_read_fault no_write_fault =
    absurd (not-both right.0 script refused (told-script source bytes right.0 script told right.1 is) right.2)

-- a sink that isn't sure to take a text does not have the room for it
pub no-room : (sure : Option ℕ) (written : Option (List ℕ)) (text held : List ℕ) (room : ℕ) → sure ≡ Some room → written ≡ Some held
    → HasNoRoomFor sure written text → ¬ (length held + length text ≤ room)
no-room None written text held room one other lacks fits = cc
no-room (Some r) None text held room one other lacks fits = cc
no-room (Some r) (Some h) text held room one other lacks fits =
    let rooms : r ≡ room = cc in
    let helds : h ≡ held = cc in
    let long : length h ≡ length held = ap length helds in
    omega (arith, rooms, long, lacks, fits)

pub run-completes_surely : (source : SourceEnds) (sink : SinkEnds) (result : Status) (came : List ℕ) → RunRight source sink result
    → Consumes source.left source.left_after came → source.taken_after ≡ source.taken + length came → CompletesSurely source sink result
run-completes_surely source sink status.Done came right gone count bytes script held room told short is never written sure fits = inl refl
run-completes_surely source sink status.NoMemory came right gone count bytes script held room told short is never written sure fits =
    inr refl
run-completes_surely source sink status.Usage came right gone count bytes script held room told short is never written sure fits =
    elim right [ ]
run-completes_surely source sink status.ReadFault came right gone count bytes script held room told short is never written sure fits =
    let fails = right.2 in cc
run-completes_surely source sink status.TooLong came right gone count bytes script held room told short is never written sure fits =
    absurd (not-too-long source bytes came told short gone count right.0)
run-completes_surely source sink
    (status.Refused refused) came right gone count bytes script held room told short is never written sure fits =
    absurd (not-both right.0 script refused (told-script source bytes right.0 script told right.1 is) right.2)
run-completes_surely source sink status.WriteFault came right gone count bytes script held room told short is never written sure fits =
    let here = told-script source bytes right.0 script told right.3 is in
    elim right.4 [
      | inl refusal ↦ absurd (not-both right.0 script refusal.0 here refusal.1)
      | inr next ↦
          let same : next.0 ≡ script = (reads-one-way stage_now right.0).one_content next.0 script next.1 here in
          let of : IsNextOf (opened_session script) right.1 right.2 =
          subst (λ s. IsNextOf (opened_session s) right.1 right.2) same next.2 in
          absurd (no-room sink.sure sink.written (right.1 ++ right.2) held room sure written right.5.no_room
          (fits (right.1 ++ right.2) (begun-next (opened_session script) right.1 right.2 of)))
    ]

pub run-refuses : (source : SourceEnds) (sink : SinkEnds) (result : Status) (came : List ℕ) → RunRight source sink result
    → Consumes source.left source.left_after came → source.taken_after ≡ source.taken + length came → Refuses source sink result
run-refuses source sink status.Done came right gone count bytes refused told short fault quiet =
    absurd (not-both right.0 right.3.script refused right.3.spelt (told-refused source bytes right.0 refused told right.2 fault))
run-refuses source sink status.NoMemory came right gone count bytes refused told short fault quiet = inr (inl refl)
run-refuses source sink status.WriteFault came right gone count bytes refused told short fault quiet = inr (inr refl)
run-refuses source sink status.Usage came right gone count bytes refused told short fault quiet = elim right [ ]
run-refuses source sink status.ReadFault came right gone count bytes refused told short fault quiet = absurd (quiet right.0)
run-refuses source sink status.TooLong came right gone count bytes refused told short fault quiet =
    absurd (not-too-long source bytes came told short gone count right.0)
run-refuses source sink (status.Refused answered) came right gone count bytes refused told short fault quiet =
    inl (ap status.Refused (one-fault right.0 answered refused right.2 (told-refused source bytes right.0 refused told right.1 fault)))
