-- What reading a text, and bytes, ends with.
use Rattle.px_reader.proofs.Common.{◌≡◌, ℕ, ◌+◌, ◌≤◌, List, [], ◌∷◌, take, length, refl, sym, ap, ◌∙◌, subst, inr, arith, Some, Result, Ok, Err, IfOk, IfErr, IsErrAnd, IsUtf8, bytes_eq, length-drop, ScriptValue, Declared, OpenBlock, Refusal, mark, without_mark, lines_of, Stage, PassAll, FailsIn, IsScript, FirstFault, ReadsOneWay, by_test, of-stage, LinesFail, HasFirstFault, IsRead, IsLineRefused, content, refusal_told, IsOfStage, nothing_declared}
use Rattle.px_reader.specs.LineReads.{AreScript}
use Rattle.px_script.proofs.Law.{reads-one-way}
use Rattle.px_script.specs.declared.script.Script.{Script}
use Rattle.px_reader.specs.declared.refused.ScriptErr.{ScriptErr}
use Rattle.px_reader.specs.declared.refused.ScriptErr.TheVariants.{Refused, NoMemory}

pub text-fails : (stage : Stage) (text : List ℕ) (error : ScriptErr) → IsUtf8 text → LinesFail stage (lines_of text) error
    → HasFirstFault stage text error
text-fails stage text (Refused refused) utf8 fails = inr (utf8, fails)
text-fails stage text NoMemory utf8 fails = tt

-- what the lines of a text end with, the text ends with
pub text-ends : (stage : Stage) (text : List ℕ) (lines : List (List ℕ)) (r : Result Script ScriptErr) → lines ≡ lines_of text → IsUtf8 text
    → IfOk r (λ s. AreScript stage lines (content s)) → IfErr r (LinesFail stage lines)
    → IfOk r (λ s. IsScript stage text (content s)) × IfErr r (HasFirstFault stage text)
text-ends stage text lines (Ok s) same utf8 is fails = (
  record {
    last = is.last;
    spells = record { text = utf8; lines = subst (λ ls. PassAll stage 1 nothing_declared ls is.last) same is.passes; closed = is.closed };
    is = is.is;
  },
  tt,
)
text-ends stage text lines (Err error) same utf8 is fails =
    (tt, text-fails stage text error utf8 (subst (λ ls. LinesFail stage ls error) same fails))

-- after lines without a fault an open block is the first
pub left-open : (stage : Stage) (n : ℕ) (d : Declared) (lines : List (List ℕ)) (last : Declared) (block : OpenBlock)
    → PassAll stage n d lines last → last.block ≡ Some block → FailsIn stage n d lines block.line (record { code = 10; limit = 0 })
left-open stage n d [] last block same opened = (block, ap (λ e. e.block) (sym same) ∙ opened, refl, refl)
left-open stage n d (line ∷ lines) last block passes opened
    = inr (passes.0, passes.1, left-open stage (n + 1) passes.0 lines last block passes.2 opened)

pub unmarked-short : (text : List ℕ) → length (without_mark text) ≤ length text
unmarked-short text = by_test (bytes_eq (take 3 text) mark) (λ e. rw (e, length-drop) omega arith) (λ e. rw e omega arith)

pub err-carried : {A : Type 0} (r : Result A ScriptErr) (P : ScriptErr → Type 0) (x : ScriptErr) → IsErrAnd r (λ e. e ≡ x) → P x → IfErr r P
err-carried (Ok a) P x is p = tt
err-carried (Err e) P x is p = subst P (sym is) p

module _ (stage : Stage) (bytes : List ℕ) where
  law : ReadsOneWay stage bytes
  law = reads-one-way stage bytes

  pub all-scripts : (r : Result Script ScriptErr) → IfOk r (λ s. IsScript stage bytes (content s)) → IfErr r (HasFirstFault stage bytes)
      → (value : ScriptValue) → IsScript stage bytes value → IsRead r value
  all-scripts (Ok s) script fault value is = law.one_content (content s) value script is
  all-scripts (Err (Refused refused)) script fault value is =
      absurd (law.not_both is.last refused.line (refusal_told refused) is.spells fault)
  all-scripts (Err NoMemory) script fault value is = refl

  pub all-faults : (r : Result Script ScriptErr) → IfOk r (λ s. IsScript stage bytes (content s)) → IfErr r (HasFirstFault stage bytes)
      → (line : ℕ) (refusal : Refusal) → FirstFault stage bytes line refusal → IsLineRefused r line refusal
  all-faults (Ok s) script fault line refusal first = law.not_both script.last line refusal script.spells first
  all-faults (Err (Refused refused)) script fault line refusal first =
      law.one_fault refused.line line (refusal_told refused) refusal fault first
  all-faults (Err NoMemory) script fault line refusal first = tt

  -- what a script has of the stage
  pub of-stage-read : (r : Result Script ScriptErr) → IfOk r (λ s. IsScript stage bytes (content s))
      → IfOk r (λ s. IsOfStage stage (content s))
  of-stage-read (Ok s) script = of-stage stage bytes (content s) script
  of-stage-read (Err error) script = tt
