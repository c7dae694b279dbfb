-- What reading a line, and all lines, ends with.
use Rattle.px_script.specs.Content.{ScriptValue, content_of}
use Rattle.px_script.specs.Declarations.{Declared, nothing_declared}
use Rattle.px_script.specs.Stages.{Stage}
use Rattle.px_script.specs.Statements.{Statement}
use Rattle.std.specs.Option.{option_map}
use Rattle.std.specs.Prelude.{◌≡◌, ◌==◌, ℕ, List, map, None, Some, Option, Ok, Err, Result, MatchResult}
use Rattle.std.specs.List.{slice_split}
use Rattle.std.specs.Str.{chars}
use Rattle.px_script.specs.Faults.{Refusal, fault_at}
use Rattle.px_script.specs.Lines.{without_return}
use Rattle.px_script.specs.Scripts.{Passes, PassAll, Fails, FailsIn, FirstFault}
use Rattle.px_causes.specs.declared.line_fault.LineFault.{LineFault}
use Rattle.px_reader.specs.declared.refused.Refused.{Refused}
use Rattle.px_reader.specs.declared.refused.ScriptErr.{ScriptErr}
use Rattle.px_reader.specs.declared.refused.ScriptErr.TheVariants as script
use Rattle.px_script.specs.ReadScripts.{content}
use Rattle.px_script.specs.declared.script.Script.{Script}
use Rattle.px_causes.specs.FaultViews.{refusal_of}

-- this is the first fault of a statement, if it has one
abbrev pub HasFault : Stage → Declared → Statement → Option LineFault → Type 0
HasFault stage d s fault = fault_at stage d s ≡ option_map refusal_of fault

-- a line has no fault and leaves this, or has this first fault
abbrev pub LineEnds : Stage → ℕ → Declared → List ℕ → Declared → Option LineFault → Type 0
LineEnds stage n d characters after None = Passes stage n d characters after
LineEnds stage n d characters after (Some fault) = Fails stage d characters (refusal_of fault)

-- the characters of the lines of a text without what ends them
abbrev pub lines_in : List ℕ → List (List ℕ)
lines_in text = map (λ line. chars (without_return line)) (slice_split (λ b. b == 10) text)

abbrev pub refusal_told : Refused → Refusal
refusal_told refused = record { code = refused.code; limit = refused.limit }

-- the refusal of an input for a fault of a line
abbrev pub told : ℕ → LineFault → ScriptErr
told line fault = script.Refused (record { line = line; code = (refusal_of fault).code; limit = (refusal_of fault).limit })

-- the lines have this first fault, unless memory ran out
abbrev pub LinesFail : Stage → List (List ℕ) → ScriptErr → Type 0
LinesFail stage lines (script.Refused refused) = FailsIn stage 1 nothing_declared lines refused.line (refusal_told refused)
LinesFail stage lines script.NoMemory = Unit {0}

-- the lines are a script about this
pub record AreScript (stage : Stage) (lines : List (List ℕ)) (value : ScriptValue) : Type 0 where
  pub last : Declared
  pub passes : PassAll stage 1 nothing_declared lines last
  pub closed : last.block ≡ None
  pub is : value ≡ content_of last

-- the bytes have this first fault, unless memory ran out
abbrev pub HasFirstFault : Stage → List ℕ → ScriptErr → Type 0
HasFirstFault stage bytes (script.Refused refused) = FirstFault stage bytes refused.line (refusal_told refused)
HasFirstFault stage bytes script.NoMemory = Unit {0}

-- the script is about this, unless memory ran out
abbrev pub IsRead : Result Script ScriptErr → ScriptValue → Type 0
IsRead result value = MatchResult result (λ s. content s ≡ value) (λ error. error ≡ script.NoMemory)

-- the input is refused, for this fault of this line unless memory ran out
abbrev pub IsLineRefused : Result Script ScriptErr → ℕ → Refusal → Type 0
IsLineRefused (Ok s) line refusal = ⊥
IsLineRefused (Err (script.Refused refused)) line refusal = (refused.line ≡ line) × (refusal_told refused ≡ refusal)
IsLineRefused (Err script.NoMemory) line refusal = Unit {0}
