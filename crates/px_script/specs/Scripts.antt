-- Which bytes are a script, and which fault is the first.
use Rattle.std.specs.Prelude.{◌≡◌, ◌⊎◌, ℕ, ◌+◌, true, false, List, [], ◌∷◌, take, None, Some, count_by, ◌==◌}
use Rattle.std.specs.Str.{IsUtf8}
use Rattle.std.specs.Str.Lossy.{utf8_valid_len}
use Rattle.px_script.specs.Lexemes.{Lexeme, Lexes}
use Rattle.px_script.specs.Lines.{lines_of}
use Rattle.px_script.specs.Statements.{Statement}
use Rattle.px_script.specs.Forms.{Forms, begins_with_word}
use Rattle.px_script.specs.Declarations.{Declared, OpenBlock, nothing_declared, after_line}
use Rattle.px_script.specs.Content.{ScriptValue, content_of}
use Rattle.px_script.specs.Stages.{Stage}
use Rattle.px_script.specs.Faults.{Refusal, fault_at, coded}

-- Line n has no fault, and leaves this declared.
abbrev pub PassesLexemes : Stage → ℕ → Declared → List Lexeme → Declared → Type 0
PassesLexemes stage n d [] after = after ≡ d
PassesLexemes stage n d (lexeme ∷ lexemes) after =
    (s : Statement) × Forms d (lexeme ∷ lexemes) s × (fault_at stage d s ≡ None) × (after ≡ after_line n d s)

abbrev pub Passes : Stage → ℕ → Declared → List ℕ → Declared → Type 0
Passes stage n d line after = (lexemes : List Lexeme) × Lexes line lexemes × PassesLexemes stage n d lexemes after

-- the lines from number n on have no fault
abbrev pub PassAll : Stage → ℕ → Declared → List (List ℕ) → Declared → Type 0
PassAll stage n d [] after = after ≡ d
PassAll stage n d (line ∷ lines) after = (next : Declared) × Passes stage n d line next × PassAll stage (n + 1) next lines after

-- the first fault of a line, in the order of the causes
abbrev pub FailsLexemes : Stage → Declared → List Lexeme → Refusal → Type 0
FailsLexemes stage d [] refusal = ⊥
FailsLexemes stage d (lexeme ∷ lexemes) refusal = let line = lexeme ∷ lexemes in
    ((begins_with_word d line ≡ false) × (refusal ≡ coded 3))
    ⊎ ((begins_with_word d line ≡ true) × ((s : Statement) → ¬ Forms d line s) × (refusal ≡ coded 2))
    ⊎ ((s : Statement) × Forms d line s × (fault_at stage d s ≡ Some refusal))

abbrev pub Fails : Stage → Declared → List ℕ → Refusal → Type 0
Fails stage d line refusal = (((lexemes : List Lexeme) → ¬ Lexes line lexemes) × (refusal ≡ coded 2))
    ⊎ ((lexemes : List Lexeme) × Lexes line lexemes × FailsLexemes stage d lexemes refusal)

-- the first of the lines from number n on that has a fault
abbrev pub FailsIn : Stage → ℕ → Declared → List (List ℕ) → ℕ → Refusal → Type 0
FailsIn stage n d [] at refusal = (block : OpenBlock) × (d.block ≡ Some block) × (at ≡ block.line) × (refusal ≡ coded 10)
FailsIn stage n d (line ∷ lines) at refusal = (Fails stage d line refusal × (at ≡ n))
    ⊎ ((next : Declared) × Passes stage n d line next × FailsIn stage (n + 1) next lines at refusal)

-- the bytes are a script that declares this
pub record Spells (stage : Stage) (bytes : List ℕ) (script : Declared) : Type 0 where
  pub text : IsUtf8 bytes
  pub lines : PassAll stage 1 nothing_declared (lines_of bytes) script
  pub closed : script.block ≡ None

-- The bytes are a script about this. Scripts that differ only in their lines can be about the same.
pub record IsScript (stage : Stage) (bytes : List ℕ) (script : ScriptValue) : Type 0 where
  pub last : Declared
  pub spells : Spells stage bytes last
  pub is : script ≡ content_of last

-- the first fault of the bytes
abbrev pub FirstFault : Stage → List ℕ → ℕ → Refusal → Type 0
FirstFault stage bytes line refusal =
    ((¬ IsUtf8 bytes) × (line ≡ 1 + count_by (λ b. b == 10) (take (utf8_valid_len bytes) bytes)) × (refusal ≡ coded 1))
    ⊎ (IsUtf8 bytes × FailsIn stage 1 nothing_declared (lines_of bytes) line refusal)

-- For all bytes exactly one of the two holds, and what it names is determined.
pub record ReadsOneWay (stage : Stage) (bytes : List ℕ) : Type 0 where
  pub one : ((script : Declared) × Spells stage bytes script) ⊎ ((line : ℕ) × (refusal : Refusal) × FirstFault stage bytes line refusal)
  pub not_both : (script : Declared) (line : ℕ) (refusal : Refusal) → Spells stage bytes script → ¬ FirstFault stage bytes line refusal
  pub one_script : (a b : Declared) → Spells stage bytes a → Spells stage bytes b → a ≡ b
  pub one_content : (a b : ScriptValue) → IsScript stage bytes a → IsScript stage bytes b → a ≡ b
  pub one_fault : (k m : ℕ) (a b : Refusal) → FirstFault stage bytes k a → FirstFault stage bytes m b → (k ≡ m) × (a ≡ b)
