-- Lines without what ends them, and what reading a line shows.
use Rattle.px_reader.proofs.Common.{AllByRecursion, IsNameLexeme, all_scalars, spelling, subst, ◌≡◌, ◌≢◌, ℕ, ◌+◌, ◌-◌, ◌<◌, Bool, true, List, [], ◌∷◌, ◌++◌, take, drop, length, get_or, refl, sym, ap, ◌∙◌, inl, inr, arith, Option, None, Some, Result, Ok, Err, IfOk, slice_index, ◌==◌, bytes_eq, eqb-true, take-append-drop, take_more, take_all, bytes_eq-Decides, Lexeme, Lexes, mark, without_mark, without_return, Statement, Line, line_of, Forms, begins_with_word, Declared, coded, Stage, Fails, by_test, HasFault, LineEnds, HasCharAt, after_line, MatchOption}
use Rattle.px_lines.proofs.Scans.{whole-lexed, not-lexed as not-lexed-text}
use Rattle.px_lines.specs.Tokens.{is_whole, lexemes_in}
use Rattle.px_script.proofs.Lexing.{Begins-same, Begins-not-ignored}
use Rattle.px_script.specs.Lexemes.{Begins, name, variable, number, sign}
use Rattle.std.specs.Str.{chars}
use Rattle.std.specs.Prelude.{encode_utf8, false}
use Rattle.px_base.specs.declared.no_memory.NoMemory.{NoMemory}
use Rattle.px_causes.specs.declared.line_fault.LineFault.{LineFault}
use Rattle.px_lines.proofs.Walks.{some-same}
use Rattle.px_script.proofs.ReadRows.{made-of}
use Rattle.px_script.specs.Rows.{statement_of}
use Rattle.px_script.specs.Declarations.{has_building}
use Rattle.px_effects.proofs.Fresh.{lexemes-named}
use lib.Utf8.{encode}

mark-encoded : encode_utf8 0xFEFF ≡ mark
unfolding encode
mark-encoded = refl

pub marked : (bs : List ℕ) (n : ℕ) (x : List ℕ) → HasCharAt 0xFEFF bs 0 n → x ≡ drop n bs → x ≡ without_mark bs
marked bs n x is e = ap without_mark (ap (λ y. mark ++ y) e ∙ ap (λ m. m ++ drop n bs) (sym mark-encoded) ∙ sym is.split)

pub unmarked : (bs : List ℕ) → ((rest : List ℕ) → bs ≢ encode_utf8 0xFEFF ++ rest) → bs ≡ without_mark bs
unmarked bs none = by_test (bytes_eq (take 3 bs) mark) (λ e. absurd (none (drop 3 bs) (sym (take-append-drop 3 bs)
    ∙ ap (λ t. t ++ drop 3 bs) ((bytes_eq-Decides (take 3 bs) mark).0 e ∙ sym mark-encoded)))) (λ e. rw e refl)

last-of : (bs : List ℕ) → 0 < length bs → bs ≡ take (length bs - 1) bs ++ get_or bs (length bs - 1) 0 ∷ []
last-of bs some = let more : (length bs - 1) + 1 ≡ length bs = omega (arith, some) in
    sym (ap (λ t. take t bs) more ∙ take_all (length bs) bs (omega arith)) ∙ take_more bs (length bs - 1) 0 (omega (arith, some))

pub unreturned : (bs : List ℕ) → ((prefix : List ℕ) → bs ≢ prefix ++ 13 ∷ []) → bs ≡ without_return bs
unreturned [] none = refl
unreturned (b ∷ bs) none = by_test (slice_index (b ∷ bs) (length (b ∷ bs) - 1) == 13)
    (λ e. absurd (none (take (length (b ∷ bs) - 1) (b ∷ bs))
    (last-of (b ∷ bs) (omega arith) ∙ ap (λ t. take (length (b ∷ bs) - 1) (b ∷ bs) ++ t ∷ []) (eqb-true _ 13 e)))) (λ e. rw e refl)

-- A line was read of the lexemes, which is that of a statement.
module _ (d : Declared) (lexemes : List Lexeme) where
  module _ (b : Bool) (building : has_building d ≡ b) (l : Line) (read : (s : Statement) × Forms d lexemes s × (l ≡ line_of s)) where
    made : statement_of b l ≡ Some read.0
    made = ap (λ t. statement_of t l) (sym building) ∙ ap (statement_of (has_building d)) read.2 ∙ made-of d read.0 read.1.1

    -- what is made of the line is the statement, and the line is the statement's
    pub is-statement : (s : Statement) → Some s ≡ statement_of b l → Forms d lexemes s × (line_of s ≡ l)
    is-statement s is = let same : s ≡ read.0 = some-same s read.0 (is ∙ made) in
        (subst (Forms d lexemes) (sym same) read.1, ap line_of same ∙ sym read.2)

    -- and something is made of it
    pub is-made : {A : Type 0} → None ≡ statement_of b l → A
    is-made is = let e = is ∙ made in cc

-- whether a line begins with a word is told by its first lexeme
pub same-word : (d : Declared) (first : Lexeme) (others : List Lexeme) → begins_with_word d (first ∷ []) ≡ true
    → begins_with_word d (first ∷ others) ≡ true
same-word d (name w) others is = is
same-word d (variable w) others is = cc
same-word d (number n) others is = cc
same-word d (sign s) others is = cc

-- A line has these lexemes, which the parser was given.
module _ (stage : Stage) (d : Declared) (line : List ℕ) where
  pub named : (lexemes : List Lexeme) → Lexes line lexemes → all_scalars line ≡ true → (s : Statement) → Forms d lexemes s
      → AllByRecursion IsNameLexeme (spelling s)
  named lexemes lexes scalars s forms = subst (AllByRecursion IsNameLexeme) forms.0 (lexemes-named lexemes line scalars lexes)

  pub ends-read : (n : ℕ) (after : Declared) (lexemes : List Lexeme) → Lexes line lexemes → (s : Statement) → Forms d lexemes s
      → (r : Result (Option LineFault) NoMemory) → IfOk r (HasFault stage d s)
      → IfOk r (λ fault. MatchOption fault (after ≡ after_line n d s) (λ _. Unit {0})) → IfOk r (LineEnds stage n d line after)
  ends-read n after [] lexes s forms r fault declared = let no = forms.0 in cc
  ends-read n after (x ∷ xs) lexes s forms (Ok None) fault declared = (x ∷ xs, lexes, (s, forms, fault, declared))
  ends-read n after (x ∷ xs) lexes s forms (Ok (Some f)) fault declared = inr (x ∷ xs, lexes, inr (inr (s, forms, fault)))
  ends-read n after (x ∷ xs) lexes s forms (Err none) fault declared = tt

  pub fails-form : (lexemes : List Lexeme) → Lexes line lexemes → begins_with_word d lexemes ≡ true
      → ((s : Statement) → ¬ Forms d lexemes s) → Fails stage d line (coded 2)
  fails-form [] lexes word none = cc
  fails-form (x ∷ xs) lexes word none = inr (x ∷ xs, lexes, inr (inl (word, none, refl)))

  -- the first lexeme of the line, and the characters that follow it
  module _ (first : Lexeme) (rest : List ℕ) (begins : Begins line first rest) where
    -- a character of the line begins no lexeme
    pub not-lexed : ((all : List Lexeme) → ¬ Lexes rest all) → (all : List Lexeme) → ¬ Lexes line all
    not-lexed never [] is = Begins-not-ignored line first rest begins is
    not-lexed never (x ∷ xs) is = never xs (subst (λ t. Lexes t xs) (sym (Begins-same line first x rest is.0 begins is.1).1) is.2)

    pub fails-bad : ((all : List Lexeme) → ¬ Lexes rest all) → Fails stage d line (coded 2)
    fails-bad never = inl (not-lexed never, refl)

    pub fails-word : (others : List Lexeme) → Lexes rest others → begins_with_word d (first ∷ others) ≡ false → Fails stage d line (coded 3)
    fails-word others is no_word = inr (first ∷ others, (rest, begins, is), inl (no_word, refl))

  -- no line in its form is read of what follows, whose characters are lexemes or not
  pub fails-unread : (first : Lexeme) (text : List ℕ) → Begins line first (chars text) → begins_with_word d (first ∷ []) ≡ true
      → ((others : List Lexeme) → Lexes (chars text) others → (s : Statement) → ¬ Forms d (first ∷ others) s)
      → Fails stage d line (coded 2)
  fails-unread first text begins word none = by_test (is_whole text)
      (λ whole. let is = whole-lexed text whole in
      fails-form (first ∷ lexemes_in text) (chars text, begins, is) (same-word d first (lexemes_in text) word) (none (lexemes_in text) is))
      (λ bad. fails-bad first (chars text) begins (not-lexed-text text bad))
