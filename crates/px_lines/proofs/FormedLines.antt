-- The line in its form that a word and a text are.
use Rattle.px_lines.proofs.Common.{◌≡◌, Bool, true, false, List, ◌∷◌, ℕ, refl, ap, ◌∙◌, Option, None, Some, option_and_then, if◌then◌else◌, Lexeme, Lexes, chars, IsLexed, if_whole, is_whole, lexemes_in}
use Rattle.px_lines.proofs.Scans.{lexed-same, whole-lexed}
use Rattle.px_script.specs.Rows.{formed_line, formed_only, line_at}
use Rattle.px_script.specs.Declarations.{Declared, has_building}
use Rattle.px_script.specs.Forms.{is_formed}
use Rattle.px_script.specs.Lexemes.{name}
use Rattle.px_script.specs.Statements.{Line}

-- what is read only of a whole text shows that it is whole
pub lexed-read : {A : Type 0} (text : List ℕ) (found : Option A) (a : A) → Some a ≡ if_whole text found → IsLexed (chars text)
lexed-read text found a is = (lexemes_in text, whole-lexed text (by_whole (is_whole text) is))
  where
    by_whole : (b : Bool) → Some a ≡ (if b then found else None) → b ≡ true
    by_whole true e = refl
    by_whole false e = cc

module _ (d : Declared) (lexemes : List Lexeme) (with_building : Bool) (w text : List ℕ) (building : has_building d ≡ with_building)
    (is : Lexes (chars text) lexemes) where
  line-read : (found : Option Line) → found ≡ if_whole text (line_at with_building (name w ∷ lexemes_in text))
      → option_and_then (formed_only d) found ≡ formed_line d (name w ∷ lexemes)
  line-read found e = let same = lexed-same text lexemes is in
      let read : if_whole text (line_at with_building (name w ∷ lexemes_in text)) ≡ line_at (has_building d) (name w ∷ lexemes)
      = rw (same.1, same.0, building) refl in ap (option_and_then (formed_only d)) (e ∙ read)

  pub formed-none : None ≡ if_whole text (line_at with_building (name w ∷ lexemes_in text)) → None ≡ formed_line d (name w ∷ lexemes)
  formed-none e = line-read None e

  module _ (l : Line) (e : Some l ≡ if_whole text (line_at with_building (name w ∷ lexemes_in text))) where
    pub formed-some : is_formed d l ≡ true → Some l ≡ formed_line d (name w ∷ lexemes)
    formed-some formed = rw formed at (line-read (Some l) e)

    pub formed-not : is_formed d l ≡ false → None ≡ formed_line d (name w ∷ lexemes)
    formed-not formed = rw formed at (line-read (Some l) e)
