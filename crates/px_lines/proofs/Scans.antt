-- The lexemes of a text: its first token and the others, and the readings of its characters.
use Rattle.px_lines.proofs.Common.{◌≡◌, ◌<◌, ℕ, zero, suc, Bool, true, false, List, [], ◌∷◌, ◌++◌, length, refl, sym, ap, ◌∙◌, subst, arith, Lexeme, Lexes, found, ignored, bad, first, chars, begins-found, ignored-scanned, found-begins, scanned-ignored, Begins-same, Begins-shorter, Begins-not-ignored, scan_within, scan, with_first, sign, sign_in, stops, after-is, and_parts, list_all, lexemes_in, is_whole, Result, Ok, Err, Option, Some, None, Token, lexeme_of, IsNext, is_end, Begins, IfOk, IfSome, IsUtf8}
use Rattle.std.specs.Prelude.{IfNone, OnErr, not}
use Rattle.px_script.specs.Scanning.{First, first_at}
use Rattle.px_script.specs.Lexemes.{IsIgnored, is_blank, is_sign}
use Rattle.px_lines.specs.Tokens.{Scans, Skips}
use Rattle.px_lines.proofs.Texts.{chars-parts, skipped}
use Rattle.px_lines.specs.declared.token.BadToken.{BadToken}
use denote.Ref.{Bor}

false-true : {A : Type 0} → false ≡ true → A
false-true e = cc

-- enough steps are enough
enough-by : (n m : ℕ) (cs : List ℕ) (f : First) → first cs ≡ f → length cs < suc n → length cs < suc m
    → ((after : List ℕ) → length after < n → length after < m → scan_within n after ≡ scan_within m after)
    → with_first (scan_within n) f ≡ with_first (scan_within m) f
enough-by n m cs (found l after) e short less recur = let fewer = Begins-shorter cs l after (found-begins cs l after e) in
    ap (λ s. (l ∷ s.0, s.1)) (recur after (omega (arith, fewer, short)) (omega (arith, fewer, less)))
enough-by n m cs ignored e short less recur = refl
enough-by n m cs bad e short less recur = refl

enough : (n m : ℕ) (cs : List ℕ) → length cs < n → length cs < m → scan_within n cs ≡ scan_within m cs
unfolding scan_within
enough zero m cs short less = absurd (omega (arith, short))
enough (suc n) zero cs short less = absurd (omega (arith, less))
enough (suc n) (suc m) cs short less = enough-by n m cs (first cs) refl short less (λ after s l. enough n m after s l)

-- no scan finds a token, where none begins the text and the text has no lexemes
none-first : (cs : List ℕ) → ((l : Lexeme) (rest : List ℕ) → ¬ Begins cs l rest) → ¬ IsIgnored cs → first cs ≡ bad
none-first cs no_token not_ignored = by_first (first cs) refl
  where
    by_first : (f : First) → first cs ≡ f → f ≡ bad
    by_first (found l rest) e = absurd (no_token l rest (found-begins cs l rest e))
    by_first ignored e = absurd (not_ignored (scanned-ignored cs e))
    by_first bad e = refl

module _ (text : List ℕ) where
  pub scan-found : (rest : List ℕ) (l : Lexeme) → Begins (chars text) l (chars rest)
      → (lexemes_in text ≡ l ∷ lexemes_in rest) × (is_whole rest ≡ is_whole text)
  unfolding scan scan_within
  scan-found rest l begins = let fewer = Begins-shorter (chars text) l (chars rest) begins in
      let same : scan text ≡ (l ∷ lexemes_in rest, is_whole rest)
      = ap (with_first (scan_within (length (chars text)))) (begins-found (chars text) l (chars rest) begins)
      ∙ ap (λ s. (l ∷ s.0, s.1)) (enough (length (chars text)) (suc (length (chars rest))) (chars rest) fewer (omega arith)) in
      (ap (λ s. s.0) same, sym (ap (λ s. s.1) same))

  pub scan-ignored : IsIgnored (chars text) → (lexemes_in text ≡ []) × (is_whole text ≡ true)
  unfolding scan scan_within
  scan-ignored is = let same = ap (with_first (scan_within (length (chars text)))) (ignored-scanned (chars text) is) in
      (ap (λ s. s.0) same, ap (λ s. s.1) same)

  module _ (no_token : (l : Lexeme) (rest : List ℕ) → ¬ Begins (chars text) l rest)
      (not_lexed : (all : List Lexeme) → ¬ Lexes (chars text) all) where
    pub scan-bad : (lexemes_in text ≡ []) × (is_whole text ≡ false)
    unfolding scan scan_within
    scan-bad = let same = ap (with_first (scan_within (length (chars text)))) (none-first (chars text) no_token (not_lexed [])) in
        (ap (λ s. s.0) same, ap (λ s. s.1) same)

  -- what `first_token` answers
  pub next-there : (prefix : Option (Token × Bor (List ℕ))) → IfSome prefix (λ p. Begins (chars text) (lexeme_of p.0) (chars p.1.now))
      → IfSome prefix (λ p. IsUtf8 p.1.now) → IfNone prefix (IsIgnored (chars text)) → IsNext text prefix
  next-there None token rest is = (scan-ignored is).0
  next-there (Some p) token rest is = let both = scan-found p.1.now (lexeme_of p.0) token in (both.0, (rest, both.1))

  pub end-there : IsIgnored (chars text) → true ≡ is_end text
  end-there is = let both = scan-ignored is in rw (both.0, both.1) refl

  -- whatever `first_token` answers but the end
  pub no-end : (r : Result (Option (Token × Bor (List ℕ))) BadToken)
      → IfOk r (λ found. IfSome found (λ prefix. Begins (chars text) (lexeme_of prefix.0) (chars prefix.1.now)))
      → OnErr r ((l : Lexeme) (rest : List ℕ) → ¬ Begins (chars text) l rest)
      → OnErr r ((all : List Lexeme) → ¬ Lexes (chars text) all) → (r ≡ Ok None → false ≡ true) → false ≡ is_end text
  no-end (Ok None) token no_token not_lexed other = false-true (other refl)
  no-end (Ok (Some p)) token no_token not_lexed other = let both = scan-found p.1.now (lexeme_of p.0) token in rw both.0 refl
  no-end (Err x) token no_token not_lexed other = let both = scan-bad no_token not_lexed in rw (both.0, both.1) refl

-- ---- a sign in front

-- the characters begin with the sign that is found in front, since they begin with no blank
sign-first : (cs : List ℕ) (s : ℕ) (rest : List ℕ) → stops is_blank cs ≡ true → first_at cs ≡ found (sign s) rest
    → (cs ≡ s ∷ rest) × (is_sign s ≡ true)
sign-first cs s rest stop e = let begins = found-begins cs (sign s) rest (ap first_at (after-is is_blank [] cs refl stop) ∙ e) in
    (no_blanks begins.blanks (begins.whole ∙ ap (λ t. begins.blanks ++ (t ++ rest)) begins.is_lexeme.1) begins.blank, begins.is_lexeme.0)
  where
    no_blanks : (blanks : List ℕ) → cs ≡ blanks ++ (s ∷ rest) → list_all is_blank blanks ≡ true → cs ≡ s ∷ rest
    no_blanks [] whole blank = whole
    no_blanks (x ∷ xs) whole blank = let both = and_parts (is_blank x) (list_all is_blank xs) blank in
        let stops_there : stops is_blank (x ∷ (xs ++ (s ∷ rest))) ≡ true = rw whole at stop in
        false-true (sym (ap not both.0) ∙ stops_there)

none-unless : (others : List ℕ → List Lexeme × Bool) (f : First) → ((s : ℕ) (rest : List ℕ) → ¬ (f ≡ found (sign s) rest))
    → None ≡ sign_in (with_first others f).0
none-unless others (found (sign s) rest) never = absurd (never s rest refl)
none-unless others _ never = refl

-- what stands after the blanks of a text
module _ (text after : List ℕ) (u : IsUtf8 text) (v : IsUtf8 after) (skip : Skips is_blank text after) where
  pub sign-begins : (c : ℕ) (rest : List ℕ) → chars after ≡ c ∷ chars rest → is_sign c ≡ true → Begins (chars text) (sign c) (chars rest)
  sign-begins c rest characters is = record {
    blanks = chars skip.prefix;
    text = c ∷ [];
    whole = chars-parts text skip.prefix after u skip.whole v ∙ ap (λ t. chars skip.prefix ++ t) characters;
    blank = skip.all;
    is_lexeme = (is, refl);
    ends = tt;
  }

  pub no-sign : ((s : ℕ) (rest : List ℕ) → chars after ≡ s ∷ rest → ¬ (is_sign s ≡ true)) → None ≡ sign_in (lexemes_in text)
  unfolding scan scan_within
  no-sign never = none-unless (scan_within (length (chars text))) (first (chars text)) (λ s rest e.
      let both = sign-first (chars after) s rest skip.stop (ap first_at (skipped is_blank text after u v skip) ∙ e) in never s rest both.0 both.1)

-- ---- the readings of characters

bad-begins : (cs : List ℕ) → first cs ≡ bad → (l : Lexeme) (rest : List ℕ) → ¬ Begins cs l rest
bad-begins cs e l rest begins = let no = begins-found cs l rest begins in cc

bad-lexed : (cs : List ℕ) → first cs ≡ bad → (all : List Lexeme) → ¬ Lexes cs all
bad-lexed cs e [] is = let no = ignored-scanned cs is in cc
bad-lexed cs e (m ∷ ms) is = bad-begins cs e m is.0 is.1

-- what a scan answers, said of the text
module _ (cs : List ℕ) where
  pub scans-token : (r : Result (Option (Token × Bor (List ℕ))) BadToken) → Scans r (first cs)
      → IfOk r (λ found. IfSome found (λ prefix. Begins cs (lexeme_of prefix.0) (chars prefix.1.now)))
  scans-token (Ok (Some p)) e = found-begins cs (lexeme_of p.0) (chars p.1.now) e.0
  scans-token (Ok None) e = tt
  scans-token (Err x) e = tt

  pub scans-ignored : (r : Result (Option (Token × Bor (List ℕ))) BadToken) → Scans r (first cs)
      → IfOk r (λ found. IfNone found (IsIgnored cs))
  scans-ignored (Ok (Some p)) e = tt
  scans-ignored (Ok None) e = scanned-ignored cs e
  scans-ignored (Err x) e = tt

  pub scans-none : (r : Result (Option (Token × Bor (List ℕ))) BadToken) → Scans r (first cs)
      → OnErr r ((l : Lexeme) (rest : List ℕ) → ¬ Begins cs l rest)
  scans-none (Ok prefix) e = tt
  scans-none (Err x) e = bad-begins cs e

  pub scans-bad : (r : Result (Option (Token × Bor (List ℕ))) BadToken) → Scans r (first cs)
      → OnErr r ((all : List Lexeme) → ¬ Lexes cs all)
  scans-bad (Ok prefix) e = tt
  scans-bad (Err x) e = bad-lexed cs e

abbrev Reads : List ℕ → List Lexeme × Bool → Type 0
Reads cs (lexemes, true) = Lexes cs lexemes
Reads cs (lexemes, false) = (all : List Lexeme) → ¬ Lexes cs all

reads-by : (n : ℕ) (cs : List ℕ) (f : First) → first cs ≡ f → length cs < suc n
    → ((after : List ℕ) → length after < n → Reads after (scan_within n after)) → Reads cs (with_first (scan_within n) f)
reads-by n cs ignored e short recur = scanned-ignored cs e
reads-by n cs bad e short recur = bad-lexed cs e
reads-by n cs (found l after) e short recur = let fewer = Begins-shorter cs l after (found-begins cs l after e) in
    more (scan_within n after) (recur after (omega (arith, fewer, short)))
  where
    not_any : ((all : List Lexeme) → ¬ Lexes after all) → (all : List Lexeme) → ¬ Lexes cs all
    not_any never [] is = Begins-not-ignored cs l after (found-begins cs l after e) is
    not_any never (m ∷ ms) is = let same = Begins-same cs l m after is.0 (found-begins cs l after e) is.1 in
        never ms (subst (λ t. Lexes t ms) (sym same.1) is.2)

    more : (s : List Lexeme × Bool) → Reads after s → Reads cs (l ∷ s.0, s.1)
    more (ls, true) reads = (after, found-begins cs l after e, reads)
    more (ls, false) reads = not_any reads

reads-within : (n : ℕ) (cs : List ℕ) → length cs < n → Reads cs (scan_within n cs)
unfolding scan_within
reads-within zero cs short = absurd (omega (arith, short))
reads-within (suc n) cs short = reads-by n cs (first cs) refl short (λ after s. reads-within n after s)

reads : (text : List ℕ) → Reads (chars text) (scan text)
unfolding scan
reads text = reads-within (suc (length (chars text))) (chars text) (omega arith)

pub whole-lexed : (text : List ℕ) → is_whole text ≡ true → Lexes (chars text) (lexemes_in text)
whole-lexed text e = subst (λ b. Reads (chars text) (lexemes_in text, b)) e (reads text)

pub not-lexed : (text : List ℕ) → is_whole text ≡ false → (all : List Lexeme) → ¬ Lexes (chars text) all
not-lexed text e = subst (λ b. Reads (chars text) (lexemes_in text, b)) e (reads text)

Lexes-same : (xs ys : List Lexeme) (cs : List ℕ) → Lexes cs xs → Lexes cs ys → xs ≡ ys
Lexes-same [] [] cs a b = refl
Lexes-same [] (y ∷ ys) cs a b = Begins-not-ignored cs y b.0 b.1 a
Lexes-same (x ∷ xs) [] cs a b = Begins-not-ignored cs x a.0 a.1 b
Lexes-same (x ∷ xs) (y ∷ ys) cs a b = let same = Begins-same cs x y a.0 b.0 a.1 b.1 in
    let others = Lexes-same xs ys a.0 a.2 (subst (λ t. Lexes t ys) (sym same.1) b.2) in
    ap (λ t. t ∷ xs) same.0 ∙ ap (λ t. y ∷ t) others

-- the lexemes that characters are
pub lexed-same : (text : List ℕ) (all : List Lexeme) → Lexes (chars text) all → (lexemes_in text ≡ all) × (is_whole text ≡ true)
lexed-same text all is = by_whole (is_whole text) refl
  where
    by_whole : (b : Bool) → is_whole text ≡ b → (lexemes_in text ≡ all) × (is_whole text ≡ true)
    by_whole true e = (Lexes-same (lexemes_in text) all (chars text) (whole-lexed text e) is, e)
    by_whole false e = absurd (not-lexed text e all is)

pub found-fewer : (text rest : List ℕ) (l : Lexeme) → lexemes_in text ≡ l ∷ lexemes_in rest → length (lexemes_in rest) < length (lexemes_in text)
found-fewer text rest l is = rw is (omega arith)
