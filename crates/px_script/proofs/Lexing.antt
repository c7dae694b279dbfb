-- The scan finds the first lexeme exactly where the line begins with one; and a line has at most one reading as lexemes.
use Rattle.unicode_ident.proofs.Computing.{unicode_ident}
use Rattle.px_script.proofs.Common.{is_xid_start-is_xid_continue, Lexeme, name, variable, number, sign, is_blank, is_sign, goes_on, is_comment, IsLexeme, ends_before, Begins, IsIgnored, ◌≡◌, ℕ, ◌<◌, ◌≤◌, Bool, true, false, not, ◌&&◌, ◌||◌, ◌==◌, List, [], ◌∷◌, ◌++◌, length, refl, sym, ap, ◌∙◌, subst, inl, inr, arith, eqb-true, leb-true, length-append, list_any, list_all, AllByRecursion, all_ascii_digits, is_ascii_digit, and_parts, cond, not-true, or_cases, is_xid_continue, is_xid_start-ascii, is_xid_continue-ascii, both_answers, starts_name}
use Rattle.px_script.proofs.Lists.{by_test}
use Rattle.px_script.specs.Scanning.{First, found, ignored, bad, prefix_while, after_while, first_number, first_variable, first_at, first, stops}

-- ---- the longest prefix of a list that passes a test

module _ (p : ℕ → Bool) where
  pub prefix-after : (cs : List ℕ) → prefix_while p cs ++ after_while p cs ≡ cs
  prefix-after [] = refl
  prefix-after (c ∷ cs) = by_test (p c) (λ e. rw e (ap (λ t. c ∷ t) (prefix-after cs))) (λ e. rw e refl)

  pub prefix-all : (cs : List ℕ) → list_all p (prefix_while p cs) ≡ true
  prefix-all [] = refl
  prefix-all (c ∷ cs) = by_test (p c) (λ e. rw (e, e) (prefix-all cs)) (λ e. rw e refl)

  after-stops : (cs : List ℕ) → stops p (after_while p cs) ≡ true
  after-stops [] = refl
  after-stops (c ∷ cs) = by_test (p c) (λ e. rw e (after-stops cs)) (λ e. rw (e, e) refl)

  -- a prefix that passes, before what stops
  pub prefix-is : (prefix rest : List ℕ) → list_all p prefix ≡ true → stops p rest ≡ true → prefix_while p (prefix ++ rest) ≡ prefix
  prefix-is [] [] all stop = refl
  prefix-is [] (c ∷ cs) all stop = rw (not-true (p c) stop) refl
  prefix-is (c ∷ cs) rest all stop = let both = and_parts (p c) _ all in rw both.0 (ap (λ t. c ∷ t) (prefix-is cs rest both.1 stop))

  pub after-is : (prefix rest : List ℕ) → list_all p prefix ≡ true → stops p rest ≡ true → after_while p (prefix ++ rest) ≡ rest
  after-is [] [] all stop = refl
  after-is [] (c ∷ cs) all stop = rw (not-true (p c) stop) refl
  after-is (c ∷ cs) rest all stop = let both = and_parts (p c) _ all in rw both.0 (after-is cs rest both.1 stop)

-- ---- the first characters of lexemes

at_code : (P : ℕ → Type 0) (c k : ℕ) → (c == k) ≡ true → P k → P c
at_code P c k same holds = subst P (sym (eqb-true c k same)) holds

-- what holds of each code of a list holds of one that is among them
at-codes : (P : ℕ → Type 0) (c : ℕ) (codes : List ℕ) → AllByRecursion P codes → list_any (λ s. c == s) codes ≡ true → P c
at-codes P c [] all is = cc
at-codes P c (x ∷ xs) all is = elim (or_cases (c == x) (list_any (λ s. c == s) xs) is)
    [ inl here ↦ at_code P c x here all.0 | inr later ↦ at-codes P c xs all.1 later ]

pub digit-range : (c : ℕ) → is_ascii_digit c ≡ true → (48 ≤ c) × (c ≤ 57)
digit-range c digit = let both = and_parts _ _ digit in (leb-true 48 c both.0, leb-true c 57 both.1)

-- a digit begins no name
digit-starts : (c : ℕ) → is_ascii_digit c ≡ true → starts_name c ≡ false
digit-starts c digit = let range = digit-range c digit in
    ap (λ b. (c == 95) || b) (is_xid_start-ascii c (omega (arith, range.1))) ∙ grind (arith, range.0, range.1)

-- what starts a name may go on one
pub starts-continues : (c : ℕ) → starts_name c ≡ true → is_xid_continue c ≡ true
unfolding unicode_ident
starts-continues c starts = elim (or_cases _ _ starts)
    [ inl line ↦ at_code (λ x. is_xid_continue x ≡ true) c 95 line refl | inr letter ↦ is_xid_start-is_xid_continue c letter ]

-- no lexeme and no comment begins with a blank
blank-bad : (c : ℕ) (cs : List ℕ) → is_blank c ≡ true → first_at (c ∷ cs) ≡ bad
unfolding unicode_ident
blank-bad c cs blank = let P : ℕ → Type 0 = λ x. first_at (x ∷ cs) ≡ bad in
    elim (or_cases _ _ blank) [ inl space ↦ at_code P c 32 space refl | inr tab ↦ at_code P c 9 tab refl ]

-- what goes on no name stops it
stops-name : (cs : List ℕ) → stops is_xid_continue cs ≡ not (goes_on cs)
stops-name [] = refl
stops-name _ = refl

stops-digit : (cs : List ℕ) → goes_on cs ≡ false → stops is_ascii_digit cs ≡ true
stops-digit [] h = refl
stops-digit (c ∷ cs) h = by_test (is_ascii_digit c)
    (λ e. let range = digit-range c e in both_answers (is_xid_continue c) h (is_xid_continue-ascii c (omega (arith, range.1)) ∙ rw e refl))
    (λ e. rw e refl)

pub digits-all : (cs : List ℕ) → all_ascii_digits cs ≡ list_all is_ascii_digit cs
digits-all [] = refl
digits-all (c ∷ cs) = ap (λ b. is_ascii_digit c && b) (digits-all cs)

-- a sign is none of the codes that are tested before
sign-first : (c : ℕ) (cs : List ℕ) → is_sign c ≡ true → first_at (c ∷ cs) ≡ found (sign c) cs
unfolding unicode_ident
sign-first c cs is = at-codes (λ x. first_at (x ∷ cs) ≡ found (sign x) cs) c (40 ∷ 41 ∷ 44 ∷ 126 ∷ 36 ∷ 43 ∷ 45 ∷ 61 ∷ [])
    (refl, (refl, (refl, (refl, (refl, (refl, (refl, (refl, tt)))))))) is

-- ---- what begins with a lexeme is scanned as it

at-lexeme : (l : Lexeme) (text rest : List ℕ) → IsLexeme l text → ends_before l rest → first_at (text ++ rest) ≡ found l rest
unfolding unicode_ident
at-lexeme (name n) [] rest is ends = let no = is.0 in cc
at-lexeme (name n) (c ∷ cs) rest is ends = let both = and_parts (starts_name c) (list_all is_xid_continue cs) is.0 in
    let stop = stops-name rest ∙ ap not ends in
    rw (both.0, prefix-is is_xid_continue cs rest both.1 stop, after-is is_xid_continue cs rest both.1 stop, is.1) refl
at-lexeme (variable n) [] rest is ends = absurd is
at-lexeme (variable n) (m ∷ []) rest is ends = let no = is.1 in cc
at-lexeme (variable n) (m ∷ c ∷ cs) rest is ends = let both = and_parts (starts_name c) (list_all is_xid_continue cs) is.1 in
    let stop = stops-name rest ∙ ap not ends in
    rw (is.0, both.0, prefix-is is_xid_continue cs rest both.1 stop, after-is is_xid_continue cs rest both.1 stop, is.2) refl
at-lexeme (number n) [] rest is ends = absurd (omega (arith, is.0))
at-lexeme (number n) (c ∷ cs) rest is ends =
    let both = and_parts (is_ascii_digit c) (list_all is_ascii_digit cs) (sym (digits-all (c ∷ cs)) ∙ is.1) in
    let range = digit-range c both.0 in
    let hash : (c == 35) ≡ false = grind (arith, range.0) in let mark : (c == 63) ≡ false = grind (arith, range.1) in
    let stop = stops-digit rest ends in let whole = prefix-is is_ascii_digit cs rest both.1 stop in
    rw (digit-starts c both.0, hash, mark, both.0, whole, after-is is_ascii_digit cs rest both.1 stop, ends, is.2) refl
at-lexeme (sign s) text rest is ends = rw is.1 (sign-first s rest is.0)

not-bad-stops : (cs : List ℕ) → ¬ (first_at cs ≡ bad) → stops is_blank cs ≡ true
not-bad-stops [] good = refl
not-bad-stops (c ∷ cs) good = by_test (is_blank c) (λ blank. absurd (good (blank-bad c cs blank))) (λ e. rw e refl)

pub begins-found : (line : List ℕ) (l : Lexeme) (rest : List ℕ) → Begins line l rest → first line ≡ found l rest
begins-found line l rest begins = let here = at-lexeme l begins.text rest begins.is_lexeme begins.ends in
    let stop = not-bad-stops (begins.text ++ rest) (λ e. cc) in
    rw (begins.whole, after-is is_blank begins.blanks (begins.text ++ rest) begins.blank stop) here

comment-ignored : (cs : List ℕ) → is_comment cs ≡ true → first_at cs ≡ ignored
unfolding unicode_ident
comment-ignored [] h = refl
comment-ignored (c ∷ cs) h = at_code (λ x. first_at (x ∷ cs) ≡ ignored) c 35 h refl

pub ignored-scanned : (line : List ℕ) → IsIgnored line → first line ≡ ignored
ignored-scanned line is = let here = comment-ignored is.rest is.comment in
    let stop = not-bad-stops is.rest (λ e. cc) in
    rw (is.whole, after-is is_blank is.blanks is.rest is.blank stop) here

-- ---- what a scan says of the characters after blanks

module _ (blanks : List ℕ) (blank : list_all is_blank blanks ≡ true) where
  abbrev FirstSays : List ℕ → First → Type 0
  FirstSays cs (found l rest) = Begins (blanks ++ cs) l rest
  FirstSays cs ignored = is_comment cs ≡ true
  FirstSays cs bad = Unit {0}

  either : (cs : List ℕ) (x y : First) (b : Bool) → (b ≡ true → FirstSays cs x) → (b ≡ false → FirstSays cs y) → FirstSays cs (cond b x y)
  either cs x y b on_true on_false = by_test b (λ e. rw e (on_true e)) (λ e. rw e (on_false e))

  begins : (l : Lexeme) (text rest cs : List ℕ) → text ++ rest ≡ cs → IsLexeme l text → ends_before l rest → Begins (blanks ++ cs) l rest
  begins l text rest cs whole is ends =
      record { blanks = blanks; text = text; whole = ap (λ t. blanks ++ t) (sym whole); blank = blank; is_lexeme = is; ends = ends }

  -- the characters that go on a name are taken
  name-ends : (cs : List ℕ) → goes_on (after_while is_xid_continue cs) ≡ false
  name-ends cs = not-true _ (sym (stops-name (after_while is_xid_continue cs)) ∙ after-stops is_xid_continue cs)

  variable-says : (cs : List ℕ) → FirstSays (63 ∷ cs) (first_variable cs)
  variable-says [] = tt
  variable-says (c ∷ cs) = either (63 ∷ c ∷ cs) _ _ (starts_name c)
      (λ starts. begins (variable _) (63 ∷ c ∷ prefix_while is_xid_continue cs) (after_while is_xid_continue cs) (63 ∷ c ∷ cs)
      (ap (λ t. 63 ∷ c ∷ t) (prefix-after is_xid_continue cs)) (refl, rw starts (prefix-all is_xid_continue cs), refl) (name-ends cs))
      (λ e. tt)

  number-says : (c : ℕ) (cs : List ℕ) → is_ascii_digit c ≡ true → FirstSays (c ∷ cs) (first_number (c ∷ cs))
  number-says c cs digit = either (c ∷ cs) _ _ (goes_on (after_while is_ascii_digit (c ∷ cs))) (λ e. tt)
      (begins (number _) (prefix_while is_ascii_digit (c ∷ cs)) (after_while is_ascii_digit (c ∷ cs)) (c ∷ cs)
      (prefix-after is_ascii_digit (c ∷ cs))
      (rw digit (omega arith), digits-all (prefix_while is_ascii_digit (c ∷ cs)) ∙ prefix-all is_ascii_digit (c ∷ cs), refl))

  first-says : (cs : List ℕ) → FirstSays cs (first_at cs)
  first-says [] = refl
  first-says (c ∷ cs) = either (c ∷ cs) _ _ (starts_name c)
      (λ starts. begins (name _) (c ∷ prefix_while is_xid_continue cs) (after_while is_xid_continue cs) (c ∷ cs)
      (ap (λ t. c ∷ t) (prefix-after is_xid_continue cs)) (rw starts (prefix-all is_xid_continue cs), refl) (name-ends cs))
      (λ e. either (c ∷ cs) _ _ (c == 35) (λ hash. hash) (λ e. either (c ∷ cs) _ _ (c == 63)
      (λ mark. let P : ℕ → Type 0 = λ x. FirstSays (x ∷ cs) (first_variable cs) in at_code P c 63 mark (variable-says cs))
      (λ e. either (c ∷ cs) _ _ (is_ascii_digit c) (number-says c cs)
      (λ e. either (c ∷ cs) _ _ (is_sign c) (λ is. begins (sign c) (c ∷ []) cs (c ∷ cs) refl (is, refl) tt) (λ e. tt)))))

  said : (cs : List ℕ) (f : First) → first_at cs ≡ f → FirstSays cs f
  said cs f e = subst (FirstSays cs) e (first-says cs)

pub found-begins : (line : List ℕ) (l : Lexeme) (rest : List ℕ) → first line ≡ found l rest → Begins line l rest
found-begins line l rest e = subst (λ t. Begins t l rest) (prefix-after is_blank line)
    (said (prefix_while is_blank line) (prefix-all is_blank line) (after_while is_blank line) (found l rest) e)

pub scanned-ignored : (line : List ℕ) → first line ≡ ignored → IsIgnored line
scanned-ignored line e = let blanks = prefix_while is_blank line in let rest = after_while is_blank line in
    let a = prefix-after is_blank line in let b = prefix-all is_blank line in
    record { blanks = blanks; rest = rest; whole = sym a; blank = b; comment = said [] refl rest ignored e }

-- ---- one reading

-- two lexemes at the front of a line are one
pub Begins-same : (line : List ℕ) (l m : Lexeme) (rest more : List ℕ) → Begins line l rest → Begins line m more → (l ≡ m) × (rest ≡ more)
Begins-same line l m rest more a b = let e = begins-found line l rest a in let f = begins-found line m more b in (cc, cc)

pub Begins-not-ignored : {A : Type 0} (line : List ℕ) (l : Lexeme) (rest : List ℕ) → Begins line l rest → IsIgnored line → A
Begins-not-ignored line l rest a b = let e = begins-found line l rest a in let f = ignored-scanned line b in cc

-- a lexeme has a character
lexeme-long : (l : Lexeme) (text : List ℕ) → IsLexeme l text → 0 < length text
lexeme-long l (c ∷ cs) is = omega arith
lexeme-long (name n) [] is = cc
lexeme-long (variable n) [] is = absurd is
lexeme-long (number n) [] is = is.0
lexeme-long (sign s) [] is = cc

pub Begins-shorter : (line : List ℕ) (l : Lexeme) (rest : List ℕ) → Begins line l rest → length rest < length line
Begins-shorter line l rest begins = let long = lexeme-long l begins.text begins.is_lexeme in
    rw (begins.whole, length-append, length-append) (omega (arith, long))
