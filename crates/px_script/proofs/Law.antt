-- A reader of bytes finds a script exactly where they are one, and a first fault exactly where they have it. So for all bytes exactly one
-- of the two holds, and it determines what it names.
use Rattle.std.specs.Str.{is_utf8}
use Rattle.std.specs.Str.Lossy.{utf8_valid_len}
use Rattle.std.proofs.lemmas.Str.{IsUtf8-from_is_utf8, is_utf8-from_IsUtf8}
use Rattle.px_script.proofs.Common.{Lexeme, Lexes, lines_of, Statement, Declared, OpenBlock, nothing_declared, after_line, content_of, Refusal, fault_at, coded, begins_with_word, Passes, PassAll, Fails, FailsIn, Spells, FirstFault, ReadsOneWay, Stage, ◌≡◌, ℕ, zero, suc, ◌+◌, ◌<◌, ◌==◌, List, [], ◌∷◌, map, take, length, refl, sym, ap, ◌∙◌, inl, inr, arith, Option, None, Some, count_by, IfSome, option_map, IsUtf8, if◌then◌else◌}
use Rattle.px_script.proofs.Forms.{map-there, there, forms-known}
use Rattle.px_script.proofs.ReadRows.{parse-complete, parse-sound}
use Rattle.px_script.proofs.Lexing.{begins-found, found-begins, ignored-scanned, scanned-ignored, Begins-shorter}
use Rattle.px_script.proofs.Lists.{by_test}
use Rattle.px_script.specs.Rows.{parse}
use Rattle.px_script.specs.Scanning.{First, found, ignored, bad, first}

-- ---- the reader

-- what reading ends with: all that is declared, or the line of the first fault and the refusal
pub data Reading : Type 0 where
  passes : Declared → Reading
  fails : ℕ → Refusal → Reading

-- one case for each reading
pub by_reading : {P : Type 0} (Q : Reading → Type 0) → ((left : Declared) → Q (passes left) → P)
    → ((at : ℕ) (refusal : Refusal) → Q (fails at refusal) → P) → (r : Reading) → Q r → P
by_reading Q on_passes on_fails (passes left) = on_passes left
by_reading Q on_passes on_fails (fails at refusal) = on_fails at refusal

-- what the line with these lexemes leaves, or its fault
abbrev pub judged : ℕ → Declared → Statement → Option Refusal → Reading
judged n d s None = passes (after_line n d s)
judged n d s (Some refusal) = fails n refusal

abbrev pub statement_read : Stage → ℕ → Declared → Option Statement → Reading
statement_read stage n d None = fails n (coded 2)
statement_read stage n d (Some s) = judged n d s (fault_at stage d s)

abbrev pub line_read : Stage → ℕ → Declared → Option (List Lexeme) → Reading
line_read stage n d None = fails n (coded 2)
line_read stage n d (Some []) = passes d
line_read stage n d (Some (x ∷ xs)) = if begins_with_word d (x ∷ xs) then statement_read stage n d (parse d (x ∷ xs)) else fails n (coded 3)

-- after the last line no block is open
abbrev pub end_in : Declared → Option OpenBlock → Reading
end_in d None = passes d
end_in d (Some block) = fails block.line (coded 10)

abbrev pub ended : Declared → Reading
ended d = end_in d d.block

-- what follows, unless there was a fault
abbrev pub and_then : Reading → (Declared → Reading) → Reading
and_then (passes next) more = more next
and_then (fails at refusal) more = fails at refusal

-- the lines from number n on, each as its lexemes, where it has some
unfoldable pub lines_read : Stage → ℕ → Declared → List (Option (List Lexeme)) → Reading
lines_read stage n d [] = passes d
lines_read stage n d (line ∷ lines) = and_then (line_read stage n d line) (λ next. lines_read stage (n + 1) next lines)

abbrev pub after_first : First → (List ℕ → Option (List Lexeme)) → Option (List Lexeme)
after_first (found lexeme rest) more = option_map (λ lexemes. lexeme ∷ lexemes) (more rest)
after_first ignored more = Some []
after_first bad more = None

-- the lexemes of a line, at most the given number of them
unfoldable pub scan_by : ℕ → List ℕ → Option (List Lexeme)
scan_by zero line = None
scan_by (suc n) line = after_first (first line) (scan_by n)

abbrev pub scan : List ℕ → Option (List Lexeme)
scan line = scan_by (length line + 1) line

abbrev pub text_read : Stage → List ℕ → Reading
text_read stage bytes = if is_utf8 bytes then and_then (lines_read stage 1 nothing_declared (map scan (lines_of bytes))) ended
    else fails (1 + count_by (λ b. b == 10) (take (utf8_valid_len bytes) bytes)) (coded 1)

-- ---- a scan determines the reading of a line

scan-complete : (n : ℕ) (xs : List Lexeme) (line : List ℕ) → Lexes line xs → length line < n → scan_by n line ≡ Some xs
unfolding scan_by
scan-complete zero xs line lexes short = absurd (omega (arith, short))
scan-complete (suc n) [] line lexes short = ap (λ f. after_first f (scan_by n)) (ignored-scanned line lexes)
scan-complete (suc n) (x ∷ xs) line lexes short = let shorter = Begins-shorter line x lexes.0 lexes.1 in
    ap (λ f. after_first f (scan_by n)) (begins-found line x lexes.0 lexes.1)
    ∙ ap (option_map (λ lexemes. x ∷ lexemes)) (scan-complete n xs lexes.0 lexes.2 (omega (arith, short, shorter)))

scan-sound : (n : ℕ) (line : List ℕ) → IfSome (scan_by n line) (Lexes line)
unfolding scan_by
scan-sound zero line = tt
scan-sound (suc n) line = by (first line) refl (scan-sound n)
  where
    by : (f : First) → first line ≡ f → ((rest : List ℕ) → IfSome (scan_by n rest) (Lexes rest))
        → IfSome (after_first f (scan_by n)) (Lexes line)
    by (found l rest) e more = map-there _ _ (scan_by n rest) (more rest) (λ xs lexes. (rest, found-begins line l rest e, lexes))
    by ignored e more = scanned-ignored line e
    by bad e more = tt

pub scan-lexes : (line : List ℕ) (xs : List Lexeme) → scan line ≡ Some xs → Lexes line xs
scan-lexes line xs e = there (Lexes line) (scan line) xs (scan-sound (length line + 1) line) e

lexes-scan : (line : List ℕ) (xs : List Lexeme) → Lexes line xs → scan line ≡ Some xs
lexes-scan line xs lexes = scan-complete (length line + 1) xs line lexes (omega arith)

by_answer : {A : Type 0} (P : Option A → Type 0) (o : Option A) → (o ≡ None → P None) → ((a : A) → o ≡ Some a → P (Some a)) → P o
by_answer P None on_none on_some = on_none refl
by_answer P (Some a) on_none on_some = on_some a refl

none-if : {A : Type 0} (o : Option A) → ((a : A) → ¬ (o ≡ Some a)) → o ≡ None
none-if o none = by_answer (λ t. t ≡ None) o (λ e. refl) (λ a e. absurd (none a e))

module _ (stage : Stage) where
  -- what a reading says of a line, of lines and of a text

  abbrev pub Says : ℕ → Declared → List ℕ → Reading → Type 0
  Says n d line (passes next) = Passes stage n d line next
  Says n d line (fails at refusal) = Fails stage d line refusal × (at ≡ n)

  abbrev pub LinesSay : ℕ → Declared → List (List ℕ) → Reading → Type 0
  LinesSay n d lines (passes after) = PassAll stage n d lines after
  LinesSay n d lines (fails at refusal) = FailsIn stage n d lines at refusal

  -- with the end of the text
  abbrev EndSays : ℕ → Declared → List (List ℕ) → Reading → Type 0
  EndSays n d lines (passes after) = PassAll stage n d lines after × (after.block ≡ None)
  EndSays n d lines (fails at refusal) = FailsIn stage n d lines at refusal

  abbrev pub TextSays : List ℕ → Reading → Type 0
  TextSays bytes (passes script) = Spells stage bytes script
  TextSays bytes (fails line refusal) = FirstFault stage bytes line refusal

  -- ---- what is so is read so

  said-line : (n : ℕ) (d : Declared) (line : List ℕ) (r : Reading) → Says n d line r → line_read stage n d (scan line) ≡ r
  said-line n d line (passes next) ([], lexes, after) = rw (lexes-scan line [] lexes) (ap passes (sym after))
  said-line n d line (passes next) (x ∷ xs, lexes, (s, forms, free, after)) =
      rw (lexes-scan line (x ∷ xs) lexes, forms-known d (x ∷ xs) s forms, parse-complete d (x ∷ xs) s forms, free) (ap passes (sym after))
  said-line n d line (fails at r) (inl (none, code), here) =
      rw (none-if (scan line) (λ xs e. none xs (scan-lexes line xs e)), code, here) refl
  said-line n d line (fails at r) (inr ([], lexes, never), here) = absurd never
  said-line n d line (fails at r) (inr (x ∷ xs, lexes, inl (unknown, code)), here) =
      rw (lexes-scan line (x ∷ xs) lexes, unknown, code, here) refl
  said-line n d line (fails at r) (inr (x ∷ xs, lexes, inr (inl (word, none, code))), here) =
      let unread = none-if (parse d (x ∷ xs)) (λ s e. none s (parse-sound d (x ∷ xs) s e)) in
      rw (lexes-scan line (x ∷ xs) lexes, word, unread, code, here) refl
  said-line n d line (fails at r) (inr (x ∷ xs, lexes, inr (inr (s, forms, fault))), here) =
      rw (lexes-scan line (x ∷ xs) lexes, forms-known d (x ∷ xs) s forms, parse-complete d (x ∷ xs) s forms, fault, here) refl

  said-lines : (n : ℕ) (d : Declared) (lines : List (List ℕ)) (r : Reading) → EndSays n d lines r
      → and_then (lines_read stage n d (map scan lines)) ended ≡ r
  unfolding lines_read
  said-lines n d [] (passes after) (pass, closed) = ap (end_in d) (ap (λ t. t.block) (sym pass) ∙ closed) ∙ ap passes (sym pass)
  said-lines n d [] (fails at r) (block, open_block, here, code) = ap (end_in d) open_block ∙ rw (here, code) refl
  said-lines n d (line ∷ lines) (passes after) ((next, pass, rest), closed) =
      rw (said-line n d line (passes next) pass) (said-lines (n + 1) next lines (passes after) (rest, closed))
  said-lines n d (line ∷ lines) (fails at r) (inl (fault, here)) = rw (said-line n d line (fails n r) (fault, refl), here) refl
  said-lines n d (line ∷ lines) (fails at r) (inr (next, pass, fault)) =
      rw (said-line n d line (passes next) pass) (said-lines (n + 1) next lines (fails at r) fault)

  said-text : (bytes : List ℕ) (r : Reading) → TextSays bytes r → text_read stage bytes ≡ r
  said-text bytes (passes script) spells = rw (is_utf8-from_IsUtf8 bytes spells.text)
      (said-lines 1 nothing_declared (lines_of bytes) (passes script) (spells.lines, spells.closed))
  said-text bytes (fails line r) (inl (none, at, code)) =
      by_test (is_utf8 bytes) (λ e. absurd (none (IsUtf8-from_is_utf8 bytes e))) (λ e. rw (e, at, code) refl)
  said-text bytes (fails line r) (inr (u, fault)) =
      rw (is_utf8-from_IsUtf8 bytes u) (said-lines 1 nothing_declared (lines_of bytes) (fails line r) fault)

  -- ---- and what is read is so

  lexemes-say : (n : ℕ) (d : Declared) (line : List ℕ) (xs : List Lexeme) → Lexes line xs → Says n d line (line_read stage n d (Some xs))
  lexemes-say n d line [] lexes = ([], lexes, refl)
  lexemes-say n d line (x ∷ xs) lexes = by_test (begins_with_word d (x ∷ xs))
      (λ word. rw word (by_answer (λ o. Says n d line (statement_read stage n d o)) (parse d (x ∷ xs))
      (λ e. (inr (x ∷ xs, lexes, inr (inl (word, (λ s forms. let p = parse-complete d (x ∷ xs) s forms in cc), refl))), refl))
      (λ s e. let forms = parse-sound d (x ∷ xs) s e in by_answer (λ f. Says n d line (judged n d s f)) (fault_at stage d s)
      (λ free. (x ∷ xs, lexes, (s, forms, free, refl))) (λ refusal fault. (inr (x ∷ xs, lexes, inr (inr (s, forms, fault))), refl)))))
      (λ unknown. rw unknown (inr (x ∷ xs, lexes, inl (unknown, refl)), refl))

  pub line-says : (n : ℕ) (d : Declared) (line : List ℕ) → Says n d line (line_read stage n d (scan line))
  line-says n d line = by_answer (λ o. Says n d line (line_read stage n d o)) (scan line)
      (λ e. (inl ((λ xs lexes. let whole = lexes-scan line xs lexes in cc), refl), refl))
      (λ xs e. lexemes-say n d line xs (scan-lexes line xs e))

  pub lines-say : (n : ℕ) (d : Declared) (lines : List (List ℕ)) → LinesSay n d lines (lines_read stage n d (map scan lines))
  unfolding lines_read
  lines-say n d [] = refl
  lines-say n d (line ∷ lines) = by (line_read stage n d (scan line)) (line-says n d line) (λ next. lines-say (n + 1) next lines)
    where
      more : (next : Declared) (r : Reading) → Passes stage n d line next → LinesSay (n + 1) next lines r → LinesSay n d (line ∷ lines) r
      more next (passes after) pass say = (next, pass, say)
      more next (fails at refusal) pass say = inr (next, pass, say)

      by : (r : Reading) → Says n d line r
          → ((next : Declared) → LinesSay (n + 1) next lines (lines_read stage (n + 1) next (map scan lines)))
          → LinesSay n d (line ∷ lines) (and_then r (λ next. lines_read stage (n + 1) next (map scan lines)))
      by (passes next) pass recur = more next (lines_read stage (n + 1) next (map scan lines)) pass (recur next)
      by (fails at refusal) fail recur = inl fail

  open-fails : (n : ℕ) (d : Declared) (lines : List (List ℕ)) (after : Declared) (block : OpenBlock) → PassAll stage n d lines after
      → after.block ≡ Some block → FailsIn stage n d lines block.line (coded 10)
  open-fails n d [] after block pass e = (block, ap (λ t. t.block) (sym pass) ∙ e, refl, refl)
  open-fails n d (line ∷ lines) after block (next, pass, rest) e = inr (next, pass, open-fails (n + 1) next lines after block rest e)

  pub text-says : (bytes : List ℕ) → TextSays bytes (text_read stage bytes)
  text-says bytes = by_test (is_utf8 bytes) (λ e. rw e (by (IsUtf8-from_is_utf8 bytes e) _ (lines-say 1 nothing_declared (lines_of bytes))))
      (λ e. rw e (inl ((λ u. let text = is_utf8-from_IsUtf8 bytes u in cc), refl, refl)))
    where
      by : IsUtf8 bytes → (r : Reading) → LinesSay 1 nothing_declared (lines_of bytes) r → TextSays bytes (and_then r ended)
      by u (passes script) say = by_answer (λ o. TextSays bytes (end_in script o)) script.block
          (λ e. record { text = u; lines = say; closed = e })
          (λ block e. inr (u, open-fails 1 nothing_declared (lines_of bytes) script block say e))
      by u (fails line refusal) say = inr (u, say)

  -- ---- the law

  pub reads-one-way : (bytes : List ℕ) → ReadsOneWay stage bytes
  reads-one-way bytes = record {
    one = by_reading (TextSays bytes) (λ script say. inl (script, say)) (λ line refusal say. inr (line, refusal, say))
        (text_read stage bytes) (text-says bytes);
    not_both = λ script line r p q. let a = said-text bytes (passes script) p in let b = said-text bytes (fails line r) q in cc;
    one_script = one-script;
    one_content = λ a b p q. p.is ∙ ap content_of (one-script p.last q.last p.spells q.spells) ∙ sym q.is;
    one_fault = λ k m a b p q. let c = said-text bytes (fails k a) p in let e = said-text bytes (fails m b) q in (cc, cc);
  }
    where
      one-script : (a b : Declared) → Spells stage bytes a → Spells stage bytes b → a ≡ b
      one-script a b p q = let c = said-text bytes (passes a) p in let e = said-text bytes (passes b) q in cc
