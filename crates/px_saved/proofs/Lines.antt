-- Bytes that end with a line feed, and more lines after them: their lines are the old ones and the new ones.
use Rattle.std.specs.Prelude.{◌-◌}
use Rattle.std.specs.List.{slice_split, onto_first}
use Rattle.std.specs.Str.{chars}
use Rattle.std.proofs.lemmas.List.Splits.{length-slice_split, slice_split_at}
use Rattle.std.proofs.lemmas.Str.{chars-nil}
use Rattle.px_script.specs.Lines.{mark, without_mark, without_return}
use Rattle.px_script.proofs.Common.{◌≡◌, ℕ, zero, suc, ◌+◌, ◌<◌, ◌==◌, Bool, true, false, not, List, [], ◌∷◌, ◌++◌, map, length, take, drop, refl, sym, ap, ◌∙◌, subst, arith, append_assoc, map-append, flat_map, list_all, AllByRecursion, All-from_recursion, slice_index, bytes_eq, and_parts, not-true, if◌then◌else◌, lines_of, Declared, nothing_declared, Stage, Passes, PassAll}
use Rattle.px_script.proofs.Lexing.{Begins-shorter}
use Rattle.px_script.proofs.Lists.{by_test}
use Rattle.px_saved.proofs.Clean.{and-false}
use Rattle.px_saved.proofs.Words.{is_inside, is_in_line}

abbrev feed : ℕ → Bool
feed b = b == 10

-- ---- the parts between line feeds

onto-prefix : (x : ℕ) (xs ys : List (List ℕ)) → 0 < length xs → onto_first x (xs ++ ys) ≡ onto_first x xs ++ ys
onto-prefix x [] ys some = absurd (omega (arith, some))
onto-prefix x (l ∷ xs) ys some = refl

split-append : (prefix text : List ℕ) → slice_split feed (prefix ++ 10 ∷ text) ≡ slice_split feed prefix ++ slice_split feed text
split-append [] text = refl
split-append (x ∷ xs) text = by_test (x == 10) (λ e. rw e (ap (λ l. [] ∷ l) (split-append xs text)))
    (λ e. rw e (ap (onto_first x) (split-append xs text)
    ∙ onto-prefix x (slice_split feed xs) (slice_split feed text) (let count = length-slice_split feed xs in omega (arith, count))))

no-feed : (line : List ℕ) → is_in_line line ≡ true → AllByRecursion (λ b. feed b ≡ false) line
no-feed [] inside = tt
no-feed (c ∷ cs) inside = let both = and_parts (is_inside c) (list_all is_inside cs) inside in
    (not-true (c == 10) (and_parts (not (c == 10)) (not (c == 13)) both.0).0, no-feed cs both.1)

no-return : (line : List ℕ) (k : ℕ) → is_in_line line ≡ true → (slice_index line k == 13) ≡ false
no-return [] k inside = refl
no-return (c ∷ cs) zero inside = let both = and_parts (is_inside c) (list_all is_inside cs) inside in
    not-true (c == 13) (and_parts (not (c == 10)) (not (c == 13)) both.0).1
no-return (c ∷ cs) (suc k) inside = no-return cs k (and_parts (is_inside c) (list_all is_inside cs) inside).1

kept-whole : (line : List ℕ) → is_in_line line ≡ true → without_return line ≡ line
kept-whole line inside = ap (λ b. if b then take (length line - 1) line else line) (no-return line (length line - 1) inside)

-- lines, each with a line feed behind it
abbrev pub joined : List (List ℕ) → List ℕ
joined lines = flat_map (λ line. line ++ 10 ∷ []) lines

split-joined : (lines : List (List ℕ)) → AllByRecursion (λ line. is_in_line line ≡ true) lines
    → slice_split feed (joined lines) ≡ lines ++ [] ∷ []
split-joined [] inside = refl
split-joined (line ∷ lines) inside = ap (slice_split feed) (append_assoc line (10 ∷ []) (joined lines))
    ∙ slice_split_at feed line 10 (joined lines) (All-from_recursion (λ b. feed b ≡ false) line (no-feed line inside.0)) refl
    ∙ ap (λ l. line ∷ l) (split-joined lines inside.1)

-- ---- the byte order mark

-- What stands before the line feed, without a mark, is the same whatever comes after it.
record Apart (prefix : List ℕ) : Type 0 where
  rest : List ℕ
  same : (text : List ℕ) → without_mark (prefix ++ 10 ∷ text) ≡ rest ++ 10 ∷ text

unmarked : (bytes : List ℕ) → bytes_eq (take 3 bytes) mark ≡ false → without_mark bytes ≡ bytes
unmarked bytes e = ap (λ b. if b then drop 3 bytes else bytes) e

apart : (prefix : List ℕ) → Apart prefix
apart [] = record { rest = []; same = λ text. refl }
apart (b ∷ []) = record { rest = b ∷ []; same = λ text. unmarked (b ∷ 10 ∷ text) (and-false (b == 0xEF) _ refl) }
apart (b ∷ c ∷ []) = record {
  rest = b ∷ c ∷ [];
  same = λ text. unmarked (b ∷ c ∷ 10 ∷ text) (and-false (b == 0xEF) _ (and-false (c == 0xBB) _ refl));
}
apart (b ∷ c ∷ d ∷ more) = by_test (bytes_eq (b ∷ c ∷ d ∷ []) mark)
    (λ e. record { rest = more; same = λ text. ap (λ t. if t then more ++ 10 ∷ text else b ∷ c ∷ d ∷ (more ++ 10 ∷ text)) e })
    (λ e. record { rest = b ∷ c ∷ d ∷ more; same = λ text. unmarked (b ∷ c ∷ d ∷ (more ++ 10 ∷ text)) e })

-- ---- lines that pass

module _ (stage : Stage) where
  pass-more : (n : ℕ) (d mid after : Declared) (lines more : List (List ℕ)) → PassAll stage n d lines mid
      → ((m : ℕ) → PassAll stage m mid more after) → PassAll stage n d (lines ++ more) after
  pass-more n d mid after [] more pass next = subst (λ t. PassAll stage n t more after) pass (next n)
  pass-more n d mid after (line ∷ lines) more pass next =
      (pass.0, pass.1, pass-more (n + 1) pass.0 mid after lines more pass.2 next)

  -- an empty line leaves what there is
  empty-passes : (n : ℕ) (d : Declared) → Passes stage n d (chars (without_return [])) d
  empty-passes n d = ([], record { blanks = []; rest = []; whole = chars-nil; blank = refl; comment = refl }, refl)

  empty-leaves : (n : ℕ) (d after : Declared) → Passes stage n d (chars (without_return [])) after → after ≡ d
  empty-leaves n d after ([], lexes, pass) = pass
  empty-leaves n d after (l ∷ ls, lexes, pass) =
      let short = Begins-shorter (chars (without_return [])) l lexes.0 lexes.1 in
      let none : length (chars (without_return [])) ≡ 0 = ap length chars-nil in absurd (omega (arith, short, none))

  without-last : (n : ℕ) (d after : Declared) (lines : List (List ℕ)) → PassAll stage n d (lines ++ chars (without_return []) ∷ []) after
      → PassAll stage n d lines after
  without-last n d after [] pass = pass.2 ∙ empty-leaves n d pass.0 pass.1
  without-last n d after (line ∷ lines) pass = (pass.0, pass.1, without-last (n + 1) pass.0 after lines pass.2)

  abbrev line_of_bytes : List ℕ → List ℕ
  line_of_bytes line = chars (without_return line)

  all-whole : (lines : List (List ℕ)) → AllByRecursion (λ line. is_in_line line ≡ true) lines
      → map line_of_bytes lines ≡ map chars lines
  all-whole [] inside = refl
  all-whole (line ∷ lines) inside = λ i. chars (kept-whole line inside.0 i) ∷ all-whole lines inside.1 i

  -- where the bytes up to a line feed pass, and further lines after what they leave, all pass
  pub lines-after : (prefix : List ℕ) (lines : List (List ℕ)) (before after : Declared)
      → AllByRecursion (λ line. is_in_line line ≡ true) lines
      → PassAll stage 1 nothing_declared (lines_of (prefix ++ 10 ∷ [])) before
      → ((m : ℕ) → PassAll stage m before (map chars lines) after)
      → PassAll stage 1 nothing_declared (lines_of (prefix ++ 10 ∷ joined lines)) after
  lines-after prefix lines before after inside old new =
      let a = apart prefix in let prefix_lines = map line_of_bytes (slice_split feed a.rest) in
      let old_lines : lines_of (prefix ++ 10 ∷ []) ≡ prefix_lines ++ line_of_bytes [] ∷ [] =
      ap (λ t. map line_of_bytes (slice_split feed t)) (a.same []) ∙ ap (map line_of_bytes) (split-append a.rest [])
      ∙ map-append line_of_bytes (slice_split feed a.rest) ([] ∷ []) in
      let new_lines : lines_of (prefix ++ 10 ∷ joined lines) ≡ prefix_lines ++ (map chars lines ++ line_of_bytes [] ∷ []) =
      ap (λ t. map line_of_bytes (slice_split feed t)) (a.same (joined lines)) ∙ ap (map line_of_bytes) (split-append a.rest (joined lines))
      ∙ map-append line_of_bytes (slice_split feed a.rest) (slice_split feed (joined lines))
      ∙ ap (λ t. prefix_lines ++ map line_of_bytes t) (split-joined lines inside)
      ∙ ap (λ t. prefix_lines ++ t)
      (map-append line_of_bytes lines ([] ∷ []) ∙ ap (λ t. t ++ line_of_bytes [] ∷ []) (all-whole lines inside)) in
      let before_last = without-last 1 nothing_declared before prefix_lines
      (subst (λ t. PassAll stage 1 nothing_declared t before) old_lines old) in
      subst (λ t. PassAll stage 1 nothing_declared t after) (sym new_lines)
      (pass-more 1 nothing_declared before after prefix_lines (map chars lines ++ line_of_bytes [] ∷ []) before_last
      (λ m. pass-more m before after after (map chars lines) (line_of_bytes [] ∷ []) (new m)
      (λ k. (after, empty-passes k after, refl))))
