-- The text of a block is its lines, each with a line feed behind it.
use Rattle.std.proofs.lemmas.Str.{IsUtf8-append, IsUtf8-from_ascii, IsUtf8-nil}
use Rattle.std.proofs.lemmas.Str.Ascii.{IsAscii-cons, IsAscii-nil}
use Rattle.px_printer.specs.Texts.{atom_text, instance_text, after_spaces, text_line}
use Rattle.px_printer.specs.Blocks.{all_proof_words, block_text, line_after, proof_line, step_line}
use Rattle.px_printer.specs.declared.spelling.Spelling.TheVariants.{InBlock}
use Rattle.px_proof.specs.Derivation.{Derivation, derivations}
use Rattle.px_script.specs.Common.{OpInst}
use Rattle.px_script.proofs.Common.{◌≡◌, ℕ, List, [], ◌∷◌, ◌++◌, map, refl, sym, ap, ◌∙◌, arith, append_assoc, append-nil, AllByRecursion, IsUtf8, codes, decimal, flat_map, flat_map-append, NameLists, Atom}
use Rattle.px_saved.proofs.Written.{line_bytes}
use Rattle.px_saved.proofs.Lines.{joined}

module _ (names : NameLists) (name : List ℕ) (params : ℕ) where
  abbrev the_line : List ℕ → List (List ℕ) → List ℕ
  the_line word words = line_bytes names params word words

  abbrev pub step_bytes : OpInst → List ℕ
  step_bytes inst = the_line (codes "step") (instance_text names (InBlock params) inst ∷ [])

  abbrev pub row_bytes : List Derivation → List ℕ
  row_bytes row = the_line (codes "proof") (all_proof_words names (InBlock params) (derivations row))

  abbrev pub goal_bytes : List Atom → List ℕ
  goal_bytes goal = the_line (codes "goal") (map (atom_text names (InBlock params)) goal)

  abbrev pub table_bytes : List ℕ
  table_bytes = the_line (codes "table") (name ∷ decimal params ∷ [])

  abbrev pub end_bytes : List ℕ
  end_bytes = the_line (codes "end") []

  -- the lines of the block
  abbrev pub block_lines : List OpInst → List Atom → List (List Derivation) → List (List ℕ)
  block_lines steps goal rows = table_bytes ∷ (map step_bytes steps ++ (goal_bytes goal ∷ (map row_bytes rows ++ end_bytes ∷ [])))

  -- a line of words
  words-line : (word : List ℕ) (words : List (List ℕ)) → text_line (word ∷ words) ≡ the_line word words ++ 10 ∷ []
  words-line word [] = ap (λ t. t ++ 10 ∷ []) (sym (append-nil word))
  words-line word (next ∷ words) = ap (λ t. word ++ (32 ∷ t)) (words-line next words)
      ∙ sym (append_assoc word (32 ∷ (next ++ after_spaces words)) (10 ∷ []))

  after-line : (word : List ℕ) (words : List (List ℕ)) → line_after word words ≡ the_line word words ++ 10 ∷ []
  after-line word words = sym (append_assoc word (after_spaces words) (10 ∷ []))

  steps-joined : (steps : List OpInst) → flat_map (step_line names (InBlock params)) steps ≡ joined (map step_bytes steps)
  steps-joined [] = refl
  steps-joined (inst ∷ steps) =
      λ i. words-line (codes "step") (instance_text names (InBlock params) inst ∷ []) i ++ steps-joined steps i

  rows-joined : (rows : List (List Derivation)) → flat_map (proof_line names (InBlock params)) rows ≡ joined (map row_bytes rows)
  rows-joined [] = refl
  rows-joined (row ∷ rows) =
      λ i. after-line (codes "proof") (all_proof_words names (InBlock params) (derivations row)) i ++ rows-joined rows i

  joined-both : (xs ys : List (List ℕ)) → joined (xs ++ ys) ≡ joined xs ++ joined ys
  joined-both xs ys = flat_map-append (λ line. line ++ 10 ∷ []) xs ys

  pub block-is-lines : (steps : List OpInst) (goal : List Atom) (rows : List (List Derivation))
      → block_text names name params steps goal rows ≡ joined (block_lines steps goal rows)
  block-is-lines steps goal rows =
      let s = joined (map step_bytes steps) in let g = goal_bytes goal ++ 10 ∷ [] in let r = joined (map row_bytes rows) in
      let e = end_bytes ++ 10 ∷ [] in
      let parts : block_text names name params steps goal rows ≡ (table_bytes ++ 10 ∷ []) ++ ((s ++ (g ++ r)) ++ e) =
      λ i. words-line (codes "table") (name ∷ decimal params ∷ []) i ++ ((steps-joined steps i ++
      (after-line (codes "goal") (map (atom_text names (InBlock params)) goal) i ++ rows-joined rows i))
      ++ words-line (codes "end") [] i) in
      let tail : joined (map row_bytes rows ++ end_bytes ∷ []) ≡ r ++ e =
      joined-both (map row_bytes rows) (end_bytes ∷ []) ∙ ap (λ t. r ++ t) (append-nil e) in
      let whole : joined (map step_bytes steps ++ (goal_bytes goal ∷ (map row_bytes rows ++ end_bytes ∷ []))) ≡ s ++ (g ++ (r ++ e)) =
      joined-both (map step_bytes steps) (goal_bytes goal ∷ (map row_bytes rows ++ end_bytes ∷ [])) ∙ ap (λ t. s ++ (g ++ t)) tail in
      parts ∙ ap (λ t. (table_bytes ++ 10 ∷ []) ++ t)
      (append_assoc s (g ++ r) e ∙ ap (λ t. s ++ t) (append_assoc g r e) ∙ sym whole)

-- texts with line feeds behind them are a text
pub joined-text : (lines : List (List ℕ)) → AllByRecursion IsUtf8 lines → IsUtf8 (joined lines)
joined-text [] all = IsUtf8-nil
joined-text (line ∷ lines) all = IsUtf8-append (line ++ 10 ∷ []) (joined lines)
    (IsUtf8-append line (10 ∷ []) all.0 (IsUtf8-from_ascii (10 ∷ []) (IsAscii-cons 10 [] (omega arith) IsAscii-nil)))
    (joined-text lines all.1)
