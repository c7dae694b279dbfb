-- The rows of the words are those of the table of `px_script`.
use Rattle.px_lines.proofs.Common.{◌≡◌, ◌∙◌, ℕ, Some, None, Option, Bool, true, false, List, [], ◌∷◌, ◌++◌, map, refl, sym, ap, take, drop, option_map, bytes_eq, if◌then◌else◌}
use Rattle.std.specs.List.{find}
use Rattle.std.specs.Prelude.{codes}
use Rattle.px_script.specs.Rows as rows
use Rattle.px_script.specs.Rows.{Entry, disturb_row, entries, entry_among, row_among, row_of}
use Rattle.px_lines.specs.LineViews.{other_rows, row_view}
use Rattle.px_lines.specs.declared.rows.Row.{Row}

-- the first row of the word
abbrev first_of : List ℕ → List rows.Row → Option rows.Row
first_of w [] = None
first_of w (r ∷ more) = if bytes_eq w r.word then Some r else first_of w more

found-first : (w : List ℕ) (rs : List Row)
    → option_map row_view (find (λ (r : Row). bytes_eq w r.word.now) rs) ≡ first_of w (map row_view rs)
found-first w [] = refl
found-first w (r ∷ more) = by_case (bytes_eq w r.word.now) (found-first w more)
  where
    by_case : (b : Bool) → option_map row_view (find (λ (r : Row). bytes_eq w r.word.now) more) ≡ first_of w (map row_view more)
        → option_map row_view (if b then Some r else find (λ (r : Row). bytes_eq w r.word.now) more)
        ≡ (if b then Some (row_view r) else first_of w (map row_view more))
    by_case true is = refl
    by_case false is = is

entry-first : (w : List ℕ) (es : List Entry) → row_among w es ≡ first_of w (map (λ (e : Entry). e.row) es)
entry-first w [] = refl
entry-first w (e ∷ more) = by_case (bytes_eq w e.row.word) (entry-first w more)
  where
    by_case : (b : Bool) → row_among w more ≡ first_of w (map (λ (e : Entry). e.row) more)
        → option_map (λ (e : Entry). e.row) (if b then Some e else entry_among w more)
        ≡ (if b then Some e.row else first_of w (map (λ (e : Entry). e.row) more))
    by_case true is = refl
    by_case false is = is

-- the row of another word is passed over
passed-over : (w : List ℕ) (front back : List rows.Row) (r : rows.Row) → bytes_eq w r.word ≡ false
    → first_of w (front ++ back) ≡ first_of w (front ++ r ∷ back)
passed-over w [] back r other = rw other refl
passed-over w (x ∷ front) back r other =
    ap (λ found. if bytes_eq w x.word then Some x else found) (passed-over w front back r other)

pub other-found : (b : Bool) (w : List ℕ) (rs : List Row) (found : Option Row) → bytes_eq w (codes "disturb") ≡ false
    → found ≡ find (λ (r : Row). bytes_eq w r.word.now) rs → map row_view rs ≡ other_rows b → option_map row_view found ≡ row_of b w
other-found b w rs found other is same = ap (option_map row_view) is ∙ found-first w rs ∙ ap (first_of w) same
    ∙ passed-over w (take 21 (other_rows b)) (drop 21 (other_rows b)) (disturb_row b) other ∙ sym (entry-first w (entries b))
