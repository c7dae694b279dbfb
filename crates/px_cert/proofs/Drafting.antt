-- What the lines so far say stays sound, line by line.
use Rattle.std.proofs.Common.{◌≡◌, ◌+◌, ◌*◌, ℕ, zero, suc, List, [], ◌∷◌, ◌++◌, refl, sym, ap, subst, ◌∙◌, arith}
use Rattle.px_cert.specs.declared.draft.Draft.{Draft}
use Rattle.px_cert.specs.Drafts.{Follow, IsNext, after_line, axioms_then, operators_then, rows_then, steps_then}
use Rattle.px_cert.specs.Lines.{Line}
use Rattle.px_cert.specs.Sound.{axioms_left, lines_left, most_operator_lines, most_table_lines, operators_left}

-- ---- lines that follow each other, and one more

pub follow_more : (d : Draft) (lines : List Line) (last : Draft) (line : Line) → Follow d lines last → IsNext last line
    → Follow d (lines ++ line ∷ []) (after_line last line)
follow_more d [] last line follow next = (subst (λ e. IsNext e line) follow next, ap (λ e. after_line e line) follow)
follow_more d (first ∷ lines) last line follow next = (follow.0, follow_more (after_line d first) lines last line follow.1 next)

-- ---- counts of what is due

pub axioms_then-left : (count : ℕ) → axioms_left (axioms_then count) ≡ count
axioms_then-left zero = refl
axioms_then-left (suc more) = omega arith

pub operators_then-left : (count : ℕ) → operators_left (operators_then count) ≡ count
operators_then-left zero = refl
operators_then-left (suc more) = omega arith

pub rows_then-lines : (count : ℕ) → lines_left (rows_then count) ≡ count
rows_then-lines zero = refl
rows_then-lines (suc more) = omega arith

pub steps_then-lines : (count rows : ℕ) → lines_left (steps_then count rows) ≡ count + rows
steps_then-lines zero rows = let r = rows_then-lines rows in omega (arith, r)
steps_then-lines (suc more) rows = omega arith

pub axioms_then-lines : (count : ℕ) → lines_left (axioms_then count) ≡ count + most_operator_lines
axioms_then-lines zero = refl
axioms_then-lines (suc more) = omega arith

pub operators_then-lines : (count : ℕ) → lines_left (operators_then count) ≡ 4 * count + most_table_lines
operators_then-lines zero = refl
operators_then-lines (suc more) = omega arith
