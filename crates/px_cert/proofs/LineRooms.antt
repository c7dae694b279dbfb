-- What a line may count on: room for what it says, and what is due after it.
use Rattle.std.proofs.Common.{◌≡◌, ◌≤◌, ◌<◌, ◌+◌, ◌-◌, ℕ, zero, suc, List, [], ◌∷◌, length, Some, sym, ap, subst, arith}
use Rattle.px_terms.specs.declared.clause.Clause.{Clause}
use Rattle.px_terms.specs.Clauses.{IsClause}
use Rattle.px_terms.specs.Limits.{most_clauses, most_parameters}
use Rattle.px_cert.specs.declared.draft.Draft.{Draft}
use Rattle.px_cert.specs.declared.draft.Due.{Due}
use Rattle.px_cert.specs.declared.draft.Due.TheVariants as due
use Rattle.px_cert.specs.Drafts.{Follow, IsDue, after_line, axioms_then, no_lines, operators_then, rows_then, steps_then}
use Rattle.px_cert.specs.Limits.{most_places}
use Rattle.px_cert.specs.Lines.{Line, heading, objects, predicates, axioms, clause, operators, operator, pre, delete, add, table, goal, steps, action, row}
use Rattle.px_cert.specs.Reading.{clause_items, operator_items}
use Rattle.px_cert.specs.Sound.{IsSound, axioms_left}
use Rattle.px_cert.proofs.DueLines.{clause_exact, operator_exact}
use Rattle.px_cert.proofs.SoundLines.{becomes}
use Rattle.px_cert.proofs.ValidDrafts.{clause_of_axiom}

-- ---- what is due afterwards

pub axioms_next : (more : ℕ) → 0 < more → axioms_then more ≡ due.Axiom (more - 1)
axioms_next zero some = absurd (omega (arith, some))
axioms_next (suc more) some = let same : more ≡ suc more - 1 = omega arith in ap due.Axiom same

pub operators_next : (more : ℕ) → 0 < more → operators_then more ≡ due.Operator (more - 1)
operators_next zero some = absurd (omega (arith, some))
operators_next (suc more) some = let same : more ≡ suc more - 1 = omega arith in ap due.Operator same

pub rows_next : (more : ℕ) → 0 < more → rows_then more ≡ due.Row (more - 1)
rows_next zero some = absurd (omega (arith, some))
rows_next (suc more) some = let same : more ≡ suc more - 1 = omega arith in ap due.Row same

pub steps_next : (more rows : ℕ) → 0 < more → steps_then more rows ≡ due.Step (more - 1) rows
steps_next zero rows some = absurd (omega (arith, some))
steps_next (suc more) rows some = let same : more ≡ suc more - 1 = omega arith in ap (λ (k : ℕ). due.Step k rows) same

-- ---- axioms

pub axiom_room : (d : Draft) (more : ℕ) → d.due ≡ due.Axiom more → IsSound d → length d.axioms < most_clauses
axiom_room d more is sound =
    let few = sound.few_clauses in
    let left : axioms_left d.due ≡ more + 1 = ap axioms_left is in
    omega (arith, few, left)

pub axiom_is_clause : (d : Draft) (bytes : List ℕ) (c : Clause) (rest : List ℕ) → IsSound d → clause_items d bytes ≡ Some (c, rest)
    → IsClause c
axiom_is_clause d bytes c rest sound e = clause_of_axiom d c ((clause_exact d sound).takes bytes c rest e).1

-- ---- operators and tables

pub sorts_few : (d : Draft) (bytes sorts rest : List ℕ) → IsSound d → operator_items d bytes ≡ Some (sorts, rest)
    → length sorts ≤ most_parameters
sorts_few d bytes sorts rest sound e = ((operator_exact d sound).takes bytes sorts rest e).1.0.0

-- the lines keep that a table has few parameters
abbrev HasFewParams : Draft → Type 0
HasFewParams d = length d.params ≤ most_places

params_after : (d : Draft) (what : Due) (line : Line) → IsDue d what line → HasFewParams d → HasFewParams (after_line d line)
params_after d due.Heading line is few = becomes (λ l. HasFewParams (after_line d l)) line heading is few
params_after d due.Objects line is few = becomes (λ l. HasFewParams (after_line d l)) line (objects is.0) is.1 few
params_after d due.Predicates line is few = becomes (λ l. HasFewParams (after_line d l)) line (predicates is.0) is.1 few
params_after d due.Axioms line is few = becomes (λ l. HasFewParams (after_line d l)) line (axioms is.0) is.1 few
params_after d (due.Axiom more) line is few = becomes (λ l. HasFewParams (after_line d l)) line (clause is.0) is.1 few
params_after d due.Operators line is few = becomes (λ l. HasFewParams (after_line d l)) line (operators is.0) is.1 few
params_after d (due.Operator more) line is few = becomes (λ l. HasFewParams (after_line d l)) line (operator is.0) is.1 few
params_after d (due.Pre more) line is few = becomes (λ l. HasFewParams (after_line d l)) line (pre is.0) is.1 few
params_after d (due.Delete more) line is few = becomes (λ l. HasFewParams (after_line d l)) line (delete is.0) is.1 few
params_after d (due.Add more) line is few = becomes (λ l. HasFewParams (after_line d l)) line (add is.0) is.1 few
params_after d due.Table line is few = becomes (λ l. HasFewParams (after_line d l)) line (table is.0) is.1 is.2.0
params_after d due.Goal line is few = becomes (λ l. HasFewParams (after_line d l)) line (goal is.0 is.1) is.2 few
params_after d due.Steps line is few = becomes (λ l. HasFewParams (after_line d l)) line (steps is.0) is.1 few
params_after d (due.Step more rows) line is few = becomes (λ l. HasFewParams (after_line d l)) line (action is.0) is.1 few
params_after d (due.Row more) line is few = becomes (λ l. HasFewParams (after_line d l)) line (row is.0) is.1 few
params_after d due.Nothing line is few = absurd is

params_kept : (d : Draft) (lines : List Line) (last : Draft) → HasFewParams d → Follow d lines last → HasFewParams last
params_kept d [] last few follow = subst HasFewParams (sym follow) few
params_kept d (line ∷ lines) last few follow =
    params_kept (after_line d line) lines last (params_after d d.due line follow.0 few) follow.1

pub few_params : (lines : List Line) (last : Draft) → Follow no_lines lines last → length last.params ≤ most_places
few_params lines last follow = params_kept no_lines lines last (omega arith) follow
