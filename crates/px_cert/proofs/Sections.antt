-- The lines of a claim are determined: what the lines so far say tells the lines.
use Rattle.std.proofs.Common.{◌≡◌, ◌+◌, ℕ, zero, suc, List, [], ◌∷◌, ◌++◌, length, map, refl, sym, ap, ◌∙◌, append_assoc, arith}
use Rattle.std.specs.List.{flat_map}
use Rattle.std.proofs.lemmas.List.{append-nil, length_push, map-append}
use Rattle.std.proofs.lemmas.List.Concat.{flat_map-append}
use Rattle.px_terms.specs.declared.instance.OpInst.{OpInst}
use Rattle.px_terms.specs.declared.problem.Schema.{Schema}
use Rattle.px_proof.specs.declared.proof.Proof.{Proof}
use Rattle.px_terms.specs.Operators.{no_schema}
use Rattle.px_cert.specs.declared.draft.Draft.{Draft}
use Rattle.px_cert.specs.declared.draft.Due.{Due}
use Rattle.px_cert.specs.declared.draft.Due.TheVariants as due
use Rattle.px_cert.specs.Certificates.{Claim, IsCertificate, certificate_text, claim_lines, claim_of, schema_lines}
use Rattle.px_cert.specs.Drafts.{Follow, IsDue, after_line, axioms_then, more_of, no_lines, operators_then, rows_of_due, rows_then, steps_then}
use Rattle.px_cert.specs.Lines.{Line, heading, objects, predicates, axioms, clause, operators, operator, pre, delete, add, table, goal, steps, action, row, line_bytes}
use Rattle.px_cert.specs.Sound.{IsSound, axioms_left, operators_left}
use Rattle.px_cert.proofs.SoundLines.{becomes, no_axioms, sound_begins, sound_more}

-- ---- the lines so far

-- those up to the predicates
abbrev language_lines : Draft → List Line
language_lines d = heading ∷ objects d.objects ∷ predicates d.arities ∷ []

-- those up to the axioms, where so many come
abbrev axiom_lines : Draft → ℕ → List Line
axiom_lines d count = language_lines d ++ (axioms count ∷ map clause d.axioms)

-- those up to the operators, where so many come
abbrev operator_lines : Draft → ℕ → List Line
operator_lines d count = axiom_lines d (length d.axioms) ++ (operators count ∷ flat_map schema_lines d.schemas)

abbrev rule_lines : Draft → List Line
rule_lines d = operator_lines d (length d.schemas)

-- those up to the steps, where so many come
abbrev step_lines : Draft → ℕ → List Line
step_lines d count = rule_lines d ++ (table d.params ∷ goal d.goal_variable_count d.goal ∷ steps count ∷ map action d.steps)

abbrev all_lines : Draft → List Line
all_lines d = step_lines d (length d.steps) ++ map row d.rows

abbrev lines_before : Draft → Due → List Line
lines_before d due.Heading = []
lines_before d due.Objects = heading ∷ []
lines_before d due.Predicates = heading ∷ objects d.objects ∷ []
lines_before d due.Axioms = language_lines d
lines_before d (due.Axiom more) = axiom_lines d (length d.axioms + (more + 1))
lines_before d due.Operators = axiom_lines d (length d.axioms)
lines_before d (due.Operator more) = operator_lines d (length d.schemas + (more + 1))
lines_before d (due.Pre more) = operator_lines d (length d.schemas + (more + 1)) ++ (operator d.schema.param_sorts ∷ [])
lines_before d (due.Delete more) =
    operator_lines d (length d.schemas + (more + 1)) ++ (operator d.schema.param_sorts ∷ pre d.schema.pre ∷ [])
lines_before d (due.Add more) =
    operator_lines d (length d.schemas + (more + 1)) ++ (operator d.schema.param_sorts ∷ pre d.schema.pre ∷ delete d.schema.del ∷ [])
lines_before d due.Table = rule_lines d
lines_before d due.Goal = rule_lines d ++ (table d.params ∷ [])
lines_before d due.Steps = rule_lines d ++ (table d.params ∷ goal d.goal_variable_count d.goal ∷ [])
lines_before d (due.Step more rows) = step_lines d (length d.steps + (more + 1))
lines_before d (due.Row more) = all_lines d
lines_before d due.Nothing = all_lines d

-- there are no steps and rows before their lines
abbrev IsUnbegun : Draft → Due → Type 0
IsUnbegun d (due.Step more rows) = d.rows ≡ []
IsUnbegun d (due.Row more) = Unit {0}
IsUnbegun d due.Nothing = Unit {0}
IsUnbegun d what = (d.steps ≡ []) × (d.rows ≡ [])

-- ---- after counts

axioms_then-before : (d : Draft) (count : ℕ) → lines_before d (axioms_then count) ≡ axiom_lines d (length d.axioms + count)
axioms_then-before d zero = let e : length d.axioms ≡ length d.axioms + 0 = omega arith in ap (axiom_lines d) e
axioms_then-before d (suc more) =
    let e : length d.axioms + (more + 1) ≡ length d.axioms + suc more = omega arith in ap (axiom_lines d) e

operators_then-before : (d : Draft) (count : ℕ) → lines_before d (operators_then count) ≡ operator_lines d (length d.schemas + count)
operators_then-before d zero = let e : length d.schemas ≡ length d.schemas + 0 = omega arith in ap (operator_lines d) e
operators_then-before d (suc more) =
    let e : length d.schemas + (more + 1) ≡ length d.schemas + suc more = omega arith in ap (operator_lines d) e

rows_then-before : (d : Draft) (count : ℕ) → lines_before d (rows_then count) ≡ all_lines d
rows_then-before d zero = refl
rows_then-before d (suc more) = refl

steps_then-before : (d : Draft) (count rows : ℕ) → d.rows ≡ [] → lines_before d (steps_then count rows) ≡ step_lines d (length d.steps + count)
steps_then-before d zero rows nothing =
    let e : length d.steps ≡ length d.steps + 0 = omega arith in
    rows_then-before d rows ∙ ap (λ (rs : List (List Proof)). step_lines d (length d.steps) ++ map row rs) nothing
    ∙ append-nil (step_lines d (length d.steps)) ∙ ap (step_lines d) e
steps_then-before d (suc more) rows nothing =
    let e : length d.steps + (more + 1) ≡ length d.steps + suc more = omega arith in ap (step_lines d) e

axioms_then-unbegun : (d : Draft) (count : ℕ) → (d.steps ≡ []) × (d.rows ≡ []) → IsUnbegun d (axioms_then count)
axioms_then-unbegun d zero is = is
axioms_then-unbegun d (suc more) is = is

operators_then-unbegun : (d : Draft) (count : ℕ) → (d.steps ≡ []) × (d.rows ≡ []) → IsUnbegun d (operators_then count)
operators_then-unbegun d zero is = is
operators_then-unbegun d (suc more) is = is

rows_then-unbegun : (d : Draft) (count : ℕ) → IsUnbegun d (rows_then count)
rows_then-unbegun d zero = tt
rows_then-unbegun d (suc more) = tt

steps_then-unbegun : (d : Draft) (count rows : ℕ) → d.rows ≡ [] → IsUnbegun d (steps_then count rows)
steps_then-unbegun d zero rows nothing = rows_then-unbegun d rows
steps_then-unbegun d (suc more) rows nothing = nothing

-- ---- one line more

empty_is : {A : Type 0} (xs : List A) → length xs ≡ 0 → xs ≡ []
empty_is [] nothing = refl
empty_is (x ∷ xs) nothing = absurd (omega (arith, nothing))

put_four : (prefix behind : List Line) (o w x y z : Line)
    → prefix ++ (o ∷ (behind ++ (w ∷ x ∷ y ∷ z ∷ []))) ≡ ((prefix ++ (o ∷ behind)) ++ (w ∷ x ∷ y ∷ [])) ++ (z ∷ [])
put_four prefix behind o w x y z =
    sym (append_assoc (prefix ++ (o ∷ behind)) (w ∷ x ∷ y ∷ []) (z ∷ []) ∙ append_assoc prefix (o ∷ behind) (w ∷ x ∷ y ∷ z ∷ []))

-- the lines before what is due after this line
abbrev Adds : Draft → Due → Line → Type 0
Adds d what line = lines_before (after_line d line) (after_line d line).due ≡ lines_before d what ++ (line ∷ [])

adds_after : (d : Draft) (what : Due) (line : Line) → d.due ≡ what → IsSound d → IsUnbegun d what → IsDue d what line → Adds d what line
adds_after d due.Heading line e sound nothing is = becomes (Adds d due.Heading) line _ is refl
adds_after d due.Objects line e sound nothing is = becomes (Adds d due.Objects) line _ is.1 refl
adds_after d due.Predicates line e sound nothing is = becomes (Adds d due.Predicates) line _ is.1 refl
adds_after d due.Axioms line e sound nothing is =
    let no_axiom = no_axioms d sound (ap axioms_left e) (ap operators_left e) in
    let empty = empty_is d.axioms no_axiom in
    let count : length d.axioms + is.0 ≡ is.0 = omega (arith, no_axiom) in
    becomes (Adds d due.Axioms) line _ is.1
    (axioms_then-before (record d { due = axioms_then is.0 }) is.0
    ∙ (λ i. language_lines d ++ (axioms (count i) ∷ map clause (empty i))))
adds_after d (due.Axiom more) line e sound nothing is =
    let more_is = ap more_of e in
    let count : length (d.axioms ++ is.0 ∷ []) + more_of d.due ≡ length d.axioms + (more + 1) = omega (arith, length_push d.axioms is.0, more_is) in
    let lines = map-append clause d.axioms (is.0 ∷ []) in
    becomes (Adds d (due.Axiom more)) line _ is.1
    (axioms_then-before (record d { due = axioms_then (more_of d.due); axioms = d.axioms ++ is.0 ∷ [] }) (more_of d.due)
    ∙ (λ i. language_lines d ++ (axioms (count i) ∷ lines i)))
adds_after d due.Operators line e sound nothing is =
    let few = sound.few_operators in
    let left = ap operators_left e in
    let no_schema_yet : length d.schemas ≡ 0 = omega (arith, few, left) in
    let empty = empty_is d.schemas no_schema_yet in
    let count : length d.schemas + is.0 ≡ is.0 = omega (arith, no_schema_yet) in
    becomes (Adds d due.Operators) line _ is.1
    (operators_then-before (record d { due = operators_then is.0 }) is.0
    ∙ (λ i. axiom_lines d (length d.axioms) ++ (operators (count i) ∷ flat_map schema_lines (empty i))))
adds_after d (due.Operator more) line e sound nothing is =
    becomes (Adds d (due.Operator more)) line _ is.1
    (ap (λ (k : ℕ). operator_lines d (length d.schemas + (k + 1)) ++ (operator is.0 ∷ [])) (ap more_of e))
adds_after d (due.Pre more) line e sound nothing is =
    becomes (Adds d (due.Pre more)) line _ is.1
    (ap (λ (k : ℕ). operator_lines d (length d.schemas + (k + 1)) ++ (operator d.schema.param_sorts ∷ pre is.0 ∷ [])) (ap more_of e)
    ∙ sym (append_assoc (operator_lines d (length d.schemas + (more + 1))) (operator d.schema.param_sorts ∷ []) (pre is.0 ∷ [])))
adds_after d (due.Delete more) line e sound nothing is =
    becomes (Adds d (due.Delete more)) line _ is.1
    (ap (λ (k : ℕ). operator_lines d (length d.schemas + (k + 1)) ++ (operator d.schema.param_sorts ∷ pre d.schema.pre ∷ delete is.0 ∷ []))
    (ap more_of e)
    ∙ sym (append_assoc (operator_lines d (length d.schemas + (more + 1))) (operator d.schema.param_sorts ∷ pre d.schema.pre ∷ [])
    (delete is.0 ∷ [])))
adds_after d (due.Add more) line e sound nothing is =
    let schema : Schema = record d.schema { add = is.0 } in
    let more_is = ap more_of e in
    let count : length (d.schemas ++ schema ∷ []) + more_of d.due ≡ length d.schemas + (more + 1) =
    omega (arith, length_push d.schemas schema, more_is) in
    let lines = flat_map-append schema_lines d.schemas (schema ∷ []) in
    becomes (Adds d (due.Add more)) line _ is.1
    (operators_then-before (record d { due = operators_then (more_of d.due); schemas = d.schemas ++ schema ∷ []; schema = no_schema })
    (more_of d.due)
    ∙ (λ i. axiom_lines d (length d.axioms) ++ (operators (count i) ∷ lines i))
    ∙ put_four (axiom_lines d (length d.axioms)) (flat_map schema_lines d.schemas) (operators (length d.schemas + (more + 1)))
    (operator d.schema.param_sorts) (pre d.schema.pre) (delete d.schema.del) (add is.0))
adds_after d due.Table line e sound nothing is = becomes (Adds d due.Table) line _ is.1 refl
adds_after d due.Goal line e sound nothing is =
    becomes (Adds d due.Goal) line _ is.2 (sym (append_assoc (rule_lines d) (table d.params ∷ []) (goal is.0 is.1 ∷ [])))
adds_after d due.Steps line e sound nothing is =
    let no_step = ap (λ (ts : List OpInst). length ts) nothing.0 in
    let count : length d.steps + is.0 ≡ is.0 = omega (arith, no_step) in
    becomes (Adds d due.Steps) line _ is.1
    (steps_then-before (record d { due = steps_then is.0 (is.0 + 1) }) is.0 (is.0 + 1) nothing.1
    ∙ (λ i. rule_lines d ++ (table d.params ∷ goal d.goal_variable_count d.goal ∷ steps (count i) ∷ map action (nothing.0 i)))
    ∙ sym (append_assoc (rule_lines d) (table d.params ∷ goal d.goal_variable_count d.goal ∷ []) (steps is.0 ∷ [])))
adds_after d (due.Step more rows) line e sound nothing is =
    let more_is = ap more_of e in
    let count : length (d.steps ++ is.0 ∷ []) + more_of d.due ≡ length d.steps + (more + 1) = omega (arith, length_push d.steps is.0, more_is) in
    let lines = map-append action d.steps (is.0 ∷ []) in
    becomes (Adds d (due.Step more rows)) line _ is.1
    (steps_then-before (record d { due = steps_then (more_of d.due) (rows_of_due d.due); steps = d.steps ++ is.0 ∷ [] }) (more_of d.due)
    (rows_of_due d.due) nothing
    ∙ (λ i. rule_lines d ++ (table d.params ∷ goal d.goal_variable_count d.goal ∷ steps (count i) ∷ lines i))
    ∙ sym (append_assoc (rule_lines d)
    (table d.params ∷ goal d.goal_variable_count d.goal ∷ steps (length d.steps + (more + 1)) ∷ map action d.steps) (action is.0 ∷ [])))
adds_after d (due.Row more) line e sound nothing is =
    let lines = map-append row d.rows (is.0 ∷ []) in
    becomes (Adds d (due.Row more)) line _ is.1
    (rows_then-before (record d { due = rows_then (more_of d.due); rows = d.rows ++ is.0 ∷ [] }) (more_of d.due)
    ∙ ap (λ (ls : List Line). step_lines d (length d.steps) ++ ls) lines
    ∙ sym (append_assoc (step_lines d (length d.steps)) (map row d.rows) (row is.0 ∷ [])))
adds_after d due.Nothing line e sound nothing is = absurd is

abbrev StaysUnbegun : Draft → Line → Type 0
StaysUnbegun d line = IsUnbegun (after_line d line) (after_line d line).due

unbegun_after : (d : Draft) (what : Due) (line : Line) → IsUnbegun d what → IsDue d what line → StaysUnbegun d line
unbegun_after d due.Heading line nothing is = becomes (StaysUnbegun d) line _ is nothing
unbegun_after d due.Objects line nothing is = becomes (StaysUnbegun d) line _ is.1 nothing
unbegun_after d due.Predicates line nothing is = becomes (StaysUnbegun d) line _ is.1 nothing
unbegun_after d due.Axioms line nothing is =
    becomes (StaysUnbegun d) line _ is.1 (axioms_then-unbegun (record d { due = axioms_then is.0 }) is.0 nothing)
unbegun_after d (due.Axiom more) line nothing is =
    becomes (StaysUnbegun d) line _ is.1
    (axioms_then-unbegun (record d { due = axioms_then (more_of d.due); axioms = d.axioms ++ is.0 ∷ [] }) (more_of d.due) nothing)
unbegun_after d due.Operators line nothing is =
    becomes (StaysUnbegun d) line _ is.1 (operators_then-unbegun (record d { due = operators_then is.0 }) is.0 nothing)
unbegun_after d (due.Operator more) line nothing is = becomes (StaysUnbegun d) line _ is.1 nothing
unbegun_after d (due.Pre more) line nothing is = becomes (StaysUnbegun d) line _ is.1 nothing
unbegun_after d (due.Delete more) line nothing is = becomes (StaysUnbegun d) line _ is.1 nothing
unbegun_after d (due.Add more) line nothing is =
    becomes (StaysUnbegun d) line _ is.1
    (operators_then-unbegun
    (record d { due = operators_then (more_of d.due); schemas = d.schemas ++ record d.schema { add = is.0 } ∷ []; schema = no_schema })
    (more_of d.due) nothing)
unbegun_after d due.Table line nothing is = becomes (StaysUnbegun d) line _ is.1 nothing
unbegun_after d due.Goal line nothing is = becomes (StaysUnbegun d) line _ is.2 nothing
unbegun_after d due.Steps line nothing is =
    becomes (StaysUnbegun d) line _ is.1
    (steps_then-unbegun (record d { due = steps_then is.0 (is.0 + 1) }) is.0 (is.0 + 1) nothing.1)
unbegun_after d (due.Step more rows) line nothing is =
    becomes (StaysUnbegun d) line _ is.1
    (steps_then-unbegun (record d { due = steps_then (more_of d.due) (rows_of_due d.due); steps = d.steps ++ is.0 ∷ [] }) (more_of d.due)
    (rows_of_due d.due) nothing)
unbegun_after d (due.Row more) line nothing is =
    becomes (StaysUnbegun d) line _ is.1
    (rows_then-unbegun (record d { due = rows_then (more_of d.due); rows = d.rows ++ is.0 ∷ [] }) (more_of d.due))
unbegun_after d due.Nothing line nothing is = absurd is

-- ---- all lines

lines_are : (d : Draft) (lines : List Line) (last : Draft) → IsSound d → IsUnbegun d d.due → Follow d lines last
    → lines_before d d.due ++ lines ≡ lines_before last last.due
lines_are d [] last sound nothing follow =
    append-nil (lines_before d d.due) ∙ ap (λ (e : Draft). lines_before e e.due) (sym follow)
lines_are d (line ∷ lines) last sound nothing follow =
    sym (append_assoc (lines_before d d.due) (line ∷ []) lines)
    ∙ ap (λ (ls : List Line). ls ++ lines) (sym (adds_after d d.due line refl sound nothing follow.0))
    ∙ lines_are (after_line d line) lines last (sound_more d line sound follow.0) (unbegun_after d d.due line nothing follow.0) follow.1

-- those of a whole draft are those of its claim
whole_lines : (d : Draft) → all_lines d ≡ claim_lines (claim_of d).problem (claim_of d).table
whole_lines d = simp append_assoc

pub one_text : (bytes : List ℕ) (claim : Claim) → IsCertificate bytes claim → bytes ≡ certificate_text claim.problem claim.table
one_text bytes claim is =
    let lines : is.lines ≡ lines_before is.last is.last.due = lines_are no_lines is.lines is.last sound_begins (refl, refl) is.follow in
    is.bytes_are ∙ ap (flat_map line_bytes) (lines ∙ ap (lines_before is.last) is.whole ∙ whole_lines is.last)
    ∙ ap (λ (c : Claim). certificate_text c.problem c.table) (sym is.says)
