-- The line that is read is the next one.
use Rattle.std.proofs.Common.{◌≡◌, ◌<◌, ◌+◌, ℕ, true, false, List, Some, None, refl, ap, subst, ◌∙◌}
use Rattle.std.specs.Prelude.{codes}
use Rattle.std.proofs.lemmas.Option.{same_Some}
use Rattle.px_terms.specs.Limits.{most_arguments, most_clauses}
use Rattle.px_table.specs.Limits.{most_steps}
use Rattle.px_cert.specs.declared.draft.Draft.{Draft}
use Rattle.px_cert.specs.declared.draft.Due.{Due}
use Rattle.px_cert.specs.declared.draft.Due.TheVariants as due
use Rattle.px_cert.specs.Drafts.{after_line}
use Rattle.px_cert.specs.Limits.{most_objects, most_operators, most_predicates, most_table_parameters}
use Rattle.px_cert.specs.Lines.{Line, heading, objects, predicates, axioms, clause, operators, operator, pre, delete, add, table, goal, steps, action, row}
use Rattle.px_cert.specs.Reading.{Parsed, as_line, atoms_at, clause_items, due_line_at, goal_items, heading_items, line_at, line_of, list_at, next_at, number_at, operator_items, row_items, sorts_at, step_items, then_at}
use Rattle.px_cert.specs.Sound.{lines_left}
use Rattle.px_cert.proofs.ClaimLaws.{reads_lines}
use Rattle.px_cert.proofs.Reaching.{Reached, read_more}

-- ---- what each due reads

module _ {A : Type 0} (form : A → Line) where
  then_as : (read : Parsed A) (f : Line → Draft) → then_at (as_line form read) f ≡ then_at read (λ x. f (form x))
  then_as (Some q) f = refl
  then_as None f = refl

  next_is : (d : Draft) (what : Due) (bytes : List ℕ) (read : Parsed A) → d.due ≡ what → due_line_at d what bytes ≡ as_line form read
      → next_at d bytes ≡ then_at read (λ x. after_line d (form x))
  next_is d what bytes read e reads =
      ap (λ (w : Due). then_at (due_line_at d w bytes) (after_line d)) e
      ∙ ap (λ (r : Parsed Line). then_at r (after_line d)) reads ∙ then_as read (after_line d)

module _ (d : Draft) (bytes : List ℕ) where
  pub next-heading : d.due ≡ due.Heading
      → next_at d bytes ≡ then_at (line_of (codes "planex") heading_items bytes) (λ read. after_line d heading)
  unfolding due_line_at
  next-heading e = next_is (λ read. heading) d due.Heading bytes (line_of (codes "planex") heading_items bytes) e refl

  pub next-objects : d.due ≡ due.Objects
      → next_at d bytes ≡ then_at (line_of (codes "objects") (sorts_at most_objects) bytes) (λ read. after_line d (objects read))
  unfolding due_line_at
  next-objects e = next_is objects d due.Objects bytes (line_of (codes "objects") (sorts_at most_objects) bytes) e refl

  pub next-predicates : d.due ≡ due.Predicates
      → next_at d bytes ≡ then_at (line_of (codes "predicates") (list_at (number_at (most_arguments + 1)) most_predicates) bytes)
      (λ read. after_line d (predicates read))
  unfolding due_line_at
  next-predicates e =
      next_is predicates d due.Predicates bytes
      (line_of (codes "predicates") (list_at (number_at (most_arguments + 1)) most_predicates) bytes) e refl

  pub next-axioms : d.due ≡ due.Axioms
      → next_at d bytes ≡ then_at (line_of (codes "axioms") (number_at (most_clauses + 1)) bytes) (λ read. after_line d (axioms read))
  unfolding due_line_at
  next-axioms e = next_is axioms d due.Axioms bytes (line_of (codes "axioms") (number_at (most_clauses + 1)) bytes) e refl

  pub next-axiom : (more : ℕ) → d.due ≡ due.Axiom more
      → next_at d bytes ≡ then_at (line_of (codes "axiom") (clause_items d) bytes) (λ read. after_line d (clause read))
  unfolding due_line_at
  next-axiom more e = next_is clause d (due.Axiom more) bytes (line_of (codes "axiom") (clause_items d) bytes) e refl

  pub next-operators : d.due ≡ due.Operators
      → next_at d bytes ≡ then_at (line_of (codes "operators") (number_at (most_operators + 1)) bytes) (λ read. after_line d (operators read))
  unfolding due_line_at
  next-operators e = next_is operators d due.Operators bytes (line_of (codes "operators") (number_at (most_operators + 1)) bytes) e refl

  pub next-operator : (more : ℕ) → d.due ≡ due.Operator more
      → next_at d bytes ≡ then_at (line_of (codes "operator") (operator_items d) bytes) (λ read. after_line d (operator read))
  unfolding due_line_at
  next-operator more e = next_is operator d (due.Operator more) bytes (line_of (codes "operator") (operator_items d) bytes) e refl

  pub next-pre : (more : ℕ) → d.due ≡ due.Pre more
      → next_at d bytes ≡ then_at (line_of (codes "pre") (atoms_at d d.schema.params false) bytes) (λ read. after_line d (pre read))
  unfolding due_line_at
  next-pre more e = next_is pre d (due.Pre more) bytes (line_of (codes "pre") (atoms_at d d.schema.params false) bytes) e refl

  pub next-delete : (more : ℕ) → d.due ≡ due.Delete more
      → next_at d bytes ≡ then_at (line_of (codes "delete") (atoms_at d d.schema.params true) bytes) (λ read. after_line d (delete read))
  unfolding due_line_at
  next-delete more e = next_is delete d (due.Delete more) bytes (line_of (codes "delete") (atoms_at d d.schema.params true) bytes) e refl

  pub next-add : (more : ℕ) → d.due ≡ due.Add more
      → next_at d bytes ≡ then_at (line_of (codes "add") (atoms_at d d.schema.params false) bytes) (λ read. after_line d (add read))
  unfolding due_line_at
  next-add more e = next_is add d (due.Add more) bytes (line_of (codes "add") (atoms_at d d.schema.params false) bytes) e refl

  pub next-table : d.due ≡ due.Table
      → next_at d bytes ≡ then_at (line_of (codes "table") (sorts_at most_table_parameters) bytes) (λ read. after_line d (table read))
  unfolding due_line_at
  next-table e = next_is table d due.Table bytes (line_of (codes "table") (sorts_at most_table_parameters) bytes) e refl

  pub next-goal : d.due ≡ due.Goal
      → next_at d bytes ≡ then_at (line_of (codes "goal") (goal_items d) bytes) (λ read. after_line d (goal read.0 read.1))
  unfolding due_line_at
  next-goal e = next_is (λ read. goal read.0 read.1) d due.Goal bytes (line_of (codes "goal") (goal_items d) bytes) e refl

  pub next-steps : d.due ≡ due.Steps
      → next_at d bytes ≡ then_at (line_of (codes "steps") (number_at (most_steps + 1)) bytes) (λ read. after_line d (steps read))
  unfolding due_line_at
  next-steps e = next_is steps d due.Steps bytes (line_of (codes "steps") (number_at (most_steps + 1)) bytes) e refl

  pub next-step : (more rows : ℕ) → d.due ≡ due.Step more rows
      → next_at d bytes ≡ then_at (line_of (codes "step") (step_items d) bytes) (λ read. after_line d (action read))
  unfolding due_line_at
  next-step more rows e = next_is action d (due.Step more rows) bytes (line_of (codes "step") (step_items d) bytes) e refl

  pub next-row : (more : ℕ) → d.due ≡ due.Row more
      → next_at d bytes ≡ then_at (line_of (codes "row") (row_items d) bytes) (λ read. after_line d (row read))
  unfolding due_line_at
  next-row more e = next_is row d (due.Row more) bytes (line_of (codes "row") (row_items d) bytes) e refl

  pub next-nothing : d.due ≡ due.Nothing → next_at d bytes ≡ None
  unfolding due_line_at
  next-nothing e = ap (λ (w : Due). then_at (due_line_at d w bytes) (after_line d)) e

-- ---- from line to line

then_some : (read : Parsed Line) (f : Line → Draft) (new : Draft) (rest : List ℕ) → then_at read f ≡ Some (new, rest)
    → (line : Line) × (read ≡ Some (line, rest)) × (f line ≡ new)
then_some (Some q) f new rest e =
    let same = same_Some (f q.0, q.1) (new, rest) e in
    (q.0, ap (λ (p : Draft × List ℕ). Some (q.0, p.1)) same, ap (λ (p : Draft × List ℕ). p.0) same)
then_some None f new rest e = absurd (cc)

then_none : (read : Parsed Line) (f : Line → Draft) → then_at read f ≡ None → read ≡ None
then_none (Some q) f e = absurd (cc)
then_none None f e = refl

pub no_line : (d : Draft) (rest : List ℕ) → next_at d rest ≡ None → line_at d rest ≡ None
no_line d rest e = then_none (line_at d rest) (after_line d) e

pub reach_on : (bytes : List ℕ) (d : Draft) (rest : List ℕ) (number : ℕ) (new : Draft) (left : List ℕ) → Reached bytes d rest number
    → next_at d rest ≡ Some (new, left) → Reached bytes new left (number + 1) × (lines_left new.due < lines_left d.due)
reach_on bytes d rest number new left at e =
    let r = then_some (line_at d rest) (after_line d) new left e in
    let t = reads_lines.takes d rest r.0 left at.sound r.1 in
    subst (λ (x : Draft). Reached bytes x left (number + 1) × (lines_left x.due < lines_left d.due)) r.2
    (read_more reads_lines bytes d rest number r.0 left at r.1, reads_lines.falls d r.0 t.1)
