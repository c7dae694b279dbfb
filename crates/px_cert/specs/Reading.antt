-- Reading from left to right: what stands at the front of the bytes, and the bytes after it.
use Rattle.std.specs.Prelude.{◌≡◌, ◌==◌, ◌&&◌, ◌||◌, ◌+◌, ◌*◌, ◌-◌, ℕ, Bool, true, false, not, List, [], ◌∷◌, codes, length, take, drop, slice_index, slice_index_or, Option, Some, None, Result, Ok, Err, nat_le, nat_lt, if◌then◌else◌}
use Rattle.std.proofs.Common.{zero, suc, Bor}
use Rattle.std.specs.Char.{is_ascii_digit}
use Rattle.px_terms.specs.declared.atom.Atom.{Atom}
use Rattle.px_terms.specs.declared.clause.Clause.{Clause}
use Rattle.px_terms.specs.declared.clause.Lit.{Lit}
use Rattle.px_terms.specs.declared.instance.OpInst.{OpInst}
use Rattle.px_terms.specs.declared.term.Term.{Term}
use Rattle.px_terms.specs.declared.term.Term.TheVariants.{Obj, Var, Any}
use Rattle.px_terms.specs.Limits.{most_arguments, most_clauses, most_formula_variables, most_literals, most_parameters}
use Rattle.px_terms.specs.Operators.{no_schema}
use Rattle.px_proof.specs.declared.proof.Proof.{Proof}
use Rattle.px_proof.specs.declared.proof.Proof.TheVariants.{Fact, Anc}
use Rattle.px_proof.specs.declared.proof.Proof.TheViews.{Step}
use Rattle.px_table.specs.Limits.{most_steps}
use Rattle.px_cert.specs.declared.draft.Draft.{Draft}
use Rattle.px_cert.specs.declared.draft.Due.{Due}
use Rattle.px_cert.specs.declared.draft.Due.TheVariants as due
use Rattle.px_cert.specs.declared.refused.Refused.{Refused}
use Rattle.px_cert.specs.declared.refused.Refused.TheVariants as refused
use Rattle.px_table.specs.Deciding.{clause_at}
use Rattle.px_cert.specs.Drafts.{after_line}
use Rattle.px_cert.specs.Limits.{greatest_sort, greatest_written_height, most_atoms, most_objects, most_operators, most_places, most_predicates, most_table_parameters, table_variables}
use Rattle.px_cert.specs.Lines.{Line, heading, objects, predicates, axioms, clause, operators, operator, pre, delete, add, table, goal, steps, action, row}

-- ---- answers

infixl 10 ◌>>=◌
abbrev pub ◌>>=◌ : {A B : Type 0} → Option A → (A → Option B) → Option B
(Some x) >>= f = f x
None >>= f = None

-- What a function returned, seen by `view`, is what reading gives, unless memory ran out.
abbrev pub IsRefusal : {Y : Type 0} → Refused → Option Y → Type 0
IsRefusal refused.Bad read = read ≡ None
IsRefusal refused.NoMemory read = Unit {0}

abbrev pub Reads : {X Y : Type 0} → (X → Y) → Result X Refused → Option Y → Type 0
Reads view (Ok x) read = read ≡ Some (view x)
Reads view (Err e) read = IsRefusal e read

-- What a function wrote into a list and returned is what reading gives, unless memory ran out.
abbrev pub ReadsWhole : {A : Type 0} → List A → Result (Bor (List ℕ)) Refused → Option (List A × List ℕ) → Type 0
ReadsWhole made (Ok rest) read = read ≡ Some (made, rest.now)
ReadsWhole made (Err e) read = IsRefusal e read

-- a reader finds what was read, and what is left
abbrev pub Parsed : Type 0 → Type 0
Parsed A = Option (A × List ℕ)

abbrev pub Reader : Type 0 → Type 0
Reader A = List ℕ → Parsed A

-- ---- readers of readers

-- seen so
abbrev pub as_at : {A B : Type 0} → (A → B) → Reader A → Reader B
as_at make item bytes = item bytes >>= λ x. Some (make x.0, x.1)

-- the one, then the other, which may go by it
abbrev pub pair_at : {A B : Type 0} → Reader A → (A → Reader B) → Reader (A × B)
pair_at item next bytes = item bytes >>= λ x. (next x.0 x.1 >>= λ y. Some ((x.0, y.0), y.1))

-- only what passes the test
abbrev pub passing_at : {A : Type 0} → (A → Bool) → Reader A → Reader A
passing_at test item bytes = item bytes >>= λ x. if test x.0 then Some x else None

-- so many
unfoldable pub many_at : {A : Type 0} → Reader A → ℕ → Reader (List A)
many_at item zero bytes = Some ([], bytes)
many_at item (suc more) bytes = item bytes >>= λ first. (many_at item more first.1 >>= λ others. Some (first.0 ∷ others.0, others.1))

-- the one if the front was read, else the other
abbrev pub chosen : {A B : Type 0} → Option A → (A → B) → B → B
chosen (Some x) f other = f x
chosen None f other = other

-- ---- words

-- what is after the text, where the bytes begin with it
abbrev pub after_text : List ℕ → List ℕ → Option (List ℕ)
after_text [] bytes = Some bytes
after_text (c ∷ text) [] = None
after_text (c ∷ text) (b ∷ bytes) = if c == b then after_text text bytes else None

-- the text, then an item
abbrev pub behind : {A : Type 0} → List ℕ → Reader A → Reader A
behind text item bytes = after_text text bytes >>= item

-- how many digits the bytes begin with
abbrev pub digit_count : List ℕ → ℕ
digit_count [] = 0
digit_count (b ∷ bytes) = if is_ascii_digit b then suc (digit_count bytes) else 0

-- the number of the digits, after those that write `number`
abbrev pub read_on : ℕ → List ℕ → ℕ
read_on number [] = number
read_on number (digit ∷ digits) = read_on (10 * number + (digit - 48)) digits

-- a digit, and no further one after a first 0
abbrev pub is_plain : List ℕ → Bool
is_plain digits = nat_le 1 (length digits) && (not (slice_index digits 0 == 48) || length digits == 1)

-- a number below the limit
unfoldable pub digits_at : ℕ → Reader ℕ
digits_at limit bytes =
    let digits = take (digit_count bytes) bytes in
    if is_plain digits && nat_lt (read_on 0 digits) limit then Some (read_on 0 digits, drop (digit_count bytes) bytes) else None

-- the same after a space
unfoldable pub number_at : ℕ → Reader ℕ
number_at limit = behind (codes " ") (digits_at limit)

-- ---- terms and atoms

abbrev pub object_at : ℕ → Reader Term
object_at limit = as_at Obj (digits_at limit)

abbrev pub variable_at : ℕ → Reader Term
variable_at variable_count = as_at Var (digits_at variable_count)

abbrev pub wild_card_at : Bool → Reader Term
wild_card_at wild bytes = after_text (codes " $") bytes >>= λ rest. if wild then Some (Any, rest) else None

-- an object below the first number, a variable below the second, or the wild card where it may stand
unfoldable pub term_at : ℕ → ℕ → Bool → Reader Term
term_at limit variable_count wild bytes =
    chosen (after_text (codes " o") bytes) (object_at limit)
    (chosen (after_text (codes " v") bytes) (variable_at variable_count) (wild_card_at wild bytes))

-- a length, at most so great, and so many items
unfoldable pub list_at : {A : Type 0} → Reader A → ℕ → Reader (List A)
list_at item most = as_at (λ read. read.1) (pair_at (number_at (most + 1)) (many_at item))

abbrev pub atom_of_parts : ℕ × List Term → Atom
atom_of_parts parts = record { pred = parts.0; args = parts.1 }

unfoldable pub atom_at : Draft → ℕ → Bool → Reader Atom
atom_at d variable_count wild = as_at atom_of_parts
    (pair_at (number_at (length d.arities)) (λ pred. many_at (term_at (length d.objects) variable_count wild) (slice_index d.arities pred)))

-- ---- literals and proofs

unfoldable pub sign_at : Reader Bool
sign_at = as_at (λ n. n == 1) (number_at 2)

abbrev pub literal_of_parts : Bool × Atom → Lit
literal_of_parts parts = record { positive = parts.0; atom = parts.1 }

unfoldable pub literal_at : Draft → ℕ → Reader Lit
literal_at d variable_count = as_at literal_of_parts (pair_at sign_at (λ sign. atom_at d variable_count false))

abbrev pub leaf_of_parts : ℕ × (ℕ × Atom) → Proof
leaf_of_parts parts = Fact (record { column = parts.0; index = parts.1.0; atom = parts.1.1 })

abbrev pub place_at : Reader ℕ
place_at = number_at (most_places + 1)

unfoldable pub fact_at : Draft → Reader Proof
fact_at d = as_at leaf_of_parts (pair_at place_at (λ column. pair_at place_at (λ index. atom_at d table_variables true)))

unfoldable pub ancestor_at : Reader Proof
ancestor_at = as_at Anc place_at

abbrev pub terms_at : Draft → ℕ → Reader (List Term)
terms_at d count = many_at (term_at (length d.objects) table_variables true) count

abbrev pub step_of_parts : ℕ × (ℕ × (List Term × List Proof)) → Proof
step_of_parts parts = Step parts.0 parts.1.1.0 parts.1.0 parts.1.1.1

-- a step whose parts are read so
unfoldable pub step_at : Draft → Reader Proof → Reader Proof
step_at d part = as_at step_of_parts
    (pair_at (number_at (length d.axioms)) (λ number. pair_at place_at (λ place. pair_at (terms_at d (clause_at d.axioms number).variable_count)
    (λ theta. many_at part (length (clause_at d.axioms number).lits - 1)))))

-- a proof of at most so many levels
unfoldable pub proof_at : Draft → ℕ → Reader Proof
proof_at d zero bytes = None
proof_at d (suc levels) bytes =
    chosen (after_text (codes " f") bytes) (fact_at d)
    (chosen (after_text (codes " a") bytes) ancestor_at
    (chosen (after_text (codes " s") bytes) (step_at d (proof_at d levels)) None))

-- ---- lines

-- the end of a line, after what was read
abbrev pub ended : {A : Type 0} → A × List ℕ → Parsed A
ended read = after_text (codes "\n") read.1 >>= λ rest. Some (read.0, rest)

-- a line of this first word and these items
unfoldable pub line_of : {A : Type 0} → List ℕ → Reader A → Reader A
line_of word items bytes = behind word items bytes >>= ended

abbrev pub heading_items : Reader Bool
heading_items = behind (codes " certificate 1") (λ rest. Some (true, rest))

abbrev pub sorts_at : ℕ → Reader (List ℕ)
sorts_at most = list_at (number_at (greatest_sort + 1)) most

abbrev pub atoms_at : Draft → ℕ → Bool → Reader (List Atom)
atoms_at d variable_count wild = list_at (atom_at d variable_count wild) most_atoms

-- there is an object for the variables or parameters, if there are any
abbrev pub has_object : Draft → ℕ → Bool
has_object d count = (count == 0) || nat_le 1 (length d.objects)

abbrev pub clause_of_parts : ℕ × List Lit → Clause
clause_of_parts parts = record { variable_count = parts.0; lits = parts.1 }

unfoldable pub clause_items : Draft → Reader Clause
clause_items d = passing_at (λ c. nat_le 1 (length c.lits) && has_object d c.variable_count)
    (as_at clause_of_parts (pair_at (number_at (most_formula_variables + 1)) (λ variable_count. list_at (literal_at d variable_count) most_literals)))

unfoldable pub operator_items : Draft → Reader (List ℕ)
operator_items d = passing_at (λ sorts. has_object d (length sorts)) (sorts_at most_parameters)

unfoldable pub goal_items : Draft → Reader (ℕ × List Atom)
goal_items d = pair_at (number_at (most_formula_variables + 1)) (λ variable_count. atoms_at d table_variables true)

abbrev pub inst_of_parts : ℕ × List Term → OpInst
inst_of_parts parts = record { op = parts.0; args = parts.1 }

unfoldable pub step_items : Draft → Reader OpInst
step_items d = as_at inst_of_parts
    (pair_at (number_at (length d.schemas)) (λ op. terms_at d (slice_index_or d.schemas op no_schema).params))

abbrev pub row_items : Draft → Reader (List Proof)
row_items d = list_at (proof_at d greatest_written_height) most_atoms

-- what was read, as a line
abbrev pub as_line : {A : Type 0} → (A → Line) → Parsed A → Parsed Line
as_line form (Some read) = Some (form read.0, read.1)
as_line form None = None

-- the line that is due
unfoldable pub due_line_at : Draft → Due → List ℕ → Parsed Line
due_line_at d due.Heading bytes = as_line (λ read. heading) (line_of (codes "planex") heading_items bytes)
due_line_at d due.Objects bytes = as_line objects (line_of (codes "objects") (sorts_at most_objects) bytes)
due_line_at d due.Predicates bytes =
    as_line predicates (line_of (codes "predicates") (list_at (number_at (most_arguments + 1)) most_predicates) bytes)
due_line_at d due.Axioms bytes = as_line axioms (line_of (codes "axioms") (number_at (most_clauses + 1)) bytes)
due_line_at d (due.Axiom more) bytes = as_line clause (line_of (codes "axiom") (clause_items d) bytes)
due_line_at d due.Operators bytes = as_line operators (line_of (codes "operators") (number_at (most_operators + 1)) bytes)
due_line_at d (due.Operator more) bytes = as_line operator (line_of (codes "operator") (operator_items d) bytes)
due_line_at d (due.Pre more) bytes = as_line pre (line_of (codes "pre") (atoms_at d d.schema.params false) bytes)
due_line_at d (due.Delete more) bytes = as_line delete (line_of (codes "delete") (atoms_at d d.schema.params true) bytes)
due_line_at d (due.Add more) bytes = as_line add (line_of (codes "add") (atoms_at d d.schema.params false) bytes)
due_line_at d due.Table bytes = as_line table (line_of (codes "table") (sorts_at most_table_parameters) bytes)
due_line_at d due.Goal bytes = as_line (λ read. goal read.0 read.1) (line_of (codes "goal") (goal_items d) bytes)
due_line_at d due.Steps bytes = as_line steps (line_of (codes "steps") (number_at (most_steps + 1)) bytes)
due_line_at d (due.Step more rows) bytes = as_line action (line_of (codes "step") (step_items d) bytes)
due_line_at d (due.Row more) bytes = as_line row (line_of (codes "row") (row_items d) bytes)
due_line_at d due.Nothing bytes = None

abbrev pub line_at : Draft → List ℕ → Parsed Line
line_at d bytes = due_line_at d d.due bytes

-- what is left by the one that was read
abbrev pub then_at : {A : Type 0} → Parsed A → (A → Draft) → Parsed Draft
then_at (Some read) f = Some (f read.0, read.1)
then_at None f = None

-- what the lines say with the one at the front
abbrev pub next_at : Draft → List ℕ → Parsed Draft
next_at d bytes = then_at (line_at d bytes) (after_line d)

-- What a function left and returned is what reading gives, unless memory ran out.
abbrev pub Leaves : Draft → Result (Bor (List ℕ)) Refused → Parsed Draft → Type 0
Leaves new (Ok rest) read = read ≡ Some (new, rest.now)
Leaves new (Err e) read = IsRefusal e read
