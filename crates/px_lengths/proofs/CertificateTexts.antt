-- How long a certificate is.
use Rattle.std.specs.Prelude.{All}
use Rattle.std.proofs.Common.{◌≡◌, ℕ, ◌+◌, ◌*◌, ◌≤◌, suc, Bool, true, false, List, [], ◌∷◌, ◌++◌, codes, length, map, refl, ap, ◌∙◌, arith, length-append}
use Rattle.std.specs.List.{flat_map}
use Rattle.std.proofs.Math.Nat.{le_trans, mul-le-mul_right}
use Rattle.std.proofs.lemmas.Grind.{flat_map-append}
use Rattle.std.proofs.lemmas.List.Elements.{All-weaker}
use Rattle.px_terms.specs.declared.atom.Atom.{Atom}
use Rattle.px_terms.specs.declared.clause.Clause.{Clause}
use Rattle.px_terms.specs.declared.clause.Lit.{Lit}
use Rattle.px_terms.specs.declared.instance.OpInst.{OpInst}
use Rattle.px_terms.specs.declared.problem.Problem.{Problem}
use Rattle.px_terms.specs.declared.problem.Schema.{Schema}
use Rattle.px_terms.specs.Limits.{most_literals, most_parameters}
use Rattle.px_proof.specs.declared.proof.Proof.{Proof}
use Rattle.px_proof.specs.Derivation.{derivations}
use Rattle.px_proof.specs.ProofTerm.{derivation_of}
use Rattle.px_table.specs.declared.table.Table.{Table}
use Rattle.px_table.specs.Limits.{most_steps}
use Rattle.px_table.specs.Tables.{rows_of}
use Rattle.px_cert.specs.Certificates.{certificate_text, problem_lines, schema_lines, table_lines}
use Rattle.px_cert.specs.Limits.{most_atoms, most_table_parameters}
use Rattle.px_cert.specs.Lines.{Line, objects, predicates, axioms, clause, operators, operator, pre, delete, add, table, goal, steps, action, row, atom_item, derivation_items, line_bytes, list_item, literal_item, number_item, proof_item, sign_item, term_item}
use Rattle.px_lengths.specs.Longest.{longest_certificate, longest_piece, most_row_places}
use Rattle.px_lengths.proofs.Places.{atom-item-short, derivations-short, item-short, term-items-short}
use Rattle.px_lengths.proofs.Rows.{IsLowRow, IsSmallRow, row-places}
use Rattle.px_lengths.proofs.Sizes.{all-of, flat-short, one-more}
use Rattle.px_lengths.proofs.TableTexts.{IsNarrowAtom, IsNarrowStep}

-- ---- lists of items

numbers-short : (numbers : List ℕ) → length (list_item number_item numbers) ≤ 65 + length numbers * 65
numbers-short numbers =
    omega (
      arith,
      length-append (number_item (length numbers)) (flat_map number_item numbers),
      item-short (length numbers),
      flat-short number_item 65 numbers (all-of (λ n. length (number_item n) ≤ 65) numbers item-short),
    )

atoms-short : (atoms : List Atom) → All IsNarrowAtom atoms → length (list_item atom_item atoms) ≤ 65 + length atoms * 461
atoms-short atoms narrow =
    omega (
      arith,
      length-append (number_item (length atoms)) (flat_map atom_item atoms),
      item-short (length atoms),
      flat-short atom_item 461 atoms (All-weaker IsNarrowAtom (λ atom. length (atom_item atom) ≤ 461) atom-item-short atoms narrow),
    )

sign-short : (positive : Bool) → length (sign_item positive) ≤ 2
sign-short true = omega arith
sign-short false = omega arith

literals-short : (lits : List Lit) → All (λ lit. IsNarrowAtom lit.atom) lits
    → length (list_item literal_item lits) ≤ 65 + length lits * 463
literals-short lits narrow =
    omega (
      arith,
      length-append (number_item (length lits)) (flat_map literal_item lits),
      item-short (length lits),
      flat-short literal_item 463 lits
          (All-weaker (λ (lit : Lit). IsNarrowAtom lit.atom) (λ lit. length (literal_item lit) ≤ 463) one lits narrow),
    )
  where
    one : (lit : Lit) → IsNarrowAtom lit.atom → length (literal_item lit) ≤ 463
    one lit few =
        omega (arith, length-append (sign_item lit.positive) (atom_item lit.atom), sign-short lit.positive, atom-item-short lit.atom few)

-- the items of the proofs of a row
proofs-are : (proofs : List Proof) → flat_map proof_item proofs ≡ derivation_items (derivations (map derivation_of proofs))
proofs-are [] = refl
proofs-are (proof ∷ proofs) = ap (λ (l : List ℕ). proof_item proof ++ l) (proofs-are proofs)

-- ---- lines

abbrev size : List Line → ℕ
size lines = length (flat_map line_bytes lines)

size-append : (lines others : List Line) → size (lines ++ others) ≡ size lines + size others
size-append lines others =
    ap length (flat_map-append line_bytes lines others) ∙ length-append (flat_map line_bytes lines) (flat_map line_bytes others)

-- a line is its word, its items and a line feed
lined : (word items : List ℕ) → length (word ++ (items ++ codes "\n")) ≡ length word + length items + 1
lined word items = omega (arith, length-append word (items ++ codes "\n"), length-append items (codes "\n"))

clause-short : (c : Clause) → length c.lits ≤ most_literals → All (λ lit. IsNarrowAtom lit.atom) c.lits
    → length (line_bytes (clause c)) ≤ 8 * longest_piece
clause-short c few narrow =
    omega (
      arith,
      lined (codes "axiom") (number_item c.variable_count ++ list_item literal_item c.lits),
      length-append (number_item c.variable_count) (list_item literal_item c.lits),
      item-short c.variable_count,
      literals-short c.lits narrow,
      few,
    )

-- the lists of an operator are short, and so are its atoms
pub record IsShortOperator (schema : Schema) : Type 0 where
  pub sorts : length schema.param_sorts ≤ most_parameters
  pub pre : length schema.pre ≤ most_atoms
  pub pre_narrow : All IsNarrowAtom schema.pre
  pub del : length schema.del ≤ most_atoms
  pub del_narrow : All IsNarrowAtom schema.del
  pub add : length schema.add ≤ most_atoms
  pub add_narrow : All IsNarrowAtom schema.add

schema-short : (schema : Schema) → IsShortOperator schema → size (schema_lines schema) ≤ 64 * longest_piece
schema-short schema is =
    omega (
      arith,
      length-append (line_bytes (operator schema.param_sorts))
          (flat_map line_bytes (pre schema.pre ∷ delete schema.del ∷ add schema.add ∷ [])),
      length-append (line_bytes (pre schema.pre)) (flat_map line_bytes (delete schema.del ∷ add schema.add ∷ [])),
      length-append (line_bytes (delete schema.del)) (flat_map line_bytes (add schema.add ∷ [])),
      length-append (line_bytes (add schema.add)) [],
      lined (codes "operator") (list_item number_item schema.param_sorts),
      lined (codes "pre") (list_item atom_item schema.pre),
      lined (codes "delete") (list_item atom_item schema.del),
      lined (codes "add") (list_item atom_item schema.add),
      numbers-short schema.param_sorts,
      atoms-short schema.pre is.pre_narrow,
      atoms-short schema.del is.del_narrow,
      atoms-short schema.add is.add_narrow,
      is.sorts,
      is.pre,
      is.del,
      is.add,
    )

schemas-short : (schemas : List Schema) → All IsShortOperator schemas
    → size (flat_map schema_lines schemas) ≤ length schemas * (64 * longest_piece)
schemas-short [] all = omega arith
schemas-short (schema ∷ schemas) all =
    let here = schema-short schema (all 0 schema (omega arith)) in
    let rest = schemas-short schemas (λ k d below. all (suc k) d (omega (arith, below))) in
    omega (arith, size-append (schema_lines schema) (flat_map schema_lines schemas), here, rest)

-- the literals of a clause are few, and their atoms have few arguments
pub record IsNarrowClause (c : Clause) : Type 0 where
  pub few : length c.lits ≤ most_literals
  pub narrow : All (λ lit. IsNarrowAtom lit.atom) c.lits

clauses-short : (clauses : List Clause) → All IsNarrowClause clauses → size (map clause clauses) ≤ length clauses * (8 * longest_piece)
clauses-short [] all = omega arith
clauses-short (c ∷ clauses) all =
    let first = all 0 c (omega arith) in
    let here = clause-short c first.few first.narrow in
    let rest = clauses-short clauses (λ k d below. all (suc k) d (omega (arith, below))) in
    omega (arith, length-append (line_bytes (clause c)) (flat_map line_bytes (map clause clauses)), here, rest)

-- ---- the problem

problem-short : (p : Problem) → All IsNarrowClause p.axioms → All IsShortOperator p.schemas
    → size (problem_lines p)
    ≤ (20 + length p.object_sorts + length p.arities + 8 * length p.axioms + 64 * length p.schemas) * longest_piece
problem-short p clauses schemas =
    let tail = operators (length p.schemas) ∷ flat_map schema_lines p.schemas in
    omega (
      arith,
      length-append (line_bytes (objects p.object_sorts))
          (flat_map line_bytes (predicates p.arities ∷ axioms (length p.axioms) ∷ (map clause p.axioms ++ tail))),
      length-append (line_bytes (predicates p.arities)) (flat_map line_bytes (axioms (length p.axioms) ∷ (map clause p.axioms ++ tail))),
      length-append (line_bytes (axioms (length p.axioms))) (flat_map line_bytes (map clause p.axioms ++ tail)),
      size-append (map clause p.axioms) tail,
      length-append (line_bytes (operators (length p.schemas))) (flat_map line_bytes (flat_map schema_lines p.schemas)),
      lined (codes "objects") (list_item number_item p.object_sorts),
      lined (codes "predicates") (list_item number_item p.arities),
      lined (codes "axioms") (number_item (length p.axioms)),
      lined (codes "operators") (number_item (length p.schemas)),
      numbers-short p.object_sorts,
      numbers-short p.arities,
      item-short (length p.axioms),
      item-short (length p.schemas),
      clauses-short p.axioms clauses,
      schemas-short p.schemas schemas,
    )

-- ---- the table

action-short : (inst : OpInst) → IsNarrowStep inst → length (line_bytes (action inst)) ≤ longest_piece
action-short inst few =
    omega (
      arith,
      lined (codes "step") (number_item inst.op ++ flat_map term_item inst.args),
      length-append (number_item inst.op) (flat_map term_item inst.args),
      item-short inst.op,
      term-items-short inst.args,
      few,
    )

actions-short : (insts : List OpInst) → All IsNarrowStep insts → size (map action insts) ≤ length insts * longest_piece
actions-short [] all = omega arith
actions-short (inst ∷ insts) all =
    let here = action-short inst (all 0 inst (omega arith)) in
    let rest = actions-short insts (λ k d below. all (suc k) d (omega (arith, below))) in
    omega (arith, length-append (line_bytes (action inst)) (flat_map line_bytes (map action insts)), here, rest)

row-short : (proofs : List Proof) → IsSmallRow (map derivation_of proofs) → IsLowRow (map derivation_of proofs)
    → length (line_bytes (row proofs)) ≤ (1 + most_row_places) * longest_piece
row-short proofs small low =
    let ds = derivations (map derivation_of proofs) in
    omega (
      arith,
      lined (codes "row") (list_item proof_item proofs),
      length-append (number_item (length proofs)) (flat_map proof_item proofs),
      item-short (length proofs),
      ap length (proofs-are proofs),
      derivations-short ds small.small,
      row-places (map derivation_of proofs) small low,
    )

rows-short : (rows : List (List Proof)) → All IsSmallRow (rows_of rows) → All IsLowRow (rows_of rows)
    → size (map row rows) ≤ length rows * ((1 + most_row_places) * longest_piece)
rows-short [] small low = omega arith
rows-short (proofs ∷ rows) small low =
    let here = row-short proofs (small 0 (map derivation_of proofs) (omega arith)) (low 0 (map derivation_of proofs) (omega arith)) in
    let rest = rows-short rows (λ k d below. small (suc k) d (omega (arith, below))) (λ k d below. low (suc k) d (omega (arith, below))) in
    let sum = one-more (length rows) ((1 + most_row_places) * longest_piece) (length (line_bytes (row proofs))) (size (map row rows))
    here rest in
    omega (arith, length-append (line_bytes (row proofs)) (flat_map line_bytes (map row rows)), sum)

table-short : (t : Table) → length t.param_sorts ≤ most_table_parameters → length t.goal ≤ most_atoms → All IsNarrowAtom t.goal
    → length t.steps ≤ most_steps → All IsNarrowStep t.steps → length t.proofs ≤ most_steps + 1 → All IsSmallRow (rows_of t.proofs)
    → All IsLowRow (rows_of t.proofs)
    → size (table_lines t)
    ≤ (most_table_parameters + 90) * longest_piece + (most_steps + 1) * ((1 + most_row_places) * longest_piece)
table-short t sorts few narrow steps-few steps-narrow rows-few small low =
    let all-rows = le_trans (rows-short t.proofs small low) (mul-le-mul_right ((1 + most_row_places) * longest_piece) rows-few) in
    let tail = map action t.steps ++ map row t.proofs in
    omega (
      arith,
      length-append (line_bytes (table t.param_sorts)) (flat_map line_bytes (goal t.goal_variable_count t.goal ∷ steps (length t.steps) ∷ tail)),
      length-append (line_bytes (goal t.goal_variable_count t.goal)) (flat_map line_bytes (steps (length t.steps) ∷ tail)),
      length-append (line_bytes (steps (length t.steps))) (flat_map line_bytes tail),
      size-append (map action t.steps) (map row t.proofs),
      lined (codes "table") (list_item number_item t.param_sorts),
      lined (codes "goal") (number_item t.goal_variable_count ++ list_item atom_item t.goal),
      length-append (number_item t.goal_variable_count) (list_item atom_item t.goal),
      lined (codes "steps") (number_item (length t.steps)),
      numbers-short t.param_sorts,
      item-short t.goal_variable_count,
      atoms-short t.goal narrow,
      item-short (length t.steps),
      actions-short t.steps steps-narrow,
      all-rows,
      sorts,
      few,
      steps-few,
    )

pub certificate-short : (p : Problem) (t : Table) → All IsNarrowClause p.axioms → All IsShortOperator p.schemas
    → length t.param_sorts ≤ most_table_parameters → length t.goal ≤ most_atoms → All IsNarrowAtom t.goal
    → length t.steps ≤ most_steps → All IsNarrowStep t.steps → length t.proofs ≤ most_steps + 1 → All IsSmallRow (rows_of t.proofs)
    → All IsLowRow (rows_of t.proofs) → length (certificate_text p t) ≤ longest_certificate p
unfolding longest_certificate
certificate-short p t clauses schemas sorts few narrow steps-few steps-narrow rows-few small low =
    omega (
      arith,
      size-append (problem_lines p) (table_lines t),
      problem-short p clauses schemas,
      table-short t sorts few narrow steps-few steps-narrow rows-few small low,
    )
