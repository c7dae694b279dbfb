-- Which bytes are a certificate, of what, and which line is the first wrong one.
use Rattle.std.specs.Prelude.{◌≡◌, ◌≤◌, ◌+◌, ℕ, List, [], ◌∷◌, ◌++◌, length, map, All}
use Rattle.std.specs.List.{flat_map}
use Rattle.px_terms.specs.declared.problem.Problem.{Problem}
use Rattle.px_terms.specs.declared.problem.Schema.{Schema}
use Rattle.px_terms.specs.Limits.{most_arguments, most_formula_variables}
use Rattle.px_terms.specs.Validity.{IsValid}
use Rattle.px_proof.specs.Derivation.{height}
use Rattle.px_table.specs.declared.table.Table.{Table}
use Rattle.px_table.specs.Tables.{IsTable, rows_of, table_of_rows}
use Rattle.px_table.specs.Limits.{most_steps}
use Rattle.px_cert.specs.declared.draft.Draft.{Draft}
use Rattle.px_cert.specs.declared.draft.Due.TheVariants as due
use Rattle.px_cert.specs.ClaimRanges.{AreAtMost, IsShortSchema, certified}
use Rattle.px_cert.specs.Drafts.{Follow, IsNext, no_lines, problem_of}
use Rattle.px_cert.specs.Limits.{most_table_parameters, greatest_sort, greatest_written_height, most_atoms, most_objects, most_operators, most_predicates}
use Rattle.px_cert.specs.Lines.{Line, heading, objects, predicates, axioms, clause, operators, operator, pre, delete, add, table, goal, steps, action, row, line_bytes}

-- a table with the problem that it is for
pub record Claim : Type 0 where
  pub problem : Problem
  pub table : Table

-- ---- reading

-- what the lines claim: their problem, and the table of their rows, whose marks are those of the rows
abbrev pub claim_of : Draft → Claim
claim_of d = record {
  problem = problem_of d;
  table = table_of_rows (length d.params) d.params d.steps d.goal d.goal_variable_count d.rows;
}

-- the bytes are the lines of a certificate, each as it is written
pub record IsCertificate (bytes : List ℕ) (claim : Claim) : Type 0 where
  pub lines : List Line
  pub last : Draft
  pub follow : Follow no_lines lines last
  pub whole : last.due ≡ due.Nothing
  pub bytes_are : bytes ≡ flat_map line_bytes lines
  pub says : claim ≡ claim_of last

-- The lines before it may follow each other, and what comes then doesn't begin with a line that may come next. After a whole
-- certificate something comes.
pub record IsFirstBadLine (bytes : List ℕ) (number : ℕ) : Type 0 where
  pub before : List Line
  pub draft : Draft
  pub rest : List ℕ
  pub follow : Follow no_lines before draft
  pub bytes_are : bytes ≡ flat_map line_bytes before ++ rest
  pub number_is : number ≡ length before + 1
  pub none_next : (line : Line) (more : List ℕ) → IsNext draft line → ¬ (rest ≡ line_bytes line ++ more)
  pub not_whole : draft.due ≡ due.Nothing → ¬ (rest ≡ [])

-- ---- writing

abbrev pub schema_lines : Schema → List Line
schema_lines schema = operator schema.param_sorts ∷ pre schema.pre ∷ delete schema.del ∷ add schema.add ∷ []

abbrev pub problem_lines : Problem → List Line
problem_lines p =
    heading ∷ objects p.object_sorts ∷ predicates p.arities
    ∷ axioms (length p.axioms) ∷ (map clause p.axioms
    ++ operators (length p.schemas) ∷ flat_map schema_lines p.schemas)

abbrev pub table_lines : Table → List Line
table_lines t =
    table t.param_sorts ∷ goal t.goal_variable_count t.goal
    ∷ steps (length t.steps) ∷ (map action t.steps
    ++ map row t.proofs)

abbrev pub claim_lines : Problem → Table → List Line
claim_lines p t = problem_lines p ++ table_lines t

-- the one text of a claim
abbrev pub certificate_text : Problem → Table → List ℕ
certificate_text p t = flat_map line_bytes (claim_lines p t)

-- the claim of its certificate
abbrev pub certified_claim : Problem → Table → Claim
certified_claim p t = record { problem = certified p; table = t }

-- The table is one for the problem, and both are within the limits of certificates.
pub record IsCertifiable (problem : Problem) (table : Table) : Type 0 where
  pub valid : IsValid problem
  pub table_is : IsTable problem table
  pub objects : problem.objects ≤ most_objects
  pub sorts : problem.sorts ≤ greatest_sort
  pub predicates : AreAtMost most_predicates (λ arity. arity ≤ most_arguments) problem.arities
  pub operators : AreAtMost most_operators IsShortSchema problem.schemas
  pub params : table.params ≤ most_table_parameters
  pub steps : length table.steps ≤ most_steps
  pub goal : (table.goal_variable_count ≤ most_formula_variables) × (length table.goal ≤ most_atoms)
  pub low : All (All (λ d. height d ≤ greatest_written_height)) (rows_of table.proofs)
