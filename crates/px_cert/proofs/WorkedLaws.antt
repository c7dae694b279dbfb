-- The certificates that are worked out by hand are as they are said to be.
use Rattle.std.proofs.Common.{◌≡◌, ◌≢◌, ◌≤◌, ◌+◌, ℕ, zero, suc, List, [], ◌∷◌, ◌++◌, codes, Bool, true, false, refl, sym, ap, ◌∙◌, subst, arith}
use Rattle.std.specs.Prelude.{slice_index_or, ◌<◌}
use Rattle.std.specs.Fmt.{digits}
use Rattle.std.specs.List.{flat_map}
use Rattle.std.proofs.lemmas.List.Elements.{All-from_recursion}
use Rattle.px_terms.specs.declared.atom.Atom.{Atom}
use Rattle.px_terms.specs.declared.instance.OpInst.{OpInst}
use Rattle.px_terms.specs.declared.problem.Schema.{Schema}
use Rattle.px_terms.specs.Limits.{most_arguments}
use Rattle.px_terms.specs.Operators.{no_schema}
use Rattle.px_terms.specs.Validity.{IsAtomOf, IsPatternOf, IsSchemaOf, IsValid}
use Rattle.px_proof.specs.declared.proof.Proof.{Proof}
use Rattle.px_proof.specs.declared.proof.Proof.TheVariants.{Fact}
use Rattle.px_proof.specs.Derivation.{Derivation, fact, height}
use Rattle.px_proof.specs.LayerLaws.{derivation_of-fact}
use Rattle.px_proof.specs.ProofTerm.{derivation_of}
use Rattle.px_table.specs.Deciding.{rows_are_table}
use Rattle.px_table.specs.Tables.{IsTable, rows_of}
use Rattle.px_table.proofs.DecidingLaws.{rows_are_decided}
use Rattle.px_cert.specs.declared.draft.Draft.{Draft}
use Rattle.px_cert.specs.Certificates.{IsCertificate, IsFirstBadLine, certificate_text, certified_claim, claim_lines}
use Rattle.px_cert.specs.ClaimRanges.{AreAtMost, IsCertifiedProblem, IsClaimInRange, IsProofInRange, IsRowProof, IsShortSchema, IsTableAtom, IsTableStep, certified}
use Rattle.px_cert.specs.Drafts.{Follow, IsNext, after_line, no_lines}
use Rattle.px_cert.specs.Limits.{greatest_written_height, most_atoms, most_places}
use Rattle.px_cert.specs.Lines.{Line, heading, objects, predicates, axioms, operators, operator, pre, delete, add, table, goal, steps, action, row, line_bytes}
use Rattle.px_cert.specs.Worked.{WorkedCertificates, prefix_text, goal_atom, making_problem, making_rows, making_table}
use Rattle.px_cert.proofs.Claiming.{claimed, follow_claim, whole_draft}

-- ---- the claims are in range

making_valid : IsValid (certified making_problem)
making_valid = record {
  schemas = schema_is;
  axioms = λ k c below. absurd (omega (arith, below));
  arena = record { each = λ k c below. absurd (omega (arith, below)); most = omega arith };
  short = (omega arith, omega arith);
  height = (omega arith, omega arith);
  nodes = (omega arith, omega arith);
  shapes = (omega arith, omega arith);
  weight = omega arith;
  sorts = (refl, λ k s below. absurd (omega (arith, below)), omega arith);
  no_objects = λ nothing. (
    All-from_recursion (λ (schema : Schema). schema.params ≡ 0) (certified making_problem).schemas (refl, tt),
    λ k c below. absurd (omega (arith, below)),
  );
}
  where
    atom_is : IsAtomOf (certified making_problem) 0 goal_atom
    atom_is = ((omega arith, refl), λ k t below. absurd (omega (arith, below)))

    schema_is : (k : ℕ) → k < 1 → IsSchemaOf (certified making_problem) k (slice_index_or (certified making_problem).schemas k no_schema)
    schema_is zero below = record {
      number = refl;
      params = omega arith;
      pre = λ k a below. absurd (omega (arith, below));
      del = λ k a below. absurd (omega (arith, below));
      add = All-from_recursion (IsAtomOf (certified making_problem) 0) (goal_atom ∷ []) (atom_is, tt);
      short = (omega arith, omega arith, omega arith);
      sorts = (refl, λ k s below. absurd (omega (arith, below)));
    }
    schema_is (suc k) below = absurd (omega (arith, below))

making_problem-in_range : IsCertifiedProblem (certified making_problem)
making_problem-in_range = record {
  valid = making_valid;
  limits = refl;
  objects = omega arith;
  predicates = (omega arith, All-from_recursion (λ arity. arity ≤ most_arguments) (0 ∷ []) (omega arith, tt));
  operators = (
    omega arith,
    All-from_recursion IsShortSchema (certified making_problem).schemas (record { pre = omega arith; del = omega arith; add = omega arith }, tt),
  );
}

goal-in_range : IsTableAtom (certified making_problem) goal_atom
goal-in_range = ((omega arith, refl), λ k t below. absurd (omega (arith, below)))

abbrev leaf_is : (column : ℕ) → Derivation
leaf_is column = fact (record { column = column; index = 0; atom = goal_atom })

row-in_range : (column : ℕ) → column ≤ most_places
    → IsRowProof (certified making_problem) [] (Fact (record { column = column; index = 0; atom = goal_atom }))
row-in_range column low =
    let is : derivation_of (Fact (record { column = column; index = 0; atom = goal_atom })) ≡ leaf_is column =
    derivation_of-fact (record { column = column; index = 0; atom = goal_atom }) in
    subst (λ (d : Derivation). (height d ≤ greatest_written_height) × IsProofInRange (certified making_problem) [] d) (sym is)
    (omega arith, (low, omega arith, goal-in_range))

making-in_range : (column : ℕ) → column ≤ most_places → IsClaimInRange (certified making_problem) (making_table column)
making-in_range column low = record {
  of = making_problem-in_range;
  params = refl;
  sorts = (omega arith, λ k s below. absurd (omega (arith, below)));
  goal_variable_count = omega arith;
  goal = (omega arith, All-from_recursion (IsTableAtom (certified making_problem)) (goal_atom ∷ []) (goal-in_range, tt));
  steps = (
    omega arith,
    All-from_recursion (IsTableStep (certified making_problem) making_problem.schemas) (making_table column).steps
        ((omega arith, refl, λ k t below. absurd (omega (arith, below))), tt),
  );
  row_count = refl;
  rows = All-from_recursion (AreAtMost most_atoms (IsRowProof (certified making_problem) [])) (making_rows column) (
    (omega arith, λ k proof below. absurd (omega (arith, below))),
    (
      (
        omega arith,
        All-from_recursion (IsRowProof (certified making_problem) []) (Fact (record { column = column; index = 0; atom = goal_atom }) ∷ [])
            (row-in_range column low, tt),
      ),
      tt,
    ),
  );
  marks = refl;
}

-- ---- the texts

right_text : certificate_text making_problem (making_table 1) ≡ prefix_text ++ codes "row 1 f 1 0 0\n"
unfolding digits
right_text = rw derivation_of-fact refl

other_text : certificate_text making_problem (making_table 2) ≡ prefix_text ++ codes "row 1 f 2 0 0\n"
unfolding digits
other_text = rw derivation_of-fact refl

made : (column : ℕ) (text : List ℕ) → column ≤ most_places → certificate_text making_problem (making_table column) ≡ text
    → IsCertificate text (certified_claim making_problem (making_table column))
made column text low is =
    subst (λ (bytes : List ℕ). IsCertificate bytes (certified_claim making_problem (making_table column))) is
    (claimed (certified making_problem) (making_table column) (making-in_range column low))

-- ---- whether it is so

tested : (column : ℕ) → rows_of (making_rows column) ≡ [] ∷ (leaf_is column ∷ []) ∷ []
tested column =
    ap (λ (d : Derivation). [] ∷ (d ∷ []) ∷ []) (derivation_of-fact (record { column = column; index = 0; atom = goal_atom }))

abbrev test : List (List Derivation) → Bool
test rows = rows_are_table (certified making_problem) 0 [] (record { op = 0; args = [] } ∷ []) (goal_atom ∷ []) 0 rows

making-right : IsTable (certified making_problem) (making_table 1)
making-right =
    (rows_are_decided (certified making_problem) 0 [] (record { op = 0; args = [] } ∷ []) (goal_atom ∷ []) 0 (making_rows 1)).0
    (ap test (tested 1) ∙ refl)

making-wrong : ¬ IsTable (certified making_problem) (making_table 2)
making-wrong is =
    let yes_it : test (rows_of (making_rows 2)) ≡ true =
    (rows_are_decided (certified making_problem) 0 [] (record { op = 0; args = [] } ∷ []) (goal_atom ∷ []) 0 (making_rows 2)).1 is in
    let no_it : test (rows_of (making_rows 2)) ≡ false = ap test (tested 2) ∙ refl in
    both_ways (test (rows_of (making_rows 2))) yes_it no_it
  where
    both_ways : (b : Bool) → b ≡ true → ¬ (b ≡ false)
    both_ways b one other = cc

-- ---- where the last line is missing

abbrev leave : Draft → List Line → Draft
leave d [] = d
leave d (line ∷ lines) = leave (after_line d line) lines

follow_prefix : (d : Draft) (prefix rest : List Line) (last : Draft) → Follow d (prefix ++ rest) last → Follow d prefix (leave d prefix)
follow_prefix d [] rest last follow = refl
follow_prefix d (line ∷ prefix) rest last follow = (follow.0, follow_prefix (after_line d line) prefix rest last follow.1)

abbrev prefix_lines : List Line
prefix_lines = heading ∷ objects [] ∷ predicates (0 ∷ []) ∷ axioms 0 ∷ operators 1 ∷ operator [] ∷ pre [] ∷ delete [] ∷ add (goal_atom ∷ [])
    ∷ table [] ∷ goal 0 (goal_atom ∷ []) ∷ steps 1 ∷ action (record { op = 0; args = [] }) ∷ row [] ∷ []

prefix_bytes : prefix_text ≡ flat_map line_bytes prefix_lines ++ []
unfolding digits
prefix_bytes = refl

making-cut : IsFirstBadLine prefix_text 15
making-cut =
    let follow = follow_claim (certified making_problem) (making_table 1) (making-in_range 1 (omega arith)) in
    record {
      before = prefix_lines;
      draft = leave no_lines prefix_lines;
      rest = [];
      follow = follow_prefix no_lines prefix_lines (row (Fact (record { column = 1; index = 0; atom = goal_atom }) ∷ []) ∷ [])
          (whole_draft (certified making_problem) (making_table 1)) follow;
      bytes_are = prefix_bytes;
      number_is = refl;
      none_next = λ line more next same. nothing_there line more next.0 next.1 same;
      not_whole = λ e. absurd (cc);
    }
  where
    nothing_there : (line : Line) (more : List ℕ) (proofs : List Proof) → line ≡ row proofs → ¬ ([] ≡ line_bytes line ++ more)
    nothing_there line more proofs is same =
        let first : [] ≡ line_bytes (row proofs) ++ more = same ∙ ap (λ (l : Line). line_bytes l ++ more) is in cc

pub worked_certificates : WorkedCertificates
worked_certificates = record {
  text = right_text;
  is_certificate = made 1 _ (omega arith) right_text;
  right = making-right;
  is_other = made 2 _ (omega arith) other_text;
  wrong = making-wrong;
  cut = making-cut;
}
