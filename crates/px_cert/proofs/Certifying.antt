-- A table that may be certified has a certificate, which claims it.
use Rattle.std.proofs.Common.{◌≡◌, ◌≤◌, ◌<◌, ◌+◌, ℕ, List, [], ◌∷◌, length, map, get_or, refl, sym, ap, subst, arith}
use Rattle.std.specs.Prelude.{All, Contains}
use Rattle.std.specs.List.{AllByRecursion}
use Rattle.std.proofs.lemmas.List.{length-map}
use Rattle.std.proofs.lemmas.List.Elements.{All-from_recursion, recursion_from_All}
use Rattle.px_base.specs.ListLaws.{All-at}
use Rattle.px_terms.specs.declared.atom.Atom.{Atom}
use Rattle.px_terms.specs.declared.problem.Problem.{Problem}
use Rattle.px_terms.specs.declared.term.Term.{Term}
use Rattle.px_terms.specs.declared.term.Term.TheVariants.{Obj, Var, Any}
use Rattle.px_terms.specs.Validity.{IsAtomOf, IsPatternTermOf, IsTermOf, IsValid}
use Rattle.px_proof.specs.declared.proof.Proof.{Proof}
use Rattle.px_proof.specs.Derivation.{Derivation}
use Rattle.px_proof.specs.Proves.{IsObjectOrParameter}
use Rattle.px_proof.specs.ProofTerm.{derivation_of}
use Rattle.px_table.specs.declared.mark.Mark.{Mark}
use Rattle.px_table.specs.declared.table.Table.{Table}
use Rattle.px_table.specs.Marks.{IsNamed, marks_from}
use Rattle.px_table.specs.Supports.{RowsProve}
use Rattle.px_table.specs.Tables.{IsTable, rows_of}
use Rattle.px_cert.specs.declared.draft.Draft.{Draft}
use Rattle.px_cert.specs.Certificates.{IsCertificate, IsCertifiable, certificate_text, certified_claim}
use Rattle.px_cert.specs.ClaimRanges.{AreAtMost, AreSorts, IsCertifiedProblem, IsClaimInRange, IsRowProof, IsShortSchema, IsTableAtom, IsTableStep, certified}
use Rattle.px_cert.specs.Drafts.{language}
use Rattle.px_cert.specs.Limits.{greatest_sort, greatest_written_height, most_atoms, most_table_parameters, table_variables}
use Rattle.px_cert.specs.Sound.{IsSound}
use Rattle.px_cert.proofs.Claiming.{atom_to, claimed, pattern_to, row_to, whole_draft, whole_sound}
use Rattle.px_cert.proofs.Limited.{right}
use Rattle.px_cert.proofs.Ranged.{IsGoodMark, IsRanged, leaves_good, lows, named_low, rows_count, rows_ranged, rows_short}

-- the limits of searches, the sorts that there may be and the weight are no part of what is valid, but for their own ranges
valid_certified : (p : Problem) → p.sorts ≤ greatest_sort → IsValid p → IsValid (certified p)
valid_certified p few valid = record {
  schemas = λ k below.
      let schema = valid.schemas k below in
      record {
        number = schema.number;
        params = schema.params;
        pre = λ j a inside. atom_to p (certified p) refl refl _ _ (schema.pre j a inside);
        del = λ j a inside. pattern_to p (certified p) refl refl _ _ (schema.del j a inside);
        add = λ j a inside. atom_to p (certified p) refl refl _ _ (schema.add j a inside);
        short = schema.short;
        sorts = (schema.sorts.0, λ j s inside. let sort = schema.sorts.1 j s inside in omega (arith, sort, few));
      };
  axioms = λ k c below.
      let axiom_is = valid.axioms k c below in
      record { variable_count = axiom_is.variable_count; lits = λ j l inside. atom_to p (certified p) refl refl _ _ (axiom_is.lits j l inside) };
  arena = valid.arena;
  short = valid.short;
  height = (omega arith, omega arith);
  nodes = (omega arith, omega arith);
  shapes = (omega arith, omega arith);
  weight = omega arith;
  sorts = (valid.sorts.0, λ k s below. let sort = valid.sorts.1 k s below in omega (arith, sort, few), omega arith);
  no_objects = valid.no_objects;
}

module _ (p : Problem) (t : Table) (is : IsCertifiable p t) where
  pub problem_in_range : IsCertifiedProblem (certified p)
  problem_in_range = record {
    valid = valid_certified p is.sorts is.valid;
    limits = refl;
    objects = is.objects;
    predicates = is.predicates;
    operators = is.operators;
  }

  abbrev d : Draft
  d = whole_draft (certified p) t

  sound : IsSound d
  sound = whole_sound (certified p) t problem_in_range

  count : length p.object_sorts ≡ p.objects
  count = is.valid.sorts.0

  wide_term : (variable_count : ℕ) → variable_count ≤ table_variables → (u : Term) → IsTermOf p variable_count u → IsPatternTermOf (language d) table_variables u
  wide_term variable_count few (Obj n) i = omega (arith, i, count)
  wide_term variable_count few (Var v) i = omega (arith, i, few)
  wide_term variable_count few Any i = absurd i

  wide_atom : (variable_count : ℕ) → variable_count ≤ table_variables → (a : Atom) → IsAtomOf p variable_count a → IsTableAtom (language d) a
  wide_atom variable_count few a i = (i.0, λ k u below. wide_term variable_count few _ (i.1 k u below))

  -- ---- the rows

  good_mark : (m : Mark) → Contains (marks_from 1 (rows_of t.proofs)) m → IsGoodMark d sound t.params is.params m
  good_mark m has =
      let there = subst (λ (ms : List Mark). Contains ms m) (sym is.table_is.marks) has in
      let named = All-at (IsNamed p t.steps) t.marks m is.table_is.named there in
      let atom = All-at (λ (mark : Mark). IsAtomOf p t.params mark.atom) t.marks m is.table_is.atoms there in
      let shorts = recursion_from_All IsShortSchema p.schemas is.operators.1 in
      let low = named_low d sound t.params is.params p shorts t.steps is.steps m.column m refl named in
      let few = is.params in
      (low.0, low.1, wide_atom t.params (omega (arith, few)) m.atom atom)

  proved_rows : RowsProve (IsObjectOrParameter (length p.object_sorts) t.params) p t.params t.steps t.goal t.goal_variable_count (rows_of t.proofs)
  proved_rows =
      subst (λ (n : ℕ). RowsProve (IsObjectOrParameter n t.params) p t.params t.steps t.goal t.goal_variable_count (rows_of t.proofs)) (sym count)
      is.table_is.prove

  ranged_rows : AllByRecursion (AllByRecursion (IsRanged d sound t.params is.params)) (rows_of t.proofs)
  ranged_rows =
      rows_ranged d sound t.params is.params p refl t.steps t.goal t.goal_variable_count (rows_of t.proofs) proved_rows
      (leaves_good d sound t.params is.params 1 (rows_of t.proofs) good_mark)
      (lows greatest_written_height (rows_of t.proofs) is.low)

  short_back : (rows : List (List Proof)) → AllByRecursion (λ (row : List Derivation). length row ≤ most_atoms) (rows_of rows)
      → AllByRecursion (λ (proofs : List Proof). length proofs ≤ most_atoms) rows
  short_back [] all = tt
  short_back (proofs ∷ rows) all =
      let few = all.0 in
      let same : length (map derivation_of proofs) ≡ length proofs = length-map proofs derivation_of in
      (omega (arith, few, same), short_back rows all.1)

  short_rows : AllByRecursion (λ (proofs : List Proof). length proofs ≤ most_atoms) t.proofs
  short_rows =
      short_back t.proofs
      (rows_short d sound t.params is.params p (recursion_from_All IsShortSchema p.schemas is.operators.1) t.steps is.steps t.goal
      is.goal.1 t.goal_variable_count t.steps (rows_of t.proofs) proved_rows)

  row_back : (proofs : List Proof) → AllByRecursion (IsRanged d sound t.params is.params) (map derivation_of proofs)
      → AllByRecursion (IsRowProof (language d) d.axioms) proofs
  row_back [] all = tt
  row_back (proof ∷ proofs) all = (all.0, row_back proofs all.1)

  rows_back : (rows : List (List Proof)) → AllByRecursion (AllByRecursion (IsRanged d sound t.params is.params)) (rows_of rows)
      → AllByRecursion (λ (proofs : List Proof). length proofs ≤ most_atoms) rows → AllByRecursion (AreAtMost most_atoms (IsRowProof (language d) d.axioms)) rows
  rows_back [] all short = tt
  rows_back (proofs ∷ rows) all short =
      ((short.0, All-from_recursion (IsRowProof (language d) d.axioms) proofs (row_back proofs all.0)), rows_back rows all.1 short.1)

  -- ---- all together

  own_term : (variable_count : ℕ) → variable_count ≤ table_variables → (u : Term) → IsTermOf p variable_count u → IsPatternTermOf (certified p) table_variables u
  own_term variable_count few (Obj n) i = i
  own_term variable_count few (Var v) i = omega (arith, i, few)
  own_term variable_count few Any i = absurd i

  pub claim_in_range : IsClaimInRange (certified p) t
  claim_in_range =
      let few = is.params in
      let variable_count = is.goal.0 in
      record {
        of = problem_in_range;
        params = sym is.table_is.sorted.count;
        sorts = (
          omega (arith, few, is.table_is.sorted.count),
          λ k s below. let sort = is.table_is.sorted.sorts k s below in let most = is.sorts in omega (arith, sort, most),
        );
        goal_variable_count = is.goal.0;
        goal = (
          is.goal.1,
          λ k a below.
              let atom = is.table_is.in_range.goal k a below in
              (atom.0, λ j u inside. own_term (t.params + t.goal_variable_count) (omega (arith, few, variable_count)) _ (atom.1 j u inside)),
        );
        steps = (
          is.steps,
          λ k inst below.
              let inst_is = is.table_is.in_range.steps k inst below in
              (inst_is.op, inst_is.count, λ j u inside. own_term t.params (omega (arith, few)) _ (inst_is.terms j u inside)),
        );
        row_count =
            let whole = rows_count (IsObjectOrParameter p.objects t.params) p t.params t.steps t.goal t.goal_variable_count (rows_of t.proofs)
            is.table_is.prove in
            omega (arith, whole, length-map {A = List Proof} {B = List Derivation});
        rows = λ k proofs below. row_to (language d) (certified p) count refl p.axioms _
            (All-from_recursion (AreAtMost most_atoms (IsRowProof (language d) p.axioms)) t.proofs
            (rows_back t.proofs ranged_rows short_rows) k proofs below);
        marks = is.table_is.marks;
      }

  pub written : IsCertificate (certificate_text p t) (certified_claim p t)
  written = claimed (certified p) t claim_in_range

-- the text that is written is a certificate, of a table for its problem
pub accepted : (p : Problem) (t : Table) (text : List ℕ) → text ≡ certificate_text p t → IsCertifiable p t
    → IsCertificate text (certified_claim p t) × IsTable (certified p) t
accepted p t text same is = (
  subst (λ (bytes : List ℕ). IsCertificate bytes (certified_claim p t)) (sym same) (written p t is),
  right p t is.sorts is.table_is,
)
