-- Matches of what the first steps of a table add, part by part.
use Rattle.std.proofs.Common.{◌≡◌, ◌∙◌, ◌⊎◌, ◌+◌, ◌<◌, ◌≤◌, ℕ, Some, List, [], ◌∷◌, ◌++◌, length, take, slice_get, get_or, ap, sym, subst, inl, inr}
use Rattle.std.specs.Prelude.{All}
use Rattle.px_base.specs.ListLaws.{All-at, All-each}
use Rattle.std.proofs.lemmas.List.{take_all}
use Rattle.std.proofs.lemmas.List.Elements.{All-map}
use Rattle.px_question.specs.FewerShapes.{Contains-at}
use Rattle.px_table.specs.Tables.{IsStepOf}
use Rattle.px_terms.specs.Language.{substitute}
use Rattle.px_terms.specs.Operators.{adds, schema_of}
use Rattle.px_terms.specs.Substitution.{substitute_atom}
use Rattle.px_terms.specs.Validity.{IsAtomOf, IsValid}
use Rattle.px_terms.specs.declared.atom.Atom.{Atom}
use Rattle.px_terms.specs.declared.instance.OpInst.{OpInst}
use Rattle.px_terms.specs.declared.problem.Problem.{Problem}
use Rattle.px_terms.specs.declared.term.Term.{Term}
use Rattle.px_terms.specs.declared.term.Term.TheVariants.{Obj, Any}
use Rattle.px_gaps.specs.Bindings.{ExtendsTerms, IsPlain}
use Rattle.px_gaps.specs.Closings.{OneOf}
use Rattle.px_entries.specs.Parameters.{IsParameterMatch, Matches}
use Rattle.px_gaps.proofs.Describing.{atom-plain}
use Rattle.px_gaps.proofs.Grows.{one_next, one_none}
use Rattle.px_base.proofs.Loops.{Contains-pushed}
use Rattle.px_gaps.proofs.Substituting.{atom_in}

module _ (limit count : ℕ) (start : List Term) where
  abbrev pub Matching : (List ℕ → Type 0) → List (List Term) → List (List Term) → Type 0
  Matching = Matches limit count start

  pub matches_less : (V W : List ℕ → Type 0) (old new : List (List Term)) → ((sigma : List ℕ) → W sigma → V sigma) → Matching V old new
      → Matching W old new
  matches_less V W old new f m = record { form = m.form; kept = m.kept; all = λ sigma extends w. m.all sigma extends (f sigma w) }

  pub matches_part : (V U W : List ℕ → Type 0) (old made new : List (List Term)) → ((sigma : List ℕ) → W sigma → V sigma ⊎ U sigma)
      → Matching V old made → Matching U made new → Matching W old new
  matches_part V U W old made new f first second = record {
    form = λ are. second.form (first.form are);
    kept = λ sigma one. second.kept sigma (first.kept sigma one);
    all = λ sigma extends w. elim (f sigma w) [
      | inl v ↦ second.kept sigma
          (first.all sigma extends v)
      | inr u ↦ second.all sigma extends u
    ];
  }

  -- nothing that is wanted extends the first terms
  pub matches_none : (W : List ℕ → Type 0) (found : List (List Term)) → ((sigma : List ℕ) → ExtendsTerms limit start sigma → ¬ W sigma)
      → Matching W found found
  matches_none W found never =
      record { form = λ are. are; kept = λ sigma one. one; all = λ sigma extends w. absurd (never sigma extends w) }

  -- all that is wanted extends these terms
  pub matches_push : (W : List ℕ → Type 0) (old new : List (List Term)) (one : List Term) → new ≡ old ++ one ∷ []
      → IsParameterMatch limit count one
      → ((sigma : List ℕ) → ExtendsTerms limit start sigma → W sigma → ExtendsTerms limit one sigma) → Matching W old new
  matches_push W old new one is match_one extends_one = subst (Matching W old) (sym is) (record {
    form = λ are. All-each (IsParameterMatch limit count) (old ++ one ∷ []) (λ terms has. elim ((Contains-pushed old one terms).0 has) [
      | inl before ↦ All-at (IsParameterMatch limit count) old terms are before
      | inr same ↦ subst (IsParameterMatch limit count) same match_one
    ]);
    kept = λ sigma (terms, has, extends). (terms, (Contains-pushed old one terms).1 (inl has), extends);
    all = λ sigma extends w. (one, (Contains-pushed old one one).1 (inr (λ i. one)), extends_one sigma extends w);
  })

-- ---- arguments

-- a term that is no variable becomes itself
pub closed-is : (values : List Term) (t wanted : Term) → ((n : ℕ) × (t ≡ Obj n)) ⊎ (t ≡ Any) → substitute values t ≡ wanted → t ≡ wanted
closed-is values t wanted closed is = elim closed [
  | inl object ↦ object.1 ∙ sym (ap (substitute values) object.1) ∙ is
  | inr wild ↦ wild ∙ sym (ap (substitute values) wild) ∙ is
]

-- what a step adds has the parameters for variables
pub step-adds : (problem : Problem) (variable_count : ℕ) (step : OpInst) → IsValid problem → IsStepOf problem variable_count step
    → All (IsPlain variable_count) (adds problem step)
step-adds problem variable_count step valid of =
    let add : All (IsAtomOf problem (length step.args)) (schema_of problem step).add =
    subst (λ (n : ℕ). All (IsAtomOf problem n) (schema_of problem step).add) (sym of.count) (valid.schemas step.op of.op).add in
    let are : All (IsAtomOf problem variable_count) (adds problem step) =
    All-map (IsAtomOf problem variable_count) (substitute_atom step.args) (schema_of problem step).add
    (λ k d below. atom_in problem variable_count step.args of.terms _ (add k d below)) in
    All-each (IsPlain variable_count) (adds problem step) (λ atom has. atom-plain problem variable_count atom
    (All-at (IsAtomOf problem variable_count) (adds problem step) atom are has))

-- the add at a place is one of them
pub add-plain : (problem : Problem) (variable_count : ℕ) (step : OpInst) (place : ℕ) (pattern : Atom) → IsValid problem → IsStepOf problem variable_count step
    → slice_get (adds problem step) place ≡ Some pattern → IsPlain variable_count pattern
add-plain problem variable_count step place pattern valid of at =
    All-at (IsPlain variable_count) (adds problem step) pattern (step-adds problem variable_count step valid of)
    (Contains-at (adds problem step) place pattern at)

-- ---- one more add, step and wanted atom

module _ (limit count : ℕ) (start : List Term) {X : Type 0} (IsWanted : X → List ℕ → Type 0) (xs : List X) (i : ℕ) (x : X)
    (below : i < length xs) (is : x ≡ get_or xs i x) where
  pub matches_next : (old made new : List (List Term))
      → Matches limit count start (λ sigma. OneOf (take i xs) (λ (y : X). IsWanted y sigma)) old made
      → Matches limit count start (IsWanted x) made new
      → Matches limit count start (λ sigma. OneOf (take (i + 1) xs) (λ (y : X). IsWanted y sigma)) old new
  matches_next old made new first second =
      matches_part limit count start (λ sigma. OneOf (take i xs) (λ (y : X). IsWanted y sigma)) (IsWanted x)
      (λ sigma. OneOf (take (i + 1) xs) (λ (y : X). IsWanted y sigma)) old made new
      (λ sigma w. (one_next (λ (y : X). IsWanted y sigma) xs i x below is).0 w) first second

pub matches_first : {X : Type 0} (limit count : ℕ) (start : List Term) (IsWanted : X → List ℕ → Type 0) (found : List (List Term))
    → Matches limit count start (λ sigma. OneOf [] (λ (y : X). IsWanted y sigma)) found found
matches_first {X} limit count start IsWanted found =
    matches_none limit count start (λ sigma. OneOf [] (λ (y : X). IsWanted y sigma)) found
    (λ sigma extends one. one_none (λ (y : X). IsWanted y sigma) one)

pub matches_whole : {X : Type 0} (limit count : ℕ) (start : List Term) (IsWanted : X → List ℕ → Type 0) (xs : List X) (i : ℕ)
    (old new : List (List Term)) → length xs ≤ i
    → Matches limit count start (λ sigma. OneOf (take i xs) (λ (y : X). IsWanted y sigma)) old new
    → Matches limit count start (λ sigma. OneOf xs (λ (y : X). IsWanted y sigma)) old new
matches_whole {X} limit count start IsWanted xs i old new end matches =
    subst (λ (l : List X). Matches limit count start (λ sigma. OneOf l (λ (y : X). IsWanted y sigma)) old new) (take_all i xs end) matches
