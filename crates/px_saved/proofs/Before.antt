-- Terms, atoms and proofs of a table, as a line of its block says them: each is spelled, is read back, and no cause to refuse it is there.
use Rattle.std.specs.Prelude.{◌-◌, max}
use Rattle.px_names.specs.declared.kind.Kind.TheVariants as kind
use Rattle.px_printer.specs.Texts.{name_text}
use Rattle.px_printer.specs.Blocks.{count_of}
use Rattle.px_proof.specs.Derivation.{Derivation, Derivations, fact, ancestor, gap, open_place, none, also, derivations}
use Rattle.px_proof.specs.Derivation as derivation
use Rattle.px_terms.specs.Validity.{HasArity, IsValid}
use Rattle.px_script.specs.Causes.{is_numbered_by}
use Rattle.px_script.specs.Common.{OpInst}
use Rattle.px_script.specs.Declarations.{problem_here, letter_numbers, table_variables, table_term, operator_in, table_parameters, goal_number, goal_variables, instance_of_step}
use Rattle.px_script.specs.Faults.{numbers_of_part}
use Rattle.px_script.specs.Items.{atoms_of_part, terms_of_part}
use Rattle.px_script.specs.Ranges.{goal_place}
use Rattle.px_script.proofs.Common.{◌≡◌, ℕ, ◌+◌, ◌<◌, ◌≤◌, ◌==◌, true, false, ◌||◌, List, [], ◌∷◌, ◌++◌, map, length, refl, sym, ap, ◌∙◌, subst, arith, Option, None, Some, All, AllByRecursion, fold, slice_get, map-append, length-map, slice_index, unwrap_or, list_any, flat_map, nat_lt, nat_tests, or_right, is_empty, has_name, AreDistinct, HasShortLists, NameLists, Part, a_fact, an_ancestor, an_axiom, Declared, BlockKind, parameters_of, number_in, atom_of, term_of, Problem, Term, Obj, Var, Any, Atom}
use Rattle.px_script.specs.declared.kinds.Manner.TheVariants.{TableTerms as table_terms, TableGoals as table_goals}
use Rattle.px_script.proofs.Lists.{by_test}
use Rattle.px_saved.proofs.Between.{inside}
use Rattle.px_saved.proofs.Written.{IsText, HasText, AtomHasText, StepHasText, ProofHasText, ProofsHaveText, written_term, written_atom, written_variable, written_parts, all_written_parts}
use Rattle.px_saved.proofs.Numbers.{number-back, name-known, is-numbered, terms-back, own-position, other-position, IsSpelled}
use Rattle.px_saved.proofs.Fits.{TermFits, AtomFits, StepFits, ProofFits, ProofsFit}
use Rattle.px_saved.proofs.Parts.{ProofReads, ProofsRead, IsWhole, AreWhole}
use Rattle.px_saved.proofs.Clean.{IsGood, IsGoodAtom, all-both}

-- each name of the list is a text of a name
abbrev pub AreTexts : List (List ℕ) → Type 0
AreTexts names = (n : ℕ) → n < length names → IsText (unwrap_or (slice_get names n) [])

-- What the lines before the block leave: they are of version 2 or later, without commands, with no block open, and each number has its
-- name.
pub record IsBeforeBlock (d : Declared) : Type 0 where
  pub version : 2 ≤ d.version
  pub commands : is_empty d.commands ≡ true
  pub closed : d.block ≡ None
  pub valid : IsValid (problem_here d)
  pub objects : (problem_here d).objects ≡ length d.names.objects
  pub predicates : length (problem_here d).arities ≡ length d.names.predicates
  pub operators : length (problem_here d).schemas ≡ length d.names.operators
  pub arities : d.arities ≡ (problem_here d).arities
  pub short_lists : All (HasShortLists 2) (problem_here d).schemas
  pub objects_apart : AreDistinct d.names.objects
  pub predicates_apart : AreDistinct d.names.predicates
  pub operators_apart : AreDistinct d.names.operators
  pub objects_text : AreTexts d.names.objects
  pub predicates_text : AreTexts d.names.predicates
  pub operators_text : AreTexts d.names.operators

-- the number of a goal's variable by its place among them
abbrev place : Option ℕ → ℕ
place None = 0
place (Some k) = k + 1

module _ (d : Declared) (rs : List (List ℕ)) (name : List ℕ) (params : ℕ) (before : IsBeforeBlock d) (few : params ≤ 9999) where
  abbrev pub the_names : NameLists
  the_names = record d.names { results = rs }

  abbrev pub the_problem : Problem
  the_problem = problem_here d

  -- the block is of a table with so many parameters
  abbrev pub IsOfTable : BlockKind → Type 0
  IsOfTable block = (operator_in block ≡ None) × (table_parameters block ≡ params)

  -- ---- terms

  no-empty : 1 ≤ the_problem.objects → is_empty d.names.objects ≡ true → ⊥
  no-empty some empty = by d.names.objects (omega (arith, some, before.objects)) empty
    where
      by : (xs : List (List ℕ)) → 1 ≤ length xs → is_empty xs ≡ true → ⊥
      by [] long e = omega (arith, long)
      by (x ∷ xs) long e = cc

  below-objects : (n : ℕ) → n < the_problem.objects → n < length d.names.objects
  below-objects n below = omega (arith, below, before.objects)

  has-text : (bound : ℕ) → bound ≤ params + 12 → (t : Term) → TermFits the_problem params bound t → HasText the_names params t
  has-text bound small (Obj n) fits = before.objects_text n (below-objects n fits.0)
  has-text bound small (Var v) fits = let below = fits.0 in omega (arith, below, few, small)
  has-text bound small Any fits = absurd fits.0

  spelled : (bound : ℕ) → bound ≤ params + 12 → (t : Term) → TermFits the_problem params bound t → IsSpelled the_names params 12 t
  spelled bound small (Obj n) fits = below-objects n fits.0
  spelled bound small (Var v) fits = let below = fits.0 in omega (arith, below, small)
  spelled bound small Any fits = absurd fits.0

  module _ (n : ℕ) (block : BlockKind) (of_table : IsOfTable block) where
    abbrev x : Declared
    x = inside d name n block

    pub terms-read : (ts : List Term) → AllByRecursion (IsSpelled the_names params 12) ts
        → map (table_term x) (map (written_term the_names params) ts) ≡ ts
    terms-read ts all =
        (λ i. map (term_of (parameters_of (of_table.0 i)) (letter_numbers 112 (of_table.1 i) ++ letter_numbers 103 12) d.names.objects)
        (map (written_term the_names params) ts))
        ∙ terms-back the_names params 12 ts all before.objects_apart (omega (arith, few)) (omega arith)

    parameter-taken : (v : ℕ) → v < params → is_numbered_by 112 (table_parameters block) (written_variable the_names params v) ≡ true
    parameter-taken v below = let own : nat_lt v params ≡ true = grind (arith, nat_tests, below) in
        subst (λ m. is_numbered_by 112 m (written_variable the_names params v) ≡ true) (sym of_table.1)
        (rw own (is-numbered 112 params (v + 1) (omega arith) (omega (arith, below))))

    good-term : (t : Term) → TermFits the_problem params params t → IsGood x table_terms (written_term the_names params t)
    good-term (Obj k) fits = record {
      known = ap (λ b. b || has_name (name_text the_names kind.Object k) (parameters_of (operator_in block)))
          (name-known d.names.objects k (below-objects k fits.0));
      taken = refl;
      early = λ empty. refl;
    }
    good-term (Var v) fits =
        record { known = refl; taken = parameter-taken v fits.0; early = λ empty. absurd (no-empty fits.1 empty) }
    good-term Any fits = absurd fits.0

    good-terms : (ts : List Term) → AllByRecursion (TermFits the_problem params params) ts
        → AllByRecursion (IsGood x table_terms) (map (written_term the_names params) ts)
    good-terms [] all = tt
    good-terms (t ∷ ts) all = (good-term t all.0, good-terms ts all.1)

    goal-taken : (bound v : ℕ) → bound ≤ params + 12 → v < bound
        → (is_numbered_by 112 (table_parameters block) (written_variable the_names params v)
        || is_numbered_by 103 12 (written_variable the_names params v)) ≡ true
    goal-taken bound v small below = by_test (nat_lt v params)
        (λ e. let first : v < params = grind (arith, nat_tests, e) in
        ap (λ b. b || is_numbered_by 103 12 (written_variable the_names params v)) (parameter-taken v first))
        (λ e. let later : params ≤ v = grind (arith, nat_tests, e) in
        or_right (is_numbered_by 112 (table_parameters block) (written_variable the_names params v)) _
        (rw e (is-numbered 103 12 (v - params + 1) (omega arith) (omega (arith, below, later, small)))))

    good-goal-term : (bound : ℕ) → bound ≤ params + 12 → (t : Term) → TermFits the_problem params bound t
        → IsGood x table_goals (written_term the_names params t)
    good-goal-term bound small (Obj k) fits = record {
      known = ap (λ b. b || has_name (name_text the_names kind.Object k) (parameters_of (operator_in block)))
          (name-known d.names.objects k (below-objects k fits.0));
      taken = refl;
      early = λ empty. refl;
    }
    good-goal-term bound small (Var v) fits = record {
      known = refl;
      taken = goal-taken bound v small fits.0;
      early = λ empty. absurd (no-empty fits.1 empty);
    }
    good-goal-term bound small Any fits = absurd fits.0

    good-goal-terms : (bound : ℕ) → bound ≤ params + 12 → (ts : List Term) → AllByRecursion (TermFits the_problem params bound) ts
        → AllByRecursion (IsGood x table_goals) (map (written_term the_names params) ts)
    good-goal-terms bound small [] all = tt
    good-goal-terms bound small (t ∷ ts) all = (good-goal-term bound small t all.0, good-goal-terms bound small ts all.1)

    -- ---- atoms

    below-predicates : (p : ℕ) → p < length the_problem.arities → p < length d.names.predicates
    below-predicates p below = omega (arith, below, before.predicates)

    predicate-back : (p : ℕ) → p < length the_problem.arities → number_in (name_text the_names kind.Predicate p) d.names.predicates ≡ p
    predicate-back p below = number-back d.names.predicates p before.predicates_apart (below-predicates p below)

    arity-right : (atom : Atom) → HasArity the_problem atom → (length (map (written_term the_names params) atom.args)
        == slice_index d.arities (number_in (name_text the_names kind.Predicate atom.pred) d.names.predicates)) ≡ true
    arity-right atom has =
        let arity : slice_index d.arities (number_in (name_text the_names kind.Predicate atom.pred) d.names.predicates)
        ≡ slice_index the_problem.arities atom.pred = λ i. slice_index (before.arities i) (predicate-back atom.pred has.0 i) in
        let count = length-map atom.args (written_term the_names params) in
        same-number _ _ (count ∙ has.1 ∙ sym arity)
      where
        same-number : (m k : ℕ) → m ≡ k → (m == k) ≡ true
        same-number m k e = grind (arith, nat_tests, e)

    good-atom : (atom : Atom) → AtomFits the_problem params params atom → IsGoodAtom x table_terms (written_atom the_names params atom)
    good-atom atom fits = record {
      sign = refl;
      known = name-known d.names.predicates atom.pred (below-predicates atom.pred fits.0.0);
      arity = arity-right atom fits.0;
      arguments = good-terms atom.args fits.1;
    }

    good-goal-atom : (bound : ℕ) → bound ≤ params + 12 → (atom : Atom) → AtomFits the_problem params bound atom
        → IsGoodAtom x table_goals (written_atom the_names params atom)
    good-goal-atom bound small atom fits = record {
      sign = refl;
      known = name-known d.names.predicates atom.pred (below-predicates atom.pred fits.0.0);
      arity = arity-right atom fits.0;
      arguments = good-goal-terms bound small atom.args fits.1;
    }

    terms-spelled : (bound : ℕ) → bound ≤ params + 12 → (ts : List Term) → AllByRecursion (TermFits the_problem params bound) ts
        → AllByRecursion (IsSpelled the_names params 12) ts
    terms-spelled bound small [] all = tt
    terms-spelled bound small (t ∷ ts) all = (spelled bound small t all.0, terms-spelled bound small ts all.1)

    atom-read : (bound : ℕ) → bound ≤ params + 12 → (atom : Atom) → AtomFits the_problem params bound atom
        → atom_of x (table_variables x) (written_atom the_names params atom) ≡ atom
    atom-read bound small atom fits = λ i. record {
      pred = predicate-back atom.pred fits.0.0 i;
      args = terms-read atom.args (terms-spelled bound small atom.args fits.1) i;
    }

    terms-text : (bound : ℕ) → bound ≤ params + 12 → (ts : List Term) → AllByRecursion (TermFits the_problem params bound) ts
        → AllByRecursion (HasText the_names params) ts
    terms-text bound small [] all = tt
    terms-text bound small (t ∷ ts) all = (has-text bound small t all.0, terms-text bound small ts all.1)

    atom-text : (bound : ℕ) → bound ≤ params + 12 → (atom : Atom) → AtomFits the_problem params bound atom
        → AtomHasText the_names params atom
    atom-text bound small atom fits = record {
      predicate = before.predicates_text atom.pred (below-predicates atom.pred fits.0.0);
      arguments = terms-text bound small atom.args fits.1;
    }

    -- ---- the last variable of the goal

    goal-place : (bound : ℕ) → bound ≤ params + 12 → (t : Term) → TermFits the_problem params bound t
        → goal_number x (written_term the_names params t) ≡ goal_place params t
    goal-place bound small (Obj k) fits = refl
    goal-place bound small (Var v) fits = by_test (nat_lt v params)
        (λ e. let first : v < params = grind (arith, nat_tests, e) in
        rw e (ap place (other-position 112 103 (v + 1) 12 (λ same. omega (arith, same))) ∙ omega (arith, first)))
        (λ e. let later : params ≤ v = grind (arith, nat_tests, e) in let below = fits.0 in
        rw e (ap place (own-position 103 12 (v - params) (omega (arith, below, later, small)) (omega arith)) ∙ omega (arith, later)))
    goal-place bound small Any fits = absurd fits.0

    goal-places : (bound : ℕ) → bound ≤ params + 12 → (ts : List Term) → AllByRecursion (TermFits the_problem params bound) ts
        → map (goal_number x) (map (written_term the_names params) ts) ≡ map (goal_place params) ts
    goal-places bound small [] all = refl
    goal-places bound small (t ∷ ts) all = λ i. goal-place bound small t all.0 i ∷ goal-places bound small ts all.1 i

    all-places : (bound : ℕ) → bound ≤ params + 12 → (atoms : List Atom) → AllByRecursion (AtomFits the_problem params bound) atoms
        → map (goal_number x) (flat_map (λ y. y.atom.arguments) (map (written_atom the_names params) atoms))
        ≡ map (goal_place params) (flat_map (λ atom. atom.args) atoms)
    all-places bound small [] all = refl
    all-places bound small (atom ∷ atoms) all =
        map-append (goal_number x) (map (written_term the_names params) atom.args)
        (flat_map (λ y. y.atom.arguments) (map (written_atom the_names params) atoms))
        ∙ (λ i. goal-places bound small atom.args all.0.1 i ++ all-places bound small atoms all.1 i)
        ∙ sym (map-append (goal_place params) atom.args (flat_map (λ y. y.args) atoms))

    -- the greatest number of a variable is that of the goal's last
    pub variables-read : (bound : ℕ) → bound ≤ params + 12 → (atoms : List Atom) → AllByRecursion (AtomFits the_problem params bound) atoms
        → goal_variables x (map (written_atom the_names params) atoms)
        ≡ fold max 0 (map (goal_place params) (flat_map (λ atom. atom.args) atoms))
    variables-read bound small atoms all = ap (fold max 0) (all-places bound small atoms all)

    pub goal-read : (bound : ℕ) → bound ≤ params + 12 → (atoms : List Atom) → AllByRecursion (AtomFits the_problem params bound) atoms
        → map (atom_of x (table_variables x)) (map (written_atom the_names params) atoms) ≡ atoms
    goal-read bound small [] all = refl
    goal-read bound small (atom ∷ atoms) all = λ i. atom-read bound small atom all.0 i ∷ goal-read bound small atoms all.1 i

    pub good-goal : (bound : ℕ) → bound ≤ params + 12 → (atoms : List Atom) → AllByRecursion (AtomFits the_problem params bound) atoms
        → AllByRecursion (IsGoodAtom x table_goals) (map (written_atom the_names params) atoms)
    good-goal bound small [] all = tt
    good-goal bound small (atom ∷ atoms) all = (good-goal-atom bound small atom all.0, good-goal bound small atoms all.1)

    pub goal-text : (bound : ℕ) → bound ≤ params + 12 → (atoms : List Atom) → AllByRecursion (AtomFits the_problem params bound) atoms
        → AllByRecursion (AtomHasText the_names params) atoms
    goal-text bound small [] all = tt
    goal-text bound small (atom ∷ atoms) all = (atom-text bound small atom all.0, goal-text bound small atoms all.1)

    -- ---- steps

    pub step-text : (inst : OpInst) → StepFits the_problem params inst → StepHasText the_names params inst
    step-text inst fits = record {
      operator = before.operators_text inst.op (omega (arith, fits.0, before.operators));
      arguments = terms-text params (omega arith) inst.args fits.1;
    }

    pub step-read : (inst : OpInst) → StepFits the_problem params inst
        → instance_of_step x (name_text the_names kind.Operator inst.op) (map (written_term the_names params) inst.args) ≡ inst
    step-read inst fits = λ i. record {
      op = number-back d.names.operators inst.op before.operators_apart (omega (arith, fits.0, before.operators)) i;
      args = terms-read inst.args (terms-spelled params (omega arith) inst.args fits.1) i;
    }

    pub operator-known : (inst : OpInst) → StepFits the_problem params inst
        → has_name (name_text the_names kind.Operator inst.op) d.names.operators ≡ true
    operator-known inst fits = name-known d.names.operators inst.op (omega (arith, fits.0, before.operators))

    pub good-step : (inst : OpInst) → StepFits the_problem params inst
        → AllByRecursion (IsGood x table_terms) (map (written_term the_names params) inst.args)
    good-step inst fits = good-terms inst.args fits.1

    -- ---- proofs

    -- a part's numbers are small, and its atom or terms may stand there
    abbrev pub IsGoodPart : Part → Type 0
    IsGoodPart (a_fact column index y) =
        (nat_lt 9999 column ≡ false) × (nat_lt 9999 index ≡ false) × IsGoodAtom x table_terms y
    IsGoodPart (an_ancestor k) = nat_lt 9999 k ≡ false
    IsGoodPart (an_axiom k place count ts) =
        (nat_lt 9999 k ≡ false) × (nat_lt 9999 place ≡ false) × (nat_lt 9999 count ≡ false) × AllByRecursion (IsGood x table_terms) ts

    small-number : (k : ℕ) → k ≤ 9999 → nat_lt 9999 k ≡ false
    small-number k small = grind (arith, nat_tests, small)

    pub record IsFine (p : Derivation) : Type 0 where
      pub reads : ProofReads the_names params x p
      pub whole : IsWhole the_names params p
      pub text : ProofHasText the_names params p
      pub good : AllByRecursion IsGoodPart (written_parts the_names params p)

    pub record AreFine (ps : Derivations) : Type 0 where
      pub reads : ProofsRead the_names params x ps
      pub whole : AreWhole the_names params ps
      pub text : ProofsHaveText the_names params ps
      pub good : AllByRecursion IsGoodPart (all_written_parts the_names params ps)

    mutual
      fine : (p : Derivation) → ProofFits the_problem params p → IsFine p
      fine (fact leaf) fits = record {
        reads = atom-read params (omega arith) leaf.atom fits.2;
        whole = tt;
        text = (omega (arith, fits.0), omega (arith, fits.1), atom-text params (omega arith) leaf.atom fits.2);
        good = ((small-number leaf.column fits.0, small-number leaf.index fits.1, good-atom leaf.atom fits.2), tt);
      }
      fine (ancestor i) fits =
          record { reads = tt; whole = tt; text = omega (arith, fits); good = (small-number i fits, tt) }
      fine (derivation.step clause theta place ps) fits = let inner = all-fine ps fits.4 in record {
        reads = (terms-read theta (terms-spelled params (omega arith) theta fits.3), inner.reads);
        whole = inner.whole;
        text = (
          omega (arith, fits.0),
          omega (arith, fits.1),
          omega (arith, fits.2),
          terms-text params (omega arith) theta fits.3,
          inner.text,
        );
        good = (
          (small-number clause fits.0, small-number place fits.1, small-number (count_of ps) fits.2, good-terms theta fits.3),
          inner.good,
        );
      }
      fine (gap atom) fits = absurd fits
      fine open_place fits = absurd fits

      pub all-fine : (ps : Derivations) → ProofsFit the_problem params ps → AreFine ps
      all-fine none fits = record { reads = tt; whole = tt; text = tt; good = tt }
      all-fine (also p ps) fits = let one = fine p fits.0 in let more = all-fine ps fits.1 in record {
        reads = (one.reads, more.reads);
        whole = (one.whole, more.whole);
        text = (one.text, more.text);
        good = all-both IsGoodPart (written_parts the_names params p) (all_written_parts the_names params ps) one.good more.good;
      }

    -- what the parts of a row have
    pub part-atoms : (parts : List Part) → AllByRecursion IsGoodPart parts
        → AllByRecursion (IsGoodAtom x table_terms) (flat_map atoms_of_part parts)
    part-atoms [] all = tt
    part-atoms (a_fact column index y ∷ parts) all = (all.0.2, part-atoms parts all.1)
    part-atoms (an_ancestor k ∷ parts) all = part-atoms parts all.1
    part-atoms (an_axiom k place count ts ∷ parts) all = part-atoms parts all.1

    pub part-terms : (parts : List Part) → AllByRecursion IsGoodPart parts
        → AllByRecursion (IsGood x table_terms) (flat_map terms_of_part parts)
    part-terms [] all = tt
    part-terms (a_fact column index y ∷ parts) all = part-terms parts all.1
    part-terms (an_ancestor k ∷ parts) all = part-terms parts all.1
    part-terms (an_axiom k place count ts ∷ parts) all =
        all-both (IsGood x table_terms) ts (flat_map terms_of_part parts) all.0.3 (part-terms parts all.1)

    pub part-numbers : (parts : List Part) → AllByRecursion IsGoodPart parts
        → list_any (nat_lt 9999) (flat_map numbers_of_part parts) ≡ false
    part-numbers [] all = refl
    part-numbers (a_fact column index y ∷ parts) all = rw (all.0.0, all.0.1) (part-numbers parts all.1)
    part-numbers (an_ancestor k ∷ parts) all = rw all.0 (part-numbers parts all.1)
    part-numbers (an_axiom k place count ts ∷ parts) all = rw (all.0.0, all.0.1, all.0.2) (part-numbers parts all.1)
