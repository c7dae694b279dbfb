-- The numbers of a table are those of its problem, and small; and where the problem has no objects, no terms stand in its rows.
use Rattle.std.proofs.lemmas.List.{get_or_past}
use Rattle.px_base.specs.Answers.{some_same}
use Rattle.px_base.specs.ListLaws.{Contains-first, Contains-later}
use Rattle.std.specs.Prelude.{remove}
use Rattle.px_proof.specs.declared.proof.Leaf.{Leaf}
use Rattle.px_proof.specs.Derivation.{Derivation, Derivations, fact, ancestor, gap, open_place, none, also, derivations, height, greatest_height, leaves_of, all_leaves_of, leaf_atoms}
use Rattle.px_proof.specs.Derivation as derivation
use Rattle.px_proof.specs.Literals.{complement_of, positive_of, substitute_literal}
use Rattle.px_proof.specs.PlaceLaws.{length-remove, slice_get-within, All-prefix, All-back, Contains-mapped}
use Rattle.px_proof.specs.Proves.{IsObjectOrParameter, Proves, ProvesEach, from_atoms, instance_of, parts_of}
use Rattle.px_printer.specs.Blocks.{count_of}
use Rattle.px_table.specs.declared.mark.Mark.{Mark}
use Rattle.px_table.specs.Marks.{IsNamed, mark_eq, mark_of, marks_from, row_leaves, row_marks}
use Rattle.px_table.specs.MarkLaws.{mark_eq-decides}
use Rattle.px_table.specs.OnceLaws.{Contains-each_once}
use Rattle.px_table.specs.Supports.{ProvesEachOf, RowsProve, variables}
use Rattle.px_terms.specs.declared.clause.Clause.{Clause}
use Rattle.px_terms.specs.declared.clause.Lit.{Lit}
use Rattle.px_terms.specs.Operators.{adds, precondition, schema_of, no_schema}
use Rattle.px_terms.specs.Substitution.{substitute_atom}
use Rattle.px_terms.specs.Language.{substitute}
use Rattle.std.proofs.lemmas.List.Elements.{All-take, All-drop, All-append}
use Rattle.px_terms.specs.Validity.{HasArity, IsAtomOf, IsTermOf, IsValid, IsAxiomOf, IsSchemaOf}
use Rattle.px_terms.specs.Clauses.{IsClause}
use Rattle.px_script.specs.Common.{OpInst, Schema}
use Rattle.px_script.specs.Ranges.{HasShortLists}
use Rattle.px_script.proofs.Common.{◌≡◌, ℕ, zero, suc, ◌+◌, ◌<◌, ◌≤◌, List, [], ◌∷◌, ◌++◌, map, length, refl, sym, ap, ◌∙◌, subst, inl, inr, arith, Some, All, AllByRecursion, Contains, slice_get, take, drop, length-map, cases_lt, All-head, All-tail, All-at, All-each, All-map, Term, Obj, Var, Any, Atom, Problem}

-- what all have, item by item
pub by-recursion : {A : Type 0} (P : A → Type 0) (xs : List A) → All P xs → AllByRecursion P xs
by-recursion P [] all = tt
by-recursion P (x ∷ xs) all = (All-head P x xs all, by-recursion P xs (All-tail P x xs all))

module _ (problem : Problem) (params : ℕ) where
  -- the term is one of the problem's objects or one of so many variables, and there is an object
  abbrev pub TermFits : ℕ → Term → Type 0
  TermFits bound t = IsTermOf problem bound t × (1 ≤ problem.objects)

  abbrev pub AtomFits : ℕ → Atom → Type 0
  AtomFits bound atom = HasArity problem atom × AllByRecursion (TermFits bound) atom.args

  abbrev pub StepFits : OpInst → Type 0
  StepFits inst = (inst.op < length problem.schemas) × AllByRecursion (TermFits params) inst.args

  -- no number is greater than one of a block may be
  abbrev pub IsSmall : ℕ → Type 0
  IsSmall n = n ≤ 9999

  abbrev mutual
    pub ProofFits : Derivation → Type 0
    ProofFits (fact leaf) = IsSmall leaf.column × IsSmall leaf.index × AtomFits params leaf.atom
    ProofFits (ancestor i) = IsSmall i
    ProofFits (derivation.step clause theta place parts) =
        IsSmall clause × IsSmall place × IsSmall (count_of parts) × AllByRecursion (TermFits params) theta × ProofsFit parts
    ProofFits (gap atom) = ⊥
    ProofFits open_place = ⊥

    pub ProofsFit : Derivations → Type 0
    ProofsFit none = Unit {0}
    ProofsFit (also d ds) = ProofFits d × ProofsFit ds

  -- where there are no objects, there are no terms
  abbrev pub NoneWithout : List Term → Type 0
  NoneWithout ts = problem.objects ≡ 0 → ts ≡ []

  pub terms-fit : (bound : ℕ) (ts : List Term) → All (IsTermOf problem bound) ts → NoneWithout ts → AllByRecursion (TermFits bound) ts
  terms-fit bound ts all bare = elim (cases_lt 0 problem.objects) [
    | inl some ↦ each ts (by-recursion (IsTermOf problem bound) ts all) (omega (arith, some))
    | inr past ↦ subst (AllByRecursion (TermFits bound)) (sym (bare (omega (arith, past)))) tt
  ]
    where
      each : (ts : List Term) → AllByRecursion (IsTermOf problem bound) ts → 1 ≤ problem.objects → AllByRecursion (TermFits bound) ts
      each [] all some = tt
      each (t ∷ ts) all some = ((all.0, some), each ts all.1 some)

  abbrev IsName : Term → Type 0
  IsName t = IsObjectOrParameter problem.objects params t

  term-of : (t : Term) → IsName t → IsTermOf problem params t
  term-of (Obj n) is = is
  term-of (Var v) is = is
  term-of Any is = is

  terms-of : (ts : List Term) → All IsName ts → All (IsTermOf problem params) ts
  terms-of ts all = All-each (IsTermOf problem params) ts (λ t has. term-of t (All-at IsName ts t all has))

  abbrev pub LeafFits : Leaf → Type 0
  LeafFits leaf = IsSmall leaf.column × IsSmall leaf.index × HasArity problem leaf.atom

  -- ---- proofs

  module _ (valid : IsValid problem) where
    abbrev IsBare : Lit → Type 0
    IsBare lit = NoneWithout lit.atom.args

    -- without objects a clause has no variables, and nothing stands in its literals
    no-term : (variable_count : ℕ) (t : Term) → variable_count ≡ 0 → problem.objects ≡ 0 → IsTermOf problem variable_count t → ⊥
    no-term variable_count (Obj n) a b is = omega (arith, b, is)
    no-term variable_count (Var v) a b is = omega (arith, a, is)
    no-term variable_count Any a b is = is

    no-terms : (variable_count : ℕ) (ts : List Term) → variable_count ≡ 0 → problem.objects ≡ 0 → All (IsTermOf problem variable_count) ts → ts ≡ []
    no-terms variable_count [] a b all = refl
    no-terms variable_count (t ∷ ts) a b all = absurd (no-term variable_count t a b (All-head (IsTermOf problem variable_count) t ts all))

    clause-bare : (clause : Clause) → Contains problem.axioms clause → (theta : List Term) → All IsBare (instance_of clause.lits theta)
    clause-bare clause has theta =
        All-map IsBare (substitute_literal theta) clause.lits
        (All-each (λ (lit : Lit). IsBare (substitute_literal theta lit)) clause.lits (λ lit here none_there.
        let variable_count : clause.variable_count ≡ 0 = All-at (λ (c : Clause). c.variable_count ≡ 0) problem.axioms clause (valid.no_objects none_there).1 has in
        let of : IsAtomOf problem clause.variable_count lit.atom = All-at (λ (l : Lit). IsAtomOf problem clause.variable_count l.atom) clause.lits lit
        (All-at (IsAxiomOf problem) problem.axioms clause valid.axioms has).lits here in
        ap (map (substitute theta)) (no-terms clause.variable_count lit.atom.args variable_count none_there of.1)))

    removed-all : {X : Type 0} (Q : X → Type 0) (xs : List X) (i : ℕ) → All Q xs → All Q (remove xs i)
    removed-all Q xs i all = All-append Q (take i xs) (drop (suc i) xs) (All-take Q i xs all) (All-drop Q (suc i) xs all)

    got-there : {X : Type 0} (xs : List X) (k : ℕ) (x : X) → slice_get xs k ≡ Some x → Contains xs x
    got-there [] k x e = absurd (cc)
    got-there (y ∷ xs) zero x e = subst (Contains (y ∷ xs)) (some_same e) (Contains-first y xs)
    got-there (y ∷ xs) (suc k) x e = Contains-later y xs x (got-there xs k x e)

    empty : (ts : List Term) → length ts ≡ 0 → ts ≡ []
    empty [] e = refl
    empty (t ∷ ts) e = absurd (omega (arith, e))

    complements : (lits : List Lit) → AllByRecursion IsBare lits → AllByRecursion IsBare (map complement_of lits)
    complements [] all = tt
    complements (lit ∷ lits) all = (all.0, complements lits all.1)

    module _ (atoms : List Atom) where
      mutual
        pub proof-fits : (path : List Lit) (lit : Lit) (d : Derivation) → Proves (from_atoms IsName atoms) problem.axioms path lit d
            → All LeafFits (leaves_of d) → length path + height d ≤ 9999 → IsBare lit → ProofFits d
        proof-fits path lit (fact leaf) proves leaves low bare =
            let is = All-head LeafFits leaf [] leaves in
            let args : NoneWithout leaf.atom.args = λ none_there. ap (λ (l : Lit). l.atom.args) (sym proves.0) ∙ bare none_there in
            (is.0, is.1, (is.2, terms-fit params leaf.atom.args (terms-of leaf.atom.args proves.1.1) args))
        proof-fits path lit (ancestor i) proves leaves low bare =
            let within = slice_get-within path i (complement_of lit) proves in omega (arith, within, low)
        proof-fits path lit (derivation.step number theta place parts) proves leaves low bare =
            let clause : Clause = proves.0 in let uses = proves.1 in
            let has : Contains problem.axioms clause = got-there problem.axioms number clause uses.axiom_at in
            let within = slice_get-within problem.axioms number clause uses.axiom_at in
            let few = valid.arena.most in
            let size = (All-at IsClause problem.axioms clause valid.arena.each has).size in
            let place_within = slice_get-within (instance_of clause.lits theta) place lit uses.literal_at in
            let counted = length-map clause.lits (substitute_literal theta) in
            let left = remove (instance_of clause.lits theta) place in
            let all = removed-all IsBare (instance_of clause.lits theta) place (clause-bare clause has theta) in
            let bares = complements left (by-recursion IsBare left all) in
            let inner = proofs-fit (lit ∷ path) (parts_of clause.lits theta place) parts proves.2 leaves (omega (arith, low)) bares in
            let short = length-remove (instance_of clause.lits theta) place place_within in
            let same = length-map left complement_of in
            let none_chosen : NoneWithout theta = λ none_there. empty theta (uses.terms ∙
            All-at (λ (c : Clause). c.variable_count ≡ 0) problem.axioms clause (valid.no_objects none_there).1 has) in (
              omega (arith, within, few),
              omega (arith, place_within, counted, size.1),
              omega (arith, inner.1, same, short, counted, size.1),
              terms-fit params theta (terms-of theta uses.choices) none_chosen,
              inner.0,
            )
        proof-fits path lit (gap atom) proves leaves low bare = proves.1
        proof-fits path lit open_place proves leaves low bare = proves

        pub proofs-fit : (path lits : List Lit) (ds : Derivations) → ProvesEach (from_atoms IsName atoms) problem.axioms path lits ds
            → All LeafFits (all_leaves_of ds) → length path + greatest_height ds ≤ 9999 → AllByRecursion IsBare lits
            → ProofsFit ds × (count_of ds ≡ length lits)
        proofs-fit path [] none proves leaves low bare = (tt, refl)
        proofs-fit path (lit ∷ lits) (also d ds) proves leaves low bare =
            let one = proof-fits path lit d proves.0 (All-prefix LeafFits (leaves_of d) (all_leaves_of ds) leaves)
            (omega (arith, low)) bare.0 in
            let more = proofs-fit path lits ds proves.1 (All-back LeafFits (leaves_of d) (all_leaves_of ds) leaves)
            (omega (arith, low)) bare.1 in
            ((one, more.0), omega (arith, more.1))
        proofs-fit path [] (also d ds) proves leaves low bare = absurd proves
        proofs-fit path (lit ∷ lits) none proves leaves low bare = absurd proves

    -- ---- rows

    -- the atoms have no arguments where there are no objects
    abbrev AtomsBare : List Atom → Type 0
    AtomsBare atoms = AllByRecursion (λ (atom : Atom). NoneWithout atom.args) atoms

    pub row-fits : (atoms : List Atom) (row : List Derivation) → ProvesEachOf IsName problem.axioms atoms row
        → All LeafFits (row_leaves row) → All (λ d. height d ≤ 56) row → AtomsBare atoms → ProofsFit (derivations row)
    row-fits [] [] proves leaves low bare = tt
    row-fits (atom ∷ atoms) (d ∷ row) proves leaves low bare =
        let high = All-head (λ (x : Derivation). height x ≤ 56) d row low in (
          proof-fits (leaf_atoms (leaves_of d)) [] (positive_of atom) d proves.0.proves
              (All-prefix LeafFits (leaves_of d) (row_leaves row) leaves) (omega (arith, high)) bare.0,
          row-fits atoms row proves.1 (All-back LeafFits (leaves_of d) (row_leaves row) leaves)
              (All-tail (λ (x : Derivation). height x ≤ 56) d row low) bare.1,
        )
    row-fits [] (d ∷ row) proves leaves low bare = absurd proves
    row-fits (atom ∷ atoms) [] proves leaves low bare = absurd proves

    module _ (short_lists : All (HasShortLists 2) problem.schemas) (steps : List OpInst) where
      -- an operator adds few atoms
      few-adds : (inst : OpInst) → length (adds problem inst) ≤ 16
      few-adds inst = let same = length-map (schema_of problem inst).add (substitute_atom inst.args) in
          elim (cases_lt inst.op (length problem.schemas)) [
            | inl within ↦ (let is = short_lists inst.op no_schema within in omega (arith, same, is.2))
            | inr past ↦ (let none_there : length (schema_of problem inst).add ≡ 0 =
                ap (λ (s : Schema). length s.add) (get_or_past problem.schemas inst.op no_schema past) in
                omega (arith, same, none_there))
          ]

      mark-small : (mark : Mark) → mark.row ≤ 9999 → IsNamed problem steps mark → IsSmall mark.column × IsSmall mark.index
      mark-small mark small named = elim (cases_lt 0 mark.column) [
        | inl some ↦ (let from = named.added some in let inst : OpInst = from.0 in let few = few-adds inst in
            let within = slice_get-within (adds problem inst) mark.index mark.atom from.2 in
            let earlier = named.earlier in
            (omega (arith, earlier, small), omega (arith, within, few)))
        | inr past ↦ (let zero_index = named.initial (omega (arith, past)) in (omega (arith, past), omega (arith, zero_index)))
      ]

      abbrev OfProblem : Mark → Type 0
      OfProblem mark = IsAtomOf problem params mark.atom

      -- the leaves of a row are small and the problem's, by their marks
      leaves-fit : (r : ℕ) (row : List Derivation) → r ≤ 9999 → All OfProblem (row_marks r row)
          → All (IsNamed problem steps) (row_marks r row) → All LeafFits (row_leaves row)
      leaves-fit r row small atoms named = All-each LeafFits (row_leaves row) (λ leaf has.
          let there = Contains-each_once mark_eq mark_eq-decides (map (mark_of r) (row_leaves row)) (mark_of r leaf)
          (Contains-mapped (mark_of r) (row_leaves row) leaf has) in
          let numbers = mark-small (mark_of r leaf) small (All-at (IsNamed problem steps) (row_marks r row) (mark_of r leaf) named there) in
          (numbers.0, numbers.1, (All-at OfProblem (row_marks r row) (mark_of r leaf) atoms there).0))

      -- what a step needs has no terms where there are no objects
      precondition-bare : (inst : OpInst) → inst.op < length problem.schemas → AtomsBare (precondition problem inst)
      precondition-bare inst within = each (schema_of problem inst).pre (by-recursion _ (schema_of problem inst).pre is.pre)
        where
          is : IsSchemaOf problem inst.op (schema_of problem inst)
          is = valid.schemas inst.op within

          each : (atoms : List Atom) → AllByRecursion (IsAtomOf problem (schema_of problem inst).params) atoms
              → AtomsBare (map (substitute_atom inst.args) atoms)
          each [] all = tt
          each (atom ∷ atoms) all = (
            λ none_there. ap (map (substitute inst.args)) (no-terms (schema_of problem inst).params atom.args
                ((valid.no_objects none_there).0 inst.op no_schema within) none_there all.0.1),
            each atoms all.1,
          )

      goal-bare : (terms : List Term) (goal : List Atom) → AtomsBare goal → AtomsBare (map (substitute_atom terms) goal)
      goal-bare terms [] bare = tt
      goal-bare terms (atom ∷ atoms) bare = (λ none_there. ap (map (substitute terms)) (bare.0 none_there), goal-bare terms atoms bare.1)

      module _ (goal : List Atom) (goal_variable_count : ℕ) (bare : AtomsBare goal) where
        abbrev RowsFit : List (List Derivation) → Type 0
        RowsFit rows = AllByRecursion (λ (row : List Derivation). ProofsFit (derivations row)) rows

        pub rows-fit : (first : ℕ) (left : List OpInst) (rows : List (List Derivation))
            → RowsProve IsName problem params left goal goal_variable_count rows
            → AllByRecursion (λ (inst : OpInst). inst.op < length problem.schemas) left
            → All OfProblem (marks_from first rows)
            → All (IsNamed problem steps) (marks_from first rows)
            → All (All (λ d. height d ≤ 56)) rows → first + length left ≤ 9999 → RowsFit rows
        rows-fit first [] [] prove ops atoms named low small = absurd prove
        rows-fit first [] (row ∷ []) prove ops atoms named low small = (
          row-fits (map (substitute_atom (variables params ++ prove.0)) goal) row prove.2
              (leaves-fit first row (omega (arith, small)) (All-prefix OfProblem (row_marks first row) [] atoms)
              (All-prefix (IsNamed problem steps) (row_marks first row) [] named))
              (All-head (All (λ (d : Derivation). height d ≤ 56)) row [] low) (goal-bare (variables params ++ prove.0) goal bare),
          tt,
        )
        rows-fit first [] (row ∷ second ∷ rows) prove ops atoms named low small = absurd prove
        rows-fit first (inst ∷ left) [] prove ops atoms named low small = absurd prove
        rows-fit first (inst ∷ left) (row ∷ rows) prove ops atoms named low small = (
          row-fits (precondition problem inst) row prove.0
              (leaves-fit first row (omega (arith, small)) (All-prefix OfProblem (row_marks first row) (marks_from (suc first) rows) atoms)
              (All-prefix (IsNamed problem steps) (row_marks first row) (marks_from (suc first) rows) named))
              (All-head (All (λ (d : Derivation). height d ≤ 56)) row rows low) (precondition-bare inst ops.0),
          rows-fit (suc first) left rows prove.1 ops.1 (All-back OfProblem (row_marks first row) (marks_from (suc first) rows) atoms)
              (All-back (IsNamed problem steps) (row_marks first row) (marks_from (suc first) rows) named)
              (All-tail (All (λ (d : Derivation). height d ≤ 56)) row rows low) (omega (arith, small)),
        )
