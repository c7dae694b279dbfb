-- The terms that a goal's variables get from the conclusions of its row.
use Rattle.std.proofs.Common.{◌≡◌, ◌⊎◌, ℕ, zero, suc, ◌+◌, ◌-◌, ◌<◌, ◌≤◌, true, false, cond, List, [], ◌∷◌, ◌++◌, length, map, drop, get_or, refl, sym, ap, ◌∙◌, subst, inl, inr, arith, Some, None, add-one}
use Rattle.std.specs.Prelude.{All, Contains, nat_lt, ◌==◌}
use Rattle.std.proofs.lemmas.Bool.Decides.{nat_tests}
use Rattle.std.proofs.lemmas.List.{drop_all, get_or_default, get_or_append_left, get_or-append_right}
use Rattle.std.proofs.Math.Seq.{drop-cons}
use Rattle.std.proofs.lemmas.Slice.Zip.{AllZip-long}
use Rattle.px_base.specs.Answers.{some_or_none}
use Rattle.px_base.specs.ListLaws.{All-at, Contains-none, Contains-first, Contains-later, Contains-cases}
use Rattle.px_terms.specs.declared.atom.Atom.{Atom}
use Rattle.px_terms.specs.declared.clause.Clause.{Clause}
use Rattle.px_terms.specs.declared.problem.Problem.{Problem}
use Rattle.px_proof.specs.declared.proof.Proof.{Proof}
use Rattle.px_terms.specs.declared.term.Term.{Term}
use Rattle.px_terms.specs.declared.term.Term.TheVariants.{Obj, Var, Any}
use Rattle.px_terms.specs.Language.{substitute}
use Rattle.px_terms.specs.Substitution.{substitute_atom, variables_from}
use Rattle.px_terms.specs.Validity.{IsAtomOf, IsTermOf}
use Rattle.px_table.specs.Choices.{atom_by, choice_of, chosen_or_any, first_answer, term_beside, term_by}
use Rattle.px_table.specs.Supports.{variables}
use Rattle.px_table.specs.Conclusions.{AreConclusions, IsConclusion}
use Rattle.px_terms.proofs.VariableLemmas.{length-variables}
use Rattle.px_table.proofs.Loops.{zip_at}

-- ---- steps of the loops

pub beside_past : (v : ℕ) (patterns terms : List Term) → term_beside v patterns [] ≡ None
beside_past v [] terms = refl
beside_past v (p ∷ patterns) terms = refl

pub beside_end : (v : ℕ) (patterns terms : List Term) (k : ℕ) → length terms ≤ k → term_beside v (drop k patterns) (drop k terms) ≡ None
beside_end v patterns terms k end = ap (term_beside v (drop k patterns)) (drop_all k terms end) ∙ beside_past v (drop k patterns) []

choice_past : (v : ℕ) (goal : List Atom) → choice_of v goal [] ≡ None
choice_past v [] = refl
choice_past v (g ∷ goal) = refl

pub choice_end : (v : ℕ) (goal atoms : List Atom) (k : ℕ) → length atoms ≤ k → choice_of v (drop k goal) (drop k atoms) ≡ None
choice_end v goal atoms k end = ap (choice_of v (drop k goal)) (drop_all k atoms end) ∙ choice_past v (drop k goal)

pub choice_step : (v : ℕ) (goal atoms : List Atom) (k : ℕ) (pattern atom : Atom) → k < length goal → k < length atoms
    → pattern ≡ get_or goal k pattern → atom ≡ get_or atoms k atom
    → choice_of v (drop k goal) (drop k atoms)
    ≡ first_answer (term_beside v pattern.args atom.args) (choice_of v (drop (suc k) goal) (drop (suc k) atoms))
choice_step v goal atoms k pattern atom below below' is is' =
    ap (λ l. choice_of v l (drop k atoms)) (drop-cons goal k pattern below ∙ ap (λ p. p ∷ drop (suc k) goal) (sym is))
    ∙ ap (choice_of v (pattern ∷ drop (suc k) goal)) (drop-cons atoms k atom below' ∙ ap (λ a. a ∷ drop (suc k) atoms) (sym is'))

-- ---- terms that agree with a substitution

module _ (terms : List Term) (v : ℕ) where
  -- what stands beside the variable under a substitution is its term
  beside_under : (patterns : List Term) → Contains patterns (Var v)
      → term_beside v patterns (map (substitute terms) patterns) ≡ Some (substitute terms (Var v))
  beside_under [] has = absurd (Contains-none (Var v) has)
  beside_under (Obj n ∷ patterns) has =
      elim (Contains-cases (Obj n) patterns (Var v) has) [ inl is ↦ absurd (cc) | inr later ↦ beside_under patterns later ]
  beside_under (Any ∷ patterns) has =
      elim (Contains-cases Any patterns (Var v) has) [ inl is ↦ absurd (cc) | inr later ↦ beside_under patterns later ]
  beside_under (Var w ∷ patterns) has =
      elim (w == v) as (λ b. (w == v) ≡ b
      → first_answer (cond b (Some (substitute terms (Var w))) None) (term_beside v patterns (map (substitute terms) patterns))
      ≡ Some (substitute terms (Var v))) [
        | true ↦ λ same. ap (λ n. Some (substitute terms (Var n))) (let e : w ≡ v = grind (arith, nat_tests) in e)
        | false ↦ λ other. elim (Contains-cases (Var w) patterns (Var v) has) [
          | inl is ↦ let e : w ≡ v = cc in absurd (grind (arith, nat_tests))
          | inr later ↦ beside_under patterns later
        ]
      ] refl

  -- nothing else stands there
  beside_only : (patterns : List Term)
      → (term_beside v patterns (map (substitute terms) patterns) ≡ None)
      ⊎ (term_beside v patterns (map (substitute terms) patterns) ≡ Some (substitute terms (Var v)))
  beside_only [] = inl refl
  beside_only (Obj n ∷ patterns) = beside_only patterns
  beside_only (Any ∷ patterns) = beside_only patterns
  beside_only (Var w ∷ patterns) =
      elim (w == v) as (λ b. (w == v) ≡ b
      → (first_answer (cond b (Some (substitute terms (Var w))) None) (term_beside v patterns (map (substitute terms) patterns)) ≡ None)
      ⊎ (first_answer (cond b (Some (substitute terms (Var w))) None) (term_beside v patterns (map (substitute terms) patterns))
      ≡ Some (substitute terms (Var v)))) [
        | true ↦ λ same. inr (ap (λ n. Some (substitute terms (Var n))) (let e : w ≡ v = grind (arith, nat_tests) in e))
        | false ↦ λ other. beside_only patterns
      ] refl

  choice_under : (goal : List Atom) (pattern : Atom) → Contains goal pattern → Contains pattern.args (Var v)
      → choice_of v goal (map (substitute_atom terms) goal) ≡ Some (substitute terms (Var v))
  choice_under [] pattern has inside = absurd (Contains-none pattern has)
  choice_under (g ∷ goal) pattern has inside =
      elim (beside_only g.args) [
        | inr found ↦ ap (λ o. first_answer o (choice_of v goal (map (substitute_atom terms) goal))) found
        | inl missing ↦ ap (λ o. first_answer o (choice_of v goal (map (substitute_atom terms) goal))) missing
            ∙ elim (Contains-cases g goal pattern has) [
              | inl is ↦ absurd (some_or_none (sym (beside_under g.args (subst (λ (a : Atom). Contains a.args (Var v)) (sym is) inside))
                  ∙ missing))
              | inr later ↦ choice_under goal pattern later inside
            ]
      ]

map_alike : {X Y : Type 0} (f g : X → Y) (xs : List X) → ((x : X) → Contains xs x → f x ≡ g x) → map f xs ≡ map g xs
map_alike f g [] same = refl
map_alike f g (x ∷ xs) same = cc (same x (Contains-first x xs), map_alike f g xs (λ y has. same y (Contains-later x xs y has)))

-- ---- the substitution that the choices make

choices_from : ℕ → ℕ → List Atom → List Atom → List Term
choices_from first zero goal atoms = []
choices_from first (suc count) goal atoms = chosen_or_any (choice_of first goal atoms) ∷ choices_from (suc first) count goal atoms

length-choices : (first count : ℕ) (goal atoms : List Atom) → length (choices_from first count goal atoms) ≡ count
unfolding choices_from
length-choices first zero goal atoms = refl
length-choices first (suc count) goal atoms = ap suc (length-choices (suc first) count goal atoms)

choice_at : (first count j v : ℕ) (goal atoms : List Atom) → j < count → v ≡ first + j
    → get_or (choices_from first count goal atoms) j Any ≡ chosen_or_any (choice_of v goal atoms)
unfolding choices_from
choice_at first zero j v goal atoms below is = absurd (omega (arith, below))
choice_at first (suc count) zero v goal atoms below is =
    ap (λ n. chosen_or_any (choice_of n goal atoms)) (let e : first ≡ v = omega arith in e)
choice_at first (suc count) (suc j) v goal atoms below is =
    choice_at (suc first) count j v goal atoms (omega (arith, below)) (omega (arith, is))

variable_at : (first count j v : ℕ) → j < count → v ≡ first + j → get_or (variables_from first count) j Any ≡ Var v
variable_at first zero j v below is = absurd (omega (arith, below))
variable_at first (suc count) zero v below is = ap Var (let e : first ≡ v = omega arith in e)
variable_at first (suc count) (suc j) v below is = variable_at (suc first) count j v (omega (arith, below)) (omega (arith, is))

split_at : (a b : ℕ) → ((a < b) × (nat_lt a b ≡ true)) ⊎ ((b ≤ a) × (nat_lt a b ≡ false))
split_at a b = elim (nat_lt a b) as (λ c. nat_lt a b ≡ c → ((a < b) × (c ≡ true)) ⊎ ((b ≤ a) × (c ≡ false))) [
  | true ↦ λ e. inl (grind (arith, nat_tests), refl)
  | false ↦ λ e. inr (grind (arith, nat_tests), refl)
] refl

module _ (problem : Problem) (params goal_variable_count : ℕ) (goal : List Atom) (in_range : All (IsAtomOf problem (params + goal_variable_count)) goal) where
  -- a parameter stays, a variable of the goal gets its term
  parameter_at : (chosen : List Term) (v : ℕ) → v < params → get_or (variables params ++ chosen) v Any ≡ Var v
  parameter_at chosen v below =
      get_or_append_left (variables params) chosen Any v (omega (arith, below, length-variables 0 params))
      ∙ variable_at 0 params v v below (omega arith)

  variable_behind : (chosen : List Term) (v : ℕ) → params ≤ v → get_or (variables params ++ chosen) v Any ≡ get_or chosen (v - params) Any
  variable_behind chosen v above = get_or-append_right (variables params) chosen params v Any (length-variables 0 params) above

  term-made : (atoms : List Atom) (t : Term) → IsTermOf problem (params + goal_variable_count) t
      → term_by params goal atoms t ≡ substitute (variables params ++ choices_from params goal_variable_count goal atoms) t
  term-made atoms (Obj n) h = refl
  term-made atoms Any h = refl
  term-made atoms (Var v) h = elim (split_at v params) [
    | inl inside ↦ ap (λ b. cond b (Var v) (chosen_or_any (choice_of v goal atoms))) inside.1
        ∙ sym (parameter_at (choices_from params goal_variable_count goal atoms) v inside.0)
    | inr outside ↦ ap (λ b. cond b (Var v) (chosen_or_any (choice_of v goal atoms))) outside.1
        ∙ sym (variable_behind (choices_from params goal_variable_count goal atoms) v outside.0
        ∙ choice_at params goal_variable_count (v - params) v goal atoms (omega (arith, h, outside.0)) (omega (arith, outside.0)))
  ]

  -- where the choices give the conclusions, there are such terms
  pub made_by_choices : (atoms : List Atom) → map (atom_by params goal atoms) goal ≡ atoms
      → (chosen : List Term) × (length chosen ≡ goal_variable_count) × (map (substitute_atom (variables params ++ chosen)) goal ≡ atoms)
  made_by_choices atoms is = (
    choices_from params goal_variable_count goal atoms,
    length-choices params goal_variable_count goal atoms,
    sym (map_alike (atom_by params goal atoms) (substitute_atom (variables params ++ choices_from params goal_variable_count goal atoms)) goal
        (λ pattern has.
        ap (λ (args : List Term). record { pred = pattern.pred; args = args })
        (map_alike (term_by params goal atoms) (substitute (variables params ++ choices_from params goal_variable_count goal atoms)) pattern.args
        (λ t inside. term-made atoms t (All-at (IsTermOf problem (params + goal_variable_count)) pattern.args t
        (All-at (IsAtomOf problem (params + goal_variable_count)) goal pattern in_range has).1 inside))))) ∙ is,
  )

  module _ (chosen : List Term) where
    abbrev Given : List Atom
    Given = map (substitute_atom (variables params ++ chosen)) goal

    term-given : (pattern : Atom) → Contains goal pattern → (t : Term) → Contains pattern.args t
        → term_by params goal Given t ≡ substitute (variables params ++ chosen) t
    term-given pattern has (Obj n) inside = refl
    term-given pattern has Any inside = refl
    term-given pattern has (Var v) inside = elim (split_at v params) [
      | inl before ↦ ap (λ b. cond b (Var v) (chosen_or_any (choice_of v goal Given))) before.1 ∙ sym (parameter_at chosen v before.0)
      | inr behind ↦ ap (λ b. cond b (Var v) (chosen_or_any (choice_of v goal Given))) behind.1
          ∙ ap chosen_or_any (choice_under (variables params ++ chosen) v goal pattern has inside)
    ]

    -- where there are such terms, the choices give the conclusions
    pub choices_give : map (atom_by params goal Given) goal ≡ Given
    choices_give =
        map_alike (atom_by params goal Given) (substitute_atom (variables params ++ chosen)) goal
        (λ pattern has.
        ap (λ (args : List Term). record { pred = pattern.pred; args = args })
        (map_alike (term_by params goal Given) (substitute (variables params ++ chosen)) pattern.args
        (λ t inside. term-given pattern has t inside)))

-- ---- the conclusion of one proof of the row

abbrev pub no_atom : Atom
no_atom = record { pred = 0; args = [] }

module _ (axioms : List Clause) (row : List Proof) (k : ℕ) (proof : Proof) (is : proof ≡ get_or row k proof) (below : k < length row)
    (atoms : List Atom) (concluded : AreConclusions axioms atoms row) where
  pub within_atoms : k < length atoms
  within_atoms = let same = AllZip-long (IsConclusion axioms) atoms row concluded in omega (arith, below, same)

  pub conclusion_here : IsConclusion axioms (get_or atoms k no_atom) proof
  conclusion_here =
      subst (IsConclusion axioms (get_or atoms k no_atom)) (sym is)
      (zip_at (IsConclusion axioms) atoms row k no_atom proof concluded within_atoms)

  pub choice_here : (v : ℕ) (goal : List Atom) (pattern : Atom) → k < length goal → pattern ≡ get_or goal k pattern
      → choice_of v (drop k goal) (drop k atoms)
      ≡ first_answer (term_beside v pattern.args (get_or atoms k no_atom).args) (choice_of v (drop (k + 1) goal) (drop (k + 1) atoms))
  choice_here v goal pattern below' is' =
      rw (add-one k) (choice_step v goal atoms k pattern (get_or atoms k no_atom) below' within_atoms is'
      (get_or_default atoms k no_atom (get_or atoms k no_atom) within_atoms))

pub atom_is : (a b : Atom) → a.pred ≡ b.pred → a.args ≡ b.args → a ≡ b
atom_is a b p q = λ i. record { pred = p i; args = q i }
