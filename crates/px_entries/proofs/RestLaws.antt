-- Proofs of a formula, and of its rest without the atoms that operators add and no axiom concludes. Such an atom without variables is
-- proved as a fact alone, and a gap closes it where it is none.
use Rattle.std.proofs.Common.{◌≡◌, ◌∙◌, ◌⊎◌, ℕ, ◌+◌, ◌≤◌, ◌<◌, take, get_or, true, false, List, [], ◌∷◌, ◌++◌, length, max, refl, ap, sym, subst, inl, inr, arith}
use Rattle.std.specs.Prelude.{All, Contains}
use Rattle.std.proofs.Math.Nat.{max-le, le-max_left, le-max_right}
use Rattle.std.proofs.lemmas.List.Elements.{All-head, All-tail, Contains-append_cases, Contains-append_left, Contains-append_right}
use Rattle.px_base.specs.ListLaws.{All-at, All-each, Contains-cases, Contains-first, Contains-later, Contains-none, Contains-one}
use Rattle.px_proof.specs.declared.proof.Leaf.{Leaf}
use Rattle.px_proof.specs.Derivation.{Derivation, Derivations, fact, ancestor, step, gap, open_place, none, also, greatest_height, height}
use Rattle.px_proof.specs.Literals.{positive_of}
use Rattle.px_proof.specs.Proves.{Proves, ProvesEach, Rules}
use Rattle.px_question.specs.Answers.{IsList, literals_of, object_terms}
use Rattle.px_question.specs.FewerShapes.{Contains-place}
use Rattle.px_question.specs.Gaps.{all_gaps_of, gaps_in, gaps_of}
use Rattle.px_question.specs.Settings.{Setting, proofs_in, setting_of}
use Rattle.px_terms.specs.Instances.{IsGround}
use Rattle.px_terms.specs.Order.{atom_eq}
use Rattle.px_terms.specs.OrderLaws.{atom_eq-decides}
use Rattle.px_terms.specs.Substitution.{substitute_atom}
use Rattle.px_terms.specs.Validity.{IsAtomOf, IsValid}
use Rattle.px_terms.specs.ValidityLaws.{atom_of-is_ground, atom-is_of}
use Rattle.px_terms.specs.declared.atom.Atom.{Atom}
use Rattle.px_terms.specs.declared.clause.Lit.{Lit}
use Rattle.px_terms.specs.declared.problem.Problem.{Problem}
use Rattle.px_gaps.specs.Concluding.{IsConcluded}
use Rattle.px_entries.specs.Rest.{IsOnlyAdded, IsRest}
use Rattle.px_gaps.proofs.AddableLaws.{addable-alike}
use Rattle.px_gaps.proofs.FactLemmas.{no-step, proof-fact, provable-fact}
use Rattle.px_gaps.proofs.GapAtoms.{length-objects, object_terms-are}
use Rattle.px_base.specs.Answers.{both_answers}
use Rattle.px_base.proofs.Loops.{take_next}

-- ---- making the rest

rest-left : (problem : Problem) (xs rest : List Atom) (x : Atom) → IsRest problem xs rest → IsOnlyAdded problem x
    → IsRest problem (xs ++ x ∷ []) rest
rest-left problem [] rest x is added = inl (added, is)
rest-left problem (y ∷ xs) rest x (inl (h, is)) added = inl (h, rest-left problem xs rest x is added)
rest-left problem (y ∷ xs) rest x (inr (h, (others, same, is))) added = inr (h, (others, same, rest-left problem xs others x is added))

rest-kept : (problem : Problem) (xs rest : List Atom) (x : Atom) → IsRest problem xs rest → (¬ IsOnlyAdded problem x)
    → IsRest problem (xs ++ x ∷ []) (rest ++ x ∷ [])
rest-kept problem [] rest x is other = inr (other, ([], ap (λ (l : List Atom). l ++ x ∷ []) is, refl))
rest-kept problem (y ∷ xs) rest x (inl (h, is)) other = inl (h, rest-kept problem xs rest x is other)
rest-kept problem (y ∷ xs) rest x (inr (h, (others, same, is))) other =
    inr (h, (others ++ x ∷ [], ap (λ (l : List Atom). l ++ x ∷ []) same, rest-kept problem xs others x is other))

-- one more atom of the formula
module _ (problem : Problem) (formula : List Atom) (i : ℕ) (x : Atom) (old : List Atom) (below : i < length formula)
    (at : x ≡ get_or formula i x) (was : IsRest problem (take i formula) old) where
  pub rest-next_kept : (new : List Atom) → (¬ IsOnlyAdded problem x) → new ≡ old ++ x ∷ [] → IsRest problem (take (i + 1) formula) new
  rest-next_kept new other put =
      subst (IsRest problem (take (i + 1) formula)) (sym put)
      (subst (λ (l : List Atom). IsRest problem l (old ++ x ∷ [])) (sym (take_next formula i x below at))
      (rest-kept problem (take i formula) old x was other))

  pub rest-next_left : (new : List Atom) → IsOnlyAdded problem x → new ≡ old → IsRest problem (take (i + 1) formula) new
  rest-next_left new added same =
      subst (IsRest problem (take (i + 1) formula)) (sym same)
      (subst (λ (l : List Atom). IsRest problem l old) (sym (take_next formula i x below at))
      (rest-left problem (take i formula) old x was added))

-- what is in the rest is in the formula
rest-member : (problem : Problem) (formula rest : List Atom) → IsRest problem formula rest → (atom : Atom) → Contains rest atom
    → Contains formula atom
rest-member problem [] rest is atom has = absurd (Contains-none atom (subst (λ (l : List Atom). Contains l atom) is has))
rest-member problem (x ∷ xs) rest (inl (h, is)) atom has = Contains-later x xs atom (rest-member problem xs rest is atom has)
rest-member problem (x ∷ xs) rest (inr (h, (others, same, is))) atom has =
    elim (Contains-cases x others atom (subst (λ (l : List Atom). Contains l atom) same has)) [
      | inl here ↦ subst (Contains (x ∷ xs)) here (Contains-first x xs)
      | inr later ↦ Contains-later x xs atom (rest-member problem xs others is atom later)
    ]

pub rest-all : (P : Atom → Type 0) (problem : Problem) (formula rest : List Atom) → IsRest problem formula rest → All P formula → All P rest
rest-all P problem formula rest is all =
    All-each P rest (λ atom has. All-at P formula atom all (rest-member problem formula rest is atom has))

-- ---- facts

same-atom : (a b : Atom) → (a ≡ b) ⊎ (¬ (a ≡ b))
same-atom a b = elim (atom_eq a b) as (λ t. atom_eq a b ≡ t → (a ≡ b) ⊎ (¬ (a ≡ b))) [
  | true ↦ λ yes'. inl ((atom_eq-decides a b).0 yes')
  | false ↦ λ no'. inr (λ same. both_answers (atom_eq a b) no' ((atom_eq-decides a b).1 same))
] refl

pub among-or-not : (atoms : List Atom) (q : Atom) → Contains atoms q ⊎ (¬ Contains atoms q)
among-or-not [] q = inr (Contains-none q)
among-or-not (x ∷ xs) q = elim (same-atom x q) [
  | inl here ↦ inl (subst (Contains (x ∷ xs)) here (Contains-first x xs))
  | inr other ↦ elim (among-or-not xs q) [
    | inl later ↦ inl (Contains-later x xs q later)
    | inr never ↦ inr (λ has. elim (Contains-cases x xs q has) [ inl here ↦ other here | inr later ↦ never later ])
  ]
]

-- ---- the gaps of one that no axiom concludes

-- no axiom concludes the atom's predicate, and it has no variables
abbrev pub IsFreeGround : Problem → Atom → Type 0
IsFreeGround problem atom = (¬ IsConcluded problem.axioms atom.pred) × IsGround atom

free-gap : (problem : Problem) (rules : Rules) (q : Atom) → IsFreeGround problem q → (d : Derivation)
    → Proves rules problem.axioms [] (positive_of q) d → (atom : Atom) → Contains (gaps_of d) atom → IsFreeGround problem atom
free-gap problem rules q free (fact leaf) proves atom has = absurd (Contains-none atom has)
free-gap problem rules q free (ancestor i) proves atom has = absurd (Contains-none atom has)
free-gap problem rules q free (step number theta place parts) proves atom has =
    absurd (no-step (setting_of problem []) q free.0 rules.IsChoice q refl number theta place proves.0 proves.1)
free-gap problem rules q free (gap closed) proves atom has =
    subst (IsFreeGround problem) (ap (λ (l : Lit). l.atom) proves.0 ∙ Contains-one closed atom has) free
free-gap problem rules q free open_place proves atom has = absurd (Contains-none atom has)

-- ---- lists of proofs

module _ (problem : Problem) (facts : List Atom) (objects : List ℕ) where
  abbrev here : Setting
  here = setting_of problem facts

  abbrev under : Atom → Atom
  under atom = substitute_atom (object_terms objects) atom

  abbrev AreGround : List Atom → Type 0
  AreGround formula = All (λ (atom : Atom). IsGround (under atom)) formula

  abbrev ProvesAll : Rules → List Atom → Derivations → Type 0
  ProvesAll rules formula ds = ProvesEach rules problem.axioms [] (literals_of formula objects) ds

  -- such proofs of the formula, within the height
  abbrev Proved : Rules → List Atom → ℕ → Type 0
  Proved rules formula high = (es : Derivations) × ProvesAll rules formula es × (greatest_height es ≤ high)

  max-first : (a b high : ℕ) → max a b ≤ high → a ≤ high
  max-first a b high low = omega (arith, le-max_left a b, low)

  max-second : (a b high : ℕ) → max a b ≤ high → b ≤ high
  max-second a b high low = omega (arith, le-max_right a b, low)

  put-first : (rules : Rules) (atom : Atom) (atoms : List Atom) (high : ℕ) (d : Derivation)
      → Proves rules problem.axioms [] (positive_of (under atom)) d → height d ≤ high → Proved rules atoms high
      → Proved rules (atom ∷ atoms) high
  put-first rules atom atoms high d proves low (es, each, most) = (also d es, (proves, each), max-le low most)

  -- the leaf of a fact
  pub leaf-of : (q : Atom) → Contains facts q → (leaf : Leaf) × (positive_of q ≡ positive_of leaf.atom) × (proofs_in here).IsFact leaf
  leaf-of q has = let at = Contains-place facts q has in (record { column = 0; index = at.0; atom = q }, refl, (refl, at.1))

  -- a fact or a gap closes an atom that operators add and no axiom concludes
  pub closed-by : (q : Atom) → IsGround q → IsOnlyAdded problem q
      → (d : Derivation) × Proves (gaps_in here) problem.axioms [] (positive_of q) d × (height d ≡ 1)
  closed-by q is_ground added = elim (among-or-not facts q) [
    | inl has ↦ let leaf = leaf-of q has in (fact leaf.0, (leaf.1, leaf.2), refl)
    | inr never ↦ (
      gap q,
      (
        refl,
        (
          (addable-alike problem facts q).0 added.0,
          λ proved. never (provable-fact here q added.1 is_ground proved),
        ),
      ),
      refl,
    )
  ]

  -- gap proofs of the rest make some of the whole
  abbrev AreMoreGaps : List Atom → List Atom → ℕ → Type 0
  AreMoreGaps formula rest high =
      (ds : Derivations) → ProvesAll (gaps_in here) rest ds → greatest_height ds ≤ high → Proved (gaps_in here) formula high

  gaps-kept : (x : Atom) (xs others : List Atom) (high : ℕ) → AreMoreGaps xs others high → (ds : Derivations)
      → ProvesAll (gaps_in here) (x ∷ others) ds → greatest_height ds ≤ high → Proved (gaps_in here) (x ∷ xs) high
  gaps-kept x xs others high more none proves low = absurd proves
  gaps-kept x xs others high more (also d ds) proves low =
      put-first (gaps_in here) x xs high d proves.0 (max-first (height d) (greatest_height ds) high low)
      (more ds proves.1 (max-second (height d) (greatest_height ds) high low))

  gaps-more : (formula rest : List Atom) → IsRest problem formula rest → AreGround formula → (high : ℕ) → 1 ≤ high
      → AreMoreGaps formula rest high
  gaps-more [] rest is closed high one ds proves low = (ds, subst (λ (l : List Atom). ProvesAll (gaps_in here) l ds) is proves, low)
  gaps-more (x ∷ xs) rest (inl (added, is)) closed high one ds proves low =
      let own = closed-by (under x) (All-head (λ (atom : Atom). IsGround (under atom)) x xs closed) added in
      put-first (gaps_in here) x xs high own.0 own.1 (subst (λ (n : ℕ). n ≤ high) (sym own.2) one)
      (gaps-more xs rest is (All-tail (λ (atom : Atom). IsGround (under atom)) x xs closed) high one ds proves low)
  gaps-more (x ∷ xs) rest (inr (other, (others, same, is))) closed high one ds proves low =
      gaps-kept x xs others high (gaps-more xs others is (All-tail (λ (atom : Atom). IsGround (under atom)) x xs closed) high one) ds
      (subst (λ (l : List Atom). ProvesAll (gaps_in here) l ds) same proves) low

  -- Without the other atoms' proofs those of the whole are proofs of the rest. What the dropped ones close by gaps has no variables, and
  -- no axiom concludes it.
  abbrev pub Dropped : Rules → List Atom → Derivations → Type 0
  Dropped rules rest es =
      (ds : Derivations) × ProvesAll rules rest ds × (greatest_height ds ≤ greatest_height es)
      × ((atom : Atom) → Contains (all_gaps_of es) atom → IsFreeGround problem atom ⊎ Contains (all_gaps_of ds) atom)

  drop-first : (rules : Rules) (x : Atom) (rest : List Atom) → IsOnlyAdded problem x → IsGround (under x)
      → (e : Derivation) (es : Derivations) → Proves rules problem.axioms [] (positive_of (under x)) e → Dropped rules rest es
      → Dropped rules rest (also e es)
  drop-first rules x rest added closed e es proves (ds, each, low, gaps) = (
    ds,
    each,
    omega (arith, low, le-max_right (height e) (greatest_height es)),
    λ atom has. elim (Contains-append_cases (gaps_of e) (all_gaps_of es) atom has) [
      | inl first ↦ inl (free-gap problem rules (under x) (added.1, closed) e proves atom first)
      | inr later ↦ gaps atom later
    ],
  )

  keep-first : (rules : Rules) (x : Atom) (others : List Atom) (e : Derivation) (es : Derivations)
      → Proves rules problem.axioms [] (positive_of (under x)) e → Dropped rules others es → Dropped rules (x ∷ others) (also e es)
  keep-first rules x others e es proves (ds, each, low, gaps) = (
    also e ds,
    (proves, each),
    max-le (le-max_left (height e) (greatest_height es)) (omega (arith, low, le-max_right (height e) (greatest_height es))),
    λ atom has. elim (Contains-append_cases (gaps_of e) (all_gaps_of es) atom has) [
      | inl first ↦ inr (Contains-append_left (gaps_of e) (all_gaps_of ds) atom first)
      | inr later ↦ elim (gaps atom later) [
        | inl free ↦ inl free
        | inr left ↦ inr
            (Contains-append_right (gaps_of e) (all_gaps_of ds) atom left)
      ]
    ],
  )

  dropped : (rules : Rules) (formula rest : List Atom) → IsRest problem formula rest → AreGround formula → (es : Derivations)
      → ProvesAll rules formula es → Dropped rules rest es
  dropped rules [] rest is closed none proves =
      (none, subst (λ (l : List Atom). ProvesAll rules l none) (sym is) tt, omega arith, λ atom has. inr has)
  dropped rules [] rest is closed (also e es) proves = absurd proves
  dropped rules (x ∷ xs) rest is closed none proves = absurd proves
  dropped rules (x ∷ xs) rest (inl (added, is)) closed (also e es) proves =
      drop-first rules x rest added (All-head (λ (atom : Atom). IsGround (under atom)) x xs closed) e es proves.0
      (dropped rules xs rest is (All-tail (λ (atom : Atom). IsGround (under atom)) x xs closed) es proves.1)
  dropped rules (x ∷ xs) rest (inr (other, (others, same, is))) closed (also e es) proves =
      subst (λ (l : List Atom). Dropped rules l (also e es)) (sym same)
      (keep-first rules x others e es proves.0 (dropped rules xs others is
      (All-tail (λ (atom : Atom). IsGround (under atom)) x xs closed) es proves.1))

  -- proofs of the rest make proofs of the whole, where the other atoms are facts; where one isn't, the whole has none
  abbrev pub AreMore : List Atom → List Atom → ℕ → Type 0
  AreMore formula rest high =
      (ds : Derivations) → ProvesAll (proofs_in here) rest ds → greatest_height ds ≤ high → Proved (proofs_in here) formula high

  abbrev pub HasNone : List Atom → Type 0
  HasNone formula = (es : Derivations) → ¬ ProvesAll (proofs_in here) formula es

  none-later : (x : Atom) (xs : List Atom) → HasNone xs → HasNone (x ∷ xs)
  none-later x xs never none proves = absurd proves
  none-later x xs never (also e es) proves = never es proves.1

  none-first : (x : Atom) (xs : List Atom) → IsOnlyAdded problem x → (¬ Contains facts (under x)) → HasNone (x ∷ xs)
  none-first x xs added never none proves = absurd proves
  none-first x xs added never (also e es) proves = never (proof-fact here (under x) added.1 (under x) refl e proves.0)

  more-kept : (x : Atom) (xs others : List Atom) (high : ℕ) → AreMore xs others high → (ds : Derivations)
      → ProvesAll (proofs_in here) (x ∷ others) ds → greatest_height ds ≤ high → Proved (proofs_in here) (x ∷ xs) high
  more-kept x xs others high more none proves low = absurd proves
  more-kept x xs others high more (also d ds) proves low =
      put-first (proofs_in here) x xs high d proves.0 (max-first (height d) (greatest_height ds) high low)
      (more ds proves.1 (max-second (height d) (greatest_height ds) high low))

  more-or-none : (formula rest : List Atom) → IsRest problem formula rest → (high : ℕ) → 1 ≤ high
      → AreMore formula rest high ⊎ HasNone formula
  more-or-none [] rest is high one = inl (λ ds proves low. (ds, subst (λ (l : List Atom). ProvesAll (proofs_in here) l ds) is proves, low))
  more-or-none (x ∷ xs) rest (inl (added, is)) high one = elim (among-or-not facts (under x)) [
    | inl has ↦
        let leaf = leaf-of (under x) has in
        elim (more-or-none xs rest is high one) [
          | inl more ↦ inl (λ ds proves low. put-first (proofs_in here) x xs high (fact leaf.0) (leaf.1, leaf.2) one (more ds proves low))
          | inr never ↦ inr (none-later x xs never)
        ]
    | inr never ↦ inr (none-first x xs added never)
  ]
  more-or-none (x ∷ xs) rest (inr (other, (others, same, is))) high one = elim (more-or-none xs others is high one) [
    | inl more ↦ inl (λ ds proves low. more-kept x xs others high more ds
        (subst (λ (l : List Atom). ProvesAll (proofs_in here) l ds) same proves) low)
    | inr never ↦ inr (none-later x xs never)
  ]

-- ---- the lists of a formula of the problem

module _ (problem : Problem) (valid : IsValid problem) (facts formula : List Atom) (variable_count : ℕ) (of : All (IsAtomOf problem variable_count) formula)
    (rest : List Atom) (is : IsRest problem formula rest) where
  abbrev s : Setting
  s = setting_of problem facts

  ground-under : (objects : List ℕ) → length objects ≡ variable_count → All (λ n. n < problem.objects) objects
      → AreGround problem facts objects formula
  ground-under objects count below = All-each (λ (atom : Atom). IsGround (substitute_atom (object_terms objects) atom)) formula (λ atom has.
      let own : IsAtomOf problem variable_count atom = All-at (IsAtomOf problem variable_count) formula atom of has in
      atom_of-is_ground problem (substitute_atom (object_terms objects) atom)
      (atom-is_of problem (object_terms objects) (object_terms-are problem objects below) atom
      (subst (λ (n : ℕ). IsAtomOf problem n atom) (sym (length-objects objects variable_count count)) own)))

  pub list-more : (objects : List ℕ) (ds : Derivations) → IsList (gaps_in s) s rest variable_count objects ds
      → (es : Derivations) × IsList (gaps_in s) s formula variable_count objects es
  list-more objects ds list =
      let made =
      gaps-more problem facts objects formula rest is
      (ground-under objects list.count list.below) problem.height valid.height.0 ds list.proved list.low in
      (made.0, record { count = list.count; below = list.below; proved = made.1; low = made.2 })

  pub list-less : (rules : Rules) (objects : List ℕ) (es : Derivations) → IsList rules s formula variable_count objects es
      → (ds : Derivations) × IsList rules s rest variable_count objects ds
      × ((atom : Atom) → Contains (all_gaps_of es) atom → IsFreeGround problem atom ⊎ Contains (all_gaps_of ds) atom)
  list-less rules objects es list =
      let less = dropped problem facts objects rules formula rest is (ground-under objects list.count list.below) es list.proved in
      (less.0, record { count = list.count; below = list.below; proved = less.1; low = omega (arith, less.2, list.low) }, less.3)

  -- proofs of the rest make proofs of the whole, or it has none under these objects
  pub list-or-none : (objects : List ℕ)
      → ((ds : Derivations) → IsList (proofs_in s) s rest variable_count objects ds
      → (es : Derivations) × IsList (proofs_in s) s formula variable_count objects es)
      ⊎ ((es : Derivations) → ¬ IsList (proofs_in s) s formula variable_count objects es)
  list-or-none objects = elim (more-or-none problem facts objects formula rest is problem.height valid.height.0) [
    | inl more ↦ inl (λ ds list. let made = more ds list.proved list.low in
        (made.0, record { count = list.count; below = list.below; proved = made.1; low = made.2 }))
    | inr never ↦ inr (λ es list. never es list.proved)
  ]
