-- All derivations of a literal by the rules within a height stand in a list.
use Rattle.std.proofs.Common.{◌≡◌, ◌⊎◌, ◌∙◌, ℕ, zero, suc, ◌<◌, ◌≤◌, Bool, true, false, Option, Some, List, [], ◌∷◌, length, refl, ap, sym, subst, arith, inl, inr}
use Rattle.std.specs.Prelude.{All, Contains, None, map, slice_get}
use Rattle.std.proofs.lemmas.List.{length-map}
use Rattle.std.proofs.lemmas.List.Elements.{All-head, All-map, All-tail}
use Rattle.px_base.specs.ListLaws.{Contains-cases, Contains-first, Contains-later, Contains-none}
use Rattle.px_terms.specs.Order.{atom_eq}
use Rattle.px_terms.specs.OrderLaws.{atom_eq-decides}
use Rattle.px_terms.specs.declared.atom.Atom.{Atom}
use Rattle.px_terms.specs.declared.clause.Clause.{Clause}
use Rattle.px_terms.specs.declared.clause.Lit.{Lit}
use Rattle.px_terms.specs.declared.term.Term.{Term}
use Rattle.px_terms.specs.declared.term.Term.TheVariants.{Obj, Var, Any}
use Rattle.px_proof.specs.declared.proof.Leaf.{Leaf}
use Rattle.px_proof.specs.Derivation.{Derivation, Derivations, fact, ancestor, step, gap, open_place, none, also, height, greatest_height}
use Rattle.px_proof.specs.Literals.{complement_of, positive_of}
use Rattle.px_base.specs.Answers.{some_same}
use Rattle.px_proof.specs.PlaceLaws.{slice_get-within}
use Rattle.px_proof.specs.Proves.{Proves, ProvesEach, Rules, instance_of, or_open, parts_of}
use Rattle.px_question.specs.Answers.{object_terms}
use Rattle.px_terms.specs.Language.{IsObjectBelow, object_of}
use Rattle.px_question.specs.Settings.{Setting, loose_gaps_in, proofs_in}
use Rattle.px_question.proofs.Listed.{AreBelow, Decided, Listed, listed-below, listed-by, listed-each, listed-if, listed-map, listed-none, listed-one, listed-or, listed-places, listed-tuples}

-- ---- what is decided

never : {G : Type 0} (b : Bool) → b ≡ false → b ≡ true → G
never b f t = cc

pub atom_decided : (a b : Atom) → Decided (a ≡ b)
atom_decided a b =
    elim (atom_eq a b) as (λ r. atom_eq a b ≡ r → Decided (a ≡ b)) [
      | true ↦ λ same. inl ((atom_eq-decides a b).0 same)
      | false ↦ λ differ. inr (λ is. never (atom_eq a b) differ ((atom_eq-decides a b).1 is))
    ] refl

false_true : {G : Type 0} → false ≡ true → G
false_true e = cc

sign_decided : (a b : Bool) → Decided (a ≡ b)
sign_decided true true = inl refl
sign_decided false false = inl refl
sign_decided true false = inr (λ e. false_true (sym e))
sign_decided false true = inr (λ e. false_true e)

both_decided : {A B : Type 0} → Decided A → Decided B → Decided (A × B)
both_decided (inl a) (inl b) = inl (a, b)
both_decided (inl a) (inr never_b) = inr (λ h. never_b h.1)
both_decided (inr never_a) b = inr (λ h. never_a h.0)

lit_decided : (a b : Lit) → Decided (a ≡ b)
lit_decided a b = elim (both_decided (sign_decided a.positive b.positive) (atom_decided a.atom b.atom)) [
  | inl is ↦ inl (λ i. record { positive = is.0 i; atom = is.1 i })
  | inr other ↦ inr (λ e. other (ap (λ (l : Lit). l.positive) e, ap (λ (l : Lit). l.atom) e))
]

number_decided : (m n : ℕ) → Decided (m ≡ n)
number_decided zero zero = inl refl
number_decided zero (suc n) = inr (λ e. omega (arith, e))
number_decided (suc m) zero = inr (λ e. omega (arith, e))
number_decided (suc m) (suc n) = elim (number_decided m n) [ inl is ↦ inl (ap suc is) | inr other ↦ inr (λ e. other (omega (arith, e))) ]

contains_decided : (ns : List ℕ) (n : ℕ) → Decided (Contains ns n)
contains_decided [] n = inr (Contains-none n)
contains_decided (m ∷ ns) n = elim (number_decided m n) [
  | inl is ↦ inl (subst (Contains (m ∷ ns)) is (Contains-first m ns))
  | inr other ↦ elim (contains_decided ns n) [
    | inl later ↦ inl (Contains-later m ns n later)
    | inr never_later ↦ inr (λ has. elim (Contains-cases m ns n has) [ inl is ↦ other is | inr later ↦ never_later later ])
  ]
]

-- ---- rules by which there are finitely many

-- they choose objects below the number, the leaves of each atom stand in a list, and which gaps and open places there are is decided
pub record IsFinite (rules : Rules) (objects : ℕ) : Type 0 where
  pub choices : (t : Term) → rules.IsChoice t → IsObjectBelow objects t
  pub chosen : (t : Term) → IsObjectBelow objects t → rules.IsChoice t
  pub facts : (atom : Atom) → Listed (λ leaf. (leaf.atom ≡ atom) × rules.IsFact leaf)
  pub gaps : (atom : Atom) → Decided (rules.IsGap atom)
  pub opens : Decided rules.IsOpen

abbrev IsPlacedIn : List Atom → Leaf → Type 0
IsPlacedIn atoms leaf = (leaf.column ≡ 0) × (slice_get atoms leaf.index ≡ Some leaf.atom)

listed-leaves : (atoms : List Atom) (atom : Atom) → Listed (λ leaf. (leaf.atom ≡ atom) × IsPlacedIn atoms leaf)
listed-leaves atoms atom =
    listed-by (λ leaf. (i : ℕ) × (slice_get atoms i ≡ Some atom) × (leaf_at i ≡ leaf)) (λ leaf. (leaf.atom ≡ atom) × IsPlacedIn atoms leaf)
    (λ leaf h. subst (λ (l : Leaf). (l.atom ≡ atom) × IsPlacedIn atoms l) h.2 (refl, (refl, h.1)))
    (λ leaf h. (leaf.index, h.1.1 ∙ ap (λ a. Some a) h.0, (λ i. record { column = sym h.1.0 i; index = leaf.index; atom = sym h.0 i })))
    (listed-map (λ i. slice_get atoms i ≡ Some atom) leaf_at (listed-places atom_decided atoms atom))
  where
    leaf_at : ℕ → Leaf
    leaf_at i = record { column = 0; index = i; atom = atom }

pub finite-proofs : (s : Setting) → IsFinite (proofs_in s) s.objects
finite-proofs s =
    record { choices = λ t h. h; chosen = λ t h. h; facts = listed-leaves s.facts; gaps = λ atom. inr (λ h. h); opens = inr (λ h. h) }

pub finite-gaps : (s : Setting) → IsFinite (loose_gaps_in s) s.objects
finite-gaps s =
    record {
      choices = λ t h. h;
      chosen = λ t h. h;
      facts = listed-leaves s.facts;
      gaps = λ atom. contains_decided s.added atom.pred;
      opens = inr (λ h. h);
    }

pub finite-open : (rules : Rules) (objects : ℕ) → IsFinite rules objects → IsFinite (or_open rules) objects
finite-open rules objects finite =
    record { choices = finite.choices; chosen = finite.chosen; facts = finite.facts; gaps = finite.gaps; opens = inl tt }

-- ---- terms of a step

abbrev AreChoices : ℕ → ℕ → List Term → Type 0
AreChoices objects n theta = (length theta ≡ n) × All (IsObjectBelow objects) theta

chosen-number : (objects : ℕ) (t : Term) → IsObjectBelow objects t → object_of t < objects
chosen-number objects (Obj n) h = h
chosen-number objects (Var v) h = absurd h
chosen-number objects Any h = absurd h

chosen-term : (objects : ℕ) (t : Term) → IsObjectBelow objects t → Obj (object_of t) ≡ t
chosen-term objects (Obj n) h = refl
chosen-term objects (Var v) h = absurd h
chosen-term objects Any h = absurd h

chosen-terms : (objects : ℕ) (theta : List Term) → All (IsObjectBelow objects) theta → object_terms (map object_of theta) ≡ theta
chosen-terms objects [] all = refl
chosen-terms objects (t ∷ theta) all =
    let here = chosen-term objects t (All-head (IsObjectBelow objects) t theta all) in
    let rest = chosen-terms objects theta (All-tail (IsObjectBelow objects) t theta all) in
    λ i. here i ∷ rest i

listed-terms : (objects n : ℕ) → Listed (AreChoices objects n)
listed-terms objects n =
    listed-by (λ theta. (ns : List ℕ) × AreBelow objects n ns × (object_terms ns ≡ theta)) (AreChoices objects n)
    (λ theta h. subst (AreChoices objects n) h.2 (
      length-map h.0 (λ k. Obj k)
          ∙ h.1.0,
      All-map (IsObjectBelow objects) (λ k. Obj k) h.0 h.1.1,
    ))
    (λ theta h. (
      map object_of theta,
      (length-map theta object_of ∙ h.0, All-map (λ k. k < objects) object_of theta (λ k d below. chosen-number objects _ (h.1 k d below))),
      chosen-terms objects theta h.1,
    ))
    (listed-map (AreBelow objects n) object_terms (listed-tuples objects n))

-- ---- derivations

no_height : (d : Derivation) → ¬ (height d ≤ 0)
no_height (fact leaf) low = omega (arith, low)
no_height (ancestor i) low = omega (arith, low)
no_height (step number theta place parts) low = omega (arith, low)
no_height (gap atom) low = omega (arith, low)
no_height open_place low = omega (arith, low)

module _ (rules : Rules) (axioms : List Clause) (objects : ℕ) (finite : IsFinite rules objects) where
  abbrev IsProof : ℕ → List Lit → Lit → Derivation → Type 0
  IsProof h path lit d = Proves rules axioms path lit d × (height d ≤ h)

  abbrev pub AreProofs : ℕ → List Lit → List Lit → Derivations → Type 0
  AreProofs h path lits ds = ProvesEach rules axioms path lits ds × (greatest_height ds ≤ h)

  listed-proofs_each : (h : ℕ) → ((path : List Lit) (lit : Lit) → Listed (IsProof h path lit)) → (path lits : List Lit)
      → Listed (AreProofs h path lits)
  listed-proofs_each h one path [] =
      listed-by (λ ds. none ≡ ds) (AreProofs h path []) (λ ds is. subst (AreProofs h path []) is (tt, omega arith)) only (listed-one none)
    where
      only : (ds : Derivations) → AreProofs h path [] ds → none ≡ ds
      only none are = refl
      only (also d ds) are = absurd are.0
  listed-proofs_each h one path (lit ∷ lits) =
      listed-by (λ ds. (d : Derivation) × IsProof h path lit d × ((rest : Derivations) × AreProofs h path lits rest × (also d rest ≡ ds)))
      (AreProofs h path (lit ∷ lits)) to from
      (listed-each (IsProof h path lit) (λ d ds. (rest : Derivations) × AreProofs h path lits rest × (also d rest ≡ ds)) (one path lit)
      (λ d. listed-map (AreProofs h path lits) (λ rest. also d rest) (listed-proofs_each h one path lits)))
    where
      to : (ds : Derivations) → (d : Derivation) × IsProof h path lit d
          × ((rest : Derivations) × AreProofs h path lits rest × (also d rest ≡ ds)) → AreProofs h path (lit ∷ lits) ds
      to ds (d, is, (rest, are, same)) = subst (AreProofs h path (lit ∷ lits)) same ((is.0, are.0), omega (arith, is.1, are.1))

      from : (ds : Derivations) → AreProofs h path (lit ∷ lits) ds
          → (d : Derivation) × IsProof h path lit d × ((rest : Derivations) × AreProofs h path lits rest × (also d rest ≡ ds))
      from none are = absurd are.0
      from (also d ds) are = (d, (are.0.0, omega (arith, are.1)), (ds, (are.0.1, omega (arith, are.1)), refl))

  module _ (h : ℕ) (path : List Lit) (lit : Lit) (each : (lits : List Lit) → Listed (AreProofs h (lit ∷ path) lits)) where
    abbrev ByFact : Derivation → Type 0
    ByFact d = (leaf : Leaf) × ((lit ≡ positive_of leaf.atom) × rules.IsFact leaf) × (fact leaf ≡ d)

    by_fact : Listed ByFact
    by_fact = listed-map (λ leaf. (lit ≡ positive_of leaf.atom) × rules.IsFact leaf) (λ leaf. fact leaf)
        (listed-by (λ leaf. (lit ≡ positive_of lit.atom) × ((leaf.atom ≡ lit.atom) × rules.IsFact leaf))
        (λ leaf. (lit ≡ positive_of leaf.atom) × rules.IsFact leaf)
        (λ leaf is. (is.0 ∙ ap positive_of (sym is.1.0), is.1.1))
        (λ leaf is. let same : lit.atom ≡ leaf.atom = ap (λ (l : Lit). l.atom) is.0 in (is.0 ∙ ap positive_of (sym same), (sym same, is.1)))
        (listed-if (lit ≡ positive_of lit.atom) (λ leaf. (leaf.atom ≡ lit.atom) × rules.IsFact leaf)
        (lit_decided lit (positive_of lit.atom)) (finite.facts lit.atom)))

    abbrev ByAncestor : Derivation → Type 0
    ByAncestor d = (i : ℕ) × (slice_get path i ≡ Some (complement_of lit)) × (ancestor i ≡ d)

    by_ancestor : Listed ByAncestor
    by_ancestor =
        listed-map (λ i. slice_get path i ≡ Some (complement_of lit)) (λ i. ancestor i) (listed-places lit_decided path (complement_of lit))

    abbrev ByPlace : ℕ → Clause → List Term → ℕ → Derivation → Type 0
    ByPlace number clause theta place d =
        (parts : Derivations) × AreProofs h (lit ∷ path) (parts_of clause.lits theta place) parts × (step number theta place parts ≡ d)

    abbrev ByTerms : ℕ → Clause → List Term → Derivation → Type 0
    ByTerms number clause theta d =
        (place : ℕ) × (slice_get (instance_of clause.lits theta) place ≡ Some lit) × ByPlace number clause theta place d

    abbrev ByClause : ℕ → Clause → Derivation → Type 0
    ByClause number clause d = (theta : List Term) × AreChoices objects clause.variable_count theta × ByTerms number clause theta d

    by_clause : (number : ℕ) (clause : Clause) → Listed (ByClause number clause)
    by_clause number clause =
        listed-each (AreChoices objects clause.variable_count) (ByTerms number clause) (listed-terms objects clause.variable_count) (λ theta.
        listed-each (λ place. slice_get (instance_of clause.lits theta) place ≡ Some lit) (ByPlace number clause theta)
        (listed-places lit_decided (instance_of clause.lits theta) lit) (λ place.
        listed-map (AreProofs h (lit ∷ path) (parts_of clause.lits theta place)) (λ parts. step number theta place parts)
        (each (parts_of clause.lits theta place))))

    abbrev ByAxiom : ℕ → Option Clause → Derivation → Type 0
    ByAxiom number o d = (clause : Clause) × (o ≡ Some clause) × ByClause number clause d

    no_clause : {G : Type 0} (clause : Clause) → ◌≡◌ {A = Option Clause} None (Some clause) → G
    no_clause clause e = cc

    by_axiom : (number : ℕ) (o : Option Clause) → Listed (ByAxiom number o)
    by_axiom number None = listed-none (ByAxiom number None) (λ d by. no_clause by.0 by.1)
    by_axiom number (Some clause) =
        listed-by (ByClause number clause) (ByAxiom number (Some clause)) (λ d by. (clause, refl, by))
        (λ d by. subst (λ (c : Clause). ByClause number c d) (sym (some_same by.1)) by.2) (by_clause number clause)

    abbrev ByStep : Derivation → Type 0
    ByStep d = (number : ℕ) × (number < length axioms) × ByAxiom number (slice_get axioms number) d

    by_step : Listed ByStep
    by_step =
        listed-each (λ number. number < length axioms) (λ number. ByAxiom number (slice_get axioms number)) (listed-below (length axioms))
        (λ number. by_axiom number (slice_get axioms number))

    abbrev ByGap : Derivation → Type 0
    ByGap d = ((lit ≡ positive_of lit.atom) × rules.IsGap lit.atom) × (gap lit.atom ≡ d)

    by_gap : Listed ByGap
    by_gap =
        listed-if ((lit ≡ positive_of lit.atom) × rules.IsGap lit.atom) (λ d. gap lit.atom ≡ d)
        (both_decided (lit_decided lit (positive_of lit.atom)) (finite.gaps lit.atom)) (listed-one (gap lit.atom))

    abbrev ByNothing : Derivation → Type 0
    ByNothing d = rules.IsOpen × (open_place ≡ d)

    by_nothing : Listed ByNothing
    by_nothing = listed-if rules.IsOpen (λ d. open_place ≡ d) finite.opens (listed-one open_place)

    abbrev ByAny : Derivation → Type 0
    ByAny d = ByFact d ⊎ (ByAncestor d ⊎ (ByStep d ⊎ (ByGap d ⊎ ByNothing d)))

    made : (d : Derivation) → ByAny d → IsProof (suc h) path lit d
    made d (inl (leaf, is, same)) = subst (IsProof (suc h) path lit) same (is, omega arith)
    made d (inr (inl (i, at, same))) = subst (IsProof (suc h) path lit) same (at, omega arith)
    made d (inr (inr (inl (number, below, (clause, there, (theta, are, (place, at, (parts, proofs, same)))))))) =
        subst (IsProof (suc h) path lit) same (
          (
            clause,
            record { axiom_at = there; terms = are.0; choices = λ k e within. finite.chosen _ (are.1 k e within); literal_at = at },
            proofs.0,
          ),
          omega (arith, proofs.1),
        )
    made d (inr (inr (inr (inl (is, same))))) = subst (IsProof (suc h) path lit) same (is, omega arith)
    made d (inr (inr (inr (inr (opens, same))))) = subst (IsProof (suc h) path lit) same (opens, omega arith)

    parted : (d : Derivation) → IsProof (suc h) path lit d → ByAny d
    parted (fact leaf) is = inl (leaf, is.0, refl)
    parted (ancestor i) is = inr (inl (i, is.0, refl))
    parted (step number theta place parts) is =
        let uses = is.0.1 in
        inr (inr (inl (
          number,
          slice_get-within axioms number is.0.0 uses.axiom_at,
          (
            is.0.0,
            uses.axiom_at,
            (
              theta,
              (uses.terms, λ k e within. finite.choices _ (uses.choices k e within)),
              (place, uses.literal_at, (parts, (is.0.2, omega (arith, is.1)), refl)),
            ),
          ),
        )))
    parted (gap atom) is =
        let same : lit.atom ≡ atom = ap (λ (l : Lit). l.atom) is.0.0 in
        inr (inr (inr (inl ((is.0.0 ∙ ap positive_of (sym same), subst rules.IsGap (sym same) is.0.1), ap (λ a. gap a) same))))
    parted open_place is = inr (inr (inr (inr (is.0, refl))))

    by_any : Listed (IsProof (suc h) path lit)
    by_any =
        listed-by ByAny (IsProof (suc h) path lit) made parted
        (listed-or ByFact (λ d. ByAncestor d ⊎ (ByStep d ⊎ (ByGap d ⊎ ByNothing d))) by_fact
        (listed-or ByAncestor (λ d. ByStep d ⊎ (ByGap d ⊎ ByNothing d)) by_ancestor
        (listed-or ByStep (λ d. ByGap d ⊎ ByNothing d) by_step (listed-or ByGap ByNothing by_gap by_nothing))))

  listed-proof : (h : ℕ) (path : List Lit) (lit : Lit) → Listed (IsProof h path lit)
  listed-proof zero path lit = listed-none (IsProof 0 path lit) (λ d is. no_height d is.1)
  listed-proof (suc h) path lit = by_any h path lit (listed-proofs_each h (listed-proof h) (lit ∷ path))

  pub listed-proofs : (h : ℕ) (path lits : List Lit) → Listed (AreProofs h path lits)
  listed-proofs h = listed-proofs_each h (listed-proof h)
