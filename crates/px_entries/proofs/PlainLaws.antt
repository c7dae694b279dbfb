-- What is known of a formula without variables, atom by atom, where no axiom mentions a predicate that some operator adds. Then a gap
-- proof of an atom that no operator adds has no gap, and one of an atom that operators add is a fact or a gap.
use Rattle.std.proofs.Common.{◌≡◌, ◌∙◌, ◌⊎◌, ℕ, ◌≤◌, Bool, true, false, List, [], ◌∷◌, get_or, refl, ap, sym, subst, inl, inr, arith}
use Rattle.std.specs.Prelude.{◌↔◌, All, Any, Contains, IfSome, MatchBool, Option, Some}
use Rattle.std.proofs.Math.Nat.{max-le, le-max_left, le-max_right}
use Rattle.std.proofs.lemmas.List.Elements.{All-cons, All-head, All-nil, All-tail, Contains-append_cases, Contains-append_left, Contains-append_right}
use Rattle.px_base.specs.ListLaws.{Contains-cases, Contains-first, Contains-later, Contains-none, Contains-one}
use Rattle.px_terms.specs.AtomSets.{IsAtomSet}
use Rattle.px_terms.specs.Instances.{IsGround}
use Rattle.px_terms.specs.Operators.{IsAddable}
use Rattle.px_terms.specs.Substitution.{substitute_atom}
use Rattle.px_terms.specs.Validity.{IsAtomOf, IsValid}
use Rattle.px_terms.specs.ValidityLaws.{atom_of-is_ground}
use Rattle.px_terms.specs.declared.atom.Atom.{Atom}
use Rattle.px_terms.specs.declared.clause.Lit.{Lit}
use Rattle.px_terms.specs.declared.problem.Problem.{Problem}
use Rattle.px_terms.specs.declared.problem.Schema.{Schema}
use Rattle.px_proof.specs.Derivation.{Derivation, Derivations, fact, ancestor, step, gap, open_place, none, also, greatest_height, height}
use Rattle.px_proof.specs.Literals.{positive_of}
use Rattle.px_proof.specs.Proves.{Proves, ProvesEach, Rules, parts_of}
use Rattle.px_question.specs.Answers.{IsList, literals_of}
use Rattle.px_question.specs.Gaps.{all_gaps_of, gaps_in, gaps_of}
use Rattle.px_question.specs.Settings.{Setting, proofs_in, setting_of}
use Rattle.px_question.proofs.ListedProofs.{finite-gaps}
use Rattle.px_gaps.specs.Concluding.{IsConcluded}
use Rattle.px_entries.specs.Deciding.{IsMentioned}
use Rattle.px_gaps.specs.Needs.{HasAnswer, HasGap}
use Rattle.px_gaps.specs.Known.{AreAllBelow, IsKnownOf}
use Rattle.px_entries.specs.Plain.{AxiomsMentionAddable, IsAbsent, IsSettled}
use Rattle.px_gaps.specs.Questions.{AreUnlimited}
use Rattle.px_gaps.specs.declared.question.Obligation.{Obligation}
use Rattle.px_gaps.specs.declared.question.Question.TheVariants.{FindingGaps, Proving}
use Rattle.px_gaps.specs.declared.known.Known.TheVariants.{Applicable, Open, Closed}
use Rattle.px_gaps.proofs.AddableLaws.{addable-alike}
use Rattle.px_gaps.proofs.Below.{unlimited-below}
use Rattle.px_entries.proofs.DecidingLaws.{concluded-mentioned, parts-mentioned, step-mentioned}
use Rattle.px_gaps.proofs.FactLemmas.{fact-provable, ground-same, proof-fact, provable-fact}
use Rattle.px_gaps.proofs.Singles.{any_one}
use Rattle.px_gaps.proofs.GapLists.{list_by}
use Rattle.px_gaps.proofs.KnownSteps.{known-open}
use Rattle.px_entries.proofs.RestLaws.{among-or-not, leaf-of}
use Rattle.px_entries.proofs.OpenNeeds.{open-gaps}
use Rattle.std.proofs.lemmas.List.{nil_from_length}
use Rattle.px_gaps.proofs.Grows.{some-item}

-- a test decides the same fact said in other words
pub match-as : {P Q : Type 0} (b : Bool) → P ↔ Q → MatchBool b P (¬ P) → MatchBool b Q (¬ Q)
match-as true is h = is.0 h
match-as false is h = λ q. h (is.1 q)

pub some-yes : {P : Type 0} (found : Option Bool) (b : Bool) → found ≡ Some b → b ≡ true → IfSome found (λ (x : Bool). MatchBool x P (¬ P))
    → P
some-yes {P} found b is said h =
    subst (λ (x : Bool). MatchBool x P (¬ P)) said (subst (λ (f : Option Bool). IfSome f (λ (x : Bool). MatchBool x P (¬ P))) is h)

pub some-no : {P : Type 0} (found : Option Bool) (b : Bool) → found ≡ Some b → b ≡ false → IfSome found (λ (x : Bool). MatchBool x P (¬ P))
    → ¬ P
some-no {P} found b is said h =
    subst (λ (x : Bool). MatchBool x P (¬ P)) said (subst (λ (f : Option Bool). IfSome f (λ (x : Bool). MatchBool x P (¬ P))) is h)

module _ (problem : Problem) (facts : List Atom) (apart : ¬ AxiomsMentionAddable problem) where
  abbrev s : Setting
  s = setting_of problem facts

  -- ---- atoms that no operator adds

  abbrev IsFixed : Lit → Type 0
  IsFixed lit = ¬ IsAddable problem lit.atom

  pub mentioned-fixed : (lit : Lit) → IsMentioned problem.axioms lit.atom.pred → IsFixed lit
  mentioned-fixed lit (number, clause, within, at, (place, other, inside, there, same)) addable =
      apart (
        number,
        clause,
        within,
        at,
        (
          place,
          other,
          inside,
          there,
          subst (λ (pred : ℕ). Any (λ (schema : Schema). Any (λ (added : Atom). added.pred ≡ pred) schema.add) problem.schemas)
              (sym same) addable,
        ),
      )

  -- an operator adds it or none does
  addable-or : (q : Atom) → IsAddable problem q ⊎ (¬ IsAddable problem q)
  addable-or q = elim ((finite-gaps s).gaps q) [
    | inl addable ↦ inl ((addable-alike problem facts q).1 addable)
    | inr never ↦ inr (λ addable. never ((addable-alike problem facts q).0 addable))
  ]

  free-of : (q : Atom) → IsAddable problem q → ¬ IsConcluded problem.axioms q.pred
  free-of q addable concluded = mentioned-fixed (positive_of q) (concluded-mentioned problem.axioms q.pred concluded) addable

  -- their gap proofs have no gap
  mutual
    no-gap : (path : List Lit) (lit : Lit) (d : Derivation) → IsFixed lit → Proves (gaps_in s) problem.axioms path lit d → (atom : Atom)
        → ¬ Contains (gaps_of d) atom
    no-gap path lit (fact leaf) fixed proved atom has = Contains-none atom has
    no-gap path lit (ancestor i) fixed proved atom has = Contains-none atom has
    no-gap path lit (step number theta place parts) fixed proved atom has =
        let mentioned = parts-mentioned problem.axioms (gaps_in s).IsChoice lit number theta place proved.0 proved.1 in
        no-gaps (lit ∷ path) (parts_of proved.0.lits theta place) parts
        (λ k d below. mentioned-fixed (get_or (parts_of proved.0.lits theta place) k d) (mentioned k d below)) proved.2 atom has
    no-gap path lit (gap closed) fixed proved atom has =
        fixed (subst (λ (l : Lit). IsAddable problem l.atom) (sym proved.0) ((addable-alike problem facts closed).1 proved.1.0))
    no-gap path lit open_place fixed proved atom has = Contains-none atom has

    no-gaps : (path lits : List Lit) (ds : Derivations) → All IsFixed lits → ProvesEach (gaps_in s) problem.axioms path lits ds
        → (atom : Atom) → ¬ Contains (all_gaps_of ds) atom
    no-gaps path [] none fixed each atom has = Contains-none atom has
    no-gaps path (lit ∷ lits) (also d ds) fixed each atom has = elim (Contains-append_cases (gaps_of d) (all_gaps_of ds) atom has) [
      | inl first ↦ no-gap path lit d (All-head IsFixed lit lits fixed) each.0 atom first
      | inr later ↦ no-gaps path lits ds (All-tail IsFixed lit lits fixed) each.1 atom later
    ]
    no-gaps path [] (also d ds) fixed each atom has = absurd each
    no-gaps path (lit ∷ lits) none fixed each atom has = absurd each

  -- a list that closes nothing is one of proofs
  as-proofs : (formula : List Atom) (objects : List ℕ) (ds : Derivations) → IsList (gaps_in s) s formula 0 objects ds
      → ((atom : Atom) → ¬ Contains (all_gaps_of ds) atom) → IsList (proofs_in s) s formula 0 objects ds
  as-proofs formula objects ds list never =
      list_by s formula 0 objects ds (gaps_in s) (proofs_in s) (record { choices = λ t h. h; facts = λ leaf h. h; opens = λ h. h })
      (λ atom has h. never atom has) list

  as-gaps : (formula : List Atom) (objects : List ℕ) (ds : Derivations) → IsList (proofs_in s) s formula 0 objects ds
      → IsList (gaps_in s) s formula 0 objects ds
  as-gaps formula objects ds list =
      list_by s formula 0 objects ds (proofs_in s) (gaps_in s) (record { choices = λ t h. h; facts = λ leaf h. h; opens = λ h. h })
      (λ atom has h. absurd h) list

  list-nil : (rules : Rules) (formula : List Atom) (objects : List ℕ) (ds : Derivations) → IsList rules s formula 0 objects ds
      → ProvesEach rules problem.axioms [] (literals_of formula []) ds
  list-nil rules formula objects ds list =
      subst (λ (o : List ℕ). ProvesEach rules problem.axioms [] (literals_of formula o) ds) (nil_from_length objects list.count) list.proved

  nil-list : (rules : Rules) (formula : List Atom) (ds : Derivations) → ProvesEach rules problem.axioms [] (literals_of formula []) ds
      → greatest_height ds ≤ problem.height → IsList rules s formula 0 [] ds
  nil-list rules formula ds proved low =
      record { count = refl; below = λ k d within. absurd (omega (arith, within)); proved = proved; low = low }

  abbrev own : Atom → Lit
  own q = positive_of (substitute_atom [] q)

  own-is : (q : Atom) → IsGround q → own q ≡ positive_of q
  own-is q closed = ap positive_of (ground-same [] q closed)

  -- ---- what a gap proof of an atom shows

  settled-by : (q : Atom) → IsGround q → (d : Derivation) → Proves (gaps_in s) problem.axioms [] (own q) d → height d ≤ problem.height
      → IsSettled problem facts q
  settled-by q closed d proved low fixed =
      let list = nil-list (gaps_in s) (q ∷ []) (also d none) (proved, tt) (max-le low (omega arith)) in (
        [],
        also d none,
        as-proofs (q ∷ []) [] (also d none) list (λ atom has. elim (Contains-append_cases (gaps_of d) [] atom has) [
          | inl first ↦ no-gap [] (own q) d (subst IsFixed (sym (own-is q closed)) fixed) proved atom first
          | inr later ↦ Contains-none atom later
        ]),
      )

  module _ (high : 1 ≤ problem.height) where
    absent-by : (q : Atom) → IsGround q → (d : Derivation) → Proves (gaps_in s) problem.axioms [] (positive_of q) d → (atom : Atom)
        → Contains (gaps_of d) atom → (q ≡ atom) × IsAbsent problem facts atom
    absent-by q closed (fact leaf) proved atom has = absurd (Contains-none atom has)
    absent-by q closed (ancestor i) proved atom has = absurd (Contains-none atom has)
    absent-by q closed (step number theta place parts) proved atom has =
        absurd (no-gap [] (positive_of q) (step number theta place parts)
        (mentioned-fixed (positive_of q) (step-mentioned problem.axioms (gaps_in s).IsChoice
        (positive_of q) number theta place proved.0 proved.1)) proved atom has)
    absent-by q closed (gap other) proved atom has =
        let same : q ≡ atom = ap (λ (l : Lit). l.atom) proved.0 ∙ Contains-one other atom has in (
          same,
          subst (IsAbsent problem facts) (Contains-one other atom has) (
            (addable-alike problem facts other).1 proved.1.0,
            λ there. proved.1.1 (fact-provable s other high (subst IsGround (ap (λ (l : Lit). l.atom) proved.0) closed) there),
          ),
        )
    absent-by q closed open_place proved atom has = absurd (Contains-none atom has)

    -- and what a list of them shows
    all-settled : (formula : List Atom) → All IsGround formula → (ds : Derivations)
        → ProvesEach (gaps_in s) problem.axioms [] (literals_of formula []) ds → greatest_height ds ≤ problem.height
        → All (IsSettled problem facts) formula
    all-settled [] closed ds each low = All-nil (IsSettled problem facts)
    all-settled (q ∷ qs) closed none each low = absurd each
    all-settled (q ∷ qs) closed (also d ds) each low =
        All-cons (IsSettled problem facts) q qs
        (settled-by q (All-head IsGround q qs closed) d each.0 (omega (arith, low, le-max_left (height d) (greatest_height ds))))
        (all-settled qs (All-tail IsGround q qs closed) ds each.1 (omega (arith, low, le-max_right (height d) (greatest_height ds))))

    all-absent : (formula : List Atom) → All IsGround formula → (ds : Derivations)
        → ProvesEach (gaps_in s) problem.axioms [] (literals_of formula []) ds → (atom : Atom) → Contains (all_gaps_of ds) atom
        → Contains formula atom × IsAbsent problem facts atom
    all-absent [] closed none each atom has = absurd (Contains-none atom has)
    all-absent [] closed (also d ds) each atom has = absurd each
    all-absent (q ∷ qs) closed none each atom has = absurd each
    all-absent (q ∷ qs) closed (also d ds) each atom has = elim (Contains-append_cases (gaps_of d) (all_gaps_of ds) atom has) [
      | inl first ↦
          let is =
          absent-by q (All-head IsGround q qs closed) d
          (subst (λ (l : Lit). Proves (gaps_in s) problem.axioms [] l d) (own-is q (All-head IsGround q qs closed)) each.0) atom first
          in
          (subst (Contains (q ∷ qs)) is.0 (Contains-first q qs), is.1)
      | inr later ↦ let is = all-absent qs (All-tail IsGround q qs closed) ds each.1 atom later in (Contains-later q qs atom is.0, is.1)
    ]

    -- ---- making gap proofs

    abbrev Made : Atom → Type 0
    Made q =
        (d : Derivation) × Proves (gaps_in s) problem.axioms [] (own q) d × (height d ≤ problem.height)
        × (IsAbsent problem facts q → Contains (gaps_of d) q)

    made-added : (q : Atom) → IsGround q → IsAddable problem q → Made q
    made-added q closed addable = elim (among-or-not facts q) [
      | inl has ↦ let leaf =
          leaf-of problem facts [] q has in (fact leaf.0, (own-is q closed ∙ leaf.1, leaf.2), high, λ absent. absurd (absent.1 has))
      | inr never ↦ (
        gap q,
        (
          own-is q closed,
          ((addable-alike problem facts q).0 addable, λ proved. never (provable-fact s q (free-of q addable) closed proved)),
        ),
        high,
        λ absent. Contains-first q [],
      )
    ]

    made-proved : (q : Atom) → (¬ IsAddable problem q) → (ds : Derivations)
        → ProvesEach (gaps_in s) problem.axioms [] (literals_of (q ∷ []) []) ds → greatest_height ds ≤ problem.height → Made q
    made-proved q fixed none each low = absurd each
    made-proved q fixed (also d none) each low =
        (d, each.0, omega (arith, low, le-max_left (height d) 0), λ absent. absurd (fixed absent.0))
    made-proved q fixed (also d (also e es)) each low = absurd each.1

    made : (q : Atom) → IsGround q → IsSettled problem facts q → Made q
    made q closed settled = elim (addable-or q) [
      | inl addable ↦ made-added q closed addable
      | inr fixed ↦
          let answer = settled fixed in
          let list = as-gaps (q ∷ []) answer.0 answer.1 answer.2 in
          made-proved q fixed answer.1 (list-nil (gaps_in s) (q ∷ []) answer.0 answer.1 list) list.low
    ]

    abbrev AllMade : List Atom → Type 0
    AllMade formula =
        (ds : Derivations) × ProvesEach (gaps_in s) problem.axioms [] (literals_of formula []) ds × (greatest_height ds ≤ problem.height)
        × ((atom : Atom) → Contains formula atom → IsAbsent problem facts atom → Contains (all_gaps_of ds) atom)

    put-made : (q : Atom) (qs : List Atom) → Made q → AllMade qs → AllMade (q ∷ qs)
    put-made q qs (d, proved, low, gaps) (ds, each, lows, all) = (
      also d ds,
      (proved, each),
      max-le low lows,
      λ atom has absent. elim (Contains-cases q qs atom has) [
        | inl here ↦ Contains-append_left (gaps_of d) (all_gaps_of ds) atom
            (subst (Contains (gaps_of d)) here (gaps (subst (IsAbsent problem facts) (sym here) absent)))
        | inr later ↦ Contains-append_right (gaps_of d) (all_gaps_of ds) atom (all atom later absent)
      ],
    )

    pub all-made : (formula : List Atom) → All IsGround formula → All (IsSettled problem facts) formula → AllMade formula
    all-made [] closed settled = (none, tt, omega arith, λ atom has absent. has)
    all-made (q ∷ qs) closed settled =
        put-made q qs (made q (All-head IsGround q qs closed) (All-head (IsSettled problem facts) q qs settled))
        (all-made qs (All-tail IsGround q qs closed) (All-tail (IsSettled problem facts) q qs settled))

    -- where one of its atoms is absent, a formula has no proofs
    absent-none : (formula : List Atom) → All IsGround formula → (ds : Derivations)
        → ProvesEach (proofs_in s) problem.axioms [] (literals_of formula []) ds → (atom : Atom) → Contains formula atom
        → ¬ IsAbsent problem facts atom
    absent-none [] closed ds each atom has absent = Contains-none atom has
    absent-none (q ∷ qs) closed none each atom has absent = absurd each
    absent-none (q ∷ qs) closed (also d ds) each atom has absent = elim (Contains-cases q qs atom has) [
      | inl here ↦
          let gone = subst (IsAbsent problem facts) (sym here) absent in
          gone.1 (proof-fact s q (free-of q gone.0) q refl d
          (subst (λ (l : Lit). Proves (proofs_in s) problem.axioms [] l d) (own-is q (All-head IsGround q qs closed)) each.0))
      | inr later ↦ absent-none qs (All-tail IsGround q qs closed) ds each.1 atom later absent
    ]

-- ---- what is known

module _ (problem : Problem) (valid : IsValid problem) (facts formula : List Atom) (of : All (IsAtomOf problem 0) formula)
    (apart : ¬ AxiomsMentionAddable problem) where
  abbrev needed : Obligation
  needed = record { formula = formula; variable_count = 0; facts = facts }

  abbrev here : Setting
  here = setting_of problem facts

  abbrev IsOpenOne : Obligation → Type 0
  IsOpenOne other = HasAnswer problem other ⊎ ((gap : Atom) × HasGap problem other gap)

  pub all-ground : All IsGround formula
  all-ground k d below = atom_of-is_ground problem _ (of k d below)

  module _ (unlimited : AreUnlimited problem (needed ∷ [])) where
    all-below : AreAllBelow problem (needed ∷ [])
    all-below = record { unlimited = unlimited; below = unlimited-below problem (needed ∷ []) unlimited }

    -- one of its atoms isn't settled
    pub plain-closed : (¬ All (IsSettled problem facts) formula) → IsKnownOf problem (needed ∷ []) Closed
    plain-closed never = (
      λ all.
          let list = open-gaps problem needed (All-head IsOpenOne needed [] all) in
          never (all-settled problem facts apart valid.height.0 formula all-ground list.1
          (list-nil problem facts apart (gaps_in here) formula list.0 list.1 list.2) list.2.low),
      all-below,
    )

    module _ (settled : All (IsSettled problem facts) formula) (absent : List Atom)
        (are : (atom : Atom) → Contains absent atom ↔ (Contains formula atom × IsAbsent problem facts atom)) where
      -- none of its atoms is absent
      pub plain-applicable : absent ≡ [] → IsKnownOf problem (needed ∷ []) Applicable
      plain-applicable empty =
          let all = all-made problem facts apart valid.height.0 formula all-ground settled in
          let list = nil-list problem facts apart (gaps_in here) formula all.0 all.1 all.2 in (
            All-cons (HasAnswer problem) needed [] (
              [],
              all.0,
              as-proofs problem facts apart formula [] all.0 list (λ atom has.
                  Contains-none atom (subst (λ (l : List Atom). Contains l atom) empty
                  ((are atom).1 (all-absent problem facts apart valid.height.0 formula all-ground all.0 all.1 atom has)))),
            ) (All-nil (HasAnswer problem)),
            all-below,
          )

      no-answer : (atom : Atom) → Contains absent atom → ¬ HasAnswer problem needed
      no-answer atom has answer =
          let is = (are atom).0 has in
          absent-none problem facts apart valid.height.0 formula all-ground answer.1
          (list-nil problem facts apart (proofs_in here) formula answer.0 answer.1 answer.2) atom is.0 is.1

      some-gap : (atom : Atom) → HasGap problem needed atom → Contains absent atom
      some-gap atom is =
          (are atom).1 (all-absent problem facts apart valid.height.0 formula all-ground is.1.1
          (list-nil problem facts apart (gaps_in here) formula is.1.0 is.1.1 is.1.2) atom is.1.3)

      gap-some : (atom : Atom) → Contains absent atom → HasGap problem needed atom
      gap-some atom has =
          let all = all-made problem facts apart valid.height.0 formula all-ground settled in
          let is = (are atom).0 has in
          (no-answer atom has, ([], all.0, nil-list problem facts apart (gaps_in here) formula all.0 all.1 all.2, all.3 atom is.0 is.1))

      -- some are
      pub plain-open : (¬ (absent ≡ [])) → IsAtomSet absent → IsKnownOf problem (needed ∷ []) (Open absent)
      plain-open some' order =
          let first = some-item absent some' in
          let never = no-answer first.0 first.1 in
          let asks =
          any_one (λ (other : Obligation). (FindingGaps needed ≡ Proving other)
          ⊎ ((¬ HasAnswer problem other) × (FindingGaps needed ≡ FindingGaps other))) needed (inr (never, refl)) in
          known-open problem needed never absent (λ atom. (gap-some atom, some-gap atom))
          (λ kept shapes met. unlimited (FindingGaps needed) kept shapes asks met)
          (all-below.below (FindingGaps needed) asks) some' order
