-- Lists of proofs of atoms without variables are lists of one proof of each: these share nothing.
use Rattle.std.proofs.Common.{◌≡◌, ◌⊎◌, ◌+◌, ◌<◌, ◌≤◌, ℕ, Bool, true, false, List, [], ◌∷◌, length, not, take, get_or, refl, sym, subst, inl, inr, arith}
use Rattle.std.specs.Prelude.{◌↔◌, ◌==◌, ◌&&◌, All, Any, Contains, MatchBool}
use Rattle.std.proofs.Math.Nat.{max-le, le-max_left, le-max_right}
use Rattle.std.proofs.lemmas.List.{nil_from_length}
use Rattle.std.proofs.lemmas.List.Elements.{All-cons, All-head, All-nil, All-tail, Contains-append_cases, Contains-append_left, Contains-append_right}
use Rattle.px_base.proofs.Loops.{empty_test, filled_test}
use Rattle.px_base.specs.ListLaws.{All-at, All-each, Contains-cases, Contains-first, Contains-later, Contains-none}
use Rattle.px_proof.specs.declared.shape.Tick.{Tick}
use Rattle.px_proof.specs.Derivation.{Derivation, Derivations, none, also, height, greatest_height}
use Rattle.px_proof.specs.Literals.{positive_of}
use Rattle.px_proof.specs.Proves.{Proves, ProvesEach, Rules}
use Rattle.px_prover.specs.PatternLists.{lists_of}
use Rattle.px_prover.specs.declared.pattern.GapPattern.{GapPattern}
use Rattle.px_question.proofs.DeterminedLaws.{few_or_limited}
use Rattle.px_question.specs.Answers.{IsAnswer, IsList, literals_of}
use Rattle.px_question.specs.Gaps.{MeetsGapLimit, all_gaps_of, gaps_in, gaps_of}
use Rattle.px_question.specs.Limits.{AreFewGapShapes, IsLimited}
use Rattle.px_question.specs.Settings.{Setting, loose_gaps_in}
use Rattle.px_question.specs.declared.gap_list.GapList.{GapList}
use Rattle.px_terms.specs.Substitution.{substitute_atom}
use Rattle.px_terms.specs.declared.atom.Atom.{Atom}
use Rattle.px_gaps.specs.ByAtoms.{AreGapsOf, AreGapsTogether, HasGapProof, IsGapFor, IsUnlimitedFor}
use Rattle.px_gaps.specs.Closings.{IsChosenIn, IsMissingIn, OneOf}
use Rattle.px_gaps.specs.GapAnswers.{IsClosingAnswer}
use Rattle.px_gaps.proofs.ClosedLists.{AreClosedLists, closings-closed}
use Rattle.px_gaps.proofs.GapLemmas.{none-among}
use Rattle.px_gaps.proofs.GapLists.{closed_is, closed_listed, gaps_allowed, list_by}
use Rattle.px_gaps.proofs.Grows.{grown, members_next, one_next, some-item}

-- ---- lists of proofs without variables

module _ (s : Setting) where
  pub list-nil : (rules : Rules) (formula : List Atom) (objects : List ℕ) (ds : Derivations) → IsList rules s formula 0 objects ds
      → ProvesEach rules s.axioms [] (literals_of formula []) ds
  list-nil rules formula objects ds list =
      subst (λ (o : List ℕ). ProvesEach rules s.axioms [] (literals_of formula o) ds) (nil_from_length objects list.count) list.proved

  pub nil-list : (rules : Rules) (formula : List Atom) (ds : Derivations) → ProvesEach rules s.axioms [] (literals_of formula []) ds
      → greatest_height ds ≤ s.height → IsList rules s formula 0 [] ds
  nil-list rules formula ds proved low =
      record { count = refl; below = λ k d within. absurd (omega (arith, within)); proved = proved; low = low }

  -- a proof of one atom is a list
  pub one-list : (rules : Rules) (q : Atom) (d : Derivation) → Proves rules s.axioms [] (positive_of (substitute_atom [] q)) d
      → height d ≤ s.height → IsList rules s (q ∷ []) 0 [] (also d none)
  one-list rules q d proved low = nil-list rules (q ∷ []) (also d none) (proved, tt) (max-le low (omega arith))

  -- and a list is a proof of it
  one-proof : (rules : Rules) (q : Atom) (objects : List ℕ) (es : Derivations) → IsList rules s (q ∷ []) 0 objects es
      → (d : Derivation) × Proves rules s.axioms [] (positive_of (substitute_atom [] q)) d × (height d ≤ s.height)
      × ((gap : Atom) → Contains (all_gaps_of es) gap → Contains (gaps_of d) gap)
  one-proof rules q objects es list = go es (list-nil rules (q ∷ []) objects es list) list.low
    where
      go : (es : Derivations) → ProvesEach rules s.axioms [] (literals_of (q ∷ []) []) es → greatest_height es ≤ s.height
          → (d : Derivation) × Proves rules s.axioms [] (positive_of (substitute_atom [] q)) d × (height d ≤ s.height)
          × ((gap : Atom) → Contains (all_gaps_of es) gap → Contains (gaps_of d) gap)
      go none each low = absurd each
      go (also d none) each low = (
        d,
        each.0,
        omega (arith, low, le-max_left (height d) 0),
        λ gap has. elim (Contains-append_cases (gaps_of d) [] gap has) [ inl here ↦ here | inr later ↦ absurd (Contains-none gap later) ],
      )
      go (also d (also e es)) each low = absurd each.1

  -- a list has a first proof and others
  pub parted : (rules : Rules) (q : Atom) (qs : List Atom) (objects : List ℕ) (ds : Derivations) → IsList rules s (q ∷ qs) 0 objects ds
      → ((d : Derivation) × IsList rules s (q ∷ []) 0 [] (also d none)) × ((es : Derivations) × IsList rules s qs 0 [] es)
  parted rules q qs objects ds list = go ds (list-nil rules (q ∷ qs) objects ds list) list.low
    where
      go : (ds : Derivations) → ProvesEach rules s.axioms [] (literals_of (q ∷ qs) []) ds → greatest_height ds ≤ s.height
          → ((d : Derivation) × IsList rules s (q ∷ []) 0 [] (also d none)) × ((es : Derivations) × IsList rules s qs 0 [] es)
      go none each low = absurd each
      go (also d ds) each low = (
        (d, one-list rules q d each.0 (omega (arith, low, le-max_left (height d) (greatest_height ds)))),
        (ds, nil-list rules qs ds each.1 (omega (arith, low, le-max_right (height d) (greatest_height ds)))),
      )

  -- each atom has its proof
  each-has : (qs : List Atom) (ds : Derivations) → ProvesEach (gaps_in s) s.axioms [] (literals_of qs []) ds
      → greatest_height ds ≤ s.height → All (HasGapProof s) qs
  each-has [] ds each low = All-nil (HasGapProof s)
  each-has (q ∷ qs) none each low = absurd each
  each-has (q ∷ qs) (also d ds) each low =
      All-cons (HasGapProof s) q qs
      ([], also d none, one-list (gaps_in s) q d each.0 (omega (arith, low, le-max_left (height d) (greatest_height ds))))
      (each-has qs ds each.1 (omega (arith, low, le-max_right (height d) (greatest_height ds))))

  -- what a gap closes, it closes in the proof of one of them
  each-closes : (rules : Rules) (qs : List Atom) (ds : Derivations) (gap : Atom)
      → ProvesEach rules s.axioms [] (literals_of qs []) ds → greatest_height ds ≤ s.height → Contains (all_gaps_of ds) gap
      → OneOf qs (λ q. (objects : List ℕ) × (es : Derivations) × IsList rules s (q ∷ []) 0 objects es × Contains (all_gaps_of es) gap)
  each-closes rules [] none gap each low has = absurd (Contains-none gap has)
  each-closes rules [] (also d ds) gap each low has = absurd each
  each-closes rules (q ∷ qs) none gap each low has = absurd each
  each-closes rules (q ∷ qs) (also d ds) gap each low has = elim (Contains-append_cases (gaps_of d) (all_gaps_of ds) gap has) [
    | inl here ↦ (
      q,
      Contains-first q qs,
      (
        [],
        also d none,
        one-list rules q d each.0 (omega (arith, low, le-max_left (height d) (greatest_height ds))),
        Contains-append_left (gaps_of d) [] gap here,
      ),
    )
    | inr later ↦
        let rest = each-closes rules qs ds gap each.1 (omega (arith, low, le-max_right (height d) (greatest_height ds))) later in
        (rest.0, Contains-later q qs rest.0 rest.1, rest.2)
  ]

  -- proofs of each are a list
  joined : (qs : List Atom) → All (HasGapProof s) qs
      → (ds : Derivations) × ProvesEach (gaps_in s) s.axioms [] (literals_of qs []) ds × (greatest_height ds ≤ s.height)
  joined [] all = (none, tt, omega arith)
  joined (q ∷ qs) all =
      let head = All-head (HasGapProof s) q qs all in
      let (d, proved, low, same) = one-proof (gaps_in s) q head.0 head.1 head.2 in
      let (ds, each, lows) = joined qs (All-tail (HasGapProof s) q qs all) in
      (also d ds, (proved, each), max-le low lows)

  -- with what a gap closes in one of them
  joined-closing : (qs : List Atom) (gap : Atom) → All (HasGapProof s) qs → OneOf qs (λ q. IsGapFor s q gap)
      → (ds : Derivations) × ProvesEach (gaps_in s) s.axioms [] (literals_of qs []) ds × (greatest_height ds ≤ s.height)
      × Contains (all_gaps_of ds) gap
  joined-closing [] gap all one = absurd (Contains-none one.0 one.1)
  joined-closing (q ∷ qs) gap all one = elim (Contains-cases q qs one.0 one.1) [
    | inl here ↦
        let closing = subst (λ (a : Atom). IsGapFor s a gap) (sym here) one.2 in
        let (d, proved, low, same) = one-proof (gaps_in s) q closing.0 closing.1 closing.2 in
        let (ds, each, lows) = joined qs (All-tail (HasGapProof s) q qs all) in
        (also d ds, (proved, each), max-le low lows, Contains-append_left (gaps_of d) (all_gaps_of ds) gap (same gap closing.3))
    | inr later ↦
        let head = All-head (HasGapProof s) q qs all in
        let (d, proved, low, same) = one-proof (gaps_in s) q head.0 head.1 head.2 in
        let (ds, each, lows, there) = joined-closing qs gap (All-tail (HasGapProof s) q qs all) (one.0, later, one.2) in
        (also d ds, (proved, each), max-le low lows, Contains-append_right (gaps_of d) (all_gaps_of ds) gap there)
  ]

  -- ---- the gaps of a formula

  module _ (formula : List Atom) (few : AreFewGapShapes s formula 0) where
    pub together-are : (gaps : List Atom) → (¬ IsAnswer s formula 0) → AreGapsTogether s formula gaps → AreGapsOf s formula gaps
    together-are gaps no_answer are = record {
      exact = λ gap. (
        λ has.
            let both = (are.exact gap).0 has in
            let (ds, each, low, there) = joined-closing formula gap both.0 both.1 in
            (no_answer, ([], ds, nil-list (gaps_in s) formula ds each low, there)),
        λ is.
            let list = is.1.2 in
            let each = list-nil (gaps_in s) formula is.1.0 is.1.1 list in
            (are.exact gap).1 (each-has formula is.1.1 each list.low, each-closes (gaps_in s) formula is.1.1 gap each list.low is.1.3),
      );
      unlimited = met;
    }
      where
        met : (kept : List Atom) (shapes : List (List Tick)) → ¬ MeetsGapLimit s formula 0 kept shapes
        met kept shapes (inl whole) = few_or_limited.gap_proofs s formula 0 shapes few whole.1
        met kept shapes (inr (atom, alone, (objects, ds, list, has), limited)) =
            let one =
            each-closes (loose_gaps_in s) formula ds atom (list-nil (loose_gaps_in s) formula objects ds list) list.low has in
            All-at (IsUnlimitedFor s) formula one.0 are.unlimited one.1 atom shapes one.2
            (subst (λ (l : List Atom). IsLimited s l 0 shapes) alone limited)

    -- where there is no list of loose gap proofs, there is no gap
    pub none-are : ((objects : List ℕ) (ds : Derivations) → ¬ IsList (loose_gaps_in s) s formula 0 objects ds) → AreGapsOf s formula []
    none-are never = record {
      exact = λ gap. (
        λ has. absurd (Contains-none gap has),
        λ is. absurd (never is.1.0 is.1.1 (list_by s formula 0 is.1.0 is.1.1 (gaps_in s) (loose_gaps_in s)
            (record { choices = λ t h. h; facts = λ leaf h. h; opens = λ h. h }) (λ atom has h. h.0) is.1.2)),
      );
      unlimited = met;
    }
      where
        met : (kept : List Atom) (shapes : List (List Tick)) → ¬ MeetsGapLimit s formula 0 kept shapes
        met kept shapes (inl whole) = few_or_limited.gap_proofs s formula 0 shapes few whole.1
        met kept shapes (inr (atom, alone, (objects, ds, list, has), limited)) = never objects ds list

-- ---- what a question about one atom says

module _ (s : Setting) (q : Atom) (closings : List GapPattern) (provable : List Atom) (is : IsClosingAnswer s (q ∷ []) 0 closings provable)
  where
    lists_are : AreClosedLists s (q ∷ []) 0 (lists_of s.objects closings)
    lists_are = closings-closed s (q ∷ []) 0 closings is.all

    -- a list that closes nothing provable is one of gap proofs
    from-list : (list : GapList) → Contains (lists_of s.objects closings) list → (¬ Any (Contains provable) list.gaps)
        → (objects : List ℕ) × (ds : Derivations) × IsList (gaps_in s) s (q ∷ []) 0 objects ds
        × ((gap : Atom) → Contains list.gaps gap → Contains (all_gaps_of ds) gap)
    from-list list has avoids =
        let never = (none-among s (lists_of s.objects closings) provable is.provable_are list has).0 avoids in
        let known = lists_are.from list has in (
          known.0,
          known.1.0,
          list_by s (q ∷ []) 0 known.0 known.1.0 (loose_gaps_in s) (gaps_in s)
              (record { choices = λ t h. h; facts = λ leaf h. h; opens = λ h. h })
              (λ atom closed h. (h, never atom ((known.1.2 atom).1 closed))) known.1.1,
          λ gap. (known.1.2 gap).0,
        )

    -- and a list of gap proofs is such a list
    to-list : (objects : List ℕ) (ds : Derivations) → IsList (gaps_in s) s (q ∷ []) 0 objects ds
        → (list : GapList) × Contains (lists_of s.objects closings) list × (¬ Any (Contains provable) list.gaps)
        × ((gap : Atom) → Contains (all_gaps_of ds) gap → Contains list.gaps gap)
    to-list objects ds proofs =
        let found =
        closed_listed s (q ∷ []) 0 (lists_of s.objects closings) lists_are objects ds
        (list_by s (q ∷ []) 0 objects ds (gaps_in s) (loose_gaps_in s)
        (record { choices = λ t h. h; facts = λ leaf h. h; opens = λ h. h }) (λ atom has h. h.0) proofs) in (
          found.0,
          found.1,
          (none-among s (lists_of s.objects closings) provable is.provable_are found.0 found.1).1
              (λ other there. (gaps_allowed s (q ∷ []) 0 objects ds (gaps_in s) other proofs ((found.2 other).0 there)).1),
          λ gap. (found.2 gap).1,
        )

    pub asked-gap : (gap : Atom) → IsMissingIn (lists_of s.objects closings) provable gap ↔ IsGapFor s q gap
    asked-gap gap = (
      λ m. let made = from-list m.0 m.1 m.2.1 in (made.0, made.1, made.2, made.3 gap m.2.0),
      λ g. let list = to-list g.0 g.1 g.2 in (list.0, list.1, (list.3 gap g.3, list.2)),
    )

    pub asked-open : ((objects : List ℕ) × IsChosenIn (lists_of s.objects closings) provable objects) ↔ HasGapProof s q
    asked-open = (
      λ m. let made = from-list m.1.0 m.1.1 m.1.2.1 in (made.0, made.1, made.2),
      λ g. let list = to-list g.0 g.1 g.2 in (list.0.objects, (list.0, list.1, (refl, list.2))),
    )

    pub asked-unlimited : IsUnlimitedFor s q
    asked-unlimited gap shapes loose =
        is.unlimited gap shapes ((closed_is s (q ∷ []) 0 (lists_of s.objects closings) lists_are gap).0 loose)

-- ---- tests

pub match-same : {P Q : Type 0} (b : Bool) → P ↔ Q → MatchBool b P (¬ P) → MatchBool b Q (¬ Q)
match-same true same says = same.0 says
match-same false same says = λ other. says (same.1 other)

-- whether a list of all that there is has an item
pub some-told : {X : Type 0} (P : X → Type 0) (xs : List X) (b : Bool) → b ≡ (length xs == 0) → ((x : X) → Contains xs x ↔ P x)
    → MatchBool (not b) ((x : X) × P x) (¬ ((x : X) × P x))
some-told P xs true is all = λ h. Contains-none h.0 (subst (λ l. Contains l h.0) (empty_test xs true is refl) ((all h.0).1 h.1))
some-told P xs false is all = let item = some-item xs (filled_test xs false is refl) in (item.0, (all item.0).0 item.1)

-- ---- the loop

pub all-next : {X : Type 0} (P : X → Type 0) (xs : List X) (i : ℕ) (x : X) → i < length xs → x ≡ get_or xs i x
    → All P (take (i + 1) xs) ↔ (All P (take i xs) × P x)
all-next P xs i x below is = (
  λ all. (
    All-each P (take i xs) (λ q has. All-at P (take (i + 1) xs) q all ((members_next xs i x q below is).1 (inl has))),
    All-at P (take (i + 1) xs) x all ((members_next xs i x x below is).1 (inr refl)),
  ),
  λ both. All-each P (take (i + 1) xs) (λ q has. elim ((members_next xs i x q below is).0 has) [
    | inl before ↦ All-at P (take i xs) q both.0 before
    | inr same ↦ subst P same both.1
  ]),
)

-- what is known of some atoms: whether each has a gap proof, and what gaps close in them
pub record AreTogether (s : Setting) (atoms : List Atom) (each_has : Bool) (found : List Atom) : Type 0 where
  pub has : MatchBool each_has (All (HasGapProof s) atoms) (¬ All (HasGapProof s) atoms)
  pub exact : (gap : Atom) → Contains found gap ↔ OneOf atoms (λ atom. IsGapFor s atom gap)
  pub unlimited : All (IsUnlimitedFor s) atoms

pub together-begins : (s : Setting) → AreTogether s [] true []
together-begins s = record {
  has = All-nil (HasGapProof s);
  exact = λ gap. (λ has. absurd (Contains-none gap has), λ one. absurd (Contains-none one.0 one.1));
  unlimited = All-nil (IsUnlimitedFor s);
}

-- both of two tests
pub match-both : {P Q R : Type 0} (a b : Bool) → R ↔ (P × Q) → MatchBool a P (¬ P) → MatchBool b Q (¬ Q) → MatchBool (a && b) R (¬ R)
match-both true true is p q = is.1 (p, q)
match-both true false is p q = λ r. q (is.0 r).1
match-both false true is p q = λ r. p (is.0 r).0
match-both false false is p q = λ r. p (is.0 r).0

-- the second test counts where the first says so
pub and-then : (a b e : Bool) → a ≡ true → e ≡ b → (a && b) ≡ e
and-then true b e is same = sym same
and-then false b e is same = absurd (both is)
  where
    both : ¬ (false ≡ true)
    both h = cc

pub and-else : (a b e : Bool) → a ≡ false → e ≡ false → (a && b) ≡ e
and-else false b e is same = sym same
and-else true b e is same = absurd (both is)
  where
    both : ¬ (true ≡ false)
    both h = cc

pub together-next : (s : Setting) (atoms : List Atom) (i : ℕ) (atom : Atom) (before here : Bool) (old new : List Atom) → i < length atoms
    → atom ≡ get_or atoms i atom → AreTogether s (take i atoms) before old
    → MatchBool here (HasGapProof s atom) (¬ HasGapProof s atom)
    → ((gap : Atom) → Contains new gap ↔ (Contains old gap ⊎ IsGapFor s atom gap)) → IsUnlimitedFor s atom
    → AreTogether s (take (i + 1) atoms) (before && here) new
together-next s atoms i atom before here old new below is known has made unlimited = record {
  has = match-both before here (all-next (HasGapProof s) atoms i atom below is) known.has has;
  exact = λ gap. grown (known.exact gap) (made gap) (one_next (λ a. IsGapFor s a gap) atoms i atom below is);
  unlimited = (all-next (IsUnlimitedFor s) atoms i atom below is).1 (known.unlimited, unlimited);
}

-- where one has none, there are no gaps together
pub together-none : (s : Setting) (atoms found : List Atom) (each_has : Bool) → AreTogether s atoms each_has found → each_has ≡ false
    → AreGapsTogether s atoms []
together-none s atoms found true known is = absurd (both is)
  where
    both : ¬ (true ≡ false)
    both e = cc
together-none s atoms found false known is = record {
  exact = λ gap. (λ has. absurd (Contains-none gap has), λ h. absurd (known.has h.0));
  unlimited = known.unlimited;
}

pub together-some : (s : Setting) (atoms found : List Atom) (each_has : Bool) → AreTogether s atoms each_has found → each_has ≡ true
    → AreGapsTogether s atoms found
together-some s atoms found false known is = absurd (both is)
  where
    both : ¬ (false ≡ true)
    both e = cc
together-some s atoms found true known is = record {
  exact = λ gap. (λ has. (known.has, (known.exact gap).0 has), λ h. (known.exact gap).1 h.1);
  unlimited = known.unlimited;
}
