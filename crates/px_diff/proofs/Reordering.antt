-- A formula has the same gap lists where its atoms are asked in another order.
use Rattle.std.proofs.Common.{◌≡◌, ◌⊎◌, ℕ, ◌+◌, ◌<◌, ◌≤◌, take, get_or, length, List, [], ◌∷◌, ◌++◌, refl, ap, sym, subst, inl, inr, arith}
use Rattle.std.specs.Prelude.{◌↔◌, All, Contains}
use Rattle.std.proofs.Math.Nat.{max-le, le-max_left, le-max_right}
use Rattle.std.proofs.lemmas.List.Elements.{All-append, All-cons, All-head, All-nil, All-tail, Contains-append_cases, Contains-append_left, Contains-append_right}
use Rattle.px_base.proofs.Loops.{take_next}
use Rattle.px_proof.specs.Derivation.{Derivation, Derivations, none, also, greatest_height, height}
use Rattle.px_proof.specs.Proves.{ProvesEach, Rules}
use Rattle.px_question.specs.Answers.{literals_of}
use Rattle.px_question.specs.Gaps.{AreGapLists, IsGapList, all_gaps_of, gaps_of}
use Rattle.px_question.specs.Settings.{Setting, loose_gaps_in}
use Rattle.px_question.specs.declared.gap_list.GapList.{GapList}
use Rattle.px_terms.specs.declared.atom.Atom.{Atom}
use Rattle.px_terms.specs.declared.clause.Clause.{Clause}
use Rattle.px_diff.specs.Reordered.{AreParted, IsReordered}

-- ---- making the lists

pub parted-first : (atoms firsts seconds : List Atom) (atom : Atom) → AreParted atoms firsts seconds
    → AreParted (atoms ++ atom ∷ []) (firsts ++ atom ∷ []) seconds
parted-first [] firsts seconds atom (a, b) = inl ([], ap (λ (l : List Atom). l ++ atom ∷ []) a, (refl, b))
parted-first (x ∷ xs) firsts seconds atom (inl (others, same, parted)) =
    inl (others ++ atom ∷ [], ap (λ (l : List Atom). l ++ atom ∷ []) same, parted-first xs others seconds atom parted)
parted-first (x ∷ xs) firsts seconds atom (inr (others, same, parted)) =
    inr (others, same, parted-first xs firsts others atom parted)

pub parted-second : (atoms firsts seconds : List Atom) (atom : Atom) → AreParted atoms firsts seconds
    → AreParted (atoms ++ atom ∷ []) firsts (seconds ++ atom ∷ [])
parted-second [] firsts seconds atom (a, b) = inr ([], ap (λ (l : List Atom). l ++ atom ∷ []) b, (a, refl))
parted-second (x ∷ xs) firsts seconds atom (inl (others, same, parted)) =
    inl (others, same, parted-second xs others seconds atom parted)
parted-second (x ∷ xs) firsts seconds atom (inr (others, same, parted)) =
    inr (others ++ atom ∷ [], ap (λ (l : List Atom). l ++ atom ∷ []) same, parted-second xs firsts others atom parted)

-- one more atom of the formula
module _ (atoms : List Atom) (i : ℕ) (x : Atom) (narrow wide : List Atom) (below : i < length atoms) (at : x ≡ get_or atoms i x)
    (was : AreParted (take i atoms) narrow wide) where
  pub next-first : (firsts seconds : List Atom) → firsts ≡ narrow ++ x ∷ [] → seconds ≡ wide → AreParted (take (i + 1) atoms) firsts seconds
  next-first firsts seconds put same =
      subst (λ (l : List Atom). AreParted l firsts seconds) (sym (take_next atoms i x below at))
      (subst (λ (l : List Atom). AreParted (take i atoms ++ x ∷ []) l seconds) (sym put)
      (subst (λ (l : List Atom). AreParted (take i atoms ++ x ∷ []) (narrow ++ x ∷ []) l) (sym same)
      (parted-first (take i atoms) narrow wide x was)))

  pub next-second : (firsts seconds : List Atom) → firsts ≡ narrow → seconds ≡ wide ++ x ∷ [] → AreParted (take (i + 1) atoms) firsts
      seconds
  next-second firsts seconds same put =
      subst (λ (l : List Atom). AreParted l firsts seconds) (sym (take_next atoms i x below at))
      (subst (λ (l : List Atom). AreParted (take i atoms ++ x ∷ []) l seconds) (sym same)
      (subst (λ (l : List Atom). AreParted (take i atoms ++ x ∷ []) narrow l) (sym put)
      (parted-second (take i atoms) narrow wide x was)))

-- the two lists, one after the other, are parted into themselves
parted-seconds : (seconds : List Atom) → AreParted seconds [] seconds
parted-seconds [] = (refl, refl)
parted-seconds (x ∷ xs) = inr (xs, refl, parted-seconds xs)

parted-both : (firsts seconds : List Atom) → AreParted (firsts ++ seconds) firsts seconds
parted-both [] seconds = parted-seconds seconds
parted-both (x ∷ xs) seconds = inl (xs, refl, parted-both xs seconds)

-- what is so of each atom is so of each atom of the parts
parted-all : (P : Atom → Type 0) (atoms firsts seconds : List Atom) → AreParted atoms firsts seconds → All P atoms
    → All P firsts × All P seconds
parted-all P [] firsts seconds (a, b) all =
    (subst (All P) (sym a) (All-nil P), subst (All P) (sym b) (All-nil P))
parted-all P (x ∷ xs) firsts seconds (inl (others, same, parted)) all =
    let rest = parted-all P xs others seconds parted (All-tail P x xs all) in
    (subst (All P) (sym same) (All-cons P x others (All-head P x xs all) rest.0), rest.1)
parted-all P (x ∷ xs) firsts seconds (inr (others, same, parted)) all =
    let rest = parted-all P xs firsts others parted (All-tail P x xs all) in
    (rest.0, subst (All P) (sym same) (All-cons P x others (All-head P x xs all) rest.1))

pub reordered-all : (P : Atom → Type 0) (atoms ordered : List Atom) → IsReordered atoms ordered → All P atoms → All P ordered
reordered-all P atoms ordered is all =
    let both = parted-all P atoms is.firsts is.seconds is.parted all in
    subst (All P) (sym is.ordered_is) (All-append P is.firsts is.seconds both.0 both.1)

-- ---- gaps of two parts

-- the first list has the members of the two others
abbrev AreOfBoth : List Atom → List Atom → List Atom → Type 0
AreOfBoth all firsts seconds = (atom : Atom) → Contains all atom ↔ (Contains firsts atom ⊎ Contains seconds atom)

none-of_both : AreOfBoth [] [] []
none-of_both atom = (λ has. inl has, λ has. elim has [ inl a ↦ a | inr b ↦ b ])

first-of_both : (own all firsts seconds : List Atom) → AreOfBoth all firsts seconds → AreOfBoth (own ++ all) (own ++ firsts) seconds
first-of_both own all firsts seconds same atom = (
  λ has. elim (Contains-append_cases own all atom has) [
    | inl here ↦ inl (Contains-append_left own firsts atom here)
    | inr later ↦ elim ((same atom).0 later) [
      | inl one ↦ inl (Contains-append_right own firsts atom one)
      | inr other ↦ inr other
    ]
  ],
  λ has. elim has [
    | inl one ↦ elim (Contains-append_cases own firsts atom one) [
      | inl here ↦ Contains-append_left own all atom here
      | inr later ↦ Contains-append_right own all atom ((same atom).1 (inl later))
    ]
    | inr other ↦ Contains-append_right own all atom ((same atom).1 (inr other))
  ],
)

second-of_both : (own all firsts seconds : List Atom) → AreOfBoth all firsts seconds → AreOfBoth (own ++ all) firsts (own ++ seconds)
second-of_both own all firsts seconds same atom = (
  λ has. elim (Contains-append_cases own all atom has) [
    | inl here ↦ inr (Contains-append_left own seconds atom here)
    | inr later ↦ elim ((same atom).0 later) [
      | inl one ↦ inl one
      | inr other ↦ inr (Contains-append_right own seconds atom other)
    ]
  ],
  λ has. elim has [
    | inl one ↦ Contains-append_right own all atom ((same atom).1 (inl one))
    | inr other ↦ elim (Contains-append_cases own seconds atom other) [
      | inl here ↦ Contains-append_left own all atom here
      | inr later ↦ Contains-append_right own all atom ((same atom).1 (inr later))
    ]
  ],
)

-- ---- proofs of two parts

module _ (rules : Rules) (axioms : List Clause) (objects : List ℕ) (high : ℕ) where
  -- such proofs of the formula, within the height
  abbrev Proved : List Atom → Derivations → Type 0
  Proved formula ds = ProvesEach rules axioms [] (literals_of formula objects) ds × (greatest_height ds ≤ high)

  proved-later : (x : Atom) (xs : List Atom) (d : Derivation) (ds : Derivations) → Proved (x ∷ xs) (also d ds) → Proved xs ds
  proved-later x xs d ds (proves, low) = (proves.1, omega (arith, low, le-max_right (height d) (greatest_height ds)))

  proved-put : (x : Atom) (xs others : List Atom) (d : Derivation) (ds es : Derivations) → Proved (x ∷ xs) (also d ds) → Proved others es
      → Proved (x ∷ others) (also d es)
  proved-put x xs others d ds es (proves, low) (each, most) =
      ((proves.0, each), max-le (omega (arith, low, le-max_left (height d) (greatest_height ds))) most)

  proved-none : Proved [] none
  proved-none = (tt, omega arith)

  -- proofs of the whole make proofs of the parts
  abbrev Halves : List Atom → List Atom → Derivations → Type 0
  Halves firsts seconds es = (ds : Derivations) × (fs : Derivations) × Proved firsts ds × Proved seconds fs
      × AreOfBoth (all_gaps_of es) (all_gaps_of ds) (all_gaps_of fs)

  halves : (xs firsts seconds : List Atom) → AreParted xs firsts seconds → (es : Derivations) → Proved xs es → Halves firsts seconds es
  halves [] firsts seconds (a, b) none proved = (
    none,
    none,
    subst (λ (l : List Atom). Proved l none) (sym a) proved-none,
    subst (λ (l : List Atom). Proved l none) (sym b) proved-none,
    none-of_both,
  )
  halves [] firsts seconds parted (also e es) proved = absurd proved.0
  halves (x ∷ xs) firsts seconds parted none proved = absurd proved.0
  halves (x ∷ xs) firsts seconds (inl (others, same, parted)) (also e es) proved =
      let r = halves xs others seconds parted es (proved-later x xs e es proved) in (
        also e r.0,
        r.1,
        subst (λ (l : List Atom). Proved l (also e r.0)) (sym same) (proved-put x xs others e es r.0 proved r.2),
        r.3,
        first-of_both (gaps_of e) (all_gaps_of es) (all_gaps_of r.0) (all_gaps_of r.1) r.4,
      )
  halves (x ∷ xs) firsts seconds (inr (others, same, parted)) (also e es) proved =
      let r = halves xs firsts others parted es (proved-later x xs e es proved) in (
        r.0,
        also e r.1,
        r.2,
        subst (λ (l : List Atom). Proved l (also e r.1)) (sym same) (proved-put x xs others e es r.1 proved r.3),
        second-of_both (gaps_of e) (all_gaps_of es) (all_gaps_of r.0) (all_gaps_of r.1) r.4,
      )

  -- proofs of the parts make proofs of the whole
  abbrev Whole : List Atom → Derivations → Derivations → Type 0
  Whole xs ds fs = (es : Derivations) × Proved xs es × AreOfBoth (all_gaps_of es) (all_gaps_of ds) (all_gaps_of fs)

  abbrev AreMade : List Atom → List Atom → List Atom → Type 0
  AreMade xs firsts seconds = (ds fs : Derivations) → Proved firsts ds → Proved seconds fs → Whole xs ds fs

  made-none : AreMade [] [] []
  made-none none none p q = (none, proved-none, none-of_both)
  made-none none (also f fs) p q = absurd q.0
  made-none (also d ds) fs p q = absurd p.0

  made-first : (x : Atom) (xs others seconds : List Atom) → AreMade xs others seconds → AreMade (x ∷ xs) (x ∷ others) seconds
  made-first x xs others seconds made none fs p q = absurd p.0
  made-first x xs others seconds made (also d ds) fs p q =
      let r = made ds fs (proved-later x others d ds p) q in (
        also d r.0,
        proved-put x others xs d ds r.0 p r.1,
        first-of_both (gaps_of d) (all_gaps_of r.0) (all_gaps_of ds) (all_gaps_of fs) r.2,
      )

  made-second : (x : Atom) (xs firsts others : List Atom) → AreMade xs firsts others → AreMade (x ∷ xs) firsts (x ∷ others)
  made-second x xs firsts others made ds none p q = absurd q.0
  made-second x xs firsts others made ds (also f fs) p q =
      let r = made ds fs p (proved-later x others f fs q) in (
        also f r.0,
        proved-put x others xs f fs r.0 q r.1,
        second-of_both (gaps_of f) (all_gaps_of r.0) (all_gaps_of ds) (all_gaps_of fs) r.2,
      )

  made-all : (xs firsts seconds : List Atom) → AreParted xs firsts seconds → AreMade xs firsts seconds
  made-all [] firsts seconds (a, b) =
      subst (λ (l : List Atom). AreMade [] l seconds) (sym a) (subst (λ (l : List Atom). AreMade [] [] l) (sym b) made-none)
  made-all (x ∷ xs) firsts seconds (inl (others, same, parted)) =
      subst (λ (l : List Atom). AreMade (x ∷ xs) l seconds) (sym same) (made-first x xs others seconds (made-all xs others seconds parted))
  made-all (x ∷ xs) firsts seconds (inr (others, same, parted)) =
      subst (λ (l : List Atom). AreMade (x ∷ xs) firsts l) (sym same) (made-second x xs firsts others (made-all xs firsts others parted))

  -- so the proofs of a formula make proofs of one with the same parts, which close the same atoms by gaps
  moved : (xs ys firsts seconds : List Atom) → AreParted xs firsts seconds → AreParted ys firsts seconds → (es : Derivations)
      → Proved xs es
      → (os : Derivations) × Proved ys os × ((atom : Atom) → Contains (all_gaps_of es) atom ↔ Contains (all_gaps_of os) atom)
  moved xs ys firsts seconds one other es proved =
      let h = halves xs firsts seconds one es proved in
      let w = made-all ys firsts seconds other h.0 h.1 h.2 h.3 in (
        w.0,
        w.1,
        λ atom. (λ has. (w.2 atom).1 ((h.4 atom).0 has), λ has. (h.4 atom).1 ((w.2 atom).0 has)),
      )

-- ---- gap lists

module _ (s : Setting) (variable_count : ℕ) where
  gap_list-moved : (xs ys firsts seconds : List Atom) → AreParted xs firsts seconds → AreParted ys firsts seconds
      → (objects : List ℕ) (gaps : List Atom) → IsGapList s xs variable_count objects gaps → IsGapList s ys variable_count objects gaps
  gap_list-moved xs ys firsts seconds one other objects gaps (ds, list, same) =
      let m = moved (loose_gaps_in s) s.axioms objects s.height xs ys firsts seconds one other ds (list.proved, list.low) in (
        m.0,
        record { count = list.count; below = list.below; proved = m.1.0; low = m.1.1 },
        λ atom. (λ has. (m.2 atom).0 ((same atom).0 has), λ has. (same atom).1 ((m.2 atom).1 has)),
      )

  pub lists-reordered : (atoms ordered : List Atom) → IsReordered atoms ordered → (lists : List GapList)
      → AreGapLists s ordered variable_count lists → AreGapLists s atoms variable_count lists
  lists-reordered atoms ordered is lists listed =
      let other : AreParted ordered is.firsts is.seconds =
      subst (λ (l : List Atom). AreParted l is.firsts is.seconds) (sym is.ordered_is) (parted-both is.firsts is.seconds) in
      record {
        ascending = listed.ascending;
        members = λ list. (
          λ has. let known = (listed.members list).0 has in
              (gap_list-moved ordered atoms is.firsts is.seconds other is.parted list.objects list.gaps known.0, known.1),
          λ known. (listed.members list).1
              (gap_list-moved atoms ordered is.firsts is.seconds is.parted other list.objects list.gaps known.0, known.1),
        );
      }
