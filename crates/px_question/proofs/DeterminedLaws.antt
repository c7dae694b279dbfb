-- Limits and gap lists are determined, and a limit isn't met where there are few shapes.
use Rattle.std.proofs.Common.{◌≡◌, ◌∙◌, ℕ, suc, List, [], ◌∷◌, length, refl, sym, subst, arith, inl, inr}
use Rattle.std.proofs.lemmas.List.Elements.{All-from_recursion}
use Rattle.px_base.specs.ListLaws.{All-at, AllByRecursion-at, Contains-first, Contains-cases}
use Rattle.px_base.specs.SetLaws.{same_set}
use Rattle.px_terms.specs.declared.atom.Atom.{Atom}
use Rattle.px_proof.specs.declared.shape.Tick.{Tick}
use Rattle.px_proof.specs.Derivation.{Derivations}
use Rattle.px_proof.specs.Proves.{or_open}
use Rattle.px_proof.specs.ProvesLaws.{each_by}
use Rattle.px_proof.specs.Shapes.{ShapeBefore, ticks_of}
use Rattle.px_question.specs.Answers.{IsList, literals_of}
use Rattle.px_question.specs.Determined.{FewOrLimited, GapListsAreOne, LimitsAreOne}
use Rattle.px_question.specs.FewerShapes.{few_firsts, fewer-among, too_few}
use Rattle.px_question.proofs.GapOrderLaws.{gap_list_cmp-same, gap_list_cmp-total}
use Rattle.px_question.specs.Gaps.{MeetsGapLimit, StaysBelowGapLimit, gap_list_cmp}
use Rattle.px_question.specs.Limits.{AreFewBefore, AreFewGapShapes, AreFewShapes, AreFirstShapes, IsGapLimited, IsLimited, IsPartialShape, StaysBelowLimit}
use Rattle.px_question.specs.Settings.{Setting, loose_gaps_in, proofs_in}
use Rattle.px_question.specs.ShapeOrder.{ShapeBefore-irrefl, ShapeBefore-trans, shape_trichotomy}

-- ---- limits

-- a shape of the kind that stands before the first one isn't there
first_least : (P : List Tick → Type 0) (x y : List Tick) (ys : List (List Tick)) → P x → AreFirstShapes P (y ∷ ys) → ¬ ShapeBefore x y
first_least P x y ys holds are before = elim (are.first x holds) [
  | inl has ↦ elim (Contains-cases y ys x has) [
    | inl is ↦ ShapeBefore-irrefl x (subst (ShapeBefore x) is before)
    | inr later ↦ ShapeBefore-irrefl x (ShapeBefore-trans x y x before (AllByRecursion-at (ShapeBefore y) ys x are.ascending.0 later))
  ]
  | inr after ↦ ShapeBefore-irrefl x (ShapeBefore-trans x y x before
      (All-at (λ kept. ShapeBefore kept x) (y ∷ ys) y after (Contains-first y ys)))
]

-- without the first one, the others are the first ones after it
rest_first : (P : List Tick → Type 0) (x : List Tick) (xs : List (List Tick)) → AreFirstShapes P (x ∷ xs)
    → AreFirstShapes (λ shape. P shape × ShapeBefore x shape) xs
rest_first P x xs are = record {
  ascending = are.ascending.1;
  each = λ k d below. (are.each (suc k) d (omega (arith, below)), All-from_recursion (ShapeBefore x) xs are.ascending.0 k d below);
  first = λ shape holds. elim (are.first shape holds.0) [
    | inl has ↦ elim (Contains-cases x xs shape has) [
      | inl is ↦ absurd (ShapeBefore-irrefl x (subst (ShapeBefore x) (sym is) holds.1))
      | inr later ↦ inl later
    ]
    | inr after ↦ inr (λ k d below. after (suc k) d (omega (arith, below)))
  ];
}

same_firsts : (P : List Tick → Type 0) (xs ys : List (List Tick)) → length xs ≡ length ys → AreFirstShapes P xs → AreFirstShapes P ys
    → xs ≡ ys
same_firsts P [] [] long are also_are = refl
same_firsts P [] (y ∷ ys) long are also_are = absurd (omega (arith, long))
same_firsts P (x ∷ xs) [] long are also_are = absurd (omega (arith, long))
same_firsts P (x ∷ xs) (y ∷ ys) long are also_are =
    let here : x ≡ y = elim (shape_trichotomy x y) [
      | inl before ↦ absurd (first_least P x y ys (All-at P (x ∷ xs) x are.each (Contains-first x xs)) also_are before)
      | inr rest ↦ elim rest [
        | inl is ↦ is
        | inr after ↦ absurd
            (first_least P y x xs (All-at P (y ∷ ys) y also_are.each (Contains-first y ys)) are after)
      ]
    ] in
    let later = same_firsts (λ shape. P shape × ShapeBefore x shape) xs ys (omega (arith, long)) (rest_first P x xs are)
    (subst (λ (z : List Tick). AreFirstShapes (λ shape. P shape × ShapeBefore z shape) ys) (sym here) (rest_first P y ys also_are)) in
    λ i. here i ∷ later i

pub limits-are_one : LimitsAreOne
limits-are_one = record {
  proofs =
      λ s formula variable_count shapes others limited also_limited. same_firsts _ shapes others
      (limited.count ∙ sym also_limited.count) limited.kept also_limited.kept;
  gap_proofs =
      λ s formula variable_count shapes others limited also_limited. same_firsts _ shapes others
      (limited.count ∙ sym also_limited.count) limited.kept also_limited.kept;
}

-- ---- few shapes

-- an unfinished list of proofs is one of loose gap proofs
partial-loose : (s : Setting) (formula : List Atom) (variable_count : ℕ) (shape : List Tick) → IsPartialShape (proofs_in s) s formula variable_count shape
    → IsPartialShape (loose_gaps_in s) s formula variable_count shape
partial-loose s formula variable_count shape (unfinished, (objects, ds, is, same)) = (
  unfinished,
  (
    objects,
    ds,
    record {
      count = is.count;
      below = is.below;
      proved =
          each_by s.axioms (or_open (proofs_in s)) (or_open (loose_gaps_in s))
          (record { choices = λ t h. h; gaps = λ atom h. absurd h; opens = λ h. h }) [] (literals_of formula objects) ds
          (λ leaf has h. h) is.proved;
      low = is.low;
    },
    same,
  ),
)

few-proofs : (s : Setting) (formula : List Atom) (variable_count : ℕ) (shapes : List (List Tick)) → AreFewShapes s formula variable_count
    → ¬ IsLimited s formula variable_count shapes
few-proofs s formula variable_count shapes few limited =
    let P = IsPartialShape (proofs_in s) s formula variable_count in
    few_firsts P P s.limit shapes few (λ shape h. h) limited.count limited.kept

few-before : (s : Setting) (formula : List Atom) (variable_count : ℕ) (shapes : List (List Tick)) (objects : List ℕ) (ds : Derivations)
    → IsList (proofs_in s) s formula variable_count objects ds → AreFewBefore s formula variable_count ds → ¬ IsLimited s formula variable_count shapes
few-before s formula variable_count shapes objects ds is few limited =
    too_few (λ shape. IsPartialShape (proofs_in s) s formula variable_count shape × ShapeBefore shape (ticks_of ds)) s.limit shapes few limited.count
    limited.kept.ascending
    (λ shape has. (
      All-at (IsPartialShape (proofs_in s) s formula variable_count) shapes shape limited.kept.each has,
      All-at (λ kept. ShapeBefore kept (ticks_of ds)) shapes shape (limited.before objects ds is) has,
    ))

few-gap_proofs : (s : Setting) (formula : List Atom) (variable_count : ℕ) (shapes : List (List Tick)) → AreFewGapShapes s formula variable_count
    → ¬ IsGapLimited s formula variable_count shapes
few-gap_proofs s formula variable_count shapes few limited =
    let P = IsPartialShape (loose_gaps_in s) s formula variable_count in
    few_firsts P P s.limit shapes few (λ shape h. h) limited.count limited.kept

few-gap_shapes : (s : Setting) (formula : List Atom) (variable_count : ℕ) → AreFewGapShapes s formula variable_count → AreFewShapes s formula variable_count
few-gap_shapes s formula variable_count few =
    fewer-among (IsPartialShape (loose_gaps_in s) s formula variable_count) (IsPartialShape (proofs_in s) s formula variable_count) s.limit few
    (partial-loose s formula variable_count)

below-limit : (s : Setting) (formula : List Atom) (variable_count : ℕ) (shapes : List (List Tick)) → StaysBelowLimit s formula variable_count
    → ¬ IsLimited s formula variable_count shapes
below-limit s formula variable_count shapes (inl (objects, ds, first, few)) limited =
    few-before s formula variable_count shapes objects ds first.finished few limited
below-limit s formula variable_count shapes (inr few) limited = few-proofs s formula variable_count shapes few limited

below-gap_limit : (s : Setting) (formula : List Atom) (variable_count : ℕ) (kept : List Atom) (shapes : List (List Tick))
    → StaysBelowGapLimit s formula variable_count → ¬ MeetsGapLimit s formula variable_count kept shapes
below-gap_limit s formula variable_count kept shapes below (inl limited) = few-gap_proofs s formula variable_count shapes below.shapes limited.1
below-gap_limit s formula variable_count kept shapes below (inr (atom, alone, loose, limited)) =
    below-limit s (atom ∷ []) 0 shapes (below.atoms atom loose)
    (subst (λ (formula : List Atom). IsLimited s formula 0 shapes) alone limited)

pub few_or_limited : FewOrLimited
few_or_limited = record {
  proofs = few-proofs;
  before = few-before;
  gap_proofs = few-gap_proofs;
  gap_shapes = few-gap_shapes;
  proofs_with_gaps = λ s formula variable_count shapes few limited. few-proofs s formula variable_count shapes (few-gap_shapes s formula variable_count few) limited;
  below = below-limit;
  gaps_below = below-gap_limit;
}

-- ---- gap lists

pub gap_lists-are_one : GapListsAreOne
gap_lists-are_one s formula variable_count lists others are also_are =
    same_set gap_list_cmp gap_list_cmp-total gap_list_cmp-same lists others are.ascending also_are.ascending
    (λ list. (λ has. (also_are.members list).1 ((are.members list).0 has), λ has. (are.members list).1 ((also_are.members list).0 has)))
