-- Each question has one of its outcomes: the lists of proofs and the shapes are finite, so the first ones can be found.
use Rattle.std.proofs.Common.{◌≡◌, ◌⊎◌, ◌∙◌, ℕ, zero, suc, ◌<◌, List, [], ◌∷◌, ◌++◌, length, refl, ap, sym, subst, arith, inl, inr}
use Rattle.std.specs.Prelude.{Contains}
use Rattle.px_base.specs.ListLaws.{Contains-cases, Contains-first, Contains-later, Contains-none, Contains-one}
use Rattle.px_terms.specs.declared.atom.Atom.{Atom}
use Rattle.px_proof.specs.declared.shape.Tick.{Tick}
use Rattle.px_proof.specs.declared.shape.Tick.TheVariants.{Fact, Anc, Step, Gap, Open}
use Rattle.px_proof.specs.Derivation.{Derivations}
use Rattle.px_proof.specs.Proves.{Rules, or_open}
use Rattle.px_proof.specs.Shapes.{IsUnfinished, OnlyOpen, ShapeBefore, ticks_of}
use Rattle.px_question.specs.Answers.{AtMost, IsAnswer, IsFirst, IsList, all_choices_of, literals_of}
use Rattle.px_question.specs.Decided.{QuestionsAreDecided}
use Rattle.px_question.specs.Gaps.{MeetsGapLimit, StaysBelowGapLimit}
use Rattle.px_question.specs.Limits.{AreFewBefore, AreFewGapShapes, AreFewShapes, AreFirstShapes, IsGapLimited, IsLimited, IsPartialShape, StaysBelowLimit}
use Rattle.px_question.specs.Settings.{Setting, loose_gaps_in, proofs_in}
use Rattle.px_question.specs.ShapeOrder.{ShapeBefore-irrefl, ShapeBefore-trans, shape_trichotomy}
use Rattle.px_question.proofs.FirstShapes.{few_or_firsts}
use Rattle.px_question.proofs.Listed.{AreBelow, Decided, Listed, listed-by, listed-each, listed-map, listed-tuples, listed-where}
use Rattle.px_question.proofs.ListedProofs.{AreProofs, IsFinite, finite-gaps, finite-open, finite-proofs, listed-proofs}

-- ---- lists of proofs, and shapes

record Candidate : Type 0 where
  objects : List ℕ
  proofs : Derivations

abbrev IsOne : Rules → Setting → List Atom → ℕ → Candidate → Type 0
IsOne rules s formula variable_count c = IsList rules s formula variable_count c.objects c.proofs

only_open-decided : (shape : List Tick) → Decided (OnlyOpen shape)
only_open-decided [] = inl tt
only_open-decided (Open ∷ shape) = only_open-decided shape
only_open-decided (Fact i ∷ shape) = inr (λ h. h)
only_open-decided (Anc i ∷ shape) = inr (λ h. h)
only_open-decided (Step number place ∷ shape) = inr (λ h. h)
only_open-decided (Gap ∷ shape) = inr (λ h. h)

unfinished-decided : (shape : List Tick) → Decided (IsUnfinished shape)
unfinished-decided [] = inr (λ h. h)
unfinished-decided (Open ∷ shape) = only_open-decided shape
unfinished-decided (Fact i ∷ shape) = unfinished-decided shape
unfinished-decided (Anc i ∷ shape) = unfinished-decided shape
unfinished-decided (Step number place ∷ shape) = unfinished-decided shape
unfinished-decided (Gap ∷ shape) = unfinished-decided shape

before-decided : (a b : List Tick) → Decided (ShapeBefore a b)
before-decided a b = elim (shape_trichotomy a b) [
  | inl before ↦ inl before
  | inr others ↦ elim others [
    | inl same ↦ inr (λ before. ShapeBefore-irrefl b (subst (λ (z : List Tick). ShapeBefore z b) same before))
    | inr after ↦ inr (λ before. ShapeBefore-irrefl a (ShapeBefore-trans a b a before after))
  ]
]

module _ (rules : Rules) (s : Setting) (formula : List Atom) (variable_count : ℕ) (finite : IsFinite rules s.objects) where
  abbrev AreTheProofs : List ℕ → Derivations → Type 0
  AreTheProofs objects ds = AreProofs rules s.axioms s.objects finite s.height [] (literals_of formula objects) ds

  abbrev Under : List ℕ → Candidate → Type 0
  Under objects c = (ds : Derivations) × AreTheProofs objects ds × (record { objects = objects; proofs = ds } ≡ c)

  listed-lists : Listed (IsOne rules s formula variable_count)
  listed-lists =
      listed-by (λ c. (objects : List ℕ) × AreBelow s.objects variable_count objects × Under objects c) (IsOne rules s formula variable_count)
      (λ c h. subst (IsOne rules s formula variable_count) h.2.2 (record { count = h.1.0; below = h.1.1; proved = h.2.1.0; low = h.2.1.1 }))
      (λ c is. (c.objects, (is.count, is.below), (c.proofs, (is.proved, is.low), refl)))
      (listed-each (AreBelow s.objects variable_count) Under (listed-tuples s.objects variable_count)
      (λ objects. listed-map (AreTheProofs objects) (λ ds. record { objects = objects; proofs = ds })
      (listed-proofs rules s.axioms s.objects finite s.height [] (literals_of formula objects))))

module _ (rules : Rules) (s : Setting) (formula : List Atom) (variable_count : ℕ) (finite : IsFinite rules s.objects) where
  abbrev HasShape : List Tick → Type 0
  HasShape shape = (c : Candidate) × IsOne (or_open rules) s formula variable_count c × (ticks_of c.proofs ≡ shape)

  listed-shapes : Listed (IsPartialShape rules s formula variable_count)
  listed-shapes =
      listed-by (λ shape. HasShape shape × IsUnfinished shape) (IsPartialShape rules s formula variable_count)
      (λ shape h. (h.1, (h.0.0.objects, h.0.0.proofs, h.0.1, h.0.2)))
      (λ shape is. ((record { objects = is.1.0; proofs = is.1.1 }, is.1.2, is.1.3), is.0))
      (listed-where HasShape IsUnfinished
      (listed-map (IsOne (or_open rules) s formula variable_count) (λ c. ticks_of c.proofs)
      (listed-lists (or_open rules) s formula variable_count (finite-open rules s.objects finite)))
      unfinished-decided)

-- ---- the first answer

at_most-itself : (ms : List ℕ) → AtMost ms ms
at_most-itself [] = tt
at_most-itself (m ∷ ms) = inr (refl, at_most-itself ms)

at_most-trans : (ls ms ns : List ℕ) → AtMost ls ms → AtMost ms ns → AtMost ls ns
at_most-trans [] ms ns h k = tt
at_most-trans (l ∷ ls) [] ns h k = absurd h
at_most-trans (l ∷ ls) (m ∷ ms) [] h k = absurd k
at_most-trans (l ∷ ls) (m ∷ ms) (n ∷ ns) (inl h) (inl k) = inl (omega (arith, h, k))
at_most-trans (l ∷ ls) (m ∷ ms) (n ∷ ns) (inl h) (inr k) = inl (omega (arith, h, k.0))
at_most-trans (l ∷ ls) (m ∷ ms) (n ∷ ns) (inr h) (inl k) = inl (omega (arith, h.0, k))
at_most-trans (l ∷ ls) (m ∷ ms) (n ∷ ns) (inr h) (inr k) = inr (h.0 ∙ k.0, at_most-trans ls ms ns h.1 k.1)

compared : (m n : ℕ) → (m < n) ⊎ ((m ≡ n) ⊎ (n < m))
compared zero zero = inr (inl refl)
compared zero (suc n) = inl (omega arith)
compared (suc m) zero = inr (inr (omega arith))
compared (suc m) (suc n) = elim (compared m n) [
  | inl less ↦ inl (omega (arith, less))
  | inr rest ↦ elim rest [ inl same ↦ inr (inl (ap suc same)) | inr more ↦ inr (inr (omega (arith, more))) ]
]

at_most-either : (ms ns : List ℕ) → AtMost ms ns ⊎ AtMost ns ms
at_most-either [] ns = inl tt
at_most-either (m ∷ ms) [] = inr tt
at_most-either (m ∷ ms) (n ∷ ns) = elim (compared m n) [
  | inl less ↦ inl (inl less)
  | inr rest ↦ elim rest [
    | inl same ↦ elim (at_most-either ms ns) [ inl h ↦ inl (inr (same, h)) | inr h ↦ inr (inr (sym same, h)) ]
    | inr more ↦ inr (inl more)
  ]
]

abbrev numbers_of : Candidate → List ℕ
numbers_of c = c.objects ++ all_choices_of c.proofs

-- no later than the other, by shapes and then by objects
abbrev NoLater : Candidate → Candidate → Type 0
NoLater c e =
    ShapeBefore (ticks_of c.proofs) (ticks_of e.proofs) ⊎ ((ticks_of c.proofs ≡ ticks_of e.proofs) × AtMost (numbers_of c) (numbers_of e))

no_later-itself : (c : Candidate) → NoLater c c
no_later-itself c = inr (refl, at_most-itself (numbers_of c))

no_later-trans : (b c e : Candidate) → NoLater b c → NoLater c e → NoLater b e
no_later-trans b c e (inl h) (inl k) = inl (ShapeBefore-trans (ticks_of b.proofs) (ticks_of c.proofs) (ticks_of e.proofs) h k)
no_later-trans b c e (inl h) (inr k) = inl (subst (ShapeBefore (ticks_of b.proofs)) k.0 h)
no_later-trans b c e (inr h) (inl k) = inl (subst (λ (z : List Tick). ShapeBefore z (ticks_of e.proofs)) (sym h.0) k)
no_later-trans b c e (inr h) (inr k) = inr (h.0 ∙ k.0, at_most-trans (numbers_of b) (numbers_of c) (numbers_of e) h.1 k.1)

no_later-either : (c e : Candidate) → NoLater c e ⊎ NoLater e c
no_later-either c e = elim (shape_trichotomy (ticks_of c.proofs) (ticks_of e.proofs)) [
  | inl before ↦ inl (inl before)
  | inr rest ↦ elim rest [
    | inl same ↦ elim (at_most-either (numbers_of c) (numbers_of e)) [ inl h ↦ inl (inr (same, h)) | inr h ↦ inr (inr (sym same, h)) ]
    | inr after ↦ inr (inl after)
  ]
]

-- one of the list is no later than all of it
abbrev Earliest : List Candidate → Type 0
Earliest cs = (c : Candidate) × Contains cs c × ((e : Candidate) → Contains cs e → NoLater c e)

earliest : (c : Candidate) (cs : List Candidate) → Earliest (c ∷ cs)
earliest c [] = (c, Contains-first c [], λ e has. subst (NoLater c) (Contains-one c e has) (no_later-itself c))
earliest c (d ∷ cs) =
    let rest = earliest d cs in
    elim (no_later-either c rest.0) [
      | inl prefix ↦ (
        c,
        Contains-first c (d ∷ cs),
        λ e has. elim (Contains-cases c (d ∷ cs) e has) [
          | inl is ↦ subst (NoLater c) is (no_later-itself c)
          | inr later ↦ no_later-trans c rest.0 e prefix (rest.2 e later)
        ],
      )
      | inr back ↦ (
        rest.0,
        Contains-later c (d ∷ cs) rest.0 rest.1,
        λ e has. elim (Contains-cases c (d ∷ cs) e has) [
          | inl is ↦ subst (NoLater rest.0) is back
          | inr later ↦ rest.2 e later
        ],
      )
    ]

abbrev HasFirst : Setting → List Atom → ℕ → Type 0
HasFirst s formula variable_count = (objects : List ℕ) × (ds : Derivations) × IsFirst s formula variable_count objects ds

-- a formula has a first answer or none
first_or_none : (s : Setting) (formula : List Atom) (variable_count : ℕ) → HasFirst s formula variable_count ⊎ (¬ IsAnswer s formula variable_count)
first_or_none s formula variable_count = go (listed-lists (proofs_in s) s formula variable_count (finite-proofs s))
  where
    go : Listed (IsOne (proofs_in s) s formula variable_count) → HasFirst s formula variable_count ⊎ (¬ IsAnswer s formula variable_count)
    go listed = elim listed.items as (λ cs. cs ≡ listed.items → HasFirst s formula variable_count ⊎ (¬ IsAnswer s formula variable_count)) [
      | [] ↦ λ are. inr (λ answer. let c : Candidate = record { objects = answer.0; proofs = answer.1 } in
          Contains-none c (subst (λ (cs : List Candidate). Contains cs c) (sym are) (listed.all c answer.2)))
      | c ∷ cs ↦ λ are.
          let least = earliest c cs in
          inl (
            least.0.objects,
            least.0.proofs,
            record {
              finished = listed.each least.0 (subst (λ (es : List Candidate). Contains es least.0) are least.1);
              least =
                  λ others es is. let e : Candidate =
                  record { objects = others; proofs = es } in
                  least.2 e (subst (λ (those : List Candidate). Contains those e) (sym are) (listed.all e is));
            },
          )
    ] refl

-- ---- the outcomes

-- where there are as many shapes before the first answer as the limit, it is met
limited-before : (s : Setting) (formula : List Atom) (variable_count : ℕ) (objects : List ℕ) (ds : Derivations) → IsFirst s formula variable_count objects ds
    → (shapes : List (List Tick)) → length shapes ≡ s.limit
    → AreFirstShapes (λ shape. IsPartialShape (proofs_in s) s formula variable_count shape × ShapeBefore shape (ticks_of ds)) shapes
    → IsLimited s formula variable_count shapes
limited-before s formula variable_count objects ds answer shapes count firsts = record {
  count = count;
  kept = record {
    ascending = firsts.ascending;
    each = λ k d within. (firsts.each k d within).0;
    first = λ shape is. elim (shape_trichotomy shape (ticks_of ds)) [
      | inl before ↦ firsts.first shape (is, before)
      | inr rest ↦ elim rest [
        | inl same ↦ inr (λ k d within. subst (ShapeBefore _) (sym same) (firsts.each k d within).1)
        | inr after ↦ inr (λ k d within. ShapeBefore-trans _ (ticks_of ds) shape (firsts.each k d within).1 after)
      ]
    ];
  };
  before = λ others es is. elim (answer.least others es is) [
    | inl sooner ↦ λ k d within. ShapeBefore-trans _ (ticks_of ds) (ticks_of es) (firsts.each k d within).1 sooner
    | inr same ↦ λ k d within. subst (ShapeBefore _) same.0 (firsts.each k d within).1
  ];
}

limited-none : (s : Setting) (formula : List Atom) (variable_count : ℕ) → ¬ IsAnswer s formula variable_count → (shapes : List (List Tick))
    → length shapes ≡ s.limit → AreFirstShapes (IsPartialShape (proofs_in s) s formula variable_count) shapes → IsLimited s formula variable_count shapes
limited-none s formula variable_count no_answer shapes count firsts =
    record { count = count; kept = firsts; before = λ objects ds is. absurd (no_answer (objects, ds, is)) }

proofs_decided : (s : Setting) (formula : List Atom) (variable_count : ℕ)
    → ((shapes : List (List Tick)) × IsLimited s formula variable_count shapes)
    ⊎ ((objects : List ℕ) × (ds : Derivations) × IsFirst s formula variable_count objects ds × AreFewBefore s formula variable_count ds)
    ⊎ ((¬ IsAnswer s formula variable_count) × AreFewShapes s formula variable_count)
proofs_decided s formula variable_count =
    let shapes = listed-shapes (proofs_in s) s formula variable_count (finite-proofs s) in
    elim (first_or_none s formula variable_count) [
      | inl first ↦ elim (few_or_firsts (λ shape. IsPartialShape (proofs_in s) s formula variable_count shape × ShapeBefore shape (ticks_of first.1))
          s.limit
          (listed-where (IsPartialShape (proofs_in s) s formula variable_count) (λ shape. ShapeBefore shape (ticks_of first.1)) shapes
          (λ shape. before-decided shape (ticks_of first.1)))) [
            | inl few ↦ inr (inl (first.0, first.1, first.2, few))
            | inr met ↦ inl (met.0, limited-before s formula variable_count first.0 first.1 first.2 met.0 met.1 met.2)
          ]
      | inr no_answer ↦ elim (few_or_firsts (IsPartialShape (proofs_in s) s formula variable_count) s.limit shapes) [
        | inl few ↦ inr (inr (no_answer, few))
        | inr met ↦ inl (met.0, limited-none s formula variable_count no_answer met.0 met.1 met.2)
      ]
    ]

gap_shapes_decided : (s : Setting) (formula : List Atom) (variable_count : ℕ)
    → ((shapes : List (List Tick)) × IsGapLimited s formula variable_count shapes) ⊎ AreFewGapShapes s formula variable_count
gap_shapes_decided s formula variable_count =
    elim (few_or_firsts (IsPartialShape (loose_gaps_in s) s formula variable_count) s.limit
    (listed-shapes (loose_gaps_in s) s formula variable_count (finite-gaps s))) [
      | inl few ↦ inr few
      | inr met ↦ inl (met.0, record { count = met.1; kept = met.2 })
    ]

stays_below : (s : Setting) (formula : List Atom) (variable_count : ℕ) → ((shapes : List (List Tick)) → ¬ IsLimited s formula variable_count shapes)
    → StaysBelowLimit s formula variable_count
stays_below s formula variable_count never_met = elim (proofs_decided s formula variable_count) [
  | inl met ↦ absurd (never_met met.0 met.1)
  | inr below ↦ elim below [ inl first ↦ inl first | inr few ↦ inr few.1 ]
]

gaps_stay_below : (s : Setting) (formula : List Atom) (variable_count : ℕ)
    → ((kept : List Atom) (shapes : List (List Tick)) → ¬ MeetsGapLimit s formula variable_count kept shapes) → StaysBelowGapLimit s formula variable_count
gaps_stay_below s formula variable_count never_met = record {
  shapes = elim (gap_shapes_decided s formula variable_count) [ inl met ↦ absurd (never_met formula met.0 (inl (refl, met.1))) | inr few ↦ few ];
  atoms = λ atom loose. stays_below s (atom ∷ []) 0 (λ shapes limited. never_met (atom ∷ []) shapes (inr (atom, refl, loose, limited)));
}

pub questions-are_decided : QuestionsAreDecided
questions-are_decided =
    record { proofs = proofs_decided; gap_shapes = gap_shapes_decided; below = stays_below; gaps_below = gaps_stay_below }
