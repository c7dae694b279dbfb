-- Of a kind of shapes that a list has, either fewer exist than a number, or the first ones, as many as the number, make a list.
use Rattle.std.proofs.Common.{◌≡◌, ◌⊎◌, ◌∙◌, ℕ, zero, suc, ◌<◌, ◌≤◌, List, [], ◌∷◌, length, take, refl, ap, sym, subst, arith, inl, inr}
use Rattle.std.specs.Prelude.{◌↔◌, All, Contains}
use Rattle.std.specs.List.{AllByRecursion}
use Rattle.std.proofs.lemmas.List.Elements.{All-cons, All-nil}
use Rattle.px_base.specs.ListLaws.{All-each, AllByRecursion-at, AllByRecursion-map, Contains-cases, Contains-first, Contains-later, Contains-none}
use Rattle.px_proof.specs.declared.shape.Tick.{Tick}
use Rattle.px_proof.specs.Shapes.{ShapeBefore}
use Rattle.px_question.specs.Limits.{AreFewerThan, AreFirstShapes, IsAscending}
use Rattle.px_question.specs.ShapeOrder.{ShapeBefore-trans, shape_trichotomy}
use Rattle.px_question.proofs.Listed.{Listed}

all_each : {X : Type 0} (P : X → Type 0) (xs : List X) → ((x : X) → Contains xs x → P x) → AllByRecursion P xs
all_each P [] each = tt
all_each P (x ∷ xs) each = (each x (Contains-first x xs), all_each P xs (λ y has. each y (Contains-later x xs y has)))

-- ---- shapes in order

record Ascending (shapes : List (List Tick)) : Type 0 where
  items : List (List Tick)
  ascending : IsAscending items
  members : (shape : List Tick) → Contains items shape ↔ Contains shapes shape

-- one more shape, in its place
with_shape : (x : List Tick) (ys : List (List Tick)) → IsAscending ys → Ascending (x ∷ ys)
with_shape x [] up = record { items = x ∷ []; ascending = (tt, tt); members = λ shape. (λ h. h, λ h. h) }
with_shape x (y ∷ ys) up = elim (shape_trichotomy x y) [
  | inl before ↦ record {
    items = x ∷ y ∷ ys;
    ascending =
        ((before, AllByRecursion-map (ShapeBefore y) (ShapeBefore x) (λ z later. ShapeBefore-trans x y z before later) ys up.0), up);
    members = λ shape. (λ h. h, λ h. h);
  }
  | inr others ↦ elim others [
    | inl same ↦ record {
      items = y ∷ ys;
      ascending = up;
      members = λ shape. (
        λ has. Contains-later x (y ∷ ys) shape has,
        λ has. elim (Contains-cases x (y ∷ ys) shape has) [
          | inl is ↦ subst (Contains (y ∷ ys)) (sym same ∙ is)
              (Contains-first y ys)
          | inr later ↦ later
        ],
      );
    }
    | inr after ↦ behind after (with_shape x ys up.1)
  ]
]
  where
    behind : ShapeBefore y x → Ascending (x ∷ ys) → Ascending (x ∷ y ∷ ys)
    behind after rest = record {
      items = y ∷ rest.items;
      ascending = (
        all_each (ShapeBefore y) rest.items (λ z has. elim
            (Contains-cases x ys z ((rest.members z).0 has)) [
              | inl is ↦ subst (ShapeBefore y) is after
              | inr later ↦ AllByRecursion-at
                  (ShapeBefore y) ys z up.0 later
            ]),
        rest.ascending,
      );
      members = λ shape. (
        λ has. elim (Contains-cases y rest.items shape has) [
          | inl is ↦ Contains-later x (y ∷ ys) shape (subst (Contains (y ∷ ys)) is (Contains-first y ys))
          | inr later ↦ elim (Contains-cases x ys shape ((rest.members shape).0 later)) [
            | inl is ↦ subst (Contains (x ∷ y ∷ ys)) is (Contains-first x (y ∷ ys))
            | inr behind_it ↦ Contains-later x (y ∷ ys) shape (Contains-later y ys shape behind_it)
          ]
        ],
        λ has. elim (Contains-cases x (y ∷ ys) shape has) [
          | inl is ↦ Contains-later y rest.items shape ((rest.members shape).1 (subst (Contains (x ∷ ys)) is (Contains-first x ys)))
          | inr later ↦ elim (Contains-cases y ys shape later) [
            | inl is ↦ subst (Contains (y ∷ rest.items)) is (Contains-first y rest.items)
            | inr behind_it ↦ Contains-later y rest.items shape ((rest.members shape).1 (Contains-later x ys shape behind_it))
          ]
        ],
      );
    }

in_order : (shapes : List (List Tick)) → Ascending shapes
in_order [] = record { items = []; ascending = tt; members = λ shape. (λ h. h, λ h. h) }
in_order (x ∷ shapes) =
    let rest = in_order shapes in
    let all = with_shape x rest.items rest.ascending in
    record {
      items = all.items;
      ascending = all.ascending;
      members = λ shape. (
        λ has. elim (Contains-cases x rest.items shape ((all.members shape).0 has)) [
          | inl is ↦ subst (Contains (x ∷ shapes)) is (Contains-first x shapes)
          | inr later ↦ Contains-later x shapes shape ((rest.members shape).0 later)
        ],
        λ has. (all.members shape).1 (elim (Contains-cases x shapes shape has) [
          | inl is ↦ subst (Contains (x ∷ rest.items)) is (Contains-first x rest.items)
          | inr later ↦ Contains-later x rest.items shape ((rest.members shape).1 later)
        ]),
      );
    }

-- ---- the first of them

Contains-taken : {X : Type 0} (n : ℕ) (xs : List X) (q : X) → Contains (take n xs) q → Contains xs q
Contains-taken zero xs q has = absurd (Contains-none q has)
Contains-taken (suc n) [] q has = has
Contains-taken (suc n) (x ∷ xs) q has = elim (Contains-cases x (take n xs) q has) [
  | inl is ↦ subst (Contains (x ∷ xs)) is (Contains-first x xs)
  | inr later ↦ Contains-later x xs q (Contains-taken n xs q later)
]

length-taken : {X : Type 0} (n : ℕ) (xs : List X) → n ≤ length xs → length (take n xs) ≡ n
length-taken zero xs within = refl
length-taken (suc n) [] within = absurd (omega (arith, within))
length-taken (suc n) (x ∷ xs) within = ap suc (length-taken n xs (omega (arith, within)))

taken-ascending : (n : ℕ) (shapes : List (List Tick)) → IsAscending shapes → IsAscending (take n shapes)
taken-ascending zero shapes up = tt
taken-ascending (suc n) [] up = tt
taken-ascending (suc n) (x ∷ shapes) up = (
  all_each (ShapeBefore x) (take n shapes) (λ y has. AllByRecursion-at (ShapeBefore x) shapes y up.0 (Contains-taken n shapes y has)),
  taken-ascending n shapes up.1,
)

taken-first : (n : ℕ) (shapes : List (List Tick)) → IsAscending shapes → (q : List Tick) → Contains shapes q
    → Contains (take n shapes) q ⊎ All (λ kept. ShapeBefore kept q) (take n shapes)
taken-first zero shapes up q has = inr (All-nil (λ kept. ShapeBefore kept q))
taken-first (suc n) [] up q has = absurd (Contains-none q has)
taken-first (suc n) (x ∷ shapes) up q has = elim (Contains-cases x shapes q has) [
  | inl is ↦ inl (subst (Contains (x ∷ take n shapes)) is (Contains-first x (take n shapes)))
  | inr later ↦ elim (taken-first n shapes up.1 q later) [
    | inl there ↦ inl (Contains-later x (take n shapes) q there)
    | inr after ↦ inr (All-cons (λ kept. ShapeBefore kept q) x (take n shapes)
        (AllByRecursion-at (ShapeBefore x) shapes q up.0 later) after)
  ]
]

at_least : (m n : ℕ) → (m < n) ⊎ (n ≤ m)
at_least m zero = inr (omega arith)
at_least zero (suc n) = inl (omega arith)
at_least (suc m) (suc n) = elim (at_least m n) [ inl less ↦ inl (omega (arith, less)) | inr more ↦ inr (omega (arith, more)) ]

pub few_or_firsts : (P : List Tick → Type 0) (count : ℕ) → Listed P
    → AreFewerThan P count ⊎ ((shapes : List (List Tick)) × (length shapes ≡ count) × AreFirstShapes P shapes)
few_or_firsts P count listed =
    let up = in_order listed.items in
    let member : (shape : List Tick) → P shape → Contains up.items shape = λ shape holds. (up.members shape).1 (listed.all shape holds) in
    elim (at_least (length up.items) count) [
      | inl less ↦ inl (record { seen = up.items; fewer = less; all = member })
      | inr more ↦ inr (
        take count up.items,
        length-taken count up.items more,
        record {
          ascending = taken-ascending count up.items up.ascending;
          each =
              All-each P (take count up.items) (λ shape has. listed.each shape
              ((up.members shape).0 (Contains-taken count up.items shape has)));
          first = λ shape holds. taken-first count up.items up.ascending shape (member shape holds);
        },
      )
    ]
