-- Where shapes are fewer than a number, no list has that number of different ones of them.
use Rattle.std.proofs.Common.{◌≡◌, ◌∙◌, ℕ, ◌≤◌, Some, List, [], ◌∷◌, length, ap, sym, subst, arith, inl, inr}
use Rattle.std.specs.Prelude.{Contains, remove, slice_get}
use Rattle.px_base.specs.ListLaws.{All-at, AllByRecursion-at, Contains-first, Contains-later}
use Rattle.px_proof.specs.declared.shape.Tick.{Tick}
use Rattle.px_base.specs.Answers.{some_same}
use Rattle.px_proof.specs.PlaceLaws.{length-remove, other_part, slice_get-read, slice_get-within}
use Rattle.px_proof.specs.Shapes.{ShapeBefore}
use Rattle.px_question.specs.Limits.{AreFewerThan, AreFirstShapes, IsAscending}
use Rattle.px_question.specs.ShapeOrder.{ShapeBefore-irrefl}

-- an element of a list stands at a place, and what stands at a place is an element
pub Contains-place : {X : Type 0} (xs : List X) (x : X) → Contains xs x → (k : ℕ) × (slice_get xs k ≡ Some x)
Contains-place xs x (k, below, is) = (k, slice_get-read xs k x below ∙ ap (λ y. Some y) is)

pub Contains-at : {X : Type 0} (xs : List X) (k : ℕ) (x : X) → slice_get xs k ≡ Some x → Contains xs x
Contains-at xs k x at = let below = slice_get-within xs k x at in (k, below, some_same (sym (slice_get-read xs k x below) ∙ at))

-- different shapes that are all in a list are no more than it has
pub no_more : (shapes seen : List (List Tick)) → IsAscending shapes → ((shape : List Tick) → Contains shapes shape → Contains seen shape)
    → length shapes ≤ length seen
no_more [] seen up within = omega arith
no_more (x ∷ xs) seen up within =
    let place = Contains-place seen x (within x (Contains-first x xs)) in
    let rest = no_more xs (remove seen place.0) up.1 (λ y has. kept place.0 place.1 y has
    (Contains-place seen y (within y (Contains-later x xs y has)))) in
    omega (arith, rest, length-remove seen place.0 (slice_get-within seen place.0 x place.1))
  where
    kept : (place : ℕ) → slice_get seen place ≡ Some x → (y : List Tick) → Contains xs y → (k : ℕ) × (slice_get seen k ≡ Some y)
        → Contains (remove seen place) y
    kept place at y has (k, there) = elim (other_part seen place k y there) [
      | inl same ↦ absurd (ShapeBefore-irrefl y (subst (λ (z : List Tick). ShapeBefore z y)
          (some_same (sym at ∙ ap (slice_get seen) (sym same) ∙ there)) (AllByRecursion-at (ShapeBefore x) xs y up.0 has)))
      | inr other ↦ Contains-at (remove seen place) other.0 y other.1
    ]

-- where fewer shapes of the kind exist than the number, there aren't that many different ones among them
pub too_few : (P : List Tick → Type 0) (count : ℕ) (shapes : List (List Tick)) → AreFewerThan P count → length shapes ≡ count
    → IsAscending shapes → ¬ ((shape : List Tick) → Contains shapes shape → P shape)
too_few P count shapes few long up each = omega (
  arith,
  few.fewer,
  long,
  no_more shapes few.seen up (λ shape has. few.all shape (each shape has)),
)

-- where fewer shapes of a kind exist than the number, that many shapes aren't the first ones of a kind that is among it
pub few_firsts : (P Q : List Tick → Type 0) (count : ℕ) (shapes : List (List Tick)) → AreFewerThan P count
    → ((shape : List Tick) → Q shape → P shape) → length shapes ≡ count → ¬ AreFirstShapes Q shapes
few_firsts P Q count shapes few among long firsts = too_few P count shapes few long firsts.ascending
    (λ shape has. among shape (All-at Q shapes shape firsts.each has))

-- a kind among those that are fewer than the number is fewer, too
pub fewer-among : (P Q : List Tick → Type 0) (count : ℕ) → AreFewerThan P count → ((shape : List Tick) → Q shape → P shape)
    → AreFewerThan Q count
fewer-among P Q count few among = record { seen = few.seen; fewer = few.fewer; all = λ shape holds. few.all shape (among shape holds) }
