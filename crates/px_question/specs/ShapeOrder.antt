-- The order of ticks and of shapes is strict and total.
use Rattle.std.proofs.Common.{◌≡◌, ◌⊎◌, ℕ, zero, suc, ◌<◌, List, [], ◌∷◌, refl, ap, sym, ◌∙◌, arith, inl, inr}
use Rattle.px_proof.specs.declared.shape.Tick.{Tick}
use Rattle.px_proof.specs.declared.shape.Tick.TheVariants.{Fact, Anc, Step, Gap, Open}
use Rattle.px_proof.specs.Shapes.{TickBefore, ShapeBefore, tick_kind, tick_number, tick_place}

trichotomy : (m n : ℕ) → (m < n) ⊎ (m ≡ n) ⊎ (n < m)
trichotomy zero zero = inr (inl refl)
trichotomy zero (suc n) = inl (omega arith)
trichotomy (suc m) zero = inr (inr (omega arith))
trichotomy (suc m) (suc n) = elim (trichotomy m n) [
  | inl h ↦ inl (omega (arith, h))
  | inr h ↦ elim h
      [ inl e ↦ inr (inl (ap suc e)) | inr g ↦ inr (inr (omega (arith, g))) ]
]

pub TickBefore-irrefl : (a : Tick) → ¬ TickBefore a a
TickBefore-irrefl a (inl h) = omega (arith, h)
TickBefore-irrefl a (inr (inl h)) = omega (arith, h.1)
TickBefore-irrefl a (inr (inr h)) = omega (arith, h.2)

pub TickBefore-trans : (a b c : Tick) → TickBefore a b → TickBefore b c → TickBefore a c
TickBefore-trans a b c (inl h) (inl k) = inl (omega (arith, h, k))
TickBefore-trans a b c (inl h) (inr (inl k)) = inl (omega (arith, h, k.0))
TickBefore-trans a b c (inl h) (inr (inr k)) = inl (omega (arith, h, k.0))
TickBefore-trans a b c (inr (inl h)) (inl k) = inl (omega (arith, h.0, k))
TickBefore-trans a b c (inr (inl h)) (inr (inl k)) = inr (inl (h.0 ∙ k.0, omega (arith, h.1, k.1)))
TickBefore-trans a b c (inr (inl h)) (inr (inr k)) = inr (inl (h.0 ∙ k.0, omega (arith, h.1, k.1)))
TickBefore-trans a b c (inr (inr h)) (inl k) = inl (omega (arith, h.0, k))
TickBefore-trans a b c (inr (inr h)) (inr (inl k)) = inr (inl (h.0 ∙ k.0, omega (arith, h.1, k.1)))
TickBefore-trans a b c (inr (inr h)) (inr (inr k)) = inr (inr (h.0 ∙ k.0, h.1 ∙ k.1, omega (arith, h.2, k.2)))

tick_same : (a b : Tick) → tick_kind a ≡ tick_kind b → tick_number a ≡ tick_number b → tick_place a ≡ tick_place b → a ≡ b
tick_same Open Open k n p = refl
tick_same (Fact i) (Fact j) k n p = ap (λ x. Fact x) n
tick_same (Anc i) (Anc j) k n p = ap (λ x. Anc x) n
tick_same (Step c x) (Step d y) k n p = rw (n, p) refl
tick_same Gap Gap k n p = refl
tick_same _ _ k n p = absurd (omega (arith, k))

pub tick_trichotomy : (a b : Tick) → TickBefore a b ⊎ (a ≡ b) ⊎ TickBefore b a
tick_trichotomy a b = by_kind (trichotomy (tick_kind a) (tick_kind b))
  where
    by_place : tick_kind a ≡ tick_kind b → tick_number a ≡ tick_number b → (tick_place a < tick_place b) ⊎ (tick_place a ≡ tick_place b)
        ⊎ (tick_place b < tick_place a) → TickBefore a b ⊎ (a ≡ b) ⊎ TickBefore b a
    by_place k n (inl h) = inl (inr (inr (k, n, h)))
    by_place k n (inr (inl h)) = inr (inl (tick_same a b k n h))
    by_place k n (inr (inr h)) = inr (inr (inr (inr (sym k, sym n, h))))

    by_number : tick_kind a ≡ tick_kind b → (tick_number a < tick_number b) ⊎ (tick_number a ≡ tick_number b)
        ⊎ (tick_number b < tick_number a) → TickBefore a b ⊎ (a ≡ b) ⊎ TickBefore b a
    by_number k (inl h) = inl (inr (inl (k, h)))
    by_number k (inr (inl h)) = by_place k h (trichotomy (tick_place a) (tick_place b))
    by_number k (inr (inr h)) = inr (inr (inr (inl (sym k, h))))

    by_kind : (tick_kind a < tick_kind b) ⊎ (tick_kind a ≡ tick_kind b) ⊎ (tick_kind b < tick_kind a) → TickBefore a b ⊎ (a ≡ b)
        ⊎ TickBefore b a
    by_kind (inl h) = inl (inl h)
    by_kind (inr (inl h)) = by_number h (trichotomy (tick_number a) (tick_number b))
    by_kind (inr (inr h)) = inr (inr (inl h))

pub shape_trichotomy : (a b : List Tick) → ShapeBefore a b ⊎ (a ≡ b) ⊎ ShapeBefore b a
shape_trichotomy [] [] = inr (inl refl)
shape_trichotomy [] (t ∷ b) = inl tt
shape_trichotomy (t ∷ a) [] = inr (inr tt)
shape_trichotomy (t ∷ a) (u ∷ b) = by_tick (tick_trichotomy t u) (shape_trichotomy a b)
  where
    by_rest : t ≡ u → ShapeBefore a b ⊎ (a ≡ b) ⊎ ShapeBefore b a → ShapeBefore (t ∷ a) (u ∷ b) ⊎ ((t ∷ a) ≡ (u ∷ b))
        ⊎ ShapeBefore (u ∷ b) (t ∷ a)
    by_rest e (inl h) = inl (inr (e, h))
    by_rest e (inr (inl h)) = inr (inl (rw (e, h) refl))
    by_rest e (inr (inr h)) = inr (inr (inr (sym e, h)))

    by_tick : TickBefore t u ⊎ (t ≡ u) ⊎ TickBefore u t → ShapeBefore a b ⊎ (a ≡ b) ⊎ ShapeBefore b a → ShapeBefore (t ∷ a) (u ∷ b)
        ⊎ ((t ∷ a) ≡ (u ∷ b)) ⊎ ShapeBefore (u ∷ b) (t ∷ a)
    by_tick (inl h) rest = inl (inl h)
    by_tick (inr (inl e)) rest = by_rest e rest
    by_tick (inr (inr h)) rest = inr (inr (inl h))

pub ShapeBefore-irrefl : (a : List Tick) → ¬ ShapeBefore a a
ShapeBefore-irrefl [] h = h
ShapeBefore-irrefl (t ∷ a) (inl h) = TickBefore-irrefl t h
ShapeBefore-irrefl (t ∷ a) (inr h) = ShapeBefore-irrefl a h.1

pub ShapeBefore-trans : (a b c : List Tick) → ShapeBefore a b → ShapeBefore b c → ShapeBefore a c
ShapeBefore-trans [] [] c h k = absurd h
ShapeBefore-trans [] (u ∷ b) [] h k = absurd k
ShapeBefore-trans [] (u ∷ b) (v ∷ c) h k = tt
ShapeBefore-trans (t ∷ a) [] c h k = absurd h
ShapeBefore-trans (t ∷ a) (u ∷ b) [] h k = absurd k
ShapeBefore-trans (t ∷ a) (u ∷ b) (v ∷ c) (inl h) (inl k) = inl (TickBefore-trans t u v h k)
ShapeBefore-trans (t ∷ a) (u ∷ b) (v ∷ c) (inl h) (inr k) = inl (rw (← k.0) h)
ShapeBefore-trans (t ∷ a) (u ∷ b) (v ∷ c) (inr h) (inl k) = inl (rw h.0 k)
ShapeBefore-trans (t ∷ a) (u ∷ b) (v ∷ c) (inr h) (inr k) = inr (h.0 ∙ k.0, ShapeBefore-trans a b c h.1 k.1)
