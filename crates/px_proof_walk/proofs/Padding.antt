-- Shapes keep the order of the lists of ticks that they stand for.
use Rattle.std.proofs.Common.{◌≡◌, ◌⊎◌, ℕ, zero, suc, ◌+◌, ◌<◌, Bool, Option, Some, None, List, [], ◌∷◌, ◌++◌, replicate, refl, ap, sym, ◌∙◌, arith, inl, inr}
use Rattle.std.specs.List.{AllByRecursion}
use Rattle.std.proofs.lemmas.List.{append-nil}
use Rattle.px_terms.specs.declared.atom.Atom.{Atom}
use Rattle.px_proof.specs.declared.shape.Tick.{Tick}
use Rattle.px_proof.specs.declared.shape.Tick.TheVariants.{Fact, Anc, Step, Gap, Open}
use Rattle.px_proof.specs.Shapes.{TickBefore, ShapeBefore}
use Rattle.px_question.specs.Settings.{Setting}
use Rattle.px_proof_walk.specs.Pending.{Goal, Closing, Pending, open_after, closing_at, fresh_of, goals_of}
use Rattle.px_proof_walk.specs.Possible.{IsClosing, IsPossible, IsFinished, open_count, shape_of, left_of}
use Rattle.px_proof_walk.proofs.Lifting.{open_after-step}
use Rattle.px_proof_walk.proofs.Ordering.{ShapeBefore-irrefl, ShapeBefore-trans, shape_trichotomy}

-- a closing tick stands after an open place
open-first : (t : Tick) → IsClosing t → TickBefore Open t
open-first Open closing = absurd closing
open-first (Fact i) closing = inl (omega arith)
open-first (Anc i) closing = inl (omega arith)
open-first (Step number place) closing = inl (omega arith)
open-first Gap closing = inl (omega arith)

-- padding keeps the order, where a list that goes on had a place to close
padded-before : (a b : List Tick) (m n : ℕ) → AllByRecursion IsClosing b → ShapeBefore a b
    → ((more : List Tick) (t : Tick) → b ≡ a ++ t ∷ more → 0 < m) → ShapeBefore (a ++ replicate m Open) (b ++ replicate n Open)
padded-before [] [] m n closing before place = absurd before
padded-before [] (t ∷ b) zero n closing before place = absurd (omega (arith, place b t refl))
padded-before [] (t ∷ b) (suc m) n closing before place = inl (open-first t closing.0)
padded-before (u ∷ a) [] m n closing before place = absurd before
padded-before (u ∷ a) (t ∷ b) m n closing (inl h) place = inl h
padded-before (u ∷ a) (t ∷ b) m n closing (inr h) place =
    inr (h.0, padded-before a b m n closing.1 h.1 (λ more v e. place more v (rw (h.0, e) refl)))

module _ (loose : Bool) (s : Setting) (formula : List Atom) (variable_count : ℕ) where
  -- a walk can go on only where a place is open
  pub goes_on : (a : List Tick) (t : Tick) (more : List Tick) → IsPossible loose s formula variable_count (a ++ t ∷ more)
      → 0 < open_count loose s formula variable_count a
  goes_on a t more possible = by_ticks a variable_count (goals_of s formula) possible.1.0 possible.1.1
    where
      by_ticks : (a : List Tick) (n : ℕ) (start : List Goal) (p : Pending) → open_after loose s n start (a ++ t ∷ more) ≡ Some p
          → 0 < left_of (open_after loose s n start a)
      by_ticks [] n [] p now = absurd (cc)
      by_ticks [] n (g ∷ start) p now = omega arith
      by_ticks (u ∷ a) n [] p now = absurd (cc)
      by_ticks (u ∷ a) n (g ∷ start) p now =
          go (closing_at loose s n g u) refl (λ closing. by_ticks a (n + fresh_of s u) (closing.parts ++ start) p)
        where
          go : (o : Option Closing) → closing_at loose s n g u ≡ o
              → ((closing : Closing) → open_after loose s (n + fresh_of s u) (closing.parts ++ start) (a ++ t ∷ more) ≡ Some p
              → 0 < left_of (open_after loose s (n + fresh_of s u) (closing.parts ++ start) a))
              → 0 < left_of (open_after loose s n (g ∷ start) (u ∷ a))
          go None is later = absurd (let none_left = rw is at now in cc)
          go (Some closing) is later =
              rw (open_after-step loose s n g start u a closing is)
              (later closing (sym (open_after-step loose s n g start u (a ++ t ∷ more) closing is) ∙ now))

  pub shape-before : (a b : List Tick) → IsPossible loose s formula variable_count b → ShapeBefore a b
      → ShapeBefore (shape_of loose s formula variable_count a) (shape_of loose s formula variable_count b)
  shape-before a b possible before = padded-before a b _ _ possible.0 before (λ more t e. goes_on a t more (rw e at possible))

  -- and the lists keep the order of their shapes
  pub unshape : (a b : List Tick) → IsPossible loose s formula variable_count a → IsPossible loose s formula variable_count b
      → ShapeBefore (shape_of loose s formula variable_count a) (shape_of loose s formula variable_count b) → ShapeBefore a b
  unshape a b possible_a possible_b before = go (shape_trichotomy a b)
    where
      go : ShapeBefore a b ⊎ (a ≡ b) ⊎ ShapeBefore b a → ShapeBefore a b
      go (inl h) = h
      go (inr (inl e)) = absurd (ShapeBefore-irrefl (shape_of loose s formula variable_count b) (rw e at before))
      go (inr (inr h)) =
          absurd (ShapeBefore-irrefl (shape_of loose s formula variable_count a)
          (ShapeBefore-trans (shape_of loose s formula variable_count a) (shape_of loose s formula variable_count b)
          (shape_of loose s formula variable_count a) before (shape-before b a possible_a h)))

  -- where no place is open, the shape is the list itself
  pub finished-shape : (ticks : List Tick) → IsFinished loose s formula variable_count ticks → shape_of loose s formula variable_count ticks ≡ ticks
  finished-shape ticks finished =
      let left : open_count loose s formula variable_count ticks ≡ 0 = finished in ap (λ k. ticks ++ replicate k Open) left ∙ append-nil ticks
