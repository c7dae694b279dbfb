-- Reading line after line.
use Rattle.px_reader.proofs.Common.{◌≡◌, ℕ, ◌+◌, ◌<◌, ◌≤◌, List, ◌∷◌, map, drop, length, get_or, refl, sym, ap, ◌∙◌, subst, inl, inr, drop_more, drop_all, Declared, nothing_declared, Refusal, AreInRange, Stage, Passes, Fails, PassAll, FailsIn, passes-kept, start-in-range}

module _ {X : Type 0} (stage : Stage) (text : X → List ℕ) (xs : List X) where
  -- The lines before line k + 1 have declared this: what the rest shows, all lines show.
  pub record HasRead (d : Declared) (k : ℕ) : Type 0 where
    pub in_range : AreInRange d
    pub passes : (last : Declared) → PassAll stage (k + 1) d (map text (drop k xs)) last
        → PassAll stage 1 nothing_declared (map text xs) last
    pub fails : (at : ℕ) (r : Refusal) → FailsIn stage (k + 1) d (map text (drop k xs)) at r
        → FailsIn stage 1 nothing_declared (map text xs) at r

  pub none-read : (d : Declared) → d ≡ nothing_declared → HasRead d 0
  none-read d e = subst (λ d. HasRead d 0) (sym e) (record { in_range = start-in-range; passes = λ last p. p; fails = λ at r p. p })

  next : (k : ℕ) (e : X) (t : List ℕ) → k < length xs → t ≡ text (get_or xs k e) → map text (drop k xs) ≡ t ∷ map text (drop (k + 1) xs)
  next k e t below is = ap (map text) (drop_more xs k e below) ∙ ap (λ y. y ∷ map text (drop (k + 1) xs)) (sym is)

  pub more-read : (d after : Declared) (k : ℕ) (e : X) (t : List ℕ) → k < length xs → t ≡ text (get_or xs k e) → HasRead d k
      → Passes stage (k + 1) d t after → HasRead after (k + 1)
  more-read d after k e t below is so passes = record {
    in_range = passes-kept stage (k + 1) d passes.0 after so.in_range passes.2;
    passes = λ last rest. so.passes last (subst (λ ls. PassAll stage (k + 1) d ls last) (sym (next k e t below is)) (after, passes, rest));
    fails = λ at r rest. so.fails at r (subst (λ ls. FailsIn stage (k + 1) d ls at r) (sym (next k e t below is))
        (inr (after, passes, rest)));
  }

  pub all-read : (d : Declared) (k : ℕ) → length xs ≤ k → HasRead d k → PassAll stage 1 nothing_declared (map text xs) d
  all-read d k past so = so.passes d (subst (λ ls. PassAll stage (k + 1) d (map text ls) d) (sym (drop_all k xs past)) refl)

  pub one-fails : (d : Declared) (k : ℕ) (e : X) (t : List ℕ) (r : Refusal) → k < length xs → t ≡ text (get_or xs k e) → HasRead d k
      → Fails stage d t r → FailsIn stage 1 nothing_declared (map text xs) (k + 1) r
  one-fails d k e t r below is so fails
      = so.fails (k + 1) r (subst (λ ls. FailsIn stage (k + 1) d ls (k + 1) r) (sym (next k e t below is)) (inl (fails, refl)))
