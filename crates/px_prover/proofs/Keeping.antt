-- Patterns that are put behind others.
use Rattle.std.proofs.Common.{◌≡◌, ◌⊎◌, ◌↔◌, ◌||◌, ℕ, zero, suc, ◌≤◌, Bool, true, false, List, [], ◌∷◌, ◌++◌, refl, sym, subst, inl, inr, arith}
use Rattle.std.specs.List.{list_any}
use Rattle.std.specs.Prelude.{◌-◌, cond, drop, length, take, Contains, IfOk, Result, Ok, Err}
use Rattle.std.proofs.lemmas.List.{length-drop, take_all}
use Rattle.std.proofs.lemmas.List.Elements.{Contains-append_left, Contains-push, Contains-push_cases}
use Rattle.px_base.specs.ListLaws.{Contains-first, Contains-later}
use Rattle.px_prover.proofs.PatternOrder.{pattern_eq-decides}
use Rattle.px_prover.specs.contracts.pattern.GapPatternPartialEq.TheImpl as pattern_equality
use Rattle.px_prover.specs.declared.pattern.GapPattern.{GapPattern}

-- what stands in a list with one more
pub pushed : (old new : List GapPattern) (pattern : GapPattern) → new ≡ old ++ pattern ∷ [] → (p : GapPattern) → Contains new p
    ↔ (Contains old p ⊎ (pattern ≡ p))
pushed old new pattern is p = (
  λ h. Contains-push_cases old pattern p (subst (λ (xs : List GapPattern). Contains xs p) is h),
  λ h. subst (λ (xs : List GapPattern). Contains xs p) (sym is) (elim h [
    | inl before ↦ Contains-append_left old (pattern ∷ []) p before
    | inr same ↦ subst (Contains (old ++ pattern ∷ [])) same (Contains-push old pattern)
  ]),
)

-- a pattern that is there already adds nothing
pub there-already : (old : List GapPattern) (pattern : GapPattern) → Contains old pattern → (p : GapPattern) → Contains old p
    ↔ (Contains old p ⊎ (pattern ≡ p))
there-already old pattern has p =
    (λ h. inl h, λ h. elim h [ inl before ↦ before | inr same ↦ subst (Contains old) same has ])

any-there : (found : List GapPattern) (pattern : GapPattern) → list_any (λ p. (pattern_equality.ghosts).eq p pattern) found ≡ true
    → Contains found pattern
any-there [] pattern is = absurd (cc)
any-there (first ∷ found) pattern is = go ((pattern_equality.ghosts).eq first pattern) refl is (any-there found pattern)
  where
    go : (same : Bool) → (pattern_equality.ghosts).eq first pattern ≡ same
        → (same || list_any (λ p. (pattern_equality.ghosts).eq p pattern) found) ≡ true
        → (list_any (λ p. (pattern_equality.ghosts).eq p pattern) found ≡ true → Contains found pattern) → Contains (first ∷ found) pattern
    go true same is later = subst (Contains (first ∷ found)) ((pattern_eq-decides first pattern).0 same) (Contains-first first found)
    go false other is later = Contains-later first found pattern (later is)

behind : (n : ℕ) (found : List GapPattern) (pattern : GapPattern)
    → list_any (λ p. (pattern_equality.ghosts).eq p pattern) (drop n found) ≡ true → Contains found pattern
behind zero found pattern is = any-there found pattern is
behind (suc n) [] pattern is = absurd (cc)
behind (suc n) (first ∷ found) pattern is = Contains-later first found pattern (behind n found pattern is)

-- one that is equal to one of the last ones stands there
pub recent-there : (n : ℕ) (found : List GapPattern) (pattern : GapPattern)
    → list_any (λ p. (pattern_equality.ghosts).eq p pattern) (take (length found - n) (drop n found)) ≡ true → Contains found pattern
recent-there n found pattern is =
    behind n found pattern (subst (λ (ps : List GapPattern). list_any (λ p. (pattern_equality.ghosts).eq p pattern) ps ≡ true)
    (take_all (length found - n) (drop n found) (omega (arith, length-drop n found))) is)

-- no more terms are kept than there are variables
pub few-kept : (with_terms : Bool) (variable_count : ℕ) → cond with_terms variable_count 0 ≤ variable_count
few-kept true variable_count = omega arith
few-kept false variable_count = omega arith

pub ok-weaker : {X E : Type 0} (r : Result X E) (P Q : X → Type 0) → ((x : X) → P x → Q x) → IfOk r P → IfOk r Q
ok-weaker (Ok x) P Q f h = f x h
ok-weaker (Err e) P Q f h = tt
