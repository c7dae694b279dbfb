-- A command gives a name that no saved table has, and that no command before it gave.
use Rattle.std.specs.Prelude.{◌≡◌, ◌≢◌, ◌<◌, ◌≤◌, ◌+◌, ◌++◌, ◌⊎◌, ℕ, List, [], ◌∷◌, length, drop, flat_map, All, AllPairs, Contains}
use Rattle.std.specs.List.{range_with_len}
use Rattle.std.proofs.Common.{zero, suc, get_or, refl, sym, ap, subst, arith, inl, inr}
use Rattle.std.proofs.lemmas.List.Elements.{Contains-append_left, Contains-append_right}
use Rattle.std.proofs.lemmas.List.FromFn.{get_or-range_with_len, length-range_with_len}
use Rattle.std.proofs.lemmas.List.{get_or_append_left, length-append}
use Rattle.px_base.specs.ListLaws.{All-at, All-each, Contains-cases, Contains-none}
use Rattle.px_script.specs.declared.command.Command.{Command}
use Rattle.px_script.specs.Ranges.{result_given}

-- ---- numbers that are all different

abbrev pub AreApart : List ℕ → Type 0
AreApart names = AllPairs (λ one other. one ≢ other) names

apart-rest : (n : ℕ) (names : List ℕ) → AreApart (n ∷ names) → AreApart names
apart-rest n names apart i j d less within = apart (suc i) (suc j) d (omega (arith, less)) (omega (arith, within))

apart-first : (n : ℕ) (names : List ℕ) → AreApart (n ∷ names) → All (λ other. n ≢ other) names
apart-first n names apart j d within = apart 0 (suc j) d (omega arith) (omega (arith, within))

-- none is both before a place and after it
pub apart-parts : (before after : List ℕ) (n : ℕ) → AreApart (before ++ after) → Contains before n → ¬ Contains after n
apart-parts [] after n apart here there = Contains-none n here
apart-parts (one ∷ before) after n apart here there =
    elim (Contains-cases one before n here) [
      | inl same ↦ All-at (λ other. one ≢ other) (before ++ after) n (apart-first one (before ++ after) apart)
          (Contains-append_right before after n there) same
      | inr later ↦ apart-parts before after n (apart-rest one (before ++ after) apart) later there
    ]

apart-after : (before after : List ℕ) → AreApart (before ++ after) → AreApart after
apart-after [] after apart = apart
apart-after (one ∷ before) after apart = apart-after before after (apart-rest one (before ++ after) apart)

-- numbers in order are so
pub apart-range : (count : ℕ) → AreApart (range_with_len 0 count)
apart-range count i j d less within same =
    let long = length-range_with_len 0 count in
    let one = get_or-range_with_len 0 count i d (omega (arith, less, within, long)) in
    let other = get_or-range_with_len 0 count j d (omega (arith, within, long)) in
    omega (arith, less, one, other, same)

-- those before a place are so
apart-before : (before after : List ℕ) → AreApart (before ++ after) → AreApart before
apart-before before after apart i j d less within =
    let long : length before ≤ length (before ++ after) = omega (arith, length-append before after) in
    subst (λ (n : ℕ). n ≢ get_or before j d) (get_or_append_left before after d i (omega (arith, less, within)))
    (subst (λ (n : ℕ). get_or (before ++ after) i d ≢ n) (get_or_append_left before after d j within)
    (apart i j d less (omega (arith, within, long))))

-- ---- the names that commands give

abbrev given_from : List Command → ℕ → List ℕ
given_from commands k = flat_map result_given (drop k commands)

-- what the command at a place gives, and what those after it give, is what the commands from it on give
from-here : (commands : List Command) (k : ℕ) (c : Command) → k < length commands
    → given_from commands k ≡ result_given (get_or commands k c) ++ given_from commands (suc k)
from-here [] k c below = absurd (omega (arith, below))
from-here (one ∷ commands) zero c below = refl
from-here (one ∷ commands) (suc k) c below = from-here commands k c (omega (arith, below))

apart-from : (commands : List Command) (k : ℕ) → AreApart (flat_map result_given commands) → AreApart (given_from commands k)
apart-from [] zero apart = apart
apart-from [] (suc k) apart = apart
apart-from (one ∷ commands) zero apart = apart
apart-from (one ∷ commands) (suc k) apart =
    apart-from commands k (apart-after (result_given one) (flat_map result_given commands) apart)

-- no command from a place on gives one of the names
abbrev GivenByNone : List Command → ℕ → List ℕ → Type 0
GivenByNone commands k names = All (λ name. ¬ Contains (given_from commands k) name) names

module _ (commands : List Command) (k : ℕ) (c : Command) (below : k < length commands) (is : c ≡ get_or commands k c) where
  here : given_from commands k ≡ result_given c ++ given_from commands (suc k)
  here = subst (λ (one : Command). given_from commands k ≡ result_given one ++ given_from commands (suc k)) (sym is)
      (from-here commands k c below)

  -- no learned table has a name that the command at the place gives
  pub names-new : (learned : List ℕ) → GivenByNone commands k learned → All (λ name. ¬ Contains learned name) (result_given c)
  names-new learned none =
      All-each (λ name. ¬ Contains learned name) (result_given c)
      (λ name has there.
      All-at (λ n. ¬ Contains (given_from commands k) n) learned name none there
      (subst (λ (names : List ℕ). Contains names name) (sym here)
      (Contains-append_left (result_given c) (given_from commands (suc k)) name has)))

  -- and once that is done, those after it don't give the name of a table that is learned then
  pub names-next : (old new : List ℕ) → AreApart (flat_map result_given commands) → GivenByNone commands k old
      → ((name : ℕ) → Contains new name → Contains old name ⊎ Contains (result_given c) name)
      → GivenByNone commands (k + 1) new
  names-next old new apart none each =
      let up : k + 1 ≡ suc k = omega arith in
      let both = subst AreApart here (apart-from commands k apart) in
      All-each (λ name. ¬ Contains (given_from commands (k + 1)) name) new
      (λ name has later.
      let after = subst (λ (n : ℕ). Contains (given_from commands n) name) up later in
      elim (each name has) [
        | inl earlier ↦ All-at (λ n. ¬ Contains (given_from commands k) n) old name none earlier
            (subst (λ (names : List ℕ). Contains names name) (sym here)
            (Contains-append_right (result_given c) (given_from commands (suc k)) name after))
        | inr now ↦ apart-parts (result_given c) (given_from commands (suc k)) name both now after
      ])

-- ---- the names of saved tables come before those that commands give

module _ (saved : List ℕ) (commands : List Command) (results : ℕ)
    (given : saved ++ flat_map result_given commands ≡ range_with_len 0 results) where
  in-order : AreApart (saved ++ flat_map result_given commands)
  in-order = subst AreApart (sym given) (apart-range results)

  pub saved-apart : AreApart saved
  saved-apart = apart-before saved (flat_map result_given commands) in-order

  -- each of them is the name of a result
  pub saved-known : All (λ name. name < results) saved
  saved-known k d below =
      let long = length-append saved (flat_map result_given commands) in
      let inside : k < results = omega (arith, below, long, ap length given, length-range_with_len 0 results) in
      let here : get_or (saved ++ flat_map result_given commands) k d ≡ get_or saved k d =
      get_or_append_left saved (flat_map result_given commands) d k below in
      let there : get_or (saved ++ flat_map result_given commands) k d ≡ get_or (range_with_len 0 results) k d =
      ap (λ (l : List ℕ). get_or l k d) given in
      omega (arith, inside, here, there, get_or-range_with_len 0 results k d inside)

  pub commands-apart : AreApart (flat_map result_given commands)
  commands-apart = apart-after saved (flat_map result_given commands) in-order

  pub saved-given : GivenByNone commands 0 saved
  saved-given =
      All-each (λ name. ¬ Contains (given_from commands 0) name) saved
      (λ name has later. apart-parts saved (flat_map result_given commands) name in-order has
      (subst (λ (names : List ℕ). Contains names name) (at-first commands) later))
    where
      at-first : (commands : List Command) → given_from commands 0 ≡ flat_map result_given commands
      at-first [] = refl
      at-first (one ∷ commands) = refl
