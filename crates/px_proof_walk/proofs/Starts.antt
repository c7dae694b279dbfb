-- Where the walk starts, and that what it visits is closed under prefixes.
use Rattle.std.proofs.Common.{◌≡◌, ◌∙◌, ℕ, zero, suc, ◌<◌, Bool, List, [], ◌∷◌, ◌++◌, length, replicate, refl, ap, sym, subst, arith, append_assoc}
use Rattle.std.specs.List.{AllByRecursion}
use Rattle.std.proofs.lemmas.List.{length-replicate}
use Rattle.std.proofs.lemmas.List.Elements.{All-from_recursion}
use Rattle.px_terms.specs.declared.atom.Atom.{Atom}
use Rattle.px_proof.specs.declared.shape.Tick.{Tick}
use Rattle.px_question.specs.Settings.{Setting}
use Rattle.px_proof_walk.specs.Order.{IsPrefixClosed}
use Rattle.px_proof_walk.specs.Pending.{goals_of}
use Rattle.px_proof_walk.specs.Possible.{IsClosing, IsPossible, IsGoingOn}
use Rattle.px_proof_walk.proofs.Every.{all-prefix}
use Rattle.px_proof_walk.proofs.Padding.{goes_on}
use Rattle.px_proof_walk.proofs.Pushing.{feasible-shorter}

regroup : (ticks : List Tick) (tick : Tick) (more : List Tick) → ticks ++ tick ∷ more ≡ (ticks ++ tick ∷ []) ++ more
regroup ticks tick more = sym (append_assoc ticks (tick ∷ []) more)

zeros-below : (objects n : ℕ) → (0 < n → 0 < objects) → AllByRecursion (λ o. o < objects) (replicate n 0)
zeros-below objects zero some = tt
zeros-below objects (suc n) some = (some (omega arith), zeros-below objects n (λ h. some (omega arith)))

module _ (loose : Bool) (s : Setting) (formula : List Atom) (variable_count : ℕ) where
  -- before any tick there is nothing to solve
  pub start-possible : (0 < variable_count → 0 < s.objects) → IsPossible loose s formula variable_count []
  start-possible some = (
    tt,
    (
      record { variables = variable_count; goals = goals_of s formula },
      refl,
      (
        replicate variable_count 0,
        let count : length {A = ℕ} (replicate variable_count 0) ≡ variable_count = length-replicate {A = ℕ} variable_count 0 in
            omega (arith, count),
        All-from_recursion (λ o. o < s.objects) (replicate variable_count 0) (zeros-below s.objects variable_count some),
        tt,
      ),
    ),
  )

  pub possible-shorter : IsPrefixClosed (IsPossible loose s formula variable_count)
  possible-shorter ticks tick more possible = (
    all-prefix IsClosing (ticks ++ tick ∷ []) more (subst (AllByRecursion IsClosing) (regroup ticks tick more) possible.0),
    feasible-shorter loose s formula variable_count ticks tick more possible.1,
  )

  pub going-shorter : IsPrefixClosed (IsGoingOn loose s formula variable_count)
  going-shorter ticks tick [] going = going
  going-shorter ticks tick (next ∷ more) going = (
    possible-shorter ticks tick (next ∷ more) going.0,
    goes_on loose s formula variable_count (ticks ++ tick ∷ []) next more
        (subst (IsPossible loose s formula variable_count) (regroup ticks tick (next ∷ more)) going.0),
  )

  -- all prefixes of a possible list are possible
  pub possible-prefix : (prefix : List Tick) (tick : Tick) (more : List Tick) → (0 < variable_count → 0 < s.objects)
      → IsPossible loose s formula variable_count (prefix ++ tick ∷ more) → IsPossible loose s formula variable_count prefix
  possible-prefix prefix tick more some possible = go prefix possible
    where
      last : (t : Tick) (prefix : List Tick) → (shorter : List Tick) × (u : Tick) × (t ∷ prefix ≡ shorter ++ u ∷ [])
      last t [] = ([], t, refl)
      last t (v ∷ prefix) = let rest = last v prefix in (t ∷ rest.0, rest.1, ap (λ ts. t ∷ ts) rest.2)

      go : (prefix : List Tick) → IsPossible loose s formula variable_count (prefix ++ tick ∷ more) → IsPossible loose s formula variable_count prefix
      go [] possible = start-possible some
      go (t ∷ prefix) possible =
          let end = last t prefix in
          let whole : (t ∷ prefix) ++ tick ∷ more ≡ end.0 ++ end.1 ∷ (tick ∷ more) =
          ap (λ ts. ts ++ tick ∷ more) end.2 ∙ append_assoc end.0 (end.1 ∷ []) (tick ∷ more) in
          subst (IsPossible loose s formula variable_count) (sym end.2)
          (possible-shorter end.0 end.1 (tick ∷ more) (subst (IsPossible loose s formula variable_count) whole possible))
