-- What steps add together, step by step.
use Rattle.std.proofs.Common.{◌≡◌, ◌∙◌, ◌+◌, ◌<◌, ℕ, zero, suc, false, List, [], ◌∷◌, length, drop, get_or, ap, sym, subst, inl, inr}
use Rattle.std.specs.Prelude.{All, Contains}
use Rattle.std.proofs.lemmas.List.{drop_more}
use Rattle.px_terms.specs.Operators.{IsAdded, adds, deletes}
use Rattle.px_terms.specs.declared.atom.Atom.{Atom}
use Rattle.px_terms.specs.declared.instance.OpInst.{OpInst}
use Rattle.px_terms.specs.declared.problem.Problem.{Problem}

module _ (problem : Problem) (atom : Atom) where
  abbrev pub AreKeeping : List OpInst → Type 0
  AreKeeping steps = All (λ (later : OpInst). deletes problem later atom ≡ false) steps

  -- the first of these steps adds it, and none of the later ones deletes it
  added-here : (steps rest : List OpInst) (step : OpInst) → steps ≡ step ∷ rest → Contains (adds problem step) atom → AreKeeping rest
      → IsAdded problem steps atom
  added-here steps rest step is has keep = subst (λ (l : List OpInst). IsAdded problem l atom) (sym is) (inl (has, keep))

  later-added : (k : ℕ) (steps : List OpInst) → IsAdded problem (drop k steps) atom → IsAdded problem steps atom
  later-added zero steps added = added
  later-added (suc k) [] added = added
  later-added (suc k) (step ∷ steps) added = inr (later-added k steps added)

  from_here : (steps : List OpInst) (k : ℕ) (step : OpInst) → k < length steps → step ≡ get_or steps k step
      → drop k steps ≡ step ∷ drop (k + 1) steps
  from_here steps k step within is = drop_more steps k step within ∙ ap (λ (s : OpInst). s ∷ drop (k + 1) steps) (sym is)

  pub added-at : (steps : List OpInst) (k : ℕ) (step : OpInst) → k < length steps → step ≡ get_or steps k step
      → Contains (adds problem step) atom → All (λ (later : OpInst). deletes problem later atom ≡ false) (drop (k + 1) steps)
      → IsAdded problem steps atom
  added-at steps k step within is has keep =
      later-added k steps (added-here (drop k steps) (drop (k + 1) steps) step (from_here steps k step within is) has keep)

  pub added-next : (steps : List OpInst) (k : ℕ) (step : OpInst) → k < length steps → step ≡ get_or steps k step
      → IsAdded problem (drop k steps) atom
      → (Contains (adds problem step) atom → ¬ All (λ (later : OpInst). deletes problem later atom ≡ false) (drop (k + 1) steps))
      → IsAdded problem (drop (k + 1) steps) atom
  added-next steps k step within is added never =
      go (subst (λ (l : List OpInst). IsAdded problem l atom) (from_here steps k step within is) added)
    where
      go : IsAdded problem (step ∷ drop (k + 1) steps) atom → IsAdded problem (drop (k + 1) steps) atom
      go (inl here) = absurd (never here.0 here.1)
      go (inr later) = later
