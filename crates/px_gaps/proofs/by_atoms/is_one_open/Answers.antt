use Rattle.std.proofs.Common.{◌≡◌, ◌∙◌, ℕ, zero, suc, List, [], ap, length, refl}
use Rattle.std.specs.Prelude.{◌==◌, slice_index}
use Rattle.px_prover.specs.PatternLists.{lists_of}
use Rattle.px_terms.specs.Sorts.{ObjectsFit}
use Rattle.px_gaps.specs.Closings.{IsChosenIn}
use Rattle.px_gaps.proofs.Apartness.{some-told}
use Rattle.px_gaps.proofs.by_atoms.is_one_open.Goals as goal

no-sort : (k : ℕ) → slice_index [] k ≡ 0
no-sort zero = refl
no-sort (suc k) = refl

all-fit : (sorts objects : List ℕ) → ObjectsFit sorts [] objects
all-fit sorts objects k below wanted = absurd (wanted (no-sort k))

pub returns : goal.returns
returns c =
    some-told (IsChosenIn (lists_of c.args.limit c.args.patterns.now) c.args.provable.now.atoms) c.in_ok-choices.choices.items
    c.is_empty.result (c.is_empty.ensures ∙ ap (λ (l : List (List ℕ)). length l == 0) c.as_slice.ensures.value) (λ objects.
    let is = c.in_ok-choices.ensures objects in (λ h. (is.0 h).0, λ h. is.1 (h, all-fit [] objects)))
