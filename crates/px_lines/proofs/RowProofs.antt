-- The proofs of a row, as they are written: how many are owed.
use Rattle.px_lines.proofs.Common.{◌≡◌, ℕ, zero, suc, ◌+◌, ◌<◌, ◌≤◌, false, ◌==◌, List, [], ◌∷◌, map, drop, length, sym, arith, get_or, part_view}
use Rattle.std.specs.Prelude.{fold}
use Rattle.px_script.proofs.Common.{eqb-true}
use Rattle.px_script.proofs.Lists.{by_test}
use Rattle.px_script.specs.Items as items
use Rattle.px_script.specs.Items.{owed, are_proofs, a_fact, an_ancestor, an_axiom}
use Rattle.px_lines.specs.declared.parts.Part.{Part}

-- each part pays for one proof at most
pub still-owed : (n : ℕ) (parts : List items.Part) → n ≤ fold owed n parts + length parts
still-owed n [] = omega arith
still-owed n (a_fact column index x ∷ more) = let rest = still-owed (owed n (a_fact column index x)) more in omega (arith, rest)
still-owed n (an_ancestor k ∷ more) = let rest = still-owed (owed n (an_ancestor k)) more in omega (arith, rest)
still-owed n (an_axiom k place count ts ∷ more) =
    let rest = still-owed (owed n (an_axiom k place count ts)) more in omega (arith, rest)

-- more are owed than parts follow
pub too-many-owed : (n : ℕ) (parts all : List items.Part) → fold owed n parts ≡ fold owed 0 all → length parts < n
    → false ≡ are_proofs all
too-many-owed n parts all same more = let least = still-owed n parts in by_count (fold owed 0 all) (omega (arith, same, least, more))
  where
    by_count : (k : ℕ) → 0 < k → false ≡ (k == 0)
    by_count k some = by_test (k == 0) (λ e. absurd (omega (arith, eqb-true k 0 e, some))) (λ e. sym e)
