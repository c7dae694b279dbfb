-- The length of a list of variables that are numbered in turn.
use Rattle.std.proofs.Common.{◌≡◌, ℕ, zero, suc, length, refl, ap}
use Rattle.px_terms.specs.Substitution.{variables_from}

pub length-variables : (first count : ℕ) → length (variables_from first count) ≡ count
length-variables first zero = refl
length-variables first (suc count) = ap suc (length-variables (suc first) count)
