-- Lists of numbers that are least.
use Rattle.std.proofs.Common.{◌≡◌, ℕ, suc, ◌<◌, ◌≤◌, List, [], ◌∷◌, length, arith, inl, inr}
use Rattle.std.specs.Prelude.{slice_index}
use Rattle.std.proofs.lemmas.Bool.{cases_lt}
use Rattle.px_question.specs.Answers.{AtMost}

-- lists that are at most others at each place come at most with them
pub at_most-places : (ms ns : List ℕ) → length ms ≡ length ns → ((v : ℕ) → v < length ms → slice_index ms v ≤ slice_index ns v)
    → AtMost ms ns
at_most-places [] ns same least = tt
at_most-places (m ∷ ms) [] same least = absurd (omega (arith, same))
at_most-places (m ∷ ms) (n ∷ ns) same least = elim (cases_lt m n) [
  | inl less ↦ inl less
  | inr above ↦
      let le : m ≤ n = least 0 (omega arith) in
      inr (omega (arith, above, le), at_most-places ms ns (omega (arith, same)) (λ v within. least (suc v) (omega (arith, within))))
]
