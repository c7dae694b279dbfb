use Rattle.px_lines.proofs.Common.{◌≡◌, ◌++◌, ℕ, List, length, true, list_all, IsUtf8, chars, is_of}
use Rattle.px_lines.proofs.token.skip_while.Given as goal

abbrev pub invariant-loop-first : goal.invariant-loop-first
invariant-loop-first l = (prefix : List ℕ) × (l.text ≡ prefix ++ l.rest) × IsUtf8 l.rest × (list_all (is_of l.class) (chars prefix) ≡ true)

abbrev pub decreases-loop-first : goal.decreases-loop-first
decreases-loop-first l = length l.rest
