-- What the loop of `are_tokens` in src/token.rt keeps true.
use Rattle.px_lines.proofs.Common.{length, lexemes_in, Follows}
use Rattle.px_lines.proofs.token.are_tokens.Given as goal

abbrev pub invariant-loop-after : goal.invariant-loop-after
invariant-loop-after l = Follows l.text l.rest

abbrev pub decreases-loop-after : goal.decreases-loop-after
decreases-loop-after l = length (lexemes_in l.rest)
