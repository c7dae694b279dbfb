use Rattle.std.proofs.Common.{List, subst}
use Rattle.std.specs.Prelude.{Contains}
use Rattle.px_prover.specs.declared.pattern.GapPattern.{GapPattern}
use Rattle.px_prover.proofs.Keeping.{pushed, there-already}
use Rattle.px_prover.proofs.patterns.keep.Goals as goal

pub returns-then-is_recent : goal.returns-then-is_recent
returns-then-is_recent c = λ p. there-already c.args.found.now.items c.args.pattern
    (subst (λ (xs : List GapPattern). Contains xs c.args.pattern) c.deref.ensures.value (c.is_recent.ensures c.if-is_recent.true)) p

pub returns : goal.returns
returns c = λ p. pushed c.args.found.now.items c.push.new.items.items c.args.pattern c.in_ok-push.ensures.ok p
