use Rattle.std.proofs.Common.{rules, ◌≡◌, length}
use Rattle.px_so_far.proofs.Common.{◌∙◌}
use Rattle.px_so_far.proofs.ProofHeights.{popped-some, popped-none}
use Rattle.px_so_far.proofs.proof_heights.pop_highest.Goals as goal

pub returns-in-Some-clause-highest : goal.returns-in-Some-clause-highest
returns-in-Some-clause-highest c = c.max.ensures ∙ (popped-some c.args.heights.now.items c.pop.new.self.items c.in-Some.height c.args.other
    (rw c.in-Some.is at c.pop.ensures.items)).0

pub returns-in-Some-clause-rest : goal.returns-in-Some-clause-rest
returns-in-Some-clause-rest c = (popped-some c.args.heights.now.items c.pop.new.self.items c.in-Some.height c.args.other
    (rw c.in-Some.is at c.pop.ensures.items)).1

pub returns-in-None-clause-highest : goal.returns-in-None-clause-highest
returns-in-None-clause-highest c =
    let gone : length c.args.heights.now.items ≡ 0 = search (rules, (rw c.in-None.is at c.pop.ensures.cases).0, c.args.heights.now.ok) in
    (popped-none c.args.heights.now.items c.pop.new.self.items c.args.other (rw c.in-None.is at c.pop.ensures.items) gone).0

pub returns-in-None-clause-rest : goal.returns-in-None-clause-rest
returns-in-None-clause-rest c =
    let gone : length c.args.heights.now.items ≡ 0 = search (rules, (rw c.in-None.is at c.pop.ensures.cases).0, c.args.heights.now.ok) in
    (popped-none c.args.heights.now.items c.pop.new.self.items c.args.other (rw c.in-None.is at c.pop.ensures.items) gone).1
