use Rattle.std.proofs.Common.{◌+◌, List, [], take, subst, arith}
use Rattle.std.specs.Prelude.{Contains}
use Rattle.std.proofs.lemmas.List.{take_all}
use Rattle.px_terms.specs.declared.atom.Atom.{Atom}
use Rattle.px_terms.specs.declared.instance.OpInst.{OpInst}
use Rattle.px_terms.specs.Operators.{adds}
use Rattle.px_gaps.specs.Closings.{OneOf}
use Rattle.px_entries.specs.Instances.{Covers}
use Rattle.px_entries.proofs.Covering.{covers_part}
use Rattle.px_gaps.proofs.Grows.{one_next}
use Rattle.px_entries.proofs.matching.matches_of.Goals as goal

pub loop-atom-preserved : goal.loop-atom-preserved
loop-atom-preserved c =
    let problem = c.args.problem.now in
    let wanted = c.args.wanted.now in
    let i = c.loop-atom.atom-index in
    let item = c.atom-item.result in
    covers_part problem (λ (full : OpInst). OneOf (take i wanted) (Contains (adds problem full)))
    (λ (full : OpInst). Contains (adds problem full) item)
    (λ (full : OpInst). OneOf (take (i + 1) wanted) (Contains (adds problem full)))
    [] c.loop-atom.found.items c.match_atom.new.found.items
    (λ full is w. (one_next (Contains (adds problem full)) wanted i item c.loop-atom-test.true c.atom-item.is).0 w)
    (λ full w. (one_next (Contains (adds problem full)) wanted i item c.loop-atom-test.true c.atom-item.is).1 w) c.loop-atom.invariant
    c.in_ok-match_atom.ensures

pub returns : goal.returns
returns c =
    subst (λ (l : List Atom). Covers c.args.problem.now
    (λ (full : OpInst). OneOf l (Contains (adds c.args.problem.now full))) [] c.loop-atom.found.items)
    (take_all c.loop-atom.atom-index c.args.wanted.now (omega arith)) c.loop-atom.invariant
