use Rattle.std.proofs.Common.{[], length, sym, subst, take, map}
use Rattle.px_table.specs.Kernels.{instance_under}
use Rattle.px_terms.specs.Operators.{IsAdded}
use Rattle.px_terms.specs.declared.atom.Atom.{Atom}
use Rattle.px_gaps.specs.Closings.{OneOf}
use Rattle.px_entries.specs.Parameters.{Matches}
use Rattle.px_entries.proofs.MatchLemmas.{matches_first, matches_next, matches_whole}
use Rattle.px_entries.proofs.macro_matching.macro_matches.Goals as goal

pub loop-atom-init : goal.loop-atom-init
loop-atom-init c =
    subst (Matches c.args.problem.now.objects (length c.args.start.now) c.args.start.now
    (λ sigma. OneOf (take 0 c.args.wanted.now) (IsAdded c.args.problem.now (map (instance_under sigma) c.args.steps.now))) [])
    (sym c.new-found.ensures.items)
    (matches_first c.args.problem.now.objects (length c.args.start.now) c.args.start.now
    (λ (atom : Atom) sigma. IsAdded c.args.problem.now (map (instance_under sigma) c.args.steps.now) atom) [])

pub loop-atom-preserved : goal.loop-atom-preserved
loop-atom-preserved c =
    matches_next c.args.problem.now.objects (length c.args.start.now) c.args.start.now
    (λ (atom : Atom) sigma. IsAdded c.args.problem.now (map (instance_under sigma) c.args.steps.now) atom) c.args.wanted.now
    c.loop-atom.atom-index c.atom-item.result
    c.loop-atom-test.true c.atom-item.is [] c.loop-atom.found.items c.match_steps.new.found.items c.loop-atom.invariant
    c.in_ok-match_steps.ensures

pub returns : goal.returns
returns c =
    matches_whole c.args.problem.now.objects (length c.args.start.now) c.args.start.now
    (λ (atom : Atom) sigma. IsAdded c.args.problem.now (map (instance_under sigma) c.args.steps.now) atom) c.args.wanted.now
    c.loop-atom.atom-index
    [] c.loop-atom.found.items c.loop-atom-test.false c.loop-atom.invariant
