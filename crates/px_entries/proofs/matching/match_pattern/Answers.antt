use Rattle.std.proofs.Common.{◌≡◌}
use Rattle.px_terms.specs.declared.instance.OpInst.{OpInst}
use Rattle.px_terms.specs.Substitution.{substitute_atom}
use Rattle.px_entries.specs.Instances.{StandsFor}
use Rattle.px_entries.proofs.Covering.{covers_nothing, covers_one}
use Rattle.px_entries.proofs.matching.match_pattern.Goals as goal

pub returns-in-None : goal.returns-in-None
returns-in-None c =
    covers_nothing c.args.problem.now (λ (full : OpInst). StandsFor c.args.problem.now c.args.start.now full
    × (substitute_atom full.args c.args.pattern.now ≡ c.args.wanted.now)) c.args.found.now.items
    (λ full w. c.in-None.ensures.stands full w.0 w.1)

pub returns-in_ok-extend_from_slice-in-Some : goal.returns-in_ok-extend_from_slice-in-Some
returns-in_ok-extend_from_slice-in-Some c =
    covers_one c.args.problem.now (λ (full : OpInst). StandsFor c.args.problem.now c.args.start.now full
    × (substitute_atom full.args c.args.pattern.now ≡ c.args.wanted.now)) c.args.found.now.items c.extend_from_slice.new.self.items
    c.in-Some.matched
    c.in_ok-extend_from_slice-in-Some.ensures.items c.in-Some.ensures.form
    (λ full w. c.in-Some.ensures.stands full w.0 w.1) c.in-Some.ensures.only
