use Rattle.std.proofs.Common.{List, subst}
use Rattle.std.specs.Prelude.{All, length}
use Rattle.px_terms.specs.declared.term.Term.{Term}
use Rattle.px_match.specs.Reasons.{IsBlamed, IsNear}
use Rattle.px_match.proofs.Passed.{near_same}
use Rattle.px_match.proofs.meeting.least_left.Goals as goal

pub returns-clause-left : goal.returns-clause-left
returns-clause-left c = λ is_blamed. record {
  at_most = λ objects fits agree same from.
      let mark = c.in-Some.mark.now in
      let blamed : All (IsBlamed c.blame_if.new.cells (length c.args.work.now) c.args.place) mark.atom.args =
      subst (λ (terms : List Term). All (IsBlamed c.blame_if.new.cells (length c.args.work.now) c.args.place) terms) c.args-3.ensures.value
      (c.blame_if.ensures.blamed is_blamed) in
      let near : All (IsNear c.args.place c.args.later) mark.atom.args =
      subst (λ (terms : List Term). All (IsNear c.args.place c.args.later) terms) c.args-2.ensures.value
      (c.are_near.ensures c.if-not-are_near.false) in
      c.least_of.ensures.at_most objects fits
      (near_same c.blame_if.new.cells (length c.args.work.now) c.args.work.now c.args.place c.args.later objects mark.atom.args agree same
      blamed near) from;
}
