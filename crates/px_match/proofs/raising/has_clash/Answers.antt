use Rattle.std.specs.Prelude.{List, All, length}
use Rattle.std.proofs.Common.{subst}
use Rattle.px_terms.specs.declared.term.Term.{Term}
use Rattle.px_match.specs.Reasons.{IsBlamed}
use Rattle.px_match.proofs.Floors.{agree_before}
use Rattle.px_match.proofs.Passed.{up_to_same}
use Rattle.px_match.proofs.raising.has_clash.Goals as goal

pub returns-in-Some-deleting-clause-never : goal.returns-in-Some-deleting-clause-never
returns-in-Some-deleting-clause-never c = λ _ objects fits agree same.
    let work = c.args.work.now in
    let before = c.blame.new.cells in
    let after = c.blame-in-Some-deleting.new.cells in
    let agree_first = agree_before before after (length work) work c.args.place objects c.blame-in-Some-deleting.ensures.grown agree in
    c.in-Some-deleting.ensures.never objects fits
    (up_to_same before (length work) work c.args.place objects _ agree_first same
    (subst (λ (terms : List Term). All (IsBlamed before (length work) c.args.place) terms) c.args-in-Some-deleting.ensures.value
    c.blame.ensures.blamed))
    (up_to_same after (length work) work c.args.place objects _ agree same
    (subst (λ (terms : List Term). All (IsBlamed after (length work) c.args.place) terms) c.args-in-Some-deleting-2.ensures.value
    c.blame-in-Some-deleting.ensures.blamed))
