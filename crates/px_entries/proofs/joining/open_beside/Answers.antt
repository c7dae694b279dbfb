use Rattle.std.proofs.Common.{List, sym, subst}
use Rattle.std.specs.Prelude.{◌↔◌, ◌⊎◌, Contains}
use Rattle.px_terms.specs.declared.atom.Atom.{Atom}
use Rattle.px_entries.specs.Joined.{Joins}
use Rattle.px_gaps.specs.declared.known.Known.{Known}
use Rattle.px_gaps.specs.declared.known.Known.TheVariants.{Closed, Limited, Open}
use Rattle.px_entries.proofs.JoinSteps.{joins-later_limit, joins-open_applicable, joins-open_closed, joins-open_open}
use Rattle.px_entries.proofs.joining.open_beside.Goals as goal

pub returns-in-Applicable : goal.returns-in-Applicable
returns-in-Applicable c =
    subst (λ (k : Known). Joins (Open c.args.gaps) k (Open c.args.gaps)) (sym c.in-Applicable.is) (joins-open_applicable c.args.gaps)

pub returns-in_ok-all-in-Open : goal.returns-in_ok-all-in-Open
returns-in_ok-all-in-Open c =
    let all = c.in_ok-all-in-Open.all in
    let members =
    subst (λ (l : List Atom). (atom : Atom) → Contains all atom ↔ (Contains l atom ⊎ Contains c.as_slice-in-Open.result.now atom))
    c.as_slice.ensures c.in_ok-all-in-Open.ensures.members in
    subst (λ (k : Known). Joins (Open c.args.gaps) k (Open all)) (sym c.in-Open.is)
    (joins-open_open c.args.gaps c.in-Open.more all c.in_ok-all-in-Open.ensures.order
    (subst (λ (l : List Atom). (atom : Atom) → Contains all atom ↔ (Contains c.args.gaps atom ⊎ Contains l atom)) c.as_slice-in-Open.ensures
    members))

pub returns-in-Closed : goal.returns-in-Closed
returns-in-Closed c = subst (λ (k : Known). Joins (Open c.args.gaps) k Closed) (sym c.in-Closed.is) (joins-open_closed c.args.gaps)

pub returns-in-Limited : goal.returns-in-Limited
returns-in-Limited c =
    subst (λ (k : Known). Joins (Open c.args.gaps) k (Limited c.in-Limited.limit)) (sym c.in-Limited.is)
    (joins-later_limit (Open c.args.gaps) c.in-Limited.limit)
