use Rattle.std.proofs.Common.{sym, subst}
use Rattle.px_entries.specs.Joined.{Joins}
use Rattle.px_gaps.specs.declared.known.Known.{Known}
use Rattle.px_gaps.specs.declared.known.Known.TheVariants.{Closed, Limited}
use Rattle.px_entries.proofs.JoinSteps.{joins-closed_applicable, joins-closed_closed, joins-closed_open, joins-later_limit}
use Rattle.px_entries.proofs.joining.closed_beside.Goals as goal

pub returns-in-Applicable : goal.returns-in-Applicable
returns-in-Applicable c = subst (λ (k : Known). Joins Closed k Closed) (sym c.in-Applicable.is) joins-closed_applicable

pub returns-in-Open : goal.returns-in-Open
returns-in-Open c = subst (λ (k : Known). Joins Closed k Closed) (sym c.in-Open.is) (joins-closed_open _)

pub returns-in-Closed : goal.returns-in-Closed
returns-in-Closed c = subst (λ (k : Known). Joins Closed k Closed) (sym c.in-Closed.is) joins-closed_closed

pub returns : goal.returns
returns c =
    subst (λ (k : Known). Joins Closed k (Limited c.in-Limited.limit)) (sym c.in-Limited.is) (joins-later_limit Closed c.in-Limited.limit)
