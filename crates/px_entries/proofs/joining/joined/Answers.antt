use Rattle.std.proofs.Common.{sym, subst}
use Rattle.px_entries.specs.Joined.{Joins}
use Rattle.px_gaps.specs.declared.known.Known.{Known}
use Rattle.px_gaps.specs.declared.known.Known.TheVariants.{Limited}
use Rattle.px_entries.proofs.JoinSteps.{joins-applicable, joins-limited}
use Rattle.px_entries.proofs.joining.joined.Goals as goal

pub returns-in-Applicable : goal.returns-in-Applicable
returns-in-Applicable c =
    subst (λ (k : Known). Joins k c.args.second c.args.second) (sym c.in-Applicable.is) (joins-applicable c.args.second)

pub returns-in-Limited : goal.returns-in-Limited
returns-in-Limited c =
    subst (λ (k : Known). Joins k c.args.second (Limited c.in-Limited.limit)) (sym c.in-Limited.is)
    (joins-limited c.in-Limited.limit c.args.second)
