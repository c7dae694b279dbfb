use Rattle.std.proofs.Common.{ℕ, List, ap}
use Rattle.px_table.specs.declared.entry.Entry.TheVariants.{Macro}
use Rattle.px_diff.proofs.macros.entry_of.Goals as goal

pub returns : goal.returns
returns c = ap (λ (l : List ℕ). Macro c.args.prefix.now.number c.args.prefix.now.count l) c.in_ok-sigma.ensures
