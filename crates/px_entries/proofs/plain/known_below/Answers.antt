use Rattle.std.proofs.Common.{sym, subst}
use Rattle.std.specs.Prelude.{IfSome, Option}
use Rattle.px_table.specs.declared.entry.Entry.{Entry}
use Rattle.px_table.specs.declared.entry.Entry.TheVariants.{Op}
use Rattle.px_entries.specs.Entries.{obligations_of}
use Rattle.px_gaps.specs.Known.{IsKnownOf}
use Rattle.px_gaps.specs.declared.known.Known.{Known}
use Rattle.px_entries.proofs.plain.known_below.Goals as goal

pub returns-in-Some : goal.returns-in-Some
returns-in-Some c =
    let problem = c.args.problem.now in
    let needs = obligations_of problem c.args.tables.now c.args.model.now.atoms in
    subst (λ (e : Entry). IsKnownOf problem (needs e) c.in-Some.known) (sym c.in-Op.is)
    (subst (λ (found : Option Known). IfSome found (IsKnownOf problem (needs (Op c.in-Op.inst)))) c.in-Some.is c.in_ok-known.ensures)
