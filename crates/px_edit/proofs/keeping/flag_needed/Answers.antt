use Rattle.std.proofs.Common.{◌≡◌, ◌<◌, ◌⊎◌, ℕ, length, sym, ◌∙◌, subst, arith}
use Rattle.std.specs.Prelude.{Contains, List}
use Rattle.px_table.specs.declared.mark.Mark.{Mark}
use Rattle.px_edit.specs.Keeping.{AreMarksBelow, HasFlag}
use Rattle.px_edit.proofs.Flags.{flags-needed, table-marks}
use Rattle.px_edit.proofs.keeping.flag_needed.Goals as goal

pub set_asked-requires-clause-within : goal.set_asked-requires-clause-within
set_asked-requires-clause-within c = λ k d below.
    let w = c.requires.within k d below in omega (arith, w.1, c.requires.long)

pub flag_columns-requires : goal.flag_columns-requires
flag_columns-requires c =
    subst (AreMarksBelow (length c.set_asked.new.flags)) (sym c.as_slice.ensures)
    (table-marks c.requires.table.0 c.args.table.now c.requires.table.1 (length c.set_asked.new.flags)
    (c.set_asked.ensures.long ∙ c.requires.long))

pub returns-clause-long : goal.returns-clause-long
returns-clause-long c = c.flag_columns.ensures.long ∙ c.set_asked.ensures.long

pub returns-clause-exact : goal.returns-clause-exact
returns-clause-exact c =
    let old = c.set_asked.new.flags in
    let new = c.flag_columns.new.flags in
    let closed =
    subst (λ (l : List Mark). (mark : Mark) → Contains l mark → HasFlag new mark.row → HasFlag new mark.column) c.as_slice.ensures
    c.flag_columns.ensures.closed in
    let least =
    subst (λ (l : List Mark). (k : ℕ) → HasFlag new k
    → HasFlag old k ⊎ ((mark : Mark) × Contains l mark × (mark.column ≡ k) × HasFlag new mark.row)) c.as_slice.ensures
    c.flag_columns.ensures.least in
    flags-needed c.requires.table.0 c.args.table.now c.requires.table.1 c.args.wanted.now c.requires.within old new
    c.set_asked.ensures.exact c.flag_columns.ensures.more closed least
