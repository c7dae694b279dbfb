-- What putting a table into the library says.
use Rattle.std.specs.Prelude.{◌≡◌, ◌≤◌, ℕ, Bool, true, false, length}
use Rattle.px_table.specs.Limits.{most_tables}
use Rattle.px_table.specs.declared.table.Table.{Table}
use Rattle.px_library.specs.Libraries.{LibraryValue, with_table}
use Rattle.px_printer.specs.declared.reply.Reply.{Reply}
use Rattle.px_printer.specs.declared.reply.Reply.TheVariants as reply
use Rattle.px_printer.specs.declared.reply.EditWhy.TheVariants.{Full as edit_full}
use Rattle.px_printer.specs.declared.reply.Why.TheVariants.{Full as why_full}

-- There was room, and the table is put last; or the library has its 32 tables, and is as it was.
abbrev pub IsPut : LibraryValue → ℕ → Table → Bool → LibraryValue → Type 0
IsPut old name table true new = (¬ (most_tables ≤ length old.tables)) × (new ≡ with_table old name table)
IsPut old name table false new = (most_tables ≤ length old.tables) × (new ≡ old)

-- The reply to learning has the numbers of the table's parameters and steps, where it is put; or says that there is no room.
abbrev pub IsPutAsLearned : LibraryValue → ℕ → Table → Reply → LibraryValue → Type 0
IsPutAsLearned old name table (reply.Learned given params steps) new =
    (given ≡ name) × (params ≡ table.params) × (steps ≡ length table.steps) × IsPut old name table true new
IsPutAsLearned old name table (reply.LearnRefused given why) new = (given ≡ name) × (why ≡ why_full) × IsPut old name table false new
IsPutAsLearned old name table answer new = ⊥

-- So does the reply to editing.
abbrev pub IsPutAsEdited : LibraryValue → ℕ → Table → Reply → LibraryValue → Type 0
IsPutAsEdited old name table (reply.Edited given params steps) new =
    (given ≡ name) × (params ≡ table.params) × (steps ≡ length table.steps) × IsPut old name table true new
IsPutAsEdited old name table (reply.EditRefused given why) new = (given ≡ name) × (why ≡ edit_full) × IsPut old name table false new
IsPutAsEdited old name table answer new = ⊥
