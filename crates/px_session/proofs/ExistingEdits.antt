-- Editing has a lawful reply.
use Rattle.std.specs.Prelude.{◌≡◌, ◌<◌, ◌≤◌, ℕ, Option, Some, None, List, length}
use Rattle.std.proofs.Common.{zero, suc, refl, arith}
use Rattle.px_terms.specs.declared.problem.Problem.{Problem}
use Rattle.px_terms.specs.Validity.{IsValid}
use Rattle.px_table.specs.Limits.{most_tables}
use Rattle.px_table.specs.declared.table.Table.{Table}
use Rattle.px_edit.specs.EditCauses.{IsBadWantAt, IsEditable, IsFirstBadWant, KeepsTooDeep, KeepsTooMany}
use Rattle.px_edit.specs.Editing.{IsEdited}
use Rattle.px_edit.proofs.EditLimits.{good-prefix}
use Rattle.px_edit.proofs.EditSteps.{all-editable}
use Rattle.px_edit.proofs.There.{edited-there}
use Rattle.px_library.specs.Libraries.{with_table}
use Rattle.px_printer.specs.declared.reply.EditWhy.{EditWhy}
use Rattle.px_printer.specs.declared.reply.EditWhy.TheVariants.{Prefix, Want, TooLong, TooDeep, Full}
use Rattle.px_printer.specs.declared.reply.Reply.TheVariants as reply
use Rattle.px_script.specs.declared.command.Command.TheVariants as command
use Rattle.px_session.specs.Existing.{HasReply}
use Rattle.px_session.specs.Lawful.{RefusesEditing}
use Rattle.px_session.specs.Sessions.{IsSession, SessionState, any_table}
use Rattle.px_session.proofs.OneLearning.{any-right}

module _ (problem : Problem) (old : SessionState) (name source prefix : ℕ) (wanted : List (ℕ × ℕ)) where
  abbrev Edits : Type 0
  Edits = HasReply problem old (command.Edit name source prefix wanted)

  module _ (table : Table) (named : any_table old source ≡ Some table) (never : ¬ Edits) where
    not-refused : (why : EditWhy) → ¬ RefusesEditing problem old table prefix wanted why
    not-refused why refused = never (
      reply.EditRefused name why,
      (old, (refl, record { table = table; named = named; refused = refused; same = refl })),
    )

    -- no pair is bad, since none is the first bad one
    none-below : (n place : ℕ) → place < n → ¬ IsBadWantAt problem table prefix wanted place
    none-below zero place below bad = omega (arith, below)
    none-below (suc n) place below bad =
        let first : IsFirstBadWant problem table prefix wanted place =
        record { bad = bad; first = λ earlier less. none-below n earlier (omega (arith, less, below)) } in
        not-refused Want (not-refused Prefix, (place, first))

    editable : IsEditable problem table prefix wanted
    editable =
        let good = good-prefix table prefix (not-refused Prefix) in
        all-editable problem table prefix wanted (λ place. none-below (suc place) place (omega arith)) good.0 good.1

    few : ¬ KeepsTooMany table wanted
    few many = not-refused TooLong (editable, many)

    low : ¬ KeepsTooDeep table wanted
    low deep = not-refused TooDeep (editable, few, deep)

    room : ¬ (most_tables ≤ length old.learned.tables)
    room full = not-refused Full (editable, few, low, full)

    made : (edited : Table) → ¬ IsEdited problem table wanted edited
    made edited is = never (
      reply.Edited name edited.params (length edited.steps),
      (
        record old { learned = with_table old.learned name edited },
        (
          refl,
          record {
            table = table;
            named = named;
            editable = editable;
            few = few;
            low = low;
            room = room;
            edited = edited;
            is = is;
            params_are = refl;
            steps_are = refl;
            learned = refl;
          },
        ),
      ),
    )

  pub edit-reply : IsValid problem → IsSession problem old → ¬ ¬ Edits
  edit-reply valid session = by (any_table old source) refl
    where
      by : (found : Option Table) → any_table old source ≡ found → ¬ ¬ Edits
      by None named never = never (reply.Unknown source, (old, (refl, named, refl)))
      by (Some table) named never =
          let right = any-right problem old session.plans session.learned source table named in
          let there = edited-there problem valid table right prefix wanted (editable table named never) in
          made table named never there.0 there.1
