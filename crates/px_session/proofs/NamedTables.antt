-- The learned tables of a session are named.
use Rattle.std.specs.Prelude.{◌<◌, ℕ, [], ◌∷◌, length, map}
use Rattle.std.proofs.Common.{sym, ◌∙◌, subst, arith}
use Rattle.std.proofs.lemmas.List.{length-append, length-map}
use Rattle.std.proofs.lemmas.List.Elements.{All-push}
use Rattle.px_terms.specs.declared.problem.Problem.{Problem}
use Rattle.px_table.specs.declared.table.Table.{Table}
use Rattle.px_library.specs.Libraries.{with_table}
use Rattle.px_printer.specs.declared.reply.Reply.{Reply}
use Rattle.px_script.specs.declared.command.Command.{Command}
use Rattle.px_script.specs.Content.{ScriptValue}
use Rattle.px_script.specs.Ranges.{IsInRange}
use Rattle.px_session.specs.Lawful.{Lawful}
use Rattle.px_session.specs.Named.{HasTableNames, IsTellable}
use Rattle.px_session.specs.Sessions.{SessionState, opening}
use Rattle.px_session.proofs.GivenNames.{saved-known}
use Rattle.px_session.proofs.Replied.{replied}

pub tables-named : (script : ScriptValue) → IsInRange script → HasTableNames (length script.names.results) (opening script.facts script.saved)
tables-named script range = record {
  each = length-map script.saved (λ (one : ℕ × Table). one.0) ∙ sym (length-map script.saved (λ (one : ℕ × Table). one.1));
  known = saved-known (map (λ (one : ℕ × Table). one.0) script.saved) script.commands (length script.names.results) range.commands.given;
}

-- one table more, under the name of a result
named-more : (results : ℕ) (old : SessionState) (name : ℕ) (table : Table) → HasTableNames results old → name < results
    → HasTableNames results (record old { learned = with_table old.learned name table })
named-more results old name table named below = record {
  each = omega (
    arith,
    named.each,
    length-append old.learned.names (name ∷ []),
    length-append old.learned.tables (table ∷ []),
  );
  known = All-push (λ n. n < results) old.learned.names name named.known below;
}

pub tables-named-later : (problem : Problem) (results : ℕ) (old : SessionState) (given : Command) (answer : Reply) (new : SessionState)
    → HasTableNames results old → IsTellable problem results given → Lawful problem old given answer new → HasTableNames results new
tables-named-later problem results old given answer new named tellable is =
    replied problem old given (HasTableNames results) named
    (λ name goal variable_count count steps new by is. record { each = named.each; known = named.known })
    (λ name source params steps new by is. subst (HasTableNames results) (sym is.learned)
    (named-more results old name is.general named (subst (IsTellable problem results) by tellable).0))
    (λ name source prefix wanted params steps new by is. subst (HasTableNames results) (sym is.learned)
    (named-more results old name is.edited named (subst (IsTellable problem results) by tellable).0))
    (λ turn between. record { each = named.each; known = named.known })
    (λ name bound told new by is. subst (HasTableNames results) (sym is.changed) (record { each = named.each; known = named.known }))
    (λ first second numbers lines new by is. subst (HasTableNames results) (sym is.changed)
    (record { each = named.each; known = named.known }))
    (λ name goal variable_count searches told end new by is. subst (HasTableNames results) (sym is.changed)
    (record { each = named.each; known = named.known }))
    answer new is
