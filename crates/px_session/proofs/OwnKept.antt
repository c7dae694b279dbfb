-- What of a state is of the problem stays so by each lawful reply.
use Rattle.std.specs.Prelude.{map, All}
use Rattle.std.proofs.Common.{sym, subst}
use Rattle.std.proofs.lemmas.List.Elements.{All-nil, All-push}
use Rattle.px_terms.specs.declared.problem.Problem.{Problem}
use Rattle.px_terms.specs.Validity.{IsValid}
use Rattle.px_planex.specs.Turns.{Recorded}
use Rattle.px_printer.specs.declared.reply.Reply.{Reply}
use Rattle.px_script.specs.declared.command.Command.{Command}
use Rattle.px_session.specs.Lawful.{Lawful, recorded_for, turn_told}
use Rattle.px_session.specs.OwnStates.{HasOwnEdits, IsOwnEdit, IsOwnPursuit, IsOwnState, edits_given}
use Rattle.px_session.specs.Sessions.{Edit, IsSession, SessionState}
use Rattle.px_session.proofs.OneLearning.{any-right}
use Rattle.px_duo.specs.Duos.{both}
use Rattle.px_session.proofs.OwnRuns.{run-own}
use Rattle.px_session.proofs.Learned.{are-learned}
use Rattle.px_session.proofs.OwnDuos.{duo-own, each_table}
use Rattle.px_session.proofs.PursuitRuns.{pursuit-own}
use Rattle.px_session.proofs.Replied.{replied}

abbrev HasOwn : Problem → Recorded Edit → Type 0
HasOwn problem one = All (IsOwnEdit problem) one.edits

pub own-kept : (problem : Problem) (old : SessionState) (given : Command) (answer : Reply) (new : SessionState) → IsValid problem
    → IsSession problem old → IsOwnState problem old → HasOwnEdits problem given → IsOwnPursuit problem given → Lawful problem old given answer new
    → IsOwnState problem new
own-kept problem old given answer new valid session own edits pursuit is =
    replied problem old given (IsOwnState problem) own
    (λ name goal variable_count count steps new by is. record { atoms = own.atoms; edits = own.edits })
    (λ name source params steps new by is. subst (IsOwnState problem) (sym is.learned) (record { atoms = own.atoms; edits = own.edits }))
    (λ name source prefix wanted params steps new by is. subst (IsOwnState problem) (sym is.learned)
    (record { atoms = own.atoms; edits = own.edits }))
    (λ turn between. record {
      atoms = own.atoms;
      edits = All-push (HasOwn problem) old.recorded
          (recorded_for turn between (edits_given given)) own.edits edits;
    })
    (λ name bound told new by is.
    let right = any-right problem old session.plans session.learned name is.table is.named in
    subst (IsOwnState problem) (sym is.changed)
    (record {
      atoms = run-own problem valid is.table right bound old.recorded old.atoms (map turn_told told) is.after own.edits is.runs own.atoms;
      edits = All-nil (HasOwn problem);
    }))
    (λ first second numbers lines new by is.
    let one = any-right problem old session.plans session.learned first is.one is.first_named in
    let other = any-right problem old session.plans session.learned second is.other is.second_named in
    subst (IsOwnState problem) (sym is.changed)
    (record {
      atoms = duo-own problem (both is.one is.other) (each_table problem is.one is.other one other) valid old.atoms numbers lines is.after
          is.runs own.atoms;
      edits = own.edits;
    }))
    (λ name goal variable_count searches told end new by is. subst (IsOwnState problem) (sym is.changed)
    (record {
      atoms = pursuit-own problem old.learned.tables goal variable_count old.recorded valid (are-learned problem old session)
          (subst (IsOwnPursuit problem) by pursuit).1 old.atoms searches (map turn_told told) end is.after is.pursues own.edits own.atoms;
      edits = All-nil (HasOwn problem);
    }))
    answer new is
