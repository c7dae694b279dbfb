-- What is reported of learning, and that a search may take the tables that are learned.
use Rattle.std.specs.Prelude.{◌≡◌, ◌↔◌, ◌≤◌, ℕ, Some, Ok, Err, length}
use Rattle.std.proofs.Common.{sym, ap, subst, arith}
use Rattle.std.proofs.lemmas.List.Elements.{All-weaker}
use Rattle.px_table.specs.Limits.{most_steps, most_tables}
use Rattle.px_terms.specs.declared.problem.Problem.{Problem}
use Rattle.px_table.specs.declared.table.Table.{Table}
use Rattle.px_table.specs.Tables.{IsTable}
use Rattle.px_entries.specs.Learned.{AreLearned}
use Rattle.px_general.specs.declared.general_err.GeneralErr.{GeneralErr}
use Rattle.px_general.specs.General.{Generalises}
use Rattle.px_general.specs.Limits.{IsTooDeep, IsTooLong, IsTooWide}
use Rattle.px_library.specs.Libraries.{LibraryValue, table_named}
use Rattle.px_printer.specs.declared.reply.Reply.{Reply}
use Rattle.px_printer.specs.declared.reply.Reply.TheVariants as reply
use Rattle.px_printer.specs.declared.reply.Why.{Why}
use Rattle.px_printer.specs.declared.reply.Why.TheVariants.{TooLong, TooDeep, TooWide, Full}
use Rattle.px_session.specs.Learning.{IsPutAsLearned}
use Rattle.px_session.specs.Lawful.{RefusesLearning, TellsLearning}
use Rattle.px_session.specs.Sessions.{IsLearnedTable, IsSession, SessionState}
use Rattle.px_session.proofs.OneLearning.{plan-right}
use Rattle.px_session.proofs.Shapes.{general-alike}

-- ---- the tables of a session

few-steps : (problem : Problem) (table : Table) → IsLearnedTable problem table → length table.steps ≤ most_steps
few-steps problem table is = grind (arith, is.short)

pub are-learned : (problem : Problem) (state : SessionState) → IsSession problem state → AreLearned problem state.learned.tables
are-learned problem state is = record {
  few = is.few;
  short = All-weaker (IsLearnedTable problem) (λ table. length table.steps ≤ most_steps) (few-steps problem) state.learned.tables is.learned;
  each = All-weaker (IsLearnedTable problem) (IsTable problem) (λ table of. of.table) state.learned.tables is.learned;
}

-- ---- a plan that is generalised

-- what a call doesn't answer isn't so
ok-not-err : (general : Table) (why : GeneralErr) → ¬ (Ok general ≡ Err why)
ok-not-err general why same = cc

pub not-answered : {P : Type 0} (general : Table) (why : GeneralErr) → (Ok general ≡ Err why) ↔ P → ¬ P
not-answered general why exact is = ok-not-err general why (exact.1 is)

-- the general table has as few steps as the plan
pub general-few : (problem : Problem) (old : SessionState) → IsSession problem old → (source : ℕ) (plan general : Table)
    → table_named old.plans source ≡ Some plan → ¬ IsTooLong plan → Generalises problem plan general → length general.steps ≤ most_steps
general-few problem old session source plan general named short is =
    let right = plan-right problem old session source plan named in
    let alike = general-alike problem plan general right.table right.no_params right.proper is in
    grind (arith, alike.steps, short)

-- ---- what is reported

-- none of the causes
pub allowed : (state : SessionState) (plan : Table) → ¬ IsTooLong plan → ¬ IsTooDeep plan → ¬ IsTooWide plan
    → ¬ (most_tables ≤ length state.learned.tables)
    → (why : Why) → ¬ RefusesLearning state plan why
allowed state plan short low narrow room TooLong is = short is
allowed state plan short low narrow room TooDeep is = low is.1
allowed state plan short low narrow room TooWide is = narrow is.2
allowed state plan short low narrow room Full is = room is.3

pub put-told : (problem : Problem) (name source : ℕ) (old : SessionState) (plan general : Table) → table_named old.plans source ≡ Some plan
    → ¬ IsTooLong plan → ¬ IsTooDeep plan → ¬ IsTooWide plan → Generalises problem plan general → (answer : Reply) (library : LibraryValue)
    → IsPutAsLearned old.learned name general answer library → TellsLearning problem old name source answer (record old { learned = library })
put-told problem name source old plan general named short low narrow is (reply.Learned given params steps) library put = (
  put.0,
  record {
    plan = plan;
    named = named;
    allowed = allowed old plan short low narrow put.3.0;
    general = general;
    generalises = is;
    params_are = put.1;
    steps_are = put.2;
    learned = ap (λ (l : LibraryValue). record old { learned = l }) put.3.1;
  },
)
put-told problem name source old plan general named short low narrow is (reply.LearnRefused given why) library put = (
  put.0,
  record {
    plan = plan;
    named = named;
    refused = subst (RefusesLearning old plan) (sym put.1) (short, low, narrow, put.2.0);
    same = ap (λ (l : LibraryValue). record old { learned = l }) put.2.1;
  },
)
put-told problem name source old plan general named short low narrow is answer library put = absurd put
