-- What a session keeps is kept by each lawful reply.
use Rattle.std.specs.Prelude.{◌≤◌, ◌<◌, ℕ, List, [], ◌∷◌, ◌++◌, length, map, All, Any}
use Rattle.std.proofs.Common.{◌≡◌, sym, subst, arith}
use Rattle.std.proofs.lemmas.List.{length-append, length-map}
use Rattle.std.proofs.lemmas.List.Elements.{All-append, All-cons, All-map, All-nil, All-weaker}
use Rattle.px_base.specs.ListLaws.{All-at, All-each}
use Rattle.px_terms.specs.declared.atom.Atom.{Atom}
use Rattle.px_terms.specs.declared.problem.Problem.{Problem}
use Rattle.px_terms.specs.AtomSets.{IsAtomSet}
use Rattle.px_terms.specs.Validity.{IsValid}
use Rattle.px_proof.specs.Derivation.{height}
use Rattle.px_table.proofs.DecidingLaws.{tables_are_decided}
use Rattle.px_table.specs.Limits.{most_tables}
use Rattle.px_table.specs.declared.table.Table.{Table}
use Rattle.px_table.specs.KernelLaws.{kernels_carry}
use Rattle.px_table.specs.Kernels.{KernelsCarry}
use Rattle.px_table.specs.Tables.{rows_of}
use Rattle.px_general.specs.Limits.{IsTooDeep, IsTooLong, IsTooWide}
use Rattle.px_ends.specs.Tasks.{task_of}
use Rattle.px_printer.specs.declared.reply.Reply.{Reply}
use Rattle.px_printer.specs.declared.reply.Why.TheVariants.{TooLong, TooDeep, TooWide, Full}
use Rattle.px_script.specs.declared.command.Command.{Command}
use Rattle.px_script.specs.Content.{ScriptValue}
use Rattle.px_script.specs.Ranges.{IsInRange, IsSavedTable}
use Rattle.px_session.specs.Determined.{SessionsAreKept}
use Rattle.px_session.specs.Lawful.{IsEditedInto, IsLearned, Lawful, turn_told}
use Rattle.px_session.specs.OwnStates.{IsOwnGoal}
use Rattle.px_session.specs.Sessions.{IsLearnedTable, IsPlanTable, IsSession, SessionState, opening}
use Rattle.px_duo.specs.Duos.{both}
use Rattle.px_session.proofs.Ascending.{duo-set, run-set}
use Rattle.px_session.proofs.FoundTables.{found-carries, found-table}
use Rattle.px_session.proofs.Learned.{are-learned}
use Rattle.px_session.proofs.OneEditing.{edited-learned}
use Rattle.px_session.proofs.OneLearning.{any-right, plan-right}
use Rattle.px_session.proofs.OwnKept.{own-kept}
use Rattle.px_session.proofs.PursuitRuns.{pursuit-set}
use Rattle.px_session.proofs.Replied.{replied}
use Rattle.px_session.proofs.Shapes.{general-alike, general-low, general-short}

abbrev table_in : ℕ × Table → Table
table_in one = one.1

opened : (problem : Problem) (facts : List Atom) (saved : List (ℕ × Table)) → IsAtomSet facts
    → All (λ one. IsLearnedTable problem (table_in one)) saved → length saved ≤ most_tables → IsSession problem (opening facts saved)
opened problem facts saved set are few = record {
  atoms = set;
  plans = All-nil (IsPlanTable problem);
  learned = All-map (IsLearnedTable problem) table_in saved are;
  few = let same : length (map table_in saved) ≡ length saved = length-map saved table_in in omega (arith, few, same);
}

-- where all are so, none is otherwise
not-any : {A : Type 0} (P Q : A → Type 0) → ((a : A) → P a → ¬ Q a) → (xs : List A) → All P xs → ¬ Any Q xs
not-any P Q never xs all one = never one.1 (subst P one.3 (all one.0 one.1 one.2)) one.4

-- a table that a script may have saved is like a learned one
saved-learned : (version : ℕ) (problem : Problem) (table : Table) → IsSavedTable version problem table → IsLearnedTable problem table
saved-learned version problem table is = record {
  table = (tables_are_decided problem table).0 is.is_one;
  short = let most = is.short in λ long. omega (arith, long, most);
  low = not-any (All (λ d. height d ≤ 56)) (Any (λ d. 56 < height d))
      (not-any (λ d. height d ≤ 56) (λ d. 56 < height d) (λ d low high. omega (arith, low, high)))
      (rows_of table.proofs) is.low;
}

scripts : (script : ScriptValue) → IsInRange script → IsSession script.problem (opening script.facts script.saved)
scripts script range =
    opened script.problem script.facts script.saved range.facts.fact_set
    (All-weaker (λ one. IsSavedTable script.version script.problem (table_in one)) (λ one. IsLearnedTable script.problem (table_in one))
    (λ one is. saved-learned script.version script.problem (table_in one) is) script.saved range.saved) range.few_saved

one-more : (P : Table → Type 0) (tables : List Table) (one : Table) → All P tables → P one → All P (tables ++ one ∷ [])
one-more P tables one all is = All-append P tables (one ∷ []) all (All-cons P one [] is (All-nil P))

length-more : (tables : List Table) (one : Table) → ¬ (most_tables ≤ length tables) → length (tables ++ one ∷ []) ≤ most_tables
length-more tables one few = grind (arith, length-append tables (one ∷ []), few)

learned-kept : (problem : Problem) (old : SessionState) → IsSession problem old → (name source params steps : ℕ) (new : SessionState)
    → IsLearned problem name source old params steps new → IsSession problem new
learned-kept problem old session name source params steps new is =
    let plan = plan-right problem old session source is.plan is.named in
    let alike = general-alike problem is.plan is.general plan.table plan.no_params plan.proper is.generalises in
    let short : ¬ IsTooLong is.plan = is.allowed TooLong in
    let low : ¬ IsTooDeep is.plan = λ deep. is.allowed TooDeep (short, deep) in
    let narrow : ¬ IsTooWide is.plan = λ wide. is.allowed TooWide (short, low, wide) in
    subst (IsSession problem) (sym is.learned)
    (record {
      atoms = session.atoms;
      plans = session.plans;
      learned = one-more (IsLearnedTable problem) old.learned.tables is.general session.learned
          (record {
            table = is.generalises.table;
            short = general-short is.plan is.general alike short;
            low = general-low is.plan is.general alike low;
          });
      few = length-more old.learned.tables is.general (λ full. is.allowed Full (short, low, narrow, full));
    })

edited-kept : (problem : Problem) (old : SessionState) → IsValid problem → IsSession problem old → (name source prefix : ℕ)
    (wanted : List (ℕ × ℕ)) (params steps : ℕ) (new : SessionState)
    → IsEditedInto problem name source prefix wanted old params steps new → IsSession problem new
edited-kept problem old valid session name source prefix wanted params steps new is =
    let right = any-right problem old session.plans session.learned source is.table is.named in
    subst (IsSession problem) (sym is.learned)
    (record {
      atoms = session.atoms;
      plans = session.plans;
      learned = one-more (IsLearnedTable problem) old.learned.tables is.edited session.learned
          (edited-learned problem valid is.table right prefix wanted is.editable is.few is.low is.edited is.is);
      few = length-more old.learned.tables is.edited is.room;
    })

kept : (problem : Problem) (old : SessionState) (given : Command) (answer : Reply) (new : SessionState) → IsValid problem
    → IsSession problem old → IsOwnGoal problem given → Lawful problem old given answer new → IsSession problem new
kept problem old given answer new valid session own is =
    replied problem old given (IsSession problem) session
    (λ name goal variable_count count steps new by is. record {
      atoms = session.atoms;
      plans = one-more (IsPlanTable problem) old.plans.tables is.made session.plans
          (found-table (task_of problem old.learned.tables old.atoms goal variable_count) valid (subst (IsOwnGoal problem) by own)
          (are-learned problem old session) valid.nodes.1 name count old new steps is);
      learned = session.learned;
      few = session.few;
    })
    (λ name source params steps new by is. learned-kept problem old session name source params steps new is)
    (λ name source prefix wanted params steps new by is.
    edited-kept problem old valid session name source prefix wanted params steps new is)
    (λ turn between. record { atoms = session.atoms; plans = session.plans; learned = session.learned; few = session.few })
    (λ name bound told new by is. subst (IsSession problem) (sym is.changed)
    (record {
      atoms = run-set problem is.table bound old.recorded old.atoms (map turn_told told) is.after is.runs session.atoms;
      plans = session.plans;
      learned = session.learned;
      few = session.few;
    }))
    (λ first second numbers lines new by is. subst (IsSession problem) (sym is.changed)
    (record {
      atoms = duo-set problem (both is.one is.other) old.atoms numbers lines is.after is.runs session.atoms;
      plans = session.plans;
      learned = session.learned;
      few = session.few;
    }))
    (λ name goal variable_count searches told end new by is. subst (IsSession problem) (sym is.changed)
    (record {
      atoms = pursuit-set problem old.learned.tables goal variable_count old.recorded old.atoms searches (map turn_told told) end is.after is.pursues
          session.atoms;
      plans = session.plans;
      learned = session.learned;
      few = session.few;
    }))
    answer new is

kernels : (problem : Problem) (state : SessionState) → IsSession problem state
    → All (KernelsCarry problem) (state.plans.tables ++ state.learned.tables)
kernels problem state is =
    All-append (KernelsCarry problem) state.plans.tables state.learned.tables
    (All-each (KernelsCarry problem) state.plans.tables
    (λ table has. kernels_carry problem table (All-at (IsPlanTable problem) state.plans.tables table is.plans has).table))
    (All-each (KernelsCarry problem) state.learned.tables
    (λ table has. kernels_carry problem table (All-at (IsLearnedTable problem) state.learned.tables table is.learned has).table))

pub sessions_are_kept : SessionsAreKept
sessions_are_kept = record {
  opened = opened;
  scripts = scripts;
  kept = kept;
  kernels = kernels;
  own = own-kept;
  plans = λ problem old name goal variable_count given count steps new valid session own is.
      found-carries (task_of problem old.learned.tables old.atoms goal variable_count) valid own (are-learned problem old session) valid.nodes.1 name
      count old new steps is.1;
}
