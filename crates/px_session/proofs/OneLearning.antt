-- A command to learn has one lawful reply.
use Rattle.std.specs.Prelude.{◌≡◌, ◌==◌, ℕ, true, false, Bool, cond, Option, Some, None, List, [], ◌∷◌, length, All, Contains}
use Rattle.std.proofs.Common.{refl, sym, ap, ◌∙◌, subst, inl}
use Rattle.px_base.specs.ListLaws.{All-at, Contains-first, Contains-later}
use Rattle.px_base.specs.Answers.{some_same}
use Rattle.px_terms.specs.declared.problem.Problem.{Problem}
use Rattle.px_terms.specs.Validity.{IsValid}
use Rattle.px_table.specs.declared.table.Table.{Table}
use Rattle.px_table.specs.Tables.{IsTable}
use Rattle.px_general.specs.General.{Generalises}
use Rattle.px_general.proofs.OneGeneral.{general_is_one}
use Rattle.px_library.specs.Libraries.{table_beside, table_named, with_table}
use Rattle.px_printer.specs.declared.reply.Reply.{Reply}
use Rattle.px_printer.specs.declared.reply.Reply.TheVariants as reply
use Rattle.px_printer.specs.declared.reply.Why.{Why}
use Rattle.px_printer.specs.declared.reply.Why.TheVariants.{TooLong, TooDeep, TooWide, Full}
use Rattle.px_session.specs.Determined.{SameReply}
use Rattle.px_session.specs.Lawful.{IsLearned, IsNotLearned, RefusesLearning, TellsLearning}
use Rattle.px_session.specs.Sessions.{IsLearnedTable, IsPlanTable, IsSession, SessionState, any_table, first_table}

-- ---- options

pub none_or_some : {A : Type 0} (o : Option A) (a : A) → o ≡ None → ¬ (o ≡ Some a)
none_or_some o a e f = cc

pub one_some : {A : Type 0} (o : Option A) (a b : A) → o ≡ Some a → o ≡ Some b → a ≡ b
one_some o a b e f = some_same (sym e ∙ f)

-- ---- tables by name

-- the table of a name is one of the tables
pub table-there : (names : List ℕ) (tables : List Table) (name : ℕ) (table : Table) → table_beside names tables name ≡ Some table
    → Contains tables table
table-there [] tables name table e = absurd (cc)
table-there (one ∷ names) [] name table e = absurd (cc)
table-there (one ∷ names) (first ∷ tables) name table e = by (table-there names tables name table) (one == name) e
  where
    by : (table_beside names tables name ≡ Some table → Contains tables table) → (b : Bool)
        → cond b (Some first) (table_beside names tables name) ≡ Some table → Contains (first ∷ tables) table
    by later true e = subst (Contains (first ∷ tables)) (some_same e) (Contains-first first tables)
    by later false e = Contains-later first tables table (later e)

pub plan-right : (problem : Problem) (old : SessionState) → IsSession problem old → (name : ℕ) (plan : Table)
    → table_named old.plans name ≡ Some plan → IsPlanTable problem plan
plan-right problem old is name plan at =
    All-at (IsPlanTable problem) old.plans.tables plan is.plans (table-there old.plans.names old.plans.tables name plan at)

pub any-right : (problem : Problem) (old : SessionState) → All (IsPlanTable problem) old.plans.tables
    → All (IsLearnedTable problem) old.learned.tables → (name : ℕ) (table : Table) → any_table old name ≡ Some table → IsTable problem table
any-right problem old plans learned name table named = by (table_named old.plans name) refl named
  where
    by : (plan : Option Table) → table_named old.plans name ≡ plan → first_table plan (table_named old.learned name) ≡ Some table
        → IsTable problem table
    by None at named' =
        let has = table-there old.learned.names old.learned.tables name table named' in
        (All-at (IsLearnedTable problem) old.learned.tables table learned has).table
    by (Some plan) at named' =
        let has = table-there old.plans.names old.plans.tables name table (at ∙ named') in
        (All-at (IsPlanTable problem) old.plans.tables table plans has).table

-- ---- refusals

why-one : (state : SessionState) (plan : Table) (one other : Why) → RefusesLearning state plan one → RefusesLearning state plan other
    → one ≡ other
why-one state plan TooLong TooLong p q = refl
why-one state plan TooLong TooDeep p q = absurd (q.0 p)
why-one state plan TooLong TooWide p q = absurd (q.0 p)
why-one state plan TooLong Full p q = absurd (q.0 p)
why-one state plan TooDeep TooLong p q = absurd (p.0 q)
why-one state plan TooDeep TooDeep p q = refl
why-one state plan TooDeep TooWide p q = absurd (q.1 p.1)
why-one state plan TooDeep Full p q = absurd (q.1 p.1)
why-one state plan TooWide TooLong p q = absurd (p.0 q)
why-one state plan TooWide TooDeep p q = absurd (p.1 q.1)
why-one state plan TooWide TooWide p q = refl
why-one state plan TooWide Full p q = absurd (q.2 p.2)
why-one state plan Full TooLong p q = absurd (p.0 q)
why-one state plan Full TooDeep p q = absurd (p.1 q.1)
why-one state plan Full TooWide p q = absurd (p.2 q.2)
why-one state plan Full Full p q = refl

refused-one : (source : ℕ) (old : SessionState) (why other : Why) (new later : SessionState) → IsNotLearned source old why new
    → IsNotLearned source old other later → (why ≡ other) × (new ≡ later)
refused-one source old why other new later p q =
    let plan : p.plan ≡ q.plan = one_some (table_named old.plans source) p.plan q.plan p.named q.named in
    (why-one old q.plan why other (subst (λ (x : Table). RefusesLearning old x why) plan p.refused) q.refused, p.same ∙ sym q.same)

refused-or-learned : (problem : Problem) (name source : ℕ) (old : SessionState) (why : Why) (params steps : ℕ) (new later : SessionState)
    → IsNotLearned source old why new → ¬ IsLearned problem name source old params steps later
refused-or-learned problem name source old why params steps new later p q =
    q.allowed why (subst (λ (x : Table). RefusesLearning old x why)
    (one_some (table_named old.plans source) p.plan q.plan p.named q.named) p.refused)

-- ---- the reply

learned-one : (problem : Problem) → IsValid problem → (old : SessionState) → IsSession problem old
    → (name source n m p q s t : ℕ) (new later : SessionState) → n ≡ name → m ≡ name
    → IsLearned problem name source old p s new → IsLearned problem name source old q t later → (reply.Learned n p s ≡ reply.Learned m q t)
    × (new ≡ later)
learned-one problem valid old session name source n m p q s t new later is_name other_name is is_other =
    let plan : is.plan ≡ is_other.plan = one_some (table_named old.plans source) is.plan is_other.plan is.named is_other.named in
    let right = plan-right problem old session source is_other.plan is_other.named in
    let general : is.general ≡ is_other.general =
    general_is_one problem is_other.plan is.general is_other.general valid right.table right.proper
    (subst (λ (x : Table). Generalises problem x is.general) plan is.generalises) is_other.generalises in
    let names : n ≡ m = is_name ∙ sym other_name in
    let params : p ≡ q = is.params_are ∙ ap (λ (x : Table). x.params) general ∙ sym is_other.params_are in
    let steps : s ≡ t = is.steps_are ∙ ap (λ (x : Table). length x.steps) general ∙ sym is_other.steps_are in (
      λ i. reply.Learned (names i) (params i) (steps i),
      is.learned ∙ ap (λ (x : Table). record old { learned = with_table old.learned name x }) general ∙ sym is_other.learned,
    )

module _ (problem : Problem) (valid : IsValid problem) (old : SessionState) (session : IsSession problem old) where
  pub learning-one : (name source : ℕ) (one other : Reply) (new later : SessionState) → TellsLearning problem old name source one new
      → TellsLearning problem old name source other later → SameReply one other × (new ≡ later)
  learning-one name source (reply.Unknown n) (reply.Unknown m) new later p q = (inl (ap reply.Unknown (p.0 ∙ sym q.0)), p.2 ∙ sym q.2)
  learning-one name source (reply.Unknown n) (reply.LearnRefused m why) new later p q =
      absurd (none_or_some (table_named old.plans source) q.1.plan p.1 q.1.named)
  learning-one name source (reply.Unknown n) (reply.Learned m params steps) new later p q =
      absurd (none_or_some (table_named old.plans source) q.1.plan p.1 q.1.named)
  learning-one name source (reply.LearnRefused n why) (reply.Unknown m) new later p q =
      absurd (none_or_some (table_named old.plans source) p.1.plan q.1 p.1.named)
  learning-one name source (reply.LearnRefused n why) (reply.LearnRefused m other) new later p q =
      let same = refused-one source old why other new later p.1 q.1 in
      let names : n ≡ m = p.0 ∙ sym q.0 in
      (inl (λ i. reply.LearnRefused (names i) (same.0 i)), same.1)
  learning-one name source (reply.LearnRefused n why) (reply.Learned m params steps) new later p q =
      absurd (refused-or-learned problem name source old why params steps new later p.1 q.1)
  learning-one name source (reply.Learned n params steps) (reply.Unknown m) new later p q =
      absurd (none_or_some (table_named old.plans source) p.1.plan q.1 p.1.named)
  learning-one name source (reply.Learned n params steps) (reply.LearnRefused m why) new later p q =
      absurd (refused-or-learned problem name source old why params steps later new q.1 p.1)
  learning-one name source (reply.Learned n params steps) (reply.Learned m others more) new later p q =
      let same = learned-one problem valid old session name source n m params others steps more new later p.0 q.0 p.1 q.1 in
      (inl same.0, same.1)
  learning-one name source (reply.Unknown n) other new later p q = absurd q
  learning-one name source (reply.LearnRefused n why) other new later p q = absurd q
  learning-one name source (reply.Learned n params steps) other new later p q = absurd q
  learning-one name source one other new later p q = absurd p
