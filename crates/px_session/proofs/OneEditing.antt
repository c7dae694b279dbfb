-- A command to edit has one lawful reply; what is reported of it, and what an edited table keeps.
use Rattle.std.specs.Prelude.{◌≡◌, ◌⊎◌, ◌↔◌, ◌<◌, ◌≤◌, ℕ, Option, Some, None, Result, Ok, Err, List, length}
use Rattle.std.proofs.Common.{refl, sym, ap, ◌∙◌, subst, arith, inl, inr}
use Rattle.px_terms.specs.declared.problem.Problem.{Problem}
use Rattle.px_terms.specs.Validity.{IsValid}
use Rattle.px_table.specs.Limits.{most_steps, most_tables}
use Rattle.px_table.specs.declared.table.Table.{Table}
use Rattle.px_table.specs.Tables.{IsTable}
use Rattle.px_edit.specs.declared.edit_err.EditErr.{EditErr}
use Rattle.px_edit.specs.declared.edit_err.EditErr.TheVariants as edit_err
use Rattle.px_edit.specs.EditCauses.{IsBadPrefix, IsEditable, IsFirstBadWant, KeepsTooDeep, KeepsTooMany}
use Rattle.px_edit.specs.Editing.{IsEdited}
use Rattle.px_edit.specs.Refusals.{IsWithinLimits}
use Rattle.px_edit.proofs.EditLimits.{bad-prefix-not}
use Rattle.px_edit.proofs.EditSteps.{editable-none}
use Rattle.px_edit.proofs.Replies.{made-few, made-low, made-table}
use Rattle.px_edit.proofs.Sound.{edited-one}
use Rattle.px_general.specs.Limits.{IsTooLong}
use Rattle.px_library.specs.Libraries.{LibraryValue, with_table}
use Rattle.px_printer.specs.declared.reply.EditWhy.{EditWhy}
use Rattle.px_printer.specs.declared.reply.EditWhy.TheVariants.{Prefix, Want, TooLong, TooDeep, Full}
use Rattle.px_printer.specs.declared.reply.Reply.{Reply}
use Rattle.px_printer.specs.declared.reply.Reply.TheVariants as reply
use Rattle.px_session.specs.Determined.{SameReply}
use Rattle.px_session.specs.Lawful.{IsEditedInto, IsNotEdited, RefusesEditing, TellsEditing}
use Rattle.px_session.specs.Learning.{IsPutAsEdited}
use Rattle.px_session.specs.Sessions.{IsLearnedTable, SessionState, any_table}
use Rattle.px_session.proofs.OneLearning.{none_or_some, one_some}

-- ---- the causes

module _ (problem : Problem) (state : SessionState) (table : Table) (prefix : ℕ) (wanted : List (ℕ × ℕ)) where
  abbrev Refuses : EditWhy → Type 0
  Refuses why = RefusesEditing problem state table prefix wanted why

  no-prefix : IsEditable problem table prefix wanted → ¬ IsBadPrefix table prefix
  no-prefix may = bad-prefix-not problem table prefix wanted may

  no-want : IsEditable problem table prefix wanted → (place : ℕ) → ¬ IsFirstBadWant problem table prefix wanted place
  no-want may place first = editable-none problem table prefix wanted may place first.bad

  pub why-one : (why other : EditWhy) → Refuses why → Refuses other → why ≡ other
  why-one Prefix Prefix p q = refl
  why-one Prefix Want p q = absurd (q.0 p)
  why-one Prefix TooLong p q = absurd (no-prefix q.0 p)
  why-one Prefix TooDeep p q = absurd (no-prefix q.0 p)
  why-one Prefix Full p q = absurd (no-prefix q.0 p)
  why-one Want Prefix p q = absurd (p.0 q)
  why-one Want Want p q = refl
  why-one Want TooLong p q = absurd (no-want q.0 p.1.0 p.1.1)
  why-one Want TooDeep p q = absurd (no-want q.0 p.1.0 p.1.1)
  why-one Want Full p q = absurd (no-want q.0 p.1.0 p.1.1)
  why-one TooLong Prefix p q = absurd (no-prefix p.0 q)
  why-one TooLong Want p q = absurd (no-want p.0 q.1.0 q.1.1)
  why-one TooLong TooLong p q = refl
  why-one TooLong TooDeep p q = absurd (q.1 p.1)
  why-one TooLong Full p q = absurd (q.1 p.1)
  why-one TooDeep Prefix p q = absurd (no-prefix p.0 q)
  why-one TooDeep Want p q = absurd (no-want p.0 q.1.0 q.1.1)
  why-one TooDeep TooLong p q = absurd (p.1 q.1)
  why-one TooDeep TooDeep p q = refl
  why-one TooDeep Full p q = absurd (q.2 p.2)
  why-one Full Prefix p q = absurd (no-prefix p.0 q)
  why-one Full Want p q = absurd (no-want p.0 q.1.0 q.1.1)
  why-one Full TooLong p q = absurd (p.1 q.1)
  why-one Full TooDeep p q = absurd (p.2 q.2)
  why-one Full Full p q = refl

  -- none of them, where the table may be edited so
  allowed : IsEditable problem table prefix wanted → ¬ KeepsTooMany table wanted → ¬ KeepsTooDeep table wanted
      → ¬ (most_tables ≤ length state.learned.tables) → (why : EditWhy) → ¬ Refuses why
  allowed may few low room Prefix is = no-prefix may is
  allowed may few low room Want is = no-want may is.1.0 is.1.1
  allowed may few low room TooLong is = few is.1
  allowed may few low room TooDeep is = low is.2
  allowed may few low room Full is = room is.3

-- ---- the reply

module _ (problem : Problem) (old : SessionState) (name source prefix : ℕ) (wanted : List (ℕ × ℕ)) where
  abbrev IsRefused : EditWhy → SessionState → Type 0
  IsRefused why new = IsNotEdited problem source prefix wanted old why new

  abbrev IsMade : ℕ → ℕ → SessionState → Type 0
  IsMade params steps new = IsEditedInto problem name source prefix wanted old params steps new

  -- a refusal is the first cause
  pub refused-by : (table : Table) (why other : EditWhy) (new : SessionState) → any_table old source ≡ Some table
      → RefusesEditing problem old table prefix wanted why → IsRefused other new → (other ≡ why) × (new ≡ old)
  refused-by table why other new named cause is =
      let same : is.table ≡ table = one_some (any_table old source) is.table table is.named named in (
        why-one problem old table prefix wanted other why (subst (λ (x : Table). RefusesEditing problem old x prefix wanted other) same is.refused)
            cause,
        is.same,
      )

  -- where there is a cause, nothing is made
  pub refused-or-made : (table : Table) (why : EditWhy) (params steps : ℕ) (new : SessionState) → any_table old source ≡ Some table
      → RefusesEditing problem old table prefix wanted why → ¬ IsMade params steps new
  refused-or-made table why params steps new named cause is =
      let same : is.table ≡ table = one_some (any_table old source) is.table table is.named named in
      allowed problem old is.table prefix wanted is.editable is.few is.low is.room why
      (subst (λ (x : Table). RefusesEditing problem old x prefix wanted why) (sym same) cause)

  made-one : (n m p q s t : ℕ) (new later : SessionState) → n ≡ name → m ≡ name → IsMade p s new → IsMade q t later
      → (reply.Edited n p s ≡ reply.Edited m q t) × (new ≡ later)
  made-one n m p q s t new later is_name other_name is is_other =
      let table : is.table ≡ is_other.table = one_some (any_table old source) is.table is_other.table is.named is_other.named in
      let edited : is.edited ≡ is_other.edited =
      edited-one problem is_other.table wanted is.edited is_other.edited (subst (λ (x : Table). IsEdited problem x wanted is.edited) table is.is)
      is_other.is in
      let names : n ≡ m = is_name ∙ sym other_name in
      let params : p ≡ q = is.params_are ∙ ap (λ (x : Table). x.params) edited ∙ sym is_other.params_are in
      let steps : s ≡ t = is.steps_are ∙ ap (λ (x : Table). length x.steps) edited ∙ sym is_other.steps_are in (
        λ i. reply.Edited (names i) (params i) (steps i),
        is.learned ∙ ap (λ (x : Table). record old { learned = with_table old.learned name x }) edited ∙ sym is_other.learned,
      )

  pub editing-one : (one other : Reply) (new later : SessionState) → TellsEditing problem old name source prefix wanted one new
      → TellsEditing problem old name source prefix wanted other later → SameReply one other × (new ≡ later)
  editing-one (reply.Unknown n) (reply.Unknown m) new later p q = (inl (ap reply.Unknown (p.0 ∙ sym q.0)), p.2 ∙ sym q.2)
  editing-one (reply.Unknown n) (reply.EditRefused m why) new later p q =
      absurd (none_or_some (any_table old source) q.1.table p.1 q.1.named)
  editing-one (reply.Unknown n) (reply.Edited m params steps) new later p q =
      absurd (none_or_some (any_table old source) q.1.table p.1 q.1.named)
  editing-one (reply.EditRefused n why) (reply.Unknown m) new later p q =
      absurd (none_or_some (any_table old source) p.1.table q.1 p.1.named)
  editing-one (reply.EditRefused n why) (reply.EditRefused m other) new later p q =
      let same = refused-by p.1.table why other later p.1.named p.1.refused q.1 in
      let names : n ≡ m = p.0 ∙ sym q.0 in
      let causes : why ≡ other = sym same.0 in
      (inl (λ i. reply.EditRefused (names i) (causes i)), p.1.same ∙ sym same.1)
  editing-one (reply.EditRefused n why) (reply.Edited m params steps) new later p q =
      absurd (refused-or-made p.1.table why params steps later p.1.named p.1.refused q.1)
  editing-one (reply.Edited n params steps) (reply.Unknown m) new later p q =
      absurd (none_or_some (any_table old source) p.1.table q.1 p.1.named)
  editing-one (reply.Edited n params steps) (reply.EditRefused m why) new later p q =
      absurd (refused-or-made q.1.table why params steps new q.1.named q.1.refused p.1)
  editing-one (reply.Edited n params steps) (reply.Edited m others more) new later p q =
      let same = made-one n m params others steps more new later p.0 q.0 p.1 q.1 in
      (inl same.0, same.1)
  editing-one (reply.Unknown n) other new later p q = absurd q
  editing-one (reply.EditRefused n why) other new later p q = absurd q
  editing-one (reply.Edited n params steps) other new later p q = absurd q
  editing-one one other new later p q = absurd p

  -- ---- the causes in their order

  pub no-source : (answer : Reply) (new : SessionState) → any_table old source ≡ None
      → TellsEditing problem old name source prefix wanted answer new → (answer ≡ reply.Unknown source) × (new ≡ old)
  no-source (reply.Unknown given) new none is = (ap reply.Unknown is.0, is.2)
  no-source (reply.EditRefused given why) new none is = absurd (none_or_some (any_table old source) is.1.table none is.1.named)
  no-source (reply.Edited given params steps) new none is = absurd (none_or_some (any_table old source) is.1.table none is.1.named)
  no-source answer new none is = absurd is

  pub not-edited : (answer : Reply) (new : SessionState) (table : Table) (why : EditWhy) → any_table old source ≡ Some table
      → RefusesEditing problem old table prefix wanted why → TellsEditing problem old name source prefix wanted answer new
      → (answer ≡ reply.EditRefused name why) × (new ≡ old)
  not-edited (reply.Unknown given) new table why named cause is = absurd (none_or_some (any_table old source) table is.1 named)
  not-edited (reply.EditRefused given other) new table why named cause is =
      let same = refused-by table why other new named cause is.1 in
      let names : given ≡ name = is.0 in
      let causes : other ≡ why = same.0 in
      (λ i. reply.EditRefused (names i) (causes i), same.1)
  not-edited (reply.Edited given params steps) new table why named cause is =
      absurd (refused-or-made table why params steps new named cause is.1)
  not-edited answer new table why named cause is = absurd is

  -- ---- what is reported

  pub put-edited : (table edited : Table) → any_table old source ≡ Some table → IsEditable problem table prefix wanted
      → ¬ KeepsTooMany table wanted → ¬ KeepsTooDeep table wanted → IsEdited problem table wanted edited → (answer : Reply) (library : LibraryValue)
      → IsPutAsEdited old.learned name edited answer library
      → TellsEditing problem old name source prefix wanted answer (record old { learned = library })
  put-edited table edited named may few low is (reply.Edited given params steps) library put = (
    put.0,
    record {
      table = table;
      named = named;
      editable = may;
      few = few;
      low = low;
      room = put.3.0;
      edited = edited;
      is = is;
      params_are = put.1;
      steps_are = put.2;
      learned = ap (λ (l : LibraryValue). record old { learned = l }) put.3.1;
    },
  )
  put-edited table edited named may few low is (reply.EditRefused given why) library put = (
    put.0,
    record {
      table = table;
      named = named;
      refused = subst (RefusesEditing problem old table prefix wanted) (sym put.1) (may, few, low, put.2.0);
      same = ap (λ (l : LibraryValue). record old { learned = l }) put.2.1;
    },
  )
  put-edited table edited named may few low is answer library put = absurd put

-- ---- what the call's answer says

-- a result isn't both
ok-not-err : (edited : Table) (why : EditErr) → ¬ (Ok edited ≡ Err why)
ok-not-err edited why same = cc

pub not-too-many : {P : Type 0} (edited : Table) → (P → (Ok edited ≡ Err edit_err.TooLong) ⊎ (Ok edited ≡ Err edit_err.NoMemory)) → ¬ P
not-too-many edited always is = elim (always is) [
  | inl e ↦ ok-not-err edited edit_err.TooLong e
  | inr e ↦ ok-not-err edited edit_err.NoMemory e
]

pub not-too-deep : {P : Type 0} (edited : Table) → (P → (Ok edited ≡ Err edit_err.TooDeep) ⊎ (Ok edited ≡ Err edit_err.NoMemory)) → ¬ P
not-too-deep edited always is = elim (always is) [
  | inl e ↦ ok-not-err edited edit_err.TooDeep e
  | inr e ↦ ok-not-err edited edit_err.NoMemory e
]

pub told-want : (problem : Problem) (table : Table) (prefix : ℕ) (wanted : List (ℕ × ℕ)) (r : Result Table EditErr) (x : ℕ)
    → r ≡ Err (edit_err.BadWant x)
    → ((place : ℕ) → (r ≡ Err (edit_err.BadWant place)) ↔ ((¬ IsBadPrefix table prefix) × IsFirstBadWant problem table prefix wanted place))
    → (¬ IsBadPrefix table prefix) × ((place : ℕ) × IsFirstBadWant problem table prefix wanted place)
told-want problem table prefix wanted r x is exact = let bad = (exact x).0 is in (bad.0, (x, bad.1))

-- ---- what an edited table keeps

module _ (problem : Problem) (valid : IsValid problem) (table : Table) (is : IsTable problem table) (prefix : ℕ) (wanted : List (ℕ × ℕ))
    (may : IsEditable problem table prefix wanted) (few : ¬ KeepsTooMany table wanted) (low : ¬ KeepsTooDeep table wanted)
    (edited : Table) (done : IsEdited problem table wanted edited) where
  within : IsWithinLimits table wanted
  within = record { few = few; low = low }

  short : ¬ IsTooLong edited
  short long = let most = made-few problem valid table is prefix wanted may edited done within in omega (arith, long, most)

  pub edited-learned : IsLearnedTable problem edited
  edited-learned = record {
    table = made-table problem valid table is prefix wanted may edited done;
    short = short;
    low = made-low problem valid table is prefix wanted may edited done within;
  }
