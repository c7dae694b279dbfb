-- The causes not to write a table, and what a table of a session is that has none of them.
use Rattle.std.specs.Prelude.{◌≡◌, ◌≤◌, ◌<◌, ◌⊎◌, ℕ, Option, Some, None, List, [], ◌∷◌, length, All, Any}
use Rattle.std.proofs.Common.{zero, suc, refl, sym, ◌∙◌, subst, arith, inl, inr}
use Rattle.px_base.specs.ListLaws.{All-at, All-each}
use Rattle.px_terms.specs.declared.problem.Problem.{Problem}
use Rattle.px_terms.specs.Validity.{IsValid}
use Rattle.px_proof.specs.Derivation.{Derivation, height}
use Rattle.px_table.specs.declared.table.Table.{Table}
use Rattle.px_table.specs.Limits.{most_steps}
use Rattle.px_table.specs.Tables.{rows_of}
use Rattle.px_table.proofs.DecidingLaws.{tables_are_decided}
use Rattle.px_cert.specs.Certificates.{IsCertifiable}
use Rattle.px_general.specs.Limits.{IsTooDeep, IsTooLong, most_proof_height}
use Rattle.px_library.specs.Libraries.{table_named}
use Rattle.px_printer.specs.declared.reply.SaveWhy.{SaveWhy}
use Rattle.px_printer.specs.declared.reply.SaveWhy.TheVariants.{TooLong, TooDeep, TooMany}
use Rattle.px_script.specs.declared.limits.TheConstants.{LAST_NUMBER as last_number}
use Rattle.px_script.specs.Ranges.{IsSavedTable}
use Rattle.px_session.specs.Asked.{MayBeWritten, RefusesWriting}
use Rattle.px_session.specs.CertifiedReplies.{IsCertifiableProblem}
use Rattle.px_session.specs.Sessions.{IsSession, SessionState, any_table, first_table}
use Rattle.px_session.specs.Writable.{HasWritableTables, IsWritable}
use Rattle.px_session.proofs.OneLearning.{any-right, table-there}

-- ---- the causes

pub why-one : (table : Table) (why other : SaveWhy) → RefusesWriting table why → RefusesWriting table other → why ≡ other
why-one table TooLong TooLong p q = refl
why-one table TooLong TooDeep p q = absurd (q.0 p)
why-one table TooLong TooMany p q = absurd (q.0 p)
why-one table TooDeep TooLong p q = absurd (p.0 q)
why-one table TooDeep TooDeep p q = refl
why-one table TooDeep TooMany p q = absurd (q.1 p.1)
why-one table TooMany TooLong p q = absurd (p.0 q)
why-one table TooMany TooDeep p q = absurd (p.1 q.1)
why-one table TooMany TooMany p q = refl

-- where there is none of them
pub nothing_refuses : (table : Table) → ¬ IsTooLong table → ¬ IsTooDeep table → ¬ (last_number < table.params) → (why : SaveWhy)
    → ¬ RefusesWriting table why
nothing_refuses table short low few TooLong is = short is
nothing_refuses table short low few TooDeep is = low is.1
nothing_refuses table short low few TooMany is = few is.2

-- some item is such, or none is
any-or-none : {A : Type 0} (P : A → Type 0) → ((a : A) → P a ⊎ (¬ P a)) → (xs : List A) → Any P xs ⊎ (¬ Any P xs)
any-or-none P decide [] = inr (λ (k, z, below, is, p). omega (arith, below))
any-or-none P decide (x ∷ xs) = elim (decide x) [
  | inl p ↦ inl (0, x, omega arith, refl, p)
  | inr lacks ↦ elim (any-or-none P decide xs) [
    | inl r ↦ inl (suc r.0, r.1, omega (arith, r.2), r.3, r.4)
    | inr none ↦ inr (neither lacks none)
  ]
]
  where
    neither : ¬ P x → ¬ Any P xs → ¬ Any P (x ∷ xs)
    neither lacks none (zero, z, below, is, p) = lacks (subst P (sym is) p)
    neither lacks none (suc k, z, below, is, p) = none (k, z, omega (arith, below), is, p)

above-or-not : (n m : ℕ) → (n < m) ⊎ (¬ (n < m))
above-or-not n m = grind arith

high-or-not : (d : Derivation) → (most_proof_height < height d) ⊎ (¬ (most_proof_height < height d))
high-or-not d = above-or-not most_proof_height (height d)

deep-or-not : (table : Table) → IsTooDeep table ⊎ (¬ IsTooDeep table)
deep-or-not table =
    any-or-none (Any (λ d. most_proof_height < height d)) (any-or-none (λ d. most_proof_height < height d) high-or-not) (rows_of table.proofs)

pub cause-or-none : (table : Table) → ((why : SaveWhy) × RefusesWriting table why) ⊎ MayBeWritten table
cause-or-none table = elim (above-or-not most_steps (length table.steps)) [
  | inl long ↦ inl (TooLong, long)
  | inr short ↦ elim (deep-or-not table) [
    | inl deep ↦ inl (TooDeep, (short, deep))
    | inr low ↦ elim (above-or-not last_number table.params) [
      | inl many ↦ inl (TooMany, (short, low, many))
      | inr few ↦ inr (nothing_refuses table short low few)
    ]
  ]
]

-- ---- tables that have no cause

-- where none is otherwise, all are so
all-so : {A : Type 0} (P Q : A → Type 0) → ((a : A) → ¬ Q a → P a) → (xs : List A) → ¬ Any Q xs → All P xs
all-so P Q so xs none = All-each P xs (λ a has. so a (λ bad. none (has.0, a, has.1, has.2, bad)))

low-proofs : (table : Table) → ¬ IsTooDeep table → All (All (λ d. height d ≤ 56)) (rows_of table.proofs)
low-proofs table low =
    all-so (All (λ d. height d ≤ 56)) (Any (λ d. 56 < height d))
    (all-so (λ d. height d ≤ 56) (λ d. 56 < height d) (λ d none. grind (arith, none))) (rows_of table.proofs) low

any-writable : (problem : Problem) (old : SessionState) → HasWritableTables problem old → (name : ℕ) (table : Table)
    → any_table old name ≡ Some table → IsWritable problem table
any-writable problem old written name table named = by (table_named old.plans name) refl named
  where
    by : (plan : Option Table) → table_named old.plans name ≡ plan → first_table plan (table_named old.learned name) ≡ Some table
        → IsWritable problem table
    by None at other = All-at (IsWritable problem) old.learned.tables table written.learned
        (table-there old.learned.names old.learned.tables name table other)
    by (Some plan) at same = All-at (IsWritable problem) old.plans.tables table written.plans
        (table-there old.plans.names old.plans.tables name table (at ∙ same))

-- what the causes say of such a table
pub record HasNoCause (table : Table) : Type 0 where
  pub short : ¬ IsTooLong table
  pub low : ¬ IsTooDeep table
  pub few : ¬ (last_number < table.params)

pub no-cause : (table : Table) → MayBeWritten table → HasNoCause table
no-cause table allowed = record {
  short = allowed TooLong;
  low = λ deep. allowed TooDeep (allowed TooLong, deep);
  few = λ many. allowed TooMany (allowed TooLong, (λ deep. allowed TooDeep (allowed TooLong, deep)), many);
}

module _ (problem : Problem) (old : SessionState) (session : IsSession problem old) (written : HasWritableTables problem old)
    (name : ℕ) (table : Table) (named : any_table old name ≡ Some table) (none : HasNoCause table) where
  abbrev aim : IsWritable problem table
  aim = any-writable problem old written name table named

  pub in-block : IsSavedTable 2 problem table
  in-block = record {
    is_one = (tables_are_decided problem table).1 (any-right problem old session.plans session.learned name table named);
    short = grind (arith, none.short);
    low = low-proofs table none.low;
    few_parameters = grind (arith, none.few);
    some = aim.some;
    few_atoms = aim.few_atoms;
    few_variables = aim.few_variables;
    last_occurs = aim.last_occurs;
    sorts = aim.sorts;
    no_objects = aim.no_objects;
  }

  pub certifiable : IsValid problem → IsCertifiableProblem problem → IsCertifiable problem table
  certifiable valid limits = record {
    valid = valid;
    table_is = any-right problem old session.plans session.learned name table named;
    objects = limits.objects;
    sorts = limits.sorts;
    predicates = limits.predicates;
    operators = limits.operators;
    params = grind (arith, none.few);
    steps = grind (arith, none.short);
    goal = (aim.few_variables, aim.few_atoms);
    low = low-proofs table none.low;
  }
