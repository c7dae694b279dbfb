-- Learning has a lawful reply.
use Rattle.std.specs.Prelude.{◌≡◌, ◌⊎◌, ◌<◌, ◌≤◌, ℕ, Option, Some, None, List, [], ◌∷◌, length, slice_index_or, Any}
use Rattle.std.proofs.Common.{zero, suc, refl, sym, subst, inl, inr, arith}
use Rattle.px_terms.specs.declared.problem.Problem.{Problem}
use Rattle.px_terms.specs.Validity.{IsValid}
use Rattle.px_proof.specs.Derivation.{Derivation, height}
use Rattle.px_table.specs.Limits.{most_steps, most_tables}
use Rattle.px_table.specs.declared.table.Table.{Table}
use Rattle.px_table.specs.Tables.{rows_of}
use Rattle.px_replay.specs.FreshVariables.{fresh_variables}
use Rattle.px_unify.specs.declared.change.TheConstants.{MOST_VARIABLES}
use Rattle.px_general.specs.Limits.{IsTooDeep, IsTooLong, IsTooWide, most_proof_height}
use Rattle.px_general.proofs.ExistingGeneral.{generals_exist}
use Rattle.px_general.proofs.Reading.{less_or_not}
use Rattle.px_library.specs.Libraries.{table_named, with_table}
use Rattle.px_printer.specs.declared.reply.Reply.TheVariants as reply
use Rattle.px_printer.specs.declared.reply.Why.{Why}
use Rattle.px_printer.specs.declared.reply.Why.TheVariants.{TooLong, TooDeep, TooWide, Full}
use Rattle.px_script.specs.declared.command.Command.TheVariants as command
use Rattle.px_session.specs.Existing.{HasReply}
use Rattle.px_session.specs.Lawful.{RefusesLearning}
use Rattle.px_session.specs.Sessions.{IsSession, SessionState}
use Rattle.px_session.proofs.Learned.{allowed}
use Rattle.px_session.proofs.OneLearning.{plan-right}

-- ---- whether a plan is too deep

some-or-none : {X : Type 0} (P : X → Type 0) → ((x : X) → P x ⊎ (¬ P x)) → (xs : List X) → Any P xs ⊎ (¬ Any P xs)
some-or-none P decide [] = inr (λ has. omega (arith, has.2))
some-or-none P decide (x ∷ xs) = by (decide x) (some-or-none P decide xs)
  where
    neither : ¬ P x → ¬ Any P xs → (k : ℕ) (d : _) → k < length (x ∷ xs) → slice_index_or (x ∷ xs) k d ≡ d → ¬ P d
    neither not_here not_later zero d below is holds = not_here (subst P (sym is) holds)
    neither not_here not_later (suc k) d below is holds = not_later (k, d, omega (arith, below), is, holds)

    by : P x ⊎ (¬ P x) → Any P xs ⊎ (¬ Any P xs) → Any P (x ∷ xs) ⊎ (¬ Any P (x ∷ xs))
    by (inl here) later = inl (zero, x, omega arith, refl, here)
    by (inr not_here) (inl later) = inl (suc later.0, later.1, omega (arith, later.2), later.3, later.4)
    by (inr not_here) (inr not_later) = inr (λ has. neither not_here not_later has.0 has.1 has.2 has.3 has.4)

abbrev IsHigh : Derivation → Type 0
IsHigh d = most_proof_height < height d

high-or-not : (d : Derivation) → IsHigh d ⊎ (¬ IsHigh d)
high-or-not d = elim (less_or_not most_proof_height (height d)) [ inl high ↦ inl high | inr low ↦ inr (λ high. omega (arith, low, high)) ]

deep-or-not : (plan : Table) → IsTooDeep plan ⊎ (¬ IsTooDeep plan)
deep-or-not plan = some-or-none (Any IsHigh) (λ row. some-or-none IsHigh high-or-not row) (rows_of plan.proofs)

-- ---- the reply

module _ (problem : Problem) (old : SessionState) (valid : IsValid problem) (session : IsSession problem old) (name source : ℕ) where
  abbrev Learns : Type 0
  Learns = HasReply problem old (command.Learn name source)

  module _ (plan : Table) (named : table_named old.plans source ≡ Some plan) where
    refused-for : (why : Why) → RefusesLearning old plan why → Learns
    refused-for why refused =
        (reply.LearnRefused name why, (old, (refl, record { plan = plan; named = named; refused = refused; same = refl })))

    module _ (short : ¬ IsTooLong plan) (low : ¬ IsTooDeep plan) (narrow : ¬ IsTooWide plan) where
      learned-in : ¬ (most_tables ≤ length old.learned.tables) → Learns
      learned-in room =
          let right = plan-right problem old session source plan named in
          let general = generals_exist problem plan valid right.table right.no_params in (
            reply.Learned name general.0.params (length general.0.steps),
            (
              record old { learned = with_table old.learned name general.0 },
              (
                refl,
                record {
                  plan = plan;
                  named = named;
                  allowed = allowed old plan short low narrow room;
                  general = general.0;
                  generalises = general.1;
                  params_are = refl;
                  steps_are = refl;
                  learned = refl;
                },
              ),
            ),
          )

      by-room : Learns
      by-room = elim (less_or_not (length old.learned.tables) most_tables) [
        | inl room ↦ learned-in (λ full. omega (arith, room, full))
        | inr full ↦ refused-for Full (short, low, narrow, full)
      ]

    of-plan : Learns
    of-plan = elim (less_or_not most_steps (length plan.steps)) [
      | inl long ↦ refused-for TooLong long
      | inr few ↦ elim (deep-or-not plan) [
        | inl deep ↦ refused-for TooDeep ((λ long. omega (arith, few, long)), deep)
        | inr low ↦ elim (less_or_not MOST_VARIABLES (fresh_variables plan)) [
          | inl wide ↦ refused-for TooWide ((λ long. omega (arith, few, long)), low, wide)
          | inr narrow ↦ by-room (λ long. omega (arith, few, long)) low (λ wide. omega (arith, narrow, wide))
        ]
      ]
    ]

  pub learn-reply : Learns
  learn-reply = by (table_named old.plans source) refl
    where
      by : (found : Option Table) → table_named old.plans source ≡ found → Learns
      by None named = (reply.Unknown source, (old, (refl, named, refl)))
      by (Some plan) named = of-plan plan named
