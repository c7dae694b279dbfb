-- Counts of one reply more.
use Rattle.std.proofs.Common.{◌≡◌, ℕ, ◌+◌, ◌-◌, ◌≤◌, suc, List, [], ◌∷◌, ◌++◌, length, refl, sym, ap, ◌∙◌, subst, arith}
use Rattle.std.specs.Prelude.{false, cond, sum_by, None, Some, slice_get, Result, Ok, Err, IfOk}
use Rattle.std.proofs.lemmas.List.{take_all}
use Rattle.std.proofs.lemmas.List.Sums.{sum_by-append}
use Rattle.px_printer.specs.declared.reply.Reply.{Reply}
use Rattle.px_printer.specs.declared.turn.Turn.{Turn}
use Rattle.px_script.specs.declared.command.Command.{Command}
use Rattle.px_session.specs.Demo.{ends_in_goal, is_goal, is_plan, reaches_goal, step_count}
use Rattle.px_session.specs.Opened.{SessionValue}
use Rattle.px_session.specs.Transcripts.{AreAnswers}
use Rattle.px_run.specs.Answers.{IsAnswerCount, IsAnswered}
use Rattle.px_run.specs.Sums.{HasMore, IsAnsweredBy, IsCountOf}
use Rattle.px_run.specs.declared.counts.Counts.{Counts}
use Rattle.px_run.proofs.AnswerLemmas.{IsSoFar}

-- ---- the last turn

pub ends_in_none : (turns : List Turn) → slice_get turns (length turns - 1) ≡ None → false ≡ ends_in_goal turns
ends_in_none [] none = refl
ends_in_none (turn ∷ []) none = absurd (some≢none turn none)
  where
    some≢none : (turn : Turn) → ¬ (Some turn ≡ None)
    some≢none turn is = cc
ends_in_none (turn ∷ next ∷ turns) none =
    let e : suc (length (next ∷ turns)) - 1 ≡ suc (length (next ∷ turns) - 1) = omega arith in
    ends_in_none (next ∷ turns) (ap (slice_get (turn ∷ next ∷ turns)) (sym e) ∙ none)

pub ends_in_last : (turns : List Turn) (last : Turn) → slice_get turns (length turns - 1) ≡ Some last
    → is_goal last.end ≡ ends_in_goal turns
ends_in_last [] last is = cc
ends_in_last (turn ∷ []) last is = let same : turn ≡ last = cc in ap (λ (t : Turn). is_goal t.end) (sym same)
ends_in_last (turn ∷ next ∷ turns) last is =
    let e : suc (length (next ∷ turns)) - 1 ≡ suc (length (next ∷ turns) - 1) = omega arith in
    ends_in_last (next ∷ turns) last (ap (slice_get (turn ∷ next ∷ turns)) (sym e) ∙ is)

-- ---- one reply more

pub count-start : IsCountOf [] (record { plans = 0; steps = 0; goals = 0 })
count-start = record { plans = refl; steps = refl; goals = refl }

sum-more : (f : Reply → ℕ) (answers : List Reply) (answer : Reply) → sum_by f answers + f answer ≡ sum_by f (answers ++ answer ∷ [])
sum-more f answers answer =
    let one : sum_by f (answer ∷ []) ≡ f answer = omega arith in
    ap (λ (n : ℕ). sum_by f answers + n) (sym one) ∙ sym (sum_by-append f answers (answer ∷ []))

pub count-more : (answers : List Reply) (answer : Reply) (counts more : Counts) → IsCountOf answers counts → HasMore counts answer more
    → IsCountOf (answers ++ answer ∷ []) more
count-more answers answer counts more so_far is = record {
  plans = is.plans ∙ ap (λ (n : ℕ). n + cond (is_plan answer) 1 0) so_far.plans
      ∙ sum-more (λ (a : Reply). cond (is_plan a) 1 0) answers answer;
  steps = is.steps ∙ ap (λ (n : ℕ). n + step_count answer) so_far.steps ∙ sum-more step_count answers answer;
  goals = is.goals ∙ ap (λ (n : ℕ). n + cond (reaches_goal answer) 1 0) so_far.goals
      ∙ sum-more (λ (a : Reply). cond (reaches_goal a) 1 0) answers answer;
}

-- the counts that a lawful reply leaves
pub answer-counts : {E : Type 0} (result : Result Counts E) (old new : SessionValue) (counts : Counts) (answer : Reply)
    → IsAnswered old answer new
    → IfOk result (λ more. more.plans ≡ counts.plans + cond (is_plan answer) 1 0)
    → IfOk result (λ more. more.steps ≡ counts.steps + step_count answer)
    → IfOk result (λ more. more.goals ≡ counts.goals + cond (reaches_goal answer) 1 0)
    → IfOk result (IsAnswerCount old new counts)
answer-counts (Ok more) old new counts answer is plans steps goals = (answer, is, record { plans = plans; steps = steps; goals = goals })
answer-counts (Err error) old new counts answer is plans steps goals = tt

pub answered-all : (old now : SessionValue) (place : ℕ) (answers : List Reply) → length old.commands ≤ place → IsSoFar old now place answers
    → IsAnsweredBy old answers
answered-all old now place answers all so_far = record {
  last = now.state;
  lawful = subst (λ (cs : List Command). AreAnswers old.problem old.state cs answers now.state)
      (take_all place old.commands all) so_far.lawful;
}
