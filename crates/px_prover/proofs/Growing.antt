-- A closing makes a sound state of the longer list, and keeps what was there.
use Rattle.std.proofs.Common.{◌≡◌, ℕ, ◌+◌, ◌≤◌, Bool, true, Some, List, [], ◌∷◌, ◌++◌, length, take, slice_get, refl, ap, sym, ◌∙◌, arith, length-append}
use Rattle.std.specs.Prelude.{All}
use Rattle.std.proofs.Math.Seq.{take-append_seam, take-length}
use Rattle.px_terms.specs.Limits.{most_formula_variables}
use Rattle.px_prover.specs.Tries.{IsReadyToTry, IsLonger}
use Rattle.px_prover.proofs.Ready.{ready-next}
use Rattle.px_proof.specs.Proves.{IsObjectOrParameter}
use Rattle.px_base.specs.Answers.{some_same}
use Rattle.px_proof.specs.declared.shape.Tick.{Tick}
use Rattle.px_proof.specs.declared.shape.Tick.TheVariants.{Fact}
use Rattle.px_question.proofs.RowLaws.{IsName-from_object}
use Rattle.px_terms.specs.Language.{IsObjectBelow}
use Rattle.px_question.specs.Settings.{Setting}
use Rattle.px_proof_state.specs.Matches.{ClosesBy}
use Rattle.px_proof_state.specs.Steps.{ClosesByStep}
use Rattle.px_proof_state.specs.States.{ProofStateValue, Stands}
use Rattle.px_proof_state.specs.declared.open.OpenGoal.{OpenGoal}
use Rattle.px_terms.specs.declared.atom.Atom.{Atom}
use Rattle.px_terms.specs.declared.clause.Clause.{Clause}
use Rattle.px_terms.specs.declared.clause.Lit.{Lit}
use Rattle.px_proof_walk.specs.Possible.{IsClosing}
use Rattle.px_proof_walk.proofs.Every.{all-push, all-recursion, all-weaker}
use Rattle.px_proof_walk.proofs.Objects.{FactIsIn}

-- a fact over the objects
pub fact-in : (s : Setting) (k : ℕ) (fact : Atom) → slice_get s.facts k ≡ Some fact → All (IsObjectBelow s.objects) fact.args
    → FactIsIn s (Fact k)
fact-in s k fact at below a is =
    let same : fact ≡ a = some_same (sym at ∙ is) in
    rw (← same) (all-weaker (IsObjectBelow s.objects) (IsObjectOrParameter s.objects 0) fact.args (IsName-from_object s.objects)
    (all-recursion (IsObjectBelow s.objects) fact.args below))

module _ (loose : Bool) (s : Setting) (formula : List Atom) (variable_count : ℕ) (ticks : List Tick) (old new : ProofStateValue) (goal : OpenGoal)
    (ready : IsReadyToTry loose s formula variable_count ticks old goal) (tick : Tick)
    (closes_place : IsClosing tick) (fact_is_in : FactIsIn s tick) (stands : Stands loose s formula variable_count (ticks ++ tick ∷ []) new) where
  more : length (ticks ++ tick ∷ []) ≡ length ticks + 1
  more = length-append ticks (tick ∷ [])

  -- a closing without parts
  pub longer-closed : (lit : Lit) → ClosesBy old new tick goal.lit lit goal.next true → IsLonger loose s formula variable_count ticks old tick new
  longer-closed lit closes =
      let pushed = closes.pushed refl in
      let goals_same : new.goals ≡ old.goals = ap (λ (v : ProofStateValue). v.goals) pushed in
      let first_is : new.first ≡ goal.next = ap (λ (v : ProofStateValue). v.first) pushed in
      let grows = closes.is_match.grows refl in
      record {
        sound = record {
          stands = stands;
          facts_in = all-push (FactIsIn s) ticks tick ready.sound.facts_in fact_is_in;
          closing = all-push IsClosing ticks tick ready.sound.closing closes_place;
          arena = rw goals_same ready.sound.arena;
          within = rw (goals_same, first_is) (ready-next loose s formula variable_count ticks old goal ready);
          solvable = closes.is_match.solvable refl;
          few = omega (arith, grows.variables, ready.sound.few, more);
        };
        chosen = ap (λ (v : ProofStateValue). v.choices) pushed;
        changes = grows.prefix;
        more_changes = grows.grown;
        goals = ap (take (length old.goals)) goals_same ∙ take-length old.goals;
        more_goals = rw goals_same (omega arith);
      }

  -- a closing by a clause
  pub longer-stepped : (clause : Clause) (place : ℕ) → clause.variable_count ≤ most_formula_variables
      → ClosesByStep old new tick goal clause place true
      → IsLonger loose s formula variable_count ticks old tick new
  longer-stepped clause place few closes =
      let grown = closes.grown refl in
      record {
        sound = record {
          stands = stands;
          facts_in = all-push (FactIsIn s) ticks tick ready.sound.facts_in fact_is_in;
          closing = all-push IsClosing ticks tick ready.sound.closing closes_place;
          arena = closes.arena refl ready.sound.arena;
          within = closes.older refl;
          solvable = closes.is_match.solvable refl;
          few = omega (arith, closes.is_match.variables refl, few, ready.sound.few, more);
        };
        chosen = closes.chosen refl;
        changes = closes.is_match.prefix refl;
        more_changes = closes.is_match.grown refl;
        goals = ap (take (length old.goals)) grown.1 ∙ take-append_seam old.goals grown.0;
        more_goals = rw grown.1 (omega (arith, length-append old.goals grown.0));
      }
