-- What holds between attempts goes on to hold.
use Rattle.std.proofs.Common.{◌≡◌, ℕ, ◌+◌, Bool, true, false, Some, List, [], ◌∷◌, ◌++◌, refl, arith}
use Rattle.px_terms.specs.declared.atom.Atom.{Atom}
use Rattle.px_terms.specs.declared.clause.Lit.{Lit}
use Rattle.px_proof.specs.declared.shape.Tick.{Tick}
use Rattle.px_unify.specs.Changes.{variables_of}
use Rattle.px_question.specs.Settings.{Setting}
use Rattle.px_proof_walk.specs.Pending.{Goal, open_after, closing_at, fresh_of, goals_of, IsFeasible}
use Rattle.px_proof_walk.proofs.Pushing.{open_after-push}
use Rattle.px_proof_walk.proofs.Attempts.{matched-push, infeasible-clash}
use Rattle.px_proof_state.specs.Arena.{goals_at}
use Rattle.px_proof_state.specs.States.{ProofStateValue, Stands}
use Rattle.px_proof_state.specs.Matches.{ClosesBy}

module _ (loose : Bool) (s : Setting) (formula : List Atom) (variable_count : ℕ) (ticks : List Tick) (old new : ProofStateValue)
    (stands : Stands loose s formula variable_count ticks old)
    (tick : Tick) (goal : Goal) (goals : List Goal) (lit : Lit) (next : ℕ) (open_is : goals_at old.goals old.first ≡ goal ∷ goals)
    (rest_is : goals_at old.goals next ≡ goals)
    (is : closing_at loose s (variables_of old.changes) goal tick ≡ Some (record { equal_to = lit; parts = [] }))
    (none_fresh : fresh_of s tick ≡ 0) where
  now : open_after loose s variable_count (goals_of s formula) ticks ≡ Some (record { variables = variables_of old.changes; goals = goal ∷ goals })
  now = rw (← open_is) stands.pending

  -- a closing without parts that succeeds leaves the state of the longer list
  pub stands-closed : ClosesBy old new tick goal.lit lit next true → Stands loose s formula variable_count (ticks ++ tick ∷ []) new
  stands-closed closes =
      let pushed = closes.pushed refl in
      let variables : variables_of old.changes + fresh_of s tick ≡ variables_of new.changes =
      rw (none_fresh, (closes.is_match.grows refl).variables) (omega arith) in
      let rest : goals_at new.goals new.first ≡ goals = rw pushed rest_is in
      record {
        pending =
            rw (rest, ← variables) (open_after-push loose s tick goal goals (variables_of old.changes) ticks variable_count (goals_of s formula)
            (record { equal_to = lit; parts = [] }) now is);
        matched =
            matched-push loose s formula variable_count (variables_of old.changes) goal goals ticks old.changes tick now stands.matched new.changes
            (record { equal_to = lit; parts = [] }) is (closes.is_match.agree refl);
      }

  -- one that fails shows that no list goes on by the tick
  pub none-closed : ClosesBy old new tick goal.lit lit next false → ¬ IsFeasible loose s formula variable_count (ticks ++ tick ∷ [])
  none-closed closes =
      infeasible-clash loose s formula variable_count (variables_of old.changes) goal goals ticks old.changes tick now stands.matched
      (record { equal_to = lit; parts = [] }) is (closes.is_match.never refl)
