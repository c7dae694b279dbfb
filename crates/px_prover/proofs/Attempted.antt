-- What attempts at facts, ancestors and axioms say of longer lists of ticks.
use Rattle.std.proofs.Common.{◌≡◌, ℕ, zero, suc, ◌+◌, ◌<◌, ◌≤◌, Bool, Option, Some, None, List, [], ◌∷◌, ◌++◌, length, map, get_or, slice_get, refl, ap, sym, ◌∙◌, arith}
use Rattle.std.specs.Prelude.{All}
use Rattle.std.specs.List.{AllByRecursion}
use Rattle.std.proofs.lemmas.List.Elements.{All-from_recursion}
use Rattle.px_terms.specs.Language.{IsObject, substitute, IsObjectBelow}
use Rattle.px_proof.specs.Literals.{substitute_literal, complement_of, positive_of}
use Rattle.px_proof.specs.Proves.{IsObjectOrParameter}
use Rattle.px_terms.specs.declared.term.Term.{Term}
use Rattle.px_terms.specs.declared.term.Term.TheVariants.{Obj, Var, Any}
use Rattle.px_terms.specs.declared.atom.Atom.{Atom}
use Rattle.px_terms.specs.declared.clause.Lit.{Lit}
use Rattle.px_base.specs.Answers.{some_same}
use Rattle.px_proof.specs.declared.shape.Tick.{Tick}
use Rattle.px_proof.specs.declared.shape.Tick.TheVariants.{Fact, Anc}
use Rattle.px_unify.specs.Changes.{variables_of}
use Rattle.px_question.specs.Settings.{Setting}
use Rattle.px_question.specs.Answers.{object_terms}
use Rattle.px_proof_walk.specs.Pending.{Goal, Pending, open_after, closing_at, goals_of, IsFeasible}
use Rattle.px_proof_walk.specs.Scope.{IsSetting, IsLitIn}
use Rattle.px_proof_walk.proofs.Pushing.{solves-push, open_after-push}
use Rattle.px_proof_state.specs.declared.open.OpenGoal.{OpenGoal}
use Rattle.px_proof_state.specs.Arena.{goals_at}
use Rattle.px_proof_state.specs.States.{ProofStateValue, Stands}
use Rattle.px_proof_state.specs.Ranges.{NeverFact, ComesFact}
use Rattle.px_proof_state.specs.Ancestors.{NeverAncestor, ComesAncestor}
use Rattle.px_prover.proofs.StepTurns.{none-at, none-agree}
use Rattle.px_prover.proofs.Turns.{stands-closed}

-- under objects of the problem each term of a goal is one of them
term-object : (objects : ℕ) (chosen : List ℕ) (n : ℕ) → n ≤ length chosen → All (λ o. o < objects) chosen → (t : Term)
    → IsObjectOrParameter objects n t
    → IsObjectBelow objects (substitute (object_terms chosen) t)
term-object objects chosen n enough below (Obj o) within = within
term-object objects chosen n enough below Any within = within
term-object objects chosen n enough below (Var v) within = go chosen v below (omega (arith, within, enough))
  where
    go : (chosen : List ℕ) (v : ℕ) → All (λ o. o < objects) chosen → v < length chosen
        → IsObjectBelow objects (get_or (object_terms chosen) v Any)
    go [] v below inside = absurd (omega (arith, inside))
    go (o ∷ chosen) zero below inside = below 0 o (omega arith)
    go (o ∷ chosen) (suc v) below inside = go chosen v (λ k e has. below (suc k) e (omega (arith, has))) (omega (arith, inside))

args-objects : (objects : ℕ) (chosen : List ℕ) (n : ℕ) → n ≤ length chosen → All (λ o. o < objects) chosen → (ts : List Term)
    → AllByRecursion (IsObjectOrParameter objects n) ts → AllByRecursion (IsObjectBelow objects) (map (substitute (object_terms chosen)) ts)
args-objects objects chosen n enough below [] within = tt
args-objects objects chosen n enough below (t ∷ ts) within =
    (term-object objects chosen n enough below t within.0, args-objects objects chosen n enough below ts within.1)

ground-same : (tau : List Term) (ts : List Term) → AllByRecursion IsObject ts → map (substitute tau) ts ≡ ts
ground-same tau [] ground = refl
ground-same tau (Obj o ∷ ts) ground = ap (λ ys. Obj o ∷ ys) (ground-same tau ts ground.1)
ground-same tau (Var v ∷ ts) ground = absurd ground.0
ground-same tau (Any ∷ ts) ground = absurd ground.0

module _ (loose : Bool) (s : Setting) (valid : IsSetting s) (formula : List Atom) (variable_count : ℕ) (ticks : List Tick) (old new : ProofStateValue)
    (stands : Stands loose s formula variable_count ticks old)
    (g : OpenGoal) (goal : Goal) (goals : List Goal) (open_is : goals_at old.goals old.first ≡ goal ∷ goals)
    (rest_is : goals_at old.goals g.next ≡ goals) (lit_is : g.lit ≡ goal.lit) where
  now : open_after loose s variable_count (goals_of s formula) ticks ≡ Some (record { variables = variables_of old.changes; goals = goal ∷ goals })
  now = rw (← open_is) stands.pending

  -- a fact that closes the goal leaves what stands
  pub fact-stands : (k : ℕ) → ComesFact s.objects s.facts old g k new → Stands loose s formula variable_count (ticks ++ Fact k ∷ []) new
  fact-stands k (fact, at, below, closes) =
      let is : closing_at loose s (variables_of old.changes) goal (Fact k) ≡ Some (record { equal_to = positive_of fact; parts = [] }) =
      rw at refl in
      stands-closed loose s formula variable_count ticks old new stands (Fact k) goal goals (positive_of fact) g.next open_is rest_is is refl
      (rw lit_is at closes)

  pub ancestor-stands : (k : ℕ) → ComesAncestor goal.path old g k new → Stands loose s formula variable_count (ticks ++ Anc k ∷ []) new
  ancestor-stands k (above, at, closes) =
      let is : closing_at loose s (variables_of old.changes) goal (Anc k) ≡ Some (record { equal_to = complement_of above; parts = [] }) =
      rw at refl in
      stands-closed loose s formula variable_count ticks old new stands (Anc k) goal goals (complement_of above) g.next open_is rest_is is refl
      (rw lit_is at closes)

  -- and one that never does leads nowhere
  pub ancestor-nowhere : (k : ℕ) → NeverAncestor goal.path old g k → ¬ IsFeasible loose s formula variable_count (ticks ++ Anc k ∷ [])
  ancestor-nowhere k never = go (slice_get goal.path k) refl
    where
      go : (o : Option Lit) → slice_get goal.path k ≡ o → ¬ IsFeasible loose s formula variable_count (ticks ++ Anc k ∷ [])
      go None at = none-at loose s formula variable_count ticks old old stands (Anc k) goal goals open_is (rw at refl)
      go (Some above) at =
          none-agree loose s formula variable_count ticks old old stands (Anc k) goal goals open_is
          (record { equal_to = complement_of above; parts = [] }) (rw at refl) (rw lit_is at (never above at))

  -- a fact with other objects leads nowhere either
  pub fact-nowhere : IsLitIn s.objects (variables_of old.changes) goal.lit → (k : ℕ) → NeverFact s.objects s.facts old g k
      → ¬ IsFeasible loose s formula variable_count (ticks ++ Fact k ∷ [])
  fact-nowhere scope k never feasible = go (slice_get s.facts k) refl feasible
    where
      go : (o : Option Atom) → slice_get s.facts k ≡ o → ¬ IsFeasible loose s formula variable_count (ticks ++ Fact k ∷ [])
      go None at given = none-at loose s formula variable_count ticks old old stands (Fact k) goal goals open_is (rw at refl) given
      go (Some fact) at (p, after, (objects, enough, below, solves)) =
          let is : closing_at loose s (variables_of old.changes) goal (Fact k) ≡ Some (record { equal_to = positive_of fact; parts = [] }) =
          rw at refl in
          let pushed =
          open_after-push loose s (Fact k) goal goals (variables_of old.changes) ticks variable_count (goals_of s formula)
          (record { equal_to = positive_of fact; parts = [] }) now is in
          let count : p.variables ≡ variables_of old.changes + 0 = ap (λ (q : Pending). q.variables) (some_same (sym after ∙ pushed)) in
          let both =
          (solves-push loose s (Fact k) goal goals (variables_of old.changes) (object_terms objects) ticks variable_count
          (goals_of s formula) now).0 solves in
          let equal : substitute_literal (object_terms objects) goal.lit ≡ substitute_literal (object_terms objects) (positive_of fact) =
          rw is at both.1 in
          let args : map (substitute (object_terms objects)) goal.lit.atom.args ≡ fact.args =
          ap (λ (l : Lit). l.atom.args) equal ∙ ground-same (object_terms objects) fact.args (valid.facts k fact at) in
          let in_range : AllByRecursion (IsObjectBelow s.objects) fact.args =
          rw args at (args-objects s.objects objects (variables_of old.changes)
          (omega (arith, enough, count)) below goal.lit.atom.args scope) in
          (rw lit_is at (never fact at (All-from_recursion (IsObjectBelow s.objects) fact.args in_range))) (object_terms objects)
          ((stands.matched (object_terms objects)).1 both.0) equal
