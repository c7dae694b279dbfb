-- What unification says of one more tick.
use Rattle.std.proofs.Common.{◌≡◌, ◌↔◌, ◌⊎◌, ℕ, ◌+◌, ◌≤◌, Bool, Option, Some, None, List, [], ◌∷◌, ◌++◌, refl, ap, sym, ◌∙◌}
use Rattle.std.specs.Prelude.{IsSomeAnd}
use Rattle.px_proof.specs.Literals.{substitute_literal}
use Rattle.px_terms.specs.declared.term.Term.{Term}
use Rattle.px_terms.specs.declared.atom.Atom.{Atom}
use Rattle.px_proof.specs.declared.shape.Tick.{Tick}
use Rattle.px_unify.specs.declared.change.Change.{Change}
use Rattle.px_unify.specs.Changes.{Fits}
use Rattle.px_question.specs.Settings.{Setting}
use Rattle.px_question.specs.Answers.{object_terms}
use Rattle.px_proof_walk.specs.Pending.{Goal, Closing, Solves, open_after, closing_at, fresh_of, goals_of, IsFeasible}
use Rattle.px_proof_walk.proofs.Pushing.{solves-push, open_after-push}

-- the substitutions that fit the bindings are those under which the ticks close their places rightly
abbrev pub AreMatched : Bool → Setting → List Atom → ℕ → List Tick → List Change → Type 0
AreMatched loose s formula variable_count ticks changes = (tau : List Term) → Fits tau changes ↔ Solves loose s tau variable_count (goals_of s formula) ticks

module _ (loose : Bool) (s : Setting) (formula : List Atom) (variable_count last : ℕ) (goal : Goal) (goals : List Goal) (ticks : List Tick)
    (changes : List Change) (tick : Tick)
    (now : open_after loose s variable_count (goals_of s formula) ticks ≡ Some (record { variables = last; goals = goal ∷ goals }))
    (matched : AreMatched loose s formula variable_count ticks changes) where
  -- the literals agree under a substitution
  abbrev pub LitsAgree : List Term → Closing → Type 0
  LitsAgree tau closing = substitute_literal tau goal.lit ≡ substitute_literal tau closing.equal_to

  pub matched-push : (new : List Change) (closing : Closing) → closing_at loose s last goal tick ≡ Some closing
      → ((tau : List Term) → Fits tau new ↔ (Fits tau changes × LitsAgree tau closing))
      → AreMatched loose s formula variable_count (ticks ++ tick ∷ []) new
  matched-push new closing is agrees tau =
      let push = solves-push loose s tick goal goals last tau ticks variable_count (goals_of s formula) now in (
        λ fits. let both = (agrees tau).0 fits in push.1 ((matched tau).0 both.0, rw is both.1),
        λ solves. let both = push.0 solves in (agrees tau).1 ((matched tau).1 both.0, rw is at both.1),
      )

  -- where they never agree, or the tick is none for this goal, no list goes on by the tick
  pub infeasible-clash : (closing : Closing) → closing_at loose s last goal tick ≡ Some closing
      → ((tau : List Term) → Fits tau changes → ¬ LitsAgree tau closing) → ¬ IsFeasible loose s formula variable_count (ticks ++ tick ∷ [])
  infeasible-clash closing is never (p, after, (objects, enough, below, solves)) =
      let both = (solves-push loose s tick goal goals last (object_terms objects) ticks variable_count (goals_of s formula) now).0 solves in
      never (object_terms objects) ((matched (object_terms objects)).1 both.0) (rw is at both.1)

  pub infeasible-none : closing_at loose s last goal tick ≡ None → ¬ IsFeasible loose s formula variable_count (ticks ++ tick ∷ [])
  infeasible-none is (p, after, (objects, enough, below, solves)) =
      rw is at ((solves-push loose s tick goal goals last (object_terms objects) ticks variable_count (goals_of s formula) now).0 solves).1

  -- where some objects of the problem fit, the longer list is feasible
  pub feasible-push : (new : List Change) (closing : Closing) → closing_at loose s last goal tick ≡ Some closing
      → AreMatched loose s formula variable_count (ticks ++ tick ∷ []) new
      → ((objects : List ℕ) × (last + fresh_of s tick ≤ Rattle.std.proofs.Common.length objects)
      × Rattle.std.specs.Prelude.All (λ o. Rattle.std.proofs.Common.◌<◌ o s.objects) objects × Fits (object_terms objects) new)
      → IsFeasible loose s formula variable_count (ticks ++ tick ∷ [])
  feasible-push new closing is longer (objects, enough, below, fits) = (
    record { variables = last + fresh_of s tick; goals = closing.parts ++ goals },
    open_after-push loose s tick goal goals last ticks variable_count (goals_of s formula) closing now is,
    (objects, enough, below, (longer (object_terms objects)).0 fits),
  )
