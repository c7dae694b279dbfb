-- What the bindings at the end of the walk answer.
use Rattle.std.proofs.Common.{◌≡◌, ◌∙◌, ℕ, ◌<◌, ◌≤◌, Bool, true, List, length, map, take, replicate, refl, ap, sym, arith}
use Rattle.std.specs.Prelude.{◌↔◌, All, Contains, slice_index}
use Rattle.px_terms.specs.declared.atom.Atom.{Atom}
use Rattle.px_proof.specs.declared.shape.Tick.{Tick}
use Rattle.px_unify.specs.declared.change.Change.{Change}
use Rattle.px_unify.specs.Changes.{HasSolutions, variables_of}
use Rattle.px_question.specs.Answers.{object_terms}
use Rattle.px_question.specs.Settings.{Setting}
use Rattle.px_proof_walk.specs.GapAtoms.{gap_atoms, variables_in, Gives}
use Rattle.px_terms.specs.Substitution.{substitute_atom}
use Rattle.px_proof_walk.specs.Pending.{Solves, goals_of, open_after}
use Rattle.px_proof_walk.specs.Possible.{IsFinished, IsPossible}
use Rattle.px_proof_walk.specs.Values.{AreValuesOfChanges}
use Rattle.px_proof_walk.proofs.Attempts.{AreMatched}
use Rattle.px_proof_walk.proofs.Values.{values-below, values-fit, values-same, zero_at}

module _ (loose : Bool) (s : Setting) (formula : List Atom) (variable_count : ℕ) (ticks : List Tick)
    (possible : IsPossible loose s formula variable_count ticks) where
  -- how many variables there are after the ticks
  abbrev pub count_of : ℕ
  count_of = variables_in (open_after loose s variable_count (goals_of s formula) ticks)

  module _ (changes : List Change) (matched : AreMatched loose s formula variable_count ticks changes) (solvable : HasSolutions changes)
      (count : variables_of changes ≡ count_of) where
    -- whatever objects of the problem are chosen, the values that the bindings then give solve
    pub values-solve : (chosen values : List ℕ) → length chosen ≡ variables_of changes
        → ((v : ℕ) → v < variables_of changes → slice_index chosen v < s.objects) → AreValuesOfChanges changes chosen values
        → All (λ n. n < s.objects) values × Solves loose s (object_terms values) variable_count (goals_of s formula) ticks
        × (length values ≡ count_of)
    values-solve chosen values long below are =
        let enough : variables_of changes ≤ length possible.1.2.0 = omega (arith, count, ap variables_in possible.1.1, possible.1.2.1) in
        let fits = (matched (object_terms possible.1.2.0)).1 possible.1.2.3 in (
          values-below changes chosen values are s.objects possible.1.2.0 enough possible.1.2.2 fits below,
          (matched (object_terms values)).0 (values-fit changes chosen values are solvable long),
          are.count ∙ count,
        )

    -- where there is a variable, there is an object
    pub zero-below : (n v : ℕ) → v < variables_of changes → slice_index (replicate n 0) v < s.objects
    zero-below n v within =
        let inside : v < length possible.1.2.0 = omega (arith, within, count, ap variables_in possible.1.1, possible.1.2.1) in
        omega (arith, zero_at n v, possible.1.2.2 v 0 inside)

module _ (s : Setting) (formula : List Atom) (variable_count : ℕ) (ticks : List Tick) (possible : IsPossible true s formula variable_count ticks)
    (finished : IsFinished true s formula variable_count ticks) (changes : List Change)
    (matched : AreMatched true s formula variable_count ticks changes) (solvable : HasSolutions changes)
    (count : variables_of changes ≡ variables_in (open_after true s variable_count (goals_of s formula) ticks)) where
  -- the atoms that the ticks close by gaps, under the values
  abbrev pub missing_under : List ℕ → List Atom
  missing_under values = map (substitute_atom (object_terms values)) (gap_atoms true s variable_count (goals_of s formula) ticks)

  -- whatever objects of the problem are chosen, the finished list gives the gap list of the values
  pub values-give : (chosen values : List ℕ) (gaps : List Atom) → length chosen ≡ variables_of changes
      → ((v : ℕ) → v < variables_of changes → slice_index chosen v < s.objects) → AreValuesOfChanges changes chosen values
      → ((atom : Atom) → Contains gaps atom ↔ Contains (missing_under values) atom) → Gives s formula variable_count ticks (take variable_count values) gaps
  values-give chosen values gaps long below are same =
      let solved = values-solve true s formula variable_count ticks possible changes matched solvable count chosen values long below are in
      (possible, finished, (values, record { count = solved.2; below = solved.0; solves = solved.1; chosen = refl; same = same }))

  -- and it gives no other: the values are those that the bindings give where they are chosen themselves
  pub given-values : (objects : List ℕ) (gaps : List Atom) → Gives s formula variable_count ticks objects gaps
      → (values : List ℕ) × (length values ≡ variables_of changes) × All (λ n. n < s.objects) values × (objects ≡ take variable_count values)
      × ((atom : Atom) → Contains gaps atom ↔ Contains (missing_under values) atom)
      × ((others : List ℕ) → AreValuesOfChanges changes values others → others ≡ values)
  given-values objects gaps (was_possible, was_finished, (values, gives)) =
      let long : length values ≡ variables_of changes = gives.count ∙ sym count in (
        values,
        long,
        gives.below,
        gives.chosen,
        gives.same,
        λ others are. values-same changes values others are long ((matched (object_terms values)).1 gives.solves),
      )
