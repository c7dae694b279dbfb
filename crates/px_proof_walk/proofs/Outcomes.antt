-- What the ends of the walk say of the formula: the first finished list, that there is none, the limit.
use Rattle.std.proofs.Common.{◌≡◌, ◌⊎◌, ℕ, Bool, false, Some, List, [], ◌∷◌, ◌++◌, length, map, refl, ap, sym, subst, ◌∙◌, inl, inr}
use Rattle.std.specs.Prelude.{Contains}
use Rattle.std.specs.List.{AllByRecursion}
use Rattle.std.proofs.lemmas.List.{length-map}
use Rattle.std.proofs.lemmas.List.Elements.{All-contains, All-from_recursion}
use Rattle.px_terms.specs.declared.atom.Atom.{Atom}
use Rattle.px_proof.specs.declared.shape.Tick.{Tick}
use Rattle.px_proof.specs.Derivation.{Derivations}
use Rattle.px_base.specs.Answers.{some_same}
use Rattle.px_proof.specs.PlaceLaws.{Contains-mapped}
use Rattle.px_proof.specs.Shapes.{ticks_of, ShapeBefore}
use Rattle.px_question.specs.Answers.{IsList, IsAnswer, IsFirst, object_terms, all_choices_of, AtMost}
use Rattle.px_question.specs.Limits.{AreFewBefore, AreFewShapes, AreFirstShapes, IsLimited, IsPartialShape, IsAscending}
use Rattle.px_question.specs.Settings.{Setting, proofs_in}
use Rattle.px_proof_walk.specs.Pending.{Pending, Solves, open_after, goals_of}
use Rattle.px_proof_walk.specs.Possible.{IsPossible, IsFinished, shape_of, rules_for}
use Rattle.px_proof_walk.specs.Scope.{IsSetting, IsAtomIn}
use Rattle.px_proof_walk.specs.Search.{ComesFirst, NoneComes, LimitComes}
use Rattle.px_proof_walk.proofs.Bridge.{partial-from, partial-to, finished-ends, finished-possible}
use Rattle.px_proof_walk.proofs.Ordering.{shape_trichotomy}
use Rattle.px_proof_walk.proofs.Padding.{shape-before, unshape, finished-shape}

-- a list among unfinished ones is not finished
pub not_seen : {X : Type 0} (F : X → Type 0) (x : X) (seen : List X) → Contains seen x → AllByRecursion (λ y. ¬ F y) seen → ¬ F x
not_seen F x seen is_in unfinished = All-contains (λ y. ¬ F y) seen x (All-from_recursion (λ y. ¬ F y) seen unfinished) is_in

module _ (loose : Bool) (s : Setting) (valid : IsSetting s) (formula : List Atom) (variable_count : ℕ)
    (scoped : AllByRecursion (IsAtomIn s.objects variable_count) formula) where
  -- the shapes of the lists that were seen
  pub shapes-before : (seen : List (List Tick)) (other : List Tick) → IsPossible loose s formula variable_count other
      → AllByRecursion (λ ticks. ShapeBefore ticks other) seen
      → AllByRecursion (λ kept. ShapeBefore kept (shape_of loose s formula variable_count other)) (map (shape_of loose s formula variable_count) seen)
  shapes-before [] other possible before = tt
  shapes-before (ticks ∷ seen) other possible before =
      (shape-before loose s formula variable_count ticks other possible before.0, shapes-before seen other possible before.1)

  shapes-after : (ticks : List Tick) (seen : List (List Tick)) → AllByRecursion (IsPossible loose s formula variable_count) seen
      → AllByRecursion (ShapeBefore ticks) seen
      → AllByRecursion (ShapeBefore (shape_of loose s formula variable_count ticks)) (map (shape_of loose s formula variable_count) seen)
  shapes-after ticks [] possible before = tt
  shapes-after ticks (other ∷ seen) possible before =
      (shape-before loose s formula variable_count ticks other possible.0 before.0, shapes-after ticks seen possible.1 before.1)

  shapes-ascend : (seen : List (List Tick)) → AllByRecursion (IsPossible loose s formula variable_count) seen → IsAscending seen
      → IsAscending (map (shape_of loose s formula variable_count) seen)
  shapes-ascend [] possible up = tt
  shapes-ascend (ticks ∷ seen) possible up = (shapes-after ticks seen possible.1 up.0, shapes-ascend seen possible.1 up.1)

  shapes-partial : (seen : List (List Tick)) → AllByRecursion (IsPossible loose s formula variable_count) seen
      → AllByRecursion (λ ticks. ¬ IsFinished loose s formula variable_count ticks) seen
      → AllByRecursion (IsPartialShape (rules_for loose s) s formula variable_count) (map (shape_of loose s formula variable_count) seen)
  shapes-partial [] possible unfinished = tt
  shapes-partial (ticks ∷ seen) possible unfinished = (
    partial-to loose s valid formula variable_count scoped (shape_of loose s formula variable_count ticks) ticks refl possible.0 unfinished.0,
    shapes-partial seen possible.1 unfinished.1,
  )

  -- the first lists that are seen give the first shapes
  pub first_shapes : (seen : List (List Tick)) → IsAscending seen → AllByRecursion (IsPossible loose s formula variable_count) seen
      → AllByRecursion (λ ticks. ¬ IsFinished loose s formula variable_count ticks) seen
      → ((other : List Tick) → IsPossible loose s formula variable_count other → ¬ IsFinished loose s formula variable_count other
      → Contains seen other ⊎ AllByRecursion (λ ticks. ShapeBefore ticks other) seen)
      → AreFirstShapes (IsPartialShape (rules_for loose s) s formula variable_count) (map (shape_of loose s formula variable_count) seen)
  first_shapes seen up possible unfinished first = record {
    ascending = shapes-ascend seen possible up;
    each =
        All-from_recursion (IsPartialShape (rules_for loose s) s formula variable_count) (map (shape_of loose s formula variable_count) seen)
        (shapes-partial seen possible unfinished);
    first = λ shape partial.
        let from = partial-from loose s valid formula variable_count scoped shape partial in
        elim (first from.0 from.2 from.3) [
          | inl is_in ↦ inl (rw from.1 (Contains-mapped (shape_of loose s formula variable_count) seen from.0 is_in))
          | inr before ↦ inr (All-from_recursion (λ kept. ShapeBefore kept shape) (map (shape_of loose s formula variable_count) seen)
              (rw from.1 (shapes-before seen from.0 from.2 before)))
        ];
  }

module _ (s : Setting) (valid : IsSetting s) (formula : List Atom) (variable_count : ℕ)
    (scoped : AllByRecursion (IsAtomIn s.objects variable_count) formula) where
  -- the ends of the walk are those of the definitions
  pub first-is : (ticks : List Tick) (objects : List ℕ) (ps : Derivations)
      → ComesFirst (IsPossible false s formula variable_count) (IsFinished false s formula variable_count) s.limit ticks
      → IsList (proofs_in s) s formula variable_count objects ps → ticks_of ps ≡ ticks
      → ((others : List ℕ) → Solves false s (object_terms others) variable_count (goals_of s formula) ticks
      → length others ≡ length (objects ++ all_choices_of ps) → AtMost (objects ++ all_choices_of ps) others)
      → IsFirst s formula variable_count objects ps
  first-is ticks objects ps first is ticks_are least = record {
    finished = is;
    least = λ others qs other.
        let possible = finished-possible false s valid formula variable_count scoped others qs other in
        go others qs other (shape_trichotomy ticks (ticks_of qs)) possible;
  }
    where
      same_count : (others : List ℕ) (qs : Derivations) → IsList (proofs_in s) s formula variable_count others qs → ticks ≡ ticks_of qs
          → length (others ++ all_choices_of qs) ≡ length (objects ++ all_choices_of ps)
      same_count others qs other e =
          let same : Some (record { variables = length (others ++ all_choices_of qs); goals = [] })
          ≡ Some (record { variables = length (objects ++ all_choices_of ps); goals = [] }) =
          sym (finished-ends false s valid formula variable_count scoped others qs other)
          ∙ ap (λ ts. open_after false s variable_count (goals_of s formula) ts) (sym e ∙ sym ticks_are)
          ∙ finished-ends false s valid formula variable_count scoped objects ps is in
          ap (λ (p : Pending). p.variables) (some_same same)

      go : (others : List ℕ) (qs : Derivations) → IsList (proofs_in s) s formula variable_count others qs
          → ShapeBefore ticks (ticks_of qs) ⊎ (ticks ≡ ticks_of qs) ⊎ ShapeBefore (ticks_of qs) ticks
          → IsPossible false s formula variable_count (ticks_of qs) × IsFinished false s formula variable_count (ticks_of qs)
          × Solves false s (object_terms (others ++ all_choices_of qs)) variable_count (goals_of s formula) (ticks_of qs)
          → ShapeBefore (ticks_of ps) (ticks_of qs)
          ⊎ ((ticks_of ps ≡ ticks_of qs) × AtMost (objects ++ all_choices_of ps) (others ++ all_choices_of qs))
      go others qs other (inl h) possible = inl (rw ticks_are h)
      go others qs other (inr (inl e)) possible =
          inr (ticks_are ∙ e, least (others ++ all_choices_of qs) (rw e possible.2) (same_count others qs other e))
      go others qs other (inr (inr h)) possible =
          absurd (not_seen (IsFinished false s formula variable_count) (ticks_of qs) first.few.0
          (first.few.2.covers (ticks_of qs) possible.0 h) first.few.2.unfinished possible.1)

  pub none-unprovable : NoneComes (IsPossible false s formula variable_count) (IsFinished false s formula variable_count) s.limit → ¬ IsAnswer s formula variable_count
  none-unprovable ends (objects, ps, is) =
      let possible = finished-possible false s valid formula variable_count scoped objects ps is in
      not_seen (IsFinished false s formula variable_count) (ticks_of ps) ends.few.0 (ends.few.4 (ticks_of ps) possible.0) ends.few.3 possible.1

  pub limit-is : (seen : List (List Tick)) → LimitComes (IsPossible false s formula variable_count) (IsFinished false s formula variable_count) s.limit seen
      → IsLimited s formula variable_count (map (shape_of false s formula variable_count) seen)
  limit-is seen limit = record {
    count = length-map seen (shape_of false s formula variable_count) ∙ limit.count;
    kept =
        first_shapes false s valid formula variable_count scoped seen limit.ascending limit.possible limit.unfinished
        (λ other possible unfinished. limit.first other possible);
    before = λ objects ps is.
        let possible = finished-possible false s valid formula variable_count scoped objects ps is in
        elim (limit.first (ticks_of ps) possible.0) [
          | inl is_in ↦ absurd (not_seen (IsFinished false s formula variable_count) (ticks_of ps) seen is_in limit.unfinished possible.1)
          | inr before ↦ All-from_recursion (λ shape. ShapeBefore shape (ticks_of ps)) (map (shape_of false s formula variable_count) seen)
              (subst (λ (ts : List Tick). AllByRecursion (λ kept. ShapeBefore kept ts) (map (shape_of false s formula variable_count) seen))
              (finished-shape false s formula variable_count (ticks_of ps) possible.1)
              (shapes-before false s valid formula variable_count scoped seen (ticks_of ps) possible.0 before))
        ];
  }

  -- so the shapes before it are fewer than the limit
  pub first-few : (ticks : List Tick) (ds : Derivations)
      → ComesFirst (IsPossible false s formula variable_count) (IsFinished false s formula variable_count) s.limit ticks → ticks_of ds ≡ ticks
      → AreFewBefore s formula variable_count ds
  first-few ticks ds first ticks_are = record {
    seen = map (shape_of false s formula variable_count) first.few.0;
    fewer = rw (length-map first.few.0 (shape_of false s formula variable_count)) first.few.1;
    all = λ shape partial.
        let from = partial-from false s valid formula variable_count scoped shape partial.0 in
        let before : ShapeBefore (shape_of false s formula variable_count from.0) (shape_of false s formula variable_count ticks) =
        subst (λ (ts : List Tick). ShapeBefore (shape_of false s formula variable_count from.0) ts)
        (ticks_are ∙ sym (finished-shape false s formula variable_count ticks first.finished))
        (subst (λ (ts : List Tick). ShapeBefore ts (ticks_of ds)) from.1 partial.1) in
        subst (Contains (map (shape_of false s formula variable_count) first.few.0)) (sym from.1)
        (Contains-mapped (shape_of false s formula variable_count) first.few.0 from.0
        (first.few.2.covers from.0 from.2 (unshape false s formula variable_count from.0 ticks from.2 first.possible before)));
  }

  -- and all shapes are, where none is finished
  pub none-few : NoneComes (IsPossible false s formula variable_count) (IsFinished false s formula variable_count) s.limit → AreFewShapes s formula variable_count
  none-few ends = record {
    seen = map (shape_of false s formula variable_count) ends.few.0;
    fewer = rw (length-map ends.few.0 (shape_of false s formula variable_count)) ends.few.1;
    all = λ shape partial.
        let from = partial-from false s valid formula variable_count scoped shape partial in
        subst (Contains (map (shape_of false s formula variable_count) ends.few.0)) (sym from.1)
        (Contains-mapped (shape_of false s formula variable_count) ends.few.0 from.0 (ends.few.4 from.0 from.2));
  }
