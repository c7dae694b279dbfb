-- The gaps of derivations are the atoms that the ticks close by gaps, under the objects.
use Rattle.std.proofs.Common.{◌≡◌, ◌∙◌, ℕ, zero, suc, ◌+◌, ◌≤◌, Bool, true, Option, Some, None, List, [], ◌∷◌, ◌++◌, length, map, take, drop, slice_get, refl, ap, sym, subst, arith, append_assoc, length-append}
use Rattle.std.specs.Prelude.{IsSomeAnd, nat_eq}
use Rattle.std.specs.List.{AllByRecursion, list_any}
use Rattle.std.proofs.Math.Seq.{drop-append_seam, take-append_seam}
use Rattle.std.proofs.lemmas.List.{length-map, map-append, take-append-drop}
use Rattle.px_terms.specs.declared.atom.Atom.{Atom}
use Rattle.px_terms.specs.declared.clause.Lit.{Lit}
use Rattle.px_terms.specs.declared.term.Term.{Term}
use Rattle.px_terms.specs.Substitution.{substitute_atom}
use Rattle.px_proof.specs.declared.shape.Tick.{Tick}
use Rattle.px_proof.specs.declared.shape.Tick.TheVariants.{Fact, Anc, Step, Gap, Open}
use Rattle.px_proof.specs.Derivation.{Derivations, fact, ancestor, step, gap, open_place, none, also}
use Rattle.px_proof.specs.Literals.{substitute_literal}
use Rattle.px_base.specs.Answers.{some_same}
use Rattle.px_proof.specs.Proves.{or_open, parts_of}
use Rattle.px_proof.specs.Shapes.{ticks, ticks_of}
use Rattle.px_terms.specs.Language.{object_of}
use Rattle.px_question.specs.Answers.{IsList, object_terms, all_choices_of, literals_of}
use Rattle.px_question.specs.Gaps.{gaps_of, all_gaps_of}
use Rattle.px_question.specs.Settings.{Setting}
use Rattle.px_proof_walk.specs.GapAtoms.{gap_at, after_closing, gap_atoms}
use Rattle.px_proof_walk.specs.Pending.{Goal, Closing, Pending, Solves, closing_at, closing_of, fresh_of, variable_count_of, goals_below, goals_of, open_after}
use Rattle.px_proof_walk.specs.Possible.{rules_for}
use Rattle.px_proof_walk.specs.Scope.{IsAtomIn, IsSetting}
use Rattle.px_proof_walk.proofs.Lifting.{goal_under, closing_under, same_closing, regrouped, longer, first_chosen, later_ends}
use Rattle.px_proof_walk.proofs.Lists.{solves-list, walk_each, goals_ground, each-are, ground_goals}
use Rattle.px_proof_walk.proofs.Trees.{AreProved, rules_of, joined, ticks_of-joined, choices-joined, terms-objects, ticks-pos, has_room-true, parts-proved, step_room, step_closing}

-- the gaps of a run without variables
abbrev pub run_gaps : Bool → Setting → List Goal → List Tick → List ℕ → List Atom
run_gaps loose s goals [] chosen = []
run_gaps loose s [] (tick ∷ ticks) chosen = []
run_gaps loose s (goal ∷ goals) (tick ∷ ticks) chosen =
    gap_at goal tick ++ after_closing (closing_of loose s (object_terms (take (fresh_of s tick) chosen)) goal tick)
    (λ parts. run_gaps loose s (parts ++ goals) ticks (drop (fresh_of s tick) chosen))

gaps-joined : (ps qs : Derivations) → all_gaps_of (joined ps qs) ≡ all_gaps_of ps ++ all_gaps_of qs
gaps-joined none qs = refl
gaps-joined (also p ps) qs =
    ap (λ atoms. gaps_of p ++ atoms) (gaps-joined ps qs) ∙ sym (append_assoc (gaps_of p) (all_gaps_of ps) (all_gaps_of qs))

pub taken : (theta rest : List ℕ) (k : ℕ) → length theta ≡ k → take k (theta ++ rest) ≡ theta
taken theta rest k long = ap (λ n. take n (theta ++ rest)) (sym long) ∙ take-append_seam theta rest

dropped : (theta rest : List ℕ) (k : ℕ) → length theta ≡ k → drop k (theta ++ rest) ≡ rest
dropped theta rest k long = ap (λ n. drop n (theta ++ rest)) (sym long) ∙ drop-append_seam theta rest

module _ (loose : Bool) (s : Setting) where
  closed_gap : (theta : List Term) (goal : Goal) (atom : Atom) → goal.lit.positive ≡ true → goal.lit.atom.pred ≡ atom.pred → loose ≡ true
      → list_any (nat_eq atom.pred) s.added ≡ true
      → closing_of loose s theta goal Gap ≡ Some (record { equal_to = goal.lit; parts = [] })
  closed_gap theta goal atom positive pred is_loose added = rw (is_loose, positive, pred, added) refl

  gaps_from_trees : (fuel : ℕ) (goals : List Goal) (ds : Derivations) → length (ticks_of ds) ≤ fuel
      → AreProved (rules_of loose s) s.axioms goals ds → all_gaps_of ds ≡ run_gaps loose s goals (ticks_of ds) (all_choices_of ds)
  gaps_from_trees fuel [] none enough proved = refl
  gaps_from_trees fuel [] (also p ps) enough proved = absurd proved
  gaps_from_trees fuel (goal ∷ goals) none enough proved = absurd proved
  gaps_from_trees zero (goal ∷ goals) (also p ps) enough proved =
      absurd (omega (arith, enough, ticks-pos p, length-append (ticks p) (ticks_of ps)))
  gaps_from_trees (suc fuel) (goal ∷ goals) (also (fact leaf) ps) enough proved =
      rw proved.0.1.1 (gaps_from_trees fuel goals ps (omega (arith, enough)) proved.2)
  gaps_from_trees (suc fuel) (goal ∷ goals) (also (ancestor i) ps) enough proved =
      rw proved.0 (gaps_from_trees fuel goals ps (omega (arith, enough)) proved.2)
  gaps_from_trees (suc fuel) (goal ∷ goals) (also (step number theta place parts) ps) enough proved =
      let clause = proved.0.0 in
      let uses = proved.0.1 in
      let rest = all_choices_of (joined parts ps) in
      let long : length (map object_of theta) ≡ variable_count_of (slice_get s.axioms number) =
      length-map theta object_of ∙ uses.terms ∙ sym (ap variable_count_of uses.axiom_at) in
      let whole : (map object_of theta ++ all_choices_of parts) ++ all_choices_of ps ≡ map object_of theta ++ rest =
      append_assoc (map object_of theta) (all_choices_of parts) (all_choices_of ps)
      ∙ ap (λ xs. map object_of theta ++ xs) (sym (choices-joined parts ps)) in
      let room =
      has_room-true goal clause (step_room (rules_of loose s) s.axioms goal number theta place parts clause uses proved.0.2 proved.1) in
      let later = gaps_from_trees fuel (goals_below goal (parts_of clause.lits theta place) ++ goals) (joined parts ps)
      (omega (arith, enough, ap length (ticks_of-joined parts ps)))
      (parts-proved (rules_of loose s) s.axioms goal (parts_of clause.lits theta place) parts ps goals proved.0.2
      (omega (arith, proved.1)) proved.2) in
      rw (
        whole,
        taken (map object_of theta) rest _ long,
        dropped (map object_of theta) rest _ long,
        terms-objects s.objects theta uses.choices,
        step_closing loose s goal number theta place clause uses room,
      )
      (sym (gaps-joined parts ps) ∙ later
      ∙ ap (λ ts. run_gaps loose s (goals_below goal (parts_of clause.lits theta place) ++ goals) ts rest) (ticks_of-joined parts ps))
  gaps_from_trees (suc fuel) (goal ∷ goals) (also (gap a) ps) enough proved =
      let positive : goal.lit.positive ≡ true = ap (λ (l : Lit). l.positive) proved.0.0 in
      let same : goal.lit.atom ≡ a = ap (λ (l : Lit). l.atom) proved.0.0 in
      let closed = closed_gap [] goal a positive (ap (λ (b : Atom). b.pred) same) proved.0.1.0 proved.0.1.1 in
      rw (closed, same) (ap (λ atoms. a ∷ atoms) (gaps_from_trees fuel goals ps (omega (arith, enough)) proved.2))
  gaps_from_trees (suc fuel) (goal ∷ goals) (also open_place ps) enough proved =
      gaps_from_trees fuel goals ps (omega (arith, enough)) proved.2

  gap_at-under : (tau : List Term) (goal : Goal) (tick : Tick)
      → gap_at (goal_under tau goal) tick ≡ map (substitute_atom tau) (gap_at goal tick)
  gap_at-under tau goal Gap = refl
  gap_at-under tau goal (Fact i) = refl
  gap_at-under tau goal (Anc i) = refl
  gap_at-under tau goal (Step number place) = refl
  gap_at-under tau goal Open = refl

  gaps_under : IsSetting s → (ticks : List Tick) (old chosen : List ℕ) (goals : List Goal)
      → open_after loose s (length old) goals ticks ≡ Some (record { variables = length old + length chosen; goals = [] })
      → Solves loose s (object_terms (old ++ chosen)) (length old) goals ticks
      → run_gaps loose s (map (goal_under (object_terms (old ++ chosen))) goals) ticks chosen
      ≡ map (substitute_atom (object_terms (old ++ chosen))) (gap_atoms loose s (length old) goals ticks)
  gaps_under valid [] old chosen goals ends solves = refl
  gaps_under valid (tick ∷ ticks) old chosen [] ends solves = absurd solves
  gaps_under valid (tick ∷ ticks) old chosen (goal ∷ goals) ends solves =
      let k = fresh_of s tick in
      let long : length (take k chosen) ≡ k = first_chosen loose s old chosen tick goal goals ticks ends solves in
      let splits : chosen ≡ take k chosen ++ drop k chosen = sym (take-append-drop k chosen) in
      rw (same_closing loose s valid old (take k chosen) (drop k chosen) chosen tick goal splits long)
      (go (closing_at loose s (length old) goal tick) refl solves
      (λ closing is. rw (
        regrouped loose s valid old (take k chosen) (drop k chosen) chosen tick goal splits long,
        longer loose s valid old (take k chosen) (drop k chosen) chosen tick goal splits long,
      )
      at (gaps_under valid ticks (old ++ take k chosen) (drop k chosen) (closing.parts ++ goals)
      (later_ends loose s old chosen tick goal goals ticks ends closing is (take k chosen) (drop k chosen) splits long))))
    where
      go : (o : Option Closing) → closing_at loose s (length old) goal tick ≡ o
          → IsSomeAnd o (λ closing. (substitute_literal (object_terms (old ++ chosen)) goal.lit
          ≡ substitute_literal (object_terms (old ++ chosen)) closing.equal_to)
          × Solves loose s (object_terms (old ++ chosen)) (length old + fresh_of s tick) (closing.parts ++ goals) ticks)
          → ((closing : Closing) → closing_at loose s (length old) goal tick ≡ Some closing
          → Solves loose s (object_terms (old ++ chosen)) (length old + fresh_of s tick) (closing.parts ++ goals) ticks
          → run_gaps loose s (map (goal_under (object_terms (old ++ chosen))) (closing.parts ++ goals)) ticks
          (drop (fresh_of s tick) chosen)
          ≡ map (substitute_atom (object_terms (old ++ chosen)))
          (gap_atoms loose s (length old + fresh_of s tick) (closing.parts ++ goals) ticks))
          → gap_at (goal_under (object_terms (old ++ chosen)) goal) tick
          ++ after_closing (closing_under (object_terms (old ++ chosen)) o)
          (λ parts. run_gaps loose s (parts ++ map (goal_under (object_terms (old ++ chosen))) goals) ticks
          (drop (fresh_of s tick) chosen))
          ≡ map (substitute_atom (object_terms (old ++ chosen)))
          (gap_at goal tick ++ after_closing o (λ parts. gap_atoms loose s (length old + fresh_of s tick) (parts ++ goals) ticks))
      go None is closes later = absurd closes
      go (Some closing) is closes later =
          rw (
            map-append (substitute_atom (object_terms (old ++ chosen))) (gap_at goal tick)
                (gap_atoms loose s (length old + fresh_of s tick) (closing.parts ++ goals) ticks),
            gap_at-under (object_terms (old ++ chosen)) goal tick,
          )
          (ap (λ atoms. map (substitute_atom (object_terms (old ++ chosen))) (gap_at goal tick) ++ atoms)
          (ap (λ gs. run_gaps loose s gs ticks (drop (fresh_of s tick) chosen))
          (sym (map-append (goal_under (object_terms (old ++ chosen))) closing.parts goals)) ∙ later closing is closes.1))

  -- one more tick closes one more place
  module _ (tick : Tick) (goal : Goal) (goals : List Goal) (last : ℕ) where
    pub gap_atoms-push : (ticks : List Tick) (n : ℕ) (start : List Goal)
        → open_after loose s n start ticks ≡ Some (record { variables = last; goals = goal ∷ goals })
        → gap_atoms loose s n start (ticks ++ tick ∷ []) ≡ gap_atoms loose s n start ticks ++ gap_at goal tick
    gap_atoms-push [] n start now =
        let same = some_same now in
        let start_is : start ≡ goal ∷ goals = ap (λ (p : Pending). p.goals) same in
        rw start_is (ends (closing_at loose s n goal tick))
      where
        nothing : (xs : List Atom) → xs ++ [] ≡ xs
        nothing [] = refl
        nothing (x ∷ xs) = ap (λ ys. x ∷ ys) (nothing xs)

        ends : (o : Option Closing) → gap_at goal tick ++ after_closing o (λ parts. []) ≡ gap_at goal tick
        ends None = nothing (gap_at goal tick)
        ends (Some closing) = nothing (gap_at goal tick)
    gap_atoms-push (t ∷ ticks) n [] now = absurd (cc)
    gap_atoms-push (t ∷ ticks) n (g ∷ start) now =
        go (closing_at loose s n g t) refl (λ closing. gap_atoms-push ticks (n + fresh_of s t) (closing.parts ++ start))
      where
        go : (o : Option Closing) → closing_at loose s n g t ≡ o
            → ((closing : Closing) → open_after loose s (n + fresh_of s t) (closing.parts ++ start) ticks
            ≡ Some (record { variables = last; goals = goal ∷ goals })
            → gap_atoms loose s (n + fresh_of s t) (closing.parts ++ start) (ticks ++ tick ∷ [])
            ≡ gap_atoms loose s (n + fresh_of s t) (closing.parts ++ start) ticks ++ gap_at goal tick)
            → gap_at g t ++ after_closing o (λ parts. gap_atoms loose s (n + fresh_of s t) (parts ++ start) (ticks ++ tick ∷ []))
            ≡ (gap_at g t ++ after_closing o (λ parts. gap_atoms loose s (n + fresh_of s t) (parts ++ start) ticks)) ++ gap_at goal tick
        go None is later = absurd (let none_left = rw is at now in cc)
        go (Some closing) is later =
            let now' : open_after loose s (n + fresh_of s t) (closing.parts ++ start) ticks
            ≡ Some (record { variables = last; goals = goal ∷ goals }) = rw is at now in
            ap (λ atoms. gap_at g t ++ atoms) (later closing now')
            ∙ sym (append_assoc (gap_at g t) (gap_atoms loose s (n + fresh_of s t) (closing.parts ++ start) ticks) (gap_at goal tick))

module _ (loose : Bool) (s : Setting) (valid : IsSetting s) (formula : List Atom) (variable_count : ℕ)
    (scoped : AllByRecursion (IsAtomIn s.objects variable_count) formula) where
  pub gaps-are : (objects : List ℕ) (ds : Derivations) → IsList (or_open (rules_for loose s)) s formula variable_count objects ds
      → all_gaps_of ds ≡ map (substitute_atom (object_terms (objects ++ all_choices_of ds)))
      (gap_atoms loose s variable_count (goals_of s formula) (ticks_of ds))
  gaps-are objects ds is =
      let each = walk_each loose s (literals_of formula objects) ds is.proved in
      let trees =
      gaps_from_trees loose s (length (ticks_of ds)) (ground_goals s (literals_of formula objects)) ds (omega arith)
      (each-are s (rules_of loose s) (literals_of formula objects) ds each is.low) in
      let solved = solves-list loose s valid formula variable_count scoped objects ds is in
      let ends : open_after loose s (length objects) (goals_of s formula) (ticks_of ds)
      ≡ Some (record { variables = length objects + length (all_choices_of ds); goals = [] }) =
      ap (λ n. open_after loose s n (goals_of s formula) (ticks_of ds)) is.count ∙ solved.1
      ∙ ap (λ n. Some (record { variables = n; goals = [] })) (length-append objects (all_choices_of ds)) in
      let solves =
      subst (λ (n : ℕ). Solves loose s (object_terms (objects ++ all_choices_of ds)) n (goals_of s formula) (ticks_of ds))
      (sym is.count) solved.0 in
      trees ∙ ap (λ gs. run_gaps loose s gs (ticks_of ds) (all_choices_of ds))
      (sym (goals_ground s formula variable_count objects (all_choices_of ds) is.count scoped))
      ∙ gaps_under loose s valid (ticks_of ds) objects (all_choices_of ds) (goals_of s formula) ends solves
      ∙ ap (λ n. map (substitute_atom (object_terms (objects ++ all_choices_of ds)))
      (gap_atoms loose s n (goals_of s formula) (ticks_of ds))) is.count
