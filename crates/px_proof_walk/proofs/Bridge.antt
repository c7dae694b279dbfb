-- Possible lists of ticks are lists of derivations: unfinished ones in their shapes, finished ones as they are.
use Rattle.std.proofs.Common.{◌≡◌, ◌↔◌, ℕ, zero, suc, ◌+◌, ◌<◌, ◌≤◌, Bool, true, false, Some, List, [], ◌∷◌, ◌++◌, length, map, replicate, take, drop, refl, ap, sym, subst, ◌∙◌, arith, length-append}
use Rattle.std.specs.Prelude.{All}
use Rattle.std.specs.List.{AllByRecursion}
use Rattle.std.proofs.lemmas.List.{append-nil, length-take-le, take-append-drop}
use Rattle.std.proofs.lemmas.List.Elements.{All-take, All-drop, All-append, All-nil, All-weaker}
use Rattle.px_terms.specs.declared.atom.Atom.{Atom}
use Rattle.px_terms.specs.declared.clause.Clause.{Clause}
use Rattle.px_terms.specs.declared.clause.Lit.{Lit}
use Rattle.px_terms.specs.declared.term.Term.{Term}
use Rattle.px_proof.specs.declared.shape.Tick.{Tick}
use Rattle.px_proof.specs.declared.shape.Tick.TheVariants.{Open}
use Rattle.px_proof.specs.Derivation.{Derivation, Derivations, fact, ancestor, step, gap, open_place, none, also}
use Rattle.px_proof.specs.Proves.{Rules, Proves, ProvesEach, parts_of, or_open}
use Rattle.px_proof.specs.ProvesLaws.{each_by}
use Rattle.px_proof.specs.Shapes.{ticks, ticks_of}
use Rattle.px_question.specs.Answers.{IsList, object_terms, choices_of, all_choices_of, literals_of}
use Rattle.px_question.specs.Limits.{IsPartialShape}
use Rattle.px_terms.specs.Language.{IsObjectBelow, object_of}
use Rattle.px_question.specs.Settings.{Setting}
use Rattle.px_proof_walk.specs.Pending.{Solves, open_after, goals_of, IsFeasible}
use Rattle.px_proof_walk.specs.Possible.{IsClosing, IsPossible, IsFinished, open_count, shape_of, left_of, rules_for}
use Rattle.px_proof_walk.specs.Scope.{IsSetting, IsAtomIn}
use Rattle.px_proof_walk.proofs.Every.{all-both}
use Rattle.px_proof_walk.proofs.Lifting.{variables_grow, length-objects, objects-append}
use Rattle.px_proof_walk.proofs.Lists.{solves-list, list-solved}
use Rattle.px_proof_walk.proofs.Partial.{padded, padded-unfinished, opens-after, opens-count, opens-solve, open_after-split, open_after-joined, solves-joined, closed-proves-each}
use Rattle.px_proof_walk.proofs.Pushing.{solves-prefix}
use Rattle.px_proof_walk.proofs.Scoping.{solves-extended, goals-over}
use Rattle.px_proof_walk.proofs.Trees.{objects-below}

-- a derivation without open places closes each place
module _ (rules : Rules) (axioms : List Clause) (no_open : ¬ rules.IsOpen) where
  mutual
    closings_of : (path : List Lit) (lit : Lit) (p : Derivation) → Proves rules axioms path lit p → AllByRecursion IsClosing (ticks p)
    closings_of path lit (fact leaf) proved = (tt, tt)
    closings_of path lit (ancestor i) proved = (tt, tt)
    closings_of path lit (step number theta place parts) proved =
        (tt, closings_of-each (lit ∷ path) (parts_of proved.0.lits theta place) parts proved.2)
    closings_of path lit (gap a) proved = (tt, tt)
    closings_of path lit open_place proved = absurd (no_open proved)

    pub closings_of-each : (path lits : List Lit) (ps : Derivations) → ProvesEach rules axioms path lits ps
        → AllByRecursion IsClosing (ticks_of ps)
    closings_of-each path [] none each = tt
    closings_of-each path (lit ∷ lits) (also p ps) each =
        all-both IsClosing (ticks p) (ticks_of ps) (closings_of path lit p each.0) (closings_of-each path lits ps each.1)
    closings_of-each path [] (also p ps) each = absurd each
    closings_of-each path (lit ∷ lits) none each = absurd each

-- the objects of each step are below the number
module _ (rules : Rules) (axioms : List Clause) (n : ℕ) (choices : (t : Term) → rules.IsChoice t → IsObjectBelow n t) where
  mutual
    choices-below : (path : List Lit) (lit : Lit) (p : Derivation) → Proves rules axioms path lit p → All (λ o. o < n) (choices_of p)
    choices-below path lit (fact leaf) proved = All-nil (λ o. o < n)
    choices-below path lit (ancestor i) proved = All-nil (λ o. o < n)
    choices-below path lit (step number theta place parts) proved =
        All-append (λ o. o < n) (map object_of theta) (all_choices_of parts)
        (objects-below n theta (All-weaker rules.IsChoice (IsObjectBelow n) choices theta proved.1.choices))
        (choices-below-each (lit ∷ path) (parts_of proved.0.lits theta place) parts proved.2)
    choices-below path lit (gap a) proved = All-nil (λ o. o < n)
    choices-below path lit open_place proved = All-nil (λ o. o < n)

    pub choices-below-each : (path lits : List Lit) (ps : Derivations) → ProvesEach rules axioms path lits ps
        → All (λ o. o < n) (all_choices_of ps)
    choices-below-each path [] none each = All-nil (λ o. o < n)
    choices-below-each path (lit ∷ lits) (also p ps) each =
        All-append (λ o. o < n) (choices_of p) (all_choices_of ps) (choices-below path lit p each.0)
        (choices-below-each path lits ps each.1)
    choices-below-each path [] (also p ps) each = absurd each
    choices-below-each path (lit ∷ lits) none each = absurd each

-- the rules of both kinds choose objects of the problem, and leave nothing open
choices_in : (loose : Bool) (s : Setting) (t : Term) → (rules_for loose s).IsChoice t → IsObjectBelow s.objects t
choices_in false s t h = h
choices_in true s t h = h

never_open : (loose : Bool) (s : Setting) → ¬ (rules_for loose s).IsOpen
never_open false s h = h
never_open true s h = h

module _ (loose : Bool) (s : Setting) (valid : IsSetting s) (formula : List Atom) (variable_count : ℕ)
    (scoped : AllByRecursion (IsAtomIn s.objects variable_count) formula) where
  -- a feasible list, with open places for what it leaves open, is a list of derivations
  pub list-of : (ticks : List Tick) → IsFeasible loose s formula variable_count ticks
      → (objects : List ℕ) × (ps : Derivations) × IsList (or_open (rules_for loose s)) s formula variable_count objects ps
      × (ticks_of ps ≡ shape_of loose s formula variable_count ticks)
  list-of ticks (p, now, (objects, enough, below, solves)) =
      let k = length p.goals in
      let prefix : List ℕ = take p.variables objects in
      let prefix_long : length prefix ≡ p.variables = length-take-le p.variables objects enough in
      let over = goals-over s variable_count formula scoped in
      let grown : variable_count ≤ p.variables = variables_grow loose s ticks variable_count (goals_of s formula) p now in
      let whole : objects ≡ prefix ++ drop p.variables objects = sym (take-append-drop p.variables objects) in
      let long : p.variables ≤ length (object_terms prefix) = omega (arith, prefix_long, length-objects prefix) in
      let split_solves : Solves loose s (object_terms prefix ++ object_terms (drop p.variables objects)) variable_count (goals_of s formula) ticks =
      subst (λ (tau : List Term). Solves loose s tau variable_count (goals_of s formula) ticks)
      (ap object_terms whole ∙ objects-append prefix (drop p.variables objects)) solves in
      let prefix_solves : Solves loose s (object_terms prefix) variable_count (goals_of s formula) ticks =
      solves-extended loose s valid (object_terms prefix) (object_terms (drop p.variables objects)) ticks variable_count
      (goals_of s formula) p over now long split_solves in
      let ends : open_after loose s variable_count (goals_of s formula) (ticks ++ replicate k Open)
      ≡ Some (record { variables = p.variables; goals = [] }) =
      open_after-joined loose s ticks (replicate k Open) variable_count (goals_of s formula) p (record { variables = p.variables; goals = [] }) now
      (opens-after loose s p.goals p.variables k refl) in
      let solved : Solves loose s (object_terms prefix) variable_count (goals_of s formula) (ticks ++ replicate k Open) =
      solves-joined loose s (object_terms prefix) ticks (replicate k Open) variable_count (goals_of s formula) p now prefix_solves
      (opens-solve loose s (object_terms prefix) p.goals p.variables k refl) in
      let again : prefix ≡ take variable_count prefix ++ drop variable_count prefix = sym (take-append-drop variable_count prefix) in
      let first_long : length (take variable_count prefix) ≡ variable_count = length-take-le variable_count prefix (omega (arith, grown, prefix_long)) in
      let sum : length (take variable_count prefix) + length (drop variable_count prefix) ≡ p.variables =
      sym (length-append (take variable_count prefix) (drop variable_count prefix)) ∙ ap length (sym again) ∙ prefix_long in
      let prefix_below : All (λ o. o < s.objects) prefix = All-take (λ o. o < s.objects) p.variables objects below in
      let found = list-solved loose s valid formula variable_count scoped (ticks ++ replicate k Open) (take variable_count prefix) (drop variable_count prefix) first_long
      (All-take (λ o. o < s.objects) variable_count prefix prefix_below) (All-drop (λ o. o < s.objects) variable_count prefix prefix_below)
      (ends ∙ ap (λ n. Some (record { variables = n; goals = [] })) (sym sum))
      (subst (λ (os : List ℕ). Solves loose s (object_terms os) variable_count (goals_of s formula) (ticks ++ replicate k Open)) again solved) in
      (take variable_count prefix, found.0, found.1, found.2 ∙ ap (λ o. ticks ++ replicate (left_of o) Open) (sym now))

  -- the shapes of unfinished lists are those of possible lists of ticks that are not finished
  pub partial-from : (shape : List Tick) → IsPartialShape (rules_for loose s) s formula variable_count shape
      → (ticks : List Tick) × (shape ≡ shape_of loose s formula variable_count ticks) × IsPossible loose s formula variable_count ticks
      × (¬ IsFinished loose s formula variable_count ticks)
  partial-from shape (unfinished, (objects, ps, is, ticks_are)) =
      let pad = padded shape unfinished in
      let solved = solves-list loose s valid formula variable_count scoped objects ps is in
      let same : ticks_of ps ≡ pad.prefix ++ replicate pad.count Open = ticks_are ∙ pad.is in
      let ends : open_after loose s variable_count (goals_of s formula) (pad.prefix ++ replicate pad.count Open)
      ≡ Some (record { variables = length (objects ++ all_choices_of ps); goals = [] }) =
      ap (λ ts. open_after loose s variable_count (goals_of s formula) ts) (sym same) ∙ solved.1 in
      let between =
      open_after-split loose s pad.prefix (replicate pad.count Open) variable_count (goals_of s formula)
      (record { variables = length (objects ++ all_choices_of ps); goals = [] }) ends in
      let count : length between.0.goals ≡ pad.count =
      opens-count loose s between.0.goals between.0.variables pad.count
      (record { variables = length (objects ++ all_choices_of ps); goals = [] }) between.2 refl in
      let left : open_count loose s formula variable_count pad.prefix ≡ pad.count = ap left_of between.1 ∙ count in
      let few : between.0.variables ≤ length (objects ++ all_choices_of ps) =
      variables_grow loose s (replicate pad.count Open) between.0.variables between.0.goals
      (record { variables = length (objects ++ all_choices_of ps); goals = [] }) between.2 in
      let all_solve : Solves loose s (object_terms (objects ++ all_choices_of ps)) variable_count (goals_of s formula)
      (pad.prefix ++ replicate pad.count Open) =
      subst (Solves loose s (object_terms (objects ++ all_choices_of ps)) variable_count (goals_of s formula)) same solved.0 in (
        pad.prefix,
        pad.is ∙ ap (λ k. pad.prefix ++ replicate k Open) (sym left),
        (
          pad.closing,
          (
            between.0,
            between.1,
            (
              objects ++ all_choices_of ps,
              few,
              All-append (λ o. o < s.objects) objects (all_choices_of ps) is.below
                  (choices-below-each (or_open (rules_for loose s)) s.axioms s.objects (choices_in loose s) []
                  (literals_of formula objects) ps is.proved),
              solves-prefix loose s (object_terms (objects ++ all_choices_of ps)) pad.prefix (replicate pad.count Open) variable_count
                  (goals_of s formula) all_solve,
            ),
          ),
        ),
        λ finished. let zero_left : open_count loose s formula variable_count pad.prefix ≡ 0 =
            finished in omega (arith, zero_left, left, pad.some_open),
      )

  pub partial-to : (shape ticks : List Tick) → shape ≡ shape_of loose s formula variable_count ticks → IsPossible loose s formula variable_count ticks
      → ¬ IsFinished loose s formula variable_count ticks → IsPartialShape (rules_for loose s) s formula variable_count shape
  partial-to shape ticks shape_is possible unfinished =
      let made = list-of ticks possible.1 in (
        rw shape_is (padded-unfinished ticks (open_count loose s formula variable_count ticks)
            (above (open_count loose s formula variable_count ticks) unfinished) possible.0),
        (made.0, made.1, made.2, made.3 ∙ sym shape_is),
      )
    where
      above : (k : ℕ) → ¬ (k ≡ 0) → 0 < k
      above zero other = absurd (other refl)
      above (suc k) other = omega arith

  pub partial-possible : (shape : List Tick) → IsPartialShape (rules_for loose s) s formula variable_count shape ↔
      ((ticks : List Tick) × (shape ≡ shape_of loose s formula variable_count ticks) × IsPossible loose s formula variable_count ticks
      × (¬ IsFinished loose s formula variable_count ticks))
  partial-possible shape = (partial-from shape, λ h. partial-to shape h.0 h.1 h.2 h.3)

  -- where no place is open, the proofs are finished ones
  pub closed-list : (objects : List ℕ) (ds : Derivations) → AllByRecursion IsClosing (ticks_of ds)
      → IsList (or_open (rules_for loose s)) s formula variable_count objects ds → IsList (rules_for loose s) s formula variable_count objects ds
  closed-list objects ds closing is = record {
    count = is.count;
    below = is.below;
    proved = closed-proves-each (rules_for loose s) s.axioms [] (literals_of formula objects) ds closing is.proved;
    low = is.low;
  }

  pub choices-of-list : (objects : List ℕ) (ds : Derivations) → IsList (rules_for loose s) s formula variable_count objects ds
      → All (λ o. o < s.objects) (all_choices_of ds)
  choices-of-list objects ds is =
      choices-below-each (rules_for loose s) s.axioms s.objects (choices_in loose s) [] (literals_of formula objects) ds is.proved

  -- a possible list that is finished is a list of finished proofs
  pub possible-finished : (ticks : List Tick) → IsPossible loose s formula variable_count ticks → IsFinished loose s formula variable_count ticks
      → (objects : List ℕ) × (ps : Derivations) × IsList (rules_for loose s) s formula variable_count objects ps × (ticks_of ps ≡ ticks)
  possible-finished ticks possible finished =
      let made = list-of ticks possible.1 in
      let left : open_count loose s formula variable_count ticks ≡ 0 = finished in
      let same : ticks_of made.1 ≡ ticks = made.3 ∙ ap (λ k. ticks ++ replicate k Open) left ∙ append-nil ticks in (
        made.0,
        made.1,
        closed-list made.0 made.1 (rw same possible.0) made.2,
        same,
      )

  pub finished-opened : (objects : List ℕ) (ps : Derivations) → IsList (rules_for loose s) s formula variable_count objects ps
      → IsList (or_open (rules_for loose s)) s formula variable_count objects ps
  finished-opened objects ps is = record {
    count = is.count;
    below = is.below;
    proved =
        each_by s.axioms (rules_for loose s) (or_open (rules_for loose s))
        (record { choices = λ t h. h; gaps = λ atom h. h; opens = λ h. tt }) [] (literals_of formula objects) ps
        (λ leaf has h. h) is.proved;
    low = is.low;
  }

  pub finished-ends : (objects : List ℕ) (ps : Derivations) → IsList (rules_for loose s) s formula variable_count objects ps
      → open_after loose s variable_count (goals_of s formula) (ticks_of ps)
      ≡ Some (record { variables = length (objects ++ all_choices_of ps); goals = [] })
  finished-ends objects ps is = (solves-list loose s valid formula variable_count scoped objects ps (finished-opened objects ps is)).1

  -- a finished list of derivations is a possible list of ticks, and finished
  pub finished-possible : (objects : List ℕ) (ps : Derivations) → IsList (rules_for loose s) s formula variable_count objects ps
      → IsPossible loose s formula variable_count (ticks_of ps) × IsFinished loose s formula variable_count (ticks_of ps)
      × Solves loose s (object_terms (objects ++ all_choices_of ps)) variable_count (goals_of s formula) (ticks_of ps)
  finished-possible objects ps is =
      let solved = solves-list loose s valid formula variable_count scoped objects ps (finished-opened objects ps is) in (
        (
          closings_of-each (rules_for loose s) s.axioms (never_open loose s) [] (literals_of formula objects) ps is.proved,
          (
            record { variables = length (objects ++ all_choices_of ps); goals = [] },
            solved.1,
            (
              objects ++ all_choices_of ps,
              omega arith,
              All-append (λ o. o < s.objects) objects (all_choices_of ps) is.below
                  (choices-below-each (rules_for loose s) s.axioms s.objects (choices_in loose s) []
                  (literals_of formula objects) ps is.proved),
              solved.0,
            ),
          ),
        ),
        rw solved.1 refl,
        solved.0,
      )
