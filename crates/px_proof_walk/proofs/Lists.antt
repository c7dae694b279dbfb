-- Lists of derivations of a formula, as closings of its goals.
use Rattle.std.proofs.Common.{◌≡◌, ℕ, ◌+◌, ◌<◌, ◌≤◌, Bool, true, false, ◌||◌, Option, Some, None, List, [], ◌∷◌, ◌++◌, length, map, refl, ap, ◌∙◌, arith, inl, inr, length-append}
use Rattle.std.specs.Prelude.{IsSomeAnd, All, Contains, nat_eq}
use Rattle.std.specs.List.{AllByRecursion, list_any}
use Rattle.std.proofs.lemmas.Bool.Decides.{nat_tests}
use Rattle.std.proofs.lemmas.List.{map-append}
use Rattle.std.proofs.lemmas.Map.Views.{Contains-from_any}
use Rattle.px_base.specs.ListLaws.{Contains-none, Contains-cases}
use Rattle.px_proof.specs.ProvesLaws.{Allows, each_by}
use Rattle.px_terms.specs.Language.{substitute}
use Rattle.px_proof.specs.Literals.{substitute_literal}
use Rattle.px_terms.specs.declared.term.Term.{Term}
use Rattle.px_terms.specs.declared.atom.Atom.{Atom}
use Rattle.px_terms.specs.declared.clause.Lit.{Lit}
use Rattle.px_proof.specs.declared.shape.Tick.{Tick}
use Rattle.px_proof.specs.Derivation.{Derivations, none, also, greatest_height}
use Rattle.px_proof.specs.Proves.{Rules, ProvesEach, or_open, IsObjectOrParameter}
use Rattle.px_proof.specs.Shapes.{ticks_of}
use Rattle.px_question.specs.Settings.{Setting}
use Rattle.px_question.specs.Answers.{IsList, literals_of, object_terms, all_choices_of}
use Rattle.px_proof_walk.specs.Possible.{rules_for}
use Rattle.px_proof_walk.specs.Pending.{Goal, Closing, Runs, Solves, open_after, closing_at, fresh_of, goals_of}
use Rattle.px_proof_walk.specs.Scope.{IsSetting, IsAtomIn}
use Rattle.px_terms.specs.Language.{IsPlainBelow}
use Rattle.px_proof_walk.proofs.Every.{all-weaker}
use Rattle.px_proof_walk.proofs.Scoping.{args-prefix, scoped-below}
use Rattle.px_proof_walk.proofs.Lifting.{goal_under, closing_under, solves_from_runs, runs_from_solves, same_closing, regrouped, longer, open_after-step, length-objects, objects-append}
use Rattle.px_proof_walk.proofs.Trees.{rules_of, AreProved, runs_from_trees, trees_from_runs}

-- some operator adds the predicate: as a test, and as what is in the list
nats_same : (m n : ℕ) → nat_eq m n ≡ true → m ≡ n
nats_same m n e = grind (arith, nat_tests, e)

added-test : (pred : ℕ) (added : List ℕ) → Contains added pred → list_any (nat_eq pred) added ≡ true
added-test pred [] has = absurd (Contains-none pred has)
added-test pred (p ∷ added) has = elim (Contains-cases p added pred has) [
  | inl is ↦ let here : nat_eq pred p ≡ true = grind (arith, nat_tests, is) in rw here refl
  | inr later ↦ rw (added-test pred added later) (or_true (nat_eq pred p))
]
  where
    or_true : (b : Bool) → b || true ≡ true
    or_true true = refl
    or_true false = refl

-- what the prover may do and what the walk does are the same
walk_allows : (loose : Bool) (s : Setting) → Allows (or_open (rules_for loose s)) (rules_of loose s)
walk_allows false s = record { choices = λ t h. h; gaps = λ atom h. absurd h; opens = λ h. h }
walk_allows true s = record { choices = λ t h. h; gaps = λ atom h. (refl, added-test atom.pred s.added h); opens = λ h. h }

prover_allows : (loose : Bool) (s : Setting) → Allows (rules_of loose s) (or_open (rules_for loose s))
prover_allows false s = record { choices = λ t h. h; gaps = λ atom h. absurd (let never = h.0 in cc); opens = λ h. h }
prover_allows true s = record { choices = λ t h. h; gaps = λ atom h. Contains-from_any nats_same atom.pred s.added h.1; opens = λ h. h }

pub walk_each : (loose : Bool) (s : Setting) (lits : List Lit) (ds : Derivations)
    → ProvesEach (or_open (rules_for loose s)) s.axioms [] lits ds → ProvesEach (rules_of loose s) s.axioms [] lits ds
walk_each false s lits ds =
    each_by s.axioms (or_open (rules_for false s)) (rules_of false s) (walk_allows false s) [] lits ds (λ leaf has h. h)
walk_each true s lits ds = each_by s.axioms (or_open (rules_for true s)) (rules_of true s) (walk_allows true s) [] lits ds (λ leaf has h. h)

pub prover_each : (loose : Bool) (s : Setting) (lits : List Lit) (ds : Derivations) → ProvesEach (rules_of loose s) s.axioms [] lits ds
    → ProvesEach (or_open (rules_for loose s)) s.axioms [] lits ds
prover_each false s lits ds =
    each_by s.axioms (rules_of false s) (or_open (rules_for false s)) (prover_allows false s) [] lits ds (λ leaf has h. h)
prover_each true s lits ds =
    each_by s.axioms (rules_of true s) (or_open (rules_for true s)) (prover_allows true s) [] lits ds (λ leaf has h. h)

module _ (s : Setting) where
  -- the goals of the formula under its objects
  abbrev pub ground_goals : List Lit → List Goal
  ground_goals lits = map (λ l. record { lit = l; path = []; budget = s.height }) lits

  pub goals_ground : (formula : List Atom) (variable_count : ℕ) (objects chosen : List ℕ) → length objects ≡ variable_count
      → AllByRecursion (IsAtomIn s.objects variable_count) formula
      → map (goal_under (object_terms (objects ++ chosen))) (goals_of s formula) ≡ ground_goals (literals_of formula objects)
  goals_ground [] variable_count objects chosen count scoped = refl
  goals_ground (a ∷ formula) variable_count objects chosen count scoped =
      let within : AllByRecursion (IsObjectOrParameter s.objects (length (object_terms objects))) a.args =
      rw (length-objects objects, count) scoped.0 in
      let same : map (substitute (object_terms (objects ++ chosen))) a.args ≡ map (substitute (object_terms objects)) a.args =
      rw (objects-append objects chosen) (args-prefix (object_terms objects) (object_terms chosen) (length (object_terms objects))
      (omega arith) a.args
      (all-weaker (IsObjectOrParameter s.objects (length (object_terms objects))) (IsPlainBelow (length (object_terms objects))) a.args
      (scoped-below s.objects (length (object_terms objects))) within)) in
      rw (same, goals_ground formula variable_count objects chosen count scoped.1) refl

  pub each-are : (rules : Rules) (lits : List Lit) (ps : Derivations) → ProvesEach rules s.axioms [] lits ps → greatest_height ps ≤ s.height
      → AreProved rules s.axioms (ground_goals lits) ps
  each-are rules [] none each low = tt
  each-are rules (l ∷ lits) (also p ps) each low = (each.0, omega (arith, low), each-are rules lits ps each.1 (omega (arith, low)))
  each-are rules [] (also p ps) each low = absurd each
  each-are rules (l ∷ lits) none each low = absurd each

  are-each : (rules : Rules) (lits : List Lit) (ps : Derivations) → AreProved rules s.axioms (ground_goals lits) ps
      → ProvesEach rules s.axioms [] lits ps × (greatest_height ps ≤ s.height)
  are-each rules [] none are = (tt, omega arith)
  are-each rules (l ∷ lits) (also p ps) are = let later = are-each rules lits ps are.2 in ((are.0, later.0), omega (arith, are.1, later.1))
  are-each rules [] (also p ps) are = absurd are
  are-each rules (l ∷ lits) none are = absurd are

  -- a run on the ground leaves nothing open, and gives each variable an object
  ends_from_runs : IsSetting s → (loose : Bool) (ticks : List Tick) (old chosen : List ℕ) (goals : List Goal)
      → Runs loose s (map (goal_under (object_terms (old ++ chosen))) goals) ticks chosen
      → open_after loose s (length old) goals ticks ≡ Some (record { variables = length (old ++ chosen); goals = [] })
  ends_from_runs valid loose [] old chosen [] runs =
      rw (runs, length-append old []) (ap (λ n. Some (record { variables = n; goals = [] })) (omega arith))
  ends_from_runs valid loose [] old chosen (goal ∷ goals) runs = absurd runs
  ends_from_runs valid loose (tick ∷ ticks) old chosen [] runs = absurd runs
  ends_from_runs valid loose (tick ∷ ticks) old chosen (goal ∷ goals) (theta, rest, splits, long, below, closes) =
      go (closing_at loose s (length old) goal tick) refl
      (rw (same_closing loose s valid old theta rest chosen tick goal splits long) at closes)
      (λ parts. rw (
        regrouped loose s valid old theta rest chosen tick goal splits long,
        longer loose s valid old theta rest chosen tick goal splits long,
      ) at
      (ends_from_runs valid loose ticks (old ++ theta) rest (parts ++ goals)))
    where
      tau : List Term
      tau = object_terms (old ++ chosen)

      go : (o : Option Closing) → closing_at loose s (length old) goal tick ≡ o
          → IsSomeAnd (closing_under (object_terms (old ++ chosen)) o)
          (λ closing. (substitute_literal (object_terms (old ++ chosen)) goal.lit ≡ closing.equal_to)
          × Runs loose s (closing.parts ++ map (goal_under (object_terms (old ++ chosen))) goals) ticks rest)
          → ((parts : List Goal) → Runs loose s (map (goal_under (object_terms (old ++ chosen))) (parts ++ goals)) ticks rest
          → open_after loose s (length old + fresh_of s tick) (parts ++ goals) ticks
          ≡ Some (record { variables = length (old ++ chosen); goals = [] }))
          → open_after loose s (length old) (goal ∷ goals) (tick ∷ ticks) ≡ Some (record { variables = length (old ++ chosen); goals = [] })
      go None is closed later = absurd closed
      go (Some closing) is closed later =
          open_after-step loose s (length old) goal goals tick ticks closing is
          ∙ later closing.parts (rw (map-append (goal_under (object_terms (old ++ chosen))) closing.parts goals) closed.1)

module _ (loose : Bool) (s : Setting) (valid : IsSetting s) (formula : List Atom) (variable_count : ℕ)
    (scoped : AllByRecursion (IsAtomIn s.objects variable_count) formula) where
  pub solves-list : (objects : List ℕ) (ps : Derivations) → IsList (or_open (rules_for loose s)) s formula variable_count objects ps
      → Solves loose s (object_terms (objects ++ all_choices_of ps)) variable_count (goals_of s formula) (ticks_of ps)
      × (open_after loose s variable_count (goals_of s formula) (ticks_of ps)
      ≡ Some (record { variables = length (objects ++ all_choices_of ps); goals = [] }))
  solves-list objects ps is =
      let each = walk_each loose s (literals_of formula objects) ps is.proved in
      let runs : Runs loose s (map (goal_under (object_terms (objects ++ all_choices_of ps))) (goals_of s formula)) (ticks_of ps)
      (all_choices_of ps) =
      rw (goals_ground s formula variable_count objects (all_choices_of ps) is.count scoped)
      (runs_from_trees loose s (length (ticks_of ps)) (ground_goals s (literals_of formula objects)) ps (omega arith)
      (each-are s (rules_of loose s) (literals_of formula objects) ps each is.low)) in (
        rw is.count at (solves_from_runs loose s valid (ticks_of ps) objects (all_choices_of ps) (goals_of s formula) runs),
        rw is.count at (ends_from_runs s valid loose (ticks_of ps) objects (all_choices_of ps) (goals_of s formula) runs),
      )

  pub list-solved : (ticks : List Tick) (objects chosen : List ℕ) → length objects ≡ variable_count → All (λ o. o < s.objects) objects
      → All (λ o. o < s.objects) chosen
      → open_after loose s variable_count (goals_of s formula) ticks ≡ Some (record { variables = length objects + length chosen; goals = [] })
      → Solves loose s (object_terms (objects ++ chosen)) variable_count (goals_of s formula) ticks
      → (ps : Derivations) × IsList (or_open (rules_for loose s)) s formula variable_count objects ps × (ticks_of ps ≡ ticks)
      × (all_choices_of ps ≡ chosen)
  list-solved ticks objects chosen count objects_below chosen_below ends solves =
      let runs : Runs loose s (ground_goals s (literals_of formula objects)) ticks chosen =
      rw (goals_ground s formula variable_count objects chosen count scoped) at
      (runs_from_solves loose s valid ticks objects chosen (goals_of s formula) chosen_below (rw count (rw count at ends))
      (rw count solves)) in
      let trees =
      trees_from_runs loose s ticks (ground_goals s (literals_of formula objects)) chosen
      (all_high (literals_of formula objects)) runs in
      let each = are-each s (rules_of loose s) (literals_of formula objects) trees.0 trees.1 in (
        trees.0,
        record {
          count = count;
          below = objects_below;
          proved = prover_each loose s (literals_of formula objects) trees.0 each.0;
          low = each.1;
        },
        trees.2,
        trees.3,
      )
    where
      all_high : (lits : List Lit) → AllByRecursion (λ goal. 0 < goal.budget) (ground_goals s lits)
      all_high [] = tt
      all_high (l ∷ lits) = (valid.some_height, all_high lits)
