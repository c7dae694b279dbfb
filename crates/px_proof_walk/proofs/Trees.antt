-- Derivations of the goals are closings in preorder.
use Rattle.std.proofs.Common.{◌≡◌, ◌⊎◌, ℕ, zero, suc, ◌+◌, ◌-◌, ◌<◌, ◌≤◌, Bool, true, false, ◌&&◌, ◌||◌, cond, Option, Some, None, List, [], ◌∷◌, ◌++◌, length, map, slice_get, refl, ap, sym, ◌∙◌, arith, inl, inr, append_assoc, length-append}
use Rattle.std.specs.Prelude.{IsSomeAnd, All, nat_le, nat_eq, not}
use Rattle.std.specs.List.{list_any, AllByRecursion}
use Rattle.std.proofs.lemmas.List.{length-map}
use Rattle.std.proofs.lemmas.List.Elements.{All-head, All-tail, All-nil, All-map, All-weaker}
use Rattle.std.proofs.lemmas.Bool.Decides.{nat_tests}
use Rattle.px_proof.specs.Literals.{substitute_literal, complement_of, positive_of}
use Rattle.px_proof.specs.PlaceLaws.{slice_get-within}
use Rattle.px_proof.proofs.Parts.{length-parts_of}
use Rattle.px_terms.specs.declared.term.Term.{Term}
use Rattle.px_terms.specs.declared.term.Term.TheVariants.{Obj, Var, Any}
use Rattle.px_terms.specs.declared.atom.Atom.{Atom}
use Rattle.px_terms.specs.declared.clause.Lit.{Lit}
use Rattle.px_terms.specs.declared.clause.Clause.{Clause}
use Rattle.px_proof.specs.declared.shape.Tick.{Tick}
use Rattle.px_proof.specs.declared.shape.Tick.TheVariants.{Fact, Anc, Step, Gap, Open}
use Rattle.px_proof.specs.Derivation.{Derivation, Derivations, fact, ancestor, step, gap, open_place, none, also, height, greatest_height}
use Rattle.px_proof.specs.Proves.{Rules, Proves, ProvesEach, UsesClause, instance_of, parts_of, or_open, with_gaps}
use Rattle.px_proof.specs.Shapes.{ticks, ticks_of}
use Rattle.px_terms.specs.Language.{IsObjectBelow, object_of}
use Rattle.px_question.specs.Settings.{Setting, proofs_in}
use Rattle.px_question.specs.Answers.{object_terms, choices_of, all_choices_of}
use Rattle.px_proof_walk.specs.Pending.{Goal, Closing, Runs, variable_count_of, closing_of, by_fact, by_ancestor, by_step, by_literal, has_room, goals_below}

-- which closings the walk makes
abbrev pub rules_of : Bool → Setting → Rules
rules_of loose s = or_open (with_gaps (λ atom. (loose ≡ true) × (list_any (nat_eq atom.pred) s.added ≡ true)) (proofs_in s))

-- each derivation proves its goal within the goal's height
abbrev pub AreProved : Rules → List Clause → List Goal → Derivations → Type 0
AreProved rules axioms [] none = Unit {0}
AreProved rules axioms (goal ∷ goals) (also p ps) =
    Proves rules axioms goal.path goal.lit p × (height p ≤ goal.budget) × AreProved rules axioms goals ps
AreProved rules axioms [] (also p ps) = ⊥
AreProved rules axioms (goal ∷ goals) none = ⊥

abbrev pub joined : Derivations → Derivations → Derivations
joined none qs = qs
joined (also p ps) qs = also p (joined ps qs)

pub ticks_of-joined : (ps qs : Derivations) → ticks_of (joined ps qs) ≡ ticks_of ps ++ ticks_of qs
ticks_of-joined none qs = refl
ticks_of-joined (also p ps) qs = ap (λ ts. ticks p ++ ts) (ticks_of-joined ps qs) ∙ sym (append_assoc (ticks p) (ticks_of ps) (ticks_of qs))

pub choices-joined : (ps qs : Derivations) → all_choices_of (joined ps qs) ≡ all_choices_of ps ++ all_choices_of qs
choices-joined none qs = refl
choices-joined (also p ps) qs =
    ap (λ ts. choices_of p ++ ts) (choices-joined ps qs) ∙ sym (append_assoc (choices_of p) (all_choices_of ps) (all_choices_of qs))

height-pos : (p : Derivation) → 0 < height p
height-pos (fact leaf) = omega arith
height-pos (ancestor i) = omega arith
height-pos (step number theta place parts) = omega arith
height-pos (gap a) = omega arith
height-pos open_place = omega arith

module _ (rules : Rules) (axioms : List Clause) where
  -- the parts of a step, as goals of their own
  pub parts-proved : (above : Goal) (lits : List Lit) (parts rest : Derivations) (goals : List Goal)
      → ProvesEach rules axioms (above.lit ∷ above.path) lits parts → greatest_height parts ≤ above.budget - 1
      → AreProved rules axioms goals rest → AreProved rules axioms (goals_below above lits ++ goals) (joined parts rest)
  parts-proved above [] none rest goals each low others = others
  parts-proved above [] (also p ps) rest goals each low others = absurd each
  parts-proved above (l ∷ lits) none rest goals each low others = absurd each
  parts-proved above (l ∷ lits) (also p ps) rest goals each low others =
      (each.0, omega (arith, low), parts-proved above lits ps rest goals each.1 (omega (arith, low)) others)

  -- and back
  pub record Split (above : Goal) (lits : List Lit) (goals : List Goal) (all : Derivations) : Type 0 where
    pub parts : Derivations
    pub rest : Derivations
    pub splits : all ≡ joined parts rest
    pub each : ProvesEach rules axioms (above.lit ∷ above.path) lits parts
    pub low : greatest_height parts ≤ above.budget - 1
    pub others : AreProved rules axioms goals rest

  split : (above : Goal) (lits : List Lit) (goals : List Goal) (all : Derivations)
      → AreProved rules axioms (goals_below above lits ++ goals) all → Split above lits goals all
  split above [] goals all proved = record { parts = none; rest = all; splits = refl; each = tt; low = omega arith; others = proved }
  split above (l ∷ lits) goals none proved = absurd proved
  split above (l ∷ lits) goals (also p ps) proved =
      let later = split above lits goals ps proved.2 in
      record {
        parts = also p later.parts;
        rest = later.rest;
        splits = ap (λ qs. also p qs) later.splits;
        each = (proved.0, later.each);
        low = omega (arith, proved.1, later.low);
        others = later.others;
      }

-- the terms of a step are objects
term-object : (n : ℕ) (t : Term) → IsObjectBelow n t → Obj (object_of t) ≡ t
term-object n (Obj o) is = refl
term-object n (Var v) is = absurd is
term-object n Any is = absurd is

pub terms-objects : (n : ℕ) (theta : List Term) → All (IsObjectBelow n) theta → object_terms (map object_of theta) ≡ theta
terms-objects n [] are = refl
terms-objects n (t ∷ theta) are =
    rw (term-object n t (All-head (IsObjectBelow n) t theta are), terms-objects n theta (All-tail (IsObjectBelow n) t theta are)) refl

object-below : (n : ℕ) (t : Term) → IsObjectBelow n t → object_of t < n
object-below n (Obj o) is = is
object-below n (Var v) is = absurd is
object-below n Any is = absurd is

pub objects-below : (n : ℕ) (theta : List Term) → All (IsObjectBelow n) theta → All (λ o. o < n) (map object_of theta)
objects-below n theta are =
    All-map (λ o. o < n) object_of theta (All-weaker (IsObjectBelow n) (λ t. object_of t < n) (λ t. object-below n t) theta are)

complement-twice : (l : Lit) → complement_of (complement_of l) ≡ l
complement-twice l = ap (λ b. record_lit b) (go l.positive)
  where
    record_lit : Bool → Lit
    record_lit b = record { positive = b; atom = l.atom }

    go : (b : Bool) → not (not b) ≡ b
    go true = refl
    go false = refl

nat_le-true : (m n : ℕ) → m ≤ n → nat_le m n ≡ true
nat_le-true m n le = grind (arith, nat_tests)

pub ticks-pos : (p : Derivation) → 0 < length (ticks p)
ticks-pos (fact leaf) = omega arith
ticks-pos (ancestor i) = omega arith
ticks-pos (step number theta place parts) = omega arith
ticks-pos (gap a) = omega arith
ticks-pos open_place = omega arith

-- a step whose parts fit below it has room
pub has_room-true : (goal : Goal) (clause : Clause) → (length clause.lits ≤ 1) ⊎ (2 ≤ goal.budget) → has_room goal clause ≡ true
has_room-true goal clause (inl h) = rw (nat_le-true (length clause.lits) 1 h) refl
has_room-true goal clause (inr h) = rw (nat_le-true 2 goal.budget h) (or_true (nat_le (length clause.lits) 1))
  where
    or_true : (b : Bool) → b || true ≡ true
    or_true true = refl
    or_true false = refl

module _ (rules : Rules) (axioms : List Clause) where
  pub step_room : (goal : Goal) (number : ℕ) (theta : List Term) (place : ℕ) (parts : Derivations) (clause : Clause)
      → UsesClause rules.IsChoice axioms goal.lit number theta place clause
      → ProvesEach rules axioms (goal.lit ∷ goal.path) (parts_of clause.lits theta place) parts → 1 + greatest_height parts ≤ goal.budget
      → (length clause.lits ≤ 1) ⊎ (2 ≤ goal.budget)
  step_room goal number theta place none clause uses each low = inl (omega (arith, long, no_parts (parts_of clause.lits theta place) each))
    where
      within : place < length clause.lits
      within =
          rw (← length-map clause.lits (substitute_literal theta))
          (slice_get-within (instance_of clause.lits theta) place goal.lit uses.literal_at)

      long : suc (length (parts_of clause.lits theta place)) ≡ length clause.lits
      long = length-parts_of clause.lits theta place within

      no_parts : (lits : List Lit) → ProvesEach rules axioms (goal.lit ∷ goal.path) lits none → length lits ≡ 0
      no_parts [] each = refl
      no_parts (l ∷ lits) each = absurd each
  step_room goal number theta place (also p ps) clause uses each low = inr (omega (arith, low, height-pos p))

module _ (loose : Bool) (s : Setting) where
  pub step_closing : (goal : Goal) (number : ℕ) (theta : List Term) (place : ℕ) (clause : Clause)
      → UsesClause (IsObjectBelow s.objects) s.axioms goal.lit number theta place clause → has_room goal clause ≡ true
      → closing_of loose s theta goal (Step number place)
      ≡ Some (record { equal_to = goal.lit; parts = goals_below goal (parts_of clause.lits theta place) })
  step_closing goal number theta place clause uses room = rw (uses.axiom_at, room, uses.literal_at) refl

  pub runs_from_trees : (fuel : ℕ) (goals : List Goal) (ps : Derivations) → length (ticks_of ps) ≤ fuel
      → AreProved (rules_of loose s) s.axioms goals ps → Runs loose s goals (ticks_of ps) (all_choices_of ps)
  runs_from_trees fuel [] none enough proved = refl
  runs_from_trees fuel [] (also p ps) enough proved = absurd proved
  runs_from_trees fuel (goal ∷ goals) none enough proved = absurd proved
  runs_from_trees zero (goal ∷ goals) (also p ps) enough proved =
      absurd (omega (arith, enough, ticks-pos p, length-append (ticks p) (ticks_of ps)))
  runs_from_trees (suc fuel) (goal ∷ goals) (also (fact leaf) ps) enough proved = (
    [],
    all_choices_of ps,
    refl,
    refl,
    All-nil (λ o. o < s.objects),
    rw proved.0.1.1 (proved.0.0, runs_from_trees fuel goals ps (omega (arith, enough)) proved.2),
  )
  runs_from_trees (suc fuel) (goal ∷ goals) (also (ancestor i) ps) enough proved = (
    [],
    all_choices_of ps,
    refl,
    refl,
    All-nil (λ o. o < s.objects),
    rw proved.0 (sym (complement-twice goal.lit), runs_from_trees fuel goals ps (omega (arith, enough)) proved.2),
  )
  runs_from_trees (suc fuel) (goal ∷ goals) (also (step number theta place parts) ps) enough proved =
      let clause = proved.0.0 in
      let uses = proved.0.1 in
      let same = terms-objects s.objects theta uses.choices in
      let room =
      has_room-true goal clause (step_room (rules_of loose s) s.axioms goal number theta place parts clause uses proved.0.2 proved.1) in
      let later : Runs loose s (goals_below goal (parts_of clause.lits theta place) ++ goals) (ticks_of (joined parts ps))
      (all_choices_of (joined parts ps)) =
      runs_from_trees fuel (goals_below goal (parts_of clause.lits theta place) ++ goals) (joined parts ps)
      (omega (arith, enough, ap length (ticks_of-joined parts ps)))
      (parts-proved (rules_of loose s) s.axioms goal (parts_of clause.lits theta place) parts ps goals proved.0.2
      (omega (arith, proved.1)) proved.2) in (
        map object_of theta,
        all_choices_of (joined parts ps),
        append_assoc (map object_of theta) (all_choices_of parts) (all_choices_of ps)
            ∙ ap (λ xs. map object_of theta ++ xs) (sym (choices-joined parts ps)),
        length-map theta object_of ∙ uses.terms ∙ sym (ap variable_count_of uses.axiom_at),
        objects-below s.objects theta uses.choices,
        rw (same, step_closing goal number theta place clause uses room) (refl, rw (ticks_of-joined parts ps) at later),
      )
  runs_from_trees (suc fuel) (goal ∷ goals) (also (gap a) ps) enough proved =
      let positive : goal.lit.positive ≡ true = ap (λ (l : Lit). l.positive) proved.0.0 in
      let pred : goal.lit.atom.pred ≡ a.pred = ap (λ (l : Lit). l.atom.pred) proved.0.0 in (
        [],
        all_choices_of ps,
        refl,
        refl,
        All-nil (λ o. o < s.objects),
        rw (proved.0.1.0, positive, pred, proved.0.1.1) (refl, runs_from_trees fuel goals ps (omega (arith, enough)) proved.2),
      )
  runs_from_trees (suc fuel) (goal ∷ goals) (also open_place ps) enough proved = (
    [],
    all_choices_of ps,
    refl,
    refl,
    All-nil (λ o. o < s.objects),
    (refl, runs_from_trees fuel goals ps (omega (arith, enough)) proved.2),
  )

  -- what a closing by each tick says
  abbrev pub Rest : Goal → List Goal → List Tick → List ℕ → Closing → Type 0
  Rest goal goals ts rest closing = (goal.lit ≡ closing.equal_to) × Runs loose s (closing.parts ++ goals) ts rest

  fact_inversion : (goal : Goal) (goals : List Goal) (ts : List Tick) (rest : List ℕ) (at : Option Atom)
      → IsSomeAnd (by_fact at) (Rest goal goals ts rest)
      → (a : Atom) × (at ≡ Some a) × (goal.lit ≡ positive_of a) × Runs loose s goals ts rest
  fact_inversion goal goals ts rest None closes = absurd closes
  fact_inversion goal goals ts rest (Some a) closes = (a, refl, closes.0, closes.1)

  ancestor_inversion : (goal : Goal) (goals : List Goal) (ts : List Tick) (rest : List ℕ) (at : Option Lit)
      → IsSomeAnd (by_ancestor at) (Rest goal goals ts rest)
      → (l : Lit) × (at ≡ Some l) × (goal.lit ≡ complement_of l) × Runs loose s goals ts rest
  ancestor_inversion goal goals ts rest None closes = absurd closes
  ancestor_inversion goal goals ts rest (Some l) closes = (l, refl, closes.0, closes.1)

  gap_inversion : (goal : Goal) (goals : List Goal) (ts : List Tick) (rest : List ℕ) (a b c : Bool)
      → IsSomeAnd (cond (a && b && c) (Some (record { equal_to = goal.lit; parts = [] })) None) (Rest goal goals ts rest)
      → (a ≡ true) × (b ≡ true) × (c ≡ true) × Runs loose s goals ts rest
  gap_inversion goal goals ts rest true true true closes = (refl, refl, refl, closes.1)
  gap_inversion goal goals ts rest true true false closes = absurd closes
  gap_inversion goal goals ts rest true false c closes = absurd closes
  gap_inversion goal goals ts rest false b c closes = absurd closes

  literal_inversion : (goal : Goal) (goals : List Goal) (ts : List Tick) (rest : List ℕ) (parts : List Lit) (room : Bool) (at : Option Lit)
      → IsSomeAnd (cond room (by_literal goal parts at) None) (Rest goal goals ts rest)
      → (room ≡ true) × (at ≡ Some goal.lit) × Runs loose s (goals_below goal parts ++ goals) ts rest
  literal_inversion goal goals ts rest parts false at closes = absurd closes
  literal_inversion goal goals ts rest parts true None closes = absurd closes
  literal_inversion goal goals ts rest parts true (Some l) closes = (refl, ap (λ z. Some z) (sym closes.0), closes.1)

  step_inversion : (goal : Goal) (goals : List Goal) (ts : List Tick) (rest : List ℕ) (theta : List Term) (place : ℕ) (at : Option Clause)
      → IsSomeAnd (by_step goal theta place at) (Rest goal goals ts rest)
      → (clause : Clause) × (at ≡ Some clause)
      × ((has_room goal clause ≡ true) × (slice_get (instance_of clause.lits theta) place ≡ Some goal.lit)
      × Runs loose s (goals_below goal (parts_of clause.lits theta place) ++ goals) ts rest)
  step_inversion goal goals ts rest theta place None closes = absurd closes
  step_inversion goal goals ts rest theta place (Some clause) closes = (
    clause,
    refl,
    literal_inversion goal goals ts rest (parts_of clause.lits theta place) (has_room goal clause)
        (slice_get (instance_of clause.lits theta) place) closes,
  )

  no_objects : (theta rest chosen : List ℕ) → chosen ≡ theta ++ rest → length theta ≡ 0 → rest ≡ chosen
  no_objects [] rest chosen e long = sym e
  no_objects (x ∷ theta) rest chosen e long = absurd (omega (arith, long))

  objects_of-under : (theta : List ℕ) → map object_of (object_terms theta) ≡ theta
  objects_of-under [] = refl
  objects_of-under (o ∷ theta) = ap (λ xs. o ∷ xs) (objects_of-under theta)

  two_high : (goal : Goal) (clause : Clause) → has_room goal clause ≡ true → 2 ≤ length clause.lits → 2 ≤ goal.budget
  two_high goal clause room long = grind (arith, nat_tests)

  all_high : (goal : Goal) (lits : List Lit) (goals : List Goal) → ((length lits ≡ 0) ⊎ (2 ≤ goal.budget))
      → AllByRecursion (λ g. 0 < g.budget) goals → AllByRecursion (λ g. 0 < g.budget) (goals_below goal lits ++ goals)
  all_high goal [] goals high heights = heights
  all_high goal (l ∷ lits) goals (inl none_left) heights = absurd (omega (arith, none_left))
  all_high goal (l ∷ lits) goals (inr high) heights = (omega (arith, high), all_high goal lits goals (inr high) heights)

  parts_high : (goal : Goal) (clause : Clause) (parts : List Lit) → has_room goal clause ≡ true → suc (length parts) ≡ length clause.lits
      → (length parts ≡ 0) ⊎ (2 ≤ goal.budget)
  parts_high goal clause [] room long = inl refl
  parts_high goal clause (l ∷ parts) room long = inr (two_high goal clause room (omega (arith, long)))

  -- and back, where each goal has some height
  pub trees_from_runs : (ts : List Tick) (goals : List Goal) (chosen : List ℕ) → AllByRecursion (λ goal. 0 < goal.budget) goals
      → Runs loose s goals ts chosen
      → (ps : Derivations) × AreProved (rules_of loose s) s.axioms goals ps × (ticks_of ps ≡ ts) × (all_choices_of ps ≡ chosen)
  trees_from_runs [] [] chosen heights runs = (none, tt, refl, sym runs)
  trees_from_runs [] (goal ∷ goals) chosen heights runs = absurd runs
  trees_from_runs (t ∷ ts) [] chosen heights runs = absurd runs
  trees_from_runs (Fact i ∷ ts) (goal ∷ goals) chosen heights (theta, rest, splits, long, below, closes) =
      let is = fact_inversion goal goals ts rest (slice_get s.facts i) closes in
      let later = trees_from_runs ts goals rest heights.1 is.3 in (
        also (fact (record { column = 0; index = i; atom = is.0 })) later.0,
        ((is.2, (refl, is.1)), omega (arith, heights.0), later.1),
        ap (λ us. Fact i ∷ us) later.2,
        later.3 ∙ no_objects theta rest chosen splits long,
      )
  trees_from_runs (Anc i ∷ ts) (goal ∷ goals) chosen heights (theta, rest, splits, long, below, closes) =
      let is = ancestor_inversion goal goals ts rest (slice_get goal.path i) closes in
      let later = trees_from_runs ts goals rest heights.1 is.3 in
      let back : complement_of goal.lit ≡ is.0 = ap complement_of is.2 ∙ complement-twice is.0 in (
        also (ancestor i) later.0,
        (is.1 ∙ ap (λ z. Some z) (sym back), omega (arith, heights.0), later.1),
        ap (λ us. Anc i ∷ us) later.2,
        later.3 ∙ no_objects theta rest chosen splits long,
      )
  trees_from_runs (Step number place ∷ ts) (goal ∷ goals) chosen heights (theta, rest, splits, long, below, closes) =
      let is = step_inversion goal goals ts rest (object_terms theta) place (slice_get s.axioms number) closes in
      let uses : UsesClause (IsObjectBelow s.objects) s.axioms goal.lit number (object_terms theta) place is.0 = record {
        axiom_at = is.1;
        terms = length-map theta (λ o. Obj o) ∙ long ∙ ap variable_count_of is.1;
        choices = All-map (IsObjectBelow s.objects) (λ o. Obj o) theta below;
        literal_at = is.2.1;
      } in
      let within : place < length is.0.lits =
      rw (← length-map is.0.lits (substitute_literal (object_terms theta)))
      (slice_get-within (instance_of is.0.lits (object_terms theta)) place goal.lit is.2.1) in
      let parts = parts_of is.0.lits (object_terms theta) place in
      let later =
      trees_from_runs ts (goals_below goal parts ++ goals) rest
      (all_high goal parts goals (parts_high goal is.0 parts is.2.0 (length-parts_of is.0.lits (object_terms theta) place within))
      heights.1) is.2.2 in
      let both = split (rules_of loose s) s.axioms goal parts goals later.0 later.1 in
      let ticks_is : ticks_of both.parts ++ ticks_of both.rest ≡ ts =
      sym (ticks_of-joined both.parts both.rest) ∙ ap ticks_of (sym both.splits) ∙ later.2 in
      let choices_is : all_choices_of both.parts ++ all_choices_of both.rest ≡ rest =
      sym (choices-joined both.parts both.rest) ∙ ap all_choices_of (sym both.splits) ∙ later.3 in (
        also (step number (object_terms theta) place both.parts) both.rest,
        ((is.0, uses, both.each), omega (arith, both.low, heights.0), both.others),
        ap (λ us. Step number place ∷ us) ticks_is,
        append_assoc (map object_of (object_terms theta)) (all_choices_of both.parts) (all_choices_of both.rest)
            ∙ ap (λ xs. xs ++ (all_choices_of both.parts ++ all_choices_of both.rest)) (objects_of-under theta)
            ∙ ap (λ xs. theta ++ xs) choices_is ∙ sym splits,
      )
  trees_from_runs (Gap ∷ ts) (goal ∷ goals) chosen heights (theta, rest, splits, long, below, closes) =
      let is = gap_inversion goal goals ts rest loose goal.lit.positive (list_any (nat_eq goal.lit.atom.pred) s.added) closes in
      let later = trees_from_runs ts goals rest heights.1 is.3 in (
        also (gap goal.lit.atom) later.0,
        ((ap (λ b. signed_lit b goal.lit.atom) is.1, (is.0, is.2)), omega (arith, heights.0), later.1),
        ap (λ us. Gap ∷ us) later.2,
        later.3 ∙ no_objects theta rest chosen splits long,
      )
    where
      signed_lit : Bool → Atom → Lit
      signed_lit b a = record { positive = b; atom = a }
  trees_from_runs (Open ∷ ts) (goal ∷ goals) chosen heights (theta, rest, splits, long, below, closes) =
      let later = trees_from_runs ts goals rest heights.1 closes.1 in (
        also open_place later.0,
        (tt, omega (arith, heights.0), later.1),
        ap (λ us. Open ∷ us) later.2,
        later.3 ∙ no_objects theta rest chosen splits long,
      )
