-- What the smallest searches come to that push nothing, and what is asked about at most one atom.
use Rattle.std.specs.Prelude.{◌≡◌, ◌⊎◌, ◌<◌, ◌≤◌, ℕ, Some, List, [], ◌∷◌, ◌++◌, slice_get, Contains}
use Rattle.std.proofs.Common.{zero, suc, refl, sym, ap, ◌∙◌, subst, inl, inr, arith}
use Rattle.std.proofs.lemmas.List.Elements.{All-nil}
use Rattle.px_base.specs.ListLaws.{Contains-first, Contains-none, Contains-one}
use Rattle.px_terms.specs.declared.atom.Atom.{Atom}
use Rattle.px_terms.specs.declared.instance.OpInst.{OpInst}
use Rattle.px_terms.specs.declared.problem.Problem.{Problem}
use Rattle.px_terms.specs.declared.problem.Schema.{Schema}
use Rattle.px_terms.specs.MergedNamesLaws.{one}
use Rattle.px_proof.specs.declared.proof.Leaf.{Leaf}
use Rattle.px_proof.specs.declared.shape.Tick.{Tick}
use Rattle.px_proof.specs.declared.shape.Tick.TheVariants as tick
use Rattle.px_proof.specs.Derivation.{Derivation, Derivations, fact, ancestor, step, gap, open_place, none, also}
use Rattle.px_proof.specs.LayerLaws.{derivation_of-fact}
use Rattle.px_proof.specs.Proves.{Rules}
use Rattle.px_proof.specs.Shapes.{IsUnfinished, ShapeBefore, ticks_of}
use Rattle.px_question.specs.Answers.{AtMost, IsFirst, IsList, IsProvable, all_choices_of}
use Rattle.px_question.specs.Limits.{AreFewShapes, AreFewerThan, IsPartialShape}
use Rattle.px_question.specs.Settings.{Setting, loose_gaps_in, proofs_in, setting_of}
use Rattle.px_question.proofs.DeterminedLaws.{few_or_limited}
use Rattle.px_table.specs.declared.entry.Move.{Move}
use Rattle.px_table.specs.declared.table.Table.{Table}
use Rattle.px_table.specs.Marks.{marks_from, step_at}
use Rattle.px_gaps.specs.Needs.{HasAnswer}
use Rattle.px_gaps.specs.Questions.{AsksOf, MeetsLimit}
use Rattle.px_gaps.specs.declared.question.Obligation.{Obligation}
use Rattle.px_gaps.specs.declared.question.Question.{Question}
use Rattle.px_gaps.specs.declared.question.Question.TheVariants.{FindingGaps, Proving}
use Rattle.px_ends.specs.Ends.{BeginsWith, IsFound, IsLeastList, IsStop, IsUnlimited, node_of}
use Rattle.px_ends.specs.Made.{IsFirstRow, IsSource, IsTableOfMoves}
use Rattle.px_ends.specs.Order.{IsBefore}
use Rattle.px_ends.specs.Tasks.{IsSolved, Task, goal_from, initial_node, task_of}
use Rattle.px_ends.specs.WorkedEnds.{idle, p, p_at_once, plain_problem}
use Rattle.px_ends.proofs.MoveLaws.{order}

-- ---- the initial node

-- no moves are the least list of the initial node
none_least : (task : Task) → IsLeastList task []
none_least task = record { made = tt; least = λ others can same before. order.first others before }

only_none : (moves : List Move) → Contains ([] ∷ []) moves → [] ≡ moves
only_none moves has = Contains-one [] moves has

pub begins : (task : Task) → BeginsWith task ([] ∷ [])
begins task = record {
  least = λ moves has. subst (IsLeastList task) (only_none moves has) (none_least task);
  ascending = λ i j d less below. absurd (omega (arith, less, below));
  closed = λ moves later has least before. absurd (order.first moves (subst (IsBefore moves) (sym (only_none later has)) before));
}

no_last : (parent : List Move) (m : Move) → ¬ ([] ≡ parent ++ m ∷ [])
no_last [] m e = cc
no_last (k ∷ parent) m e = cc

-- where the initial node is solved, nothing but its goal is asked
pub found_at_once : (task : Task) → 1 ≤ task.nodes → IsSolved task (initial_node task)
    → ((formula : List Atom) (shapes : List (List Tick)) → ¬ MeetsLimit task.problem (Proving (goal_from task task.initial)) formula shapes)
    → IsFound task []
found_at_once task some solved below = record { unlimited = unlimited; earlier = []; stop = stop; room = some }
  where
    stop : IsStop task [] []
    stop =
        record { beginning = begins task; unsolved = λ moves has. absurd (Contains-none moves has); room = omega arith; stops = inl solved }

    unlimited : IsUnlimited task
    unlimited moves question formula shapes (inl (gone, asks)) met =
        let made = gone.early [] [] stop in absurd (no_last made.0 made.1 made.2)
    unlimited moves question formula shapes (inr (tested, is)) met = elim (tested.early [] [] stop) [
      | inl before ↦ order.first moves before
      | inr here ↦
          let same : question ≡ Proving (goal_from task task.initial) =
          is ∙ ap (λ (ms : List Move). Proving (goal_from task (node_of task ms).model)) here.0 in
          below formula shapes (subst (λ (q : Question). MeetsLimit task.problem q formula shapes) same met)
    ]

-- ---- nothing to reach

no_shape : (rules : Rules) (s : Setting) (shape : List Tick) → ¬ IsPartialShape rules s [] 0 shape
no_shape rules s shape (unfinished, (objects, none, is, same)) = subst IsUnfinished (sym same) unfinished
no_shape rules s shape (unfinished, (objects, also d ds, is, same)) = is.proved

pub nothing_to_reach : (problem : Problem) (tables : List Table) (initial : List Atom) → 1 ≤ problem.nodes → 2 ≤ problem.shapes
    → IsFound (task_of problem tables initial [] 0) []
nothing_to_reach problem tables initial some shapes =
    found_at_once (task_of problem tables initial [] 0) some
    (refl, ([], none, record { count = refl; below = All-nil (λ (n : ℕ). n < problem.objects); proved = tt; low = omega arith }))
    (λ formula kept met. few_or_limited.proofs (setting_of problem initial) [] 0 kept few met.1)
  where
    setting : Setting
    setting = setting_of problem initial

    few : AreFewShapes setting [] 0
    few = record { seen = []; fewer = omega (arith, shapes); all = λ shape is. absurd (no_shape (proofs_in setting) setting shape is) }

-- ---- at most one atom, without axioms

abbrev open_one : List Tick
open_one = tick.Open ∷ []

-- the only unfinished list of one atom is open
only_open : (schemas : List Schema) (nodes : ℕ) (facts : List Atom) (atom : Atom) (rules : Rules) (shape : List Tick)
    → IsPartialShape rules (setting_of (plain_problem schemas nodes) facts) (atom ∷ []) 0 shape → open_one ≡ shape
only_open schemas nodes facts atom rules shape (unfinished, (objects, none, is, same)) = absurd is.proved
only_open schemas nodes facts atom rules shape (unfinished, (objects, also d (also e ds), is, same)) = absurd is.proved.1
only_open schemas nodes facts atom rules shape (unfinished, (objects, also (fact leaf) none, is, same)) =
    absurd (subst IsUnfinished (sym same) unfinished)
only_open schemas nodes facts atom rules shape (unfinished, (objects, also (ancestor i) none, is, same)) =
    let at = is.proved.0 in absurd (cc)
only_open schemas nodes facts atom rules shape (unfinished, (objects, also (step number theta place parts) none, is, same)) =
    let at = is.proved.0.1.axiom_at in absurd (cc)
only_open schemas nodes facts atom rules shape (unfinished, (objects, also (gap closed) none, is, same)) =
    absurd (subst IsUnfinished (sym same) unfinished)
only_open schemas nodes facts atom rules shape (unfinished, (objects, also open_place none, is, same)) = same

-- no atom or one
abbrev pub IsSmall : List Atom → Type 0
IsSmall [] = Unit {0}
IsSmall (atom ∷ []) = Unit {0}
IsSmall (atom ∷ other ∷ atoms) = ⊥

few_shapes : (schemas : List Schema) (nodes : ℕ) (facts formula : List Atom) (rules : Rules) → IsSmall formula
    → AreFewerThan (IsPartialShape rules (setting_of (plain_problem schemas nodes) facts) formula 0) 2
few_shapes schemas nodes facts [] rules small = record {
  seen = [];
  fewer = omega arith;
  all = λ shape is. absurd (no_shape rules (setting_of (plain_problem schemas nodes) facts) shape is);
}
few_shapes schemas nodes facts (atom ∷ []) rules small = record {
  seen = open_one ∷ [];
  fewer = omega arith;
  all = λ shape is.
      subst (Contains (open_one ∷ [])) (only_open schemas nodes facts atom rules shape is) (Contains-first open_one []);
}
few_shapes schemas nodes facts (atom ∷ other ∷ atoms) rules small = absurd small

-- the formula, proved from the facts
abbrev pub needed_from : List Atom → List Atom → Obligation
needed_from facts formula = record { formula = formula; variable_count = 0; facts = facts }

-- no question about at most one atom meets the limit
pub proving_below : (schemas : List Schema) (nodes : ℕ) (facts formula : List Atom) → IsSmall formula → (kept : List Atom)
    (shapes : List (List Tick)) → ¬ MeetsLimit (plain_problem schemas nodes) (Proving (needed_from facts formula)) kept shapes
proving_below schemas nodes facts formula small kept shapes met =
    let setting : Setting = setting_of (plain_problem schemas nodes) facts in
    few_or_limited.proofs setting formula 0 shapes (few_shapes schemas nodes facts formula (proofs_in setting) small) met.1

gaps_below : (schemas : List Schema) (nodes : ℕ) (facts formula : List Atom) → IsSmall formula → (kept : List Atom)
    (shapes : List (List Tick)) → ¬ MeetsLimit (plain_problem schemas nodes) (FindingGaps (needed_from facts formula)) kept shapes
gaps_below schemas nodes facts formula small kept shapes met =
    let setting : Setting = setting_of (plain_problem schemas nodes) facts in
    few_or_limited.gaps_below setting formula 0 kept shapes
    (record {
      shapes = few_shapes schemas nodes facts formula (loose_gaps_in setting) small;
      atoms = λ atom loose. inr (few_shapes schemas nodes facts (atom ∷ []) (proofs_in setting) tt);
    }) met

pub small_below : (schemas : List Schema) (nodes : ℕ) (facts formula : List Atom) → IsSmall formula → (question : Question)
    → AsksOf (plain_problem schemas nodes) (needed_from facts formula ∷ []) question → (kept : List Atom) (shapes : List (List Tick))
    → ¬ MeetsLimit (plain_problem schemas nodes) question kept shapes
small_below schemas nodes facts formula small question (zero, needed, within, is, asks) kept shapes met = of_needed asks
  where
    of_needed : ¬ ((question ≡ Proving needed) ⊎ ((¬ HasAnswer (plain_problem schemas nodes) needed) × (question ≡ FindingGaps needed)))
    of_needed (inl proving) =
        proving_below schemas nodes facts formula small kept shapes
        (subst (λ (q : Question). MeetsLimit (plain_problem schemas nodes) q kept shapes) (proving ∙ ap Proving (sym is)) met)
    of_needed (inr finding) =
        gaps_below schemas nodes facts formula small kept shapes
        (subst (λ (q : Question). MeetsLimit (plain_problem schemas nodes) q kept shapes) (finding.1 ∙ ap FindingGaps (sym is)) met)
small_below schemas nodes facts formula small question (suc k, needed, within, is, asks) kept shapes met = omega (arith, within)

-- P where it is a fact
abbrev pub p_leaf : Leaf
p_leaf = record { column = 0; index = 0; atom = p }

abbrev from_p : Task
from_p = task_of idle [] (p ∷ []) (p ∷ []) 0

pub p_proof : (schemas : List Schema) (nodes : ℕ) → IsList (proofs_in (setting_of (plain_problem schemas nodes) (p ∷ [])))
    (setting_of (plain_problem schemas nodes) (p ∷ [])) (p ∷ []) 0 [] (also (fact p_leaf) none)
p_proof schemas nodes = record { count = refl; below = All-nil (λ (n : ℕ). n < 0); proved = ((refl, (refl, refl)), tt); low = omega arith }

pub there : IsFound from_p []
there =
    found_at_once from_p (omega arith) (refl, ([], also (fact p_leaf) none, p_proof [] 1))
    (proving_below [] 1 (p ∷ []) (p ∷ []) tt)

-- no atom is proved from no facts
pub no_proof : (schemas : List Schema) (nodes : ℕ) (atom : Atom) → ¬ IsProvable (setting_of (plain_problem schemas nodes) []) atom
no_proof schemas nodes atom (objects, none, is) = is.proved
no_proof schemas nodes atom (objects, also d (also e ds), is) = is.proved.1
no_proof schemas nodes atom (objects, also (fact leaf) none, is) = let at = is.proved.0.1.1 in cc
no_proof schemas nodes atom (objects, also (ancestor i) none, is) = let at = is.proved.0 in cc
no_proof schemas nodes atom (objects, also (step number theta place parts) none, is) = let at = is.proved.0.1.axiom_at in cc
no_proof schemas nodes atom (objects, also (gap closed) none, is) = is.proved.0.1
no_proof schemas nodes atom (objects, also open_place none, is) = is.proved.0

-- ---- the table

first_place : (k : ℕ) (atom : Atom) → slice_get (p ∷ []) k ≡ Some atom → k ≡ 0
first_place zero atom at = refl
first_place (suc k) atom at = absurd (cc)

p_first : IsFirst (setting_of idle (p ∷ [])) (p ∷ []) 0 [] (also (fact p_leaf) none)
p_first = record { finished = p_proof [] 1; least = least }
  where
    least : (others : List ℕ) (es : Derivations)
        → IsList (proofs_in (setting_of idle (p ∷ []))) (setting_of idle (p ∷ [])) (p ∷ []) 0 others es
        → ShapeBefore (tick.Fact 0 ∷ []) (ticks_of es) ⊎ ((tick.Fact 0 ∷ [] ≡ ticks_of es) × AtMost [] (others ++ all_choices_of es))
    least others none is = absurd is.proved
    least others (also d (also e ds)) is = absurd is.proved.1
    least others (also (fact leaf) none) is =
        inr (ap (λ (n : ℕ). tick.Fact n ∷ []) (sym (first_place leaf.index leaf.atom is.proved.0.1.1)), tt)
    least others (also (ancestor i) none) is = let at = is.proved.0 in absurd (cc)
    least others (also (step number theta place parts) none) is = let at = is.proved.0.1.axiom_at in absurd (cc)
    least others (also (gap atom) none) is = absurd is.proved.0.1
    least others (also open_place none) is = absurd is.proved.0

no_step : (k : ℕ) (inst : OpInst) → ¬ (step_at [] k ≡ Some inst)
no_step zero inst at = cc
no_step (suc k) inst at = cc

p_source : IsSource idle [] p_leaf
p_source =
    record { initial = λ first. refl; adder = λ later. absurd (omega (arith, later)); last = λ k inst later at added. no_step k inst at }

p_row : IsFirstRow idle [] (p ∷ []) (p ∷ []) 0 (fact p_leaf ∷ [])
p_row = (
  [],
  fact p_leaf ∷ [],
  p_first,
  ((p_leaf ∷ [], refl, one (IsSource idle []) p_leaf p_source, refl), tt),
)

pub table_there : IsTableOfMoves from_p [] p_at_once
table_there = record {
  params = refl;
  steps = refl;
  goal = refl;
  goal_variable_count = refl;
  rows = (fact p_leaf ∷ [], p_row, ap (λ (d : Derivation). (d ∷ []) ∷ []) (derivation_of-fact p_leaf));
  marks = ap (λ (d : Derivation). marks_from 1 ((d ∷ []) ∷ [])) (sym (derivation_of-fact p_leaf));
  param_sorts = refl;
}
