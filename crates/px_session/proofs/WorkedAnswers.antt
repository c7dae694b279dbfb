-- The worked script has these lawful replies, with this text; and the demo is as worked out.
use Rattle.std.specs.Prelude.{◌≡◌, ◌≢◌, ◌<◌, ◌&&◌, ℕ, length, slice_get, true, false, Some, List, [], ◌∷◌, All, Contains}
use Rattle.std.proofs.Common.{zero, suc, refl, sym, subst, inl, arith}
use Rattle.std.proofs.lemmas.List.Elements.{All-nil}
use Rattle.std.specs.Fmt.{digits}
use Rattle.std.specs.List.Sorted.{IsStrictlySortedBy}
use Rattle.std.specs.Cmp.Lexicographic.{pointwise, slice_cmp}
use Rattle.std.specs.Ordering.{nat_cmp}
use Rattle.std.specs.declared.cmp.Ordering.TheVariants.{Less}
use Rattle.px_base.specs.ListLaws.{Contains-first, Contains-none, All-at}
use Rattle.px_base.specs.Sets.{with_item}
use Rattle.px_terms.specs.declared.atom.Atom.{Atom}
use Rattle.px_terms.specs.declared.instance.OpInst.{OpInst}
use Rattle.px_terms.specs.AtomSets.{IsAtomSet}
use Rattle.px_terms.specs.MergedNamesLaws.{one}
use Rattle.px_proof.specs.Derivation.{Derivation, fact}
use Rattle.px_proof.specs.LayerLaws.{derivation_of-fact}
use Rattle.px_proof.specs.declared.proof.Leaf.{Leaf}
use Rattle.px_table.specs.declared.mark.Mark.{Mark}
use Rattle.px_table.specs.Deciding.{is_table, rows_are_table}
use Rattle.px_table.specs.Kernels.{IsProper, atom_under, kernel_under}
use Rattle.px_table.specs.Marks.{IsKept, mark_eq, marks_from, step_at}
use Rattle.px_table.specs.Tables.{IsTable, rows_of}
use Rattle.px_table.proofs.DecidingLaws.{tables_are_decided}
use Rattle.px_match.specs.Matching.{IsHighest, KernelInstance, NoKernelFits}
use Rattle.px_planex.specs.declared.event.Outcome.TheVariants.{Goal, NoKernel}
use Rattle.px_planex.specs.Execution.{nothing_sensed}
use Rattle.px_planex.specs.Turns.{Recorded}
use Rattle.px_ends.specs.WorkedEnds.{idle, p, p_at_once}
use Rattle.px_ends.specs.Tasks.{task_of}
use Rattle.px_ends.proofs.Operators.{end_facts}
use Rattle.px_ends.proofs.WorkedByValue.{not_there_by_value, there_by_value}
use Rattle.px_world.specs.declared.edits.AtomEdit.TheVariants.{Add, Remove}
use Rattle.px_library.specs.Libraries.{no_tables, with_table}
use Rattle.px_session.specs.Lawful.{FindsPlan, IsRunOf, recorded_for}
use Rattle.px_session.specs.Sessions.{Edit, SessionState, of_atoms, opening}
use Rattle.px_session.specs.Transcripts.{AreAnswersTo}
use Rattle.px_session.specs.WorkedDemo.{WorkedDemoLine}
use Rattle.px_session.specs.WorkedSession.{WorkedSession, at_goal, at_nothing, idle_answers, idle_script}
use Rattle.px_session.proofs.WorkedBytes.{idle_spelt}

-- ---- the table of no steps

abbrev p_leaf : Leaf
p_leaf = record { column = 0; index = 0; atom = p }

abbrev p_mark : Mark
p_mark = record { atom = p; row = 1; column = 0; index = 0 }

rows-are : rows_of p_at_once.proofs ≡ (fact p_leaf ∷ []) ∷ []
rows-are = λ i. (derivation_of-fact p_leaf i ∷ []) ∷ []

tested : is_table idle p_at_once ≡ true
tested =
    subst (λ (made : List (List Derivation)). (rows_are_table idle p_at_once.params p_at_once.param_sorts p_at_once.steps p_at_once.goal
    p_at_once.goal_variable_count made && pointwise mark_eq p_at_once.marks (marks_from 1 made)) ≡ true)
    (sym rows-are) refl

is-table : IsTable idle p_at_once
is-table = (tables_are_decided idle p_at_once).0 tested

no-step : (k : ℕ) (inst : OpInst) → ¬ (step_at [] k ≡ Some inst)
no-step zero inst at = cc
no-step (suc k) inst at = cc

is-proper : (objects : List ℕ) (i : ℕ) → IsProper idle p_at_once objects i
is-proper objects i = one (λ (mark : Mark). IsKept idle [] i
    (record { atom = atom_under objects mark.atom; row = mark.row; column = mark.column; index = mark.index })) p_mark
    (λ k inst low after before at deleted. no-step k inst at)

-- ---- the states

abbrev gone : Recorded Edit
gone = recorded_for 1 false (of_atoms (Remove p) ∷ [])

abbrev back : Recorded Edit
back = recorded_for 1 false (of_atoms (Add p) ∷ [])

abbrev later_gone : Recorded Edit
later_gone = recorded_for 2 false (of_atoms (Remove p) ∷ [])

abbrev state : List Atom → List (Recorded Edit) → SessionState
state atoms recorded = record { atoms = atoms; plans = with_table no_tables 0 p_at_once; learned = no_tables; recorded = recorded }

-- ---- the replies

finds : FindsPlan (task_of idle [] (p ∷ []) (p ∷ []) 0) 0 (opening (p ∷ []) []) 0 [] (state (p ∷ []) [])
finds = record {
  moves = [];
  found = there_by_value idle.weight;
  counted = refl;
  taken = refl;
  made = p_at_once;
  table = end_facts.table_there;
  stored = refl;
}

set-nothing : IsAtomSet []
unfolding IsStrictlySortedBy
set-nothing = tt

set-p : IsAtomSet (p ∷ [])
unfolding IsStrictlySortedBy
set-p = (tt, tt)

-- nothing fits where P is gone
nothing-fits : NoKernelFits idle p_at_once [] []
nothing-fits i objects fits =
    let first : i ≡ 1 = omega (arith, fits.from_one, fits.to_goal) in
    Contains-none p (All-at (Contains []) (kernel_under p_at_once objects 1) p
    (subst (λ n. All (Contains []) (kernel_under p_at_once objects n)) first fits.holds) (Contains-first p []))

abbrev goal_kernel : KernelInstance
goal_kernel = record { number = 1; objects = [] }

-- and where it is true, the goal does
goal-fits : IsHighest idle p_at_once [] (p ∷ []) goal_kernel
goal-fits = record {
  fits = record {
    from_one = omega arith;
    to_goal = omega arith;
    instantiation = record { count = refl; objects = All-nil (λ n. n < 0) };
    extends = All-nil (λ (pair : ℕ × ℕ). (k : ℕ) × (pair.0 ≡ suc k) × (slice_get [] k ≡ Some pair.1));
    fitting = λ k below. absurd (omega (arith, below));
    proper = is-proper [] 1;
    holds = one (Contains (p ∷ [])) p (Contains-first p []);
  };
  highest = λ j others fits. fits.to_goal;
  first = λ others fits. not-less others fits.instantiation.count;
}
  where
    not-less : (others : List ℕ) → length others ≡ 0 → slice_cmp nat_cmp others [] ≢ Less
    not-less [] count e = cc
    not-less (n ∷ others) count e = absurd (cc)

lost-run : IsRunOf idle 0 [] (state (p ∷ []) (gone ∷ [])) (at_nothing ∷ []) (state [] [])
lost-run = record {
  table = p_at_once;
  named = refl;
  known = refl;
  after = [];
  runs = (
    nothing_sensed,
    (
      record { atoms = []; memory = nothing_sensed },
      (NoKernel, (record { atoms = []; memory = nothing_sensed }, (nothing-fits, refl), (refl, refl))),
      inl (tt, refl, refl),
    ),
  );
  changed = refl;
}

goal-run : IsRunOf idle 0 [] (state [] (back ∷ later_gone ∷ [])) (at_goal ∷ []) (state (p ∷ []) [])
unfolding with_item
goal-run = record {
  table = p_at_once;
  named = refl;
  known = refl;
  after = p ∷ [];
  runs = (
    nothing_sensed,
    (
      record { atoms = p ∷ []; memory = nothing_sensed },
      (Goal, (record { atoms = p ∷ []; memory = nothing_sensed }, (goal_kernel, goal-fits, refl, refl), (refl, refl))),
      inl (tt, refl, refl),
    ),
  );
  changed = refl;
}

lawful : AreAnswersTo idle_script idle_answers
lawful = record {
  last = state (p ∷ []) [];
  lawful = (
    state (p ∷ []) [],
    (refl, finds),
    (
      state (p ∷ []) [],
      (refl, refl, refl),
      (
        state (p ∷ []) (gone ∷ []),
        (refl, refl),
        (
          state [] [],
          (refl, lost-run),
          (
            state [] [],
            (refl, set-nothing, refl),
            (
              state [] [],
              (refl, not_there_by_value idle.weight, refl),
              (
                state [] [],
                (refl, refl, refl),
                (
                  state [] (back ∷ []),
                  (refl, refl),
                  (
                    state [] (back ∷ []),
                    (refl, refl, refl),
                    (
                      state [] (back ∷ later_gone ∷ []),
                      (refl, refl),
                      (
                        state (p ∷ []) [],
                        (refl, goal-run),
                        (
                          state (p ∷ []) [],
                          (refl, set-p, refl),
                          (state (p ∷ []) [], (refl, refl, refl), refl),
                        ),
                      ),
                    ),
                  ),
                ),
              ),
            ),
          ),
        ),
      ),
    ),
  );
}

pub worked_session : WorkedSession
unfolding digits
worked_session = record {
  lawful = lawful;
  text = refl;
  transcript = record { script = idle_script; spelt = idle_spelt; answers = idle_answers; lawful = lawful; text_is = refl };
}

pub worked_demo : WorkedDemoLine
unfolding digits
worked_demo = record { line = refl }
