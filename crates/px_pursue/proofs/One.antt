-- A pursuit is determined.
use Rattle.std.specs.Prelude.{◌≡◌, ◌⊎◌, ℕ, ◌+◌, List, [], ◌∷◌, ◌++◌, length}
use Rattle.std.proofs.Common.{zero, suc, refl, sym, ap, ◌∙◌, subst, inl, inr, arith}
use Rattle.std.proofs.lemmas.List.{append_assoc, length-append}
use Rattle.px_terms.specs.declared.atom.Atom.{Atom}
use Rattle.px_terms.specs.declared.problem.Problem.{Problem}
use Rattle.px_table.specs.declared.entry.Move.{Move}
use Rattle.px_table.specs.declared.table.Table.{Table}
use Rattle.px_ends.proofs.MadeOne.{tables_are_one}
use Rattle.px_ends.specs.Made.{IsTableOfMoves}
use Rattle.px_ends.specs.Tasks.{Task, task_of}
use Rattle.px_planex.specs.Execution.{Running, nothing_sensed}
use Rattle.px_planex.specs.Executors.{running}
use Rattle.px_planex.specs.Turns.{AtGoal, AtNoKernel, Recorded, TakesTurns, TurnValue}
use Rattle.px_planex.proofs.OneRun.{turns_once}
use Rattle.px_turns.specs.Told.{EndsRun}
use Rattle.px_printer.specs.declared.pursue_end.PursueEnd.{PursueEnd}
use Rattle.px_printer.specs.declared.pursue_end.PursueEnd.TheVariants.{Goal, Exhausted, NodeLimit, ShapeLimit}
use Rattle.px_pursue.specs.Pursuits.{EndsBy, IsPursuit, RunsInVain, RunsPlan}
use Rattle.px_pursue.specs.PursuitLaws.{AreSameEnds, PursuitsAreOne}
use Rattle.px_pursue.specs.Searches.{EndsWithoutPlan}
use Rattle.px_pursue.proofs.SearchLaws.{ends-alike, found-no_end, found-once}

-- a run has one end
one_way : (run : List TurnValue) → EndsRun AtGoal run → ¬ EndsRun AtNoKernel run
one_way [] goal none = goal
one_way (turn ∷ []) goal none = let e : AtGoal ≡ AtNoKernel = sym goal ∙ none in absurd (cc (e))
one_way (turn ∷ next ∷ run) goal none = one_way (next ∷ run) goal none

module _ {E : Type 0} (leaves : E → List Atom → List Atom) (problem : Problem) (tables : List Table) (goal : List Atom) (variable_count : ℕ)
    (recorded : List (Recorded E)) where
  abbrev Plan : ℕ → List Atom → List TurnValue → List Atom → Type 0
  Plan = RunsPlan leaves problem tables goal variable_count recorded

  abbrev Vain : ℕ → ℕ → List Atom → List TurnValue → List Atom → Type 0
  Vain = RunsInVain leaves problem tables goal variable_count recorded

  abbrev Ends : ℕ → List Atom → List TurnValue → PursueEnd → List Atom → Type 0
  Ends = EndsBy leaves problem tables goal variable_count recorded

  abbrev from : List Atom → Task
  from atoms = task_of problem tables atoms goal variable_count

  -- ---- one run

  one_run : (number : ℕ) (atoms : List Atom) (run others : List TurnValue) (after later : List Atom)
      → Plan number atoms run after → Plan number atoms others later → (run ≡ others) × (after ≡ later)
  one_run number atoms run others after later a b =
      let moves = found-once (from atoms) a.moves b.moves a.found b.found in
      let plan : a.plan ≡ b.plan = tables_are_one (from atoms) a.moves a.plan b.plan a.made
      (subst (λ (ms : List Move). IsTableOfMoves (from atoms) ms b.plan) (sym moves) b.made) in
      let once = turns_once leaves problem a.plan [] recorded run others number (running atoms nothing_sensed)
      (running after a.memory) (running later b.memory) a.takes
      (subst (λ (t : Table). TakesTurns leaves problem t [] recorded number (running atoms nothing_sensed) others (running later b.memory))
      (sym plan) b.takes) in
      (once.0, ap (λ (r : Running). r.atoms) once.1)

  -- ---- the last search

  -- it leads to the goal, or it ends without a plan
  abbrev Reaches : ℕ → List Atom → List TurnValue → PursueEnd → List Atom → Type 0
  Reaches number atoms run end after = (end ≡ Goal) × Plan number atoms run after × EndsRun AtGoal run

  abbrev Gives_up : List Atom → List TurnValue → PursueEnd → List Atom → Type 0
  Gives_up atoms run end after = EndsWithoutPlan (from atoms) end × (run ≡ []) × (after ≡ atoms)

  two_ways : (number : ℕ) (atoms : List Atom) (run : List TurnValue) (end : PursueEnd) (after : List Atom)
      → Ends number atoms run end after → Reaches number atoms run end after ⊎ Gives_up atoms run end after
  two_ways number atoms run Goal after ends = inl (refl, ends.0, ends.1)
  two_ways number atoms run Exhausted after ends = inr ends
  two_ways number atoms run (NodeLimit nodes moves) after ends = inr ends
  two_ways number atoms run (ShapeLimit node limit) after ends = inr ends

  abbrev Same : List TurnValue → List TurnValue → PursueEnd → PursueEnd → List Atom → List Atom → Type 0
  Same turns others end also after later = (turns ≡ others) × AreSameEnds end also × (after ≡ later)

  one_end : (number : ℕ) (atoms : List Atom) (run others : List TurnValue) (end also : PursueEnd) (after later : List Atom)
      → Reaches number atoms run end after ⊎ Gives_up atoms run end after
      → Reaches number atoms others also later ⊎ Gives_up atoms others also later → Same run others end also after later
  one_end number atoms run others end also after later (inl a) (inl b) =
      let same = one_run number atoms run others after later a.1 b.1 in (same.0, inl (a.0 ∙ sym b.0), same.1)
  one_end number atoms run others end also after later (inl a) (inr b) = absurd (found-no_end (from atoms) a.1.moves also a.1.found b.0)
  one_end number atoms run others end also after later (inr a) (inl b) = absurd (found-no_end (from atoms) b.1.moves end b.1.found a.0)
  one_end number atoms run others end also after later (inr a) (inr b) =
      (a.1 ∙ sym b.1, ends-alike (from atoms) end also a.0 b.0, a.2 ∙ sym b.2)

  -- a run in vain isn't that of the last search
  not_last : (number : ℕ) (atoms : List Atom) (run others : List TurnValue) (end : PursueEnd) (after mid : List Atom)
      → Reaches number atoms run end after ⊎ Gives_up atoms run end after → Plan number atoms others mid → ¬ EndsRun AtNoKernel others
  not_last number atoms run others end after mid (inl a) plan ends =
      let same = one_run number atoms run others after mid a.1 plan in
      one_way others (subst (EndsRun AtGoal) same.0 a.2) ends
  not_last number atoms run others end after mid (inr a) plan ends = found-no_end (from atoms) plan.moves end plan.found a.0

  -- ---- all searches

  abbrev Pursues : ℕ → ℕ → List Atom → List TurnValue → PursueEnd → List Atom → Type 0
  Pursues count number atoms turns end after =
      (before last : List TurnValue) × ((mid : List Atom) × (turns ≡ before ++ last) × Vain count number atoms before mid
      × Ends (number + length before) mid last end after)

  -- where no run was in vain
  at_once : (number : ℕ) (atoms : List Atom) (turns : List TurnValue) (end : PursueEnd) (after : List Atom)
      → Pursues 0 number atoms turns end after → Ends number atoms turns end after
  at_once number atoms turns end after (before, last, (mid, are, vain, ends)) =
      let none : number + length before ≡ number = omega (arith, ap length vain.0) in
      let turns_are : turns ≡ last = are ∙ ap (λ (ts : List TurnValue). ts ++ last) vain.0 in
      subst (λ (ts : List TurnValue). Ends number atoms ts end after) (sym turns_are)
      (subst (λ (m : List Atom). Ends number m last end after) vain.1 (subst (λ k. Ends k mid last end after) none ends))

  -- the first run was in vain, and the others follow
  abbrev Continues : ℕ → ℕ → List Atom → List TurnValue → PursueEnd → List Atom → Type 0
  Continues count number atoms turns end after =
      (run rest : List TurnValue) × ((mid : List Atom) × Plan number atoms run mid × EndsRun AtNoKernel run × (turns ≡ run ++ rest)
      × Pursues count (number + length run) mid rest end after)

  continues : (count number : ℕ) (atoms : List Atom) (turns : List TurnValue) (end : PursueEnd) (after : List Atom)
      → Pursues (suc count) number atoms turns end after → Continues count number atoms turns end after
  continues count number atoms turns end after (before, last, (mid, are, (run, rest, (next, plan, ended, before_are, vain)), ends)) =
      let place : number + length before ≡ (number + length run) + length rest =
      omega (arith, ap length before_are, length-append run rest) in (
        run,
        rest ++ last,
        (
          next,
          plan,
          ended,
          are ∙ ap (λ (ts : List TurnValue). ts ++ last) before_are ∙ append_assoc run rest last,
          (rest, last, (mid, refl, vain, subst (λ k. Ends k mid last end after) place ends)),
        ),
      )

  one_pursuit : (count others number : ℕ) (atoms : List Atom) (turns more : List TurnValue) (end also : PursueEnd) (after later : List Atom)
      → Pursues count number atoms turns end after → Pursues others number atoms more also later
      → (count ≡ others) × Same turns more end also after later
  one_pursuit zero zero number atoms turns more end also after later a b = (
    refl,
    one_end number atoms turns more end also after later
        (two_ways number atoms turns end after (at_once number atoms turns end after a))
        (two_ways number atoms more also later (at_once number atoms more also later b)),
  )
  one_pursuit zero (suc others) number atoms turns more end also after later a b =
      let goes = continues others number atoms more also later b in
      absurd (not_last number atoms turns goes.0 end after goes.2.0
      (two_ways number atoms turns end after (at_once number atoms turns end after a)) goes.2.1 goes.2.2)
  one_pursuit (suc count) zero number atoms turns more end also after later a b =
      let goes = continues count number atoms turns end after a in
      absurd (not_last number atoms more goes.0 also later goes.2.0
      (two_ways number atoms more also later (at_once number atoms more also later b)) goes.2.1 goes.2.2)
  one_pursuit (suc count) (suc others) number atoms turns more end also after later a b =
      both (continues count number atoms turns end after a) (continues others number atoms more also later b)
      (λ run mid rest rest_too p q. one_pursuit count others (number + length run) mid rest rest_too end also after later p q)
    where
      both : Continues count number atoms turns end after → Continues others number atoms more also later
          → ((run : List TurnValue) (mid : List Atom) (rest rest_too : List TurnValue)
          → Pursues count (number + length run) mid rest end after
          → Pursues others (number + length run) mid rest_too also later → (count ≡ others) × Same rest rest_too end also after later)
          → (suc count ≡ suc others) × Same turns more end also after later
      both (run, rest, (mid, plan, ended, are, later_on)) (run_too, rest_too, (mid_too, plan_too, ended_too, are_too, later_too)) go =
          let same = one_run number atoms run run_too mid mid_too plan plan_too in
          let moved : Pursues others (number + length run) mid rest_too also later =
          subst (λ (m : List Atom). Pursues others (number + length run) m rest_too also later) (sym same.1)
          (subst (λ (ts : List TurnValue). Pursues others (number + length ts) mid_too rest_too also later) (sym same.0) later_too) in
          let rests = go run mid rest rest_too later_on moved in (
            ap suc rests.0,
            (
              are ∙ ap (λ (ts : List TurnValue). ts ++ rest) same.0 ∙ ap (λ (ts : List TurnValue). run_too ++ ts) rests.1.0 ∙ sym are_too,
              rests.1.1,
              rests.1.2,
            ),
          )

  pursued : (atoms : List Atom) (searches : ℕ) (turns : List TurnValue) (end : PursueEnd) (after : List Atom)
      → (is : IsPursuit leaves problem tables goal variable_count recorded atoms searches turns end after)
      → Pursues is.in_vain 1 atoms turns end after
  pursued atoms searches turns end after is =
      let place : length is.before + 1 ≡ 1 + length is.before = omega arith in
      (is.before, is.last, (is.mid, is.turns_are, is.vain, subst (λ k. Ends k is.mid is.last end after) place is.ends))

pub pursuits_are_one : {E : Type 0} (leaves : E → List Atom → List Atom) → PursuitsAreOne leaves
pursuits_are_one leaves problem tables goal variable_count recorded atoms after later searches others turns more end also a b =
    let one = one_pursuit leaves problem tables goal variable_count recorded a.in_vain b.in_vain 1 atoms turns more end also after later
    (pursued leaves problem tables goal variable_count recorded atoms searches turns end after a)
    (pursued leaves problem tables goal variable_count recorded atoms others more also later b) in
    (a.searches_are ∙ ap suc one.0 ∙ sym b.searches_are, one.1.0, one.1.1, one.1.2)
