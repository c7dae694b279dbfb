-- A run that is underway: its turns so far, how many turns it may still have, and how many places these may take.
use Rattle.std.specs.Prelude.{◌≡◌, ◌<◌, ◌≤◌, ◌+◌, ◌-◌, ◌*◌, ℕ, true, false, Option, Some, None, List, [], ◌∷◌, ◌++◌, length}
use Rattle.std.proofs.Common.{zero, suc, refl, sym, ap, ◌∙◌, subst, inl, inr, arith, append_assoc}
use Rattle.std.proofs.Math.Nat.{mul-le-mul_left}
use Rattle.px_terms.specs.declared.atom.Atom.{Atom}
use Rattle.px_terms.specs.declared.problem.Problem.{Problem}
use Rattle.px_terms.specs.Validity.{IsValid}
use Rattle.px_table.specs.Tables.{IsTable}
use Rattle.px_world.specs.Worlds.{HaveSameRules}
use Rattle.px_match.specs.Matching.{IsSensed, KernelInstance}
use Rattle.px_planex.specs.Execution.{Memory, Running}
use Rattle.px_planex.specs.Executors.{PlanexValue, running}
use Rattle.px_planex.specs.Turns.{IsLastTurn, Recorded, TakesTurn, TakesTurns, TurnValue, after_edits, edits_at}
use Rattle.px_planex.proofs.InAtoms.{TurnInAtoms, turn_in_atoms}
use Rattle.px_planex.proofs.TurnBound.{count-all, count_after, turns-fall}
use Rattle.px_turns.specs.Told.{AdmitSame}
use Rattle.px_turns.specs.Turning.{HasPlaces, HasTaken, adds_most, most_turns, places_from, places_of_turn}
use Rattle.px_turns.proofs.Admitting.{admit-both, admit-same}
use Rattle.px_turns.proofs.RunPlaces.{edits-used}

-- the number of the turn after these, the first of which has that number
abbrev pub next_number : ℕ → List TurnValue → ℕ
next_number first [] = first
next_number first (turn ∷ turns) = suc (next_number first turns)

pub next-is : (first : ℕ) (turns : List TurnValue) → next_number first turns ≡ length turns + first
next-is first [] = omega arith
next-is first (turn ∷ turns) = let rest = next-is first turns in omega (arith, rest)

-- a run in a world of any kind, whose first turn has that number
module _ {S E : Type 0} (rules_of : S → Problem) (atoms_in : S → List Atom) (spare_of : S → ℕ) (admits : S → E → Type 0)
    (leaves : E → List Atom → List Atom) (planex : PlanexValue) (recorded : List (Recorded E)) (first : ℕ) where
  abbrev Places : PlanexValue → ℕ → S → Type 0
  Places now places world = HasPlaces rules_of atoms_in spare_of admits now places world

  abbrev Taken : ℕ → S → S → Type 0
  Taken places old new = HasTaken rules_of atoms_in spare_of admits places old new

  -- how many turns are left at most at a sensing that finds this
  abbrev pub turns_left : Option KernelInstance → ℕ → ℕ
  turns_left None number = 1
  turns_left (Some kernel) number =
      (length planex.table.steps + 2 - kernel.number) + (length planex.table.steps + 1) * count_after number recorded

  left-first : (next : Option KernelInstance) (atoms : List Atom) → IsSensed planex.problem planex.table planex.bound atoms next
      → turns_left next first ≤ most_turns planex.table recorded
  left-first next atoms senses =
      let all = count-all first recorded in
      let product : (length planex.table.steps + 1) * (count_after first recorded + 1)
      ≤ (length planex.table.steps + 1) * (length recorded + 1) = mul-le-mul_left (length planex.table.steps + 1) (omega (arith, all)) in
      by next senses product
    where
      by : (next : Option KernelInstance) → IsSensed planex.problem planex.table planex.bound atoms next
          → (length planex.table.steps + 1) * (count_after first recorded + 1) ≤ (length planex.table.steps + 1) * (length recorded + 1)
          → turns_left next first ≤ most_turns planex.table recorded
      by None senses product = omega (arith, product)
      by (Some kernel) senses product = omega (arith, product, senses.fits.from_one)

  left-some : (next : Option KernelInstance) (number : ℕ) (atoms : List Atom) → IsSensed planex.problem planex.table planex.bound atoms next
      → 1 ≤ turns_left next number
  left-some None number atoms senses = omega arith
  left-some (Some kernel) number atoms senses = omega (arith, senses.fits.to_goal)

  -- the turns so far, none of which is the last, have led here
  abbrev pub GoesOn : S → List TurnValue → ℕ → PlanexValue → S → Type 0
  GoesOn start made number now world = (rest : List TurnValue) (new : Running)
      → TakesTurns leaves planex.problem planex.table planex.bound recorded number (running (atoms_in world) now.memory) rest new
      → TakesTurns leaves planex.problem planex.table planex.bound recorded first (running (atoms_in start) planex.memory)
      (made ++ rest) new

  abbrev pub IsBounded : ℕ → ℕ → S → Type 0
  IsBounded made number world = (next : Option KernelInstance)
      → IsSensed planex.problem planex.table planex.bound (after_edits leaves (edits_at recorded number false) (atoms_in world)) next
      → turns_left next number + made ≤ most_turns planex.table recorded

  pub record Underway (most : ℕ) (start : S) (made : List TurnValue) (now : PlanexValue) (world : S) : Type 0 where
    pub same : now ≡ record planex { memory = now.memory }
    pub left : ℕ
    pub sum : left + length made ≡ most
    pub some : 1 ≤ left
    pub goes_on : GoesOn start made (next_number first made) now world
    pub bounded : IsBounded (length made) (next_number first made) world
    pub places : Places planex (places_from planex.problem recorded left (next_number first made)) world
    pub rules : rules_of world ≡ rules_of start
    pub edits : AdmitSame (admits start) (admits world)

  pub underway-first : (most : ℕ) (world : S) → most_turns planex.table recorded < most
      → Places planex (places_from planex.problem recorded most first) world
      → Underway most world [] planex world
  underway-first most world few places = record {
    same = refl;
    left = most;
    sum = omega arith;
    some = omega (arith, few);
    goes_on = λ rest new takes. takes;
    bounded = λ next senses. let start = left-first next _ senses in omega (arith, start);
    places = places;
    rules = refl;
    edits = admit-same (admits world);
  }

  -- the places of a turn, where the run is underway
  places-less : (more fewer : ℕ) (world : S) → Places planex more world → fewer ≤ more → Places planex fewer world
  places-less more fewer world has less =
      record { rules = has.rules; spare = omega (arith, has.spare, less); room = omega (arith, has.room, less) }

  one-of : (left m : ℕ) → 1 ≤ left → m ≤ left * m
  one-of zero m some = absurd (omega (arith, some))
  one-of (suc left) m some = omega arith

  places-now : (left number : ℕ) → 1 ≤ left → places_of_turn planex.problem recorded number
      ≤ places_from planex.problem recorded left number
  places-now left number some = let used = edits-used number recorded in let one =
      one-of left (adds_most planex.problem.schemas) some in omega (arith, used, one)

  pub places-here : (most : ℕ) (start : S) (made : List TurnValue) (now : PlanexValue) (world : S)
      → Underway most start made now world
      → Places now (places_of_turn now.problem recorded (next_number first made)) world
  places-here most start made now world is =
      subst (λ (p : PlanexValue). Places p (places_of_turn p.problem recorded (next_number first made)) world) (sym is.same)
      (again (places-less _ (places_of_turn planex.problem recorded (next_number first made)) world is.places
      (places-now is.left (next_number first made) is.some)))
    where
      again : Places planex (places_of_turn planex.problem recorded (next_number first made)) world
          → Places (record planex { memory = now.memory }) (places_of_turn planex.problem recorded (next_number first made)) world
      again has = record { rules = has.rules; spare = has.spare; room = has.room }

  -- after a turn that isn't the last the places of the others are left
  places-next : (left number : ℕ) (world new : S) → Places planex (places_from planex.problem recorded (suc left) number) world
      → Taken (places_of_turn planex.problem recorded number) world new
      → Places planex (places_from planex.problem recorded left (suc number)) new
  places-next left number world new has taken =
      let used = edits-used number recorded in
      record {
        rules = subst (λ (p : Problem). HaveSameRules p planex.problem) (sym taken.rules) has.rules;
        spare = omega (arith, used, has.spare, taken.spare);
        room = omega (arith, used, has.room, taken.number);
      }

  length-more : (made : List TurnValue) (turn : TurnValue) → length (made ++ turn ∷ []) ≡ suc (length made)
  length-more [] turn = refl
  length-more (one ∷ made) turn = ap suc (length-more made turn)

  number-more : (made : List TurnValue) (turn : TurnValue) → next_number first (made ++ turn ∷ []) ≡ suc (next_number first made)
  number-more [] turn = refl
  number-more (one ∷ made) turn = ap suc (number-more made turn)

  goes-next : (start : S) (made : List TurnValue) (number : ℕ) (now next : PlanexValue) (world new : S) (turn : TurnValue)
      → GoesOn start made number now world
      → TakesTurn leaves planex.problem planex.table planex.bound (edits_at recorded number false) (edits_at recorded number true)
      (running (atoms_in world) now.memory) turn (running (atoms_in new) next.memory)
      → ¬ IsLastTurn turn.end → GoesOn start (made ++ turn ∷ []) (suc number) next new
  goes-next start made number now next world new turn goes takes not_last rest end more =
      subst (λ (turns : List TurnValue). TakesTurns leaves planex.problem planex.table planex.bound recorded first
      (running (atoms_in start) planex.memory) turns end)
      (sym (append_assoc made (turn ∷ []) rest))
      (goes (turn ∷ rest) end (running (atoms_in new) next.memory, takes, inr (not_last, more)))

  module _ (valid : IsValid planex.problem) (is_table : IsTable planex.problem planex.table) where
    -- what is left falls
    falls : (made number : ℕ) (atoms after : List Atom) (turn : TurnValue) (answer : Option KernelInstance)
        → IsSensed planex.problem planex.table planex.bound (after_edits leaves (edits_at recorded number false) atoms) answer
        → TurnInAtoms planex.problem planex.table answer (after_edits leaves (edits_at recorded number false) atoms)
        (after_edits leaves (edits_at recorded number true)
        (after_edits leaves (edits_at recorded number false) atoms)) turn after
        → ¬ IsLastTurn turn.end → turns_left answer number + made ≤ most_turns planex.table recorded → (next : Option KernelInstance)
        → IsSensed planex.problem planex.table planex.bound (after_edits leaves (edits_at recorded (suc number) false) after) next
        → turns_left next (suc number) + suc made ≤ most_turns planex.table recorded
    falls made number atoms after turn None senses takes not_last bound next later = absurd (not_last (subst IsLastTurn (sym takes.0) tt))
    falls made number atoms after turn (Some kernel) senses takes not_last bound next later =
        let less = turns-fall planex.problem valid planex.table is_table planex.bound leaves recorded kernel number turn
        (after_edits leaves (edits_at recorded number false) atoms) after next senses.fits not_last takes later in
        omega (arith, less, bound)

    pub underway-next : (most : ℕ) (start : S) (made : List TurnValue) (now next : PlanexValue) (world new : S) (turn : TurnValue)
        → most_turns planex.table recorded < most → Underway most start made now world
        → TakesTurn leaves now.problem now.table now.bound (edits_at recorded (next_number first made) false)
        (edits_at recorded (next_number first made) true)
        (running (atoms_in world) now.memory) turn (running (atoms_in new) next.memory)
        → next ≡ record now { memory = next.memory } → Taken (places_of_turn now.problem recorded (next_number first made)) world new
        → ¬ IsLastTurn turn.end → Underway most start (made ++ turn ∷ []) next new
    underway-next most start made now next world new turn few is takes' frame taken' not_last =
        let number = next_number first made in
        let takes = subst (λ (p : PlanexValue). TakesTurn leaves p.problem p.table p.bound (edits_at recorded number false)
        (edits_at recorded number true)
        (running (atoms_in world) now.memory) turn (running (atoms_in new) next.memory)) is.same takes' in
        let taken = subst (λ (p : PlanexValue). Taken (places_of_turn p.problem recorded number) world new) is.same taken' in
        let in_atoms = turn_in_atoms leaves planex.problem planex.table planex.bound (edits_at recorded number false)
        (edits_at recorded number true)
        (running (atoms_in world) now.memory) takes.1.0 (running (atoms_in new) next.memory) turn takes.0 takes.1.1 takes.1.2 in
        let now_left = is.bounded in_atoms.0 in_atoms.1 in
        let some_now = left-some in_atoms.0 number _ in_atoms.1 in
        let later = falls (length made) number (atoms_in world)
        (atoms_in new) turn in_atoms.0 in_atoms.1 in_atoms.2 not_last now_left in
        let lefts : (n : ℕ) × (is.left ≡ suc n) = before is.left is.some in
        let long = length-more made turn in
        let later_number = number-more made turn in
        record {
          same = frame ∙ ap (λ (p : PlanexValue). record p { memory = next.memory }) is.same;
          left = lefts.0;
          sum = omega (arith, is.sum, lefts.1, long);
          some = omega (arith, is.sum, lefts.1, some_now, now_left, few);
          goes_on = subst (λ n. GoesOn start (made ++ turn ∷ []) n next new) (sym later_number)
              (goes-next start made number now next world new turn is.goes_on takes not_last);
          bounded = subst (λ n. IsBounded n (next_number first (made ++ turn ∷ [])) new) (sym long)
              (subst (λ n. IsBounded (suc (length made)) n new) (sym later_number) later);
          places = subst (λ n. Places planex (places_from planex.problem recorded lefts.0 n) new) (sym later_number)
              (places-next lefts.0 number world new
              (subst (λ n. Places planex (places_from planex.problem recorded n number) world) lefts.1 is.places) taken);
          rules = taken.rules ∙ is.rules;
          edits = admit-both (admits start) (admits world) (admits new) is.edits taken.edits;
        }
      where
        before : (n : ℕ) → 1 ≤ n → (m : ℕ) × (n ≡ suc m)
        before zero some = absurd (omega (arith, some))
        before (suc m) some = (m, refl)

  -- the last turn ends the run
  pub underway-last : (most : ℕ) (start : S) (made : List TurnValue) (now : PlanexValue) (memory : Memory) (world : S)
      (after : List Atom) (turn : TurnValue) → Underway most start made now world
      → TakesTurn leaves now.problem now.table now.bound (edits_at recorded (next_number first made) false)
      (edits_at recorded (next_number first made) true)
      (running (atoms_in world) now.memory) turn (running after memory)
      → IsLastTurn turn.end
      → TakesTurns leaves planex.problem planex.table planex.bound recorded first (running (atoms_in start) planex.memory)
      (made ++ turn ∷ []) (running after memory)
  underway-last most start made now memory world after turn is takes last =
      is.goes_on (turn ∷ []) (running after memory) (
        running after memory,
        subst (λ (p : PlanexValue). TakesTurn leaves p.problem p.table p.bound (edits_at recorded (next_number first made) false)
            (edits_at recorded (next_number first made) true)
            (running (atoms_in world) now.memory) turn (running after memory)) is.same takes,
        inl (last, refl, refl),
      )
