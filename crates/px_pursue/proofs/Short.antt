-- A pursuit has few turns, since each run has few for the disturbances that come in it.
use Rattle.std.specs.Prelude.{◌≡◌, ℕ, ◌<◌, ◌≤◌, ◌+◌, ◌-◌, ◌*◌, List, [], ◌++◌, length}
use Rattle.std.proofs.Common.{zero, suc, refl, sym, ap, subst, arith}
use Rattle.std.proofs.lemmas.List.{length-append}
use Rattle.std.proofs.Math.Nat.{mul-le-mul_left}
use Rattle.px_terms.specs.declared.atom.Atom.{Atom}
use Rattle.px_terms.specs.declared.instance.OpInst.{OpInst}
use Rattle.px_terms.specs.declared.problem.Problem.{Problem}
use Rattle.px_terms.specs.Validity.{IsValid}
use Rattle.px_table.specs.declared.entry.Move.{Move}
use Rattle.px_table.specs.declared.table.Table.{Table}
use Rattle.px_table.specs.Tables.{IsTable}
use Rattle.px_ends.specs.Tasks.{steps_of, task_of}
use Rattle.px_planex.specs.Execution.{Running, nothing_sensed}
use Rattle.px_planex.specs.Executors.{running}
use Rattle.px_planex.specs.Turns.{AtNoKernel, Recorded, TakesTurns, TurnValue}
use Rattle.px_planex.proofs.InAtoms.{run_in_atoms}
use Rattle.px_planex.proofs.TurnBound.{bounded, turns_left-any}
use Rattle.px_turns.proofs.Vain.{count-falls}
use Rattle.px_turns.specs.Told.{EndsRun}
use Rattle.px_turns.specs.Vain.{count_from}
use Rattle.px_printer.specs.declared.pursue_end.PursueEnd.{PursueEnd}
use Rattle.px_printer.specs.declared.pursue_end.PursueEnd.TheVariants.{Goal, Exhausted, NodeLimit, ShapeLimit}
use Rattle.px_pursue.specs.Pursuits.{EndsBy, RunsInVain, RunsPlan}
use Rattle.px_pursue.specs.PursuitLaws.{PursuitsAreShort}
use Rattle.px_pursue.specs.Searches.{FindsMoves, IsSearchable}
use Rattle.px_pursue.proofs.Below.{counts-below, recorded_below, turns-below}
use Rattle.px_pursue.proofs.Few.{count-all, one_more, plan_uses}
use Rattle.px_pursue.proofs.FoundTables.{found-table, searchable-from}

-- the turns of a run, by the disturbances that come in it
run-short : {E : Type 0} (leaves : E → List Atom → List Atom) (p : Problem) (t : Table) (bound : List (ℕ × ℕ))
    (recorded : List (Recorded E)) (number : ℕ) (old new : Running) (run : List TurnValue) → IsValid p → IsTable p t
    → TakesTurns leaves p t bound recorded number old run new
    → length run + (length t.steps + 1) * count_from (number + length run) recorded
    ≤ (length t.steps + 1) * (count_from number recorded + 1)
run-short leaves p t bound recorded number old new run valid is_table takes =
    let end = number + length run in
    let fewer = recorded_below end recorded in
    let within = turns-below leaves p t bound recorded end run number old new (omega arith) takes in
    let in_atoms = run_in_atoms leaves p t bound fewer run number old new within in
    let left = bounded p valid t is_table bound leaves fewer run number new.atoms old.atoms in_atoms in
    let any = turns_left-any p valid t is_table bound leaves fewer left.0 number _ left.1 in
    let counts = counts-below number end recorded (omega arith) in
    let product = mul-le-mul_left (length t.steps + 1) counts in
    omega (arith, left.2, any, product)

-- more steps leave room for more turns
more-room : (l m c d n : ℕ) → l + (m + 1) * c ≤ (m + 1) * (d + 1) → m ≤ n → c ≤ d → l + (n + 1) * c ≤ (n + 1) * (d + 1)
more-room l m c d n short less falls =
    let is : d ≡ c + (d - c) = omega (arith, falls) in
    subst (λ x. l + (n + 1) * c ≤ (n + 1) * (x + 1)) (sym is)
    (by (d - c) (subst (λ x. l + (m + 1) * c ≤ (m + 1) * (x + 1)) is short))
  where
    by : (e : ℕ) → l + (m + 1) * c ≤ (m + 1) * (c + e + 1) → l + (n + 1) * c ≤ (n + 1) * (c + e + 1)
    by e h =
        let product : (e + 1) * (m + 1) ≤ (e + 1) * (n + 1) = mul-le-mul_left (e + 1) (omega (arith, less)) in
        omega (arith, h, product)

-- a run in vain has at most twice as many turns as a run without a disturbance, for each disturbance that comes in it
vain-room : (l m c d n : ℕ) → l + (m + 1) * c ≤ (m + 1) * (d + 1) → m ≤ n → c < d → l + 2 * (n + 1) * c ≤ 2 * (n + 1) * d
vain-room l m c d n short less falls =
    let is : d ≡ c + suc (d - suc c) = omega (arith, falls) in
    subst (λ x. l + 2 * (n + 1) * c ≤ 2 * (n + 1) * x) (sym is)
    (by (d - suc c) (subst (λ x. l + (m + 1) * c ≤ (m + 1) * (x + 1)) is short))
  where
    by : (e : ℕ) → l + (m + 1) * c ≤ (m + 1) * (c + suc e + 1) → l + 2 * (n + 1) * c ≤ 2 * (n + 1) * (c + suc e)
    by e h =
        let product : (e + 2) * (m + 1) ≤ (e + 2) * (n + 1) = mul-le-mul_left (e + 2) (omega (arith, less)) in
        omega (arith, h, product)

module _ {E : Type 0} (leaves : E → List Atom → List Atom) (problem : Problem) (tables : List Table) (goal : List Atom) (variable_count : ℕ)
    (recorded : List (Recorded E)) (start : List Atom) (searchable : IsSearchable (task_of problem tables start goal variable_count)) (n : ℕ)
    (few : (count : ℕ) (before : List TurnValue) (from : List Atom) (moves : List Move)
    → RunsInVain leaves problem tables goal variable_count recorded count 1 start before from
    → FindsMoves (task_of problem tables from goal variable_count) moves
    → length (steps_of tables [] moves) ≤ n) where
  abbrev Plan : ℕ → List Atom → List TurnValue → List Atom → Type 0
  Plan = RunsPlan leaves problem tables goal variable_count recorded

  abbrev Vain : ℕ → ℕ → List Atom → List TurnValue → List Atom → Type 0
  Vain = RunsInVain leaves problem tables goal variable_count recorded

  -- how many disturbances are recorded for that turn and later ones
  abbrev later : ℕ → ℕ
  later number = count_from number recorded

  -- some runs in vain, of as many turns as there are before that number, lead from the start to here
  abbrev Leads : ℕ → List Atom → Type 0
  Leads number atoms = (done : ℕ) × (made : List TurnValue) × Vain done 1 start made atoms × (1 + length made ≡ number)

  -- the turns of one plan, by its steps
  abbrev IsShort : ℕ → ℕ → List TurnValue → Type 0
  IsShort m number run = length run + (m + 1) * later (number + length run) ≤ (m + 1) * (later number + 1)

  plan-short : (number : ℕ) (atoms : List Atom) (run : List TurnValue) (after : List Atom) → Leads number atoms
      → Plan number atoms run after → (m : ℕ) × (m ≤ n) × IsShort m number run
  plan-short number atoms run after leads plan =
      let here = searchable-from problem tables goal variable_count start atoms searchable in
      let task = task_of problem tables atoms goal variable_count in
      let is_table = found-table task here plan.moves plan.plan plan.found plan.made in (
        length plan.plan.steps,
        subst (λ (steps : List OpInst). length steps ≤ n) (sym plan.made.steps) (few leads.0 leads.1 atoms plan.moves leads.2 plan.found),
        run-short leaves problem plan.plan [] recorded number (running atoms nothing_sensed) (running after plan.memory) run
            searchable.valid is_table plan.takes,
      )

  leads-on : (number : ℕ) (atoms : List Atom) (run : List TurnValue) (after : List Atom) → Leads number atoms → Plan number atoms run after
      → EndsRun AtNoKernel run → Leads (number + length run) after
  leads-on number atoms run after (done, made, vain, is) plan ends = (
    suc done,
    made ++ run,
    one_more leaves problem tables goal variable_count recorded done 1 start made atoms run after vain
        (subst (λ k. Plan k atoms run after) (sym is) plan) ends,
    omega (arith, is, length-append made run),
  )

  vain-short : (count number : ℕ) (atoms : List Atom) (turns : List TurnValue) (after : List Atom) → Leads number atoms
      → Vain count number atoms turns after
      → length turns + 2 * (n + 1) * later (number + length turns) ≤ 2 * (n + 1) * later number
  vain-short zero number atoms turns after leads is =
      let falls = count-falls number (number + length turns) recorded (omega arith) in
      let product = mul-le-mul_left (2 * (n + 1)) falls in
      omega (arith, ap length is.0, product)
  vain-short (suc count) number atoms turns after leads (run, rest, (mid, plan, ends, are, more)) =
      let short = plan-short number atoms run mid leads plan in
      let used = plan_uses leaves problem tables goal variable_count recorded start searchable number atoms run mid plan ends in
      let first = vain-room (length run) short.0 (later (number + length run)) (later number) n short.2 short.1 used in
      let others = vain-short count (number + length run) mid rest after (leads-on number atoms run mid leads plan ends) more in
      let same : (number + length run) + length rest ≡ number + length turns = omega (arith, ap length are, length-append run rest) in
      let moved : length rest + 2 * (n + 1) * later (number + length turns) ≤ 2 * (n + 1) * later (number + length run) =
      subst (λ k. length rest + 2 * (n + 1) * later k ≤ 2 * (n + 1) * later (number + length run)) same others in
      omega (arith, first, moved, ap length are, length-append run rest)

  last-short : (number : ℕ) (atoms : List Atom) (last : List TurnValue) (end : PursueEnd) (after : List Atom) → Leads number atoms
      → EndsBy leaves problem tables goal variable_count recorded number atoms last end after → length last ≤ (n + 1) * (later number + 1)
  last-short number atoms last Goal after leads ends =
      let short = plan-short number atoms last after leads ends.0 in
      let falls = count-falls number (number + length last) recorded (omega arith) in
      let room = more-room (length last) short.0 (later (number + length last)) (later number) n short.2 short.1 falls in
      omega (arith, room)
  last-short number atoms last Exhausted after leads ends = omega (arith, ap length ends.1)
  last-short number atoms last (NodeLimit nodes moves) after leads ends = omega (arith, ap length ends.1)
  last-short number atoms last (ShapeLimit node limit) after leads ends = omega (arith, ap length ends.1)

pub pursuits_are_short : {E : Type 0} (leaves : E → List Atom → List Atom) → PursuitsAreShort leaves
pursuits_are_short leaves problem tables goal variable_count recorded atoms after searches turns end n searchable few is =
    let vain = vain-short leaves problem tables goal variable_count recorded atoms searchable n few is.in_vain 1 atoms is.before is.mid
    (0, [], (refl, refl), omega arith) is.vain in
    let place : 1 + length is.before ≡ length is.before + 1 = omega arith in
    let last = last-short leaves problem tables goal variable_count recorded atoms searchable n few (length is.before + 1) is.mid is.last end after
    (is.in_vain, is.before, is.vain, place) is.ends in
    let moved : length is.before + 2 * (n + 1) * count_from (length is.before + 1) recorded ≤ 2 * (n + 1) * count_from 1 recorded =
    subst (λ k. length is.before + 2 * (n + 1) * count_from k recorded ≤ 2 * (n + 1) * count_from 1 recorded) place vain in
    let all = count-all 1 recorded in
    let product = mul-le-mul_left (2 * (n + 1)) all in
    omega (arith, moved, last, product, ap length is.turns_are, length-append is.before is.last)
