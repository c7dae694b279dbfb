use Rattle.std.proofs.Common.{◌≡◌, ◌<◌, ◌+◌, ℕ, List, [], ◌∷◌, ◌++◌, length, map, sym, ap, ◌∙◌, subst, arith, append_assoc}
use Rattle.std.specs.Prelude.{MatchBool}
use Rattle.std.proofs.lemmas.List.{append-nil, length-append, length-map, map-append}
use Rattle.px_table.specs.declared.table.Table.{Table}
use Rattle.px_table.specs.Tables.{IsTable}
use Rattle.px_planex.specs.Executors.{PlanexValue}
use Rattle.px_planex.specs.Turns.{AtGoal, AtNoKernel, IsLastTurn, TakesTurns, TurnValue}
use Rattle.px_printer.specs.declared.turn.Turn.{Turn}
use Rattle.px_turns.specs.Told.{EndsRun, end_told, turn_told}
use Rattle.px_turns.specs.Turning.{HasPlaces, HasTaken, TakesNumbered, most_turns, places_of_turn}
use Rattle.px_turns.proofs.Admitting.{admit-both, all-later}
use Rattle.px_turns.proofs.Ending.{tells-last}
use Rattle.px_turns.proofs.Underway.{Underway, next-is, next_number, places-here, underway-first, underway-last, underway-next}
use Rattle.px_turns.proofs.turns.take_turns.Goals as goal

-- the number of the next turn
number-is : (before made all : List Turn) (len : ℕ) → len ≡ length all → all ≡ before ++ made
    → len + 1 ≡ next_number (length before + 1) (map turn_told made)
number-is before made all len is are =
    let next = next-is (length before + 1) (map turn_told made) in
    omega (arith, is, ap length are, length-append before made, length-map made turn_told, next)

-- the list with one turn more
told-more : (made : List Turn) (turn : Turn) → map turn_told (made ++ turn ∷ []) ≡ map turn_told made ++ turn_told turn ∷ []
told-more made turn = map-append turn_told made (turn ∷ [])

all-more : (before made all : List Turn) (turn : Turn) → all ≡ before ++ made → all ++ turn ∷ [] ≡ before ++ (made ++ turn ∷ [])
all-more before made all turn are = ap (λ (ts : List Turn). ts ++ turn ∷ []) are ∙ append_assoc before made (turn ∷ [])

pub taking-init : goal.taking-init
taking-init g c =
    let few : most_turns c.args.planex.now.table c.args.recorded.now < c.args.most =
    subst (λ (t : Table). most_turns t c.args.recorded.now < c.args.most) (sym c.requires.table) c.requires.most in (
      [],
      sym (append-nil c.args.turns.now.items),
      underway-first g.W.World.rules g.W.World.atoms g.W.World.spare g.W.World.admits g.W.World.leaves c.args.planex.now
          c.args.recorded.now (length c.args.turns.now.items + 1) c.args.most c.args.world.now few c.requires.places,
      c.requires.room,
    )

pub take_turn-kernel-requires-clause-places : goal.take_turn-kernel-requires-clause-places
take_turn-kernel-requires-clause-places g c =
    let before = c.args.turns.now.items in
    let made = c.taking.invariant.0 in
    let len : c.len.result ≡ length c.taking.turns.items = omega (arith, c.len.ensures, c.taking.turns.ok.0) in
    let number = number-is before made c.taking.turns.items c.len.result len c.taking.invariant.1 in
    subst (λ n. HasPlaces g.W.World.rules g.W.World.atoms g.W.World.spare g.W.World.admits c.taking.planex
    (places_of_turn c.taking.planex.problem c.args.recorded.now n) c.taking.world) (sym number)
    (places-here g.W.World.rules g.W.World.atoms g.W.World.spare g.W.World.admits g.W.World.leaves c.args.planex.now c.args.recorded.now
    (length before + 1) c.args.most c.args.world.now (map turn_told made) c.taking.planex c.taking.world c.taking.invariant.2)

pub take_turn-kernel-requires-clause-admitted : goal.take_turn-kernel-requires-clause-admitted
take_turn-kernel-requires-clause-admitted g c =
    all-later (g.W.World.admits c.args.world.now) (g.W.World.admits c.taking.world) c.args.recorded.now c.taking.invariant.2.edits
    c.requires.admitted

pub returns-then-ends_run-clause-turns : goal.returns-then-ends_run-clause-turns
returns-then-ends_run-clause-turns g c =
    let before = c.args.turns.now.items in
    let made = c.taking.invariant.0 in
    let turn = c.take_turn-kernel.result in
    let new = c.take_turn-kernel.new in
    let first = length before + 1 in
    let len : c.len.result ≡ length c.taking.turns.items = omega (arith, c.len.ensures, c.taking.turns.ok.0) in
    let number = number-is before made c.taking.turns.items c.len.result len c.taking.invariant.1 in
    let last : IsLastTurn (end_told turn.end) =
    subst (λ b. MatchBool b (IsLastTurn (end_told turn.end)) (¬ IsLastTurn (end_told turn.end))) c.if-ends_run.true c.ends_run.ensures in (
      made ++ turn ∷ [],
      c.push_within.ensures.put ∙ all-more before made c.taking.turns.items turn c.taking.invariant.1,
      subst (λ (ts : List TurnValue). TakesTurns g.W.World.leaves c.args.planex.now.problem c.args.planex.now.table c.args.planex.now.bound
          c.args.recorded.now first (record { atoms = g.W.World.atoms c.args.world.now; memory = c.args.planex.now.memory }) ts
          (record { atoms = g.W.World.atoms new.world; memory = new.planex.memory }))
          (sym (told-more made turn))
          (underway-last g.W.World.rules g.W.World.atoms g.W.World.spare g.W.World.admits g.W.World.leaves c.args.planex.now
          c.args.recorded.now first c.args.most c.args.world.now (map turn_told made) c.taking.planex new.planex.memory c.taking.world
          (g.W.World.atoms new.world) (turn_told turn) c.taking.invariant.2
          (subst (λ n. TakesNumbered g.W.World.leaves c.taking.planex c.args.recorded.now n (g.W.World.atoms c.taking.world) turn
          (g.W.World.atoms new.world) new.planex.memory) number c.take_turn-kernel.ensures.takes) last),
    )

pub returns-then-ends_run-clause-ends : goal.returns-then-ends_run-clause-ends
returns-then-ends_run-clause-ends g c =
    let turn = c.take_turn-kernel.result in
    let items = c.taking.turns.items in
    let list = ap (map turn_told) c.push_within.ensures.put ∙ told-more items turn in
    subst (λ (ts : List TurnValue). MatchBool c.is_at_goal.result (EndsRun AtGoal ts) (EndsRun AtNoKernel ts)) (sym list)
    (tells-last c.is_at_goal.result (map turn_told items) (turn_told turn) c.is_at_goal.ensures)

pub returns-then-ends_run-clause-room : goal.returns-then-ends_run-clause-room
returns-then-ends_run-clause-room g c =
    let before = c.args.turns.now.items in
    let made = c.taking.invariant.0 in
    let len : c.len.result ≡ length c.taking.turns.items = omega (arith, c.len.ensures, c.taking.turns.ok.0) in
    let number = number-is before made c.taking.turns.items c.len.result len c.taking.invariant.1 in
    let here = places-here g.W.World.rules g.W.World.atoms g.W.World.spare g.W.World.admits g.W.World.leaves c.args.planex.now
    c.args.recorded.now (length before + 1) c.args.most c.args.world.now (map turn_told made) c.taking.planex c.taking.world
    c.taking.invariant.2 in
    let taken = subst (λ n. HasTaken g.W.World.rules g.W.World.atoms g.W.World.spare g.W.World.admits
    (places_of_turn c.taking.planex.problem c.args.recorded.now n) c.taking.world c.take_turn-kernel.new.world) number
    c.take_turn-kernel.ensures.taken in
    let same = ap (λ (p : PlanexValue). p.room) c.taking.invariant.2.same in
    omega (arith, here.room, taken.number, same)

pub returns-then-ends_run-clause-rules : goal.returns-then-ends_run-clause-rules
returns-then-ends_run-clause-rules g c = c.take_turn-kernel.ensures.taken.rules ∙ c.taking.invariant.2.rules

pub returns-then-ends_run-clause-edits : goal.returns-then-ends_run-clause-edits
returns-then-ends_run-clause-edits g c =
    admit-both (g.W.World.admits c.args.world.now) (g.W.World.admits c.taking.world) (g.W.World.admits c.take_turn-kernel.new.world)
    c.taking.invariant.2.edits c.take_turn-kernel.ensures.taken.edits

pub taking-preserved : goal.taking-preserved
taking-preserved g c =
    let before = c.args.turns.now.items in
    let made = c.taking.invariant.0 in
    let turn = c.take_turn-kernel.result in
    let new = c.take_turn-kernel.new in
    let few : most_turns c.args.planex.now.table c.args.recorded.now < c.args.most =
    subst (λ (t : Table). most_turns t c.args.recorded.now < c.args.most) (sym c.requires.table) c.requires.most in
    let is_table : IsTable c.args.planex.now.problem c.args.planex.now.table =
    subst (IsTable c.args.planex.now.problem) (sym c.requires.table) c.requires.is_table in
    let len : c.len.result ≡ length c.taking.turns.items = omega (arith, c.len.ensures, c.taking.turns.ok.0) in
    let number = number-is before made c.taking.turns.items c.len.result len c.taking.invariant.1 in
    let not_last : ¬ IsLastTurn (end_told turn.end) =
    subst (λ b. MatchBool b (IsLastTurn (end_told turn.end)) (¬ IsLastTurn (end_told turn.end))) c.if-ends_run.false c.ends_run.ensures in (
      made ++ turn ∷ [],
      c.push_within.ensures.put ∙ all-more before made c.taking.turns.items turn c.taking.invariant.1,
      subst (λ (ts : List TurnValue). Underway g.W.World.rules g.W.World.atoms g.W.World.spare g.W.World.admits g.W.World.leaves
          c.args.planex.now c.args.recorded.now (length before + 1) c.args.most c.args.world.now ts new.planex new.world)
          (sym (told-more made turn))
          (underway-next g.W.World.rules g.W.World.atoms g.W.World.spare g.W.World.admits g.W.World.leaves c.args.planex.now
          c.args.recorded.now (length before + 1) c.requires.problem is_table c.args.most c.args.world.now (map turn_told made)
          c.taking.planex new.planex c.taking.world new.world (turn_told turn) few c.taking.invariant.2
          (subst (λ n. TakesNumbered g.W.World.leaves c.taking.planex c.args.recorded.now n (g.W.World.atoms c.taking.world) turn
          (g.W.World.atoms new.world) new.planex.memory) number c.take_turn-kernel.ensures.takes)
          c.take_turn-kernel.ensures.frame
          (subst (λ n. HasTaken g.W.World.rules g.W.World.atoms g.W.World.spare g.W.World.admits
          (places_of_turn c.taking.planex.problem c.args.recorded.now n) c.taking.world new.world) number
          c.take_turn-kernel.ensures.taken) not_last),
      omega (arith, c.taking.invariant.3, c.push_within.ensures.capacity),
    )
