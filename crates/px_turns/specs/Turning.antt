-- What edits and turns leave in a world, and how many places they may take. No public clause cites this file but for `adds_most`.
use Rattle.std.specs.Prelude.{◌≡◌, ◌≤◌, ◌+◌, ◌*◌, ℕ, true, false, cond, max, nat_le, List, [], ◌∷◌, length}
use Rattle.px_terms.specs.declared.atom.Atom.{Atom}
use Rattle.px_terms.specs.declared.problem.Problem.{Problem}
use Rattle.px_terms.specs.declared.problem.Schema.{Schema}
use Rattle.px_table.specs.declared.table.Table.{Table}
use Rattle.px_world.specs.Worlds.{HaveSameRules}
use Rattle.px_planex.specs.declared.event.Outcome.TheVariants.{Sensed}
use Rattle.px_planex.specs.Execution.{Memory}
use Rattle.px_planex.specs.Executors.{PlanexValue, running}
use Rattle.px_planex.specs.Turns.{EndsTurn, Recorded, TakesTurn, TakesTurns, TurnValue, after_edits, edits_at}
use Rattle.px_printer.specs.declared.turn.Turn.{Turn}
use Rattle.px_turns.specs.Told.{AdmitSame, turn_told}

-- ---- edits

-- how many edits there are
abbrev pub edits_in : {E : Type 0} → List (Recorded E) → ℕ
edits_in [] = 0
edits_in (one ∷ recorded) = length one.edits + edits_in recorded

-- how many edits there are for that turn and later ones
abbrev pub edits_from : {E : Type 0} → ℕ → List (Recorded E) → ℕ
edits_from number [] = 0
edits_from number (one ∷ recorded) = cond (nat_le number one.turn) (length one.edits) 0 + edits_from number recorded

-- how many edits there are for that turn
abbrev pub edits_for : {E : Type 0} → List (Recorded E) → ℕ → ℕ
edits_for recorded number = length (edits_at recorded number false) + length (edits_at recorded number true)

-- ---- places

-- how many atoms an operator adds at most
abbrev pub adds_most : List Schema → ℕ
adds_most [] = 0
adds_most (schema ∷ schemas) = max (length schema.add) (adds_most schemas)

-- how many turns a run has at most
abbrev pub most_turns : {E : Type 0} → Table → List (Recorded E) → ℕ
most_turns table recorded = (length recorded + 1) * (length table.steps + 1)

-- how many places that many turns may take, from that number on
abbrev pub places_from : {E : Type 0} → Problem → List (Recorded E) → ℕ → ℕ → ℕ
places_from problem recorded turns number = edits_from number recorded + turns * adds_most problem.schemas

-- how many places the turn may take
abbrev pub places_of_turn : {E : Type 0} → Problem → List (Recorded E) → ℕ → ℕ
places_of_turn problem recorded number = edits_for recorded number + adds_most problem.schemas

-- how many places its action may take, together with the edits before it
abbrev pub places_of_action : {E : Type 0} → Problem → List (Recorded E) → ℕ → ℕ
places_of_action problem recorded number = length (edits_at recorded number true) + adds_most problem.schemas

-- ---- a world of any kind: its rules, its atoms, how many places it has, and which edits it admits

module _ {S E : Type 0} (rules_of : S → Problem) (atoms_in : S → List Atom) (spare_of : S → ℕ) (admits : S → E → Type 0) where
  -- The world has the executor's rules, and at least this many places. With this many more atoms there is room for its atoms.
  pub record HasPlaces (planex : PlanexValue) (places : ℕ) (world : S) : Type 0 where
    pub rules : HaveSameRules (rules_of world) planex.problem
    pub spare : places ≤ spare_of world
    pub room : length (atoms_in world) + places ≤ planex.room

  -- the world has at most `places` more atoms, and at most `places` fewer places; it has the same rules, and admits the same edits
  pub record HasTaken (places : ℕ) (old new : S) : Type 0 where
    pub number : length (atoms_in new) ≤ length (atoms_in old) + places
    pub spare : spare_of old ≤ spare_of new + places
    pub rules : rules_of new ≡ rules_of old
    pub edits : AdmitSame (admits old) (admits new)

  -- the edits came, one after the other: what they leave, and how many places they took at most
  pub record IsDisturbed (leaves : E → List Atom → List Atom) (edits : List E) (old new : S) : Type 0 where
    pub atoms : atoms_in new ≡ after_edits leaves edits (atoms_in old)
    pub taken : HasTaken (length edits) old new

-- ---- turns

module _ {E : Type 0} (leaves : E → List Atom → List Atom) where
  -- what is left of the turn after kernel `i` was sensed
  abbrev pub EndsSensed : PlanexValue → List (Recorded E) → ℕ → ℕ → List Atom → Turn → List Atom → Memory → Type 0
  EndsSensed planex recorded number i atoms turn after memory =
      EndsTurn leaves planex.problem planex.table planex.bound (edits_at recorded number true) (running atoms planex.memory) (Sensed i)
      (turn_told turn) (running after memory)

  -- the turn of that number, from these atoms on
  abbrev pub TakesNumbered : PlanexValue → List (Recorded E) → ℕ → List Atom → Turn → List Atom → Memory → Type 0
  TakesNumbered planex recorded number atoms turn after memory =
      TakesTurn leaves planex.problem planex.table planex.bound (edits_at recorded number false) (edits_at recorded number true)
      (running atoms planex.memory) (turn_told turn) (running after memory)

  -- the turns from that number on
  abbrev pub TakesFrom : PlanexValue → List (Recorded E) → ℕ → List Atom → List TurnValue → List Atom → Memory → Type 0
  TakesFrom planex recorded number atoms turns after memory =
      TakesTurns leaves planex.problem planex.table planex.bound recorded number (running atoms planex.memory) turns
      (running after memory)
