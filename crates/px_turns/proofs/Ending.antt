-- How the last of some turns ended.
use Rattle.std.specs.Prelude.{◌≡◌, ◌≢◌, List, [], ◌∷◌, ◌++◌, MatchBool, true, false, Bool}
use Rattle.std.proofs.Common.{refl}
use Rattle.px_planex.specs.Turns.{AtGoal, AtNoKernel, TurnEnd, TurnValue}
use Rattle.px_turns.specs.Told.{EndsRun}

-- the turn after others is the last
pub ends-last : (turns : List TurnValue) (turn : TurnValue) (end : TurnEnd) → turn.end ≡ end → EndsRun end (turns ++ turn ∷ [])
ends-last [] turn end is = is
ends-last (one ∷ []) turn end is = is
ends-last (one ∷ next ∷ turns) turn end is = ends-last (next ∷ turns) turn end is

-- the last of all turns is that of the later ones, if there are any
pub ends-later : (before run : List TurnValue) (end : TurnEnd) → run ≢ [] → EndsRun end (before ++ run) → EndsRun end run
ends-later [] run end some ends = ends
ends-later (one ∷ []) [] end some ends = absurd (some refl)
ends-later (one ∷ []) (turn ∷ run) end some ends = ends
ends-later (one ∷ next ∷ before) run end some ends = ends-later (next ∷ before) run end some ends

-- a Boolean tells at the last turn of all what it tells of that turn
pub tells-last : (b : Bool) (turns : List TurnValue) (turn : TurnValue) → MatchBool b (turn.end ≡ AtGoal) (turn.end ≡ AtNoKernel)
    → MatchBool b (EndsRun AtGoal (turns ++ turn ∷ [])) (EndsRun AtNoKernel (turns ++ turn ∷ []))
tells-last true turns turn is = ends-last turns turn AtGoal is
tells-last false turns turn is = ends-last turns turn AtNoKernel is
