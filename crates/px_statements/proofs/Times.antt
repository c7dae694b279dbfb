-- Disturbances by the word of their time.
use Rattle.px_statements.proofs.Common.{◌≡◌, ℕ, Bool, true, false, List, ◌∷◌, refl, None, Some, time_of}
use Rattle.px_script.specs.Items as items
use Rattle.px_script.specs.Statements.{time_word}
use Rattle.px_script.specs.Rows.{make_disturb}
use Rattle.px_lines.specs.ItemViews.{rest_view}
use Rattle.px_lines.specs.declared.items.Rest.{Rest}
use Rattle.px_lines.specs.declared.items.Rest.TheVariants as rest

-- no time, no disturbance
pub no-time : (b : Bool) (turn : ℕ) (w : List ℕ) (last : Rest) → None ≡ time_of w
    → make_disturb b (items.amount turn ∷ items.the w ∷ rest_view last) ≡ None
no-time false turn w (rest.Atoms xs) none = rw (← none) refl
no-time true turn w (rest.RoomEdits es) none = rw (← none) refl
no-time false turn w _ none = refl
no-time true turn w _ none = refl

-- the same time by another word is the same disturbance
pub same-time : (b : Bool) (turn : ℕ) (w : List ℕ) (last : Rest) (between : Bool) → Some between ≡ time_of w
    → make_disturb b (items.amount turn ∷ items.the (time_word between) ∷ rest_view last)
    ≡ make_disturb b (items.amount turn ∷ items.the w ∷ rest_view last)
same-time false turn w (rest.Atoms xs) true is = rw (← is) refl
same-time false turn w (rest.Atoms xs) false is = rw (← is) refl
same-time true turn w (rest.RoomEdits es) true is = rw (← is) refl
same-time true turn w (rest.RoomEdits es) false is = rw (← is) refl
same-time false turn w _ between is = refl
same-time true turn w _ between is = refl

pub ruleset untimed = (no-time, same-time)
