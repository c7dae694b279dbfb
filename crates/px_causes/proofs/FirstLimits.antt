-- The first limit that is passed, of one list and then of another.
use Rattle.std.specs.Option.{option_or}
use Rattle.px_causes.proofs.Common.{◌≡◌, ℕ, List, [], ◌∷◌, ◌++◌, Bool, true, false, Option, None, Some, refl}
use Rattle.px_causes.specs.EarlyFaults.{IsFirstLimit}
use Rattle.px_causes.specs.FaultViews.{limit_number}
use Rattle.px_causes.specs.declared.line_fault.PassedLimit.{PassedLimit}
use Rattle.std.specs.Prelude.{if◌then◌else◌}

-- three limits, the one after the other
pub three-limits : (a b c : Bool) (one two three : PassedLimit)
    → IsFirstLimit (option_or (option_or (if a then Some one else None) (if b then Some two else None)) (if c then Some three else None))
    ((a, limit_number one) ∷ (b, limit_number two) ∷ (c, limit_number three) ∷ [])
three-limits true b c one two three = refl
three-limits false true c one two three = refl
three-limits false false true one two three = refl
three-limits false false false one two three = refl

-- the limits of one list before those of another
pub or-limits : (one other : Option PassedLimit) (before after : List (Bool × ℕ)) → IsFirstLimit one before → IsFirstLimit other after
    → IsFirstLimit (option_or one other) (before ++ after)
or-limits (Some limit) other [] after is more = cc
or-limits None other [] after is more = more
or-limits (Some limit) other ((true, n) ∷ before) after is more = is
or-limits None other ((true, n) ∷ before) after is more = cc
or-limits one other ((false, n) ∷ before) after is more = or-limits one other before after is more
