-- The faults of a line that are found before it is declared: all but the limit of facts.
use Rattle.std.specs.Prelude.{ℕ, List, map, ◌≡◌, ◌++◌, Bool, [], ◌∷◌, Option}
use Rattle.std.specs.Option.{option_map}
use denote.Ref.{Bor}
use Rattle.px_lines.specs.ItemViews.{text_of}
use Rattle.px_script.specs.Causes.{has_long_name}
use Rattle.px_script.specs.Declarations.{Declared}
use Rattle.px_script.specs.Faults.{Refusal, causes_with, coded, first_of, is_bad_table, own_limits, passed}
use Rattle.px_script.specs.Limits.{number_of}
use Rattle.px_script.specs.Stages.{Stage}
use Rattle.px_script.specs.Statements.{Statement, line_of, fact}
use Rattle.px_script.specs.declared.limits.Limit.TheVariants.{NameBytes as name_bytes}
use Rattle.px_causes.specs.FaultViews.{limit_refusal}
use Rattle.px_causes.specs.declared.line_fault.PassedLimit.{PassedLimit}

-- the limits of a line but for that of facts
abbrev pub early_own : Declared → Statement → List (Bool × ℕ)
early_own d (fact xs) = []
early_own d s = own_limits d s

-- the same with that of long names
abbrev pub early_limits : Declared → Statement → List (Bool × ℕ)
early_limits d s = (has_long_name d (line_of s), number_of name_bytes) ∷ early_own d s

-- the last causes of a line but for the limit of facts
abbrev pub late_causes : Declared → Statement → List (Bool × Refusal)
late_causes d s = map passed (early_limits d s) ++ (is_bad_table d s, coded 12) ∷ []

abbrev pub late_fault : Declared → Statement → Option Refusal
late_fault d s = first_of (late_causes d s)

-- the first fault of a line but for the limit of facts
abbrev pub early_fault : Stage → Declared → Statement → Option Refusal
early_fault stage d s = first_of (causes_with stage d s (early_limits d s) ++ (is_bad_table d s, coded 12) ∷ [])

-- the first of these limits that is passed, if any is
abbrev pub IsFirstLimit : Option PassedLimit → List (Bool × ℕ) → Type 0
IsFirstLimit found tests = option_map limit_refusal found ≡ first_of (map passed tests)

-- the words of a stage
abbrev pub stage_view : List (Bor (List ℕ)) → Stage
stage_view words = map text_of words
