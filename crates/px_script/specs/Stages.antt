-- How much of the language is built.
use Rattle.std.specs.Prelude.{ℕ, Bool, List, not}
use Rattle.px_script.specs.Common.{has_name}
use Rattle.px_script.specs.Limits.{words}
use Rattle.px_script.specs.Statements.{Statement, line_of}

-- the words that are built
abbrev pub Stage : Type 0
Stage = List (List ℕ)

-- the whole of it, as far as it is described
abbrev pub whole_language : Stage
whole_language = words 3

-- what is built now: all that is described
abbrev pub stage_now : Stage
stage_now = whole_language

abbrev pub is_built : Stage → List ℕ → Bool
is_built stage word = has_name word stage

-- the word of the line isn't built
abbrev pub is_unbuilt : Stage → Statement → Bool
is_unbuilt stage s = not (is_built stage (line_of s).word)
