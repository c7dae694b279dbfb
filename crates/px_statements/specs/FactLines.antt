-- Lines of facts.
use Rattle.std.specs.Prelude.{Bool, true, false}
use Rattle.px_script.specs.Statements.{Statement, fact}

-- a line of facts, which are counted once they are added
abbrev pub is_fact : Statement → Bool
is_fact (fact xs) = true
is_fact _ = false
