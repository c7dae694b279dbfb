-- When a plan is too long, its proofs too high, or its generalisation too wide.
use Rattle.std.specs.Prelude.{◌<◌, ℕ, length, Any}
use Rattle.px_table.specs.Limits.{most_steps}
use Rattle.px_proof.specs.Derivation.{height}
use Rattle.px_table.specs.declared.table.Table.{Table}
use Rattle.px_table.specs.Tables.{rows_of}
use Rattle.px_replay.specs.FreshVariables.{fresh_variables}
use Rattle.px_unify.specs.declared.change.TheConstants.{MOST_VARIABLES}

-- the greatest height of the proofs of a plan that is generalised
abbrev pub most_proof_height : ℕ
most_proof_height = 56

abbrev pub IsTooLong : Table → Type 0
IsTooLong table = most_steps < length table.steps

abbrev pub IsTooDeep : Table → Type 0
IsTooDeep table = Any (Any (λ d. most_proof_height < height d)) (rows_of table.proofs)

abbrev pub IsTooWide : Table → Type 0
IsTooWide table = MOST_VARIABLES < fresh_variables table
