-- A fact for each way in which a walk ends.
use Rattle.std.specs.Prelude.{List}
use Rattle.px_proof.specs.declared.shape.Tick.{Tick}
use Rattle.px_proof_walk.specs.declared.end.End.{End}
use Rattle.px_proof_walk.specs.declared.end.End.TheVariants.{Found, NoMore, Limit}

abbrev pub MatchEnd : End → Type 0 → Type 0 → (List (List Tick) → Type 0) → Type 0
MatchEnd Found found none limit = found
MatchEnd NoMore found none limit = none
MatchEnd (Limit shapes) found none limit = limit shapes.items
