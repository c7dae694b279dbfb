use Rattle.px_effects.proofs.Common.{◌≡◌, map, take, string_bytes, text_of}
use Rattle.px_effects.proofs.blocks.owned.Given as goal

abbrev pub invariant-loop-name : goal.invariant-loop-name
invariant-loop-name l = map string_bytes l.owned.items ≡ map text_of (take l.name-index l.names)
