use Rattle.px_effects.proofs.Common.{◌≡◌, map, take, with_more, text_of}
use Rattle.px_effects.proofs.declaring.declare_names.Given as goal

abbrev pub invariant-loop-name : goal.invariant-loop-name
invariant-loop-name l = l.so_far ≡ record l.initial.so_far
    { names = with_more l.kind (map text_of (take l.name-index l.names)) l.initial.so_far.names }
