use Rattle.px_effects.proofs.Common.{◌≡◌, ◌++◌, [], map, take, atom_set, atom_of, declared_of, signed_view}
use Rattle.px_effects.proofs.declaring.add_facts.Given as goal

abbrev pub invariant-loop-atom : goal.invariant-loop-atom
invariant-loop-atom l =
    (l.so_far ≡ record l.initial.so_far { facts = l.so_far.facts })
    × (l.so_far.facts.atoms ≡ atom_set
    (map (λ a. atom_of (declared_of l.initial.so_far) [] (signed_view a)) (take l.atom-index l.atoms) ++ l.initial.so_far.facts.atoms))
