-- The arguments of atoms, and places among names.
use Rattle.px_so_far.proofs.Common.{◌≡◌, Bool, List, [], ◌∷◌, map, refl, ap, ◌∙◌, ◌||◌, list_any, flat_map, list_any-append, list_any-map, position-map, some-position, argument_view, signed_view, WrittenAtom, length-map}
use Rattle.px_script.specs.Items as items

-- a place among items seen otherwise
pub ruleset positions = (list_any-map, position-map, some-position)

-- a count of items seen otherwise
pub ruleset lengths = (length-map)

-- the arguments of atoms, one atom after another
abbrev pub arguments : List items.SignedAtom → List items.Argument
arguments atoms = flat_map (λ x. x.atom.arguments) atoms

-- a test of arguments, atom by atom
pub atoms-any : (p : items.Argument → Bool) (atoms : List WrittenAtom)
    → list_any p (arguments (map signed_view atoms)) ≡ list_any (λ atom. list_any (λ a. p (argument_view a)) atom.arguments.items) atoms
atoms-any p [] = refl
atoms-any p (atom ∷ more) = list_any-append p (map argument_view atom.arguments.items) (arguments (map signed_view more))
    ∙ ap (λ b. b || list_any p (arguments (map signed_view more))) (list_any-map p argument_view atom.arguments.items)
    ∙ ap (λ b. list_any (λ a. p (argument_view a)) atom.arguments.items || b) (atoms-any p more)
