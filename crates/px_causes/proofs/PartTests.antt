-- Tests of a line's arguments and atoms: those of atoms, those of no atom, and those of the parts of proofs.
use Rattle.px_causes.proofs.Common.{◌≡◌, Bool, true, false, List, [], ◌∷◌, ◌++◌, map, refl, sym, ap, ◌∙◌, ◌||◌, list_any, flat_map, not, ◌==◌, length, length-map, slice_index, Declared, number_in, has_wrong_arity, list_any-append, list_any-map}
use Rattle.px_script.specs.Items as items
use Rattle.px_script.specs.Items.{atoms_of_part, terms_of_part}
use Rattle.px_lines.specs.ItemViews.{argument_view, part_view, signed_view, rest_arguments, rest_atoms, rest_parts}
use Rattle.px_lines.specs.declared.parts.Part.{Part}
use Rattle.px_lines.specs.declared.parts.Part.TheVariants as part
use Rattle.px_causes.specs.Checks.{part_has, part_atom_has}
use Rattle.px_so_far.proofs.AtomTests.{arguments, atoms-any}
use Rattle.px_script.specs.Forms.{arguments_of, line_atoms}
use Rattle.px_lines.proofs.Views.{arguments-of-line, atoms-of-line}
use Rattle.px_lines.specs.LineViews.{line_view}
use Rattle.px_lines.specs.declared.items.Argument.{Argument as WrittenArgument}
use Rattle.px_lines.specs.declared.items.SignedAtom.{SignedAtom as WrittenAtom}
use Rattle.px_lines.specs.declared.reading.Line.{Line}

first : (a b c : Bool) → ((a || b) || c) ≡ (a || (b || c))
first true b c = refl
first false b c = refl

second : (a b c : Bool) → (a || (b || c)) ≡ (b || (a || c))
second true true c = refl
second true false c = refl
second false b c = refl

-- the arguments of the atoms of parts and their terms, part by part
pub parts-any : (p : items.Argument → Bool) (parts : List Part)
    → (list_any p (arguments (flat_map atoms_of_part (map part_view parts))) || list_any p (flat_map terms_of_part (map part_view parts)))
    ≡ list_any (part_has p) parts
parts-any p [] = refl
parts-any p (part.Fact column index x ∷ more) =
    let rest = arguments (flat_map atoms_of_part (map part_view more)) in let terms = flat_map terms_of_part (map part_view more) in
    ap (λ b. b || list_any p terms) (list_any-append p (map argument_view x.arguments.items) rest)
    ∙ first (list_any p (map argument_view x.arguments.items)) (list_any p rest) (list_any p terms)
    ∙ ap (λ b. b || (list_any p rest || list_any p terms)) (list_any-map p argument_view x.arguments.items)
    ∙ ap (λ b. list_any (λ a. p (argument_view a)) x.arguments.items || b) (parts-any p more)
parts-any p (part.Ancestor k ∷ more) = parts-any p more
parts-any p (part.Axiom k place count ts ∷ more) =
    let rest = arguments (flat_map atoms_of_part (map part_view more)) in let terms = flat_map terms_of_part (map part_view more) in
    ap (λ b. list_any p rest || b) (list_any-append p (map argument_view ts.items) terms)
    ∙ second (list_any p rest) (list_any p (map argument_view ts.items)) (list_any p terms)
    ∙ ap (λ b. b || (list_any p rest || list_any p terms)) (list_any-map p argument_view ts.items)
    ∙ ap (λ b. list_any (λ a. p (argument_view a)) ts.items || b) (parts-any p more)

parts-atoms : (q : items.SignedAtom → Bool) (parts : List Part)
    → list_any q (flat_map atoms_of_part (map part_view parts)) ≡ list_any (part_atom_has (λ x. q (signed_view x))) parts
parts-atoms q [] = refl
parts-atoms q (part.Fact column index x ∷ more) = ap (λ b. q (signed_view x) || b) (parts-atoms q more)
parts-atoms q (part.Ancestor k ∷ more) = parts-atoms q more
parts-atoms q (part.Axiom k place count ts ∷ more) = parts-atoms q more

-- the atoms, the arguments and the parts of a line, as its methods give them
module _ (l : Line) (atoms : List WrittenAtom) (others : List WrittenArgument) (parts : List Part)
    (atoms_are : map signed_view atoms ≡ rest_atoms l.last) (others_are : map argument_view others ≡ rest_arguments l.last)
    (parts_are : map part_view parts ≡ rest_parts l.last) where
  pub line-arguments-any : (p : items.Argument → Bool) → list_any p (arguments_of (line_view l))
      ≡ (list_any (λ atom. list_any (λ a. p (argument_view a)) atom.arguments.items) atoms
      || (list_any (λ a. p (argument_view a)) others || list_any (part_has p) parts))
  line-arguments-any p = ap (list_any p) (arguments-of-line l.ones.items l.last)
      ∙ joined (rest_atoms l.last) (rest_arguments l.last) (rest_parts l.last) atoms_are others_are parts_are
    where
      whole : list_any p (arguments (map signed_view atoms) ++ (map argument_view others
          ++ (arguments (flat_map atoms_of_part (map part_view parts)) ++ flat_map terms_of_part (map part_view parts))))
          ≡ (list_any (λ atom. list_any (λ a. p (argument_view a)) atom.arguments.items) atoms
          || (list_any (λ a. p (argument_view a)) others || list_any (part_has p) parts))
      whole =
          let z = arguments (flat_map atoms_of_part (map part_view parts)) in let w = flat_map terms_of_part (map part_view parts) in
          list_any-append p (arguments (map signed_view atoms)) (map argument_view others ++ (z ++ w))
          ∙ ap (λ t. list_any p (arguments (map signed_view atoms)) || t) (list_any-append p (map argument_view others) (z ++ w)
          ∙ ap (λ t. list_any p (map argument_view others) || t) (list_any-append p z w ∙ parts-any p parts)
          ∙ ap (λ t. t || list_any (part_has p) parts) (list_any-map p argument_view others))
          ∙ ap (λ t. t || (list_any (λ a. p (argument_view a)) others || list_any (part_has p) parts)) (atoms-any p atoms)

      joined : (xs : List items.SignedAtom) (bs : List items.Argument) (cs : List items.Part)
          → map signed_view atoms ≡ xs → map argument_view others ≡ bs → map part_view parts ≡ cs
          → list_any p (arguments xs ++ (bs ++ (arguments (flat_map atoms_of_part cs) ++ flat_map terms_of_part cs)))
          ≡ (list_any (λ atom. list_any (λ a. p (argument_view a)) atom.arguments.items) atoms
          || (list_any (λ a. p (argument_view a)) others || list_any (part_has p) parts))
      joined xs bs cs a b c = rw (← a, ← b, ← c) whole

module _ (l : Line) (atoms : List WrittenAtom) (parts : List Part) (atoms_are : map signed_view atoms ≡ rest_atoms l.last)
    (parts_are : map part_view parts ≡ rest_parts l.last) where
  pub line-atoms-any : (q : items.SignedAtom → Bool) → list_any q (line_atoms (line_view l))
      ≡ (list_any (λ x. q (signed_view x)) atoms || list_any (part_atom_has (λ x. q (signed_view x))) parts)
  line-atoms-any q = ap (list_any q) (atoms-of-line l.ones.items l.last)
      ∙ joined (rest_atoms l.last) (rest_parts l.last) atoms_are parts_are
    where
      whole : list_any q (map signed_view atoms ++ flat_map atoms_of_part (map part_view parts))
          ≡ (list_any (λ x. q (signed_view x)) atoms || list_any (part_atom_has (λ x. q (signed_view x))) parts)
      whole = list_any-append q (map signed_view atoms) (flat_map atoms_of_part (map part_view parts))
          ∙ ap (λ t. list_any q (map signed_view atoms) || t) (parts-atoms q parts)
          ∙ ap (λ t. t || list_any (part_atom_has (λ x. q (signed_view x))) parts) (list_any-map q signed_view atoms)

      joined : (xs : List items.SignedAtom) (cs : List items.Part) → map signed_view atoms ≡ xs → map part_view parts ≡ cs
          → list_any q (xs ++ flat_map atoms_of_part cs)
          ≡ (list_any (λ x. q (signed_view x)) atoms || list_any (part_atom_has (λ x. q (signed_view x))) parts)
      joined xs cs a c = rw (← a, ← c) whole

-- a test of which some part is known
pub or-then : (a b whole : Bool) → whole ≡ (a || b) → a ≡ true → true ≡ whole
or-then a b whole is e = rw e at (sym is)

pub or-else : (a b whole : Bool) → whole ≡ (a || b) → a ≡ false → b ≡ whole
or-else a b whole is e = rw e at (sym is)

-- the atoms of a line by their numbers of arguments
module _ (d : Declared) where
  abbrev differs : items.SignedAtom → Bool
  differs x = not (length x.atom.arguments == slice_index d.arities (number_in x.atom.predicate d.names.predicates))

  abbrev written_differs : WrittenAtom → Bool
  written_differs x = not (length x.arguments.items == slice_index d.arities (number_in x.predicate.now d.names.predicates))

  one-differs : (x : WrittenAtom) → differs (signed_view x) ≡ written_differs x
  one-differs x = rw (length-map x.arguments.items argument_view) refl

  pub atoms-differ : (xs : List WrittenAtom) → list_any (λ x. differs (signed_view x)) xs ≡ list_any written_differs xs
  atoms-differ [] = refl
  atoms-differ (x ∷ more) = rw (one-differs x, atoms-differ more) refl

  pub parts-differ : (parts : List Part) → list_any (part_atom_has (λ x. differs (signed_view x))) parts
      ≡ list_any (part_atom_has written_differs) parts
  parts-differ [] = refl
  parts-differ (part.Fact column index x ∷ more) = rw (one-differs x, parts-differ more) refl
  parts-differ (part.Ancestor k ∷ more) = parts-differ more
  parts-differ (part.Axiom k place count ts ∷ more) = parts-differ more

  pub line-differs : (l : Line) (atoms : List WrittenAtom) (parts : List Part) → map signed_view atoms ≡ rest_atoms l.last
      → map part_view parts ≡ rest_parts l.last
      → has_wrong_arity d (line_view l) ≡ (list_any written_differs atoms || list_any (part_atom_has written_differs) parts)
  line-differs l atoms parts atoms_are parts_are = line-atoms-any l atoms parts atoms_are parts_are differs
      ∙ ap (λ b. b || list_any (part_atom_has (λ x. differs (signed_view x))) parts) (atoms-differ atoms)
      ∙ ap (λ b. list_any written_differs atoms || b) (parts-differ parts)
