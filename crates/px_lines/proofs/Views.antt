-- What single tokens say has no atoms and no parameters, and is filled; tests of all that a line's items have.
use Rattle.px_lines.proofs.Common.{ℕ, Some, None, subst, ◌≡◌, Bool, true, false, List, [], ◌∷◌, ◌++◌, map, refl, ap, sym, ◌∙◌, append-nil, list_all, list_all-append}
use Rattle.std.specs.List.{flat_map, list_any}
use Rattle.std.specs.Prelude.{◌&&◌, ◌||◌}
use Rattle.std.proofs.lemmas.List.Folds.{list_all-map, list_any-append}
use Rattle.px_script.specs.Items as items
use Rattle.px_lines.specs.declared.items.SignedAtom.{SignedAtom}
use Rattle.px_lines.specs.declared.parts.Part.{Part}
use Rattle.px_lines.specs.ItemViews.{signed_view}
use Rattle.px_script.specs.Items.{Item, arguments_in, atoms_in, has_parameter, is_filled, atoms_of_part, terms_of_part}
use Rattle.px_script.proofs.Forms.{there}
use Rattle.px_script.proofs.ReadRows.{has-row, has_word, row-is_word, row-word}
use Rattle.px_script.specs.Rows.{is_of, row_of}
use Rattle.px_script.specs.Limits.{is_word}
use Rattle.px_lines.specs.ItemViews.{rest_view, said_items, said_view, rest_atoms, rest_arguments, rest_parts, part_view}
use Rattle.px_lines.specs.LineViews.{row_view}
use Rattle.px_lines.specs.declared.rows.Row.{Row}
use Rattle.px_lines.specs.declared.items.Rest.{Rest}
use Rattle.px_lines.specs.declared.items.Rest.TheVariants as rest
use Rattle.px_lines.specs.declared.items.Said.{Said}
use Rattle.px_lines.specs.declared.items.Said.TheVariants as said

-- a test of all, of items seen otherwise
pub ruleset all_maps = (list_all-map)

-- a list of one list
pub ruleset whole = (append-nil)

-- the words of a version are those of the table that it has
pub word-there : (version : ℕ) (w : List ℕ) (r : Row) → Some (row_view r) ≡ row_of false w
    → is_of version (row_view r) ≡ is_word version w
word-there version w r is = ap (has_word version) is ∙ row-is_word version false w

pub no-word : (version : ℕ) (w : List ℕ) → None ≡ row_of false w → false ≡ is_word version w
no-word version w is = ap (has_word version) is ∙ row-is_word version false w

pub ruleset words = (word-there, no-word)

-- the row of a word that was found is that of its own word
pub known-row : (b : Bool) (w : List ℕ) (r : Row) → Some (row_view r) ≡ row_of b w → row_of b r.word.now ≡ Some (row_view r)
known-row b w r is = there (λ t. row_of b t.word ≡ Some t) (row_of b w) (row_view r) (has-row b w) (sym is)

pub known-word : (version : ℕ) (b : Bool) (w : List ℕ) (r : Row) → Some (row_view r) ≡ row_of b w → is_word version w ≡ true
    → is_word version r.word.now ≡ true
known-word version b w r is known = subst (λ v. is_word version v ≡ true)
    (there (λ t. w ≡ t.word) (row_of b w) (row_view r) (row-word b w) (sym is)) known

pub ruleset known_rows = (known-row, known-word)

one-filled : (x : Said) → is_filled (said_view x) ≡ true
one-filled (said.The w) = refl
one-filled _ = refl

ones-filled : (ones : List Said) → list_all is_filled (map said_view ones) ≡ true
ones-filled [] = refl
ones-filled (x ∷ xs) = ap (λ b. b && list_all is_filled (map said_view xs)) (one-filled x) ∙ ones-filled xs

no-atoms : (x : Said) → atoms_in (said_view x) ≡ []
no-atoms (said.The w) = refl
no-atoms _ = refl

no-arguments : (x : Said) → arguments_in (said_view x) ≡ []
no-arguments (said.The w) = refl
no-arguments _ = refl

-- a list of nothing
none-in : {B : Type 0} (f : Item → List B) → ((x : Said) → f (said_view x) ≡ []) → (ones : List Said) (more : List Item)
    → flat_map f (map said_view ones ++ more) ≡ flat_map f more
none-in f none [] more = refl
none-in f none (x ∷ xs) more = ap (λ t. t ++ flat_map f (map said_view xs ++ more)) (none x) ∙ none-in f none xs more

pub filled-items : (ones : List Said) (last : Rest) → list_all is_filled (said_items ones last) ≡ list_all is_filled (rest_view last)
filled-items ones last = list_all-append is_filled (map said_view ones) (rest_view last)
    ∙ ap (λ b. b && list_all is_filled (rest_view last)) (ones-filled ones)

pub atoms-items : (ones : List Said) (last : Rest) → flat_map atoms_in (said_items ones last) ≡ flat_map atoms_in (rest_view last)
atoms-items ones last = none-in atoms_in no-atoms ones (rest_view last)

pub arguments-items : (ones : List Said) (last : Rest)
    → flat_map arguments_in (said_items ones last) ≡ flat_map arguments_in (rest_view last)
arguments-items ones last = none-in arguments_in no-arguments ones (rest_view last)

no-parameter : (x : Said) → has_parameter (said_view x) ≡ false
no-parameter (said.The w) = refl
no-parameter _ = refl

pub parameters-items : (ones : List Said) (last : Rest)
    → list_any has_parameter (said_items ones last) ≡ list_any has_parameter (rest_view last)
parameters-items [] last = refl
parameters-items (x ∷ xs) last = ap (λ b. b || list_any has_parameter (said_items xs last)) (no-parameter x) ∙ parameters-items xs last

or-group : (a b c : Bool) → (a || (b || c)) ≡ ((a || b) || c)
or-group true b c = refl
or-group false b c = refl

-- a test of all that the items have, token by token, and of the rest
pub any-said : {B : Type 0} (f : Item → List B) (p : B → Bool) (ones : List Said) (last : Rest)
    → list_any p (flat_map f (said_items ones last))
    ≡ (list_any (λ x. list_any p (f (said_view x))) ones || list_any p (flat_map f (rest_view last)))
any-said f p [] last = refl
any-said f p (x ∷ xs) last = list_any-append p (f (said_view x)) (flat_map f (said_items xs last))
    ∙ ap (λ b. list_any p (f (said_view x)) || b) (any-said f p xs last)
    ∙ or-group (list_any p (f (said_view x))) (list_any (λ x. list_any p (f (said_view x))) xs) (list_any p (flat_map f (rest_view last)))

-- the atoms and the arguments of a line: those of proofs stand after the others
pub atoms-of-line : (ones : List Said) (last : Rest)
    → flat_map atoms_in (said_items ones last) ≡ rest_atoms last ++ flat_map atoms_of_part (rest_parts last)
atoms-of-line ones last = atoms-items ones last ∙ apart last
  where
    apart : (last : Rest) → flat_map atoms_in (rest_view last) ≡ rest_atoms last ++ flat_map atoms_of_part (rest_parts last)
    apart (rest.Atoms xs) = refl
    apart (rest.Proofs parts) = append-nil _
    apart _ = refl

pub arguments-of-line : (ones : List Said) (last : Rest) → flat_map arguments_in (said_items ones last)
    ≡ flat_map (λ x. x.atom.arguments) (rest_atoms last) ++ (rest_arguments last
    ++ (flat_map (λ x. x.atom.arguments) (flat_map atoms_of_part (rest_parts last)) ++ flat_map terms_of_part (rest_parts last)))
arguments-of-line ones last = arguments-items ones last ∙ apart last
  where
    apart : (last : Rest) → flat_map arguments_in (rest_view last) ≡ flat_map (λ x. x.atom.arguments) (rest_atoms last)
        ++ (rest_arguments last ++ (flat_map (λ x. x.atom.arguments) (flat_map atoms_of_part (rest_parts last))
        ++ flat_map terms_of_part (rest_parts last)))
    apart (rest.Atoms xs) = refl
    apart (rest.Arguments ts) = refl
    apart (rest.Proofs parts) = append-nil _
    apart _ = refl

-- a test of all atoms of a line
pub all-of-line : (test : items.SignedAtom → Bool) (ones : List Said) (last : Rest) (atoms : List SignedAtom) (parts : List Part)
    → map signed_view atoms ≡ rest_atoms last → map part_view parts ≡ rest_parts last
    → list_all test (flat_map atoms_in (said_items ones last))
    ≡ (list_all test (map signed_view atoms) && list_all (λ part. list_all test (atoms_of_part (part_view part))) parts)
all-of-line test ones last atoms parts atoms_are parts_are = ap (list_all test) (atoms-of-line ones last)
    ∙ joined (rest_atoms last) (rest_parts last) atoms_are parts_are
  where
    each : (parts : List Part) → list_all test (flat_map atoms_of_part (map part_view parts))
        ≡ list_all (λ part. list_all test (atoms_of_part (part_view part))) parts
    each [] = refl
    each (part ∷ more) = list_all-append test (atoms_of_part (part_view part)) (flat_map atoms_of_part (map part_view more))
        ∙ ap (λ b. list_all test (atoms_of_part (part_view part)) && b) (each more)

    joined : (xs : List items.SignedAtom) (ps : List items.Part) → map signed_view atoms ≡ xs → map part_view parts ≡ ps
        → list_all test (xs ++ flat_map atoms_of_part ps)
        ≡ (list_all test (map signed_view atoms) && list_all (λ part. list_all test (atoms_of_part (part_view part))) parts)
    joined xs ps a b = rw (← a, ← b) (list_all-append test (map signed_view atoms) (flat_map atoms_of_part (map part_view parts))
        ∙ ap (λ t. list_all test (map signed_view atoms) && t) (each parts))

-- a test of which the first part is known
pub and-then : (a b whole : Bool) → whole ≡ (a && b) → a ≡ true → b ≡ whole
and-then a b whole is e = rw e at (sym is)

pub and-else : (a b whole : Bool) → whole ≡ (a && b) → a ≡ false → false ≡ whole
and-else a b whole is e = rw e at (sym is)

pub ruleset of_line = (filled-items, atoms-items, arguments-items, parameters-items)
