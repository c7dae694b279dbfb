-- What may stand in a line after its word, how it is spelled, and what it is there for.
use Rattle.std.specs.Prelude.{ℕ, ◌+◌, Bool, true, false, List, [], ◌∷◌, ◌++◌, map, codes, not, nat_lt, ◌&&◌, ◌-◌, ◌==◌, fold}
use Rattle.std.specs.List.{flat_map, list_all}
use Rattle.std.specs.Fmt.{decimal}
use Rattle.px_script.specs.Lexemes.{Lexeme, name, variable, number, sign}
-- the greatest number of a parameter
pub use Rattle.px_script.specs.declared.limits.TheConstants.{LAST_PARAMETER as last_parameter}
-- what a name is the name of, and what stands before an atom
pub use Rattle.px_script.specs.declared.kinds.Named.{Named}
pub use Rattle.px_script.specs.declared.kinds.Named.TheVariants.{Object as an_object, Predicate as a_predicate, Operator as an_operator, Result as a_result, Parameter as a_parameter, Sort as a_sort, Room as a_room, Door as a_door, Box as a_box, Plan as a_plan, Table as a_table}
pub use Rattle.px_script.specs.declared.kinds.Sign.{Sign}
pub use Rattle.px_script.specs.declared.kinds.Sign.TheVariants.{Bare as bare, Negated as negated, Added as added, Removed as removed}

pub data Argument : Type 0 where
  named : List ℕ → Argument
  open_variable : List ℕ → Argument
  anything : Argument

abbrev pub is_variable : Argument → Bool
is_variable (open_variable v) = true
is_variable _ = false

pub record WrittenAtom : Type 0 where
  pub predicate : List ℕ
  pub arguments : List Argument

pub record SignedAtom : Type 0 where
  pub sign : Sign
  pub atom : WrittenAtom

-- the robot to a room; a box to a room; a door open or not
pub data WrittenRoomEdit : Type 0 where
  robot_to : List ℕ → WrittenRoomEdit
  box_to : List ℕ → List ℕ → WrittenRoomEdit
  door_to : List ℕ → Bool → WrittenRoomEdit

-- a parameter of a table by its number from 1, and the object's name
pub record Binding : Type 0 where
  pub parameter : ℕ
  pub object : List ℕ

-- What a proof begins with: a fact with its column and its index, an ancestor by its number, or a step of an axiom at a place, with its
-- terms, which this many proofs follow.
pub data Part : Type 0 where
  a_fact : ℕ → ℕ → SignedAtom → Part
  an_ancestor : ℕ → Part
  an_axiom : ℕ → ℕ → ℕ → List Argument → Part

pub data Item : Type 0 where
  -- this word
  the : List ℕ → Item
  -- one or more numbers
  amounts : List ℕ → Item
  -- one or more names that the line declares
  declared : Named → List (List ℕ) → Item
  -- names that the line declares, in parentheses with commas; nothing where there are no names
  listed : Named → List (List ℕ) → Item
  -- one or more names that an earlier line declared
  wanted : Named → List (List ℕ) → Item
  -- one or more atoms
  atoms : List SignedAtom → Item
  -- bindings, or none
  bindings : List Binding → Item
  -- one or more edits of a building
  room_edits : List WrittenRoomEdit → Item
  -- These stand only in lines from version 2 on: arguments in parentheses with commas, nothing where there are none; the proofs of one
  -- row, or none; one or more pairs of numbers.
  arguments : List Argument → Item
  proofs : List Part → Item
  pairs : List (ℕ × ℕ) → Item

abbrev pub amount : ℕ → Item
amount n = amounts (n ∷ [])

abbrev pub new : Named → List ℕ → Item
new kind n = declared kind (n ∷ [])

abbrev pub known : Named → List ℕ → Item
known kind n = wanted kind (n ∷ [])

-- x, x, .. x, with commas between
abbrev pub with_commas : List Lexeme → List Lexeme
with_commas [] = []
with_commas (x ∷ []) = x ∷ []
with_commas (x ∷ y ∷ more) = x ∷ sign 44 ∷ with_commas (y ∷ more)

-- a list in parentheses, and nothing for the empty list
abbrev pub parenthesised : List Lexeme → List Lexeme
parenthesised [] = []
parenthesised (x ∷ more) = sign 40 ∷ (with_commas (x ∷ more) ++ sign 41 ∷ [])

abbrev pub spell_argument : Argument → Lexeme
spell_argument (named n) = name n
spell_argument (open_variable v) = variable v
spell_argument anything = sign 36

abbrev pub spell_sign : Sign → List Lexeme
spell_sign bare = []
spell_sign negated = sign 126 ∷ []
spell_sign added = sign 43 ∷ []
spell_sign removed = sign 45 ∷ []

abbrev pub spell_atom : SignedAtom → List Lexeme
spell_atom signed = spell_sign signed.sign ++ name signed.atom.predicate ∷ parenthesised (map spell_argument signed.atom.arguments)

abbrev pub open_word : Bool → List ℕ
open_word true = codes "open"
open_word false = codes "closed"

abbrev pub spell_room_edit : WrittenRoomEdit → List Lexeme
spell_room_edit (robot_to r) = name (codes "robot") ∷ name r ∷ []
spell_room_edit (box_to b r) = name (codes "box") ∷ name b ∷ name r ∷ []
spell_room_edit (door_to d is_open) = name (codes "door") ∷ name d ∷ name (open_word is_open) ∷ []

-- the letter p directly followed by the number, without a leading zero
abbrev pub parameter_name : ℕ → List ℕ
parameter_name k = 112 ∷ decimal k

-- pK=NAME
abbrev pub spell_binding : Binding → List Lexeme
spell_binding binding = name (parameter_name binding.parameter) ∷ sign 61 ∷ name binding.object ∷ []

-- N=N
abbrev pub spell_pair : ℕ × ℕ → List Lexeme
spell_pair pair = number pair.0 ∷ sign 61 ∷ number pair.1 ∷ []

-- terms in parentheses with commas, () for none
abbrev pub spell_terms : List Argument → List Lexeme
spell_terms ts = sign 40 ∷ (with_commas (map spell_argument ts) ++ sign 41 ∷ [])

-- f J K ATOM, a N, or s C L M (TERMS)
abbrev pub spell_part : Part → List Lexeme
spell_part (a_fact column index x) = name (codes "f") ∷ number column ∷ number index ∷ spell_atom x
spell_part (an_ancestor k) = name (codes "a") ∷ number k ∷ []
spell_part (an_axiom k place count ts) = name (codes "s") ∷ number k ∷ number place ∷ number count ∷ spell_terms ts

-- how an item is spelled
abbrev pub spell : Item → List Lexeme
spell (the word) = name word ∷ []
spell (amounts ns) = map number ns
spell (declared kind ns) = map name ns
spell (listed kind ns) = parenthesised (map name ns)
spell (wanted kind ns) = map name ns
spell (atoms xs) = flat_map spell_atom xs
spell (bindings bs) = flat_map spell_binding bs
spell (room_edits es) = flat_map spell_room_edit es
spell (arguments ts) = parenthesised (map spell_argument ts)
spell (proofs parts) = flat_map spell_part parts
spell (pairs ps) = flat_map spell_pair ps

abbrev pub is_empty : {A : Type 0} → List A → Bool
is_empty [] = true
is_empty (x ∷ xs) = false

abbrev pub is_parameter_number : ℕ → Bool
is_parameter_number k = nat_lt 0 k && nat_lt k (last_parameter + 1)

-- how many proofs are still owed after the part, where `n` were owed before it; where none was, it begins one
abbrev pub owed : ℕ → Part → ℕ
owed n (an_axiom k place count ts) = n - 1 + count
owed n _ = n - 1

-- the parts are whole proofs
abbrev pub are_proofs : List Part → Bool
are_proofs parts = fold owed 0 parts == 0

-- Where an item is one or more things, there is one, parameters have numbers from 1 to the last, and
-- proofs are whole.
abbrev pub is_filled : Item → Bool
is_filled (amounts ns) = not (is_empty ns)
is_filled (declared kind ns) = not (is_empty ns)
is_filled (wanted kind ns) = not (is_empty ns)
is_filled (atoms xs) = not (is_empty xs)
is_filled (bindings bs) = list_all (λ b. is_parameter_number b.parameter) bs
is_filled (room_edits es) = not (is_empty es)
is_filled (pairs ps) = not (is_empty ps)
is_filled (proofs parts) = are_proofs parts
is_filled _ = true

-- what each item is there for

abbrev pub atoms_of_part : Part → List SignedAtom
atoms_of_part (a_fact column index x) = x ∷ []
atoms_of_part _ = []

abbrev pub terms_of_part : Part → List Argument
terms_of_part (an_axiom k place count ts) = ts
terms_of_part _ = []

abbrev pub atoms_in : Item → List SignedAtom
atoms_in (atoms xs) = xs
atoms_in (proofs parts) = flat_map atoms_of_part parts
atoms_in _ = []

abbrev pub arguments_in : Item → List Argument
arguments_in (atoms xs) = flat_map (λ signed. signed.atom.arguments) xs
arguments_in (arguments ts) = ts
arguments_in (proofs parts) =
    flat_map (λ signed. signed.atom.arguments) (flat_map atoms_of_part parts) ++ flat_map terms_of_part parts
arguments_in _ = []

-- the names that it declares, by their kind
abbrev pub declared_in : Item → List (Named × List (List ℕ))
declared_in (declared kind ns) = (kind, ns) ∷ []
declared_in (listed kind ns) = (kind, ns) ∷ []
declared_in _ = []

abbrev pub wanted_by_edit : WrittenRoomEdit → List (Named × List ℕ)
wanted_by_edit (robot_to r) = (a_room, r) ∷ []
wanted_by_edit (box_to b r) = (a_box, b) ∷ (a_room, r) ∷ []
wanted_by_edit (door_to d is_open) = (a_door, d) ∷ []

-- the names outside atoms that an earlier line has to have declared, with their kinds
abbrev pub wanted_in : Item → List (Named × List ℕ)
wanted_in (wanted kind ns) = map (λ n. (kind, n)) ns
wanted_in (bindings bs) = map (λ b. (an_object, b.object)) bs
wanted_in (room_edits es) = flat_map wanted_by_edit es
wanted_in _ = []

-- a parameter of an operator, or of a table in a binding
abbrev pub has_parameter : Item → Bool
has_parameter (listed kind ns) = not (is_empty ns)
has_parameter (bindings bs) = not (is_empty bs)
has_parameter _ = false
