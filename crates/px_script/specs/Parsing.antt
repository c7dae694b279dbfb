-- A plain parser of what stands in lines.
use Rattle.std.specs.Prelude.{ℕ, Bool, true, false, List, [], ◌∷◌, length, drop, zero, suc, Option, None, Some, codes, if◌then◌else◌, ◌==◌}
use Rattle.std.specs.Option.{option_map, option_and_then}
use Rattle.std.specs.Str.{bytes_eq}
use Rattle.std.specs.Str.Parse.{digits_value}
use Rattle.px_script.specs.Lexemes.{Lexeme, name, variable, number, sign}
use Rattle.px_script.specs.Items.{Argument, Sign, SignedAtom, WrittenRoomEdit, Binding, named, open_variable, anything, bare, negated, added, removed, robot_to, box_to, door_to, parameter_name, is_parameter_number, Part, a_fact, an_ancestor, an_axiom}

abbrev pub argument_of : Lexeme → Option Argument
argument_of (name n) = Some (named n)
argument_of (variable v) = Some (open_variable v)
argument_of (sign s) = if s == 36 then Some anything else None
argument_of _ = None

-- an item, the sign after it, and what follows
abbrev pub item_at : {A : Type 0} → (Lexeme → Option A) → List Lexeme → Option (A × ℕ × List Lexeme)
item_at item (x ∷ sign s ∷ rest) = option_map (λ a. (a, s, rest)) (item x)
item_at item lexemes = None

-- what stands between commas, up to a closing parenthesis, and what follows it
unfoldable pub items_after : {A : Type 0} → (Lexeme → Option A) → List Lexeme → Option (List A × List Lexeme)
items_after item [] = None
items_after item (x ∷ []) = None
items_after item (x ∷ sign s ∷ rest) = option_and_then (λ a.
    if s == 41 then Some (a ∷ [], rest)
    else (if s == 44 then option_map (λ more. (a ∷ more.0, more.1)) (items_after item rest) else None)) (item x)
items_after item (x ∷ y ∷ rest) = None

-- an opening parenthesis stands in front
abbrev pub opens : List Lexeme → Bool
opens (sign s ∷ rest) = s == 40
opens _ = false

-- items in parentheses, or none, and what follows
abbrev pub items_at : {A : Type 0} → (Lexeme → Option A) → List Lexeme → Option (List A × List Lexeme)
items_at item (sign s ∷ rest) = if s == 40 then items_after item rest else Some ([], sign s ∷ rest)
items_at item rest = Some ([], rest)

-- things of one kind up to the end, at most the given number of them
unfoldable pub all_within : {A : Type 0} → (List Lexeme → Option (A × List Lexeme)) → ℕ → List Lexeme → Option (List A)
all_within one zero [] = Some []
all_within one zero (x ∷ xs) = None
all_within one (suc n) [] = Some []
all_within one (suc n) (x ∷ xs) = option_and_then (λ prefix. option_map (λ more. prefix.0 ∷ more) (all_within one n prefix.1)) (one (x ∷ xs))

abbrev pub all_of : {A : Type 0} → (List Lexeme → Option (A × List Lexeme)) → List Lexeme → Option (List A)
all_of one lexemes = all_within one (length lexemes) lexemes

abbrev pub sign_of : ℕ → Option Sign
sign_of s = if s == 126 then Some negated else (if s == 43 then Some added else (if s == 45 then Some removed else None))

-- the atom after a sign
abbrev pub atom_after : Sign → List Lexeme → Option (SignedAtom × List Lexeme)
atom_after before (name p ∷ rest) =
    option_map (λ r. (record { sign = before; atom = record { predicate = p; arguments = r.0 } }, r.1)) (items_at argument_of rest)
atom_after before _ = None

-- an atom with a sign or none
abbrev pub atom_at : List Lexeme → Option (SignedAtom × List Lexeme)
atom_at (sign s ∷ rest) = option_and_then (λ before. atom_after before rest) (sign_of s)
atom_at lexemes = atom_after bare lexemes

-- a name in front, and what is made of it and the rest
abbrev pub after_name : {A : Type 0} → (List ℕ → List Lexeme → Option A) → List Lexeme → Option A
after_name f (name n ∷ rest) = f n rest
after_name f _ = None

-- a number in front, and what is made of it and the rest
abbrev pub after_number : {A : Type 0} → (ℕ → List Lexeme → Option A) → List Lexeme → Option A
after_number f (number n ∷ rest) = f n rest
after_number f _ = None

-- a certain sign in front, and what is made of the rest
abbrev pub after_sign : {A : Type 0} → ℕ → (List Lexeme → Option A) → List Lexeme → Option A
after_sign wanted f (sign s ∷ rest) = if s == wanted then f rest else None
after_sign wanted f _ = None

abbrev pub nothing_form : {A : Type 0} → A → List Lexeme → Option A
nothing_form s [] = Some s
nothing_form s _ = None

-- which of two words it is
abbrev pub which : List ℕ → List ℕ → List ℕ → Option Bool
which when_true when_false w = if bytes_eq w when_true then Some true else (if bytes_eq w when_false then Some false else None)

abbrev pub open_of : List ℕ → Option Bool
open_of = which (codes "open") (codes "closed")

abbrev pub time_of : List ℕ → Option Bool
time_of = which (codes "between") (codes "before")

abbrev pub room_edit_for : List ℕ → List ℕ → List Lexeme → Option (WrittenRoomEdit × List Lexeme)
room_edit_for w thing rest = if bytes_eq w (codes "robot") then Some (robot_to thing, rest)
    else (if bytes_eq w (codes "box") then after_name (λ r more. Some (box_to thing r, more)) rest
    else (if bytes_eq w (codes "door")
    then after_name (λ state more. option_map (λ is_open. (door_to thing is_open, more)) (open_of state)) rest
    else None))

abbrev pub room_edit_at : List Lexeme → Option (WrittenRoomEdit × List Lexeme)
room_edit_at = after_name (λ w. after_name (room_edit_for w))

-- the number, if the name is that of the parameter with it
abbrev pub parameter_if : List ℕ → ℕ → Option ℕ
parameter_if w k = if bytes_eq w (parameter_name k) then (if is_parameter_number k then Some k else None) else None

-- the number of a parameter by its name
abbrev pub parameter_of : List ℕ → Option ℕ
parameter_of w = parameter_if w (digits_value 10 (drop 1 w))

abbrev pub binding_at : List Lexeme → Option (Binding × List Lexeme)
binding_at =
    after_name (λ p. after_sign 61 (after_name (λ o rest. option_map (λ k. (record { parameter = k; object = o }, rest)) (parameter_of p))))

-- N=N
abbrev pub pair_at : List Lexeme → Option ((ℕ × ℕ) × List Lexeme)
pair_at = after_number (λ n. after_sign 61 (after_number (λ m rest. Some ((n, m), rest))))

-- terms up to a closing parenthesis, and what follows it
abbrev pub terms_after : List Lexeme → Option (List Argument × List Lexeme)
terms_after (sign s ∷ rest) = if s == 41 then Some ([], rest) else items_after argument_of (sign s ∷ rest)
terms_after rest = items_after argument_of rest

-- terms in parentheses, and what follows
abbrev pub terms_at : List Lexeme → Option (List Argument × List Lexeme)
terms_at = after_sign 40 terms_after

abbrev pub fact_at : List Lexeme → Option (Part × List Lexeme)
fact_at = after_number (λ j. after_number (λ k rest. option_map (λ prefix. (a_fact j k prefix.0, prefix.1)) (atom_at rest)))

abbrev pub ancestor_at : List Lexeme → Option (Part × List Lexeme)
ancestor_at = after_number (λ k rest. Some (an_ancestor k, rest))

abbrev pub axiom_at : List Lexeme → Option (Part × List Lexeme)
axiom_at = after_number (λ k. after_number (λ place. after_number (λ count rest.
    option_map (λ prefix. (an_axiom k place count prefix.0, prefix.1)) (terms_at rest))))

abbrev pub part_for : List ℕ → List Lexeme → Option (Part × List Lexeme)
part_for w rest = if bytes_eq w (codes "f") then fact_at rest
    else (if bytes_eq w (codes "a") then ancestor_at rest else (if bytes_eq w (codes "s") then axiom_at rest else None))

-- what a proof begins with
abbrev pub part_at : List Lexeme → Option (Part × List Lexeme)
part_at = after_name part_for

abbrev pub names_of : List Lexeme → Option (List (List ℕ))
names_of [] = Some []
names_of (name n ∷ rest) = option_map (λ more. n ∷ more) (names_of rest)
names_of _ = None

abbrev pub numbers_of : List Lexeme → Option (List ℕ)
numbers_of [] = Some []
numbers_of (number n ∷ rest) = option_map (λ more. n ∷ more) (numbers_of rest)
numbers_of _ = None

abbrev pub at_end : {A : Type 0} → A × List Lexeme → Option A
at_end (a, []) = Some a
at_end (a, x ∷ xs) = None

-- the names that arguments are, where they are all names
abbrev pub names_among : List Argument → Option (List (List ℕ))
names_among [] = Some []
names_among (named n ∷ more) = option_map (λ ns. n ∷ ns) (names_among more)
names_among _ = None

-- names in parentheses, or none, and what follows
abbrev pub names_at : List Lexeme → Option (List (List ℕ) × List Lexeme)
names_at lexemes = option_and_then (λ prefix. option_map (λ ns. (ns, prefix.1)) (names_among prefix.0)) (items_at argument_of lexemes)
