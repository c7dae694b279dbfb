-- What the definitions see of what tokens say.
use Rattle.std.specs.Option.{option_map}
use Rattle.std.specs.Prelude.{ℕ, Bool, List, [], ◌∷◌, ◌++◌, map, Option, Vec}
use Rattle.std.specs.List.{list_any}
use Rattle.std.specs.declared.alloc.Global.{Global}
use Rattle.px_script.specs.Items as items
use Rattle.px_lines.specs.declared.items.Argument.{Argument}
use Rattle.px_lines.specs.declared.items.Argument.TheVariants as argument
use Rattle.px_lines.specs.declared.items.SignedAtom.{SignedAtom}
use Rattle.px_lines.specs.declared.items.WrittenRoomEdit.{WrittenRoomEdit}
use Rattle.px_lines.specs.declared.items.WrittenRoomEdit.TheVariants as room_edit
use Rattle.px_lines.specs.declared.items.WrittenBinding.{WrittenBinding}
use Rattle.px_lines.specs.declared.items.Said.{Said}
use Rattle.px_lines.specs.declared.items.Said.TheVariants as said
use Rattle.px_lines.specs.declared.items.Rest.{Rest}
use Rattle.px_lines.specs.declared.items.Rest.TheVariants as rest
use Rattle.px_lines.specs.declared.parts.Part.{Part}
use Rattle.px_lines.specs.declared.parts.Part.TheVariants as part
use denote.Ref.{Bor}

abbrev pub text_of : Bor (List ℕ) → List ℕ
text_of s = s.now

abbrev pub argument_view : Argument → items.Argument
argument_view (argument.Named n) = items.named n.now
argument_view (argument.Variable v) = items.open_variable v.now
argument_view argument.Anything = items.anything

abbrev pub signed_view : SignedAtom → items.SignedAtom
signed_view x = record {
  sign = x.sign;
  atom = record { predicate = x.predicate.now; arguments = map argument_view x.arguments.items };
}

abbrev pub room_edit_view : WrittenRoomEdit → items.WrittenRoomEdit
room_edit_view (room_edit.RobotTo r) = items.robot_to r.now
room_edit_view (room_edit.BoxTo b r) = items.box_to b.now r.now
room_edit_view (room_edit.DoorTo d is_open) = items.door_to d.now is_open

abbrev pub binding_view : WrittenBinding → items.Binding
binding_view binding = record { parameter = binding.parameter; object = binding.object.now }

abbrev pub said_view : Said → items.Item
said_view (said.The w) = items.the w.now
said_view (said.Number n) = items.amount n
said_view (said.New kind n) = items.new kind n.now
said_view (said.Known kind n) = items.known kind n.now

abbrev pub part_view : Part → items.Part
part_view (part.Fact column index x) = items.a_fact column index (signed_view x)
part_view (part.Ancestor k) = items.an_ancestor k
part_view (part.Axiom k place count ts) = items.an_axiom k place count (map argument_view ts.items)

abbrev pub rest_view : Rest → List items.Item
rest_view rest.Nothing = []
rest_view (rest.Declared kind ns) = items.declared kind (map text_of ns.items) ∷ []
rest_view (rest.Listed kind ns) = items.listed kind (map text_of ns.items) ∷ []
rest_view (rest.Wanted kind ns) = items.wanted kind (map text_of ns.items) ∷ []
rest_view (rest.Numbers ns) = items.amounts ns.items ∷ []
rest_view (rest.Atoms xs) = items.atoms (map signed_view xs.items) ∷ []
rest_view (rest.Bindings bs) = items.bindings (map binding_view bs.items) ∷ []
rest_view (rest.RoomEdits es) = items.room_edits (map room_edit_view es.items) ∷ []
rest_view (rest.Pairs ps) = items.pairs ps.items ∷ []
rest_view (rest.Arguments ts) = items.arguments (map argument_view ts.items) ∷ []
rest_view (rest.Proofs parts) = items.proofs (map part_view parts.items) ∷ []

-- the atoms but for those of proofs, the arguments that stand in no atom and in no proof, and the parts of proofs
abbrev pub rest_atoms : Rest → List items.SignedAtom
rest_atoms (rest.Atoms xs) = map signed_view xs.items
rest_atoms _ = []

abbrev pub rest_arguments : Rest → List items.Argument
rest_arguments (rest.Arguments ts) = map argument_view ts.items
rest_arguments _ = []

abbrev pub rest_parts : Rest → List items.Part
rest_parts (rest.Proofs parts) = map part_view parts.items
rest_parts _ = []

-- the items of a line
abbrev pub said_items : List Said → Rest → List items.Item
said_items ones last = map said_view ones ++ rest_view last

abbrev pub parts_view : Vec Said Global × Rest → List items.Item
parts_view parts = said_items parts.0.items parts.1

-- an atom with a variable
abbrev pub atom_varies : SignedAtom → Bool
atom_varies atom = list_any (λ a. items.is_variable (argument_view a)) atom.arguments.items

-- a list, where there is one
abbrev pub list_view : {X Y : Type 0} → (X → Y) → Option (Vec X Global) → Option (List Y)
list_view view found = option_map (λ v. map view v.items) found

abbrev pub items_view : {X Y : Type 0} → (X → Y) → Vec X Global → List Y
items_view view items = map view items.items
