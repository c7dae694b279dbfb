-- Tests of the code's atoms, as tests of a line's.
use Rattle.px_causes.proofs.Common.{◌≡◌, ℕ, List, [], ◌++◌, map, sym, ap, ◌∙◌, list_any, flat_map, append-nil, Declared, wanted_by_edit, list_any-map, list_any_flat, room_edit_view, binding_view, is_undeclared, WrittenBinding, text_of, Bor, position-map, some-position}
use Rattle.px_script.specs.declared.kinds.Named.{Named}
use Rattle.px_script.specs.Items as items
use Rattle.px_script.specs.declared.kinds.Named.TheVariants.{Object as an_object}
use Rattle.px_lines.specs.declared.items.WrittenRoomEdit.{WrittenRoomEdit}

-- a place among items seen otherwise
pub ruleset positions = (list_any-map, position-map, some-position)

pub places-lack : (d : Declared) (edits : List WrittenRoomEdit)
    → list_any (λ edit. list_any (is_undeclared d) (wanted_by_edit (room_edit_view edit))) edits
    ≡ list_any (is_undeclared d) (flat_map wanted_by_edit (map room_edit_view edits) ++ [])
places-lack d edits = sym (list_any-map (λ e. list_any (is_undeclared d) (wanted_by_edit e)) room_edit_view edits)
    ∙ sym (list_any_flat (is_undeclared d) wanted_by_edit (map room_edit_view edits))
    ∙ ap (list_any (is_undeclared d)) (sym (append-nil (flat_map wanted_by_edit (map room_edit_view edits))))

pub objects-lack : (d : Declared) (bindings : List WrittenBinding) → list_any (λ b. is_undeclared d (an_object, b.object.now)) bindings
    ≡ list_any (is_undeclared d) (map (λ b. (an_object, b.object)) (map binding_view bindings) ++ [])
objects-lack d bindings = sym (list_any-map (λ (b : items.Binding). is_undeclared d (an_object, b.object)) binding_view bindings)
    ∙ sym (list_any-map (is_undeclared d) (λ (b : items.Binding). (an_object, b.object)) (map binding_view bindings))
    ∙ ap (list_any (is_undeclared d)) (sym (append-nil (map (λ (b : items.Binding). (an_object, b.object)) (map binding_view bindings))))

pub wanted-lack : (d : Declared) (kind : Named) (names : List (Bor (List ℕ))) → list_any (λ n. is_undeclared d (kind, n.now)) names
    ≡ list_any (is_undeclared d) (map (λ n. (kind, n)) (map text_of names) ++ [])
wanted-lack d kind names = sym (list_any-map (λ n. is_undeclared d (kind, n)) text_of names)
    ∙ sym (list_any-map (is_undeclared d) (λ n. (kind, n)) (map text_of names))
    ∙ ap (list_any (is_undeclared d)) (sym (append-nil (map (λ n. (kind, n)) (map text_of names))))

pub ruleset names_lack = (places-lack, objects-lack, wanted-lack)
