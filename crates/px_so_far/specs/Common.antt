-- What the contracts here cite of std, of the lower crates, and of the definitions of this one.
pub use Rattle.px_names.specs.Lists.{has_name}
pub use Rattle.px_so_far.specs.Readable.{AreReadable}
pub use Rattle.px_so_far.specs.SoFarViews.{declared_of, kind_view, operator_view}
pub use Rattle.px_lines.specs.ItemViews.{argument_view, binding_view, room_edit_view, signed_view, text_of}
pub use Rattle.px_script.specs.Declarations.{atom_edit_of, atom_of, binding_of, has_building, kind_of_block, literal_of, nothing_declared, number_in, operator_here, parameters_here, room_edit_of, term_of, variable_names_of, with_variable}
pub use Rattle.std.specs.List.{AllByRecursion, flat_map, list_any}
pub use Rattle.std.specs.Str.{bytes_eq}
pub use Rattle.std.specs.String.{string_bytes}
