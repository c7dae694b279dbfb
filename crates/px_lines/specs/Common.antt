-- What the contracts here cite of std, of the lower crates, and of the definitions of this one.
pub use Rattle.px_lines.specs.ItemViews.{argument_view, atom_varies, binding_view, said_items, items_view, list_view, parts_view, rest_view, room_edit_view, said_view, signed_view, text_of, part_view, rest_arguments, rest_atoms, rest_parts}
pub use Rattle.px_lines.specs.Tokens.{Follow, Follows, ReadsFirst, IsLexed, IsNext, ReadsItemFirst, NameAt, Scans, Skips, if_whole, is_end, is_of, is_whole, lexeme_of, lexemes_in, name_in, number_in, ones_front, rest_after, sign_in}
pub use Rattle.px_script.specs.Parsing.{all_of, argument_of, at_end, atom_after, atom_at, binding_at, item_at, items_after, items_at, names_among, names_at, names_of, open_of, opens, parameter_if, pair_at, parameter_of, room_edit_at, room_edit_for, sign_of, time_of, part_at}
pub use Rattle.std.specs.List.{flat_map, list_all, list_any}
pub use Rattle.std.specs.Option.{option_and_then, option_map}
pub use Rattle.std.specs.Str.{IsUtf8, all_ascii_digits, bytes_eq, chars, all_scalars, IsCharBoundary}
