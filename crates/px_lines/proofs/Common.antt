-- What the proofs here cite of std, of the lower crates, and of the definitions of this one.
pub use Rattle.px_script.proofs.Common.{ltb-true, ◌≡◌, ◌∙◌, map, sym, ap, length, arith, [], refl, ◌++◌, ◌∷◌, List, take, ℕ, drop, true, subst, ◌≤◌, ◌<◌, ◌+◌, false, inr, append_assoc, get_or, Bool, inl, length-append, suc, zero, ◌≢◌, None, Some, nat_lt, Option, ◌==◌, if◌then◌else◌, IfSome, starts_name, is_parameter_number, Lexeme, operator, take-append_seam, and_parts, cases_lt, nat_tests, length-map, map-append, bytes_eq-Decides, is_ascii_digit, list_all, option_map, option_and_then, bytes_eq, IsUtf8, all_ascii_digits, digits_value}
pub use Rattle.px_lines.specs.Common.{signed_view, text_of, argument_view, binding_view, room_edit_view, is_of, lexeme_of, all_of, argument_of, at_end, atom_at, binding_at, pair_at, room_edit_at, opens, item_at, items_at, names_among, parameter_of, all_scalars, IsCharBoundary, names_of, parameter_if, part_view, rest_atoms, rest_arguments, rest_parts, part_at}
pub use Rattle.std.proofs.Common.{◌-◌, lit<, ◌^◌, encode_utf8, min, ◌%◌, ◌/◌}
pub use Rattle.std.proofs.lemmas.Grind.{common_steps}
pub use Rattle.std.proofs.lemmas.List.{append-nil, take_all, length-drop, drop_all, drop-drop, get_or_append_left}
pub use Rattle.std.proofs.lemmas.List.Folds.{list_all-append}
pub use Rattle.std.proofs.lemmas.Str.{chars-nil, encodes-chars, IsCharBoundary-at_seam, IsUtf8-encode, IsUtf8-take, chars-append, chars_past_char, cons_from_encodes, encode_ascii}
pub use Rattle.std.proofs.lemmas.Str.Parse.{IsNumeralModel, numerals_by_value, parse_digits, parse_plain, tells_all_ascii_digits}
pub use Rattle.std.proofs.lemmas.Str.Pattern.{starts_char, strip_prefix_char}
pub use Rattle.std.specs.Prelude.{Result, Err, Ok, IfOk, encode_utf8_all}
pub use Rattle.std.specs.Result.{OkIff, result_unwrap_or}
unfoldable pub use Rattle.std.specs.Str.{chars}
pub use Rattle.std.specs.Str.Parse.{ParsesUnsigned}
pub use Rattle.px_lines.specs.declared.token.Token.{Token}
unfoldable pub use Rattle.px_lines.specs.Tokens.{scan, scan_within}
pub use Rattle.px_lines.specs.Tokens.{Follow, Follows, ReadsFirst, IsLexed, IsNext, ReadsItemFirst, if_whole, is_end, is_none, is_whole, lexemes_in, name_in, number_in, ones_front, rest_after, sign_in, with_first}
pub use Rattle.px_script.proofs.Forms.{ReadsBack, ReadsSpelled, atom-sound, atoms-back, binding-sound, bindings-back, pair-sound, pairs-back, room-edit-sound, room-edits-back, parts-back, part-sound}
pub use Rattle.px_script.proofs.Lexing.{found-begins, Begins-not-ignored, Begins-same, Begins-shorter, after-is, begins-found, digit-range, digits-all, prefix-all, prefix-is, ignored-scanned, scanned-ignored, starts-continues}
pub use Rattle.px_script.proofs.Lists.{by_test}
unfoldable pub use Rattle.px_script.specs.Parsing.{all_within, items_after}
pub use Rattle.px_script.specs.Scanning.{prefix_while, after_while, bad, first, found, ignored, stops}
pub use Rattle.px_script.specs.Items.{parameter_name}
pub use Rattle.px_script.specs.Lexemes.{Lexes, Begins, sign, number_value}
