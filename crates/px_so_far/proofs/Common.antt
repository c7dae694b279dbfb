-- What the proofs here cite of std, of the lower crates, and of the definitions of this one.
pub use Rattle.px_script.proofs.Common.{codes, eqb-true, ◌≡◌, ◌∙◌, map, sym, ap, length, arith, [], refl, ◌++◌, ◌∷◌, List, take, ℕ, drop, true, subst, ◌≤◌, ◌<◌, ◌+◌, false, inr, append_assoc, get_or, Bool, inl, length-append, suc, ◌≢◌, None, Some, nat_lt, Option, ◌==◌, if◌then◌else◌, IfSome, fold, has_name, own_problem, Declared, atom_of, variable_names_of, literal_of, parameters_here, number_in, OpenBlock, atom_edit_of, binding_of, Atom, Problem, Term, and_parts, cases_lt, not-false, nat_tests, length-map, map-append, list_any-append, bytes_eq-Decides, AllByRecursion, list_any, flat_map, option_map, bytes_eq, both_answers, Thing}
pub use Rattle.px_so_far.specs.SoFarViews.{declared_of}
pub use Rattle.px_lines.specs.ItemViews.{signed_view, text_of, argument_view, binding_view}
pub use Rattle.px_script.specs.States.{AreInRange}
pub use Rattle.px_script.specs.Declarations.{term_of, with_variable}
pub use Rattle.std.specs.String.{string_bytes}
pub use Rattle.px_script.specs.Items.{Argument, open_variable}
pub use Rattle.std.proofs.Common.{◌-◌, lit<}
pub use Rattle.std.proofs.lemmas.Grind.{common_steps, flat_map-append, fold-append}
pub use Rattle.std.proofs.lemmas.List.{append-nil, take_all, length-drop, take_more, drop_all, take-append-drop, get_or_append_left}
pub use Rattle.std.proofs.lemmas.Simd.{map-map}
pub use Rattle.std.specs.Prelude.{Result, Err, Ok, not, IfOk, ◌||◌, ◌&&◌}
pub use Rattle.px_names.proofs.ListLemmas.{list_any-map, position-map}
pub use Rattle.px_lines.specs.declared.items.SignedAtom.{SignedAtom as WrittenAtom}
pub use Rattle.px_script.proofs.Lists.{by_test, some-position, list_any_flat}
pub use Rattle.px_terms.specs.Clauses.{ArePlainBelow}
