-- What the proofs here cite of std, of the lower crates, and of the definitions of this one.
pub use Rattle.px_script.proofs.Common.{◌≡◌, ◌∙◌, map, sym, ap, length, arith, [], refl, ◌++◌, ◌∷◌, List, ℕ, true, subst, false, Bool, suc, None, Some, nat_lt, Option, ◌==◌, slice_index, has_name, repeats, has_wrong_arity, stands_twice, Declared, atom_of, number_in, OpenOperator, fault_at, first_of, passed, causes_with, own_limits, SignedAtom, wanted_by_edit, Binding, greatest, Stage, line_of, Statement, fact, atom_set, Atom, nat_tests, length-map, list_any-append, bytes_eq-Decides, list_any, flat_map, filter, bytes_eq, both_answers, is_bad_table, coded}
pub use Rattle.px_causes.specs.Checks.{is_undeclared, text_cmp}
pub use Rattle.px_causes.specs.EarlyFaults.{early_fault, early_limits, stage_view}
pub use Rattle.px_statements.specs.FactLines.{is_fact}
pub use Rattle.px_so_far.specs.SoFarViews.{declared_of, leaves}
pub use Rattle.px_lines.specs.ItemViews.{text_of, binding_view, room_edit_view}
pub use Rattle.px_statements.specs.StatementViews.{statement_view}
pub use Rattle.px_script.specs.Causes.{is_known_argument, takes}
pub use Rattle.px_script.specs.Faults.{Refusal, binds_twice, limits}
pub use Rattle.px_script.specs.Items.{is_variable}
pub use Rattle.std.specs.String.{string_bytes}
pub use Rattle.px_script.specs.declared.limits.Limit.TheVariants.{Facts as most_facts}
pub use Rattle.std.proofs.Common.{Bor}
pub use Rattle.std.proofs.lemmas.List.{append-nil}
pub use Rattle.std.proofs.lemmas.List.Folds.{list_any_none}
pub use Rattle.std.proofs.lemmas.Map.Text.{is_eq-slice_cmp}
pub use Rattle.std.specs.Ordering.{nat_cmp, is_eq, ordering_then, eq_by_cmp}
pub use Rattle.std.specs.Prelude.{Result, Err, Ok, not, IfOk, ◌||◌, cond, ◌&&◌}
pub use Rattle.std.specs.declared.cmp.Ordering.{Ordering}
pub use Rattle.std.specs.declared.cmp.Ordering.TheVariants.{Equal, Greater, Less}
pub use Rattle.px_names.proofs.ListLemmas.{list_any-map, position-map}
pub use Rattle.px_lines.specs.declared.items.WrittenBinding.{WrittenBinding}
pub use Rattle.px_script.specs.Faultless.{IsRight}
pub use Rattle.px_script.proofs.Faultless.{no-cause, only-limits}
pub use Rattle.px_script.proofs.Lists.{by_test, some-position, list_any_flat, repeats-cons}
