-- What the contracts here cite of std, of the lower crates, and of the definitions of this one.
pub use Rattle.px_names.specs.Lists.{has_name}
pub use Rattle.px_causes.specs.Checks.{group_is_long, group_repeats, grown_by, is_undeclared, lacks_argument, part_atom_has, part_has, refuses, text_cmp}
pub use Rattle.px_causes.specs.EarlyFaults.{IsFirstLimit, early_fault, early_limits, early_own, late_fault, stage_view}
pub use Rattle.px_causes.specs.FaultViews.{limit_number, refusal_of}
pub use Rattle.px_so_far.specs.SoFarViews.{declared_of}
pub use Rattle.px_lines.specs.ItemViews.{argument_view, binding_view, room_edit_view, signed_view, text_of}
pub use Rattle.px_statements.specs.StatementViews.{statement_view}
pub use Rattle.px_script.specs.States.{AreInRange}
pub use Rattle.px_script.specs.Causes.{has_long_name, has_robot, has_two_domains, has_unknown_name, has_wrong_arity, is_known_argument, is_out_of_order, is_robot, is_unbound, lacks_robot, may_stand, repeats, takes, varies, varies_too_early, wanted_by}
pub use Rattle.px_script.specs.Declarations.{Declared, block_here, number_in, operator_here, variable_names_of}
pub use Rattle.px_script.specs.Faults.{binds_twice, disturbance_limits, has_duplicate, outside, over, own_limits, coded}
pub use Rattle.px_script.specs.Items.{wanted_by_edit}
pub use Rattle.px_script.specs.declared.kinds.Named.TheVariants.{Object as an_object}
pub use Rattle.px_script.specs.Statements.{line_of}
pub use Rattle.std.specs.List.{flat_map, list_any}
pub use Rattle.std.specs.Option.{option_map}
pub use Rattle.std.specs.String.{string_bytes}
