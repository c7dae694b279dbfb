-- What the contracts here cite of std, of the lower crates, and of the definitions of this one.
pub use Rattle.px_names.specs.Lists.{has_name, with_name}
pub use Rattle.px_effects.specs.FreshNames.{AreOfKind, AreOfKinds, IsFresh, IsNameLexeme}
pub use Rattle.px_so_far.specs.Readable.{AreReadable}
pub use Rattle.px_statements.specs.FactLines.{is_fact}
pub use Rattle.px_so_far.specs.SoFarViews.{declared_of, leaves, operator_view, with_more}
pub use Rattle.px_lines.specs.ItemViews.{argument_view, binding_view, room_edit_view, signed_view, text_of}
pub use Rattle.px_effects.specs.Roles.{in_role}
pub use Rattle.px_statements.specs.StatementViews.{statement_view}
pub use Rattle.px_script.specs.States.{AreInRange}
pub use Rattle.px_script.specs.Declarations.{atom_of, clause_of, number_in, parameters_here, variable_names_of, with_command, with_names, with_thing}
pub use Rattle.px_script.specs.Forms.{is_formed}
pub use Rattle.px_script.specs.declared.kinds.Named.TheVariants.{Plan as a_plan, Result as a_result, Table as a_table}
pub use Rattle.px_script.specs.Statements.{line_of, spelling}
pub use Rattle.std.specs.List.{AllByRecursion}
pub use Rattle.std.specs.String.{string_bytes}
