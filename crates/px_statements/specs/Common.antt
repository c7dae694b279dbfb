-- What the contracts here cite of std, of the lower crates, and of the definitions of this one.
pub use Rattle.px_statements.specs.FactLines.{is_fact}
pub use Rattle.px_lines.specs.ItemViews.{signed_view}
pub use Rattle.px_statements.specs.StatementViews.{UndoesLineOf, statement_view}
pub use Rattle.px_script.specs.Parsing.{time_of}
pub use Rattle.std.specs.Option.{option_and_then, option_map}
pub use Rattle.std.specs.Str.{bytes_eq}
