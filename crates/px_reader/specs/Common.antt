-- What the contracts here cite of std, of the lower crates, and of the definitions of this one.
pub use Rattle.px_effects.specs.FreshNames.{IsNameLexeme}
pub use Rattle.px_reader.specs.LineReads.{AreScript, HasFirstFault, IsRead, IsLineRefused, LineEnds, LinesFail, HasFault, lines_in, told}
pub use Rattle.px_causes.specs.EarlyFaults.{stage_view}
pub use Rattle.px_so_far.specs.SoFarViews.{declared_of}
pub use Rattle.px_statements.specs.StatementViews.{statement_view}
pub use Rattle.px_script.specs.States.{AreInRange}
pub use Rattle.px_script.specs.Content.{ScriptValue, content_of, facts_of}
pub use Rattle.px_script.specs.Declarations.{after_line, nothing_declared}
pub use Rattle.px_script.specs.Faults.{Refusal}
pub use Rattle.px_script.specs.Forms.{begins_with_word, is_formed}
pub use Rattle.px_script.specs.ReadScripts.{content}
pub use Rattle.px_script.specs.Stages.{stage_now}
pub use Rattle.px_script.specs.Statements.{line_of, spelling}
pub use Rattle.std.specs.List.{AllByRecursion}
pub use Rattle.std.specs.Option.{option_map}
pub use Rattle.std.specs.Str.{chars}
