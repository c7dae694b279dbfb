-- What the proofs here cite of std, of the lower crates, and of the definitions of this one.
pub use Rattle.px_script.proofs.Common.{eqb-true, ◌≡◌, ◌∙◌, map, sym, ap, length, arith, [], refl, ◌++◌, ◌∷◌, List, take, ℕ, drop, true, subst, ◌≤◌, ◌<◌, ◌+◌, inr, get_or, Bool, inl, ◌≢◌, None, Some, Option, ◌==◌, slice_index, IfSome, count_by, ScriptValue, content_of, Declared, nothing_declared, OpenBlock, after_line, is_formed, Lexeme, lines_of, PassAll, IsScript, Stage, line_of, Statement, Line, Atom, Problem, length-map, bytes_eq-Decides, AllByRecursion, option_map, bytes_eq, IsUtf8, IsOfStage, Thing, IsInRange, first_state, rendering, coded}
pub use Rattle.px_effects.specs.FreshNames.{IsNameLexeme}
pub use Rattle.px_causes.specs.EarlyFaults.{stage_view}
pub use Rattle.px_reader.specs.LineReads.{LinesFail, lines_in, HasFirstFault, IsRead, IsLineRefused, LineEnds, HasFault, refusal_told}
pub use Rattle.px_script.specs.ReadScripts.{content}
pub use Rattle.px_so_far.specs.SoFarViews.{declared_of, open_block_view}
pub use Rattle.px_statements.specs.StatementViews.{statement_view}
pub use Rattle.px_script.specs.Rows.{parse}
pub use Rattle.px_script.specs.States.{AreInRange}
pub use Rattle.px_script.specs.Content.{facts_of}
pub use Rattle.px_script.specs.Faults.{Refusal}
pub use Rattle.px_script.specs.Forms.{begins_with_word, Forms}
pub use Rattle.px_script.specs.Stages.{stage_now}
pub use Rattle.px_script.specs.Statements.{spelling}
pub use Rattle.std.specs.List.{slice_split}
pub use Rattle.std.specs.Str.{all_scalars}
pub use Rattle.px_script.specs.ScriptParts.{script_of}
pub use Rattle.std.proofs.Common.{◌-◌, lit<, Bor}
pub use Rattle.std.proofs.lemmas.List.{take_all, length-drop, take_more, drop_all, drop_more, take-append-drop}
pub use Rattle.std.proofs.lemmas.List.Sums.{count_by-le-length}
pub use Rattle.std.proofs.lemmas.Simd.{map-map}
pub use Rattle.std.proofs.lemmas.Str.Pattern.{strip_suffix_char}
pub use Rattle.std.specs.Prelude.{Result, Err, Ok, IfErr, IfOk, MatchOption}
pub use Rattle.std.specs.Result.{IsErrAnd}
unfoldable pub use Rattle.std.specs.Str.{chars}
pub use Rattle.std.specs.Str.Pattern.{HasCharAt}
pub use Rattle.px_script.proofs.Faultless.{no-fault}
pub use Rattle.px_script.proofs.ReadRows.{parse-complete, parse-sound}
pub use Rattle.px_script.proofs.Kept.{start-in-range, declared-in-range, lines-kept, of-stage, passes-kept}
pub use Rattle.px_script.proofs.Lists.{by_test}
pub use Rattle.px_script.specs.Lexemes.{Lexes}
pub use Rattle.px_script.specs.Lines.{without_return, mark, without_mark}
pub use Rattle.px_script.specs.Scripts.{Fails, FailsIn, Passes, FirstFault, ReadsOneWay}
pub use Rattle.px_rooms.specs.States.{IsBuilding}
