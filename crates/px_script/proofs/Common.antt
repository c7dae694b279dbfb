-- What the proofs here and in px_reader cite of std, of the lower crates and of what a script is.
pub use Rattle.std.proofs.Common.{◌≡◌, ◌≢◌, ◌⊎◌, ℕ, zero, suc, ◌+◌, ◌<◌, ◌≤◌, Bool, true, false, cond, not, ◌&&◌, ◌||◌, List, [], ◌∷◌, ◌++◌, map, length, get_or, take, drop, refl, sym, ap, ◌∙◌, subst, inl, inr, arith, append_assoc, append-nil, map-id, length-append, ltb-true, leb-true, eqb-true}
pub use Rattle.std.specs.Prelude.{◌==◌, nat_lt, nat_le, Option, None, Some, is_some, IfSome, unwrap_or, All, AllPairs, EachIndex, Contains, slice_get, slice_index, slice_index_or, replicate, ◌-◌, fold, position, count_by, codes, if◌then◌else◌, encode_utf8_all, max}
pub use Rattle.std.specs.List.{AllByRecursion, list_any, list_all, flat_map, filter, filter_map, range_with_len, scan, prefix_len, position_or_len}
pub use Rattle.std.specs.Option.{option_map, option_and_then}
pub use Rattle.std.specs.Str.{IsUtf8, all_ascii_digits, bytes_eq}
pub use Rattle.std.specs.Str.Parse.{digits_value}
pub use Rattle.std.specs.Char.{is_ascii_digit, is_ascii_alphabetic}
pub use Rattle.std.proofs.Math.ListN.{get_or-append}
pub use Rattle.std.proofs.Math.Seq.{get_or-append_seam, take-append_seam}
pub use Rattle.std.proofs.lemmas.Bool.{and_parts, cases_lt, not-false, not-true, or_cases, or_parts, or_right}
pub use Rattle.std.proofs.lemmas.Bool.Decides.{nat_tests}
pub use Rattle.std.proofs.lemmas.List.{get_or-map, length-map, map-append, take-append-le, replicate-append-replicate}
pub use Rattle.std.proofs.lemmas.List.Elements.{All-append, All-cons, All-from_recursion, All-map, All-nil, All-push, All-weaker, filter_agree, All-head, All-tail, All-take, All-drop}
pub use Rattle.std.proofs.lemmas.List.Folds.{list_any-append, list_any_at, list_any_none}
pub use Rattle.std.proofs.lemmas.Slice.Eq.{bytes_eq-Decides}
pub use Rattle.unicode_ident.specs.Ident.{is_xid_continue}
pub use Rattle.unicode_ident.proofs.IdentLemmas.{is_xid_start-ascii, is_xid_continue-ascii, is_xid_start-is_xid_continue}
pub use Rattle.px_base.specs.Answers.{both_answers, cons_same, some_same}
pub use Rattle.px_base.specs.ListLaws.{All-at, All-each, AllByRecursion-map}
pub use Rattle.px_base.specs.SetLaws.{set_of-is_sorted, set_of-members}
pub use Rattle.px_script.specs.Common.{Clause, NameLists, has_name, AreDistinct, IsBoxAt, IsDoorAt, IsRoomAt, StandsRight, first_state, rendering, standings, IsBuilding, IsDoorOrNone, thing_at, Atom, Problem, Schema, Term, Obj, Var, Any, atom_set, IsTermOf, IsPatternTermOf, IsAtomOf, Thing, building_problem, robot_name, OpInst}
pub use Rattle.px_names.specs.Name.{starts_name}
pub use Rattle.px_names.specs.NameLaws.{bytes_eq-itself, has_name-decides}
pub use Rattle.px_rooms.specs.declared.standing.Standing.{Standing}
pub use Rattle.px_rooms.specs.declared.standing.Standing.TheVariants.{Room as a_room, Door as a_door, Box as a_box}
pub use Rattle.px_rooms.specs.States.{robot_rooms, building_rules}
pub use Rattle.px_rooms.proofs.Starting.{robots-more, standings-more}
pub use Rattle.px_terms.specs.Order.{atom_cmp}
pub use Rattle.px_terms.specs.OrderLaws.{atom_cmp-total, atom_cmp-same}
pub use Rattle.px_terms.specs.Validity.{HasArity, IsPatternOf, IsSchemaOf, IsAxiomOf}
pub use Rattle.px_script.specs.Lexemes.{Lexeme, name, number, sign, Lexes, variable, is_blank, is_sign, goes_on, is_comment, IsLexeme, ends_before, Begins, IsIgnored, number_value}
pub use Rattle.px_script.specs.Lines.{lines_of}
pub use Rattle.px_script.specs.Items.{SignedAtom, is_empty, Named, Sign, WrittenRoomEdit, Binding, bare, robot_to, box_to, door_to, is_parameter_number, wanted_by_edit, an_object, Argument, named, open_variable, anything, is_variable, WrittenAtom, spell, spell_argument, spell_sign, spell_atom, spell_room_edit, spell_binding, is_filled, parameter_name, open_word, with_commas, parenthesised, negated, added, removed, spell_pair, Part, a_fact, an_ancestor, an_axiom, spell_part, spell_terms}
pub use Rattle.px_script.specs.Statements.{Statement, Block, plain, inside, operator_block, building_block, line_of, script, «axiom», operator, end, fact, literals, goals, atom_changes, Line, Place, Manner, patterns, spelling, time_word, table, step, goal, proof, table_terms, table_goals, table_steps, table_rows}
pub use Rattle.px_script.specs.Limits.{greatest, words_of_all, words_of_two, words_of_three, default_nodes, default_weight, from_three, of_tree, of_weight, of_height, of_nodes, of_shapes, of_version, Bounds, of_turn, is_word, of_executor, last_number}
pub use Rattle.px_script.specs.Commands.{Command}
pub use Rattle.px_script.specs.Declarations.{Declared, Roles, OpenBlock, BlockKind, OpenOperator, of_operator, of_building, block_here, kind_of_block, number_in, atom_of, nothing_declared, after_line, predicate_names, predicate_arities, operator_names, operator_here, parameters_here, parameters_of, names_here, variable_names_of, literal_of, clause_of, atom_edit_of, edit_by, room_edit_of, binding_of, declared_by, with_variable, term_of, has_building, filled_up, object_sorts_here, with_sort, give_sort, WrittenTable, table_closed, table_in, problem_here, problem_of, building_with, of_table_steps, of_table_rows, table_made, table_variables, letter_numbers, goal_number, goal_variables, proofs_read, table_term, instance_of_step, table_parameters_here, own_problem}
pub use Rattle.px_script.specs.Content.{ScriptValue, content_of}
pub use Rattle.px_script.specs.Forms.{is_formed, Forms, begins_with_word, is_signed, is_of_script}
pub use Rattle.px_script.specs.Stages.{Stage, whole_language, is_built, is_unbuilt, stage_now}
pub use Rattle.px_script.specs.Causes.{is_robot, may_stand, is_long, repeats, same_block, has_two_domains, stands_twice, is_out_of_order, declares_after_command, is_late, varies_too_early, lacks_robot, has_unknown_name, wanted_by, repeats_name, taken_here, has_wrong_arity, is_unbound, has_long_name, is_numbered, is_known_argument, takes, varies}
pub use Rattle.px_script.specs.Faults.{fault_at, disturbance_limits, causes_with, first_of, passed, own_limits, has_duplicate, repeats_itself, OnlyTakesAway, Refusal, coded, has_sort, sorts_twice, outside, is_bad_table, heights_of, highest, has_great_number, numbers_of_part}
pub use Rattle.px_script.specs.Scripts.{PassesLexemes, PassAll, IsScript, Passes, Fails, FailsIn, Spells, FirstFault, ReadsOneWay}
pub use Rattle.px_script.specs.Ranges.{AreNamesOf, AreNumbered, HasShortLists, IsAmong, IsInRange, IsThingAfter, plan_given, AreRoomEditsOf, CommandsInRange, HasTurn, IsGoalOf, IsBindingOf, IsCommandOf, IsEditOf, IsWithin, NamesEarlier, disturbs_after, result_given, all_disturbs, NamesInRange, ProblemInRange, FactsInRange, variable_in, first_occurrences, IsBuiltCommand, IsOfStage, table_given, IsSavedTable, goal_place, IsTableBefore, last_goal_variable}
pub use Rattle.px_rooms.specs.Domain.{both_ways, room_schemas}
pub use Rattle.px_script.specs.WorkedLines.{After, Fit, RefuseWhere, lines, Spell}
pub use Rattle.px_terms.specs.Clauses.{IsClause, HasClauseLength}
pub use Rattle.px_terms.specs.Operators.{no_schema}
pub use Rattle.std.proofs.lemmas.Grind.{flat_map-append}
pub use Rattle.std.proofs.lemmas.List.Sums.{fold-append, passes_at_first}
pub use Rattle.std.specs.Fmt.{decimal}
pub use Rattle.px_proof.specs.Derivation.{Derivation, Derivations, derivations, height as height_of, greatest_height, none as no_parts, also}
pub use Rattle.px_proof.specs.LayerLaws.{HasNoOpenPlace, HaveNoOpenPlace, derivation_of-proof_of, proof_of}
pub use Rattle.px_proof.specs.ProofTerm.{derivation_of}
pub use Rattle.px_table.specs.Tables.{rows_of}
pub use Rattle.px_table.specs.declared.table.Table.{Table}
