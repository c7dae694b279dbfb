-- What the proofs here cite of std, of the lower crates, and of the definitions of this one.
pub use Rattle.px_script.proofs.Common.{eqb-true, ◌≡◌, ◌∙◌, map, sym, ap, length, arith, [], refl, ◌++◌, ◌∷◌, List, take, ℕ, drop, true, subst, ◌≤◌, ◌<◌, ◌+◌, false, inr, append_assoc, get_or, Bool, inl, length-append, suc, None, Some, Option, All, Contains, slice_index, IfSome, set_of-is_sorted, set_of-members, has_name, NameLists, has_wrong_arity, own_problem, Declared, atom_of, variable_names_of, literal_of, clause_of, number_in, OpenBlock, OpenOperator, operator_here, parameters_of, is_formed, SignedAtom, Lexeme, line_of, Statement, Line, fact, «axiom», atom_set, atom_cmp, Atom, get_or-append_seam, and_parts, cases_lt, not-false, length-map, map-append, All-from_recursion, AllByRecursion, flat_map, option_map, atom_cmp-total, atom_cmp-same}
pub use Rattle.px_script.specs.declared.kinds.Manner.TheVariants.{Plain as plain}
pub use Rattle.px_names.specs.Lists.{with_name, IsWelcome, names_of as names_in}
pub use Rattle.px_effects.specs.FreshNames.{AreOfKind, AreOfKinds, IsFresh, IsNameLexeme}
pub use Rattle.px_so_far.specs.Readable.{AreReadable}
pub use Rattle.px_so_far.specs.SoFarViews.{declared_of, with_more, leaves}
pub use Rattle.px_lines.specs.ItemViews.{signed_view, text_of, argument_view}
pub use Rattle.px_script.specs.States.{AreInRange, OperatorsInRange}
pub use Rattle.px_script.specs.Declarations.{with_command, with_names}
pub use Rattle.px_script.specs.declared.kinds.Named.TheVariants.{Plan as a_plan, Result as a_result}
pub use Rattle.std.specs.String.{string_bytes}
pub use Rattle.std.specs.Str.{all_scalars}
pub use Rattle.px_script.specs.Forms.{line_atoms}
pub use Rattle.std.proofs.Common.{Bor}
pub use Rattle.std.proofs.lemmas.Grind.{common_steps}
pub use Rattle.std.proofs.lemmas.List.{append-nil, take_all, take-append-drop, get_or_past, get_or_append_left, map_more}
pub use Rattle.std.proofs.lemmas.List.Elements.{Contains-append_cases, Contains-append_left, Contains-append_right}
pub use Rattle.std.proofs.lemmas.Simd.{map-map}
pub use Rattle.std.proofs.lemmas.Str.{chars-encodes}
unfoldable pub use Rattle.std.specs.Str.{chars}
pub use Rattle.px_base.specs.SetLaws.{set_of-sorted, same_set, set_of-push}
pub use Rattle.px_names.proofs.ListLemmas.{list_any-map, position-map}
pub use Rattle.px_names.specs.Name.{IsName, is_name}
pub use Rattle.px_names.specs.declared.kind.Kind.{Kind}
pub use Rattle.px_so_far.specs.declared.so_far.SoFar.{SoFar}
pub use Rattle.px_lines.specs.declared.items.SignedAtom.{SignedAtom as WrittenAtom}
pub use Rattle.px_script.proofs.Atoms.{atoms-right, atoms-with, has_other_arity}
pub use Rattle.px_script.specs.Faultless.{IsFaultless, IsRight}
pub use Rattle.px_script.proofs.Faultless.{stands-right, at-top}
pub use Rattle.px_script.proofs.Forms.{well-formed}
pub use Rattle.px_script.proofs.Kept.{line-kept}
pub use Rattle.px_script.proofs.KeptLines.{unmap, no-parameters}
pub use Rattle.px_script.proofs.Lists.{at-most, some-position, each-fails}
pub use Rattle.px_script.specs.Lexemes.{name, Lexes, IsLexeme}
pub use Rattle.px_terms.specs.AtomSets.{with_atom}
pub use Rattle.px_terms.specs.Clauses.{ArePlainBelow, IsClause}
pub use Rattle.px_terms.specs.Instances.{IsGround}
