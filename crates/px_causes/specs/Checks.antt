-- Tests of one atom, of one part of a proof and of one group of names. Clauses of public calls cite none of them.
use Rattle.std.specs.Prelude.{ℕ, List, ◌&&◌, Bool, false, length, not, Option}
use Rattle.std.specs.Cmp.Lexicographic.{slice_cmp}
use Rattle.std.specs.Ordering.{nat_cmp}
use Rattle.std.specs.declared.cmp.Ordering.{Ordering}
use Rattle.px_script.specs.Items as items
use Rattle.px_lines.specs.ItemViews.{argument_view}
use denote.Ref.{Bor}
use Rattle.px_script.specs.Declarations.{Declared, OpenOperator, names_here}
use Rattle.std.specs.List.{list_any}
use Rattle.px_names.specs.Lists.{has_name}
use Rattle.px_script.specs.Causes.{is_known_argument, is_long, is_numbered, repeats, taken_here, takes}
use Rattle.px_script.specs.Faults.{grown}
use Rattle.px_script.specs.Statements.{Statement, pre, delete, add}
use Rattle.px_script.specs.declared.kinds.Manner.{Manner}
use Rattle.px_script.specs.declared.kinds.Named.{Named}
use Rattle.px_lines.specs.declared.items.SignedAtom.{SignedAtom}
use Rattle.px_lines.specs.declared.parts.Part.{Part}
use Rattle.px_lines.specs.declared.parts.Part.TheVariants as part

abbrev pub text_cmp : Bor (List ℕ) → Bor (List ℕ) → Ordering
text_cmp a b = slice_cmp nat_cmp a.now b.now

-- some argument of the atom isn't declared
abbrev pub lacks_argument : Declared → SignedAtom → Bool
lacks_argument d atom = list_any (λ a. not (is_known_argument d (argument_view a))) atom.arguments.items

-- some argument of the atom may not stand in a line of the manner
abbrev pub refuses : Declared → Manner → SignedAtom → Bool
refuses d manner atom = list_any (λ a. not (takes d manner (argument_view a))) atom.arguments.items

-- some argument of the part passes the test
abbrev pub part_has : (items.Argument → Bool) → Part → Bool
part_has test (part.Fact column index x) = list_any (λ a. test (argument_view a)) x.arguments.items
part_has test (part.Ancestor k) = false
part_has test (part.Axiom k place count ts) = list_any (λ a. test (argument_view a)) ts.items

-- the atom of the part passes the test
abbrev pub part_atom_has : (SignedAtom → Bool) → Part → Bool
part_atom_has test (part.Fact column index x) = test x
part_atom_has test _ = false

-- a name that a line wants isn't declared in its kind
abbrev pub is_undeclared : Declared → Named × List ℕ → Bool
is_undeclared d wanted = not (has_name wanted.1 (names_here d wanted.0))

-- of a group of names that a line declares one is declared already, or stands twice
abbrev pub group_repeats : Declared → Named × List (List ℕ) → Bool
group_repeats d group = repeats (taken_here d group.0) group.1

-- of a group of names that a line declares one is too long; it is so in every version
abbrev pub group_is_long : Named × List (List ℕ) → Bool
group_is_long group = is_numbered group.0 && list_any (is_long 1) group.1

-- how many atoms a list of the open operator has with those of the line
abbrev pub grown_by : Option OpenOperator → Statement → ℕ
grown_by o (pre atoms) = grown o (λ schema. length schema.pre) atoms
grown_by o (delete atoms) = grown o (λ schema. length schema.del) atoms
grown_by o (add atoms) = grown o (λ schema. length schema.add) atoms
grown_by o _ = 0
