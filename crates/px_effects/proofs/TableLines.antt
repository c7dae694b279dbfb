-- What the lines of a table's block take for granted, and what they change.
use Rattle.px_effects.proofs.Common.{◌≡◌, ℕ, ◌≤◌, Bool, true, false, List, [], ◌∷◌, map, length, refl, sym, ap, ◌∙◌, subst, arith, All, Option, None, Some, option_map, flat_map, append-nil, length-map, IfSome, Declared, OpenBlock, line_of, IsRight, AreInRange, argument_view, signed_view, SignedAtom, SoFar, Atom, atom_of, declared_of, leaves}
use Rattle.px_terms.specs.Limits.{most_arguments}
use Rattle.px_script.proofs.Common.{All-nil, All-cons, All-head, All-tail}
use Rattle.px_script.specs.States.{IsBlockInRange}
use Rattle.px_script.specs.Declarations.{goal_variables, table_variables, BlockKind, WrittenTable, after_goal, change_table, of_operator, of_building, of_table_steps, of_table_rows, table_parameters, table_parameters_here, operator_here}
use Rattle.px_script.specs.Items.{atoms_of_part}
use Rattle.px_script.specs.declared.limits.TheConstants.{LAST_NUMBER as last_number}
use Rattle.px_script.specs.Statements.{proof, goal}
use Rattle.px_lines.specs.ItemViews.{part_view}
use Rattle.px_lines.specs.declared.parts.Part.{Part}
use Rattle.px_lines.specs.declared.parts.Part.TheVariants as part
use Rattle.px_so_far.specs.Heights.{AreReadableParts, IsNarrow}
use Rattle.px_so_far.specs.SoFarViews.{kind_view, open_block_view, table_kind, table_view}
use Rattle.px_so_far.specs.declared.blocks as block
use Rattle.px_so_far.specs.declared.blocks.OpenBlock as code
use Rattle.px_so_far.specs.declared.open_tables.OpenTable as table
use Rattle.px_effects.proofs.Right.{few-in, sizes}

-- ---- what they take for granted

-- the table whose block is open has no more parameters than a table may have
pub few-parameters : (d : Declared) → AreInRange d → table_parameters_here d.block ≤ last_number
few-parameters d r = of_block d.block r.table_block
  where
    of_kind : (kind : BlockKind) → IsBlockInRange d.version (length d.names.objects) kind → table_parameters kind ≤ last_number
    of_kind (of_table_steps t) begun = begun.few_parameters
    of_kind (of_table_rows t) aimed = aimed.begun.few_parameters
    of_kind (of_operator o) none = omega arith
    of_kind of_building none = omega arith

    of_block : (block : Option OpenBlock) → IfSome block (λ block. IsBlockInRange d.version (length d.names.objects) block.kind)
        → table_parameters_here block ≤ last_number
    of_block None none = omega arith
    of_block (Some block) range = of_kind block.kind range

narrow-parts : (parts : List Part) → All (λ x. length x.atom.arguments ≤ most_arguments) (flat_map atoms_of_part (map part_view parts))
    → All IsNarrow parts
narrow-parts [] each = All-nil IsNarrow
narrow-parts (part.Fact column index x ∷ more) each =
    let Q : SignedAtom → Type 0 = λ x. length x.atom.arguments ≤ most_arguments in
    let rest = flat_map atoms_of_part (map part_view more) in
    let first : length (map argument_view x.arguments.items) ≤ most_arguments = All-head Q (signed_view x) rest each in
    All-cons IsNarrow (part.Fact column index x) more (omega (arith, first, length-map x.arguments.items argument_view))
    (narrow-parts more (All-tail Q (signed_view x) rest each))
narrow-parts (part.Ancestor k ∷ more) each = All-cons IsNarrow (part.Ancestor k) more tt (narrow-parts more each)
narrow-parts (part.Axiom k place count ts ∷ more) each =
    All-cons IsNarrow (part.Axiom k place count ts) more tt (narrow-parts more each)

-- the parts of a line can be given by numbers
pub readable-parts : (d : Declared) (parts : List Part) → AreInRange d → IsRight d (proof (map part_view parts)) → AreReadableParts d parts
readable-parts d parts r right = record {
  few = few-in d (operator_here d.block) r.operators;
  narrow = narrow-parts parts (subst (All (λ x. length x.atom.arguments ≤ most_arguments))
      (append-nil (flat_map atoms_of_part (map part_view parts))) (sizes d (line_of (proof (map part_view parts))) r right.arity));
}

-- ---- what they change

pub changed : (f : WrittenTable → WrittenTable) (has_goal : Bool) (t : WrittenTable)
    → change_table f (table_kind has_goal t) ≡ table_kind has_goal (f t)
changed f true t = refl
changed f false t = refl

pub aimed : (f : WrittenTable → WrittenTable) (has_goal : Bool) (t : WrittenTable)
    → after_goal (change_table f (table_kind has_goal t)) ≡ table_kind true (f t)
aimed f true t = refl
aimed f false t = refl

-- ---- the table whose block is open

-- the kind of an open block of a table
pub kind-is : (number : ℕ) (opened : Option code.OpenBlock) (b : code.OpenBlock) (t : table.OpenTable) → opened ≡ Some b
    → b.kind ≡ block.BlockKind.TheVariants.Table t
    → option_map (λ block. block.kind) (option_map (open_block_view number) opened) ≡ Some (table_kind t.has_goal (table_view t))
kind-is number opened b t is kind = ap (λ o. option_map (λ block. block.kind) (option_map (open_block_view number) o)) is
    ∙ ap (λ k. Some (kind_view number k)) kind

-- the goal of the table is set
pub goal-set : (so_far : SoFar) (b : code.OpenBlock) (t : table.OpenTable) (aim : List Atom) (variable_count : ℕ) (xs : List SignedAtom)
    → so_far.block ≡ Some b → b.kind ≡ block.BlockKind.TheVariants.Table t
    → aim ≡ map (atom_of (declared_of so_far) (table_variables (declared_of so_far))) xs → variable_count ≡ goal_variables (declared_of so_far) xs
    → ◌≡◌ {A = Declared} (record (declared_of so_far) {
      block = Some (record { line = b.line; kind = of_table_rows (record (table_view t) { goal = aim; goal_variable_count = variable_count }) });
    }) (leaves 0 (declared_of so_far) (goal xs))
goal-set so_far b t aim variable_count xs is kind aim_is variable_count_is =
    let d = declared_of so_far in
    let n = length so_far.schemas.items in
    let f : WrittenTable → WrittenTable
    = λ w. record w { goal = map (atom_of d (table_variables d)) xs; goal_variable_count = goal_variables d xs } in
    let here : d.block ≡ Some (record { line = b.line; kind = table_kind t.has_goal (table_view t) })
    = ap (option_map (open_block_view n)) is ∙ ap (λ k. Some (record { line = b.line; kind = kind_view n k })) kind in
    let new : record (table_view t) { goal = aim; goal_variable_count = variable_count } ≡ f (table_view t)
    = λ i. record (table_view t) { goal = aim_is i; goal_variable_count = variable_count_is i } in
    ap (λ (w : WrittenTable). record d { block = Some (record { line = b.line; kind = of_table_rows w }) }) new
    ∙ ap (λ (k : BlockKind). record d { block = Some (record { line = b.line; kind = k }) }) (sym (aimed f t.has_goal (table_view t)))
    ∙ ap (λ (o : Option OpenBlock). record d {
      block = option_map {T = OpenBlock} (λ block. record block { kind = after_goal (change_table f block.kind) }) o;
    }) (sym here)
