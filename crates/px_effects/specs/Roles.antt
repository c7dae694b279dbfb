-- The lists of an operator.
use Rattle.std.specs.Prelude.{List}
use Rattle.px_script.specs.Items as items
use Rattle.px_script.specs.Statements as spec
use Rattle.px_effects.specs.declared.blocks.Role.{Role}
use Rattle.px_effects.specs.declared.blocks.Role.TheVariants as role

abbrev pub in_role : Role → List items.SignedAtom → spec.Statement
in_role role.Pre atoms = spec.pre atoms
in_role role.Delete atoms = spec.delete atoms
in_role role.Add atoms = spec.add atoms
