-- Atoms that can be given by numbers.
use Rattle.px_script.specs.Declarations.{Declared, parameters_here}
use Rattle.std.specs.Prelude.{◌≤◌, List, All, length}
use Rattle.px_terms.specs.Limits.{most_arguments, most_parameters}
use Rattle.px_lines.specs.declared.items.SignedAtom.{SignedAtom}

-- the atom has no more arguments than an atom may have
abbrev pub HasFewArguments : SignedAtom → Type 0
HasFewArguments atom = length atom.arguments.items ≤ most_arguments

-- the atoms can be given by numbers: none has more arguments than an atom may have, and the open operator no more parameters than one
-- may have
pub record AreReadable (d : Declared) (atoms : List SignedAtom) : Type 0 where
  pub few : length (parameters_here d) ≤ most_parameters
  pub sizes : All HasFewArguments atoms
