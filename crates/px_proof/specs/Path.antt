-- The literals of a path, the nearest first.
use Rattle.std.specs.Prelude.{List, [], ◌∷◌}
use Rattle.px_terms.specs.declared.clause.Lit.{Lit}
use Rattle.px_proof.specs.declared.path.Path.{Path, fold-Path}
use Rattle.px_proof.specs.declared.path.Path.TheOpen.{Path-F, Root, Under}

abbrev pub literals_step : Path-F (List Lit) → List Lit
literals_step Root = []
literals_step (Under lit above) = lit.now ∷ above.now

abbrev pub path_literals : Path → List Lit
path_literals = fold-Path (List Lit) literals_step
