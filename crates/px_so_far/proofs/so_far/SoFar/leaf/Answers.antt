use Rattle.px_so_far.proofs.Common.{◌≡◌, ap, ◌∙◌, atom_of, declared_of, signed_view}
use Rattle.px_script.specs.Declarations.{table_variables}
use Rattle.px_so_far.specs.LineVariables.{table_names}
use Rattle.px_so_far.proofs.so_far.SoFar.leaf.Goals as goal

pub returns : goal.returns
returns c =
    let d = declared_of c.args.self.now in
    let same : c.atom.result ≡ atom_of d (table_variables d) (signed_view c.args.atom.now)
    = c.atom.ensures ∙ ap (λ n. atom_of d (table_names n) (signed_view c.args.atom.now)) c.table_parameters.ensures in
    λ i. record { column = c.args.column; index = c.args.index; atom = same i }
