use Rattle.px_so_far.proofs.Common.{ap, sym, ◌∙◌, map, map-map, atom_of, declared_of, signed_view}
use Rattle.px_script.specs.Declarations.{table_variables}
use Rattle.px_so_far.specs.LineVariables.{table_names}
use Rattle.px_so_far.proofs.Carried.{carried}
use Rattle.px_so_far.proofs.so_far.SoFar.table_atoms.Goals as goal

pub returns : goal.returns
returns c =
    let d = declared_of c.args.self.now in
    carried c.atoms.result _ _ (λ numbered is. is ∙ ap (λ n. map (λ x. atom_of d (table_names n) (signed_view x)) c.args.atoms.now)
    c.table_parameters.ensures ∙ sym (map-map (atom_of d (table_variables d)) signed_view c.args.atoms.now)) c.atoms.ensures
