use Rattle.px_so_far.proofs.Common.{ap, sym, ◌∙◌, map, map-map, argument_view, declared_of, parameters_here, term_of}
use Rattle.px_script.specs.Declarations.{table_term}
use Rattle.px_so_far.specs.LineVariables.{table_names}
use Rattle.px_so_far.proofs.Carried.{carried}
use Rattle.px_so_far.proofs.so_far.SoFar.table_terms.Goals as goal

pub returns : goal.returns
returns c =
    let d = declared_of c.args.self.now in
    carried c.terms.result _ _ (λ terms is. is
    ∙ ap (λ n. map (λ a. term_of (parameters_here d) (table_names n) d.names.objects (argument_view a)) c.args.arguments.now)
    c.table_parameters.ensures ∙ sym (map-map (table_term d) argument_view c.args.arguments.now)) c.terms.ensures
