use Rattle.px_effects.proofs.Common.{◌≡◌, map, length, sym, ap, ◌∙◌, arith, common_steps, atom_of, variable_names_of, declared_of, signed_view, text_of}
use Rattle.px_effects.proofs.Facts.{map_map}
use Rattle.px_effects.proofs.commands.numbered.Goals as goal

pub returns-clause-atoms : goal.returns-clause-atoms
returns-clause-atoms c =
    let d = declared_of c.args.so_far.now in
    let xs = map signed_view c.args.goal.now in
    c.from_vec.ensures ∙ c.in_ok-atoms.ensures
    ∙ ap (λ vs. map (λ x. atom_of d vs (signed_view x)) c.args.goal.now)
    (ap (map text_of) c.deref.ensures.value ∙ c.in_ok-variables.ensures.names)
    ∙ sym (map_map (atom_of d (variable_names_of xs)) signed_view c.args.goal.now)

pub returns-clause-variable_count : goal.returns-clause-variable_count
returns-clause-variable_count c =
    let items : c.len.result ≡ length c.in_ok-variables.variables.items = grind (arith, common_steps) in
    items ∙ c.in_ok-variables.ensures.count
