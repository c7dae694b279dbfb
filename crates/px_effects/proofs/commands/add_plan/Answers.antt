use Rattle.px_effects.proofs.Common.{[], ◌∷◌, map, length, atom_of, variable_names_of, with_names, a_plan, declared_of, signed_view}
use Rattle.px_script.specs.declared.command.Command.TheVariants.{Plan}
use Rattle.px_effects.proofs.GoalCommands.{commanded}
use Rattle.px_effects.proofs.commands.add_plan.Goals as goal

pub returns : goal.returns
returns c =
    let d = declared_of c.args.so_far.now in
    let xs = map signed_view c.args.goal.now in
    commanded Plan c.add_command.result _ (with_names a_plan (c.args.name.now ∷ []) d) _ _ (length d.names.results)
    _ (map (atom_of d (variable_names_of xs)) xs) _ (length (variable_names_of xs)) c.add_command.ensures
    c.in_ok-name.ensures.declared c.in_ok-name.ensures.number c.in_ok-goal.ensures.atoms c.in_ok-goal.ensures.variable_count
