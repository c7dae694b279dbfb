use Rattle.std.proofs.Common.{◌∙◌, arith, get_or, refl, sym}
use Rattle.std.proofs.lemmas.Option.{slice_get_within}
use Rattle.std.specs.Prelude.{All}
use Rattle.px_support.specs.Asking.{IsFindable}
use Rattle.px_support.proofs.MacroGoing.{if_entry_applied, learned-is, learned-needs}
use Rattle.px_support.proofs.macros.apply_macro.Goals as goal

pub bounds-asked-number : goal.bounds-asked-number
bounds-asked-number c = slice_get_within c.args.asked.now.tables.now c.args.number c.requires.entry.0 c.requires.entry.1

pub take_steps-requires-clause-learned : goal.take_steps-requires-clause-learned
take_steps-requires-clause-learned c =
    learned-is c.args.asked.now.problem.now c.args.asked.now.tables.now c.requires.asked.tables c.args.number c.args.prefix c.args.sigma.now
    c.requires.entry c.index-asked-number.result c.index-asked-number.is
    _ (sym c.index-asked-number.is) refl refl (c.deref.ensures.value ∙ c.in_ok-terms.ensures)
    (omega (arith, c.requires.room.short, c.len.ensures))

pub take_steps-requires-clause-findable : goal.take_steps-requires-clause-findable
take_steps-requires-clause-findable c =
    learned-needs c.args.asked.now.problem.now c.args.asked.now.tables.now c.requires.asked.tables c.args.number c.args.prefix
    c.args.sigma.now c.requires.entry c.index-asked-number.result c.index-asked-number.is
    (get_or c.args.asked.now.tables.now c.args.number c.index-asked-number.result) c.args.walk.model.atoms
    (All (IsFindable c.args.asked.now.problem.now)) (sym c.index-asked-number.is) c.requires.findable

pub returns : goal.returns
returns c =
    if_entry_applied c.args.asked.now.problem.now c.args.asked.now.tables.now c.requires.asked.tables c.args.number c.args.prefix
    c.args.sigma.now c.requires.entry c.index-asked-number.result c.index-asked-number.is
    _ c.args.walk c.take_steps.result (sym c.index-asked-number.is) refl refl
    (omega (arith, c.len.ensures, c.args.walk.steps.ok.0)) c.take_steps.ensures
