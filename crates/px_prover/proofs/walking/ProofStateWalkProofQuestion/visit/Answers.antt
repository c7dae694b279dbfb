use Rattle.px_prover.specs.Asking.{setting_in}
use Rattle.px_prover.proofs.Moves.{standing-sound, visit-made}
use Rattle.px_prover.proofs.walking.ProofStateWalkProofQuestion.visit.Goals as goal

pub open_places-requires-clause-arena : goal.open_places-requires-clause-arena
open_places-requires-clause-arena c =
    (standing-sound c.args._question.now.loose (setting_in c.args._question.now) c.args._question.now.formula.now c.args._question.now.variable_count
    c.args.self.now c.requires.stands).arena

pub open_places-requires-clause-within : goal.open_places-requires-clause-within
open_places-requires-clause-within c =
    (standing-sound c.args._question.now.loose (setting_in c.args._question.now) c.args._question.now.formula.now c.args._question.now.variable_count
    c.args.self.now c.requires.stands).within

pub returns : goal.returns
returns c =
    visit-made c.args._question.now.loose (setting_in c.args._question.now) c.args._question.now.formula.now c.args._question.now.variable_count
    c.args.self.now c.requires.stands c.choices-choices.result.now c.choices-choices.ensures c.saturating_sub.result c.last_tick.result
    c.open_places.result c.saturating_sub.ensures c.last_tick.ensures c.open_places.ensures
