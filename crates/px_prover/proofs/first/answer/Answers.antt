use Rattle.std.proofs.Common.{ap, ◌∙◌, refl, map}
use Rattle.px_proof.specs.ProofTerm.{derivation_of}
use Rattle.px_prover.specs.Asking.{setting_in}
use Rattle.px_prover.proofs.Answering.{given-there, given-room, given-first}
use Rattle.px_prover.proofs.first.answer.Goals as goal

pub build-requires-clause-there : goal.build-requires-clause-there
build-requires-clause-there c =
    given-there c.args.question.now.loose (setting_in c.args.question.now) c.args.question.now.formula.now c.args.question.now.variable_count
    c.args.state.now c.requires.strict c.requires.stands c.choices.result.now c.choices.ensures

pub build-requires-clause-room : goal.build-requires-clause-room
build-requires-clause-room c =
    given-room c.args.question.now.loose (setting_in c.args.question.now) c.args.question.now.formula.now c.args.question.now.variable_count
    c.args.state.now c.requires.strict c.requires.stands c.choices.result.now c.choices.ensures c.bind.result.now
    c.in_ok-objects.objects.items c.deref.result.now c.bind.ensures c.in_ok-objects.ensures c.deref.ensures.value

pub returns : goal.returns
returns c =
    given-first c.args.question.now.loose (setting_in c.args.question.now) c.args.question.now.formula.now c.args.question.now.variable_count
    c.args.state.now c.requires.strict c.requires.stands c.choices.result.now c.choices.ensures c.args.question.now.problem.now.shapes
    refl c.requires.first c.bind.result.now c.in_ok-objects.objects.items c.deref.result.now c.bind.ensures c.in_ok-objects.ensures
    c.deref.ensures.value
    c.from_vec.result (map derivation_of c.from_vec-2.result) _ (c.from_vec.ensures ∙ c.truncate.ensures.items)
    (ap (map derivation_of) (c.from_vec-2.ensures ∙ c.reverse.ensures.items)) c.in_ok-proofs.ensures
