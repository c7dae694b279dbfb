use Rattle.std.proofs.Common.{◌-◌, ◌<◌, ℕ, length, map, reverse, get_or, arith, ap, ◌∙◌, refl}
use Rattle.px_prover.proofs.Making.{built-start, built-room, built-there, built-next, built-end}
use Rattle.px_proof.specs.PlaceLaws.{slice_get-read}
use Rattle.px_proof.specs.ProofTerm.{derivation_of}
use Rattle.px_question.specs.Settings.{Setting, setting_of}
use Rattle.px_prover.proofs.building.build.Goals as goal

pub loop-done-init : goal.loop-done-init
loop-done-init c =
    let both = built-start (setting_of c.args.problem.now c.args.facts.now) c.args.choices.now c.args.objects.now _ _ (omega arith) refl in
    record { end = both.0; made = ap (λ xs. map derivation_of (reverse xs)) c.new-made.ensures.items ∙ both.1 }

pub push_proof-requires-clause-there : goal.push_proof-requires-clause-there
push_proof-requires-clause-there c =
    let s : Setting = setting_of c.args.problem.now c.args.facts.now in
    let k : ℕ = length c.args.choices.now - 1 - c.loop-done.done in
    let within : k < length c.args.choices.now = omega (arith, c.loop-done-test.true) in
    built-there s c.args.choices.now c.args.objects.now (length c.args.choices.now - c.loop-done.done) k c.loop-done.end
    (get_or c.args.choices.now k c.index-choices-choices.result) (omega (arith, c.loop-done-test.true))
    (slice_get-read c.args.choices.now k c.index-choices-choices.result within) c.loop-done.invariant.end c.requires.there

pub push_proof-requires-clause-room : goal.push_proof-requires-clause-room
push_proof-requires-clause-room c =
    let s : Setting = setting_of c.args.problem.now c.args.facts.now in
    let k : ℕ = length c.args.choices.now - 1 - c.loop-done.done in
    let within : k < length c.args.choices.now = omega (arith, c.loop-done-test.true) in
    built-room s c.args.choices.now c.args.objects.now (length c.args.choices.now - c.loop-done.done) k c.loop-done.end
    (get_or c.args.choices.now k c.index-choices-choices.result) (omega (arith, c.loop-done-test.true))
    (slice_get-read c.args.choices.now k c.index-choices-choices.result within) c.loop-done.invariant.end c.requires.room

pub loop-done-preserved : goal.loop-done-preserved
loop-done-preserved c =
    let s : Setting = setting_of c.args.problem.now c.args.facts.now in
    let k : ℕ = length c.args.choices.now - 1 - c.loop-done.done in
    let within : k < length c.args.choices.now = omega (arith, c.loop-done-test.true) in
    let both =
    built-next s c.args.choices.now c.args.objects.now (length c.args.choices.now - c.loop-done.done) k c.loop-done.end
    (get_or c.args.choices.now k c.index-choices-choices.result) (omega (arith, c.loop-done-test.true))
    (slice_get-read c.args.choices.now k c.index-choices-choices.result within) c.loop-done.invariant.end _ c.in-Ok.start _ _
    (omega (arith, c.loop-done-test.true)) c.in-Ok.ensures.start c.loop-done.invariant.made c.in-Ok.ensures.made in
    record { end = both.0; made = both.1 }

pub returns : goal.returns
returns c =
    built-end (setting_of c.args.problem.now c.args.facts.now) c.args.choices.now c.args.objects.now
    (length c.args.choices.now - c.loop-done.done) c.loop-done.end (map derivation_of (reverse c.loop-done.made.items))
    (omega (arith, c.loop-done-test.false)) c.loop-done.invariant.end c.loop-done.invariant.made
