use Rattle.std.proofs.Common.{◌⊎◌, ◌≡◌, ◌<◌, List, subst, sym, arith}
use Rattle.std.specs.Prelude.{◌↔◌, All, Contains, length}
use Rattle.px_proof.specs.PlaceLaws.{slice_get-read}
use Rattle.px_terms.specs.AtomSets.{IsAtomSet}
use Rattle.px_terms.specs.Instances.{IsGround}
use Rattle.px_terms.specs.declared.atom.Atom.{Atom}
use Rattle.px_gaps.specs.Forms.{IsInstanceIn}
use Rattle.px_gaps.proofs.Describing.{then-same}
use Rattle.px_gaps.proofs.FactLemmas.{facts-next}
use Rattle.px_gaps.proofs.FactRange.{all-taken, none-before}
use Rattle.px_gaps.proofs.Grows.{nothing_comes}
use Rattle.px_gaps.proofs.facts.insert_facts.Goals as goal

pub places_of-first-requires : goal.places_of-first-requires
places_of-first-requires c =
    subst IsAtomSet (sym c.atoms-facts.ensures.value) c.atoms-facts.ensures.model.ascending

pub loop-number-init : goal.loop-number-init
loop-number-init c = λ q.
    let facts = c.atoms-facts.result.now in
    let all_ground : All IsGround facts = subst (λ (l : List Atom). All IsGround l) (sym c.atoms-facts.ensures.value) c.atoms-facts.ensures.model.all_ground in
    nothing_comes (none-before c.args.problem.now.objects facts c.args.form.now c.places_of-first.result.0 c.places_of-first.result.1
    c.places_of-first.ensures all_ground q)

pub loop-number-preserved : goal.loop-number-preserved
loop-number-preserved c = λ q.
    let facts = c.atoms-facts.result.now in
    let within : c.loop-number.number < length facts = omega (arith, c.loop-number-test.true, c.places_of-first.ensures.within) in
    facts-next facts c.loop-number.number c.index-facts-number.result q within (c.index-facts-number.is) (c.loop-number.invariant q)
    (c.in_ok-insert_instance.ensures q)

pub returns : goal.returns
returns c = λ q.
    let facts = c.atoms-facts.result.now in
    let all_ground : All IsGround facts = subst (λ (l : List Atom). All IsGround l) (sym c.atoms-facts.ensures.value) c.atoms-facts.ensures.model.all_ground in
    subst (λ (l : List Atom). Contains c.loop-number.found.atoms q
    ↔ (Contains c.args.found.now.atoms q ⊎ (Contains l q × IsInstanceIn c.args.problem.now.objects c.args.form.now q)))
    c.atoms-facts.ensures.value
    (then-same (c.loop-number.invariant q) (all-taken c.args.problem.now.objects facts c.args.form.now c.places_of-first.result.0
    c.places_of-first.result.1 c.places_of-first.ensures all_ground q c.loop-number.number (omega (arith, c.loop-number-test.false))))
