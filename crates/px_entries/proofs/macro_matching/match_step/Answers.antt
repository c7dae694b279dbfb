use Rattle.std.proofs.Common.{◌≡◌, ◌∙◌, Some, length, slice_get, ap, sym, arith}
use Rattle.std.proofs.lemmas.List.{length-map}
use Rattle.std.proofs.lemmas.Option.{get_or_from_slice_get, slice_get_within}
use Rattle.px_terms.specs.Operators.{adds}
use Rattle.px_terms.specs.declared.atom.Atom.{Atom}
use Rattle.px_terms.specs.declared.problem.Schema.{Schema}
use Rattle.px_entries.specs.Parameters.{IsLeftAdd}
use Rattle.px_entries.proofs.MatchLemmas.{add-plain, matches_first, matches_next, matches_whole}
use Rattle.px_entries.proofs.macro_matching.match_step.Goals as goal

pub loop-place-init : goal.loop-place-init
loop-place-init c =
    matches_first c.args.problem.now.objects (length c.args.start.now) c.args.start.now
    (λ (add : Atom) sigma. IsLeftAdd c.args.problem.now c.args.later.now c.args.wanted.now sigma add) c.args.found.now.items

pub match_add-requires-clause-add : goal.match_add-requires-clause-add
match_add-requires-clause-add c =
    let at : slice_get (adds c.args.problem.now c.args.step.now) c.loop-place.place ≡ Some c.adds-add.result =
    rw c.schema_of-schema.ensures.schema at c.adds-add.ensures in
    add-plain c.args.problem.now (length c.args.start.now) c.args.step.now c.loop-place.place c.adds-add.result c.requires.problem
    c.requires.step at

pub loop-place-preserved : goal.loop-place-preserved
loop-place-preserved c =
    let xs = adds c.args.problem.now c.args.step.now in
    let place = c.loop-place.place in
    let at : slice_get (adds c.args.problem.now c.args.step.now) c.loop-place.place ≡ Some c.adds-add.result =
    rw c.schema_of-schema.ensures.schema at c.adds-add.ensures in
    matches_next c.args.problem.now.objects (length c.args.start.now) c.args.start.now
    (λ (add : Atom) sigma. IsLeftAdd c.args.problem.now c.args.later.now c.args.wanted.now sigma add) xs place c.adds-add.result
    (slice_get_within xs place c.adds-add.result at) (sym (get_or_from_slice_get xs place c.adds-add.result c.adds-add.result at))
    c.args.found.now.items c.loop-place.found.items c.match_add.new.found.items c.loop-place.invariant c.in_ok-match_add.ensures

pub returns : goal.returns
returns c =
    let xs = adds c.args.problem.now c.args.step.now in
    let long : length xs ≡ length c.schema_of-schema.result.now.add =
    length-map _ _ ∙ ap (λ (s : Schema). length s.add) (sym c.schema_of-schema.ensures.schema) in
    matches_whole c.args.problem.now.objects (length c.args.start.now) c.args.start.now
    (λ (add : Atom) sigma. IsLeftAdd c.args.problem.now c.args.later.now c.args.wanted.now sigma add) xs c.loop-place.place
    c.args.found.now.items c.loop-place.found.items (omega (arith, long, c.loop-place-test.false)) c.loop-place.invariant
