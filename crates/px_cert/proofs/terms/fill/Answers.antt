use Rattle.std.proofs.Common.{◌<◌, ◌≤◌, List, Some, length, take, ap, ◌∙◌, arith}
use Rattle.std.proofs.lemmas.List.{length-set, take_all, take_more_set}
use Rattle.px_terms.specs.declared.term.Term.{Term}
use Rattle.px_cert.specs.Reading.{many_at, term_at}
use Rattle.px_cert.proofs.Loop.{carried_whole, ends, is_done, keeps_on}
use Rattle.px_cert.proofs.terms.fill.Goals as goal

pub returns-in_err-value-clause-read : goal.returns-in_err-value-clause-read
returns-in_err-value-clause-read c =
    let item = term_at c.args.objects c.args.variable_count c.args.wild in
    let total = many_at item (length c.args.terms.now) c.args.bytes.now in
    carried_whole c.loop-place.terms c.from_residual.result c.in_err-value.field-0.0 total c.from_residual.ensures.1
    (ends item c.in_err-value.field-0.0 (take c.loop-place.place c.loop-place.terms) (length c.args.terms.now) c.loop-place.place
    c.loop-place.rest.now total c.loop-place-test.true c.in_err-value.ensures c.loop-place.invariant.read)

pub loop-place-preserved : goal.loop-place-preserved
loop-place-preserved c =
    let item = term_at c.args.objects c.args.variable_count c.args.wild in
    let total = many_at item (length c.args.terms.now) c.args.bytes.now in
    let same = c.loop-place.invariant.count in
    let inside : c.loop-place.place < length c.loop-place.terms = omega arith in
    record {
      read = keeps_on item _ (take c.loop-place.place c.loop-place.terms) (length c.args.terms.now) c.loop-place.place c.loop-place.rest.now
          c.in_ok-value.value c.in_ok-value.more.now total
          (take_more_set c.loop-place.terms c.loop-place.place c.in_ok-value.value inside) c.loop-place-test.true c.in_ok-value.ensures
          c.loop-place.invariant.read;
      count = length-set c.loop-place.terms c.loop-place.place c.in_ok-value.value ∙ same;
    }

pub returns-clause-read : goal.returns-clause-read
returns-clause-read c =
    let item = term_at c.args.objects c.args.variable_count c.args.wild in
    let same = c.loop-place.invariant.count in
    let past : length c.loop-place.terms ≤ c.loop-place.place = omega arith in
    is_done item (take c.loop-place.place c.loop-place.terms) (length c.args.terms.now) c.loop-place.place c.loop-place.rest.now
    (many_at item (length c.args.terms.now) c.args.bytes.now) c.loop-place-test.false c.loop-place.invariant.read
    ∙ ap (λ (xs : List Term). Some (xs, c.loop-place.rest.now)) (take_all c.loop-place.place c.loop-place.terms past)
