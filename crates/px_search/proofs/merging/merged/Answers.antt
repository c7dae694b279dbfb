use Rattle.std.proofs.Common.{drop, sym, subst, arith}
use Rattle.std.proofs.lemmas.List.{drop_all}
use Rattle.px_search.proofs.JoinLaws.{Joining, first_at, second_at, joined-past_first, joined-past_second, joining-start, put_rest, next-less, next-same, next-greater}
use Rattle.px_search.proofs.merging.merged.Goals.{then-loop-here-test+else-there-second, else-loop-here-test}
use Rattle.px_search.proofs.merging.merged.Goals as goal

pub loop-here-init : goal.loop-here-init
loop-here-init c = record {
  here_in = omega arith;
  there_in = omega arith;
  joining = λ firsts seconds a b.
      subst (Joining c.args.numbers.now firsts seconds c.args.first.now c.args.second.now) (sym c.new-merged.ensures.items)
      (joining-start c.args.numbers.now firsts seconds c.args.first.now c.args.second.now a b);
}

pub compared-requires-clause-one : goal.compared-requires-clause-one
compared-requires-clause-one c =
    first_at c.args.numbers.now c.requires.first.0 c.requires.second.0 c.args.first.now c.args.second.now c.loop-here.merged.items
    c.loop-here.here c.loop-here.there c.step_at-one.result c.step_at-other.result c.step_at-one.ensures c.step_at-other.ensures
    (c.loop-here.invariant.joining c.requires.first.0 c.requires.second.0 c.requires.first.1 c.requires.second.1)

pub compared-requires-clause-other : goal.compared-requires-clause-other
compared-requires-clause-other c =
    second_at c.args.numbers.now c.requires.first.0 c.requires.second.0 c.args.first.now c.args.second.now c.loop-here.merged.items
    c.loop-here.here c.loop-here.there c.step_at-one.result c.step_at-other.result c.step_at-one.ensures c.step_at-other.ensures
    (c.loop-here.invariant.joining c.requires.first.0 c.requires.second.0 c.requires.first.1 c.requires.second.1)

pub loop-here-preserved-in-Less : goal.loop-here-preserved-in-Less
loop-here-preserved-in-Less c = record {
  here_in = omega (arith, c.loop-here.invariant.here_in, c.loop-here-test.true);
  there_in = omega (arith, c.loop-here.invariant.there_in, c.if-there-second.true);
  joining = λ firsts seconds a b.
      next-less c.args.numbers.now firsts seconds c.args.first.now c.args.second.now c.loop-here.merged.items c.loop-here.here
      c.loop-here.there c.step_at-one.result c.step_at-other.result c.compared.result c.push.new.self.items c.compared.ensures
      c.step_at-one.ensures c.step_at-other.ensures
      (c.loop-here.invariant.joining firsts seconds a b) c.in-Less.is c.in_ok-push-in-Less.ensures.items;
}

pub loop-here-preserved-in-Equal : goal.loop-here-preserved-in-Equal
loop-here-preserved-in-Equal c = record {
  here_in = omega (arith, c.loop-here.invariant.here_in, c.loop-here-test.true);
  there_in = omega (arith, c.loop-here.invariant.there_in, c.if-there-second.true);
  joining = λ firsts seconds a b.
      next-same c.args.numbers.now firsts seconds c.args.first.now c.args.second.now c.loop-here.merged.items c.loop-here.here
      c.loop-here.there c.step_at-one.result c.step_at-other.result c.compared.result c.push-in-Equal.new.self.items c.compared.ensures
      c.step_at-one.ensures c.step_at-other.ensures
      (c.loop-here.invariant.joining firsts seconds a b) c.in-Equal.is c.in_ok-push-in-Equal.ensures.items;
}

pub loop-here-preserved : goal.loop-here-preserved
loop-here-preserved c = record {
  here_in = omega (arith, c.loop-here.invariant.here_in, c.loop-here-test.true);
  there_in = omega (arith, c.loop-here.invariant.there_in, c.if-there-second.true);
  joining = λ firsts seconds a b.
      next-greater c.args.numbers.now firsts seconds c.args.first.now c.args.second.now c.loop-here.merged.items c.loop-here.here
      c.loop-here.there c.step_at-one.result c.step_at-other.result c.compared.result c.push-in-Greater.new.self.items
      c.compared.ensures
      c.step_at-one.ensures c.step_at-other.ensures
      (c.loop-here.invariant.joining firsts seconds a b) c.in-Greater.is c.in_ok-push-in-Greater.ensures.items;
}

pub returns : goal.returns
returns c = λ firsts seconds a b.
    let kept = c.args.numbers.now in
    let first = c.args.first.now in
    let second = c.args.second.now in
    let here = c.loop-here.here in
    let there = c.loop-here.there in
    let made = c.loop-here.merged.items in
    let g = c.loop-here.invariant.joining firsts seconds a b in
    let rest_put = put_rest made c.extend_from_slice.new.self.items first here c.in_ok-extend_from_slice.ensures.items in
    let others_put =
    put_rest c.extend_from_slice.new.self.items c.extend_from_slice-2.new.self.items second there
    c.in_ok-extend_from_slice-2.ensures.items in
    elim c.loop-here-test.branch [
      | then-loop-here-test+else-there-second w ↦
          joined-past_second kept firsts seconds (drop here first)
          (drop there second) made c.extend_from_slice.new.self.items c.extend_from_slice-2.new.self.items
          (drop_all there second (omega (arith, w.if-there-second.false))) g rest_put others_put
      | else-loop-here-test w ↦
          joined-past_first kept firsts seconds (drop here first)
          (drop there second) made c.extend_from_slice.new.self.items c.extend_from_slice-2.new.self.items
          (drop_all here first (omega (arith, w.loop-here-test.false))) g rest_put others_put
    ]
