use Rattle.std.proofs.Common.{◌≡◌, ◌-◌, ◌≤◌, ◌++◌, ℕ, List, [], ◌∷◌, length, reverse, slice_get, Some, ap, subst, arith}
use Rattle.std.proofs.lemmas.List.{length-append}
use Rattle.px_table.specs.declared.entry.Move.{Move}
use Rattle.px_search.proofs.OriginLemmas.{trace_start, trace_step, step_of_origin}
use Rattle.px_search.proofs.origins.moves_to.Goals as goal

pub loop-here-init : goal.loop-here-init
loop-here-init c = record {
  within = c.requires.place;
  few = omega (arith, ap length c.new-moves.ensures.items);
  trace =
      λ found trace. trace_start c.args.numbers.now c.args.origins.now found c.args.place c.new-moves.result.items trace c.requires.place
      c.new-moves.ensures.items;
}

pub move_of-requires : goal.move_of-requires
move_of-requires c =
    step_of_origin c.args.numbers.now c.args.origins.now c.requires.traced.0
    (c.loop-here.here - 1) c.origin_at-origin.result c.requires.traced.1 c.origin_at-origin.ensures

pub loop-here-smaller : goal.loop-here-smaller
loop-here-smaller c =
    omega (arith, c.requires.earlier (c.loop-here.here - 1) c.origin_at-origin.result c.origin_at-origin.ensures, c.loop-here-test.true)

pub loop-here-preserved : goal.loop-here-preserved
loop-here-preserved c =
    let earlier : c.origin_at-origin.result.parent ≤ c.loop-here.here - 1 =
    c.requires.earlier (c.loop-here.here - 1) c.origin_at-origin.result c.origin_at-origin.ensures in
    let put : c.push.new.self.items ≡ c.loop-here.moves.items ++ c.in_ok-last.last ∷ [] = c.in_ok-push.ensures.items in
    record {
      within = omega (arith, c.loop-here.invariant.within, earlier);
      few = omega (
        arith,
        c.loop-here.invariant.few,
        earlier,
        c.loop-here-test.true,
        ap length put,
        length-append c.loop-here.moves.items (c.in_ok-last.last ∷ []),
      );
      trace =
          λ found trace. trace_step c.args.numbers.now c.args.origins.now found c.args.place
          (c.loop-here.here - 1) c.origin_at-origin.result c.in_ok-last.last c.loop-here.moves.items c.push.new.self.items trace
          c.origin_at-origin.ensures
          c.in_ok-last.ensures put
          (subst (λ (n : ℕ). (prefix : List Move) × (slice_get found n ≡ Some prefix)
          × (slice_get found c.args.place ≡ Some (prefix ++ reverse c.loop-here.moves.items))) (omega (arith, c.loop-here-test.true))
          (c.loop-here.invariant.trace found trace));
    }
