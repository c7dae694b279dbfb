use Rattle.std.proofs.Common.{◌<◌, length, get_or, refl, sym, ap, ◌∙◌, arith}
use Rattle.std.proofs.lemmas.List.{length-map}
use Rattle.std.proofs.lemmas.Slice.Zip.{AllZip-long}
use Rattle.px_table.specs.Choices.{atom_by}
use Rattle.px_table.specs.Conclusions.{IsConclusion}
use Rattle.px_table.proofs.Choosing.{conclusion_here, no_atom}
use Rattle.px_table.proofs.Loops.{map_next, map_all, map_at}
use Rattle.px_table.proofs.goal_row.row_concludes.Goals as goal

pub returns-then-goal-row : goal.returns-then-goal-row
returns-then-goal-row c = λ atoms concluded.
    let same = AllZip-long (IsConclusion c.args.axioms.now) atoms c.args.row.now concluded in (
      λ yes. cc,
      λ is. absurd (c.if-goal-row.true (omega (
        arith,
        same,
        ap length is,
        length-map c.args.goal.now (atom_by c.args.params c.args.goal.now atoms),
      ))),
    )

pub returns-then-not-concludes : goal.returns-then-not-concludes
returns-then-not-concludes c = λ atoms concluded.
    let below : c.loop-k.k < length c.args.row.now = omega (arith, c.loop-k-test.true, c.if-goal-row.false) in
    let here = conclusion_here c.args.axioms.now c.args.row.now c.loop-k.k c.index-row-k.result c.index-row-k.is below atoms concluded in (
      λ yes. cc,
      λ is.
          let at =
          ap (atom_by c.args.params c.args.goal.now atoms) c.index-goal-k.is
          ∙ map_at (atom_by c.args.params c.args.goal.now atoms) c.args.goal.now atoms c.loop-k.k c.index-goal-k.result no_atom
          c.loop-k-test.true is in
          let yes =
          (c.concludes.ensures atoms (get_or atoms c.loop-k.k no_atom) concluded here).1 at in let no_match =
          c.if-not-concludes.true in cc,
    )

pub loop-k-preserved : goal.loop-k-preserved
loop-k-preserved c = λ atoms concluded.
    let same = AllZip-long (IsConclusion c.args.axioms.now) atoms c.args.row.now concluded in
    let below : c.loop-k.k < length c.args.row.now = omega (arith, c.loop-k-test.true, c.if-goal-row.false) in
    let here = conclusion_here c.args.axioms.now c.args.row.now c.loop-k.k c.index-row-k.result c.index-row-k.is below atoms concluded in
    map_next (atom_by c.args.params c.args.goal.now atoms) c.args.goal.now atoms c.loop-k.k c.index-goal-k.result no_atom c.loop-k-test.true
    (omega (arith, below, same)) (c.loop-k.invariant atoms concluded)
    (sym (ap (atom_by c.args.params c.args.goal.now atoms) c.index-goal-k.is)
    ∙ (c.concludes.ensures atoms (get_or atoms c.loop-k.k no_atom) concluded here).0 c.if-not-concludes.false)

pub returns : goal.returns
returns c = λ atoms concluded.
    let same = AllZip-long (IsConclusion c.args.axioms.now) atoms c.args.row.now concluded in (
      λ _. map_all (atom_by c.args.params c.args.goal.now atoms) c.args.goal.now atoms c.loop-k.k c.loop-k-test.false
          (omega (arith, same, c.if-goal-row.false, c.loop-k-test.false)) (c.loop-k.invariant atoms concluded),
      λ _. refl,
    )
