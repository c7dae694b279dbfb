use Rattle.std.proofs.Common.{rules, ◌≡◌, slice_get, map, ◌∙◌, arith, Some, sym, ap, length, ◌<◌}
use Rattle.std.proofs.lemmas.List.{length-map}
use Rattle.px_proof.specs.Basis.{rules_of}
use Rattle.px_proof.specs.Path.{path_literals}
use Rattle.px_proof.specs.Proves.{parts_of}
use Rattle.px_proof.specs.ProofTerm.{derivation_of}
use Rattle.px_proof.proofs.Each.{length_each, each_fails, each_goes_on}
use Rattle.px_proof.specs.PlaceLaws.{slice_get-map, slice_get-read}
use Rattle.px_terms.specs.Clauses.{ArePlainBelow}
use Rattle.px_proof.proofs.Steps.{step_exact}
use Rattle.px_proof.proofs.Uses.{no_clause, clause_at, plain_lits, uses_number, uses_length, uses_place, uses_at}
use Rattle.px_proof.specs.LayerLaws.{path_literals-under}
use Rattle.px_proof.proofs.Parts.{length-parts_of}
use Rattle.px_proof.proofs.checker.+proves.Goals as goal

pub each_proves-returns-then-subs-lits : goal.each_proves-returns-then-subs-lits
each_proves-returns-then-subs-lits t c = (
  λ yes. cc,
  λ each.
      let same =
      length_each (rules_of c.args.basis.now) c.args.arena.now (path_literals c.args.path.now)
      (parts_of c.args.lits.now c.args.theta.now c.args.place) (map derivation_of c.args.subs.now) each in
      absurd (c.if-subs-lits.true (omega (
        arith,
        same,
        length-map c.args.subs.now derivation_of,
        length-parts_of c.args.lits.now c.args.theta.now c.args.place c.requires.place,
      ))),
)

pub each_proves-loop-k-preserved : goal.each_proves-loop-k-preserved
each_proves-loop-k-preserved t c =
    let at_sub : slice_get (map derivation_of c.args.subs.now) c.loop-k.k ≡ Some (derivation_of c.index-subs-k.result) =
    slice_get-map derivation_of c.args.subs.now c.loop-k.k c.index-subs-k.result
    (slice_get-read c.args.subs.now c.loop-k.k c.index-subs-k.result c.loop-k-test.true ∙ ap Some (sym c.index-subs-k.is)) in
    each_goes_on (rules_of c.args.basis.now) c.args.arena.now (path_literals c.args.path.now)
    (parts_of c.args.lits.now c.args.theta.now c.args.place) (map derivation_of c.args.subs.now) c.loop-k.k
    c.part_at-part.result (derivation_of c.index-subs-k.result) c.part_at-part.ensures at_sub c.loop-k.invariant
    (c.proves.ensures.0 c.if-not-proves.false)

pub each_proves-returns-then-not-proves : goal.each_proves-returns-then-not-proves
each_proves-returns-then-not-proves t c =
    let at_sub : slice_get (map derivation_of c.args.subs.now) c.loop-k.k ≡ Some (derivation_of c.index-subs-k.result) =
    slice_get-map derivation_of c.args.subs.now c.loop-k.k c.index-subs-k.result
    (slice_get-read c.args.subs.now c.loop-k.k c.index-subs-k.result c.loop-k-test.true ∙ ap Some (sym c.index-subs-k.is)) in (
      λ yes. cc,
      λ each.
          absurd (each_fails (rules_of c.args.basis.now) c.args.arena.now (path_literals c.args.path.now)
          (parts_of c.args.lits.now c.args.theta.now c.args.place) (map derivation_of c.args.subs.now) c.loop-k.k
          c.part_at-part.result (derivation_of c.index-subs-k.result) c.part_at-part.ensures at_sub c.loop-k.invariant
          (λ holds. let yes = c.proves.ensures.1 holds in let no = c.if-not-proves.true in cc) each),
    )

pub step_proves-each_proves-requires : goal.step_proves-each_proves-requires
step_proves-each_proves-requires t c =
    let found = c.uses_clause.ensures.0 c.if-not-uses_clause.false in
    let below =
    uses_number (rules_of c.args.basis.now).IsChoice c.args.arena.now c.args.lit.now c.args.clause c.args.theta.now c.args.place found.0
    found.1 in
    let same =
    uses_length (rules_of c.args.basis.now).IsChoice c.args.arena.now c.args.lit.now c.args.clause c.args.theta.now c.args.place found.0
    found.1 in
    let lits = c.lits.ensures.value no_clause in
    let at_place : c.args.place < length c.lits.result.now =
    rw lits (uses_place (rules_of c.args.basis.now).IsChoice c.args.arena.now c.args.lit.now c.args.clause c.args.theta.now c.args.place
    found.0 found.1) in
    let plain : ArePlainBelow (length c.args.theta.now) c.lits.result.now =
    plain_lits c.args.arena.now c.args.clause c.args.theta.now c.lits.result.now c.lits.ensures.arena below same lits in
    search rules

pub step_proves-returns : goal.step_proves-returns
step_proves-returns t c =
    let found = c.uses_clause.ensures.0 c.if-not-uses_clause.false in
    let at_clause =
    uses_at (rules_of c.args.basis.now).IsChoice c.args.arena.now c.args.lit.now c.args.clause c.args.theta.now c.args.place found.0
    found.1 in
    step_exact (rules_of c.args.basis.now) c.args.arena.now
    (path_literals c.args.path.now) c.args.lit.now c.args.clause c.args.theta.now c.args.place
    (clause_at c.args.arena.now c.args.clause) _ c.each_proves.result at_clause
    found (rw (c.lits.ensures.value no_clause, path_literals-under c.args.lit c.args.path) at c.each_proves.ensures)
