use Rattle.std.proofs.Common.{arith, add-one, ap, sym, ◌∙◌, Some}
use Rattle.px_proof.proofs.Parts.{part_before, part_after}
use Rattle.px_proof.specs.Literals.{complement_of, substitute_literal}
use Rattle.px_proof.proofs.checker.part_at.Goals as goal
use Rattle.px_proof.proofs.checker.part_at.Goals.{then-part-place, else-part-place}

pub returns : goal.returns
returns c =
    elim c.if-part-place.branch [
      | then-part-place w ↦
          rw (c.complement.ensures, c.apply_literal.ensures)
          (part_before c.args.lits.now c.args.theta.now c.args.place c.args.part c.index-lits-other.result w.if-part-place.true
          (omega (arith, c.requires.part))
          ∙ ap (λ l. Some (complement_of (substitute_literal c.args.theta.now l))) (sym (rw w.other-is at c.index-lits-other.is)))
      | else-part-place w ↦
          rw (c.complement.ensures, c.apply_literal.ensures)
          (part_after c.args.lits.now c.args.theta.now c.args.place c.args.part c.index-lits-other.result w.if-part-place.false
          (omega (arith, c.requires.part))
          ∙ ap (λ l. Some (complement_of (substitute_literal c.args.theta.now l)))
          (sym (rw (w.other-is, add-one) at c.index-lits-other.is)))
    ]
