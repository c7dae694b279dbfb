use Rattle.std.proofs.Common.{◌≡◌, sym, ap, ◌∙◌}
use borrow.Author.Tests.{eqb-true}
use Rattle.px_terms.specs.declared.atom.Atom.{Atom}
use Rattle.px_base.specs.Answers.{some_same, some_or_none}
use Rattle.px_table.specs.Choices.{atom_by}
use Rattle.px_table.proofs.Choosing.{atom_is}
use Rattle.px_table.proofs.goal_row.concludes.Goals as goal

pub returns-then-pred : goal.returns-then-pred
returns-then-pred c = λ atoms atom row_concluded concluded.
    let same : c.in-Some.atom ≡ atom = some_same (sym c.in-Some.is ∙ c.conclusion.ensures atom concluded) in
    let exact = rw (c.args-then-pred.ensures.value, c.args-then-pred-2.ensures.value) at (c.are_chosen.ensures atoms row_concluded) in (
      λ yes. atom_is (atom_by c.args.params c.args.goal.now atoms c.args.pattern.now) c.in-Some.atom
          (sym c.pred-in-Some.ensures ∙ sym c.if-pred.true ∙ c.pred.ensures) (exact.0 yes) ∙ same,
      λ is. exact.1 (ap (λ (a : Atom). a.args) (is ∙ sym same)),
    )

pub returns-else-pred : goal.returns-else-pred
returns-else-pred c = λ atoms atom row_concluded concluded.
    let same : c.in-Some.atom ≡ atom = some_same (sym c.in-Some.is ∙ c.conclusion.ensures atom concluded) in (
      λ yes. absurd (c.if-pred.false (eqb-true c.pred.result c.pred-in-Some.result yes)),
      λ is. absurd (c.if-pred.false (c.pred.ensures ∙ ap (λ (a : Atom). a.pred) (same ∙ sym is) ∙ sym c.pred-in-Some.ensures)),
    )

pub returns-in-None : goal.returns-in-None
returns-in-None c = λ atoms atom row_concluded concluded. some_or_none (sym (c.conclusion.ensures atom concluded) ∙ c.in-None.is)
