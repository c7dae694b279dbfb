use Rattle.std.proofs.Common.{◌≡◌, sym, ap, ◌∙◌}
use Rattle.std.specs.Prelude.{List}
use Rattle.px_terms.specs.declared.atom.Atom.{Atom}
use Rattle.px_terms.specs.declared.term.Term.{Term}
use Rattle.px_base.specs.Answers.{some_same, some_or_none}
use Rattle.px_table.specs.Choices.{term_beside}
use Rattle.px_table.proofs.goal_row.term_of_proof.Goals as goal

pub returns-in-Some : goal.returns-in-Some
returns-in-Some c = λ atom concluded.
    let same : c.in-Some.atom ≡ atom = some_same (sym c.in-Some.is ∙ c.conclusion.ensures atom concluded) in
    c.first_beside.ensures
    ∙ ap (λ (ps : List Term). term_beside c.args.variable ps c.args-in-Some-2.result.now) c.args-in-Some.ensures.value
    ∙ ap (term_beside c.args.variable c.args.pattern.now.args) (c.args-in-Some-2.ensures.value ∙ ap (λ (a : Atom). a.args) same)

pub returns-in-None : goal.returns-in-None
returns-in-None c = λ atom concluded. some_or_none (sym (c.conclusion.ensures atom concluded) ∙ c.in-None.is)
