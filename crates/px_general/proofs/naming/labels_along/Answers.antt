use Rattle.std.proofs.Common.{◌≡◌, ◌∙◌, List, [], length, sym, subst, arith}
use Rattle.px_terms.specs.declared.term.Term.{Term}
use Rattle.px_general.specs.Naming.{AreLabels}
use Rattle.px_general.proofs.GeneralSteps.{first-labels, written_back}
use Rattle.px_general.proofs.naming.labels_along.Goals as goal

pub returns-clause-labels : goal.returns-clause-labels
returns-clause-labels c =
    let resolved = c.args.resolved.now in
    let made = c.label_each-params.new.labels in
    let start =
    subst (λ (l : List Term). AreLabels resolved l 0 []) (sym (c.deref_mut.ensures.value ∙ c.in_ok-terms.ensures))
    (first-labels resolved (length resolved)) in
    let whole : c.in_ok-terms.terms.len ≡ length made = omega (arith, c.label_each-params.ensures.long, c.deref_mut.ensures.len) in
    subst (λ (l : List Term). AreLabels resolved l c.label_each-params.result c.args.walked.now)
    (sym (written_back c.in_ok-terms.terms.len made c.in_ok-terms.terms.items whole)) (c.label_each-params.ensures.labels [] start)
