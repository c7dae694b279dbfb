use Rattle.std.proofs.Common.{◌≡◌, ◌∙◌, true, List, ap, sym, subst}
use Rattle.std.specs.Prelude.{Contains}
use Rattle.px_terms.specs.Instances.{is_instance}
use Rattle.px_terms.specs.Operators.{schema_of}
use Rattle.px_terms.specs.Substitution.{substitute_atom}
use Rattle.px_terms.specs.declared.atom.Atom.{Atom}
use Rattle.px_terms.specs.declared.problem.Schema.{Schema}
use Rattle.px_terms.specs.declared.term.Term.{Term}
use Rattle.px_entries.proofs.LeftAdds.{deleted-under}
use Rattle.px_base.proofs.Loops.{contains_here}
use Rattle.px_entries.proofs.macro_matching.always_deletes.Goals as goal

pub returns-then-fills : goal.returns-then-fills
returns-then-fills c = λ _ sigma.
    let step = c.args.step.now in
    let pattern = c.pattern-item.result in
    let patterns_are : c.as_slice-patterns.result.now ≡ (schema_of c.args.problem.now step).del =
    c.as_slice-patterns.ensures ∙ ap (λ (schema : Schema). schema.del) c.schema_of.ensures.schema in
    let has =
    subst (λ (l : List Atom). Contains l pattern) patterns_are
    (contains_here c.as_slice-patterns.result.now c.loop-pattern.pattern-index pattern c.loop-pattern-test.true c.pattern-item.is) in
    let applied : c.apply.result ≡ substitute_atom step.args pattern =
    c.apply.ensures ∙ ap (λ (args : List Term). substitute_atom args pattern) c.args-in-loop-pattern.ensures.value in
    let fills = subst (λ (p : Atom). is_instance c.args.atom.now p ≡ true) applied (sym c.fills.ensures ∙ c.if-fills.true) in
    deleted-under c.args.problem.now step c.args.atom.now pattern has fills sigma
