use Rattle.std.proofs.Common.{◌≡◌, ◌∙◌, List, ap, subst}
use Rattle.std.specs.Prelude.{◌↔◌, All, IsTrue}
use Rattle.px_terms.specs.Operators.{IsAddable, schema_of}
use Rattle.px_terms.specs.declared.atom.Atom.{Atom}
use Rattle.px_terms.specs.declared.problem.Schema.{Schema}
use Rattle.px_diff.proofs.macro_open.deletes_addable.Goals as goal

pub returns : goal.returns
returns c =
    let same : c.as_slice.result.now ≡ (schema_of c.args.problem.now c.args.step.now).del =
    c.as_slice.ensures ∙ ap (λ (schema : Schema). schema.del) c.schema_of.ensures.schema in
    subst (λ (l : List Atom). IsTrue c.are_addable.result ↔ All (IsAddable c.args.problem.now) l) same c.are_addable.ensures
