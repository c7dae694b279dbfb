use Rattle.std.proofs.Common.{◌≡◌, ◌∙◌, ◌<◌, List, [], length, ap, sym, subst, arith}
use Rattle.std.specs.Prelude.{replicate}
use Rattle.std.proofs.lemmas.List.{length-replicate}
use Rattle.px_terms.specs.declared.term.Term.{Term}
use Rattle.px_terms.specs.declared.term.Term.TheVariants.{Any as WildCard}
use Rattle.px_edit.specs.Parts.{AreNamesAlong, unnamed}
use Rattle.px_edit.proofs.NameSteps.{names-start, unnamed-start, written_back}
use Rattle.px_edit.proofs.naming.names_along.Goals as goal

pub name_each-left-requires-clause-room : goal.name_each-left-requires-clause-room
name_each-left-requires-clause-room c =
    omega (arith, ap unnamed (c.deref_mut.ensures.value ∙ c.in_ok-terms.ensures), unnamed-start c.args.params, c.ranges.params.fits)

pub name_each-left-requires-clause-start : goal.name_each-left-requires-clause-start
name_each-left-requires-clause-start c =
    let is = c.deref_mut.ensures.value ∙ c.in_ok-terms.ensures in
    names-start _ _ _ (sym (ap length is ∙ length-replicate _ WildCard)) is

pub returns : goal.returns
returns c =
    let made = c.name_each-left.new.names in
    let is = c.deref_mut.ensures.value ∙ c.in_ok-terms.ensures in
    let many = ap length is ∙ length-replicate c.args.params WildCard in
    let whole : c.in_ok-terms.terms.len ≡ length made = omega (arith, c.name_each-left.ensures.long, c.deref_mut.ensures.len) in
    subst (λ (l : List Term). AreNamesAlong c.args.params c.args.walked.now l c.name_each-left.result)
    (sym (written_back c.in_ok-terms.terms.len made c.in_ok-terms.terms.items whole))
    (subst (λ n. AreNamesAlong n c.args.walked.now made c.name_each-left.result) many c.name_each-left.ensures.names)
