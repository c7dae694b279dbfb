use Rattle.std.proofs.Common.{◌∙◌, ℕ, List, map, subst, sym}
use Rattle.px_terms.specs.Language.{object_of, substitute}
use Rattle.px_terms.specs.Sorts.{ObjectsFit}
use Rattle.px_gaps.proofs.Grows.{kept_one}
use Rattle.px_base.proofs.Loops.{on_ok, said_yes}
use Rattle.px_gaps.proofs.choices.push_objects.Goals as goal

pub returns : goal.returns
returns c =
    let Fits : List ℕ → Type 0 = ObjectsFit c.args.sorting.now.object_sorts.now c.args.sorting.now.wanted.now in
    let fits = said_yes c.objects_fit.result c.objects_fit.ensures c.if-not-objects_fit.false in
    on_ok c.push.result (λ put objects. kept_one Fits c.from_vec.result
    (map (λ t. object_of (substitute c.args.terms.now t)) c.args.targets.now)
    objects c.args.found.now.items c.push.new.items.items (c.from_vec.ensures ∙ c.in_ok-objects.ensures)
    (subst Fits (c.deref.ensures.value ∙ sym c.from_vec.ensures) fits) put) c.push.ensures.ok
