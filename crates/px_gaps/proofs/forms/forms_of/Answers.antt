use Rattle.std.proofs.Common.{◌≡◌, ◌⊎◌, List, subst, arith}
use Rattle.std.specs.Prelude.{◌↔◌, Contains}
use Rattle.std.proofs.lemmas.List.{take_all}
use Rattle.std.proofs.lemmas.List.Filters.{dedup_is}
use Rattle.px_prover.specs.declared.pattern.GapPattern.{GapPattern}
use Rattle.px_terms.specs.Order.{atom_eq}
use Rattle.px_terms.specs.OrderLaws.{atom_eq-decides}
use Rattle.px_terms.specs.declared.atom.Atom.{Atom}
use Rattle.px_gaps.specs.Closings.{OneOf}
use Rattle.px_gaps.specs.Forms.{form_by}
use Rattle.px_gaps.proofs.Grows.{grown, one_next}
use Rattle.px_gaps.proofs.Ordered.{sorted_members}
use Rattle.px_gaps.proofs.forms.forms_of.Goals as goal

pub loop-pattern-preserved : goal.loop-pattern-preserved
loop-pattern-preserved c = λ form.
    grown (c.loop-pattern.invariant form)
    (subst (λ (l : List Atom). Contains c.push_forms.new.forms.items form
    ↔ (Contains c.loop-pattern.forms.items form ⊎ OneOf l (λ (atom : Atom). form_by atom ≡ form))) c.as_slice.ensures
    (c.in_ok-push_forms.ensures form))
    (one_next (λ (pattern : GapPattern). OneOf pattern.atoms (λ atom. form_by atom ≡ form)) c.args.patterns.now c.loop-pattern.pattern-index
    c.pattern-item.result c.loop-pattern-test.true c.pattern-item.is)

pub returns : goal.returns
returns c = λ form.
    let whole =
    subst (λ (l : List GapPattern). Contains c.loop-pattern.forms.items form
    ↔ OneOf l (λ (pattern : GapPattern). OneOf pattern.atoms (λ atom. form_by atom ≡ form)))
    (take_all c.loop-pattern.pattern-index c.args.patterns.now (omega (arith, c.loop-pattern-test.false)))
    (c.loop-pattern.invariant form) in
    let same =
    sorted_members atom_eq atom_eq-decides c.loop-pattern.forms.items c.sort_unstable.new.self.items c.dedup.new.self.items
    c.sort_unstable.ensures.permutation (dedup_is atom_eq c.sort_unstable.new.self.items c.dedup.new.self.items
    c.dedup.ensures.filtered) form in
    (λ h. whole.0 (same.1 h), λ h. same.0 (whole.1 h))
