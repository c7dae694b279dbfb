use Rattle.std.proofs.Common.{◌≡◌, ◌⊎◌, List, sym, subst, arith}
use Rattle.std.specs.Prelude.{◌↔◌, Contains}
use Rattle.std.proofs.lemmas.List.{take_all}
use Rattle.px_terms.specs.declared.atom.Atom.{Atom}
use Rattle.px_gaps.specs.Closings.{OneOf}
use Rattle.px_gaps.specs.Forms.{form_by}
use Rattle.px_gaps.proofs.Grows.{grouped, grown, one_next}
use Rattle.px_base.proofs.Loops.{Contains-pushed}
use Rattle.px_gaps.proofs.forms.push_forms.Goals as goal

pub loop-atom-preserved : goal.loop-atom-preserved
loop-atom-preserved c = λ form.
    grown (c.loop-atom.invariant form)
    (subst (λ (one : Atom). Contains c.push.new.self.items form ↔ (Contains c.loop-atom.forms.items form ⊎ (one ≡ form))) c.form_of.ensures
    (subst (λ (l : List Atom). Contains l form ↔ (Contains c.loop-atom.forms.items form ⊎ (c.form_of.result ≡ form)))
    (sym c.in_ok-push.ensures.items) (Contains-pushed c.loop-atom.forms.items c.form_of.result form)))
    (grouped (one_next (λ (atom : Atom). form_by atom ≡ form) c.args.atoms.now c.loop-atom.atom-index c.atom-item.result
    c.loop-atom-test.true c.atom-item.is))

pub returns : goal.returns
returns c = λ form.
    subst (λ (l : List Atom). Contains c.loop-atom.forms.items form
    ↔ (Contains c.args.forms.now.items form ⊎ OneOf l (λ (atom : Atom). form_by atom ≡ form)))
    (take_all c.loop-atom.atom-index c.args.atoms.now (omega (arith, c.loop-atom-test.false))) (c.loop-atom.invariant form)
