use Rattle.std.specs.Prelude.{◌≡◌, ◌↔◌, ◌⊎◌, take, Contains}
use Rattle.px_terms.specs.declared.atom.Atom.{Atom}
use Rattle.px_gaps.specs.Closings.{OneOf}
use Rattle.px_gaps.specs.Forms.{form_by}
use Rattle.px_gaps.proofs.forms.push_forms.Given as goal

abbrev pub invariant-loop-atom : goal.invariant-loop-atom
invariant-loop-atom l =
    (form : Atom) → Contains l.forms.items form
    ↔ (Contains l.initial.forms.items form ⊎ OneOf (take l.atom-index l.atoms) (λ atom. form_by atom ≡ form))
