use Rattle.std.specs.Prelude.{◌≡◌, ◌↔◌, take, Contains}
use Rattle.px_prover.specs.declared.pattern.GapPattern.{GapPattern}
use Rattle.px_terms.specs.declared.atom.Atom.{Atom}
use Rattle.px_gaps.specs.Closings.{OneOf}
use Rattle.px_gaps.specs.Forms.{form_by}
use Rattle.px_gaps.proofs.forms.forms_of.Given as goal

abbrev pub invariant-loop-pattern : goal.invariant-loop-pattern
invariant-loop-pattern l =
    (form : Atom) → Contains l.forms.items form
    ↔ OneOf (take l.pattern-index l.patterns) (λ (pattern : GapPattern). OneOf pattern.atoms (λ atom. form_by atom ≡ form))
