use Rattle.std.specs.Prelude.{◌↔◌, ◌⊎◌, Contains}
use Rattle.px_question.specs.Answers.{object_terms}
use Rattle.px_terms.specs.Substitution.{substitute_atom}
use Rattle.px_terms.specs.declared.atom.Atom.{Atom}
use Rattle.px_gaps.specs.Bindings.{IsOpenBefore, open_term_count}
use Rattle.px_gaps.proofs.Choosing.{IsSetAt}
use Rattle.px_gaps.proofs.missing.+insert_open.Given as goal

abbrev pub decreases-insert_open : goal.decreases-insert_open
decreases-insert_open l = open_term_count l.terms.now

abbrev pub invariant-loop-object : goal.invariant-loop-object
invariant-loop-object l =
    ((q : Atom) → Contains l.found.atoms q
    ↔ (Contains l.initial.found.atoms q
    ⊎ IsOpenBefore l.avoidance.limit l.terms l.avoidance.atoms.now l.avoidance.set.now.atoms
    (λ values. substitute_atom (object_terms values) l.target) l.variable l.object q))
    × IsSetAt l.terms l.variable l.next.items
