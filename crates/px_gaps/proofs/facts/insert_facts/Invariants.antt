use Rattle.std.proofs.Common.{◌⊎◌, take}
use Rattle.std.specs.Prelude.{◌↔◌, Contains}
use Rattle.px_terms.specs.declared.atom.Atom.{Atom}
use Rattle.px_gaps.specs.Forms.{IsInstanceIn}
use Rattle.px_gaps.proofs.facts.insert_facts.Given as goal

abbrev pub invariant-loop-number : goal.invariant-loop-number
invariant-loop-number l =
    (q : Atom) → Contains l.found.atoms q
    ↔ (Contains l.initial.found.atoms q ⊎ (Contains (take l.number l.facts) q × IsInstanceIn l.problem.objects l.form q))
