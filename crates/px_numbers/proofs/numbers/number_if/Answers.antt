use Rattle.std.proofs.Common.{◌∙◌, Some, ap, sym}
use Rattle.px_terms.specs.OrderLaws.{atom_eq-decides}
use Rattle.px_terms.specs.declared.atom.Atom.{Atom}
use Rattle.px_numbers.proofs.numbers.number_if.Goals as goal

pub returns-then-eq : goal.returns-then-eq
returns-then-eq c =
    c.atom.ensures.atom ∙ ap (λ (a : Atom). Some a) ((atom_eq-decides c.atom.result c.args.atom.now).0 (sym c.eq.ensures ∙ c.if-eq.true))
