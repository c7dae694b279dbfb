use Rattle.std.proofs.lemmas.List.Elements.{Decides-contains, contains_decides}
use Rattle.px_terms.specs.Order.{atom_eq}
use Rattle.px_terms.specs.OrderLaws.{atom_eq-decides}
use Rattle.px_proof.proofs.basis.is_fact.Goals as goal

pub returns : goal.returns
returns c =
    Decides-contains c.args.facts.now c.args.atom.now c.contains.result
    (contains_decides atom_eq atom_eq-decides c.args.facts.now c.args.atom.now c.contains.result c.contains.ensures.cases)
