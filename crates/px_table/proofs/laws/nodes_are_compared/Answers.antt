use Rattle.px_table.specs.NodeLaws.{node_eq-decides}
use Rattle.px_table.proofs.laws.nodes_are_compared.Goals as goal

pub returns : goal.returns
returns c = node_eq-decides
