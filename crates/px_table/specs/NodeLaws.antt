-- The laws of nodes: `==` says that they are the same, and equal ones are hashed alike.
use Rattle.std.proofs.lemmas.Bool.Decides.{Decides-and, Decides-like}
use Rattle.std.specs.Cmp.{IsEquivalence}
use Rattle.std.specs.Cmp.Lexicographic.{pointwise_decides}
use Rattle.std.specs.Hash.{Alike, same_Alike}
use Rattle.px_terms.specs.OrderLaws.{atom_eq-decides, decides_equiv}
use Rattle.px_table.specs.EntryLaws.{entry_eq-decides}
use Rattle.px_table.specs.Nodes.{node_eq, node_hash_input, NodesAreCompared}

pub node_eq-decides : NodesAreCompared
node_eq-decides first second =
    Decides-like _ (λ e i. record { model = e.1 i; stack = e.0 i }) (λ e. ((λ i. (e i).stack), (λ i. (e i).model)))
    (Decides-and _ _ (pointwise_decides entry_eq-decides first.stack second.stack)
    (pointwise_decides atom_eq-decides first.model second.model))

pub node_eq-equivalence : IsEquivalence node_eq
node_eq-equivalence = decides_equiv node_eq node_eq-decides

pub node_hash-alike : Alike node_eq node_hash_input
node_hash-alike = same_Alike node_hash_input node_eq-decides
