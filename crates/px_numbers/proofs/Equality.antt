-- The `==` of pairs of numbers, and of lists of numbers, is equality.
use Rattle.std.proofs.Common.{◌≡◌, Bool}
use Rattle.std.proofs.lemmas.Bool.Decides.{Decides-and, Decides-eqb, Decides-like}
use Rattle.std.specs.Bool.{Decides}
use Rattle.px_numbers.specs.contracts.nodes.NodeKeyPartialEq.TheImpl as node_equality
use Rattle.px_numbers.specs.contracts.stacks.FramePartialEq.TheImpl as frame_equality
use Rattle.px_numbers.specs.declared.nodes.NodeKey.{NodeKey}
use Rattle.px_numbers.specs.declared.stacks.Frame.{Frame}

abbrev pub frame_eq : Frame → Frame → Bool
frame_eq = (frame_equality.ghosts).eq

abbrev pub node_eq : NodeKey → NodeKey → Bool
node_eq = (node_equality.ghosts).eq

pub frame_eq-decides : (a b : Frame) → Decides (frame_eq a b) (a ≡ b)
frame_eq-decides a b =
    Decides-like _ (λ e i. record { entry = e.0 i; below = e.1 i }) (λ e. ((λ i. (e i).entry), (λ i. (e i).below)))
    (Decides-and _ _ (Decides-eqb a.entry b.entry) (Decides-eqb a.below b.below))

pub node_eq-decides : (a b : NodeKey) → Decides (node_eq a b) (a ≡ b)
node_eq-decides a b =
    Decides-like _ (λ e i. record { model = e.0 i; stack = e.1 i }) (λ e. ((λ i. (e i).model), (λ i. (e i).stack)))
    (Decides-and _ _ (Decides-eqb a.model b.model) (Decides-eqb a.stack b.stack))
