use Rattle.px_proof.proofs.Inside.{as_many}
use Rattle.px_proof.proofs.traversal.+same_shape.Goals as goal

pub have_same_shapes-returns-then-a-b : goal.have_same_shapes-returns-then-a-b
have_same_shapes-returns-then-a-b t c = (λ yes. cc, λ same. absurd (c.if-a-b.true (as_many c.args.a.now c.args.b.now same)))
