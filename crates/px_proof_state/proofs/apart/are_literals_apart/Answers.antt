use Rattle.std.proofs.Common.{ap}
use Rattle.px_terms.specs.declared.clause.Lit.{Lit}
use Rattle.px_proof_state.proofs.apart.are_literals_apart.Goals as goal

pub returns-else-a-b : goal.returns-else-a-b
returns-else-a-b c = λ is_apart sigma tau same. c.are_apart.ensures is_apart sigma tau (ap (λ (l : Lit). l.atom) same)
