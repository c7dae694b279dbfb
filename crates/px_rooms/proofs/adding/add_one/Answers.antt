use Rattle.std.proofs.Common.{ap, ◌∙◌}
use Rattle.std.proofs.lemmas.Bool.{eq-eqb}
use Rattle.px_terms.specs.AtomSets.{with_atom}
use Rattle.px_rooms.proofs.Sensing.{one-added}
use Rattle.px_rooms.proofs.adding.add_one.Goals as goal

pub returns-then-kind-pred-clause-atoms : goal.returns-then-kind-pred-clause-atoms
returns-then-kind-pred-clause-atoms c =
    one-added c.args.pred (record { pred = c.args.kind; args = c.args.args.now }) c.args.into.now.atoms c.insert_spare.new.self.atoms
    (eq-eqb c.args.kind c.args.pred c.if-kind-pred.true)
    (c.insert_spare.ensures.atoms ∙ ap (λ a. with_atom a c.args.into.now.atoms) c.of.ensures)
