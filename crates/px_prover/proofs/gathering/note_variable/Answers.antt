use Rattle.std.proofs.Common.{ℕ, List, eqb, subst}
use Rattle.std.specs.Prelude.{Contains}
use Rattle.std.proofs.lemmas.Bool.Decides.{Decides-eqb}
use Rattle.std.proofs.lemmas.List.Elements.{contains_decides, Decides-contains}
use Rattle.px_prover.proofs.Noting.{variable-there, variable-new}
use Rattle.px_prover.proofs.gathering.note_variable.Goals as goal

pub returns-then-contains : goal.returns-then-contains
returns-then-contains c =
    let has : Contains c.deref.result.now c.args.variable =
    (Decides-contains c.deref.result.now c.args.variable c.contains.result
    (contains_decides eqb Decides-eqb c.deref.result.now c.args.variable c.contains.result c.contains.ensures.cases)).0
    c.if-contains.true in
    variable-there c.args.variable c.args.free.now.items (subst (λ (xs : List ℕ). Contains xs c.args.variable) c.deref.ensures.value has)

pub returns : goal.returns
returns c = variable-new c.args.variable c.args.free.now.items c.push.new.items.items c.in_ok-push.ensures.ok
