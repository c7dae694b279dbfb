use Rattle.std.proofs.Common.{◌≡◌, ◌∙◌}
use Rattle.px_numbers.specs.NumberLaws.{one_model}
use Rattle.px_numbers.proofs.making.node_at.Goals as goal

pub returns : goal.returns
returns c = λ node stands.
    let models = one_model c.args.numbers.now c.args.key.model c.in_ok-model.model.atoms node.model c.in_ok-model.ensures stands.model in
    let stacks : c.from_vec.result ≡ node.stack = c.from_vec.ensures ∙ c.in_ok-stack.ensures node.stack stands.stack in
    c.new.ensures ∙ (λ i. record { model = models i; stack = stacks i })
