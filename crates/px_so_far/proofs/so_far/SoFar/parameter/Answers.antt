use Rattle.px_so_far.proofs.Common.{sym, ◌∙◌, bytes_eq, string_bytes, position-map}
use Rattle.px_so_far.proofs.so_far.SoFar.parameter.Goals as goal

pub returns-clause-number : goal.returns-clause-number
returns-clause-number c = rw c.in_ok-operator.ensures ((rw c.deref.ensures.value at c.place_of.ensures.number)
    ∙ sym (position-map (bytes_eq c.args.name.now) string_bytes c.in_ok-operator.operator.now.parameters.items))
