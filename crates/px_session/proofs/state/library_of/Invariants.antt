-- What the loop of `library_of` of src/state.rt keeps.
use Rattle.std.proofs.Common.{◌≡◌}
use Rattle.std.specs.Prelude.{◌++◌}
use Rattle.px_session.specs.Sessions.{tables_by_name}
use Rattle.px_session.proofs.state.library_of.Given as goal

abbrev pub invariant-loop-name : goal.invariant-loop-name
invariant-loop-name l = (l.library ≡ tables_by_name l.yielded) × (l.yielded ++ l.name-iterator.rest.items ≡ l.fn.saved)
