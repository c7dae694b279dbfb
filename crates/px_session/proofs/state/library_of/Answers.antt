use Rattle.std.specs.Prelude.{Contains}
use Rattle.std.proofs.Common.{refl, sym, ap, ◌∙◌, subst}
use Rattle.px_library.specs.Libraries.{LibraryValue, with_table}
use Rattle.px_session.proofs.Opening.{more-whole, name-new, named-more, none-left}
use Rattle.px_session.proofs.state.library_of.Goals as goal

pub loop-name-init : goal.loop-name-init
loop-name-init c = (c.new-library.ensures, c.into_iter-name-iterator.ensures.into_iter_gives.0 ∙ c.into_vec-name-items.ensures)

pub loop-name-preserved : goal.loop-name-preserved
loop-name-preserved c = (
  c.in-Ok.ensures.learned
      ∙ ap (λ (library : LibraryValue). with_table library c.in-Some.name c.in-Some.table) c.loop-name.invariant.0
      ∙ sym (named-more c.loop-name.yielded (c.in-Some.name, c.in-Some.table)),
  more-whole c.args.saved c.loop-name.yielded c.loop-name.name-iterator.rest.items c.next.new.self.rest.items
      (c.in-Some.name, c.in-Some.table) c.loop-name.invariant.1 c.in-Some.ensures.steps.0,
)

pub unreachable-requires : goal.unreachable-requires
unreachable-requires c =
    name-new c.args.saved c.loop-name.yielded c.loop-name.name-iterator.rest.items c.next.new.self.rest.items
    (c.in-Some.name, c.in-Some.table) c.loop-name.invariant.1 c.in-Some.ensures.steps.0 c.requires.once
    (subst (λ (library : LibraryValue). Contains library.names c.in-Some.name) c.loop-name.invariant.0
    ((rw c.in-Err-Duplicate.field-0-is at c.in-Err-Duplicate.ensures.duplicate).0 refl))

pub returns : goal.returns
returns c =
    c.loop-name.invariant.0
    ∙ none-left c.args.saved c.loop-name.yielded c.loop-name.name-iterator.rest.items c.loop-name.invariant.1
    (sym c.loop-name.name-iterator.rest.ok.0 ∙ c.in-None.ensures.steps.0)
