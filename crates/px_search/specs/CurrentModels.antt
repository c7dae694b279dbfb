-- What a search keeps of the model that it looks at.
use Rattle.std.specs.Prelude.{ℕ, IfSome, take}
use Rattle.px_table.specs.declared.node.Node.{Node}
use Rattle.px_numbers.specs.Numbers.{Kept, IsModelAt}
use Rattle.px_ends.specs.Tasks.{Task}
use Rattle.px_search.specs.Cache.{IsTopAt}
use Rattle.px_search.specs.Offers.{IsPartAt}
use Rattle.px_search.specs.declared.moves.Here.{Here}
use Rattle.px_search.specs.declared.current.CurrentModel.{CurrentModel}

-- the current model is the one with the number
pub record IsCurrentAt (task : Task) (kept : Kept) (number : ℕ) (current : CurrentModel) : Type 0 where
  pub model_at : IsModelAt kept number current.model.atoms
  pub part_at : IsPartAt task kept current.part current.model.atoms

-- what is kept of the current model is that of the model with its number
abbrev pub IsCurrent : Task → Kept → CurrentModel → Type 0
IsCurrent task kept current = IfSome current.number (λ number. IsCurrentAt task kept number current)

-- the node, and the one that has only its top entry on the stack
abbrev pub node_here : Here → Node
node_here here = record { model = here.current.now.model.atoms; stack = here.stack.now }

abbrev pub alone_here : Here → Node
alone_here here = record { model = here.current.now.model.atoms; stack = take 1 here.stack.now }

-- the top entry stands at the place, over the stack of that number, in the current model
pub record IsHere (task : Task) (kept : Kept) (here : Here) : Type 0 where
  pub top : IsTopAt kept here.place here.below here.current.now.model.atoms here.stack.now
  pub part : IsPartAt task kept here.current.now.part here.current.now.model.atoms
