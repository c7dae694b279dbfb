-- Sets in a total order. A set is kept as the list of its items, each once, ascending.
use Rattle.std.specs.Prelude.{List, [], ◌∷◌}
use Rattle.std.specs.declared.cmp.Ordering.{Ordering}
use Rattle.std.specs.declared.cmp.Ordering.TheVariants.{Less, Equal, Greater}

-- the list `first ∷ rest` with one more item, whose comparison with `first` is given; `placed` is `rest` with the item
abbrev pub place_item : {K : Type 0} → Ordering → K → K → List K → List K → List K
place_item Less item first rest placed = item ∷ first ∷ rest
place_item Equal item first rest placed = first ∷ rest
place_item Greater item first rest placed = first ∷ placed

-- the set with one more item
unfoldable pub with_item : {K : Type 0} → (K → K → Ordering) → K → List K → List K
with_item R item [] = item ∷ []
with_item R item (first ∷ rest) = place_item (R item first) item first rest (with_item R item rest)

-- the set of the items of a list
unfoldable pub set_of : {K : Type 0} → (K → K → Ordering) → List K → List K
set_of R [] = []
set_of R (item ∷ items) = with_item R item (set_of R items)
