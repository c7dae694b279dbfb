-- The first tokens of a line, one after another.
use Rattle.std.proofs.lemmas.List.{drop_more}
use Rattle.px_lines.proofs.Common.{◌≡◌, ℕ, ◌+◌, ◌<◌, ◌≤◌, List, [], ◌∷◌, ◌++◌, map, length, get_or, drop, refl, sym, ap, ◌∙◌, append_assoc, append-nil, map-append, drop_all, Option, None, Some, option_map, option_and_then, Lexeme, ones_front}
use Rattle.px_script.specs.Items as items
use Rattle.px_script.specs.declared.kinds.One.{One}
use Rattle.px_script.specs.Rows.{one_of, ones_at}
use Rattle.px_lines.specs.ItemViews.{said_view}
use Rattle.px_lines.specs.declared.items.Said.{Said}
use Rattle.px_lines.proofs.Walks.{in_front}

-- what the rest leads to, by what the first token is
abbrev then_first : Option items.Item → Option (List items.Item × List Lexeme) → Option (List items.Item × List Lexeme)
then_first first rest = option_and_then (λ item. option_map (λ r. (item ∷ r.0, r.1)) rest) first

prefix-more : (got : List items.Item) (x : items.Item) (found : Option (List items.Item × List Lexeme))
    → in_front got (option_map (λ r. (x ∷ r.0, r.1)) found) ≡ in_front (got ++ x ∷ []) found
prefix-more got x None = refl
prefix-more got x (Some r) = ap (λ t. Some (t, r.1)) (sym (append_assoc got (x ∷ []) r.0))

-- one token more
prefix-step : (o : One) (ones : List One) (x : Lexeme) (xs : List Lexeme)
    → ones_front (o ∷ ones) (x ∷ xs) ≡ then_first (one_of o x) (ones_front ones xs)
prefix-step o ones x xs = each (one_of o x) (ones_at ones xs)
  where
    each : (first : Option items.Item) (found : Option (List items.Item))
        → option_map (λ is. (is, drop (length ones) xs)) (option_and_then (λ item. option_map (λ is. item ∷ is) found) first)
        ≡ then_first first (option_map (λ is. (is, drop (length ones) xs)) found)
    each None found = refl
    each (Some item) None = refl
    each (Some item) (Some is) = refl

module _ (ones : List One) (all xs : List Lexeme) (i : ℕ) (got : List Said) (below : i < length ones) (d : One)
    (whole : ones_front ones all ≡ in_front (map said_view got) (ones_front (drop i ones) xs)) where
  here : ones_front ones all ≡ in_front (map said_view got) (ones_front (get_or ones i d ∷ drop (i + 1) ones) xs)
  here = whole ∙ ap (λ o. in_front (map said_view got) (ones_front o xs)) (drop_more ones i d below)

  -- the text ends too early
  pub ones-ended : xs ≡ [] → None ≡ ones_front ones all
  ones-ended is = sym (here ∙ ap (λ t. in_front (map said_view got) (ones_front (get_or ones i d ∷ drop (i + 1) ones) t)) is)

  module _ (x : Lexeme) (more : List Lexeme) (is : xs ≡ x ∷ more) where
    step : ones_front ones all ≡ in_front (map said_view got) (then_first (one_of (get_or ones i d) x) (ones_front (drop (i + 1) ones) more))
    step = here ∙ ap (λ t. in_front (map said_view got) (ones_front (get_or ones i d ∷ drop (i + 1) ones) t)) is
        ∙ ap (in_front (map said_view got)) (prefix-step (get_or ones i d) (drop (i + 1) ones) x more)

    pub ones-more : (thing : Said) (new : List Said) → Some (said_view thing) ≡ one_of (get_or ones i d) x → new ≡ got ++ thing ∷ []
        → ones_front ones all ≡ in_front (map said_view new) (ones_front (drop (i + 1) ones) more)
    ones-more thing new one new_is = step
        ∙ ap (λ f. in_front (map said_view got) (then_first f (ones_front (drop (i + 1) ones) more))) (sym one)
        ∙ prefix-more (map said_view got) (said_view thing) (ones_front (drop (i + 1) ones) more)
        ∙ ap (λ t. in_front t (ones_front (drop (i + 1) ones) more)) (sym (ap (map said_view) new_is ∙ map-append said_view got (thing ∷ [])))

pub ones-end : (ones : List One) (all xs : List Lexeme) (i : ℕ) (got : List Said) → length ones ≤ i
    → ones_front ones all ≡ in_front (map said_view got) (ones_front (drop i ones) xs) → Some (map said_view got, xs) ≡ ones_front ones all
ones-end ones all xs i got past whole = sym (whole ∙ ap (λ o. in_front (map said_view got) (ones_front o xs)) (drop_all i ones past)
    ∙ ap (λ t. Some (t, xs)) (append-nil (map said_view got)))
