-- The library of the saved tables is filled one by one.
use Rattle.std.specs.Prelude.{◌≡◌, ℕ, List, [], ◌∷◌, ◌++◌, length, map, Contains}
use Rattle.std.proofs.Common.{sym, ap, ◌∙◌, subst, arith}
use Rattle.std.proofs.lemmas.List.{append-nil, append_assoc, map-append}
use Rattle.px_base.specs.ListLaws.{Contains-first}
use Rattle.px_table.specs.declared.table.Table.{Table}
use Rattle.px_library.specs.Libraries.{with_table}
use Rattle.px_session.specs.Sessions.{tables_by_name}
use Rattle.px_session.proofs.GivenNames.{AreApart, apart-parts}

abbrev name_in : ℕ × Table → ℕ
name_in one = one.0

abbrev table_in : ℕ × Table → Table
table_in one = one.1

-- one saved table more
pub named-more : (done : List (ℕ × Table)) (one : ℕ × Table)
    → tables_by_name (done ++ one ∷ []) ≡ with_table (tables_by_name done) one.0 one.1
named-more done one =
    let names = map-append name_in done (one ∷ []) in
    let tables = map-append table_in done (one ∷ []) in
    λ i. record { names = names i; tables = tables i }

module _ (saved done items rest : List (ℕ × Table)) (one : ℕ × Table) (whole : done ++ items ≡ saved) (here : items ≡ one ∷ rest) where
  at : done ++ one ∷ rest ≡ saved
  at = ap (λ (later : List (ℕ × Table)). done ++ later) (sym here) ∙ whole

  -- it goes on with the rest
  pub more-whole : (done ++ one ∷ []) ++ rest ≡ saved
  more-whole = append_assoc done (one ∷ []) rest ∙ at

  -- its name is new
  pub name-new : AreApart (tables_by_name saved).names → ¬ Contains (tables_by_name done).names one.0
  name-new apart has =
      let names = ap (map name_in) (sym at) ∙ map-append name_in done (one ∷ rest) in
      apart-parts (map name_in done) (one.0 ∷ map name_in rest) one.0 (subst AreApart names apart) has
      (Contains-first one.0 (map name_in rest))

-- nothing is left
pub none-left : (saved done items : List (ℕ × Table)) → done ++ items ≡ saved → length items ≡ 0 → tables_by_name done ≡ tables_by_name saved
none-left saved done [] whole none = ap tables_by_name (sym (append-nil done) ∙ whole)
none-left saved done (one ∷ items) whole none = absurd (omega (arith, none))
