-- Of objects for the parameters of a table there are those that are left for an edited table.
use Rattle.std.specs.Prelude.{◌≡◌, ◌<◌, ℕ, true, List, [], ◌∷◌, map, filter, length, slice_index, Contains}
use Rattle.std.proofs.Common.{refl, sym, ap, ◌∙◌}
use Rattle.px_base.specs.ListLaws.{Contains-filter, Contains-first, Contains-later}
use Rattle.px_terms.specs.declared.problem.Problem.{Problem}
use Rattle.px_terms.specs.declared.term.Term.{Term}
use Rattle.px_terms.specs.declared.term.Term.TheVariants.{Obj, Var, Any as WildCard}
use Rattle.px_terms.specs.Language.{substitute}
use Rattle.px_terms.specs.Order.{term_eq}
use Rattle.px_terms.specs.SortLaws.{object_at}
use Rattle.px_table.specs.declared.table.Table.{Table}
use Rattle.px_table.specs.Kernels.{IsInstantiation}
use Rattle.px_table.specs.OnceLaws.{Contains-from_each_once}
use Rattle.px_table.specs.Parameters.{is_parameter}
use Rattle.px_edit.specs.EditClaims.{AreObjectsLeft}
use Rattle.px_edit.specs.Editing.{kept_rows, kept_steps, left_parameters, terms_of_parts, wanted_atoms}
use Rattle.px_edit.proofs.Alike.{below-by}

object-by : (sigma : List ℕ) (t : Term) → is_parameter (length sigma) t ≡ true → (n : ℕ) × (Obj n ≡ substitute (map Obj sigma) t)
object-by sigma (Obj m) not_one = absurd (cc)
object-by sigma (Var v) one = (slice_index sigma v, sym (object_at sigma v (below-by v (length sigma) one)))
object-by sigma WildCard not_one = absurd (cc)

objects-of : (sigma : List ℕ) (terms : List Term) → ((t : Term) → Contains terms t → is_parameter (length sigma) t ≡ true)
    → (left : List ℕ) × (map Obj left ≡ map (substitute (map Obj sigma)) terms)
objects-of sigma [] are = ([], refl)
objects-of sigma (t ∷ terms) are =
    let one = object-by sigma t (are t (Contains-first t terms)) in
    let rest = objects-of sigma terms (λ u has. are u (Contains-later t terms u has)) in
    (one.0 ∷ rest.0, λ i. one.1 i ∷ rest.1 i)

pub objects-left : (problem : Problem) (table : Table) (wanted : List (ℕ × ℕ)) (kept sigma : List ℕ) → IsInstantiation problem table sigma
    → (left : List ℕ) × AreObjectsLeft problem table wanted kept sigma left
objects-left problem table wanted kept sigma given =
    objects-of sigma (left_parameters problem table wanted kept) (λ t has. ap (λ n. is_parameter n t) given.count ∙ is_one t has)
  where
    terms : List Term
    terms = terms_of_parts (kept_steps table kept) (wanted_atoms problem table wanted) (kept_rows problem table wanted kept)

    is_one : (t : Term) → Contains (left_parameters problem table wanted kept) t → is_parameter table.params t ≡ true
    is_one t has =
        let inside =
        (Contains-filter (is_parameter table.params) terms t).0
        (Contains-from_each_once term_eq (filter (is_parameter table.params) terms) t has) in
        inside.1
