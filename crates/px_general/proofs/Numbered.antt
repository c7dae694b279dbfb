-- Numbering by first occurrence settles how parameters are renamed.
use Rattle.std.specs.Prelude.{◌≡◌, ◌+◌, ◌<◌, ◌≤◌, ℕ, List, map, length, filter, Contains}
use Rattle.std.proofs.Common.{sym, ap, ◌∙◌, subst, arith}
use Rattle.std.proofs.lemmas.List.{length-map}
use Rattle.px_base.specs.ListLaws.{Contains-filter}
use Rattle.px_terms.specs.declared.term.Term.{Term}
use Rattle.px_terms.specs.declared.term.Term.TheVariants.{Var}
use Rattle.px_terms.specs.Order.{term_eq}
use Rattle.px_terms.specs.OrderLaws.{term_eq-decides}
use Rattle.px_table.specs.Once.{each_once}
use Rattle.px_table.specs.OnceLaws.{Contains-from_each_once}
use Rattle.px_terms.specs.Substitution.{variables_from}
use Rattle.px_table.specs.Supports.{variables}
use Rattle.px_terms.proofs.VariableLemmas.{length-variables}
use Rattle.px_general.specs.General.{is_parameter}
use Rattle.px_general.proofs.Marked.{filter-by, each_once-by}
use Rattle.px_general.proofs.Reading.{item-left, variables-have}

-- a map that makes variables of variables in order leaves each
variable-left : (f : Term → Term) (first count : ℕ) → map f (variables_from first count) ≡ variables_from first count → (v : ℕ) → first ≤ v
    → v < first + count → f (Var v) ≡ Var v
variable-left f first count same v low high = item-left f (variables_from first count) same (Var v) (variables-have first count v low high)

-- Where the terms of the second list are those of the first, renamed so that parameters are parameters and none two are one, and both
-- lists number their parameters as they occur, there are as many and each keeps its number.
pub numbers-stay : (f : Term → Term) (params others : ℕ) (ts : List Term)
    → ((t : Term) → Contains ts t → is_parameter others (f t) ≡ is_parameter params t)
    → ((t u : Term) → Contains ts t → Contains ts u → f t ≡ f u → t ≡ u)
    → each_once term_eq (filter (is_parameter params) ts) ≡ variables params
    → each_once term_eq (filter (is_parameter others) (map f ts)) ≡ variables others
    → (params ≡ others) × ((v : ℕ) → v < params → f (Var v) ≡ Var v)
numbers-stay f params others ts alike apart numbered renumbered =
    let mapped : map f (variables params) ≡ variables others =
    ap (map f) (sym numbered)
    ∙ sym (each_once-by f term_eq term_eq term_eq-decides term_eq-decides (filter (is_parameter params) ts)
    (λ t u has there. apart t u ((Contains-filter (is_parameter params) ts t).0 has).0
    ((Contains-filter (is_parameter params) ts u).0 there).0))
    ∙ ap (each_once term_eq) (sym (filter-by f (is_parameter others) (is_parameter params) ts alike))
    ∙ renumbered in
    let long = ap length mapped in
    let same : params ≡ others =
    omega (arith, long, length-map (variables params) f, length-variables 0 params, length-variables 0 others) in
    (same, λ v below. variable-left f 0 params (mapped ∙ ap variables (sym same)) v (omega arith) (omega (arith, below)))

-- each parameter of a numbered list occurs in it
pub parameter-occurs : (params : ℕ) (ts : List Term) → each_once term_eq (filter (is_parameter params) ts) ≡ variables params → (v : ℕ)
    → v < params → Contains ts (Var v)
parameter-occurs params ts numbered v below =
    let once : Contains (each_once term_eq (filter (is_parameter params) ts)) (Var v) =
    subst (λ (l : List Term). Contains l (Var v)) (sym numbered) (variables-have 0 params v (omega arith) (omega (arith, below))) in
    ((Contains-filter (is_parameter params) ts (Var v)).0
    (Contains-from_each_once term_eq (filter (is_parameter params) ts) (Var v) once)).0
