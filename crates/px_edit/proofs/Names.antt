-- The names of the parameters that are left.
use Rattle.std.specs.Prelude.{◌≡◌, ◌≢◌, ◌+◌, ◌<◌, ◌≤◌, ℕ, Bool, true, false, cond, nat_lt, not, ◌||◌, Some, List, [], ◌∷◌, ◌++◌, map, length, filter, slice_get, slice_index_or, set, Contains}
use Rattle.std.specs.List.{list_any}
use Rattle.std.proofs.Common.{zero, suc, refl, sym, ap, ◌∙◌, subst, inl, inr, arith, append-nil, length-append}
use Rattle.std.proofs.lemmas.Bool.Decides.{nat_tests}
use Rattle.std.proofs.lemmas.List.{length-map}
use Rattle.std.proofs.lemmas.List.Elements.{filter-append}
use Rattle.px_base.specs.Answers.{some_same}
use Rattle.px_base.specs.ListLaws.{Contains-none, Contains-cases, Contains-filter}
use Rattle.px_proof.specs.PlaceLaws.{slice_get-within}
use Rattle.px_terms.specs.declared.term.Term.{Term}
use Rattle.px_terms.specs.declared.term.Term.TheVariants.{Obj, Var, Any as WildCard}
use Rattle.px_terms.specs.Language.{substitute}
use Rattle.px_terms.specs.Order.{term_eq}
use Rattle.px_terms.specs.OrderLaws.{term_eq-decides}
use Rattle.px_terms.specs.Substitution.{variables_from}
use Rattle.px_terms.proofs.VariableLemmas.{length-variables}
use Rattle.px_table.specs.Once.{each_once, put_once}
use Rattle.px_table.specs.OnceLaws.{Contains-each_once, each_once-push}
use Rattle.px_table.specs.Parameters.{is_parameter}
use Rattle.px_table.specs.Supports.{variables}
use Rattle.px_edit.specs.Editing.{names_by, parameters_in, place_name}
use Rattle.px_edit.proofs.Lists.{read-map}

-- ---- the place of a term

-- the term stands at a place of the list, by which it is named
pub record IsNamedAt (first : ℕ) (left : List Term) (t name : Term) : Type 0 where
  pub place : ℕ
  pub at : slice_get left place ≡ Some t
  pub name_is : name ≡ Var (first + place)

pub place_name-at : (first : ℕ) (left : List Term) (t : Term) → Contains left t → IsNamedAt first left t (place_name first left t)
place_name-at first [] t has = absurd (Contains-none t has)
place_name-at first (x ∷ left) t has =
    elim (term_eq x t) as
    (λ b. term_eq x t ≡ b → IsNamedAt first (x ∷ left) t (cond b (Var first) (place_name (suc first) left t))) [
      | true ↦ λ is. record { place = 0; at = ap Some ((term_eq-decides x t).0 is); name_is = ap Var (omega arith) }
      | false ↦ λ other. elim (Contains-cases x left t has) [
        | inl is ↦ absurd (apart (term_eq x t) ((term_eq-decides x t).1 is) other)
        | inr later ↦
            let rest = place_name-at (suc first) left t later in
            record { place = suc rest.place; at = rest.at; name_is = rest.name_is ∙ ap Var (omega arith) }
      ]
    ] refl
  where
    apart : (b : Bool) → b ≡ true → ¬ (b ≡ false)
    apart b one other = cc

-- ---- reading the names

pub read-variable : (first count k : ℕ) → k < count → slice_index_or (variables_from first count) k WildCard ≡ Var (first + k)
read-variable first zero k below = absurd (omega (arith, below))
read-variable first (suc count) zero below = ap Var (omega arith)
read-variable first (suc count) (suc k) below = read-variable (suc first) count k (omega (arith, below)) ∙ ap Var (omega arith)

pub name-of : (params : ℕ) (left : List Term) (v : ℕ) → v < params → substitute (names_by params left) (Var v) ≡ place_name 0 left (Var v)
name-of params left v below =
    read-map (place_name 0 left) (variables params) v WildCard WildCard (omega (arith, below, length-variables 0 params))
    ∙ ap (place_name 0 left) (read-variable 0 params v below ∙ ap Var (omega arith))

lt-true : (a b : ℕ) → a < b → nat_lt a b ≡ true
lt-true a b below = grind (arith, nat_tests)

lt-false : (a b : ℕ) → b ≤ a → nat_lt a b ≡ false
lt-false a b above = grind (arith, nat_tests)

-- a parameter that occurs among the terms is named by its place among those that are left
pub parameter-named : (params : ℕ) (terms : List Term) (v : ℕ) → v < params → Contains terms (Var v)
    → IsNamedAt 0 (parameters_in params terms) (Var v) (substitute (names_by params (parameters_in params terms)) (Var v))
parameter-named params terms v below has =
    let left = parameters_in params terms in
    let there : Contains left (Var v) =
    Contains-each_once term_eq term_eq-decides (filter (is_parameter params) terms) (Var v)
    ((Contains-filter (is_parameter params) terms (Var v)).1 (has, lt-true v params below)) in
    subst (IsNamedAt 0 left (Var v)) (sym (name-of params left v below)) (place_name-at 0 left (Var v) there)

-- ---- one term more

parameters-more : (params : ℕ) (terms : List Term) (t : Term) → parameters_in params (terms ++ t ∷ [])
    ≡ each_once term_eq (filter (is_parameter params) terms ++ filter (is_parameter params) (t ∷ []))
parameters-more params terms t = ap (each_once term_eq) (filter-append (is_parameter params) terms (t ∷ []))

parameters-one : (params : ℕ) (terms : List Term) (v : ℕ) → v < params
    → parameters_in params (terms ++ Var v ∷ []) ≡ put_once term_eq (parameters_in params terms) (Var v)
parameters-one params terms v below =
    parameters-more params terms (Var v)
    ∙ ap (λ b. each_once term_eq (filter (is_parameter params) terms ++ cond b (Var v ∷ []) [])) (lt-true v params below)
    ∙ each_once-push term_eq term_eq-decides (filter (is_parameter params) terms) (Var v)

-- a name that is no wild card is that of a term which is there, and a wild card that of one which isn't
named-there : (first : ℕ) (left : List Term) (t : Term) (b : Bool) → list_any (λ y. term_eq y t) left ≡ b
    → cond b (place_name first left t ≢ WildCard) (place_name first left t ≡ WildCard)
named-there first [] t true is = absurd (cc)
named-there first [] t false is = refl
named-there first (x ∷ left) t b is =
    elim (term_eq x t) as
    (λ c. (c || list_any (λ y. term_eq y t) left) ≡ b
    → cond b (cond c (Var first) (place_name (suc first) left t) ≢ WildCard) (cond c (Var first) (place_name (suc first) left t) ≡ WildCard)) [
      | true ↦ λ e. subst (λ (d : Bool). cond d (Var first ≢ WildCard) (Var first ≡ WildCard)) e (λ wrong. no_wild_card first wrong)
      | false ↦ λ e. named-there (suc first) left t b e
    ] is
  where
    no_wild_card : (n : ℕ) → ¬ (Var n ≡ WildCard)
    no_wild_card n e = cc

pub parameters-kept : (params : ℕ) (terms : List Term) (v : ℕ) → v < params → place_name 0 (parameters_in params terms) (Var v) ≢ WildCard
    → parameters_in params (terms ++ Var v ∷ []) ≡ parameters_in params terms
parameters-kept params terms v below named =
    let left = parameters_in params terms in
    parameters-one params terms v below ∙ by-test (list_any (λ y. term_eq y (Var v)) left) refl
  where
    by-test : (b : Bool) → list_any (λ y. term_eq y (Var v)) (parameters_in params terms) ≡ b
        → cond b (parameters_in params terms) (parameters_in params terms ++ Var v ∷ []) ≡ parameters_in params terms
    by-test true is = refl
    by-test false is = absurd (named (named-there 0 (parameters_in params terms) (Var v) false is))

pub parameters-new : (params : ℕ) (terms : List Term) (v : ℕ) → v < params → place_name 0 (parameters_in params terms) (Var v) ≡ WildCard
    → parameters_in params (terms ++ Var v ∷ []) ≡ parameters_in params terms ++ Var v ∷ []
parameters-new params terms v below unnamed =
    parameters-one params terms v below ∙ by-test (list_any (λ y. term_eq y (Var v)) (parameters_in params terms)) refl
  where
    by-test : (b : Bool) → list_any (λ y. term_eq y (Var v)) (parameters_in params terms) ≡ b
        → cond b (parameters_in params terms) (parameters_in params terms ++ Var v ∷ []) ≡ parameters_in params terms ++ Var v ∷ []
    by-test true is = absurd (named-there 0 (parameters_in params terms) (Var v) true is unnamed)
    by-test false is = refl

-- the name of the term that comes last, and of the others
place_name-last : (first : ℕ) (left : List Term) (t : Term) → place_name first left t ≡ WildCard
    → place_name first (left ++ t ∷ []) t ≡ Var (first + length left)
place_name-last first [] t none =
    ap (λ b. cond b (Var first) WildCard) ((term_eq-decides t t).1 refl) ∙ ap Var (omega arith)
place_name-last first (x ∷ left) t none =
    elim (term_eq x t) as
    (λ b. cond b (Var first) (place_name (suc first) left t) ≡ WildCard
    → cond b (Var first) (place_name (suc first) (left ++ t ∷ []) t) ≡ Var (first + suc (length left))) [
      | true ↦ λ wrong. absurd (cc)
      | false ↦ λ rest. place_name-last (suc first) left t rest ∙ ap Var (omega arith)
    ] none

place_name-other : (first : ℕ) (left : List Term) (t u : Term) → u ≢ t → place_name first (left ++ u ∷ []) t ≡ place_name first left t
place_name-other first [] t u other = by-test (term_eq u t) refl
  where
    by-test : (b : Bool) → term_eq u t ≡ b → cond b (Var first) WildCard ≡ WildCard
    by-test true is = absurd (other ((term_eq-decides u t).0 is))
    by-test false is = refl
place_name-other first (x ∷ left) t u other =
    ap (λ r. cond (term_eq x t) (Var first) r) (place_name-other (suc first) left t u other)

-- writing what one function has at a variable over what another has at all
set-variables : (f g : Term → Term) (first count w : ℕ) → w < count → ((v : ℕ) → v ≢ first + w → f (Var v) ≡ g (Var v))
    → set (map f (variables_from first count)) w (g (Var (first + w))) ≡ map g (variables_from first count)
set-variables f g first zero w below alike = absurd (omega (arith, below))
set-variables f g first (suc count) zero below alike =
    let number : first + 0 ≡ first = omega arith in
    ap (λ n. g (Var n) ∷ map f (variables_from (suc first) count)) number
    ∙ ap (λ l. g (Var first) ∷ l) (rest (suc first) count (λ v low. alike v (λ e. absurd (omega (arith, low, e)))))
  where
    rest : (from many : ℕ) → ((v : ℕ) → from ≤ v → f (Var v) ≡ g (Var v))
        → map f (variables_from from many) ≡ map g (variables_from from many)
    rest from zero same = refl
    rest from (suc many) same =
        let head = same from (omega arith) in
        let tail = rest (suc from) many (λ v low. same v (omega (arith, low))) in
        λ i. head i ∷ tail i
set-variables f g first (suc count) (suc w) below alike =
    let head : f (Var first) ≡ g (Var first) = alike first (λ e. absurd (omega (arith, e))) in
    let number : first + suc w ≡ suc first + w = omega arith in
    let tail =
    ap (λ n. set (map f (variables_from (suc first) count)) w (g (Var n))) number
    ∙ set-variables f g (suc first) count w (omega (arith, below)) (λ v other. alike v (λ e. other (e ∙ number))) in
    λ i. head i ∷ tail i

-- a parameter without a name gets the next one
pub names-new : (params : ℕ) (left : List Term) (v next : ℕ) → v < params → place_name 0 left (Var v) ≡ WildCard → next ≡ length left
    → set (names_by params left) v (Var next) ≡ names_by params (left ++ Var v ∷ [])
names-new params left v next below unnamed is =
    let number : 0 + v ≡ v = omega arith in
    let last : place_name 0 (left ++ Var v ∷ []) (Var v) ≡ Var next =
    place_name-last 0 left (Var v) unnamed ∙ ap Var (omega (arith, is)) in
    ap (set (names_by params left) v) (sym (ap (λ n. place_name 0 (left ++ Var v ∷ []) (Var n)) number ∙ last))
    ∙ set-variables (place_name 0 left) (place_name 0 (left ++ Var v ∷ [])) 0 params v below
    (λ w other. sym (place_name-other 0 left (Var w) (Var v) (λ e. other (sym (same_number e) ∙ sym number))))
  where
    same_number : {a b : ℕ} → Var a ≡ Var b → a ≡ b
    same_number e = cc

pub length-names : (params : ℕ) (left : List Term) → length (names_by params left) ≡ params
length-names params left = length-map (variables params) (place_name 0 left) ∙ length-variables 0 params
