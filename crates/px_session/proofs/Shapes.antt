-- The general table of a plan has as many steps as the plan, and proofs as high.
use Rattle.std.specs.Prelude.{◌≡◌, ◌+◌, ◌<◌, List, [], ◌∷◌, map, length, Any}
use Rattle.std.proofs.Common.{zero, suc, refl, sym, ap, ◌∙◌, subst, arith}
use Rattle.std.proofs.lemmas.List.{length-map}
use Rattle.px_table.specs.Limits.{most_steps}
use Rattle.px_terms.specs.declared.problem.Problem.{Problem}
use Rattle.px_terms.specs.declared.term.Term.{Term}
use Rattle.px_terms.specs.declared.term.Term.TheVariants.{Obj}
use Rattle.px_proof.specs.Derivation.{Derivation, Derivations, fact, ancestor, step, gap, open_place, none, also, greatest_height, height, skeleton, skeletons}
use Rattle.px_proof.specs.Substitution.{derivation_under}
use Rattle.px_proof.specs.SubstitutionLaws.{skeleton-under}
use Rattle.px_table.specs.declared.table.Table.{Table}
use Rattle.px_table.specs.Kernels.{IsProper, instance_under}
use Rattle.px_table.specs.Tables.{IsTable, rows_of}
use Rattle.px_general.specs.General.{Generalises}
use Rattle.px_general.specs.Limits.{IsTooDeep, IsTooLong}
use Rattle.px_general.proofs.Instances.{has_instance}

-- ---- heights

mutual
  height-skeleton : (d : Derivation) → height (skeleton d) ≡ height d
  height-skeleton (fact leaf) = refl
  height-skeleton (ancestor i) = refl
  height-skeleton (step number theta place parts) = ap (λ n. 1 + n) (heights-skeletons parts)
  height-skeleton (gap atom) = refl
  height-skeleton open_place = refl

  heights-skeletons : (ds : Derivations) → greatest_height (skeletons ds) ≡ greatest_height ds
  heights-skeletons none = refl
  heights-skeletons (also d ds) = rw (height-skeleton d, heights-skeletons ds) refl

same-height : (d e : Derivation) → skeleton d ≡ skeleton e → height d ≡ height e
same-height d e same = sym (height-skeleton d) ∙ ap height same ∙ height-skeleton e

-- ---- lists

same-first : {A : Type 0} (x y : A) (xs ys : List A) → x ∷ xs ≡ y ∷ ys → x ≡ y
same-first x y xs ys e = cc

same-rest : {A : Type 0} (x y : A) (xs ys : List A) → x ∷ xs ≡ y ∷ ys → xs ≡ ys
same-rest x y xs ys e = cc

-- some item of a list is such, and the lists look alike item by item: so is some item of the other
any-alike : {A B : Type 0} (look : A → B) (P : A → Type 0) → ((a b : A) → look a ≡ look b → P a → P b) → (xs ys : List A)
    → map look xs ≡ map look ys → Any P xs → Any P ys
any-alike look P goes [] ys e (k, z, below, is, p) = absurd (omega (arith, below))
any-alike look P goes (x ∷ xs) [] e any = absurd (cc)
any-alike look P goes (x ∷ xs) (y ∷ ys) e (zero, z, below, is, p) =
    (0, y, omega arith, refl, goes x y (same-first (look x) (look y) (map look xs) (map look ys) e) (subst P (sym is) p))
any-alike look P goes (x ∷ xs) (y ∷ ys) e (suc k, z, below, is, p) =
    let r = any-alike look P goes xs ys (same-rest (look x) (look y) (map look xs) (map look ys) e) (k, z, omega (arith, below), is, p) in
    (suc r.0, r.1, omega (arith, r.2), r.3, r.4)

high-alike : (d e : Derivation) → skeleton d ≡ skeleton e → 56 < height d → 56 < height e
high-alike d e same high = subst (λ n. 56 < n) (same-height d e same) high

row-alike : (row other : List Derivation) → map skeleton row ≡ map skeleton other → Any (λ d. 56 < height d) row
    → Any (λ d. 56 < height d) other
row-alike row other same any = any-alike skeleton (λ d. 56 < height d) high-alike row other same any

-- ---- the general table

row-under : (objects : List Term) (row : List Derivation) → map skeleton (map (derivation_under objects) row) ≡ map skeleton row
row-under objects [] = refl
row-under objects (d ∷ row) = let one = skeleton-under objects d in let rest = row-under objects row in λ i. one i ∷ rest i

rows-under : (objects : List Term) (rows : List (List Derivation))
    → map (map skeleton) (map (map (derivation_under objects)) rows) ≡ map (map skeleton) rows
rows-under objects [] = refl
rows-under objects (row ∷ rows) = let one = row-under objects row in let rest = rows-under objects rows in λ i. one i ∷ rest i

pub record IsAlike (plan general : Table) : Type 0 where
  pub steps : length general.steps ≡ length plan.steps
  pub rows : map (map skeleton) (rows_of general.proofs) ≡ map (map skeleton) (rows_of plan.proofs)

pub general-alike : (problem : Problem) (plan general : Table) → IsTable problem plan → plan.params ≡ 0 → IsProper problem plan [] 1
    → Generalises problem plan general → IsAlike plan general
general-alike problem plan general is_table no_params proper is =
    let own = has_instance problem plan is_table no_params proper general is in
    record {
      steps =
          sym (length-map general.steps (instance_under own.0)) ∙ sym (ap length own.1.steps_are)
          ∙ length-map plan.steps (instance_under []);
      rows =
          sym (rows-under (map Obj own.0) (rows_of general.proofs)) ∙ ap (map (map skeleton)) (sym own.1.rows_are)
          ∙ rows-under [] (rows_of plan.proofs);
    }

pub general-short : (plan general : Table) → IsAlike plan general → ¬ IsTooLong plan → ¬ IsTooLong general
general-short plan general are short long = short (subst (λ n. most_steps < n) are.steps long)

pub general-low : (plan general : Table) → IsAlike plan general → ¬ IsTooDeep plan → ¬ IsTooDeep general
general-low plan general are low deep =
    low (any-alike (map skeleton) (Any (λ d. 56 < height d)) row-alike (rows_of general.proofs) (rows_of plan.proofs) are.rows deep)
