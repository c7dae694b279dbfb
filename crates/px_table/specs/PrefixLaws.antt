-- The first steps of a table, with objects for the parameters that they use, are instances of the problem's operators.
use Rattle.std.specs.Prelude.{◌≡◌, ◌↔◌, ◌<◌, ℕ, List, [], ◌∷◌, length, map, take, slice_index, All, Contains}
use Rattle.std.proofs.Common.{zero, suc, sym, ◌∙◌, subst, inl, inr, arith}
use Rattle.std.proofs.lemmas.List.{length-map, take-map}
use Rattle.std.proofs.lemmas.List.Elements.{All-map}
use Rattle.px_base.specs.ListLaws.{All-at, All-each, Contains-cases, Contains-first, Contains-later, Contains-none}
use Rattle.px_terms.specs.declared.instance.OpInst.{OpInst}
use Rattle.px_terms.specs.declared.problem.Problem.{Problem}
use Rattle.px_terms.specs.declared.term.Term.{Term}
use Rattle.px_terms.specs.declared.term.Term.TheVariants.{Obj, Var, Any}
use Rattle.px_terms.specs.Language.{substitute}
use Rattle.px_terms.specs.SortLaws.{object_at}
use Rattle.px_terms.specs.Validity.{IsInstanceOf, IsTermOf}
use Rattle.px_proof.specs.PlaceLaws.{Contains-mapped}
use Rattle.px_table.specs.declared.table.Table.{Table}
use Rattle.px_table.specs.KernelLaws.{Contains-from_map}
use Rattle.px_table.specs.Kernels.{instance_under, steps_under}
use Rattle.px_table.specs.Prefixes.{IsUsed}
use Rattle.px_table.specs.Tables.{IsStepOf}

used-first : (table : Table) (prefix v : ℕ) (inst : OpInst) → Contains (take prefix table.steps) inst → Contains inst.args (Var v)
    → IsUsed table prefix v
used-first table prefix v inst has inside = inl (has.0, inst, has.1, has.2, inside)

among-taken : {X : Type 0} (n : ℕ) (xs : List X) (x : X) → Contains (take n xs) x → Contains xs x
among-taken zero xs x has = absurd (Contains-none x has)
among-taken (suc n) [] x has = absurd (Contains-none x has)
among-taken (suc n) (y ∷ xs) x has = elim (Contains-cases y (take n xs) x has) [
  | inl here ↦ subst (λ (z : _). Contains (y ∷ xs) z) here (Contains-first y xs)
  | inr later ↦ Contains-later y xs x (among-taken n xs x later)
]

-- what holds of the instance of each of the first steps holds of each of the first instances
pub each-under : (P : OpInst → Type 0) (table : Table) (prefix : ℕ) (sigma : List ℕ)
    → All (λ (inst : OpInst). P (instance_under sigma inst)) (take prefix table.steps) ↔ All P (take prefix (steps_under table sigma))
each-under P table prefix sigma =
    rw (take-map (instance_under sigma) prefix table.steps) (
      All-map P (instance_under sigma) (take prefix table.steps),
      λ all.
          All-each (λ (inst : OpInst). P (instance_under sigma inst)) (take prefix table.steps) (λ inst has.
          All-at P (map (instance_under sigma) (take prefix table.steps)) (instance_under sigma inst) all
          (Contains-mapped (instance_under sigma) (take prefix table.steps) inst has)),
    )

module _ (problem : Problem) (table : Table) (prefix : ℕ) (sigma : List ℕ) (steps : All (IsStepOf problem table.params) table.steps)
    (count : length sigma ≡ table.params)
    (used : (v : ℕ) → v < table.params → IsUsed table prefix v → slice_index sigma v < problem.objects) where
  term-instance : (inst : OpInst) → Contains (take prefix table.steps) inst → (t : Term) → IsTermOf problem table.params t
      → Contains inst.args t → IsTermOf problem 0 (substitute (map Obj sigma) t)
  term-instance inst has (Obj n) of inside = of
  term-instance inst has (Var v) of inside =
      subst (IsTermOf problem 0) (sym (object_at sigma v (omega (arith, of, count))))
      (used v of (used-first table prefix v inst has inside))
  term-instance inst has Any of inside = absurd of

  step-instance : (inst : OpInst) → Contains (take prefix table.steps) inst → IsInstanceOf problem (instance_under sigma inst)
  step-instance inst has =
      let step : IsStepOf problem table.params inst =
      All-at (IsStepOf problem table.params) table.steps inst steps (among-taken prefix table.steps inst has) in
      record {
        op = step.op;
        count = length-map inst.args (substitute (map Obj sigma)) ∙ step.count;
        objects = All-each (IsTermOf problem 0) (map (substitute (map Obj sigma)) inst.args) (λ t there.
            let from = Contains-from_map (substitute (map Obj sigma)) inst.args t there in
            subst (IsTermOf problem 0) from.2 (term-instance inst has from.0
            (All-at (IsTermOf problem table.params) inst.args from.0 step.terms from.1) from.1));
      }

  pub each-instance : All (λ (inst : OpInst). IsInstanceOf problem (instance_under sigma inst)) (take prefix table.steps)
  each-instance = All-each (λ (inst : OpInst). IsInstanceOf problem (instance_under sigma inst)) (take prefix table.steps) step-instance

  pub prefix-instances : All (IsInstanceOf problem) (take prefix (steps_under table sigma))
  prefix-instances = (each-under (IsInstanceOf problem) table prefix sigma).0 each-instance
