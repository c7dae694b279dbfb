-- What sorts exclude.
use Rattle.std.proofs.Common.{◌≡◌, ◌∙◌, ◌<◌, ◌+◌, ℕ, zero, suc, Some, List, [], ◌∷◌, length, map, set, slice_get, get_or, refl, ap, sym, subst, inl, inr, arith}
use Rattle.std.specs.Prelude.{All, slice_index, slice_index_or, take}
use Rattle.std.proofs.lemmas.List.{get_or-map, get_or-set_other, get_or-set_same, get_or-take, length-map, length-take-le}
use Rattle.std.proofs.lemmas.Option.{get_or_from_slice_get, slice_get_within}
use Rattle.px_base.proofs.Loops.{level_or_below}
use Rattle.px_prover.specs.Patterns.{object_under}
use Rattle.px_proof.specs.PlaceLaws.{slice_get-read}
use Rattle.px_question.specs.Answers.{object_terms}
use Rattle.px_terms.specs.Language.{IsVariableBelow, object_of, substitute}
use Rattle.px_terms.specs.Operators.{schema_of}
use Rattle.px_terms.specs.Sorts.{AreOfSorts, FitsSort, IsWellSorted, ObjectsFit}
use Rattle.px_terms.specs.declared.atom.Atom.{Atom}
use Rattle.px_terms.specs.declared.instance.OpInst.{OpInst}
use Rattle.px_terms.specs.declared.problem.Problem.{Problem}
use Rattle.px_terms.specs.declared.term.Term.{Term}
use Rattle.px_terms.specs.declared.term.Term.TheVariants.{Obj, Var, Any as Wild}
use Rattle.px_table.specs.declared.entry.Entry.{Entry}
use Rattle.px_table.specs.declared.table.Table.{Table}
use Rattle.px_table.specs.Kernels.{instance_under, steps_under}
use Rattle.px_table.specs.Prefixes.{IsMacro}
use Rattle.px_gaps.specs.Bindings.{ExtendsTerms, IsBinding, IsSlot}
use Rattle.px_gaps.proofs.Choosing.{extends-bound, term-at}
use Rattle.px_gaps.proofs.SortedChoices.{place-fits}
use Rattle.px_entries.specs.Instances.{StandsFor}
use Rattle.px_entries.specs.declared.partial.PartialInstance.{PartialInstance}
use Rattle.px_diff.specs.Gathering.{Gathers, instance_by}
use Rattle.px_diff.specs.Macros.{GathersEntries, IsMacroBefore, IsMacroBy}
use Rattle.px_diff.specs.Pushes.{IsRelevant}
use Rattle.px_diff.proofs.EntryLemmas.{entries_none, relevant_macro}
use Rattle.px_diff.proofs.GatherLemmas.{objects-next}

-- ---- places

mapped-term : (f : Term → Term) (args : List Term) (k : ℕ) → k < length args
    → slice_index_or (map f args) k Wild ≡ f (slice_index_or args k Wild)
mapped-term f [] k within = absurd (omega (arith, within))
mapped-term f (t ∷ args) zero within = refl
mapped-term f (t ∷ args) (suc k) within = mapped-term f args k (omega (arith, within))

mapped-object : (f : Term → ℕ) (args : List Term) (k : ℕ) → k < length args → slice_index (map f args) k ≡ f (slice_index_or args k Wild)
mapped-object f [] k within = absurd (omega (arith, within))
mapped-object f (t ∷ args) zero within = refl
mapped-object f (t ∷ args) (suc k) within = mapped-object f args k (omega (arith, within))

-- where an instance fits, the objects for the terms of its pattern fit
pub args-fit : (sorts wanted values : List ℕ) (args : List Term) → AreOfSorts sorts wanted (map (substitute (object_terms values)) args)
    → ObjectsFit sorts wanted (map (object_under values) args)
args-fit sorts wanted values args fits k below =
    let within : k < length args = omega (arith, below, length-map args (object_under values)) in
    subst (FitsSort sorts (slice_index wanted k))
    (ap object_of (mapped-term (substitute (object_terms values)) args k within) ∙ sym (mapped-object (object_under values) args k within))
    (fits k (omega (arith, within, length-map args (substitute (object_terms values)))))

-- what is read of the sorts and of the terms fits, too
pub read-fits : (sorts wanted read_sorts read_wanted values : List ℕ) (args read_args : List Term) → read_sorts ≡ sorts
    → read_wanted ≡ wanted → read_args ≡ args → ObjectsFit sorts wanted (map (object_under values) args)
    → ObjectsFit read_sorts read_wanted (map (object_under values) read_args)
read-fits sorts wanted read_sorts read_wanted values args read_args sorts_are wanted_are args_are fits =
    subst (λ (l : List ℕ). ObjectsFit l read_wanted (map (object_under values) read_args)) (sym sorts_are)
    (subst (λ (l : List ℕ). ObjectsFit sorts l (map (object_under values) read_args)) (sym wanted_are)
    (subst (λ (l : List Term). ObjectsFit sorts wanted (map (object_under values) l)) (sym args_are) fits))

-- ---- instances

pub partial-fits : (problem : Problem) (partial : PartialInstance) (objects : List ℕ) → IsWellSorted problem (instance_by partial objects)
    → ObjectsFit problem.object_sorts (schema_of problem partial.inst).param_sorts (map (object_under objects) partial.inst.args)
partial-fits problem partial objects =
    args-fit problem.object_sorts (schema_of problem partial.inst).param_sorts objects partial.inst.args

-- where no instance that the partial one stands for fits, nothing of it is relevant
pub gathers-unfit : (problem : Problem) (tables : List Table) (wanted : List Atom) (stack : List Entry) (model : List Atom)
    (partial : PartialInstance) (found : List OpInst)
    → ((full : OpInst) → StandsFor problem partial full → ¬ IsWellSorted problem full)
    → Gathers problem tables wanted stack model (StandsFor problem partial) found found
gathers-unfit problem tables wanted stack model partial found none = record {
  kept = λ inst there. there;
  only = λ inst there. inl there;
  all = λ inst stands p. absurd (none inst stands p.relevant.is_entry.fits);
  unlimited = λ inst stands r. absurd (none inst stands r.is_entry.fits);
}

-- ---- sorts of variables, one after the other

pub set-next : (xs objects sorts : List ℕ) (v x : ℕ) → v < length xs
    → ((k : ℕ) → k < v → FitsSort sorts (slice_index xs k) (slice_index objects k)) → FitsSort sorts x (slice_index objects v)
    → (k : ℕ) → k < v + 1 → FitsSort sorts (slice_index (set xs v x) k) (slice_index objects k)
set-next xs objects sorts v x within before here k below = elim (level_or_below k v below) [
  | inl less ↦ subst (λ (n : ℕ). FitsSort sorts n (slice_index objects k))
      (sym (get_or-set_other xs v k x 0 (λ same. omega (arith, less, same)))) (before k less)
  | inr level ↦ subst (λ (j : ℕ). FitsSort sorts (slice_index (set xs v x) j) (slice_index objects j)) (sym level)
      (subst (λ (n : ℕ). FitsSort sorts n (slice_index objects v)) (sym (get_or-set_same xs v x 0 within)) here)
]

-- ---- MACROPs

-- the objects that stand for a step's terms where some of them are chosen
under-chosen : (limit : ℕ) (terms : List Term) → IsBinding limit terms → (sigma : List ℕ) → ExtendsTerms limit terms sigma → (t : Term)
    → IsVariableBelow (length terms) t → object_under sigma (substitute terms t) ≡ object_under sigma t
under-chosen limit terms binding sigma extends (Obj n) below = refl
under-chosen limit terms binding sigma extends (Var w) below =
    let at = slice_get-read terms w Wild below in
    go (get_or terms w Wild) at (binding.each w (get_or terms w Wild) at)
  where
    go : (t : Term) → slice_get terms w ≡ Some t → IsSlot limit w t
        → object_under sigma (slice_index_or terms w Wild) ≡ object_under sigma (Var w)
    go (Obj n) at slot =
        ap (object_under sigma) (get_or_from_slice_get terms w (Obj n) Wild at)
        ∙ sym (ap object_of (term-at sigma w (omega (arith, below, extends.count))) ∙ extends.same w n at)
    go (Var u) at slot =
        ap (object_under sigma) (get_or_from_slice_get terms w (Var u) Wild at ∙ ap Var (sym slot))
    go Wild at slot = absurd slot
under-chosen limit terms binding sigma extends Wild below = refl

under-chosen-all : (limit : ℕ) (terms : List Term) → IsBinding limit terms → (sigma : List ℕ) → ExtendsTerms limit terms sigma
    → (args : List Term) → All (IsVariableBelow (length terms)) args
    → map (object_under sigma) (map (substitute terms) args) ≡ map (object_under sigma) args
under-chosen-all limit terms binding sigma extends [] below = refl
under-chosen-all limit terms binding sigma extends (t ∷ args) below =
    let here = under-chosen limit terms binding sigma extends t (below 0 t (omega arith)) in
    let rest = under-chosen-all limit terms binding sigma extends args (λ k d within. below (suc k) d (omega (arith, within))) in
    λ i. here i ∷ rest i

-- where the step fits under objects that extend the terms, the objects among the chosen terms fit
pub chosen-fits : (problem : Problem) (terms : List Term) → IsBinding problem.objects terms → (sigma : List ℕ)
    → ExtendsTerms problem.objects terms sigma → (step : OpInst) → All (IsVariableBelow (length terms)) step.args
    → IsWellSorted problem (instance_under sigma step)
    → ObjectsFit problem.object_sorts (schema_of problem step).param_sorts (map (object_under sigma) (map (substitute terms) step.args))
chosen-fits problem terms binding sigma extends step below fits =
    subst (ObjectsFit problem.object_sorts (schema_of problem step).param_sorts)
    (sym (under-chosen-all problem.objects terms binding sigma extends step.args below))
    (args-fit problem.object_sorts (schema_of problem step).param_sorts sigma step.args fits)

-- each step of a MACROP fits
pub macro-step-fits : (problem : Problem) (table : Table) (prefix : ℕ) (sigma : List ℕ) → IsMacro problem table prefix sigma
    → (k : ℕ) (d : OpInst) → k < prefix → IsWellSorted problem (instance_under sigma (get_or table.steps k d))
macro-step-fits problem table prefix sigma is k d within =
    let steps = steps_under table sigma in
    let long : length (take prefix steps) ≡ prefix =
    length-take-le prefix steps (omega (arith, is.within, length-map table.steps (instance_under sigma))) in
    subst (IsWellSorted problem)
    (get_or-take prefix steps k (instance_under sigma d) within
    ∙ get_or-map (instance_under sigma) table.steps k d (instance_under sigma d) (omega (arith, within, is.within)))
    (is.fitting k (instance_under sigma d) (omega (arith, within, long)))

-- so does the one that is read at a place
pub read-step-fits : (problem : Problem) (table : Table) (prefix : ℕ) (sigma : List ℕ) → IsMacro problem table prefix sigma
    → (steps : List OpInst) (k : ℕ) (step : OpInst) → steps ≡ table.steps → step ≡ get_or steps k step → k < prefix
    → IsWellSorted problem (instance_under sigma step)
read-step-fits problem table prefix sigma is steps k step steps_are read within =
    subst (λ (inst : OpInst). IsWellSorted problem (instance_under sigma inst))
    (sym (read ∙ ap (λ (insts : List OpInst). get_or insts k step) steps_are)) (macro-step-fits problem table prefix sigma is k step within)

module _ (problem : Problem) (tables : List Table) (wanted : List Atom) (stack : List Entry) (model : List Atom) (number prefix : ℕ)
    (table : Table) (at : slice_get tables number ≡ Some table) where
  -- where no objects that extend the terms make a MACROP, nothing of them is relevant
  pub objects-unfit : (terms : List Term) (found : List Entry)
      → ((sigma : List ℕ) → ExtendsTerms problem.objects terms sigma → ¬ IsMacro problem table prefix sigma)
      → GathersEntries problem tables wanted stack model (IsMacroBy problem.objects number prefix terms) found found
  objects-unfit terms found none =
      entries_none problem tables wanted stack model (IsMacroBy problem.objects number prefix terms) found
      (λ entry relevant (sigma, extends, same). none sigma extends (relevant_macro problem tables number prefix table at sigma wanted stack
      (subst (IsRelevant problem tables wanted stack) (sym same) relevant)))

  -- an object of another sort than the parameter has is passed over
  pub objects-passed : (terms : List Term) (v object sort : ℕ) (old made : List Entry) → slice_get terms v ≡ Some (Var v)
      → ((sigma : List ℕ) → IsMacro problem table prefix sigma → v < length sigma
      → FitsSort problem.object_sorts sort (slice_index sigma v))
      → ¬ FitsSort problem.object_sorts sort object
      → GathersEntries problem tables wanted stack model (IsMacroBefore problem.objects number prefix terms v object) old made
      → GathersEntries problem tables wanted stack model (IsMacroBefore problem.objects number prefix terms v (object + 1)) old made
  objects-passed terms v object sort old made is_open has_sort unfit before =
      objects-next problem tables wanted stack model number prefix terms (set terms v (Obj object)) v object old made made is_open refl
      before (objects-unfit (set terms v (Obj object)) made (λ sigma extends is.
      let bound = extends-bound problem.objects terms v is_open object sigma extends in
      unfit (subst (FitsSort problem.object_sorts sort) bound.1
      (has_sort sigma is (omega (arith, slice_get_within terms v (Var v) is_open, bound.0.count))))))
