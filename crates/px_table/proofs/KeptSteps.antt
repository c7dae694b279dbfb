-- A mark that is kept by the steps so far.
use Rattle.std.proofs.Common.{◌≡◌, ℕ, suc, ◌+◌, ◌<◌, ◌≤◌, Some, List, length, map, get_or, slice_get, sym, ap, ◌∙◌, subst, inl, inr, zero, arith}
use Rattle.std.proofs.lemmas.List.{length-map}
use Rattle.px_base.proofs.Loops.{level_or_below}
use Rattle.px_terms.specs.declared.instance.OpInst.{OpInst}
use Rattle.px_terms.specs.declared.problem.Problem.{Problem}
use Rattle.px_terms.specs.Operators.{IsDeleted, schema_of}
use Rattle.px_base.specs.Answers.{some_same}
use Rattle.px_proof.specs.PlaceLaws.{slice_get-map, slice_get-read, slice_get-within}
use Rattle.px_table.specs.declared.mark.Mark.{Mark}
use Rattle.px_table.specs.Kernels.{atom_under, instance_under, mark_under}
use Rattle.px_table.specs.Marks.{IsKept}

module _ (problem : Problem) (steps : List OpInst) (sigma : List ℕ) (first : ℕ) (mark : Mark) where
  -- the step deletes the mark's instance
  abbrev pub Deletes : OpInst → Type 0
  Deletes inst = IsDeleted (schema_of problem inst) inst (atom_under sigma mark.atom)

  -- none of the first steps deletes the mark's instance, where it stands between
  pub record KeptBelow (i : ℕ) : Type 0 where
    pub kept : (j : ℕ) (inst : OpInst) → j < i → first ≤ suc j → mark.column < suc j → suc j < mark.row
        → slice_get (map (instance_under sigma) steps) j ≡ Some inst → ¬ Deletes inst

  pub kept-start : KeptBelow 0
  kept-start = record { kept = λ j inst below. absurd (omega (arith, below)) }

  -- the instance of the step at the place
  instance_at : (i : ℕ) (step inst : OpInst) → i < length steps → step ≡ get_or steps i step
      → slice_get (map (instance_under sigma) steps) i ≡ Some inst → instance_under sigma step ≡ inst
  instance_at i step inst below is at =
      some_same (sym (slice_get-map (instance_under sigma) steps i step (slice_get-read steps i step below ∙ ap Some (sym is))) ∙ at)

  pub kept-next : (i : ℕ) (step : OpInst) → i < length steps → step ≡ get_or steps i step → KeptBelow i
      → (first ≤ suc i → mark.column < suc i → suc i < mark.row → ¬ Deletes (instance_under sigma step)) → KeptBelow (i + 1)
  kept-next i step below is before here = record {
    kept = λ j inst less low column row at deleted. elim (level_or_below j i less) [
      | inl earlier ↦ before.kept j inst earlier low column row at deleted
      | inr now ↦
          let at_i = subst (λ n. slice_get (map (instance_under sigma) steps) n ≡ Some inst) now at in
          here (subst (λ n. first ≤ suc n) now low) (subst (λ n. mark.column < suc n) now column) (subst (λ n. suc n < mark.row) now row)
          (subst Deletes (sym (instance_at i step inst below is at_i)) deleted)
    ];
  }

  pub kept-all : (i : ℕ) → length steps ≤ i → KeptBelow i → IsKept problem (map (instance_under sigma) steps) first (mark_under sigma mark)
  kept-all i end all zero inst low column row at deleted = absurd (cc)
  kept-all i end all (suc j) inst low column row at deleted =
      let within = slice_get-within (map (instance_under sigma) steps) j inst at in
      all.kept j inst (omega (arith, within, length-map steps (instance_under sigma))) low column row at deleted

  pub kept-fails : (i : ℕ) (step : OpInst) → i < length steps → step ≡ get_or steps i step → first ≤ suc i → mark.column < suc i
      → suc i < mark.row → Deletes (instance_under sigma step)
      → ¬ IsKept problem (map (instance_under sigma) steps) first (mark_under sigma mark)
  kept-fails i step below is low column row deleted kept =
      kept (suc i) (instance_under sigma step) low column row
      (slice_get-map (instance_under sigma) steps i step (slice_get-read steps i step below ∙ ap Some (sym is))) deleted
