-- What later steps delete whatever the objects are, and what steps add that no later one deletes.
use Rattle.std.proofs.Common.{◌≡◌, ◌∙◌, ◌⊎◌, ◌+◌, ◌<◌, ◌≤◌, ℕ, suc, Bool, ◌&&◌, true, false, Some, List, [], ◌∷◌, length, map, drop, slice_get, get_or, refl, ap, sym, subst, inl, inr, arith}
use Rattle.std.specs.Prelude.{All, Contains}
use Rattle.std.specs.Cmp.{first_so, second_so}
use Rattle.std.specs.Cmp.Lexicographic.{pointwise}
use Rattle.std.proofs.lemmas.List.{get_or-map, length-map}
use Rattle.std.proofs.lemmas.List.Folds.{list_any-from_Any}
use Rattle.std.proofs.lemmas.Option.{get_or_from_slice_get}
use Rattle.px_question.specs.Answers.{object_terms}
use Rattle.px_table.specs.Kernels.{instance_under}
use Rattle.px_proof.specs.SubstitutionLaws.{atom_twice}
use Rattle.px_table.specs.UnderLaws.{adds-under}
use Rattle.px_terms.specs.Instances.{is_filled_place, is_instance}
use Rattle.px_terms.specs.Language.{substitute}
use Rattle.px_terms.specs.Operators.{IsAdded, adds, deletes, schema_of}
use Rattle.px_terms.specs.OrderLaws.{term_eq-decides}
use Rattle.px_terms.specs.Substitution.{substitute_atom}
use Rattle.px_terms.specs.declared.atom.Atom.{Atom}
use Rattle.px_terms.specs.declared.instance.OpInst.{OpInst}
use Rattle.px_terms.specs.declared.problem.Problem.{Problem}
use Rattle.px_terms.specs.declared.term.Term.{Term}
use Rattle.px_terms.specs.declared.term.Term.TheVariants.{Obj, Var, Any}
use Rattle.px_gaps.specs.Closings.{OneOf}
use Rattle.px_entries.specs.Parameters.{IsLeftAdd}
use Rattle.px_base.proofs.Loops.{level_or_below}
use Rattle.px_table.specs.KernelLaws.{Contains-from_map}

-- ---- a pattern that stands for an atom does so with any objects

place-self : (t : Term) → is_filled_place t t ≡ true
place-self (Obj n) = (term_eq-decides (Obj n) (Obj n)).1 refl
place-self (Var v) = (term_eq-decides (Var v) (Var v)).1 refl
place-self Any = refl

place-under : (values : List Term) (p t : Term) → is_filled_place p t ≡ true
    → is_filled_place (substitute values p) (substitute values t) ≡ true
place-under values Any t h = refl
place-under values (Obj n) t h =
    subst (λ (u : Term). is_filled_place (Obj n) (substitute values u) ≡ true) ((term_eq-decides (Obj n) t).0 h) (place-self (Obj n))
place-under values (Var v) t h =
    subst (λ (u : Term). is_filled_place (substitute values (Var v)) (substitute values u) ≡ true) ((term_eq-decides (Var v) t).0 h)
    (place-self (substitute values (Var v)))

both : (s t : Bool) → s ≡ true → t ≡ true → (s && t) ≡ true
both s t h k = rw h k

places-under : (values ps ts : List Term) → pointwise is_filled_place ps ts ≡ true
    → pointwise is_filled_place (map (substitute values) ps) (map (substitute values) ts) ≡ true
places-under values [] [] h = refl
places-under values [] (t ∷ ts) h = absurd (cc)
places-under values (p ∷ ps) [] h = absurd (cc)
places-under values (p ∷ ps) (t ∷ ts) h = both _ _ (place-under values p t (first_so _ _ h)) (places-under values ps ts (second_so _ _ h))

instance-under : (values : List Term) (atom pattern : Atom) → is_instance atom pattern ≡ true
    → is_instance (substitute_atom values atom) (substitute_atom values pattern) ≡ true
instance-under values atom pattern h = both _ _ (first_so _ _ h) (places-under values pattern.args atom.args (second_so _ _ h))

-- so a step that has such a pattern deletes the atom with any objects
pub deleted-under : (problem : Problem) (step : OpInst) (atom pattern : Atom) → Contains (schema_of problem step).del pattern
    → is_instance atom (substitute_atom step.args pattern) ≡ true
    → (sigma : List ℕ) → deletes problem (instance_under sigma step) (substitute_atom (object_terms sigma) atom) ≡ true
deleted-under problem step atom pattern has fills sigma =
    let here =
    subst (λ (p : Atom). is_instance (substitute_atom (object_terms sigma) atom) p ≡ true)
    (atom_twice (object_terms sigma) step.args pattern)
    (instance-under (object_terms sigma) atom (substitute_atom step.args pattern) fills) in
    list_any-from_Any (λ (p : Atom). is_instance (substitute_atom (object_terms sigma) atom)
    (substitute_atom (map (substitute (object_terms sigma)) step.args) p)) (schema_of problem step).del
    (has.0, pattern, has.1, has.2, here)

-- ---- the step that adds the atom

module _ (problem : Problem) (wanted : Atom) (sigma : List ℕ) where
  -- one of the first steps adds it, and no later one deletes it
  abbrev pub AddedBefore : List OpInst → ℕ → Type 0
  AddedBefore steps i =
      (k : ℕ) × (step : OpInst) × (k < i) × (slice_get steps k ≡ Some step)
      × OneOf (adds problem step) (IsLeftAdd problem (drop (k + 1) steps) wanted sigma)

  kept-under : (steps : List OpInst) → All (λ (later : OpInst). deletes problem later wanted ≡ false) (map (instance_under sigma) steps)
      → All (λ (later : OpInst). deletes problem (instance_under sigma later) wanted ≡ false) steps
  kept-under steps all k d below =
      subst (λ (inst : OpInst). deletes problem inst wanted ≡ false)
      (get_or-map (instance_under sigma) steps k d (instance_under sigma d) below)
      (all k (instance_under sigma d) (omega (arith, below, length-map steps (instance_under sigma))))

  added-somewhere : (steps : List OpInst) → IsAdded problem (map (instance_under sigma) steps) wanted → AddedBefore steps (length steps)
  added-somewhere [] never = absurd never
  added-somewhere (step ∷ steps) (inl now) =
      let one =
      Contains-from_map (substitute_atom (map Obj sigma)) (adds problem step) wanted
      (subst (λ (l : List Atom). Contains l wanted) (adds-under problem (map Obj sigma) step) now.0) in
      (0, step, omega arith, refl, (one.0, one.1, (one.2, kept-under steps now.1)))
  added-somewhere (step ∷ steps) (inr later) =
      let r = added-somewhere steps later in
      let next : suc r.0 + 1 ≡ suc (r.0 + 1) = omega arith in (
        suc r.0,
        r.1,
        omega (arith, r.2),
        r.3,
        subst (λ (n : ℕ). OneOf (adds problem r.1) (IsLeftAdd problem (drop n (step ∷ steps)) wanted sigma)) (sym next) r.4,
      )

  pub added-whole : (steps : List OpInst) (i : ℕ) → length steps ≤ i → IsAdded problem (map (instance_under sigma) steps) wanted
      → AddedBefore steps i
  added-whole steps i end added =
      let r = added-somewhere steps added in
      (r.0, r.1, omega (arith, r.2, end), r.3, r.4)

  pub added-before : (steps : List OpInst) (i : ℕ) (step : OpInst) → step ≡ get_or steps i step → AddedBefore steps (i + 1)
      → AddedBefore steps i ⊎ OneOf (adds problem step) (IsLeftAdd problem (drop (i + 1) steps) wanted sigma)
  added-before steps i step is (k, other, next, at, one) = elim (level_or_below k i next) [
    | inl earlier ↦ inl (k, other, earlier, at, one)
    | inr level ↦
        let same : other ≡ step = sym (get_or_from_slice_get steps k other step at) ∙ ap (λ (n : ℕ). get_or steps n step) level ∙ sym is in
        inr (subst (λ (n : ℕ). OneOf (adds problem step) (IsLeftAdd problem (drop (n + 1) steps) wanted sigma)) level
        (subst (λ (s : OpInst). OneOf (adds problem s) (IsLeftAdd problem (drop (k + 1) steps) wanted sigma)) same one))
  ]
