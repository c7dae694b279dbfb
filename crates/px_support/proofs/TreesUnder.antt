-- A table's proof with objects for its parameters.
use Rattle.std.specs.Prelude.{◌≡◌, ◌<◌, ℕ, Some, List, [], ◌∷◌, length, map, slice_get, slice_index, All, Contains}
use Rattle.std.proofs.Common.{zero, suc, refl, sym, ap, ◌∙◌, subst, inl, inr, arith}
use Rattle.std.proofs.lemmas.List.{length-map}
use Rattle.std.proofs.lemmas.List.Elements.{All-map, Contains-append_left, Contains-append_right}
use Rattle.px_base.specs.ListLaws.{Contains-first}
use Rattle.px_terms.specs.declared.atom.Atom.{Atom}
use Rattle.px_terms.specs.declared.clause.Clause.{Clause}
use Rattle.px_terms.specs.declared.clause.Lit.{Lit}
use Rattle.px_terms.specs.declared.problem.Problem.{Problem}
use Rattle.px_terms.specs.declared.term.Term.{Term}
use Rattle.px_terms.specs.declared.term.Term.TheVariants.{Obj}
use Rattle.px_terms.specs.Language.{substitute}
use Rattle.px_terms.specs.Substitution.{substitute_atom}
use Rattle.px_terms.specs.Validity.{IsValid}
use Rattle.px_proof.specs.declared.proof.Leaf.{Leaf}
use Rattle.px_proof.specs.Derivation.{Derivation, Derivations, fact, ancestor, step, gap, open_place, none, also, leaves_of, all_leaves_of}
use Rattle.px_proof.specs.Literals.{substitute_literal, complement_of}
use Rattle.px_proof.specs.PlaceLaws.{All-got, slice_get-map}
use Rattle.px_proof.specs.Proves.{Proves, ProvesEach, instance_of, parts_of, from_atoms, IsObjectOrParameter}
use Rattle.px_proof.specs.Substitution.{derivation_under, derivations_under}
use Rattle.px_proof.specs.SubstitutionLaws.{each_choice, instance_twice, name_under, parts_under}
use Rattle.px_order.specs.Places.{order_of}
use Rattle.px_table.specs.declared.table.Table.{Table}
use Rattle.px_table.specs.Prefixes.{IsMacro, IsUsed}
use Rattle.px_support.proofs.Lists.{each-number}

-- where terms may be put in for what the steps choose, and for the leaves
module _ (axioms : List Clause) (terms : List Term) (Old New : Term → Type 0) (atoms under : List Atom)
    (choices : (number : ℕ) (clause : Clause) (theta : List Term) → slice_get axioms number ≡ Some clause → length theta ≡ clause.variable_count
    → All Old theta → All New (map (substitute terms) theta)) where
  abbrev pub MayStand : Leaf → Type 0
  MayStand leaf = Contains under (substitute_atom terms leaf.atom) × All New (map (substitute terms) leaf.atom.args)

  mutual
    pub proves-under : (path : List Lit) (lit : Lit) (d : Derivation) → ((leaf : Leaf) → Contains (leaves_of d) leaf → MayStand leaf)
        → Proves (from_atoms Old atoms) axioms path lit d
        → Proves (from_atoms New under) axioms (map (substitute_literal terms) path) (substitute_literal terms lit)
        (derivation_under terms d)
    proves-under path lit (fact leaf) each proved = (ap (substitute_literal terms) proved.0, each leaf (Contains-first leaf []))
    proves-under path lit (ancestor i) each proved = slice_get-map (substitute_literal terms) path i (complement_of lit) proved
    proves-under path lit (step number theta place parts) each proved = (
      proved.0,
      record {
        axiom_at = proved.1.axiom_at;
        terms = length-map theta (substitute terms) ∙ proved.1.terms;
        choices = choices number proved.0 theta proved.1.axiom_at proved.1.terms proved.1.choices;
        literal_at =
            ap (λ ls. slice_get ls place) (sym (instance_twice terms theta proved.0.lits))
            ∙ slice_get-map (substitute_literal terms) (instance_of proved.0.lits theta) place lit proved.1.literal_at;
      },
      subst (λ (ls : List Lit). ProvesEach (from_atoms New under) axioms
          (substitute_literal terms lit ∷ map (substitute_literal terms) path) ls (derivations_under terms parts))
          (parts_under terms theta proved.0.lits place) (each-under (lit ∷ path) (parts_of proved.0.lits theta place) parts each proved.2),
    )
    proves-under path lit (gap atom) each proved = absurd proved.1
    proves-under path lit open_place each proved = absurd proved

    each-under : (path lits : List Lit) (ds : Derivations) → ((leaf : Leaf) → Contains (all_leaves_of ds) leaf → MayStand leaf)
        → ProvesEach (from_atoms Old atoms) axioms path lits ds
        → ProvesEach (from_atoms New under) axioms (map (substitute_literal terms) path) (map (substitute_literal terms) lits)
        (derivations_under terms ds)
    each-under path [] none each proved = tt
    each-under path (lit ∷ lits) (also d ds) each proved = (
      proves-under path lit d (λ leaf has. each leaf (Contains-append_left (leaves_of d) (all_leaves_of ds) leaf has)) proved.0,
      each-under path lits ds (λ leaf has. each leaf (Contains-append_right (leaves_of d) (all_leaves_of ds) leaf has)) proved.1,
    )
    each-under path [] (also d ds) each proved = absurd proved
    each-under path (lit ∷ lits) none each proved = absurd proved

module _ (problem : Problem) (valid : IsValid problem) (table : Table) (prefix : ℕ) (sigma : List ℕ)
    (m : IsMacro problem table prefix sigma) where
  -- where the problem has an object, each parameter has one of its objects
  number-below : 0 < problem.objects → (v : ℕ) → v < length sigma → slice_index sigma v < problem.objects
  number-below some v below = elim (order_of (slice_index sigma v) problem.objects) [
    | inl less ↦ less
    | inr not_less ↦
        let early : v < table.params = omega (arith, below, m.count) in
        let nothing : ¬ IsUsed table prefix v = λ used. omega (arith, not_less, m.used v early used) in
        absurd (omega (arith, not_less, some, m.unused v early nothing))
  ]

  names : 0 < problem.objects → All (IsObjectOrParameter problem.objects 0) (map Obj sigma)
  names some = All-map (IsObjectOrParameter problem.objects 0) Obj sigma (each-number (λ n. n < problem.objects) sigma (number-below some))

  -- what a step of a proof chooses becomes an object of the problem; without objects it chooses nothing
  pub choice-under : (number : ℕ) (clause : Clause) (theta : List Term) → slice_get problem.axioms number ≡ Some clause
      → length theta ≡ clause.variable_count
      → All (IsObjectOrParameter problem.objects table.params) theta
      → All (IsObjectOrParameter problem.objects 0) (map (substitute (map Obj sigma)) theta)
  choice-under number clause theta at count all = by problem.objects refl where
    by : (objects : ℕ) → problem.objects ≡ objects → All (IsObjectOrParameter problem.objects 0) (map (substitute (map Obj sigma)) theta)
    by zero empty =
        let no_variables : clause.variable_count ≡ 0 = All-got (λ (c : Clause). c.variable_count ≡ 0) problem.axioms number clause (valid.no_objects empty).1 at in
        λ k d below. absurd (omega (arith, below, length-map theta (substitute (map Obj sigma)), count, no_variables))
    by (suc n) some =
        each_choice (map Obj sigma) (IsObjectOrParameter problem.objects table.params) (IsObjectOrParameter problem.objects 0)
        (λ t h. name_under problem.objects 0 (map Obj sigma) (names (omega (arith, some))) t
        (subst (λ (c : ℕ). IsObjectOrParameter problem.objects c t) (sym (length-map sigma Obj ∙ m.count)) h)) theta all
