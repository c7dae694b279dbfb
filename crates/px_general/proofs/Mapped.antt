-- Functions of terms, put through operator instances, goals and proofs.
use Rattle.std.specs.Prelude.{◌≡◌, List, [], ◌∷◌, ◌++◌, map, flat_map, Contains}
use Rattle.std.proofs.Common.{refl, sym, ap, ◌∙◌, subst, inl, inr}
use Rattle.std.proofs.lemmas.List.{map-append}
use Rattle.std.proofs.lemmas.List.Elements.{Contains-append_left, Contains-append_right, Contains-append_cases}
use Rattle.px_base.specs.ListLaws.{Contains-none, Contains-first, Contains-later, Contains-one}
use Rattle.px_terms.specs.declared.atom.Atom.{Atom}
use Rattle.px_terms.specs.declared.instance.OpInst.{OpInst}
use Rattle.px_terms.specs.declared.term.Term.{Term}
use Rattle.px_terms.specs.Language.{substitute}
use Rattle.px_proof.specs.declared.proof.Leaf.{Leaf}
use Rattle.px_proof.specs.Derivation.{Derivation, Derivations, fact, ancestor, step, gap, open_place, none, also, leaves_of, all_leaves_of, terms_of, all_terms_of}
use Rattle.px_proof.specs.Substitution.{derivation_under, derivations_under}
use Rattle.px_table.specs.Marks.{row_leaves}
use Rattle.px_general.specs.General.{step_terms, goal_terms, row_terms}
use Rattle.px_general.proofs.Reading.{flat_map-mapped}

abbrev pub atom_by : (Term → Term) → Atom → Atom
atom_by f atom = record { pred = atom.pred; args = map f atom.args }

abbrev pub instance_by : (Term → Term) → OpInst → OpInst
instance_by f inst = record { op = inst.op; args = map f inst.args }

abbrev pub leaf_by : (Term → Term) → Leaf → Leaf
leaf_by f leaf = record { column = leaf.column; index = leaf.index; atom = atom_by f leaf.atom }

abbrev mutual
  pub derivation_by : (Term → Term) → Derivation → Derivation
  derivation_by f (fact leaf) = fact (leaf_by f leaf)
  derivation_by f (ancestor i) = ancestor i
  derivation_by f (step number theta place parts) = step number (map f theta) place (derivations_by f parts)
  derivation_by f (gap atom) = gap (atom_by f atom)
  derivation_by f open_place = open_place

  pub derivations_by : (Term → Term) → Derivations → Derivations
  derivations_by f none = none
  derivations_by f (also d ds) = also (derivation_by f d) (derivations_by f ds)

abbrev pub rows_by : (Term → Term) → List (List Derivation) → List (List Derivation)
rows_by f rows = map (map (derivation_by f)) rows

-- ---- substitution is one of them

mutual
  derivation-under : (terms : List Term) (d : Derivation) → derivation_under terms d ≡ derivation_by (substitute terms) d
  derivation-under terms (fact leaf) = refl
  derivation-under terms (ancestor i) = refl
  derivation-under terms (step number theta place parts) =
      ap (step number (map (substitute terms) theta) place) (derivations-under terms parts)
  derivation-under terms (gap atom) = refl
  derivation-under terms open_place = refl

  derivations-under : (terms : List Term) (ds : Derivations) → derivations_under terms ds ≡ derivations_by (substitute terms) ds
  derivations-under terms none = refl
  derivations-under terms (also d ds) =
      let one = derivation-under terms d in let rest = derivations-under terms ds in λ i. also (one i) (rest i)

row-under : (terms : List Term) (row : List Derivation) → map (derivation_under terms) row ≡ map (derivation_by (substitute terms)) row
row-under terms [] = refl
row-under terms (d ∷ row) = let one = derivation-under terms d in let rest = row-under terms row in λ i. one i ∷ rest i

pub rows-under : (terms : List Term) (rows : List (List Derivation))
    → map (map (derivation_under terms)) rows ≡ rows_by (substitute terms) rows
rows-under terms [] = refl
rows-under terms (row ∷ rows) = let one = row-under terms row in let rest = rows-under terms rows in λ i. one i ∷ rest i

-- ---- one after the other

module _ (f g h : Term → Term) where
  abbrev pub Agree : List Term → Type 0
  Agree ts = (t : Term) → Contains ts t → f (g t) ≡ h t

  prefix : (xs ys : List Term) → Agree (xs ++ ys) → Agree xs
  prefix xs ys each = λ t has. each t (Contains-append_left xs ys t has)

  behind : (xs ys : List Term) → Agree (xs ++ ys) → Agree ys
  behind xs ys each = λ t has. each t (Contains-append_right xs ys t has)

  pub args-by : (ts : List Term) → Agree ts → map f (map g ts) ≡ map h ts
  args-by [] each = refl
  args-by (t ∷ ts) each =
      let head = each t (Contains-first t ts) in
      let rest = args-by ts (λ u has. each u (Contains-later t ts u has)) in
      λ i. head i ∷ rest i

  mutual
    derivation-by : (d : Derivation) → Agree (terms_of d) → derivation_by f (derivation_by g d) ≡ derivation_by h d
    derivation-by (fact leaf) each =
        ap (λ (args : List Term). fact (record {
          column = leaf.column;
          index = leaf.index;
          atom = record { pred = leaf.atom.pred; args = args };
        })) (args-by leaf.atom.args each)
    derivation-by (ancestor i) each = refl
    derivation-by (step number theta place parts) each =
        let own = args-by theta (prefix theta (all_terms_of parts) each) in
        let rest = derivations-by parts (behind theta (all_terms_of parts) each) in
        λ i. step number (own i) place (rest i)
    derivation-by (gap atom) each = ap (λ (args : List Term). gap (record { pred = atom.pred; args = args })) (args-by atom.args each)
    derivation-by open_place each = refl

    derivations-by : (ds : Derivations) → Agree (all_terms_of ds) → derivations_by f (derivations_by g ds) ≡ derivations_by h ds
    derivations-by none each = refl
    derivations-by (also d ds) each =
        let one = derivation-by d (prefix (terms_of d) (all_terms_of ds) each) in
        let rest = derivations-by ds (behind (terms_of d) (all_terms_of ds) each) in
        λ i. also (one i) (rest i)

  row-by : (row : List Derivation) → Agree (flat_map terms_of row)
      → map (derivation_by f) (map (derivation_by g) row) ≡ map (derivation_by h) row
  row-by [] each = refl
  row-by (d ∷ row) each =
      let one = derivation-by d (prefix (terms_of d) (flat_map terms_of row) each) in
      let rest = row-by row (behind (terms_of d) (flat_map terms_of row) each) in
      λ i. one i ∷ rest i

  pub rows-by : (rows : List (List Derivation)) → Agree (row_terms rows) → rows_by f (rows_by g rows) ≡ rows_by h rows
  rows-by [] each = refl
  rows-by (row ∷ rows) each =
      let one = row-by row (prefix (flat_map terms_of row) (row_terms rows) each) in
      let rest = rows-by rows (behind (flat_map terms_of row) (row_terms rows) each) in
      λ i. one i ∷ rest i

  pub steps-by : (steps : List OpInst) → Agree (step_terms steps)
      → map (instance_by f) (map (instance_by g) steps) ≡ map (instance_by h) steps
  steps-by [] each = refl
  steps-by (s ∷ steps) each =
      let args = args-by s.args (prefix s.args (step_terms steps) each) in
      let rest = steps-by steps (behind s.args (step_terms steps) each) in
      λ i. record { op = s.op; args = args i } ∷ rest i

  pub goal-by : (goal : List Atom) → Agree (goal_terms goal) → map (atom_by f) (map (atom_by g) goal) ≡ map (atom_by h) goal
  goal-by [] each = refl
  goal-by (a ∷ goal) each =
      let args = args-by a.args (prefix a.args (goal_terms goal) each) in
      let rest = goal-by goal (behind a.args (goal_terms goal) each) in
      λ i. record { pred = a.pred; args = args i } ∷ rest i

-- ---- what leaves the terms leaves all that they stand in

args-same : (ts : List Term) → map (λ t. t) ts ≡ ts
args-same [] = refl
args-same (t ∷ ts) = ap (λ l. t ∷ l) (args-same ts)

mutual
  derivation-same : (d : Derivation) → derivation_by (λ t. t) d ≡ d
  derivation-same (fact leaf) =
      ap (λ (args : List Term). fact (record {
        column = leaf.column;
        index = leaf.index;
        atom = record { pred = leaf.atom.pred; args = args };
      })) (args-same leaf.atom.args)
  derivation-same (ancestor i) = refl
  derivation-same (step number theta place parts) =
      let own = args-same theta in let rest = derivations-same parts in λ i. step number (own i) place (rest i)
  derivation-same (gap atom) = ap (λ (args : List Term). gap (record { pred = atom.pred; args = args })) (args-same atom.args)
  derivation-same open_place = refl

  derivations-same : (ds : Derivations) → derivations_by (λ t. t) ds ≡ ds
  derivations-same none = refl
  derivations-same (also d ds) = let one = derivation-same d in let rest = derivations-same ds in λ i. also (one i) (rest i)

row-same : (row : List Derivation) → map (derivation_by (λ t. t)) row ≡ row
row-same [] = refl
row-same (d ∷ row) = let one = derivation-same d in let rest = row-same row in λ i. one i ∷ rest i

pub rows-same : (rows : List (List Derivation)) → rows_by (λ t. t) rows ≡ rows
rows-same [] = refl
rows-same (row ∷ rows) = let one = row-same row in let rest = rows-same rows in λ i. one i ∷ rest i

pub steps-same : (steps : List OpInst) → map (instance_by (λ t. t)) steps ≡ steps
steps-same [] = refl
steps-same (s ∷ steps) = let args = args-same s.args in let rest = steps-same steps in λ i. record { op = s.op; args = args i } ∷ rest i

pub goal-same : (goal : List Atom) → map (atom_by (λ t. t)) goal ≡ goal
goal-same [] = refl
goal-same (a ∷ goal) = let args = args-same a.args in let rest = goal-same goal in λ i. record { pred = a.pred; args = args i } ∷ rest i

-- ---- the terms and the leaves afterwards

module _ (f : Term → Term) where
  mutual
    terms_of-by : (d : Derivation) → terms_of (derivation_by f d) ≡ map f (terms_of d)
    terms_of-by (fact leaf) = refl
    terms_of-by (ancestor i) = refl
    terms_of-by (step number theta place parts) =
        ap (λ l. map f theta ++ l) (all_terms_of-by parts) ∙ sym (map-append f theta (all_terms_of parts))
    terms_of-by (gap atom) = refl
    terms_of-by open_place = refl

    all_terms_of-by : (ds : Derivations) → all_terms_of (derivations_by f ds) ≡ map f (all_terms_of ds)
    all_terms_of-by none = refl
    all_terms_of-by (also d ds) =
        ap (λ l. l ++ all_terms_of (derivations_by f ds)) (terms_of-by d) ∙ ap (λ l. map f (terms_of d) ++ l) (all_terms_of-by ds)
        ∙ sym (map-append f (terms_of d) (all_terms_of ds))

  pub row_terms-by : (rows : List (List Derivation)) → row_terms (rows_by f rows) ≡ map f (row_terms rows)
  row_terms-by rows =
      flat_map-mapped (flat_map terms_of) (map (derivation_by f)) (flat_map terms_of) f
      (flat_map-mapped terms_of (derivation_by f) terms_of f terms_of-by) rows

  pub step_terms-by : (steps : List OpInst) → step_terms (map (instance_by f) steps) ≡ map f (step_terms steps)
  step_terms-by steps = flat_map-mapped (λ (s : OpInst). s.args) (instance_by f) (λ (s : OpInst). s.args) f (λ s. refl) steps

  pub goal_terms-by : (goal : List Atom) → goal_terms (map (atom_by f) goal) ≡ map f (goal_terms goal)
  goal_terms-by goal = flat_map-mapped (λ (a : Atom). a.args) (atom_by f) (λ (a : Atom). a.args) f (λ a. refl) goal

  mutual
    leaves_of-by : (d : Derivation) → leaves_of (derivation_by f d) ≡ map (leaf_by f) (leaves_of d)
    leaves_of-by (fact leaf) = refl
    leaves_of-by (ancestor i) = refl
    leaves_of-by (step number theta place parts) = all_leaves_of-by parts
    leaves_of-by (gap atom) = refl
    leaves_of-by open_place = refl

    all_leaves_of-by : (ds : Derivations) → all_leaves_of (derivations_by f ds) ≡ map (leaf_by f) (all_leaves_of ds)
    all_leaves_of-by none = refl
    all_leaves_of-by (also d ds) =
        ap (λ l. l ++ all_leaves_of (derivations_by f ds)) (leaves_of-by d)
        ∙ ap (λ l. map (leaf_by f) (leaves_of d) ++ l) (all_leaves_of-by ds)
        ∙ sym (map-append (leaf_by f) (leaves_of d) (all_leaves_of ds))

  pub row_leaves-by : (row : List Derivation) → row_leaves (map (derivation_by f) row) ≡ map (leaf_by f) (row_leaves row)
  row_leaves-by row = flat_map-mapped leaves_of (derivation_by f) leaves_of (leaf_by f) leaves_of-by row

-- the terms of a leaf are terms of the proof
mutual
  pub leaf-terms : (d : Derivation) (leaf : Leaf) (t : Term) → Contains (leaves_of d) leaf → Contains leaf.atom.args t
      → Contains (terms_of d) t
  leaf-terms (fact l) leaf t has here = subst (λ (x : Leaf). Contains x.atom.args t) (sym (Contains-one l leaf has)) here
  leaf-terms (ancestor i) leaf t has here = absurd (Contains-none leaf has)
  leaf-terms (step number theta place parts) leaf t has here =
      Contains-append_right theta (all_terms_of parts) t (each-leaf-terms parts leaf t has here)
  leaf-terms (gap atom) leaf t has here = absurd (Contains-none leaf has)
  leaf-terms open_place leaf t has here = absurd (Contains-none leaf has)

  each-leaf-terms : (ds : Derivations) (leaf : Leaf) (t : Term) → Contains (all_leaves_of ds) leaf → Contains leaf.atom.args t
      → Contains (all_terms_of ds) t
  each-leaf-terms none leaf t has here = absurd (Contains-none leaf has)
  each-leaf-terms (also d ds) leaf t has here = elim (Contains-append_cases (leaves_of d) (all_leaves_of ds) leaf has) [
    | inl first ↦ Contains-append_left (terms_of d) (all_terms_of ds) t (leaf-terms d leaf t first here)
    | inr later ↦ Contains-append_right (terms_of d) (all_terms_of ds) t (each-leaf-terms ds leaf t later here)
  ]
