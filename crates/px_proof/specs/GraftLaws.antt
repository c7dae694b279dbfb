-- A derivation with proofs in the places of its leaves proves what it proved, and its leaves are theirs.
use Rattle.std.specs.Prelude.{if◌then◌else◌, ◌≡◌, ◌==◌, ℕ, Bool, true, false, cond, not, List, [], ◌∷◌, ◌++◌, length, map, drop, slice_index_or, All, Contains}
use Rattle.std.specs.List.{AllZip, flat_map}
use Rattle.std.proofs.Common.{refl, sym, ap, ◌∙◌, subst}
use Rattle.std.proofs.Math.Seq.{drop-nil}
use Rattle.std.proofs.lemmas.Grind.{flat_map-append}
use Rattle.std.proofs.lemmas.List.{append-nil}
use Rattle.std.proofs.lemmas.List.Elements.{All-nil, All-append, All-cons, All-head, All-tail, Contains-append_left, Contains-append_right, filter-append}
use Rattle.px_base.specs.ListLaws.{All-at, Contains-first, Contains-later, Contains-filter}
use Rattle.px_terms.specs.declared.atom.Atom.{Atom}
use Rattle.px_terms.specs.declared.clause.Clause.{Clause}
use Rattle.px_terms.specs.declared.clause.Lit.{Lit}
use Rattle.px_proof.specs.declared.proof.Leaf.{Leaf}
use Rattle.px_proof.specs.Basis.{over_names}
use Rattle.px_proof.specs.Derivation.{Derivation, Derivations, fact, ancestor, step, gap, open_place, none, also, leaves_of, all_leaves_of, leaf_atoms}
use Rattle.px_proof.specs.Grafting.{first_leaves, later_leaves, raised, in_place_of, grafted, all_grafted, in_places_of, GraftIsTree, GraftProves}
use Rattle.px_proof.specs.Literals.{positive_of}
use Rattle.px_proof.specs.PlaceLaws.{Contains-mapped}
use Rattle.px_proof.specs.Proves.{Rules, Proves, ProvesEach, IsTree, from_facts, parts_of}
use Rattle.px_proof.specs.ProvesLaws.{Allows, own_leaves, proves_longer}

-- ---- a part for each leaf

-- each leaf has its part, in order; there may be more parts
abbrev pub EachHas : (Leaf → Derivation → Type 0) → List Leaf → List Derivation → Type 0
EachHas R [] parts = Unit {0}
EachHas R (leaf ∷ leaves) [] = ⊥
EachHas R (leaf ∷ leaves) (part ∷ parts) = R leaf part × EachHas R leaves parts

module _ (R : Leaf → Derivation → Type 0) where
  each_has-prefix : (xs ys : List Leaf) (parts : List Derivation) → EachHas R (xs ++ ys) parts → EachHas R xs parts
  each_has-prefix [] ys parts has = tt
  each_has-prefix (x ∷ xs) ys [] has = absurd has
  each_has-prefix (x ∷ xs) ys (part ∷ parts) has = (has.0, each_has-prefix xs ys parts has.1)

  each_has-back : (xs ys : List Leaf) (parts : List Derivation) → EachHas R (xs ++ ys) parts → EachHas R ys (drop (length xs) parts)
  each_has-back [] ys parts has = has
  each_has-back (x ∷ xs) ys [] has = absurd has
  each_has-back (x ∷ xs) ys (part ∷ parts) has = each_has-back xs ys parts has.1

  -- the leaves in column 0 of the prefix, and those of the back
  each_has-both : (xs ys : List Leaf) (parts : List Derivation) → EachHas R (first_leaves (xs ++ ys)) parts
      → EachHas R (first_leaves xs) parts × EachHas R (first_leaves ys) (drop (length (first_leaves xs)) parts)
  each_has-both xs ys parts has =
      let both = subst (λ (ls : List Leaf). EachHas R ls parts) (filter-append (λ (leaf : Leaf). leaf.column == 0) xs ys) has in
      (each_has-prefix (first_leaves xs) (first_leaves ys) parts both, each_has-back (first_leaves xs) (first_leaves ys) parts both)

-- where the atoms have their parts, the leaves have them
pub each_has-atoms : (R : Atom → Derivation → Type 0) (leaves : List Leaf) (parts : List Derivation) → AllZip R (leaf_atoms leaves) parts
    → EachHas (λ leaf part. R leaf.atom part) leaves parts
each_has-atoms R [] parts all = tt
each_has-atoms R (leaf ∷ leaves) [] all = all
each_has-atoms R (leaf ∷ leaves) (part ∷ parts) all = (all.0, each_has-atoms R leaves parts all.1)

-- where each leaf has what it is mapped to
pub each_has-map : (R : Leaf → Derivation → Type 0) (f : Leaf → Derivation) (leaves : List Leaf)
    → ((leaf : Leaf) → Contains leaves leaf → R leaf (f leaf)) → EachHas R leaves (map f leaves)
each_has-map R f [] each = tt
each_has-map R f (leaf ∷ leaves) each = (
  each leaf (Contains-first leaf leaves),
  each_has-map R f leaves (λ other has. each other (Contains-later leaf leaves other has)),
)

-- where all leaves are in column 0, as in a proof from a model, each has its part
pub first_leaves-all : (leaves : List Leaf) → All (λ leaf. leaf.column ≡ 0) leaves → first_leaves leaves ≡ leaves
first_leaves-all [] all = refl
first_leaves-all (leaf ∷ leaves) all =
    ap (λ b. cond b (leaf ∷ first_leaves leaves) (first_leaves leaves))
    (ap (λ n. n == 0) (All-head (λ (l : Leaf). l.column ≡ 0) leaf leaves all))
    ∙ ap (λ ls. leaf ∷ ls) (first_leaves-all leaves (All-tail (λ (l : Leaf). l.column ≡ 0) leaf leaves all))

-- ---- a grafted derivation proves

module _ (axioms : List Clause) (old new : Rules) (allows : Allows old new) (shift : ℕ) where
  abbrev Closes : Leaf → Derivation → Type 0
  Closes leaf part = Proves new axioms [] (positive_of leaf.atom) part

  -- leaves in later columns that the old rules allow may stand in their higher columns by the new ones
  abbrev Rise : List Leaf → Type 0
  Rise leaves = (leaf : Leaf) → Contains leaves leaf → (leaf.column == 0) ≡ false → old.IsFact leaf → new.IsFact (raised shift leaf)

  in_place : (path : List Lit) (lit : Lit) (leaf : Leaf) (parts : List Derivation) (is_first : Bool) → lit ≡ positive_of leaf.atom
      → EachHas Closes (cond is_first (leaf ∷ []) []) parts
      → (is_first ≡ false → new.IsFact (raised shift leaf)) → Proves new axioms path lit
      (cond is_first (slice_index_or parts 0 open_place) (fact (raised shift leaf)))
  in_place path lit leaf [] true is has rises = absurd has
  in_place path lit leaf (part ∷ parts) true is has rises =
      subst (λ (l : Lit). Proves new axioms path l part) (sym is) (proves_longer new axioms path [] (positive_of leaf.atom) part has.0)
  in_place path lit leaf parts false is has rises = (is, rises refl)

  mutual
    -- whatever literal it proved, where each part proves the atom of its leaf under the empty path
    pub proves_grafted : (path : List Lit) (lit : Lit) (d : Derivation) (parts : List Derivation)
        → EachHas Closes (first_leaves (leaves_of d)) parts → Rise (leaves_of d)
        → Proves old axioms path lit d → Proves new axioms path lit (grafted shift parts d)
    proves_grafted path lit (fact leaf) parts has rise proved =
        in_place path lit leaf parts (leaf.column == 0) proved.0 has (λ later. rise leaf (Contains-first leaf []) later proved.1)
    proves_grafted path lit (ancestor i) parts has rise proved = proved
    proves_grafted path lit (step number theta place ds) parts has rise proved = (
      proved.0,
      record {
        axiom_at = proved.1.axiom_at;
        terms = proved.1.terms;
        choices = λ k d below. allows.choices _ (proved.1.choices k d below);
        literal_at = proved.1.literal_at;
      },
      each_grafted (lit ∷ path) (parts_of proved.0.lits theta place) ds parts has rise proved.2,
    )
    proves_grafted path lit (gap atom) parts has rise proved = (proved.0, allows.gaps atom proved.1)
    proves_grafted path lit open_place parts has rise proved = allows.opens proved

    pub each_grafted : (path lits : List Lit) (ds : Derivations) (parts : List Derivation)
        → EachHas Closes (first_leaves (all_leaves_of ds)) parts → Rise (all_leaves_of ds)
        → ProvesEach old axioms path lits ds → ProvesEach new axioms path lits (all_grafted shift parts ds)
    each_grafted path [] none parts has rise each = tt
    each_grafted path (lit ∷ lits) (also d ds) parts has rise each =
        let both = each_has-both Closes (leaves_of d) (all_leaves_of ds) parts has in (
          proves_grafted path lit d parts both.0 (λ leaf there. rise leaf
              (Contains-append_left (leaves_of d) (all_leaves_of ds) leaf there)) each.0,
          each_grafted path lits ds (drop (length (first_leaves (leaves_of d))) parts) both.1
              (λ leaf there. rise leaf (Contains-append_right (leaves_of d) (all_leaves_of ds) leaf there)) each.1,
        )
    each_grafted path [] (also d ds) parts has rise each = absurd each
    each_grafted path (lit ∷ lits) none parts has rise each = absurd each

pub graft_is_tree : (shift : ℕ) (parts : List Derivation) (d : Derivation) → GraftIsTree parts d (grafted shift parts d)
graft_is_tree shift parts d axioms objects params lit trees tree = record {
  proves = (own_leaves axioms objects params [] lit (grafted shift parts d)).0
      (proves_grafted axioms (over_names objects params) (over_names objects params)
      (record { choices = λ t h. h; gaps = λ atom h. h; opens = λ h. h }) shift [] lit d parts
      (over_own_leaves (first_leaves (leaves_of d)) parts (each_has-atoms
      (λ atom part. IsTree axioms objects params (positive_of atom) part) (first_leaves (leaves_of d)) parts trees))
      (λ leaf there later h. h) ((own_leaves axioms objects params [] lit d).1 tree.proves));
  terms = tree.terms;
}
  where
    over_own_leaves : (leaves : List Leaf) (parts : List Derivation)
        → EachHas (λ leaf part. IsTree axioms objects params (positive_of leaf.atom) part) leaves parts
        → EachHas (λ leaf part. Proves (over_names objects params) axioms [] (positive_of leaf.atom) part) leaves parts
    over_own_leaves [] parts has = tt
    over_own_leaves (leaf ∷ leaves) [] has = absurd has
    over_own_leaves (leaf ∷ leaves) (part ∷ parts) has = (
      (own_leaves axioms objects params [] (positive_of leaf.atom) part).1 has.0.proves,
      over_own_leaves leaves parts has.1,
    )

pub graft_proves : (shift : ℕ) (parts : List Derivation) (d : Derivation) → GraftProves parts d (grafted shift parts d)
graft_proves shift parts d axioms old_facts facts path lit later each proved =
    proves_grafted axioms (from_facts old_facts) (from_facts facts) (record { choices = λ t h. h; gaps = λ atom h. h; opens = λ h. h })
    shift path lit d parts
    (each_has-atoms (λ atom part. Proves (from_facts facts) axioms [] (positive_of atom) part) (first_leaves (leaves_of d)) parts each)
    (λ leaf there is_later from. (
      All-at (Contains facts) (leaf_atoms (later_leaves (leaves_of d))) leaf.atom later
          (Contains-mapped (λ (l : Leaf). l.atom) (later_leaves (leaves_of d)) leaf
          ((Contains-filter (λ (l : Leaf). not (l.column == 0)) (leaves_of d) leaf).1 (there, ap not is_later))),
      from.1,
    ))
    proved

-- ---- the leaves of a grafted derivation

drop_one_more : (is_first : Bool) (leaf : Leaf) (firsts : List Leaf) (parts : List Derivation)
    → drop (length (cond is_first (leaf ∷ firsts) firsts)) parts ≡ drop (length firsts) (cond is_first (drop 1 parts) parts)
drop_one_more true leaf firsts [] = sym (drop-nil (length firsts))
drop_one_more true leaf firsts (part ∷ parts) = refl
drop_one_more false leaf firsts parts = refl

in_places-append : (shift : ℕ) (parts : List Derivation) (xs ys : List Leaf)
    → in_places_of shift parts (xs ++ ys) ≡ in_places_of shift parts xs ++ in_places_of shift (drop (length (first_leaves xs)) parts) ys
in_places-append shift parts [] ys = refl
in_places-append shift parts (x ∷ xs) ys =
    ap (λ ds. in_place_of shift parts x ∷ ds)
    (in_places-append shift (if x.column == 0 then drop 1 parts else parts) xs ys
    ∙ ap (λ (rest : List Derivation). in_places_of shift (if x.column == 0 then drop 1 parts else parts) xs ++ in_places_of shift rest ys)
    (sym (drop_one_more (x.column == 0) x (first_leaves xs) parts)))

mutual
  -- they are the leaves of what comes in the places of its leaves
  pub leaves-grafted : (shift : ℕ) (parts : List Derivation) (d : Derivation)
      → leaves_of (grafted shift parts d) ≡ flat_map leaves_of (in_places_of shift parts (leaves_of d))
  leaves-grafted shift parts (fact leaf) = sym (append-nil (leaves_of (in_place_of shift parts leaf)))
  leaves-grafted shift parts (ancestor i) = refl
  leaves-grafted shift parts (step number theta place ds) = all_leaves-grafted shift parts ds
  leaves-grafted shift parts (gap atom) = refl
  leaves-grafted shift parts open_place = refl

  pub all_leaves-grafted : (shift : ℕ) (parts : List Derivation) (ds : Derivations)
      → all_leaves_of (all_grafted shift parts ds) ≡ flat_map leaves_of (in_places_of shift parts (all_leaves_of ds))
  all_leaves-grafted shift parts none = refl
  all_leaves-grafted shift parts (also d ds) =
      let rest = drop (length (first_leaves (leaves_of d))) parts in
      ap (λ ls. ls ++ all_leaves_of (all_grafted shift rest ds)) (leaves-grafted shift parts d)
      ∙ ap (λ ls. flat_map leaves_of (in_places_of shift parts (leaves_of d)) ++ ls) (all_leaves-grafted shift rest ds)
      ∙ sym (flat_map-append leaves_of (in_places_of shift parts (leaves_of d)) (in_places_of shift rest (all_leaves_of ds)))
      ∙ ap (flat_map leaves_of) (sym (in_places-append shift parts (leaves_of d) (all_leaves_of ds)))

module _ (P : Leaf → Type 0) (shift : ℕ) where
  abbrev AreAll : Leaf → Derivation → Type 0
  AreAll leaf part = All P (leaves_of part)

  place_all : (leaf : Leaf) (parts : List Derivation) (is_first : Bool) → EachHas AreAll (cond is_first (leaf ∷ []) []) parts
      → (is_first ≡ false → P (raised shift leaf))
      → All P (leaves_of (cond is_first (slice_index_or parts 0 open_place) (fact (raised shift leaf))))
  place_all leaf [] true has rises = absurd has
  place_all leaf (part ∷ parts) true has rises = has.0
  place_all leaf parts false has rises = All-cons P (raised shift leaf) [] (rises refl) (All-nil P)

  mutual
    -- what holds of the leaves of the parts, and of those in later columns in their higher ones, holds of all
    pub grafted_leaves-all : (d : Derivation) (parts : List Derivation) → EachHas AreAll (first_leaves (leaves_of d)) parts
        → ((leaf : Leaf) → Contains (leaves_of d) leaf → (leaf.column == 0) ≡ false → P (raised shift leaf))
        → All P (leaves_of (grafted shift parts d))
    grafted_leaves-all (fact leaf) parts has rise = place_all leaf parts (leaf.column == 0) has (rise leaf (Contains-first leaf []))
    grafted_leaves-all (ancestor i) parts has rise = All-nil P
    grafted_leaves-all (step number theta place ds) parts has rise = all_grafted_leaves-all ds parts has rise
    grafted_leaves-all (gap atom) parts has rise = All-nil P
    grafted_leaves-all open_place parts has rise = All-nil P

    pub all_grafted_leaves-all : (ds : Derivations) (parts : List Derivation) → EachHas AreAll (first_leaves (all_leaves_of ds)) parts
        → ((leaf : Leaf) → Contains (all_leaves_of ds) leaf → (leaf.column == 0) ≡ false → P (raised shift leaf))
        → All P (all_leaves_of (all_grafted shift parts ds))
    all_grafted_leaves-all none parts has rise = All-nil P
    all_grafted_leaves-all (also d ds) parts has rise =
        let both = each_has-both AreAll (leaves_of d) (all_leaves_of ds) parts has in
        let rest = drop (length (first_leaves (leaves_of d))) parts in
        All-append P (leaves_of (grafted shift parts d)) (all_leaves_of (all_grafted shift rest ds))
        (grafted_leaves-all d parts both.0 (λ leaf there. rise leaf (Contains-append_left (leaves_of d) (all_leaves_of ds) leaf there)))
        (all_grafted_leaves-all ds rest both.1 (λ leaf there. rise leaf
        (Contains-append_right (leaves_of d) (all_leaves_of ds) leaf there)))
