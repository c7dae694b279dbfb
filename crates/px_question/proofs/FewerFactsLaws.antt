-- A question from fewer facts has no more shapes: each leaf finds its atom among the other facts, and the place of an atom among its
-- own facts is given back by the place among the others.
use Rattle.std.proofs.Common.{◌≡◌, ◌∙◌, ℕ, zero, suc, ◌+◌, ◌≤◌, Bool, true, false, Option, Some, None, List, [], ◌∷◌, ◌++◌, max, refl, ap, sym, subst, inl, inr}
use Rattle.std.specs.Prelude.{All, Contains, cond, map, slice_get}
use Rattle.std.specs.Cmp.{tied_itself}
use Rattle.std.specs.List.Sorted.{IsStrictlySortedBy}
use Rattle.std.specs.declared.cmp.Ordering.{Ordering}
use Rattle.std.specs.declared.cmp.Ordering.TheVariants.{Less, Equal}
use Rattle.std.proofs.lemmas.List.{length-map, map-append}
use Rattle.px_base.specs.ListLaws.{All-at, AllByRecursion-at, Contains-none, Contains-cases}
use Rattle.px_terms.specs.AtomSets.{IsAtomSet}
use Rattle.px_terms.specs.Order.{atom_cmp, atom_eq}
use Rattle.px_terms.specs.OrderLaws.{atom_cmp-total, atom_eq-decides}
use Rattle.px_terms.specs.declared.atom.Atom.{Atom}
use Rattle.px_terms.specs.declared.clause.Clause.{Clause}
use Rattle.px_terms.specs.declared.clause.Lit.{Lit}
use Rattle.px_proof.specs.declared.proof.Leaf.{Leaf}
use Rattle.px_proof.specs.declared.shape.Tick.{Tick}
use Rattle.px_proof.specs.declared.shape.Tick.TheVariants.{Fact, Anc, Step, Gap, Open}
use Rattle.px_proof.specs.Derivation.{Derivation, Derivations, fact, ancestor, step, gap, open_place, none, also, height, greatest_height}
use Rattle.px_base.specs.Answers.{some_same}
use Rattle.px_proof.specs.PlaceLaws.{Contains-mapped}
use Rattle.px_proof.specs.Proves.{Rules, Proves, ProvesEach, or_open, parts_of}
use Rattle.px_proof.specs.ProvesLaws.{Allows}
use Rattle.px_proof.specs.Shapes.{IsUnfinished, OnlyOpen, ticks, ticks_of}
use Rattle.px_question.specs.Answers.{IsList, literals_of}
use Rattle.px_question.specs.FewerFacts.{FewerFactsHaveNoMore, all_placed_in, leaf_in, place_among_facts, placed_in, with_facts}
use Rattle.px_question.specs.FewerShapes.{Contains-at}
use Rattle.px_question.specs.Limits.{AreFewerThan, IsPartialShape}
use Rattle.px_question.specs.Settings.{Setting, loose_gaps_in, proofs_in}

-- ---- places of atoms

never : {G : Type 0} (b : Bool) → b ≡ false → b ≡ true → G
never b f t = cc

less_itself : {G : Type 0} → ◌≡◌ {A = Ordering} Less Equal → G
less_itself e = cc

-- at its place stands the atom
place_among_facts-at : (atoms : List Atom) (atom : Atom) → Contains atoms atom → slice_get atoms (place_among_facts atoms atom) ≡ Some atom
place_among_facts-at [] atom has = absurd (Contains-none atom has)
place_among_facts-at (x ∷ xs) atom has =
    elim (atom_eq x atom) as (λ b. atom_eq x atom ≡ b → slice_get (x ∷ xs) (cond b 0 (suc (place_among_facts xs atom))) ≡ Some atom) [
      | true ↦ λ same. ap (λ a. Some a) ((atom_eq-decides x atom).0 same)
      | false ↦ λ differ. elim (Contains-cases x xs atom has) [
        | inl is ↦ never (atom_eq x atom) differ ((atom_eq-decides x atom).1 is)
        | inr later ↦ place_among_facts-at xs atom later
      ]
    ] refl

-- and in a set it stands nowhere else
pub place_among_facts-one : (atoms : List Atom) → IsAtomSet atoms → (i : ℕ) (atom : Atom) → slice_get atoms i ≡ Some atom
    → place_among_facts atoms atom ≡ i
unfolding IsStrictlySortedBy
place_among_facts-one [] set i atom at = absurd (cc)
place_among_facts-one (x ∷ xs) set zero atom at =
    ap (λ b. cond b 0 (suc (place_among_facts xs atom))) ((atom_eq-decides x atom).1 (some_same at))
place_among_facts-one (x ∷ xs) set (suc i) atom at =
    elim (atom_eq x atom) as (λ b. atom_eq x atom ≡ b → cond b 0 (suc (place_among_facts xs atom)) ≡ suc i) [
      | true ↦ λ same.
          less_itself (sym (AllByRecursion-at (λ y. atom_cmp x y ≡ Less) xs atom set.0 (Contains-at xs i atom at))
          ∙ ap (atom_cmp x) (sym ((atom_eq-decides x atom).0 same)) ∙ tied_itself atom_cmp-total x)
      | false ↦ λ differ. ap suc (place_among_facts-one xs set.1 i atom at)
    ] refl

-- ---- placed derivations

mutual
  placed-height : (atoms : List Atom) (d : Derivation) → height (placed_in atoms d) ≡ height d
  placed-height atoms (fact leaf) = refl
  placed-height atoms (ancestor i) = refl
  placed-height atoms (step number theta place parts) = ap (λ (n : ℕ). 1 + n) (all_placed-height atoms parts)
  placed-height atoms (gap atom) = refl
  placed-height atoms open_place = refl

  all_placed-height : (atoms : List Atom) (ds : Derivations) → greatest_height (all_placed_in atoms ds) ≡ greatest_height ds
  all_placed-height atoms none = refl
  all_placed-height atoms (also d ds) = λ i. max (placed-height atoms d i) (all_placed-height atoms ds i)

module _ (axioms : List Clause) (old new : Rules) (allows : Allows old new) (atoms : List Atom)
    (facts : (leaf : Leaf) → old.IsFact leaf → new.IsFact (leaf_in atoms leaf)) where
  mutual
    placed-proves : (path : List Lit) (lit : Lit) (d : Derivation) → Proves old axioms path lit d
        → Proves new axioms path lit (placed_in atoms d)
    placed-proves path lit (fact leaf) proved = (proved.0, facts leaf proved.1)
    placed-proves path lit (ancestor i) proved = proved
    placed-proves path lit (step number theta place parts) proved = (
      proved.0,
      record {
        axiom_at = proved.1.axiom_at;
        terms = proved.1.terms;
        choices = λ k d below. allows.choices _ (proved.1.choices k d below);
        literal_at = proved.1.literal_at;
      },
      all_placed-prove (lit ∷ path) (parts_of proved.0.lits theta place) parts proved.2,
    )
    placed-proves path lit (gap atom) proved = (proved.0, allows.gaps atom proved.1)
    placed-proves path lit open_place proved = allows.opens proved

    all_placed-prove : (path lits : List Lit) (ds : Derivations) → ProvesEach old axioms path lits ds
        → ProvesEach new axioms path lits (all_placed_in atoms ds)
    all_placed-prove path [] none each = tt
    all_placed-prove path (lit ∷ lits) (also d ds) each = (placed-proves path lit d each.0, all_placed-prove path lits ds each.1)
    all_placed-prove path [] (also d ds) each = absurd each
    all_placed-prove path (lit ∷ lits) none each = absurd each

-- ---- the ticks, there and back

abbrev place_of : List Atom → Option Atom → ℕ
place_of atoms None = 0
place_of atoms (Some atom) = place_among_facts atoms atom

-- the tick of the same atom among the fewer facts
abbrev back : (fewer many : List Atom) → Tick → Tick
back fewer many Open = Open
back fewer many (Fact i) = Fact (place_of fewer (slice_get many i))
back fewer many (Anc i) = Anc i
back fewer many (Step number place) = Step number place
back fewer many Gap = Gap

only_open-back : (fewer many : List Atom) (shape : List Tick) → OnlyOpen (map (back fewer many) shape) → OnlyOpen shape
only_open-back fewer many [] only = tt
only_open-back fewer many (Open ∷ shape) only = only_open-back fewer many shape only
only_open-back fewer many (Fact i ∷ shape) only = absurd only
only_open-back fewer many (Anc i ∷ shape) only = absurd only
only_open-back fewer many (Step number place ∷ shape) only = absurd only
only_open-back fewer many (Gap ∷ shape) only = absurd only

unfinished-back : (fewer many : List Atom) (shape : List Tick) → IsUnfinished (map (back fewer many) shape) → IsUnfinished shape
unfinished-back fewer many [] unfinished = unfinished
unfinished-back fewer many (Open ∷ shape) unfinished = only_open-back fewer many shape unfinished
unfinished-back fewer many (Fact i ∷ shape) unfinished = unfinished-back fewer many shape unfinished
unfinished-back fewer many (Anc i ∷ shape) unfinished = unfinished-back fewer many shape unfinished
unfinished-back fewer many (Step number place ∷ shape) unfinished = unfinished-back fewer many shape unfinished
unfinished-back fewer many (Gap ∷ shape) unfinished = unfinished-back fewer many shape unfinished

module _ (axioms : List Clause) (rules : Rules) (fewer many : List Atom) (among : All (Contains many) fewer) (set : IsAtomSet fewer)
    (at_places : (leaf : Leaf) → rules.IsFact leaf → slice_get fewer leaf.index ≡ Some leaf.atom) where
  mutual
    placed-ticks : (path : List Lit) (lit : Lit) (d : Derivation) → Proves rules axioms path lit d
        → map (back fewer many) (ticks (placed_in many d)) ≡ ticks d
    placed-ticks path lit (fact leaf) proved =
        let here = at_places leaf proved.1 in
        ap (λ (i : ℕ). Fact i ∷ []) (ap (place_of fewer)
        (place_among_facts-at many leaf.atom (All-at (Contains many) fewer leaf.atom among (Contains-at fewer leaf.index leaf.atom here)))
        ∙ place_among_facts-one fewer set leaf.index leaf.atom here)
    placed-ticks path lit (ancestor i) proved = refl
    placed-ticks path lit (step number theta place parts) proved =
        ap (λ (l : List Tick). Step number place ∷ l) (all_placed-ticks (lit ∷ path) (parts_of proved.0.lits theta place) parts proved.2)
    placed-ticks path lit (gap atom) proved = refl
    placed-ticks path lit open_place proved = refl

    all_placed-ticks : (path lits : List Lit) (ds : Derivations) → ProvesEach rules axioms path lits ds
        → map (back fewer many) (ticks_of (all_placed_in many ds)) ≡ ticks_of ds
    all_placed-ticks path [] none each = refl
    all_placed-ticks path (lit ∷ lits) (also d ds) each =
        map-append (back fewer many) (ticks (placed_in many d)) (ticks_of (all_placed_in many ds))
        ∙ (λ i. placed-ticks path lit d each.0 i ++ all_placed-ticks path lits ds each.1 i)
    all_placed-ticks path [] (also d ds) each = absurd each
    all_placed-ticks path (lit ∷ lits) none each = absurd each

-- ---- lists and their shapes

module _ (s : Setting) (fewer formula : List Atom) (variable_count : ℕ) (among : All (Contains s.facts) fewer) (old new : Rules)
    (allows : Allows old new)
    (at_places : (leaf : Leaf) → old.IsFact leaf → (leaf.column ≡ 0) × (slice_get fewer leaf.index ≡ Some leaf.atom))
    (facts : (leaf : Leaf) → (leaf.column ≡ 0) × (slice_get s.facts leaf.index ≡ Some leaf.atom) → new.IsFact leaf) where
  leaf-placed : (leaf : Leaf) → old.IsFact leaf → new.IsFact (leaf_in s.facts leaf)
  leaf-placed leaf is =
      let at = at_places leaf is in
      facts (leaf_in s.facts leaf) (
        at.0,
        place_among_facts-at s.facts leaf.atom (All-at (Contains s.facts) fewer leaf.atom among
            (Contains-at fewer leaf.index leaf.atom at.1)),
      )

  list-placed : (objects : List ℕ) (ds : Derivations) → IsList old (with_facts s fewer) formula variable_count objects ds
      → IsList new s formula variable_count objects (all_placed_in s.facts ds)
  list-placed objects ds is = record {
    count = is.count;
    below = is.below;
    proved = all_placed-prove s.axioms old new allows s.facts leaf-placed [] (literals_of formula objects) ds is.proved;
    low = subst (λ (n : ℕ). n ≤ s.height) (sym (all_placed-height s.facts ds)) is.low;
  }

module _ (s : Setting) (fewer formula : List Atom) (variable_count : ℕ) (among : All (Contains s.facts) fewer) (set : IsAtomSet fewer)
    (old new : Rules) (allows : Allows old new)
    (at_places : (leaf : Leaf) → old.IsFact leaf → (leaf.column ≡ 0) × (slice_get fewer leaf.index ≡ Some leaf.atom))
    (facts : (leaf : Leaf) → (leaf.column ≡ 0) × (slice_get s.facts leaf.index ≡ Some leaf.atom) → new.IsFact leaf) where
  shape-placed : (shape : List Tick) → IsPartialShape old (with_facts s fewer) formula variable_count shape
      → (more : List Tick) × IsPartialShape new s formula variable_count more × (map (back fewer s.facts) more ≡ shape)
  shape-placed shape (unfinished, (objects, ds, is, same)) =
      let goes =
      all_placed-ticks s.axioms (or_open old) fewer s.facts among set (λ leaf h. (at_places leaf h).1) []
      (literals_of formula objects) ds is.proved ∙ same in (
        ticks_of (all_placed_in s.facts ds),
        (
          unfinished-back fewer s.facts (ticks_of (all_placed_in s.facts ds)) (subst IsUnfinished (sym goes) unfinished),
          (
            objects,
            all_placed_in s.facts ds,
            list-placed s fewer formula variable_count among (or_open old) (or_open new)
                (record { choices = allows.choices; gaps = allows.gaps; opens = λ h. h }) at_places facts objects ds is,
            refl,
          ),
        ),
        goes,
      )

  few-placed : (count : ℕ) → AreFewerThan (IsPartialShape new s formula variable_count) count
      → AreFewerThan (IsPartialShape old (with_facts s fewer) formula variable_count) count
  few-placed count few = record {
    seen = map (map (back fewer s.facts)) few.seen;
    fewer = subst (λ (n : ℕ). suc n ≤ count) (sym (length-map few.seen (map (back fewer s.facts)))) few.fewer;
    all = λ shape partial.
        let more = shape-placed shape partial in
        subst (Contains (map (map (back fewer s.facts)) few.seen)) more.2
        (Contains-mapped (map (back fewer s.facts)) few.seen more.0 (few.all more.0 more.1));
  }

proofs_allow : (s : Setting) (fewer : List Atom) → Allows (proofs_in (with_facts s fewer)) (proofs_in s)
proofs_allow s fewer = record { choices = λ t h. h; gaps = λ atom h. h; opens = λ h. h }

gaps_allow : (s : Setting) (fewer : List Atom) → Allows (loose_gaps_in (with_facts s fewer)) (loose_gaps_in s)
gaps_allow s fewer = record { choices = λ t h. h; gaps = λ atom h. h; opens = λ h. h }

pub fewer_facts-have_no_more : FewerFactsHaveNoMore
fewer_facts-have_no_more = record {
  proofs = λ s fewer formula variable_count objects ds among.
      list-placed s fewer formula variable_count among (proofs_in (with_facts s fewer)) (proofs_in s) (proofs_allow s fewer) (λ leaf h. h)
      (λ leaf h. h) objects ds;
  gap_proofs = λ s fewer formula variable_count objects ds among.
      list-placed s fewer formula variable_count among (loose_gaps_in (with_facts s fewer)) (loose_gaps_in s) (gaps_allow s fewer) (λ leaf h. h)
      (λ leaf h. h) objects ds;
  shapes = λ s fewer formula variable_count among set.
      few-placed s fewer formula variable_count among set (proofs_in (with_facts s fewer)) (proofs_in s) (proofs_allow s fewer) (λ leaf h. h)
      (λ leaf h. h) s.limit;
  gap_shapes = λ s fewer formula variable_count among set.
      few-placed s fewer formula variable_count among set (loose_gaps_in (with_facts s fewer)) (loose_gaps_in s) (gaps_allow s fewer) (λ leaf h. h)
      (λ leaf h. h) s.limit;
}
