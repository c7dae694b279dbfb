-- Derivations whose gaps are allowed by other rules.
use Rattle.std.specs.Prelude.{List, [], ◌∷◌, Contains}
use Rattle.std.proofs.Common.{subst, inl, inr}
use Rattle.std.proofs.lemmas.List.Elements.{Contains-append_left, Contains-append_right, Contains-append_cases}
use Rattle.px_base.specs.ListLaws.{Contains-none, Contains-one, Contains-first}
use Rattle.px_terms.specs.declared.atom.Atom.{Atom}
use Rattle.px_terms.specs.declared.clause.Clause.{Clause}
use Rattle.px_terms.specs.declared.clause.Lit.{Lit}
use Rattle.px_terms.specs.declared.term.Term.{Term}
use Rattle.px_proof.specs.declared.proof.Leaf.{Leaf}
use Rattle.px_proof.specs.Derivation.{Derivation, Derivations, fact, ancestor, step, gap, open_place, none, also}
use Rattle.px_proof.specs.Proves.{Rules, Proves, ProvesEach, parts_of}
use Rattle.px_question.specs.Gaps.{gaps_of, all_gaps_of}

-- each atom that a gap closes is one that the rules allow
mutual
  pub gap_allowed : (rules : Rules) (axioms : List Clause) (path : List Lit) (lit : Lit) (d : Derivation) (atom : Atom)
      → Proves rules axioms path lit d → Contains (gaps_of d) atom → rules.IsGap atom
  gap_allowed rules axioms path lit (fact leaf) atom proved has = absurd (Contains-none atom has)
  gap_allowed rules axioms path lit (ancestor i) atom proved has = absurd (Contains-none atom has)
  gap_allowed rules axioms path lit (step number theta place parts) atom proved has =
      each_gap_allowed rules axioms (lit ∷ path) (parts_of proved.0.lits theta place) parts atom proved.2 has
  gap_allowed rules axioms path lit (gap closed) atom proved has = subst rules.IsGap (Contains-one closed atom has) proved.1
  gap_allowed rules axioms path lit open_place atom proved has = absurd (Contains-none atom has)

  pub each_gap_allowed : (rules : Rules) (axioms : List Clause) (path lits : List Lit) (ds : Derivations) (atom : Atom)
      → ProvesEach rules axioms path lits ds → Contains (all_gaps_of ds) atom → rules.IsGap atom
  each_gap_allowed rules axioms path [] none atom each has = absurd (Contains-none atom has)
  each_gap_allowed rules axioms path (lit ∷ lits) (also d ds) atom each has =
      elim (Contains-append_cases (gaps_of d) (all_gaps_of ds) atom has) [
        | inl here ↦ gap_allowed rules axioms path lit d atom each.0 here
        | inr later ↦ each_gap_allowed rules axioms path lits ds atom each.1 later
      ]
  each_gap_allowed rules axioms path [] (also d ds) atom each has = absurd each
  each_gap_allowed rules axioms path (lit ∷ lits) none atom each has = absurd each

-- what the one rules allow beside gaps, the others allow
pub record AllowsBesideGaps (old new : Rules) : Type 0 where
  pub choices : (t : Term) → old.IsChoice t → new.IsChoice t
  pub facts : (leaf : Leaf) → old.IsFact leaf → new.IsFact leaf
  pub opens : old.IsOpen → new.IsOpen

module _ (axioms : List Clause) (old new : Rules) (allows : AllowsBesideGaps old new) where
  mutual
    -- it is enough that its own gaps are allowed
    pub by_own_gaps : (path : List Lit) (lit : Lit) (d : Derivation)
        → ((atom : Atom) → Contains (gaps_of d) atom → old.IsGap atom → new.IsGap atom) → Proves old axioms path lit d
        → Proves new axioms path lit d
    by_own_gaps path lit (fact leaf) gaps proved = (proved.0, allows.facts leaf proved.1)
    by_own_gaps path lit (ancestor i) gaps proved = proved
    by_own_gaps path lit (step number theta place parts) gaps proved = (
      proved.0,
      record {
        axiom_at = proved.1.axiom_at;
        terms = proved.1.terms;
        choices = λ k d below. allows.choices _ (proved.1.choices k d below);
        literal_at = proved.1.literal_at;
      },
      each_by_own_gaps (lit ∷ path) (parts_of proved.0.lits theta place) parts gaps proved.2,
    )
    by_own_gaps path lit (gap atom) gaps proved = (proved.0, gaps atom (Contains-first atom []) proved.1)
    by_own_gaps path lit open_place gaps proved = allows.opens proved

    pub each_by_own_gaps : (path lits : List Lit) (ds : Derivations)
        → ((atom : Atom) → Contains (all_gaps_of ds) atom → old.IsGap atom → new.IsGap atom) → ProvesEach old axioms path lits ds
        → ProvesEach new axioms path lits ds
    each_by_own_gaps path [] none gaps each = tt
    each_by_own_gaps path (lit ∷ lits) (also d ds) gaps each = (
      by_own_gaps path lit d (λ atom has. gaps atom (Contains-append_left (gaps_of d) (all_gaps_of ds) atom has)) each.0,
      each_by_own_gaps path lits ds (λ atom has. gaps atom (Contains-append_right (gaps_of d) (all_gaps_of ds) atom has)) each.1,
    )
    each_by_own_gaps path [] (also d ds) gaps each = absurd each
    each_by_own_gaps path (lit ∷ lits) none gaps each = absurd each
