-- The atoms that gaps close are ground atoms of the problem.
use Rattle.std.specs.Prelude.{◌≡◌, ◌<◌, ℕ, List, [], ◌∷◌, length, remove, slice_index_or, All, Contains}
use Rattle.std.proofs.lemmas.List.{length-map}
use Rattle.px_terms.specs.Substitution.{substitute_atom}
use Rattle.std.proofs.Common.{suc, ◌∙◌, sym, subst, inl, inr}
use Rattle.std.proofs.lemmas.List.Elements.{All-head, All-tail, All-map, All-take, All-drop, All-append, Contains-append_cases}
use Rattle.px_base.specs.ListLaws.{Contains-none, Contains-one, All-at, All-each}
use Rattle.px_terms.specs.declared.atom.Atom.{Atom}
use Rattle.px_terms.specs.declared.clause.Clause.{Clause}
use Rattle.px_terms.specs.declared.clause.Lit.{Lit}
use Rattle.px_terms.specs.declared.problem.Problem.{Problem}
use Rattle.px_terms.specs.declared.term.Term.{Term}
use Rattle.px_terms.specs.declared.term.Term.TheVariants.{Obj, Var, Any}
use Rattle.px_terms.specs.Validity.{IsValid, IsAtomOf, IsAxiomOf, IsTermOf}
use Rattle.px_terms.specs.ValidityLaws.{atom-is_of}
use Rattle.px_proof.specs.Derivation.{Derivation, Derivations, fact, ancestor, step, gap, open_place, none, also}
use Rattle.px_proof.specs.Literals.{complement_of, positive_of, substitute_literal}
use Rattle.px_proof.specs.PlaceLaws.{All-got}
use Rattle.px_proof.specs.Proves.{Proves, ProvesEach, UsesClause, instance_of, parts_of}
use Rattle.px_question.specs.declared.gap_list.GapList.{GapList}
use Rattle.px_question.specs.Answers.{literals_of, object_terms}
use Rattle.px_question.specs.Gaps.{gaps_of, all_gaps_of}
use Rattle.px_terms.specs.Language.{IsObjectBelow}
use Rattle.px_question.specs.Settings.{loose_gaps_in, setting_of}
use Rattle.px_gaps.proofs.ClosedLists.{AreClosedLists}

object-is_term : (problem : Problem) (t : Term) → IsObjectBelow problem.objects t → IsTermOf problem 0 t
object-is_term problem (Obj n) below = below
object-is_term problem (Var v) below = absurd below
object-is_term problem Any below = absurd below

abbrev IsLiteralOf : Problem → Lit → Type 0
IsLiteralOf problem lit = IsAtomOf problem 0 lit.atom

pub All_remove : {X : Type 0} (P : X → Type 0) (xs : List X) (k : ℕ) → All P xs → All P (remove xs k)
All_remove P xs k all =
    All-each P (remove xs k) (λ q has. All-at P (remove xs k) q (All-append P _ _ (All-take P k xs all) (All-drop P (suc k) xs all)) has)

-- the objects as terms of the problem
pub object_terms-are : (problem : Problem) (objects : List ℕ) → All (λ n. n < problem.objects) objects
    → All (IsTermOf problem 0) (object_terms objects)
object_terms-are problem objects below = All-map (IsTermOf problem 0) (λ n. Obj n) objects below

pub length-objects : (objects : List ℕ) (variable_count : ℕ) → length objects ≡ variable_count → length (object_terms objects) ≡ variable_count
length-objects objects variable_count count = length-map objects (λ n. Obj n) ∙ count

module _ (problem : Problem) (valid : IsValid problem) (facts : List Atom) where
  parts-are : (path : List Lit) (lit : Lit) (number : ℕ) (theta : List Term) (place : ℕ) (clause : Clause)
      → UsesClause (IsObjectBelow problem.objects) problem.axioms lit number theta place clause
      → All (IsLiteralOf problem) (parts_of clause.lits theta place)
  parts-are path lit number theta place clause uses =
      let of : IsAxiomOf problem clause = All-got (IsAxiomOf problem) problem.axioms number clause valid.axioms uses.axiom_at in
      let objects : All (IsTermOf problem 0) theta = λ k d below. object-is_term problem _ (uses.choices k d below) in
      let lits : All (λ (l : Lit). IsAtomOf problem (length theta) l.atom) clause.lits =
      subst (λ (n : ℕ). All (λ (l : Lit). IsAtomOf problem n l.atom) clause.lits) (sym uses.terms) of.lits in
      let whole : All (IsLiteralOf problem) (instance_of clause.lits theta) =
      All-map (IsLiteralOf problem) (substitute_literal theta) clause.lits
      (λ k d below. atom-is_of problem theta objects _ (lits k d below)) in
      All-map (IsLiteralOf problem) complement_of (remove (instance_of clause.lits theta) place)
      (All_remove (IsLiteralOf problem) (instance_of clause.lits theta) place whole)

  mutual
    gap-is_of : (path : List Lit) (lit : Lit) (d : Derivation) (atom : Atom)
        → Proves (loose_gaps_in (setting_of problem facts)) problem.axioms path lit d → IsLiteralOf problem lit → Contains (gaps_of d) atom
        → IsAtomOf problem 0 atom
    gap-is_of path lit (fact leaf) atom proved of has = absurd (Contains-none atom has)
    gap-is_of path lit (ancestor i) atom proved of has = absurd (Contains-none atom has)
    gap-is_of path lit (step number theta place parts) atom proved of has =
        gaps-are_of (lit ∷ path) (parts_of proved.0.lits theta place) parts atom proved.2
        (parts-are path lit number theta place proved.0 proved.1) has
    gap-is_of path lit (gap closed) atom proved of has =
        subst (IsAtomOf problem 0) (Contains-one closed atom has) (subst (IsLiteralOf problem) proved.0 of)
    gap-is_of path lit open_place atom proved of has = absurd (Contains-none atom has)

    gaps-are_of : (path lits : List Lit) (ds : Derivations) (atom : Atom)
        → ProvesEach (loose_gaps_in (setting_of problem facts)) problem.axioms path lits ds → All (IsLiteralOf problem) lits
        → Contains (all_gaps_of ds) atom → IsAtomOf problem 0 atom
    gaps-are_of path [] none atom each of has = absurd (Contains-none atom has)
    gaps-are_of path (lit ∷ lits) (also d ds) atom each of has = elim (Contains-append_cases (gaps_of d) (all_gaps_of ds) atom has) [
      | inl here ↦ gap-is_of path lit d atom each.0 (All-head (IsLiteralOf problem) lit lits of) here
      | inr later ↦ gaps-are_of path lits ds atom each.1 (All-tail (IsLiteralOf problem) lit lits of) later
    ]
    gaps-are_of path [] (also d ds) atom each of has = absurd each
    gaps-are_of path (lit ∷ lits) none atom each of has = absurd each

  pub literals-are : (formula : List Atom) (variable_count : ℕ) (objects : List ℕ) → All (IsAtomOf problem variable_count) formula → length objects ≡ variable_count
      → All (λ n. n < problem.objects) objects → All (IsLiteralOf problem) (literals_of formula objects)
  literals-are formula variable_count objects of count below =
      let same : length (object_terms objects) ≡ variable_count = length-objects objects variable_count count in
      All-map (IsLiteralOf problem) (λ atom. positive_of (substitute_atom (object_terms objects) atom)) formula
      (λ k d within. atom-is_of problem (object_terms objects) (object_terms-are problem objects below) _
      (subst (λ (n : ℕ). IsAtomOf problem n (slice_index_or formula k d)) (sym same) (of k d within)))

  -- what gaps of a formula of the problem close are atoms of the problem
  pub listed-are : (formula : List Atom) (variable_count : ℕ) (lists : List GapList) → All (IsAtomOf problem variable_count) formula
      → AreClosedLists (setting_of problem facts) formula variable_count lists
      → (list : GapList) → Contains lists list → All (IsAtomOf problem 0) list.gaps
  listed-are formula variable_count lists of are list has =
      let known = are.from list has in
      let proofs = known.1.1 in
      All-each (IsAtomOf problem 0) list.gaps (λ atom closed.
      gaps-are_of [] (literals_of formula known.0) known.1.0 atom proofs.proved
      (literals-are formula variable_count known.0 of proofs.count proofs.below) ((known.1.2 atom).0 closed))
