-- Proofs from facts are proofs from others with the same deciding facts, and so are gap proofs of atoms without variables. Axioms speak of
-- deciding predicates alone, so all that stands in a step is deciding. An atom that isn't is closed by a fact or a gap, with no step.
use Rattle.std.proofs.Common.{◌≡◌, ◌∙◌, ℕ, ◌+◌, ◌≤◌, max, List, [], ◌∷◌, refl, ap, sym, subst, inl, inr, arith}
use Rattle.std.specs.Prelude.{All, Any, Contains, remove}
use Rattle.std.proofs.lemmas.List.Elements.{All-cons, All-head, All-map, All-nil, All-tail}
use Rattle.px_base.specs.ListLaws.{All-each}
use Rattle.px_terms.specs.Instances.{IsGround}
use Rattle.px_terms.specs.Substitution.{substitute_atom}
use Rattle.px_terms.specs.declared.atom.Atom.{Atom}
use Rattle.px_terms.specs.declared.clause.Clause.{Clause}
use Rattle.px_terms.specs.declared.clause.Lit.{Lit}
use Rattle.px_terms.specs.declared.problem.Problem.{Problem}
use Rattle.px_terms.specs.declared.term.Term.{Term}
use Rattle.px_proof.specs.declared.proof.Leaf.{Leaf}
use Rattle.px_proof.specs.Derivation.{Derivation, Derivations, fact, ancestor, step, gap, open_place, none, also, greatest_height, height}
use Rattle.px_proof.specs.Literals.{complement_of, positive_of, substitute_literal}
use Rattle.px_proof.specs.PlaceLaws.{All-got, slice_get-within}
use Rattle.px_proof.specs.Proves.{Proves, ProvesEach, Rules, UsesClause, instance_of, parts_of, with_gaps}
use Rattle.px_question.specs.Answers.{IsProvable, literals_of, object_terms}
use Rattle.px_question.specs.FewerShapes.{Contains-at}
use Rattle.px_question.specs.Gaps.{gaps_in}
use Rattle.px_question.specs.Settings.{IsAddableIn, Setting, proofs_in, setting_of}
use Rattle.px_question.proofs.ListedProofs.{finite-gaps}
use Rattle.px_gaps.specs.Concluding.{IsConcluded}
use Rattle.px_entries.specs.Deciding.{DecideAlike, IsDeciding, IsMentioned}
use Rattle.px_entries.specs.Rest.{IsOnlyAdded}
use Rattle.px_gaps.proofs.AddableLaws.{addable-alike}
use Rattle.px_gaps.proofs.FactLemmas.{provable-fact}
use Rattle.px_gaps.proofs.GapAtoms.{All_remove}
use Rattle.px_entries.proofs.RestLaws.{among-or-not, closed-by, leaf-of}
use Rattle.px_gaps.proofs.Grows.{of-any}

-- ---- what axioms mention

pub concluded-mentioned : (axioms : List Clause) (pred : ℕ) → IsConcluded axioms pred → IsMentioned axioms pred
concluded-mentioned axioms pred a = let b = a.4 in (a.0, a.1, a.2, a.3, (b.0, b.1, b.2, b.3, b.4.1))

module _ (axioms : List Clause) where
  abbrev Mentions : Lit → Type 0
  Mentions lit = IsMentioned axioms lit.atom.pred

  in-clause : (clause : Clause) → Contains axioms clause → (lit : Lit) → Contains clause.lits lit → Mentions lit
  in-clause clause there lit has =
      of-any (λ (c : Clause). Any (λ (l : Lit). l.atom.pred ≡ lit.atom.pred) c.lits) axioms clause there
      (of-any (λ (l : Lit). l.atom.pred ≡ lit.atom.pred) clause.lits lit has refl)

  module _ (IsChoice : Term → Type 0) (lit : Lit) (number : ℕ) (theta : List Term) (place : ℕ) (clause : Clause)
      (uses : UsesClause IsChoice axioms lit number theta place clause) where
    instance-mentioned : All Mentions (instance_of clause.lits theta)
    instance-mentioned =
        All-map Mentions (substitute_literal theta) clause.lits
        (All-each (λ (l : Lit). Mentions (substitute_literal theta l)) clause.lits
        (λ l has. in-clause clause (Contains-at axioms number clause uses.axiom_at) l has))

    -- axioms mention the literal that a step closes
    pub step-mentioned : Mentions lit
    step-mentioned = All-got Mentions (instance_of clause.lits theta) place lit instance-mentioned uses.literal_at

    -- and those that it leaves to be proved
    pub parts-mentioned : All Mentions (parts_of clause.lits theta place)
    parts-mentioned =
        All-map Mentions complement_of (remove (instance_of clause.lits theta) place)
        (All_remove Mentions (instance_of clause.lits theta) place instance-mentioned)

-- ---- proofs of deciding literals

module _ (problem : Problem) (facts others : List Atom)
    (among : (atom : Atom) → IsDeciding problem atom → Contains facts atom → Contains others atom)
    (IsGap IsOther : Atom → Type 0) (gaps : (atom : Atom) → IsDeciding problem atom → IsGap atom → IsOther atom) where
  abbrev old : Rules
  old = with_gaps IsGap (proofs_in (setting_of problem facts))

  abbrev new : Rules
  new = with_gaps IsOther (proofs_in (setting_of problem others))

  abbrev Decides : Lit → Type 0
  Decides lit = IsDeciding problem lit.atom

  -- a derivation of the same height by the other rules
  abbrev Carried : List Lit → Lit → Derivation → Type 0
  Carried path lit d = (e : Derivation) × Proves new problem.axioms path lit e × (height e ≡ height d)

  abbrev AllCarried : List Lit → List Lit → Derivations → Type 0
  AllCarried path lits ds = (es : Derivations) × ProvesEach new problem.axioms path lits es × (greatest_height es ≡ greatest_height ds)

  carried-fact : (path : List Lit) (lit : Lit) (leaf : Leaf) → Decides lit → lit ≡ positive_of leaf.atom → Contains facts leaf.atom
      → Carried path lit (fact leaf)
  carried-fact path lit leaf decides same has =
      let other = leaf-of problem others [] leaf.atom (among leaf.atom (subst Decides same decides) has) in
      (fact other.0, (same ∙ other.1, other.2), refl)

  put-first : (path : List Lit) (lit : Lit) (lits : List Lit) (d : Derivation) (ds : Derivations) → Carried path lit d
      → AllCarried path lits ds → AllCarried path (lit ∷ lits) (also d ds)
  put-first path lit lits d ds (e, proves, high) (es, each, highs) = (also e es, (proves, each), λ i. max (high i) (highs i))

  mutual
    carried : (path : List Lit) (lit : Lit) (d : Derivation) → Decides lit → Proves old problem.axioms path lit d → Carried path lit d
    carried path lit (fact leaf) decides proved =
        carried-fact path lit leaf decides proved.0 (Contains-at facts leaf.index leaf.atom proved.1.1)
    carried path lit (ancestor i) decides proved = (ancestor i, proved, refl)
    carried path lit (step number theta place parts) decides proved =
        let mentioned = parts-mentioned problem.axioms old.IsChoice lit number theta place proved.0 proved.1 in
        let rest = all-carried (lit ∷ path) (parts_of proved.0.lits theta place) parts (λ k d below. inr (mentioned k d below)) proved.2 in
        (step number theta place rest.0, (proved.0, proved.1, rest.1), ap (λ (n : ℕ). 1 + n) rest.2)
    carried path lit (gap atom) decides proved = (gap atom, (proved.0, gaps atom (subst Decides proved.0 decides) proved.1), refl)
    carried path lit open_place decides proved = absurd proved

    all-carried : (path lits : List Lit) (ds : Derivations) → All Decides lits → ProvesEach old problem.axioms path lits ds
        → AllCarried path lits ds
    all-carried path [] none decide each = (none, tt, refl)
    all-carried path (lit ∷ lits) (also d ds) decide each =
        put-first path lit lits d ds (carried path lit d (All-head Decides lit lits decide) each.0)
        (all-carried path lits ds (All-tail Decides lit lits decide) each.1)
    all-carried path [] (also d ds) decide each = absurd each
    all-carried path (lit ∷ lits) none decide each = absurd each

-- ---- gap proofs

module _ (problem : Problem) (facts others : List Atom) (alike : DecideAlike problem facts others) where
  abbrev here : Setting
  here = setting_of problem facts

  abbrev there : Setting
  there = setting_of problem others

  -- what is deciding and provable from the others is provable here
  provable-back : (q : Atom) → IsDeciding problem q → IsProvable there q → IsProvable here q
  provable-back q decides (objects, ds, list) =
      let IsTaken = λ (lit : Lit). IsDeciding problem lit.atom in
      let made =
      all-carried problem others facts (λ atom is. (alike atom is).1) (λ atom. ⊥) (λ atom. ⊥) (λ atom is h. h) []
      (literals_of (q ∷ []) objects) ds
      (All-cons IsTaken (positive_of (substitute_atom (object_terms objects) q)) [] decides (All-nil IsTaken)) list.proved in (
        objects,
        made.0,
        record {
          count = list.count;
          below = list.below;
          proved = made.1;
          low = subst (λ (n : ℕ). n ≤ problem.height) (sym made.2) list.low;
        },
      )

  abbrev IsGapHere : Atom → Type 0
  IsGapHere atom = IsAddableIn here atom × (¬ IsProvable here atom)

  abbrev IsGapThere : Atom → Type 0
  IsGapThere atom = IsAddableIn there atom × (¬ IsProvable there atom)

  gap-stays : (atom : Atom) → IsDeciding problem atom → IsGapHere atom → IsGapThere atom
  gap-stays atom decides (addable, never) = (addable, λ proved. never (provable-back atom decides proved))

  -- what isn't deciding is added by an operator, and no axiom concludes it
  only-added : (q : Atom) → (¬ IsDeciding problem q) → IsOnlyAdded problem q
  only-added q free = (
    elim ((finite-gaps there).gaps q) [
      | inl addable ↦ (addable-alike problem others q).1 addable
      | inr never ↦ absurd (free (inl (λ addable. never ((addable-alike problem others q).0 addable))))
    ],
    λ concluded. free (inr (concluded-mentioned problem.axioms q.pred concluded)),
  )

  abbrev Regapped : Atom → ℕ → Type 0
  Regapped q high = (e : Derivation) × Proves (gaps_in there) problem.axioms [] (positive_of q) e × (height e ≡ high)

  leaf-there : (q : Atom) → Contains others q → Regapped q 1
  leaf-there q has = let leaf = leaf-of problem others [] q has in (fact leaf.0, (leaf.1, leaf.2), refl)

  regapped-fact : (q : Atom) → IsGround q → Contains facts q → Regapped q 1
  regapped-fact q closed has = elim (among-or-not others q) [
    | inl also_there ↦ leaf-there q also_there
    | inr never ↦ closed-by problem others [] q closed (only-added q (λ decides. never ((alike q decides).0 has)))
  ]

  regapped-gap : (q : Atom) → IsGround q → IsGapHere q → Regapped q 1
  regapped-gap q closed (addable, unproved) = elim (among-or-not others q) [
    | inl has ↦ leaf-there q has
    | inr never ↦ (
      gap q,
      (
        refl,
        (
          addable,
          λ proved. never (provable-fact there q
              (λ concluded. unproved (provable-back q (inr (concluded-mentioned problem.axioms q.pred concluded)) proved)) closed proved),
        ),
      ),
      refl,
    )
  ]

  regapped : (q : Atom) → IsGround q → (d : Derivation) → Proves (gaps_in here) problem.axioms [] (positive_of q) d → Regapped q (height d)
  regapped q closed (fact leaf) proved =
      regapped-fact q closed (subst (Contains facts) (sym (ap (λ (l : Lit). l.atom) proved.0))
      (Contains-at facts leaf.index leaf.atom proved.1.1))
  regapped q closed (ancestor i) proved = absurd (omega (arith, slice_get-within {X = Lit} [] i _ proved))
  regapped q closed (step number theta place parts) proved =
      carried problem facts others (λ atom is. (alike atom is).0) IsGapHere IsGapThere gap-stays [] (positive_of q)
      (step number theta place parts)
      (inr (step-mentioned problem.axioms (gaps_in here).IsChoice (positive_of q) number theta place proved.0 proved.1)) proved
  regapped q closed (gap atom) proved = regapped-gap q closed (subst IsGapHere (sym (ap (λ (l : Lit). l.atom) proved.0)) proved.1)
  regapped q closed open_place proved = absurd proved

  module _ (objects : List ℕ) where
    abbrev IsClosed : Lit → Type 0
    IsClosed lit = IsGround lit.atom

    abbrev AllRegapped : List Atom → ℕ → Type 0
    AllRegapped formula high =
        (es : Derivations) × ProvesEach (gaps_in there) problem.axioms [] (literals_of formula objects) es × (greatest_height es ≡ high)

    put-next : (atom : Atom) (formula : List Atom) (high highs : ℕ) → Regapped (substitute_atom (object_terms objects) atom) high
        → AllRegapped formula highs → AllRegapped (atom ∷ formula) (max high highs)
    put-next atom formula high highs (e, proves, same) (es, each, sames) = (also e es, (proves, each), λ i. max (same i) (sames i))

    -- gap proofs of a formula become gap proofs from the others
    pub all-regapped : (formula : List Atom) → All IsClosed (literals_of formula objects) → (ds : Derivations)
        → ProvesEach (gaps_in here) problem.axioms [] (literals_of formula objects) ds → AllRegapped formula (greatest_height ds)
    all-regapped [] closed none each = (none, tt, refl)
    all-regapped (atom ∷ formula) closed (also d ds) each =
        let under = substitute_atom (object_terms objects) atom in
        put-next atom formula (height d) (greatest_height ds)
        (regapped under (All-head IsClosed (positive_of under) (literals_of formula objects) closed) d each.0)
        (all-regapped formula (All-tail IsClosed (positive_of under) (literals_of formula objects) closed) ds each.1)
    all-regapped [] closed (also d ds) each = absurd each
    all-regapped (atom ∷ formula) closed none each = absurd each
