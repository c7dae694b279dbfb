-- Facts that are passed over.
use Rattle.std.proofs.Common.{◌≡◌, ◌⊎◌, ℕ, zero, suc, ◌<◌, ◌≤◌, Bool, true, false, Some, List, length, slice_get, refl, ap, sym, ◌∙◌, arith, inl, inr}
use Rattle.std.proofs.lemmas.Bool.{cases_lt}
use Rattle.std.specs.Prelude.{All}
use Rattle.px_terms.specs.Language.{IsObject, IsObjectBelow}
use Rattle.px_terms.specs.declared.atom.Atom.{Atom}
use Rattle.px_terms.specs.declared.clause.Lit.{Lit}
use Rattle.px_terms.specs.declared.term.Term.{Term}
use Rattle.px_terms.specs.declared.term.Term.TheVariants.{Obj, Var, Any}
use Rattle.px_proof.specs.Literals.{positive_of}
use Rattle.px_proof_state.specs.declared.open.OpenGoal.{OpenGoal}
use Rattle.px_proof_state.specs.Ancestors.{TriesAncestor}
use Rattle.px_proof_state.specs.Apart.{AreApart, AreOneAtomUnder}
use Rattle.px_proof_state.specs.Beginnings.{HasNone}
use Rattle.px_proof_state.specs.Matches.{ClosesBy}
use Rattle.px_proof_state.specs.Ranges.{TriesRange, TriesFact, NeverEqual, NeverFact, ComesFact}
use Rattle.px_proof_state.specs.States.{ProofStateValue}
use Rattle.px_proof_state.proofs.Trying.{range-none}

object_is : (objects : ℕ) (t : Term) → IsObjectBelow objects t → IsObject t
object_is objects (Obj n) below = tt
object_is objects (Var v) below = absurd below
object_is objects Any below = absurd below

-- a fact that is apart from the atom to which the goal is followed never closes the goal
pub apart-never : (old : ProofStateValue) (goal : OpenGoal) (ends fact : Atom) → AreOneAtomUnder old.changes goal.lit.atom ends
    → AreApart ends fact → NeverEqual old goal.lit (positive_of fact)
apart-never old goal ends fact ends_are is_apart sigma fits same =
    is_apart sigma sigma (sym (ends_are sigma fits) ∙ ap (λ (l : Lit). l.atom) same)

module _ (objects : ℕ) (facts : List Atom) (old : ProofStateValue) (goal : OpenGoal) (ends : Atom)
    (ends_are : AreOneAtomUnder old.changes goal.lit.atom ends) where
  -- a fact that is no instance is passed over
  pub never-between : (first last : ℕ) → HasNone facts ends first last → (j : ℕ) → first ≤ j → j < last → NeverFact objects facts old goal j
  never-between first last has j after before fact at below =
      apart-never old goal ends fact ends_are (has.apart j fact at after before (λ k d within. object_is objects _ (below k d within)))

  -- and where no more come, the search ends
  pub never-after : (from number : ℕ) (now : ProofStateValue) → now ≡ old → HasNone facts ends number (length facts)
      → ((j : ℕ) → from ≤ j → j < number → NeverFact objects facts old goal j)
      → TriesRange (NeverFact objects facts old goal) (ComesFact objects facts old goal) from (length facts) old now false
  never-after from number now same has never =
      range-none (NeverFact objects facts old goal) (ComesFact objects facts old goal) from (length facts) (length facts) old now same
      (λ j after within. go j after within (cases_lt j number)) (omega arith)
    where
      go : (j : ℕ) → from ≤ j → j < length facts → (j < number) ⊎ (number ≤ j) → NeverFact objects facts old goal j
      go j after within (inl h) = never j after h
      go j after within (inr h) = never-between number (length facts) has j h within

-- an attempt at a fact that is apart from the followed goal
pub untried-fact : (old : ProofStateValue) (objects number : ℕ) (fact : Atom) (goal : OpenGoal) (ends : Atom)
    → AreOneAtomUnder old.changes goal.lit.atom ends → AreApart ends fact → TriesFact old old objects number fact goal false
untried-fact old objects number fact goal ends ends_are is_apart =
    record { comes = λ is. absurd (cc); never = λ is. (refl, λ all. apart-never old goal ends fact ends_are is_apart) }

-- a closing by a fact over the objects
pub tried-fact : (old new : ProofStateValue) (objects number : ℕ) (fact : Atom) (goal : OpenGoal) (found : Bool)
    → All (IsObjectBelow objects) fact.args
    → ClosesBy old new (Rattle.px_proof.specs.declared.shape.Tick.TheVariants.Fact number) goal.lit (positive_of fact) goal.next found
    → TriesFact old new objects number fact goal found
tried-fact old new objects number fact goal true below closes = record { comes = λ is. (below, closes); never = λ is. absurd (cc) }
tried-fact old new objects number fact goal false below closes =
    record { comes = λ is. absurd (cc); never = λ is. (closes.unchanged refl, λ all. closes.is_match.never refl) }

pub tried-ancestor : (old new : ProofStateValue) (number : ℕ) (above : Lit) (goal : OpenGoal) (from : ℕ) (found : Bool) → from ≤ number
    → ClosesBy old new (Rattle.px_proof.specs.declared.shape.Tick.TheVariants.Anc number) goal.lit
    (Rattle.px_proof.specs.Literals.complement_of above) goal.next found → TriesAncestor old new number above goal from found
tried-ancestor old new number above goal from true reached closes = record { comes = λ is. (reached, closes); never = λ is. absurd (cc) }
tried-ancestor old new number above goal from false reached closes =
    record { comes = λ is. absurd (cc); never = λ is. (closes.unchanged refl, λ has. closes.is_match.never refl) }
