-- No state meets axioms that contradict each other.
use Rattle.std.specs.Prelude.{◌≡◌, ◌<◌, ℕ, List, [], ◌∷◌, All, Any}
use Rattle.std.proofs.Common.{refl, subst, sym, arith, zero, suc}
use Rattle.px_terms.specs.declared.atom.Atom.{Atom}
use Rattle.px_terms.specs.declared.clause.Clause.{Clause}
use Rattle.px_terms.specs.declared.clause.Lit.{Lit}
use Rattle.px_terms.specs.declared.instance.OpInst.{OpInst}
use Rattle.px_terms.specs.Clauses.{IsClause}
use Rattle.px_terms.specs.Lamps.{claim, denial, contradiction, ContradictionFact}
use Rattle.px_terms.specs.Language.{IsPlainBelow}
use Rattle.px_terms.specs.MergedNamesLaws.{All-nothing, one}
use Rattle.px_terms.specs.Plans.{IsRun, Carries}
use Rattle.px_terms.specs.SortLaws.{no_object_sorts-are}
use Rattle.px_terms.specs.States.{State, AreValues, AxiomsHold, LiteralHoldsUnder}
use Rattle.px_terms.specs.Validity.{IsAtomOf, IsAxiomOf, IsTermOf, IsValid}
use Rattle.px_terms.proofs.LampLaws.{two}

only : {X : Type 0} (P : X → Type 0) (x : X) → Any P (x ∷ []) → P x
only P x (zero, z, below, is, here) = subst P (sym is) here
only P x (suc k, z, below, is, here) = absurd (omega (arith, below))

valid : IsValid contradiction
valid =
    let is_of : Lit → Type 0 = λ lit. IsAtomOf contradiction 0 lit.atom in
    let plain : Lit → Type 0 = λ lit. All (IsPlainBelow 0) lit.atom.args in
    let atom : IsAtomOf contradiction 0 (record { pred = 0; args = [] }) =
    ((omega arith, refl), All-nothing (IsTermOf contradiction 0)) in record {
      schemas = λ k below. absurd (omega (arith, below));
      axioms =
          two (IsAxiomOf contradiction) claim denial (record { variable_count = omega arith; lits = one is_of _ atom })
          (record { variable_count = omega arith; lits = one is_of _ atom });
      arena = record {
        each = two IsClause claim denial
            (record { size = (omega arith, omega arith); plain = one plain _ (All-nothing (IsPlainBelow 0)) })
            (record { size = (omega arith, omega arith); plain = one plain _ (All-nothing (IsPlainBelow 0)) });
        most = omega arith;
      };
      short = (omega arith, omega arith);
      height = (omega arith, omega arith);
      nodes = (omega arith, omega arith);
      shapes = (omega arith, omega arith);
      weight = omega arith;
      sorts = no_object_sorts-are contradiction 0 (omega arith);
      no_objects = λ _. (All-nothing _, two (λ (clause : Clause). clause.variable_count ≡ 0) claim denial refl refl);
    }

unmet : (state : State) → ¬ AxiomsHold contradiction state
unmet state holds =
    let values : AreValues state 0 [] = (refl, All-nothing (λ e. e < state.size)) in
    only (LiteralHoldsUnder state []) _ (holds 1 denial (omega arith) [] values)
    (only (LiteralHoldsUnder state []) _ (holds 0 claim (omega arith) [] values))

no_run : (state : State) (later : List State) (steps : List OpInst) → ¬ IsRun contradiction (state ∷ later) steps
no_run state [] steps run = unmet state run.1
no_run state (next ∷ later) [] run = run
no_run state (next ∷ later) (step ∷ steps) run = unmet state run.0.1

carried : (facts : List Atom) (steps : List OpInst) (variable_count : ℕ) (goal : List Atom) → Carries contradiction facts steps variable_count goal
carried facts steps variable_count goal = record {
  meets = λ state later run _. absurd (no_run state later steps run);
  ends = λ state later run _ _. absurd (no_run state later steps run);
}

pub contradiction_unmet : ContradictionFact
contradiction_unmet = record { valid = valid; unmet = unmet; carried = carried }
