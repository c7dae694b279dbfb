-- What the prover's answer to a question of gaps says of a formula without an answer.
use Rattle.std.proofs.Common.{◌≡◌, ◌⊎◌, List, [], ◌∷◌, sym, subst, inl, inr}
use Rattle.std.specs.Prelude.{◌↔◌, Contains}
use Rattle.std.proofs.lemmas.List.Elements.{All-cons, All-head, All-nil}
use Rattle.px_base.specs.ListLaws.{Contains-none}
use Rattle.px_terms.specs.AtomSets.{IsAtomSet}
use Rattle.px_terms.specs.declared.atom.Atom.{Atom}
use Rattle.px_terms.specs.declared.problem.Problem.{Problem}
use Rattle.px_proof.specs.declared.shape.Tick.{Tick}
use Rattle.px_question.specs.Gaps.{MeetsGapLimit, StaysBelowGapLimit}
use Rattle.px_question.specs.Limits.{IsLimited}
use Rattle.px_question.specs.Settings.{Setting, setting_of}
use Rattle.px_gaps.specs.Needs.{HasAnswer, HasGap, IsOpen}
use Rattle.px_gaps.specs.Known.{AreAllBelow, IsKnownOf, IsTriedOf}
use Rattle.px_gaps.specs.Questions.{AreUnlimited, MeetsLimit}
use Rattle.px_gaps.specs.declared.known.Known.TheVariants.{Applicable, Open, Closed, Limited}
use Rattle.px_gaps.specs.declared.known.Tried.TheVariants as tried
use Rattle.px_gaps.specs.declared.question.MetLimit.{MetLimit}
use Rattle.px_gaps.specs.declared.question.Obligation.{Obligation}
use Rattle.px_gaps.specs.declared.question.Question.{Question}
use Rattle.px_gaps.specs.declared.question.Question.TheVariants.{Proving, FindingGaps}
use Rattle.px_gaps.proofs.Below.{unlimited-below}
use Rattle.px_gaps.proofs.Singles.{any_one, one_any}
use Rattle.px_question.proofs.DeterminedLaws.{few_or_limited}
use Rattle.px_gaps.proofs.Grows.{some-item}

-- it has an answer
pub known-applicable : (problem : Problem) (needed : Obligation) → IsTriedOf problem needed tried.Answered
    → IsKnownOf problem (needed ∷ []) Applicable
known-applicable problem needed answered =
    let IsAskedOf =
    λ (question : Question) (other : Obligation). (question ≡ Proving other)
    ⊎ ((¬ HasAnswer problem other) × (question ≡ FindingGaps other)) in
    let unlimited : AreUnlimited problem (needed ∷ []) =
    λ question formula shapes asks met. elim (one_any (IsAskedOf question) needed asks) [
      | inl is ↦ answered.1.unlimited formula shapes (subst (λ (q : Question). MeetsLimit problem q formula shapes) is met)
      | inr is ↦ is.0 answered.0
    ] in (
      All-cons (HasAnswer problem) needed [] answered.0 (All-nil (HasAnswer problem)),
      record { unlimited = unlimited; below = unlimited-below problem (needed ∷ []) unlimited },
    )

-- where the question to prove it meets the limit, that is tried
pub tried-limited : (problem : Problem) (needed : Obligation) (limit : MetLimit) → limit.question ≡ Proving needed
    → limit.formula ≡ needed.formula → IsLimited (setting_of problem needed.facts) needed.formula needed.variable_count limit.shapes
    → IsTriedOf problem needed (tried.Limited limit)
tried-limited problem needed limit is same met =
    (is, subst (λ (q : Question). MeetsLimit problem q limit.formula limit.shapes) (sym is) (same, met))

-- proving it meets the limit
pub known-proof_limited : (problem : Problem) (needed : Obligation) (limit : MetLimit)
    → IsTriedOf problem needed (tried.Limited limit) → IsKnownOf problem (needed ∷ []) (Limited limit)
known-proof_limited problem needed limit met =
    record {
      asked =
          any_one (λ (other : Obligation). (limit.question ≡ Proving other)
          ⊎ ((¬ HasAnswer problem other) × (limit.question ≡ FindingGaps other))) needed (inl met.0);
      met = met.1;
    }

module _ (problem : Problem) (needed : Obligation) (no_answer : ¬ HasAnswer problem needed) where
  abbrev s : Setting
  s = setting_of problem needed.facts

  abbrev IsOpenOne : Obligation → Type 0
  IsOpenOne other = HasAnswer problem other ⊎ ((gap : Atom) × HasGap problem other gap)

  abbrev IsAskedOf : Question → Obligation → Type 0
  IsAskedOf question other = (question ≡ Proving other) ⊎ ((¬ HasAnswer problem other) × (question ≡ FindingGaps other))

  -- finding its gaps meets the limit
  pub known-limited : (limit : MetLimit) → limit.question ≡ FindingGaps needed
      → MeetsGapLimit s needed.formula needed.variable_count limit.formula limit.shapes → IsKnownOf problem (needed ∷ []) (Limited limit)
  known-limited limit is met = record {
    asked = any_one (IsAskedOf limit.question) needed (inr (no_answer, is));
    met = subst (λ (q : Question). MeetsLimit problem q limit.formula limit.shapes) (sym is) met;
  }

  module _ (gaps : List Atom) (exact : (atom : Atom) → Contains gaps atom ↔ HasGap problem needed atom)
      (unlimited : (kept : List Atom) (shapes : List (List Tick)) → ¬ MeetsGapLimit s needed.formula needed.variable_count kept shapes)
      (below : StaysBelowGapLimit s needed.formula needed.variable_count) where
    unlimited-one : AreUnlimited problem (needed ∷ [])
    unlimited-one question formula shapes asks met =
        elim (one_any (IsAskedOf question) needed asks) [
          | inl is ↦ few_or_limited.proofs_with_gaps s needed.formula needed.variable_count shapes below.shapes
              (subst (λ (q : Question). MeetsLimit problem q formula shapes) is met).1
          | inr is ↦ unlimited formula shapes (subst (λ (q : Question). MeetsLimit problem q formula shapes) is.1 met)
        ]

    questions : AreAllBelow problem (needed ∷ [])
    questions = record { unlimited = unlimited-one; below = unlimited-below problem (needed ∷ []) unlimited-one }

    open-of : (gap : Atom) → HasGap problem needed gap → IsOpen problem (needed ∷ [])
    open-of gap has = All-cons IsOpenOne needed [] (inr (gap, has)) (All-nil IsOpenOne)

    -- without gaps it isn't open
    pub known-closed : gaps ≡ [] → IsKnownOf problem (needed ∷ []) Closed
    known-closed empty = (
      λ all. elim (All-head IsOpenOne needed [] all) [
        | inl answer ↦ no_answer answer
        | inr gap ↦ Contains-none gap.0 (subst (λ (l : List Atom). Contains l gap.0) empty ((exact gap.0).1 gap.1))
      ],
      questions,
    )

    -- with one it is
    known-with : (gap : Atom) → Contains gaps gap → IsAtomSet gaps → IsKnownOf problem (needed ∷ []) (Open gaps)
    known-with gap there order = record {
      not_applicable = λ all. no_answer (All-head (HasAnswer problem) needed [] all);
      open_needs = open-of gap ((exact gap).0 there);
      order = order;
      exact = λ atom. (
        λ has. (open-of atom ((exact atom).0 has), any_one (λ (other : Obligation). HasGap problem other atom) needed ((exact atom).0 has)),
        λ both. (exact atom).1 (one_any (λ (other : Obligation). HasGap problem other atom) needed both.1),
      );
      questions = questions;
    }

    pub known-open : (¬ (gaps ≡ [])) → IsAtomSet gaps → IsKnownOf problem (needed ∷ []) (Open gaps)
    known-open some' order = let first = some-item gaps some' in known-with first.0 first.1 order
