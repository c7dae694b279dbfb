-- When what is needed has an answer or a gap, and what an operator's instance needs.
use Rattle.std.proofs.Common.{◌≡◌, ◌⊎◌, List, [], ◌∷◌, subst, inl, inr, ℕ}
use Rattle.std.specs.Prelude.{Contains}
use Rattle.std.proofs.lemmas.List.Elements.{All-cons, All-head, All-nil}
use Rattle.px_terms.specs.declared.atom.Atom.{Atom}
use Rattle.px_terms.specs.declared.instance.OpInst.{OpInst}
use Rattle.px_terms.specs.declared.problem.Problem.{Problem}
use Rattle.px_terms.specs.Operators.{precondition}
use Rattle.px_proof.specs.declared.shape.Tick.{Tick}
use Rattle.px_proof.specs.Derivation.{Derivations}
use Rattle.px_question.specs.Gaps.{MeetsGapLimit, all_gaps_of, gaps_in}
use Rattle.px_question.specs.Limits.{IsLimited}
use Rattle.px_question.specs.Settings.{setting_of, proofs_in}
use Rattle.px_question.specs.Answers.{IsList}
use Rattle.px_gaps.specs.Needs.{HasAnswer, HasGap, IsOpen}
use Rattle.px_gaps.specs.Questions.{MeetsLimit, AreUnlimited}
use Rattle.px_gaps.specs.declared.question.Obligation.{Obligation}
use Rattle.px_gaps.specs.declared.question.Question.TheVariants.{Proving, FindingGaps}
use Rattle.px_gaps.proofs.Singles.{one_any}
use Rattle.px_gaps.proofs.GapLists.{list_by}
use Rattle.px_base.specs.ListLaws.{Contains-first, Contains-none}

abbrev pub needed_by : Problem → List Atom → OpInst → Obligation
needed_by problem model inst = record { formula = precondition problem inst; variable_count = 0; facts = model }

-- what the instance needs is open where it has an answer or a gap
pub open_one : (problem : Problem) (model : List Atom) (inst : OpInst)
    → HasAnswer problem (needed_by problem model inst) ⊎ ((gap : Atom) × HasGap problem (needed_by problem model inst) gap)
    → IsOpen problem (needed_by problem model inst ∷ [])
open_one problem model inst h =
    All-cons (λ (needed : Obligation). HasAnswer problem needed ⊎ ((gap : Atom) × HasGap problem needed gap))
    (needed_by problem model inst) [] h (All-nil (λ (needed : Obligation). HasAnswer problem needed
    ⊎ ((gap : Atom) × HasGap problem needed gap)))

pub one_open : (problem : Problem) (model : List Atom) (inst : OpInst) → IsOpen problem (needed_by problem model inst ∷ [])
    → HasAnswer problem (needed_by problem model inst) ⊎ ((gap : Atom) × HasGap problem (needed_by problem model inst) gap)
one_open problem model inst all =
    All-head (λ (needed : Obligation). HasAnswer problem needed ⊎ ((gap : Atom) × HasGap problem needed gap))
    (needed_by problem model inst) [] all

-- the questions about an instance: proving what it needs, or finding the gaps where it has no answer
pub unlimited_one : (problem : Problem) (model : List Atom) (inst : OpInst)
    → ((shapes : List (List Tick)) → ¬ IsLimited (setting_of problem model) (precondition problem inst) 0 shapes)
    → ((formula : List Atom) (shapes : List (List Tick)) → (¬ HasAnswer problem (needed_by problem model inst))
    → ¬ MeetsGapLimit (setting_of problem model) (precondition problem inst) 0 formula shapes)
    → AreUnlimited problem (needed_by problem model inst ∷ [])
unlimited_one problem model inst proving finding question formula shapes asks met =
    elim (one_any (λ (needed : Obligation). (question ≡ Proving needed) ⊎ ((¬ HasAnswer problem needed) × (question ≡ FindingGaps needed)))
    (needed_by problem model inst) asks) [
      | inl is ↦ proving shapes (subst (λ q. MeetsLimit problem q formula shapes) is met).1
      | inr is ↦ finding formula shapes is.0 (subst (λ q. MeetsLimit problem q formula shapes) is.1 met)
    ]

-- a list has an element, or none
pub some-or-none : (atoms : List Atom) → ((atom : Atom) × Contains atoms atom) ⊎ ((atom : Atom) → ¬ Contains atoms atom)
some-or-none [] = inr (λ atom has. Contains-none atom has)
some-or-none (atom ∷ atoms) = inl (atom, Contains-first atom atoms)

-- what is needed has an answer or a gap where it has a list of gap proofs, if it is known whether it has an answer
pub gaps-open : (problem : Problem) (needed : Obligation) → HasAnswer problem needed ⊎ (¬ HasAnswer problem needed)
    → (objects : List ℕ) (ds : Derivations)
    → IsList (gaps_in (setting_of problem needed.facts)) (setting_of problem needed.facts) needed.formula needed.variable_count objects ds
    → HasAnswer problem needed ⊎ ((gap : Atom) × HasGap problem needed gap)
gaps-open problem needed known objects ds list = elim known [
  | inl answer ↦ inl answer
  | inr unanswered ↦ elim (some-or-none (all_gaps_of ds)) [
    | inl some ↦ inr (some.0, (unanswered, (objects, ds, list, some.1)))
    | inr never ↦
        let s = setting_of problem needed.facts in
        inl (
          objects,
          ds,
          list_by s needed.formula needed.variable_count objects ds (gaps_in s) (proofs_in s)
              (record { choices = λ t h. h; facts = λ leaf h. h; opens = λ h. h }) (λ atom has h. absurd (never atom has)) list,
        )
  ]
]

-- and what has an answer or a gap has such a list
pub open-gaps : (problem : Problem) (needed : Obligation) → HasAnswer problem needed ⊎ ((gap : Atom) × HasGap problem needed gap)
    → (objects : List ℕ) × (ds : Derivations)
    × IsList (gaps_in (setting_of problem needed.facts)) (setting_of problem needed.facts) needed.formula needed.variable_count objects ds
open-gaps problem needed is_open = elim is_open [
  | inl answer ↦
      let s = setting_of problem needed.facts in (
        answer.0,
        answer.1,
        list_by s needed.formula needed.variable_count answer.0 answer.1 (proofs_in s) (gaps_in s)
            (record { choices = λ t h. h; facts = λ leaf h. h; opens = λ h. h }) (λ atom has h. absurd h) answer.2,
      )
  | inr gap ↦ (gap.1.1.0, gap.1.1.1, gap.1.1.2)
]
