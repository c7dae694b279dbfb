-- What the gap lists of the rest of what a partial instance needs say of the instances that it stands for.
use Rattle.std.proofs.Common.{◌∙◌, ◌⊎◌, ℕ, List, [], ◌∷◌, map, refl, sym, ap, subst, inl, inr}
use Rattle.std.specs.Prelude.{◌↔◌, Any, Contains}
use Rattle.px_terms.specs.AtomSets.{IsAtomSet}
use Rattle.px_terms.specs.Operators.{precondition, schema_of}
use Rattle.px_terms.specs.Validity.{IsValid}
use Rattle.px_terms.specs.declared.atom.Atom.{Atom}
use Rattle.px_terms.specs.declared.instance.OpInst.{OpInst}
use Rattle.px_terms.specs.declared.problem.Problem.{Problem}
use Rattle.px_proof.specs.declared.shape.Tick.{Tick}
use Rattle.px_proof.specs.Derivation.{Derivations}
use Rattle.px_question.specs.declared.gap_list.GapList.{GapList}
use Rattle.px_question.specs.Answers.{IsList, IsProvable}
use Rattle.px_question.specs.FewerShapes.{few_firsts}
use Rattle.px_question.specs.Gaps.{AreGapLists, all_gaps_of, gaps_in}
use Rattle.px_question.specs.Limits.{AreFewGapShapes, IsLimited, IsPartialShape}
use Rattle.px_question.specs.Settings.{Setting, loose_gaps_in, proofs_in, setting_of}
use Rattle.px_table.specs.declared.entry.Entry.{Entry}
use Rattle.px_table.specs.declared.table.Table.{Table}
use Rattle.px_table.specs.declared.entry.Entry.TheVariants.{Op}
use Rattle.px_gaps.specs.Bounds.{HasFewShapes}
use Rattle.px_gaps.specs.Closings.{IsClosedIn}
use Rattle.px_gaps.specs.Needs.{HasAnswer, IsOpen}
use Rattle.px_diff.specs.Gathering.{Gathers, IsOpenIn, instance_by}
use Rattle.px_entries.specs.Instances.{Fills, IsPartialInstance, StandsFor}
use Rattle.px_diff.specs.Pushes.{IsRelevant}
use Rattle.px_entries.specs.Rest.{IsRest}
use Rattle.px_entries.specs.declared.partial.PartialInstance.{PartialInstance}
use Rattle.px_gaps.proofs.FactLemmas.{few-shapes}
use Rattle.px_gaps.proofs.GapLists.{answer_listed, gap_listed, list_of, list_of-members, listed_answer, listed_gap, loose_listed}
use Rattle.px_diff.proofs.Opening.{answered-or, gathered-by, list_full, list_open}
use Rattle.px_entries.proofs.OpenNeeds.{needed_by, one_open, open_one, unlimited_one, gaps-open, open-gaps}
use Rattle.px_entries.proofs.PartialLemmas.{needs-are}
use Rattle.px_entries.proofs.RestLaws.{IsFreeGround, list-less, list-more, list-or-none}
use Rattle.px_gaps.proofs.Substituting.{preds-same}
use Rattle.px_question.proofs.DeterminedLaws.{few_or_limited}

-- proving an atom without variables whose predicate no axiom concludes doesn't meet the limit
free-unlimited : (problem : Problem) (model : List Atom) → IsValid problem → (atom : Atom) (shapes : List (List Tick))
    → IsFreeGround problem atom → ¬ IsLimited (setting_of problem model) (atom ∷ []) 0 shapes
free-unlimited problem model valid atom shapes free limited =
    few_firsts (IsPartialShape (proofs_in (setting_of problem model)) (setting_of problem model) (atom ∷ []) 0)
    (IsPartialShape (proofs_in (setting_of problem model)) (setting_of problem model) (atom ∷ []) 0)
    problem.shapes shapes (few-shapes (setting_of problem model) atom free.0 valid.shapes.0) (λ shape h. h) limited.count limited.kept

-- so it is with what an instance needs
open-from : (problem : Problem) (model : List Atom) (inst : OpInst)
    → HasAnswer problem (needed_by problem model inst) ⊎ (¬ HasAnswer problem (needed_by problem model inst))
    → (ds : Derivations) → IsList (gaps_in (setting_of problem model)) (setting_of problem model) (precondition problem inst) 0 [] ds
    → IsOpen problem (needed_by problem model inst ∷ [])
open-from problem model inst known ds list = open_one problem model inst (gaps-open problem (needed_by problem model inst) known [] ds list)

open-to : (problem : Problem) (model : List Atom) (inst : OpInst) → IsOpen problem (needed_by problem model inst ∷ [])
    → (none : List ℕ) × (ds : Derivations)
    × IsList (gaps_in (setting_of problem model)) (setting_of problem model) (precondition problem inst) 0 none ds
open-to problem model inst is_open = open-gaps problem (needed_by problem model inst) (one_open problem model inst is_open)

-- the objects of a gap list fill the partial instance
pub stands-by : (problem : Problem) (model formula : List Atom) (partial : PartialInstance) (lists : List GapList)
    → AreGapLists (setting_of problem model) formula partial.variable_count lists
    → (list : GapList) → Contains lists list → Fills problem partial (instance_by partial list.objects) list.objects
stands-by problem model formula partial lists listed list has =
    let known = ((listed.members list).0 has).0 in record { count = known.1.count; below = known.1.below; same = refl }

module _ (problem : Problem) (valid : IsValid problem) (model : List Atom) (partial : PartialInstance)
    (form : IsPartialInstance problem partial) (rest : List Atom) (is : IsRest problem (precondition problem partial.inst) rest)
    (lists : List GapList) (listed : AreGapLists (setting_of problem model) rest partial.variable_count lists) where
  abbrev s : Setting
  s = setting_of problem model

  list-stands : (list : GapList) → Contains lists list → Fills problem partial (instance_by partial list.objects) list.objects
  list-stands list has = stands-by problem model rest partial lists listed list has

  -- it has an answer or none
  answered : (full : OpInst) (objects : List ℕ) → Fills problem partial full objects
      → HasAnswer problem (needed_by problem model full) ⊎ (¬ HasAnswer problem (needed_by problem model full))
  answered full objects fills = elim (answered-or partial lists full) [
    | inl one ↦
        let list = one.0 in
        let stands = list-stands list one.1 in
        let own : Fills problem partial full list.objects = record { count = stands.count; below = stands.below; same = one.2.1 } in
        let r = listed_answer s rest partial.variable_count lists listed list one.1 one.2.0 in
        elim (list-or-none problem valid model (precondition problem partial.inst) partial.variable_count
        (needs-are problem partial valid form) rest is list.objects) [
          | inl more ↦ let made =
              more r.0 r.1 in inl ([], made.0, list_full problem valid model partial form (proofs_in s) full list.objects made.0 own made.1)
          | inr never ↦ inr (λ answer. never answer.1
              (list_open problem valid model partial form (proofs_in s) full list.objects answer.0 answer.1 own answer.2))
        ]
    | inr never ↦ inr (λ answer.
        let less =
        list-less problem valid model (precondition problem partial.inst) partial.variable_count (needs-are problem partial valid form) rest is
        (proofs_in s) objects answer.1 (list_open problem valid model partial form
        (proofs_in s) full objects answer.0 answer.1 fills answer.2) in
        let r = answer_listed s rest partial.variable_count lists listed objects less.0 less.1 in
        never (r.0, r.1, (r.3, ap (instance_by partial) r.2 ∙ fills.same)))
  ]

  module _ (provable : List Atom) (none_provable : (list : GapList) → Contains lists list → (¬ Any (Contains provable) list.gaps)
      ↔ ((atom : Atom) → Contains list.gaps atom → ¬ IsProvable s atom)) where
    -- the instance of a list that closes nothing provable is open
    open-only : (list : GapList) → Contains lists list → (¬ Any (Contains provable) list.gaps)
        → IsOpen problem (needed_by problem model (instance_by partial list.objects) ∷ [])
    open-only list has none =
        let inst = instance_by partial list.objects in
        let r = listed_gap s rest partial.variable_count lists listed list has ((none_provable list has).0 none) in
        let more =
        list-more problem valid model (precondition problem partial.inst) partial.variable_count
        (needs-are problem partial valid form) rest is list.objects r.0 r.1 in
        open-from problem model inst (answered inst list.objects (list-stands list has)) more.0
        (list_full problem valid model partial form (gaps_in s) inst list.objects more.0 (list-stands list has) more.1)

    -- and an open instance is that of such a list
    open-all : (full : OpInst) (objects : List ℕ) → Fills problem partial full objects → IsOpen problem (needed_by problem model full ∷ [])
        → IsOpenIn partial lists provable full
    open-all full objects fills is_open =
        let there = open-to problem model full is_open in
        let less =
        list-less problem valid model (precondition problem partial.inst) partial.variable_count (needs-are problem partial valid form) rest is
        (gaps_in s) objects there.1 (list_open problem valid model partial form (gaps_in s) full objects there.0 there.1 fills there.2)
        in
        let r = gap_listed s rest partial.variable_count lists listed objects less.0 less.1 in
        (list_of objects less.0, r.0, (fills.same, (none_provable (list_of objects less.0) r.0).1 r.1))

    module _ (tables : List Table) (wanted : List Atom) (stack : List Entry) (ascends : IsAtomSet model)
        (few : HasFewShapes problem (map (λ (atom : Atom). atom.pred) (precondition problem partial.inst)))
        (unlimited : (atom : Atom) (shapes : List (List Tick)) → IsClosedIn lists atom → ¬ IsLimited s (atom ∷ []) 0 shapes) where
      few-of : (full : OpInst) (objects : List ℕ) → Fills problem partial full objects → AreFewGapShapes s (precondition problem full) 0
      few-of full objects fills = few.few model ascends (precondition problem full)
          (preds-same full.args (schema_of problem full).pre
          ∙ ap (λ (i : OpInst). map (λ (atom : Atom). atom.pred) (schema_of problem i).pre) (sym fills.same)
          ∙ sym (preds-same partial.inst.args (schema_of problem partial.inst).pre))

      -- proving what a gap closes doesn't meet the limit
      gap-unlimited : (full : OpInst) (objects none : List ℕ) → Fills problem partial full objects → (es : Derivations)
          → IsList (loose_gaps_in s) s (precondition problem full) 0 none es → (atom : Atom) → Contains (all_gaps_of es) atom
          → (shapes : List (List Tick)) → ¬ IsLimited s (atom ∷ []) 0 shapes
      gap-unlimited full objects none fills es list atom has shapes limited =
          let less =
          list-less problem valid model (precondition problem partial.inst) partial.variable_count (needs-are problem partial valid form) rest is
          (loose_gaps_in s) objects es (list_open problem valid model partial form (loose_gaps_in s) full objects none es fills list) in
          elim (less.2 atom has) [
            | inl free ↦ free-unlimited problem model valid atom shapes free limited
            | inr there ↦ unlimited atom shapes (
              list_of objects less.0,
              loose_listed s rest partial.variable_count lists listed objects less.0 less.1,
              (list_of-members objects less.0 atom).1 there,
            ) limited
          ]

      pub rest-gathered : (old new : List OpInst)
          → ((inst : OpInst) → Contains new inst
          ↔ (Contains old inst ⊎ (IsOpenIn partial lists provable inst × IsRelevant problem tables wanted stack (Op inst))))
          → Gathers problem tables wanted stack model (StandsFor problem partial) old new
      rest-gathered =
          gathered-by problem model partial lists provable tables wanted stack open-only open-all
          (λ inst stands relevant. unlimited_one problem model inst
          (λ shapes limited. few_or_limited.proofs_with_gaps s (precondition problem inst) 0 shapes (few-of inst stands.0 stands.1) limited)
          (λ formula shapes none met. elim met [
            | inl whole ↦ few_or_limited.gap_proofs s (precondition problem inst) 0 shapes (few-of inst stands.0 stands.1) whole.1
            | inr one ↦ gap-unlimited inst stands.0 one.2.0 stands.1 one.2.1 one.2.2 one.0 one.2.3 shapes
                (subst (λ (l : List Atom). IsLimited s l 0 shapes) one.1 one.3)
          ]))
