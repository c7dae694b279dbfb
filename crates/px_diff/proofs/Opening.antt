-- What the gap lists of a partial instance say of the instances that it stands for.
use Rattle.std.proofs.Common.{◌≡◌, ◌⊎◌, ◌∙◌, ℕ, List, [], ◌∷◌, refl, sym, ap, subst, inl, inr, arith}
use Rattle.std.specs.Prelude.{◌↔◌, ◌<◌, All, Any, Contains}
use Rattle.std.proofs.lemmas.List.Elements.{All-nil}
use Rattle.px_base.specs.ListLaws.{All-each, Contains-cases, Contains-first, Contains-later, Contains-none}
use Rattle.px_terms.specs.declared.atom.Atom.{Atom}
use Rattle.px_terms.specs.declared.instance.OpInst.{OpInst}
use Rattle.px_terms.specs.declared.problem.Problem.{Problem}
use Rattle.px_terms.specs.Operators.{precondition}
use Rattle.px_terms.specs.Validity.{IsValid}
use Rattle.px_proof.specs.declared.shape.Tick.{Tick}
use Rattle.px_proof.specs.Derivation.{Derivations}
use Rattle.px_proof.specs.Proves.{Rules, ProvesEach, or_open}
use Rattle.px_question.specs.declared.gap_list.GapList.{GapList}
use Rattle.px_question.specs.Answers.{IsList, IsProvable, literals_of}
use Rattle.px_question.specs.Gaps.{gaps_in}
use Rattle.px_question.specs.Limits.{IsGapLimited, IsLimited, IsPartialShape}
use Rattle.px_question.specs.Settings.{Setting, loose_gaps_in, proofs_in, setting_of}
use Rattle.px_table.specs.declared.entry.Entry.{Entry}
use Rattle.px_table.specs.declared.table.Table.{Table}
use Rattle.px_table.specs.declared.entry.Entry.TheVariants.{Op}
use Rattle.px_gaps.specs.Closings.{IsChosenIn, IsClosedIn, OneOf}
use Rattle.px_gaps.specs.Needs.{HasAnswer, HasGap, IsOpen}
use Rattle.px_diff.specs.Gathering.{AreObjectsFor, Gathers, IsOpenIn, instance_by}
use Rattle.px_entries.specs.Instances.{Fills, IsPartialInstance, StandsFor}
use Rattle.px_gaps.specs.Listed.{AreListed}
use Rattle.px_diff.specs.Pushes.{IsRelevant}
use Rattle.px_gaps.specs.Questions.{AreUnlimited}
use Rattle.px_entries.specs.declared.partial.PartialInstance.{PartialInstance}
use Rattle.px_diff.proofs.SameInstance.{same_or_not}
use Rattle.px_gaps.proofs.GapLists.{answer_listed, gap_listed, list_of, list_of-members, listed_answer, listed_gap, loose_listed, partial-loose}
use Rattle.px_entries.proofs.PartialLemmas.{same_needs}
use Rattle.px_question.specs.FewerShapes.{few_firsts}
use Rattle.std.proofs.lemmas.List.{nil_from_length}
use Rattle.px_gaps.proofs.Grows.{some-item}
use Rattle.px_entries.proofs.OpenNeeds.{needed_by, open_one, one_open, unlimited_one}

-- the instance has an answer: a list that closes nothing
abbrev pub IsAnsweredIn : PartialInstance → List GapList → OpInst → Type 0
IsAnsweredIn partial lists inst = OneOf lists (λ list. (list.gaps ≡ []) × (instance_by partial list.objects ≡ inst))

-- it has one or it has none
pub answered-or : (partial : PartialInstance) (lists : List GapList) (inst : OpInst)
    → IsAnsweredIn partial lists inst ⊎ (¬ IsAnsweredIn partial lists inst)
answered-or partial [] inst = inr (λ one. Contains-none one.0 one.1)
answered-or partial (list ∷ lists) inst = elim (answered-or partial lists inst) [
  | inl later ↦ inl (later.0, Contains-later list lists later.0 later.1, later.2)
  | inr never ↦ elim (here list.gaps list.objects) [
    | inl is ↦ inl (list, Contains-first list lists, is)
    | inr fails ↦ inr (λ one. elim (Contains-cases list lists one.0 one.1) [
      | inl same ↦ fails (subst (λ (l : GapList). (l.gaps ≡ []) × (instance_by partial l.objects ≡ inst)) (sym same) one.2)
      | inr later ↦ never (one.0, later, one.2)
    ])
  ]
]
  where
    here : (gaps : List Atom) (objects : List ℕ)
        → ((gaps ≡ []) × (instance_by partial objects ≡ inst)) ⊎ (¬ ((gaps ≡ []) × (instance_by partial objects ≡ inst)))
    here [] objects =
        elim (same_or_not (instance_by partial objects) inst) [ inl same ↦ inl (refl, same) | inr other ↦ inr (λ both. other both.1) ]
    here (atom ∷ gaps) objects = inr (λ both. filled atom gaps both.0)
      where
        filled : (atom : Atom) (gaps : List Atom) → ¬ (atom ∷ gaps ≡ [])
        filled atom gaps e = cc

-- where the lists show which instances are open, the relevant ones among these are gathered
pub gathered-by : (problem : Problem) (model : List Atom) (partial : PartialInstance) (lists : List GapList) (provable : List Atom)
    (tables : List Table) (wanted : List Atom) (stack : List Entry)
    → ((list : GapList) → Contains lists list → (¬ Any (Contains provable) list.gaps)
    → IsOpen problem (needed_by problem model (instance_by partial list.objects) ∷ []))
    → ((full : OpInst) (objects : List ℕ) → Fills problem partial full objects → IsOpen problem (needed_by problem model full ∷ [])
    → IsOpenIn partial lists provable full)
    → ((inst : OpInst) → StandsFor problem partial inst → IsRelevant problem tables wanted stack (Op inst)
    → AreUnlimited problem (needed_by problem model inst ∷ []))
    → (old new : List OpInst) → ((inst : OpInst) → Contains new inst
    ↔ (Contains old inst ⊎ (IsOpenIn partial lists provable inst × IsRelevant problem tables wanted stack (Op inst))))
    → Gathers problem tables wanted stack model (StandsFor problem partial) old new
gathered-by problem model partial lists provable tables wanted stack open-only open-all unlimited old new are = record {
  kept = λ inst there. (are inst).1 (inl there);
  only = λ inst there. elim ((are inst).0 there) [
    | inl before ↦ inl before
    | inr one ↦ inr (record {
      relevant = one.1;
      open_entry = subst (λ (i : OpInst). IsOpen problem (needed_by problem model i ∷ [])) one.0.2.0 (open-only one.0.0 one.0.1 one.0.2.1);
    })
  ];
  all = λ inst stands pushable. (are inst).1 (inr (open-all inst stands.0 stands.1 pushable.open_entry, pushable.relevant));
  unlimited = unlimited;
}

module _ (problem : Problem) (valid : IsValid problem) (model : List Atom) (partial : PartialInstance)
    (form : IsPartialInstance problem partial) where
  abbrev s : Setting
  s = setting_of problem model

  literals-same : (full : OpInst) (objects : List ℕ) → Fills problem partial full objects
      → literals_of (precondition problem partial.inst) objects ≡ literals_of (precondition problem full) []
  literals-same full objects fills =
      same_needs problem valid partial form objects fills.count fills.below
      ∙ ap (λ (i : OpInst). literals_of (precondition problem i) []) fills.same

  pub list_full : (rules : Rules) (full : OpInst) (objects : List ℕ) (ds : Derivations) → Fills problem partial full objects
      → IsList rules s (precondition problem partial.inst) partial.variable_count objects ds → IsList rules s (precondition problem full) 0 [] ds
  list_full rules full objects ds fills list = record {
    count = refl;
    below = All-nil (λ n. n < problem.objects);
    proved = subst (λ l. ProvesEach rules problem.axioms [] l ds) (literals-same full objects fills) list.proved;
    low = list.low;
  }

  pub list_open : (rules : Rules) (full : OpInst) (objects none : List ℕ) (ds : Derivations) → Fills problem partial full objects
      → IsList rules s (precondition problem full) 0 none ds → IsList rules s (precondition problem partial.inst) partial.variable_count objects ds
  list_open rules full objects none ds fills list = record {
    count = fills.count;
    below = fills.below;
    proved =
        subst (λ l. ProvesEach rules problem.axioms [] l ds)
        (ap (literals_of (precondition problem full)) (nil_from_length none list.count) ∙ sym (literals-same full objects fills))
        list.proved;
    low = list.low;
  }

  shape_open : (full : OpInst) (objects : List ℕ) (shape : List Tick) → Fills problem partial full objects
      → IsPartialShape (loose_gaps_in s) s (precondition problem full) 0 shape
      → IsPartialShape (loose_gaps_in s) s (precondition problem partial.inst) partial.variable_count shape
  shape_open full objects shape fills partly = (
    partly.0,
    (
      objects,
      partly.1.1,
      list_open (or_open (loose_gaps_in s)) full objects partly.1.0 partly.1.1 fills partly.1.2,
      partly.1.3,
    ),
  )

  module _ (lists : List GapList) (listed : AreListed s (precondition problem partial.inst) partial.variable_count lists) where
    pub list-fills : (list : GapList) → Contains lists list → Fills problem partial (instance_by partial list.objects) list.objects
    list-fills list has =
        let known = ((listed.all.members list).0 has).0 in record { count = known.1.count; below = known.1.below; same = refl }

    answer-in : (full : OpInst) (objects : List ℕ) → Fills problem partial full objects → HasAnswer problem (needed_by problem model full)
        → IsAnsweredIn partial lists full
    answer-in full objects fills answer =
        let r =
        answer_listed s (precondition problem partial.inst) partial.variable_count lists listed.all objects answer.1
        (list_open (proofs_in s) full objects answer.0 answer.1 fills answer.2) in
        (r.0, r.1, (r.3, ap (instance_by partial) r.2 ∙ fills.same))

    in-answer : (full : OpInst) → IsAnsweredIn partial lists full → HasAnswer problem (needed_by problem model full)
    in-answer full (list, has, (empty, same)) =
        let r = listed_answer s (precondition problem partial.inst) partial.variable_count lists listed.all list has empty in
        subst (λ (i : OpInst). HasAnswer problem (needed_by problem model i)) same
        ([], r.0, list_full (proofs_in s) (instance_by partial list.objects) list.objects r.0 (list-fills list has) r.1)

    not-proof-limited : (full : OpInst) (objects : List ℕ) (shapes : List (List Tick)) → Fills problem partial full objects
        → ¬ IsLimited s (precondition problem full) 0 shapes
    not-proof-limited full objects shapes fills limited =
        few_firsts (IsPartialShape (loose_gaps_in s) s (precondition problem partial.inst) partial.variable_count)
        (IsPartialShape (proofs_in s) s (precondition problem full) 0) s.limit shapes listed.few
        (λ shape partly. shape_open full objects shape fills (partial-loose s (precondition problem full) 0 shape partly)) limited.count
        limited.kept

    not-gap-limited : (full : OpInst) (objects : List ℕ) (shapes : List (List Tick)) → Fills problem partial full objects
        → ¬ IsGapLimited s (precondition problem full) 0 shapes
    not-gap-limited full objects shapes fills limited =
        few_firsts (IsPartialShape (loose_gaps_in s) s (precondition problem partial.inst) partial.variable_count)
        (IsPartialShape (loose_gaps_in s) s (precondition problem full) 0) s.limit shapes listed.few
        (λ shape partly. shape_open full objects shape fills partly) limited.count limited.kept

    module _ (provable : List Atom) (none_provable : (list : GapList) → Contains lists list → (¬ Any (Contains provable) list.gaps)
        ↔ ((atom : Atom) → Contains list.gaps atom → ¬ IsProvable s atom)) where
      gap-of : (list : GapList) → Contains lists list → (¬ IsAnsweredIn partial lists (instance_by partial list.objects))
          → ((atom : Atom) → Contains list.gaps atom → ¬ IsProvable s atom)
          → (gap : Atom) × HasGap problem (needed_by problem model (instance_by partial list.objects)) gap
      gap-of list has unanswered none =
          let r = listed_gap s (precondition problem partial.inst) partial.variable_count lists listed.all list has none in
          let inst = instance_by partial list.objects in
          let gap = some-item list.gaps (λ empty. unanswered (list, has, (empty, refl))) in (
            gap.0,
            (
              λ answer. unanswered (answer-in inst list.objects (list-fills list has) answer),
              ([], r.0, list_full (gaps_in s) inst list.objects r.0 (list-fills list has) r.1, r.2 gap.0 gap.1),
            ),
          )

      -- the instance of a list that closes nothing provable is open
      open-only : (list : GapList) → Contains lists list → (¬ Any (Contains provable) list.gaps)
          → IsOpen problem (needed_by problem model (instance_by partial list.objects) ∷ [])
      open-only list has none =
          let inst = instance_by partial list.objects in
          open_one problem model inst (elim (answered-or partial lists inst) [
            | inl answered ↦ inl (in-answer inst answered)
            | inr unanswered ↦ inr (gap-of list has unanswered ((none_provable list has).0 none))
          ])

      -- and an open instance is that of such a list
      open-all : (full : OpInst) (objects : List ℕ) → Fills problem partial full objects
          → IsOpen problem (needed_by problem model full ∷ []) → IsOpenIn partial lists provable full
      open-all full objects fills is_open = elim (one_open problem model full is_open) [
        | inl answer ↦
            let r = answer-in full objects fills answer in
            (r.0, r.1, (r.2.1, λ any. nothing r.0.gaps r.2.0 any))
        | inr gap ↦
            let ds = gap.1.1.1 in
            let r =
            gap_listed s (precondition problem partial.inst) partial.variable_count lists listed.all objects ds
            (list_open (gaps_in s) full objects gap.1.1.0 ds fills gap.1.1.2) in
            (list_of objects ds, r.0, (fills.same, (none_provable (list_of objects ds) r.0).1 r.1))
      ]
        where
          nothing : (gaps : List Atom) → gaps ≡ [] → ¬ Any (Contains provable) gaps
          nothing [] empty any = omega (arith, any.2)
          nothing (atom ∷ gaps) empty any = absurd (cc)

      module _ (tables : List Table) (wanted : List Atom) (stack : List Entry)
          (unlimited : (atom : Atom) (shapes : List (List Tick)) → IsClosedIn lists atom → ¬ IsLimited s (atom ∷ []) 0 shapes) where
        pub all-gathered : (old new : List OpInst)
            → ((inst : OpInst) → Contains new inst
            ↔ (Contains old inst ⊎ (IsOpenIn partial lists provable inst × IsRelevant problem tables wanted stack (Op inst))))
            → Gathers problem tables wanted stack model (StandsFor problem partial) old new
        all-gathered =
            gathered-by problem model partial lists provable tables wanted stack open-only open-all
            (λ inst stands relevant. unlimited_one problem model inst
            (λ shapes limited. not-proof-limited inst stands.0 shapes stands.1 limited)
            (λ formula shapes none met. elim met [
              | inl whole ↦ not-gap-limited inst stands.0 shapes stands.1 whole.1
              | inr one ↦
                  let atom = one.0 in
                  let ds = one.2.1 in
                  let listed_one =
                  loose_listed s (precondition problem partial.inst) partial.variable_count lists listed.all stands.0 ds
                  (list_open (loose_gaps_in s) inst stands.0 one.2.0 ds stands.1 one.2.2) in
                  unlimited atom shapes (list_of stands.0 ds, listed_one, (list_of-members stands.0 ds atom).1 one.2.3)
                  (subst (λ (l : List Atom). IsLimited s l 0 shapes) one.1 one.3)
            ]))

-- ---- from choices of objects to instances

module _ (problem : Problem) (partial : PartialInstance) (lists : List GapList) (provable : List Atom) (choices : List (List ℕ))
    (Fits : List ℕ → Type 0)
    (choices_are : (objects : List ℕ) → Contains choices objects ↔ (IsChosenIn lists provable objects × Fits objects))
    (fills : (list : GapList) → Contains lists list → Fills problem partial (instance_by partial list.objects) list.objects) where
  for-list : (list : GapList) → Contains lists list → AreObjectsFor problem partial list.objects
  for-list list has = let here = fills list has in record { count = here.count; below = here.below }

  pub chosen-for : All (AreObjectsFor problem partial) choices
  chosen-for = All-each (AreObjectsFor problem partial) choices (λ objects has.
      let one = ((choices_are objects).0 has).0 in
      subst (AreObjectsFor problem partial) one.2.0 (for-list one.0 one.1))

  -- objects whose instance is wanted fit
  pub chosen-open : (IsWanted : OpInst → Type 0)
      → ((objects : List ℕ) → AreObjectsFor problem partial objects → IsWanted (instance_by partial objects) → Fits objects)
      → (inst : OpInst) → OneOf choices (λ objects. (instance_by partial objects ≡ inst) × IsWanted inst)
      ↔ (IsOpenIn partial lists provable inst × IsWanted inst)
  chosen-open IsWanted fit inst = (
    λ one.
        let list = ((choices_are one.0).0 one.1).0 in
        ((list.0, list.1, (ap (instance_by partial) list.2.0 ∙ one.2.0, list.2.1)), one.2.1),
    λ h.
        let list = h.0.0 in
        let fits = fit list.objects (for-list list h.0.1) (subst IsWanted (sym h.0.2.0) h.1) in
        (list.objects, (choices_are list.objects).1 ((list, h.0.1, (refl, h.0.2.1)), fits), (h.0.2.0, h.1)),
  )
