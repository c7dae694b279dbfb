-- The worked plan: what of it holds, by computing, and which tables don't generalise it.
use Rattle.std.specs.Prelude.{◌≡◌, ◌+◌, ℕ, List, [], ◌∷◌, map, slice_index, sum_by, All, Contains}
use Rattle.std.proofs.Common.{zero, suc, refl, sym, ap, ◌∙◌, arith}
use Rattle.std.proofs.lemmas.List.Elements.{All-cons}
use Rattle.px_terms.specs.declared.atom.Atom.{Atom}
use Rattle.px_terms.specs.declared.instance.OpInst.{OpInst}
use Rattle.px_terms.specs.declared.term.Term.{Term}
use Rattle.px_terms.specs.declared.term.Term.TheVariants.{Obj, Var}
use Rattle.px_terms.specs.Language.{IsObject, substitute}
use Rattle.px_terms.specs.MergedNamesLaws.{one}
use Rattle.px_terms.specs.Sorts.{IsWellSortedBy}
use Rattle.px_terms.specs.Validity.{IsGroundInstanceOf}
use Rattle.px_base.specs.ListLaws.{Contains-first}
use Rattle.px_proof.specs.Derivation.{Derivation, fact}
use Rattle.px_table.specs.declared.mark.Mark.{Mark}
use Rattle.px_table.specs.Marks.{IsKept, IsNamed}
use Rattle.px_table.specs.Supports.{IsProofOf, Supports}
use Rattle.px_table.specs.SupportShapes.{shape_of_support}
use Rattle.px_table.specs.WellSortedLaws.{sorts_of_places-computed}
use Rattle.px_general.specs.General.{Generalises, IsNumbered, shape_of_table}
use Rattle.px_replay.specs.FreshVariables.{fresh_in, fresh_variables}
use Rattle.px_general.specs.WorkedGeneral.{GeneralFacts, of_second, plan, touch, touched, touching, touching_twice}
use Rattle.px_general.proofs.TouchingAnswer.{answer, occurring, rows_are, two_sorts}

-- ---- numbers

misnumbered : ¬ IsNumbered (touching_twice two_sorts (Var 0) (Var 1))
misnumbered is =
    let wrong : Var 1 ∷ Var 0 ∷ [] ≡ Var 0 ∷ Var 1 ∷ [] =
    sym (ap (occurring (Var 0) (Var 1)) (rows_are two_sorts (Var 0) (Var 1))) ∙ is in
    cc

-- ---- another support of the shape touches two things

abbrev other_steps : List OpInst
other_steps = touch (Obj 0) ∷ touch (Obj 1) ∷ []

abbrev other_goal : List Atom
other_goal = touched (Obj 1) ∷ []

abbrev other_rows : List (List Derivation)
other_rows = [] ∷ [] ∷ (fact (of_second (Obj 1)) ∷ []) ∷ []

abbrev its_mark : Mark
its_mark = record { atom = touched (Obj 1); row = 3; column = 2; index = 0 }

is_step : (n : ℕ) → IsGroundInstanceOf touching (touch (Obj n))
is_step n = record { op = omega arith; count = refl; all_objects = one IsObject (Obj n) tt }

is_proof : IsProofOf IsObject [] (touched (Obj 1)) (fact (of_second (Obj 1)))
is_proof = record { proves = (refl, (Contains-first (touched (Obj 1)) [], one IsObject (Obj 1) tt)); terms = one IsObject (Obj 1) tt }

supports : Supports touching [] other_steps other_goal 0 other_rows
supports = record {
  instances =
      All-cons (IsGroundInstanceOf touching) (touch (Obj 0)) (touch (Obj 1) ∷ []) (is_step 0)
      (one (IsGroundInstanceOf touching) (touch (Obj 1)) (is_step 1));
  prove = (tt, (tt, ([], refl, (is_proof, tt))));
  named =
      one (IsNamed touching other_steps) its_mark (record {
        earlier = omega arith;
        initial = λ e. absurd (omega (arith, e));
        added = λ _. (touch (Obj 1), refl, refl);
      });
  given = one (λ (mark : Mark). mark.column ≡ 0 → Contains [] mark.atom) its_mark (λ e. absurd (omega (arith, e)));
  kept = one (IsKept touching other_steps 1) its_mark (λ k inst first after before at deleted. absurd (omega (arith, after, before)));
}

-- a thing that the problem doesn't have may be of the sort, too
fits : (n : ℕ) → slice_index two_sorts n ≡ 1 → IsWellSortedBy two_sorts touching (touch (Obj n))
fits n at zero below other = at
fits n at (suc k) below other = absurd (omega (arith, below))

steps-fit : All (IsWellSortedBy two_sorts touching) other_steps
steps-fit =
    All-cons (IsWellSortedBy two_sorts touching) (touch (Obj 0)) (touch (Obj 1) ∷ []) (fits 0 refl)
    (one (IsWellSortedBy two_sorts touching) (touch (Obj 1)) (fits 1 refl))

same_shape : shape_of_support other_steps other_goal other_rows ≡ shape_of_table plan
same_shape = ap (shape_of_support plan.steps plan.goal) (sym (rows_are [] (Obj 0) (Obj 0)))

-- both steps of the support aren't one
two_things : (t : Term) → ¬ (touch (Obj 0) ∷ touch (Obj 1) ∷ [] ≡ touch t ∷ touch t ∷ [])
two_things t e =
    let first : touch (Obj 0) ≡ touch t = cc in
    let second : touch (Obj 1) ≡ touch t = cc in
    let same : Obj 0 ∷ [] ≡ Obj 1 ∷ [] = ap (λ (inst : OpInst). inst.args) (first ∙ sym second) in
    cc

keeps_things : ¬ Generalises touching plan plan
keeps_things is = two_things (Obj 0) (is.all (1 ∷ []) [] other_steps other_goal other_rows supports steps-fit same_shape).1.steps_are

merges_things : ¬ Generalises touching plan (touching_twice (1 ∷ []) (Var 0) (Var 0))
merges_things is =
    let found = is.all (1 ∷ []) [] other_steps other_goal other_rows supports steps-fit same_shape in
    two_things (substitute (map Obj found.0) (Var 0)) found.1.steps_are

drops_sorts : ¬ Generalises touching plan (touching_twice (0 ∷ 0 ∷ []) (Var 1) (Var 0))
drops_sorts is =
    let wrong : 0 ∷ 0 ∷ [] ≡ two_sorts =
    sorts_of_places-computed touching (touching_twice (0 ∷ 0 ∷ []) (Var 1) (Var 0)) is.sorts in
    cc

-- ---- how many variables it takes

fresh : fresh_variables plan ≡ 3
fresh = ap (λ (ds : List (List Derivation)). 3 + sum_by (sum_by fresh_in) ds) (rows_are [] (Obj 0) (Obj 0))

pub general_facts : GeneralFacts
general_facts = record {
  answer = answer;
  misnumbered = misnumbered;
  keeps_things = keeps_things;
  merges_things = merges_things;
  drops_sorts = drops_sorts;
  fresh = fresh;
  fresh_in_proof = refl;
}
