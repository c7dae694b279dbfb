-- The plan that drops the first of two objects carries what it is said to carry, and no more.
use Rattle.std.specs.Prelude.{List, [], ◌∷◌, All, Contains}
use Rattle.std.proofs.Common.{refl, inl}
use Rattle.std.proofs.lemmas.List.Elements.{All-head}
use Rattle.px_base.specs.ListLaws.{Contains-none, Contains-first, Contains-later}
use Rattle.px_terms.specs.declared.atom.Atom.{Atom}
use Rattle.px_terms.specs.declared.term.Term.TheVariants.{Obj}
use Rattle.px_terms.specs.DropPlan.{DropPlanFact}
use Rattle.px_terms.specs.MergedNames.{at, drop_schema, two_names, drop_first, apart, apart_after}
use Rattle.px_terms.specs.MergedNamesLaws.{All-nothing, one, valid, instance, apart_state, apart_after_state, met_apart, natural, second}
use Rattle.px_terms.specs.OperatorLaws.{result_by-members}
use Rattle.px_terms.specs.Operators.{result_of}
use Rattle.px_terms.specs.Plans.{IsRun, Carries, GoalHolds}
use Rattle.px_terms.specs.Soundness.{achieves_carries}
use Rattle.px_terms.specs.States.{Holds, HoldsUnder, element_of}
use Rattle.px_terms.specs.Validity.{IsAtomOf, IsInstanceOf}

run : IsRun two_names (apart ∷ apart_after ∷ []) (drop_first ∷ [])
run = ((apart_state, All-nothing _), natural, (apart_after_state, All-nothing _))

-- where AT is true of nothing, the precondition isn't met
unmet : ¬ Carries two_names [] (drop_first ∷ []) 0 []
unmet carries =
    let met = carries.meets apart_after [] (apart_after_state, All-nothing _) (All-nothing (Holds apart_after)) in
    Contains-none (element_of apart_after [] (Obj 0) ∷ []) (All-head (Holds apart_after) (at (Obj 0)) [] met.0)

lost : ¬ Carries two_names (at (Obj 0) ∷ []) (drop_first ∷ []) 0 (at (Obj 0) ∷ [])
lost carries =
    let goal : GoalHolds apart_after 0 (at (Obj 0) ∷ []) = carries.ends apart (apart_after ∷ []) run met_apart refl in
    Contains-none (element_of apart_after goal.0 (Obj 0) ∷ []) (All-head (HoldsUnder apart_after goal.0) (at (Obj 0)) [] goal.2)

steps : All (IsInstanceOf two_names) (drop_first ∷ [])
steps = one (IsInstanceOf two_names) drop_first instance

carried : Carries two_names (at (Obj 0) ∷ []) (drop_first ∷ []) 0 []
carried =
    let needed = one (Contains (at (Obj 0) ∷ [])) (at (Obj 0)) (Contains-first (at (Obj 0)) []) in
    achieves_carries two_names (at (Obj 0) ∷ []) (drop_first ∷ []) [] valid steps (All-nothing (IsAtomOf two_names 0))
    (needed, All-nothing (Contains (result_of two_names (at (Obj 0) ∷ []) drop_first)))

-- AT is true of both objects
abbrev both : List Atom
both = at (Obj 0) ∷ at (Obj 1) ∷ []

second_is_left : Contains (result_of two_names both drop_first) (at (Obj 1))
second_is_left = (result_by-members drop_schema both drop_first (at (Obj 1))).1
    (inl (Contains-later (at (Obj 0)) (at (Obj 1) ∷ []) (at (Obj 1)) (Contains-first (at (Obj 1)) []), refl))

spared : Carries two_names both (drop_first ∷ []) 0 (at (Obj 1) ∷ [])
spared =
    let needed = one (Contains both) (at (Obj 0)) (Contains-first (at (Obj 0)) (at (Obj 1) ∷ [])) in
    let there = one (Contains (result_of two_names both drop_first)) (at (Obj 1)) second_is_left in
    achieves_carries two_names both (drop_first ∷ []) (at (Obj 1) ∷ []) valid steps (one (IsAtomOf two_names 0) (at (Obj 1)) second)
    (needed, there)

pub drop_plan : DropPlanFact
drop_plan = record { run = run; unmet = unmet; lost = lost; carried = carried; spared = spared }
