-- What the plan that drops the first of the two objects carries, and what it doesn't (Lifschitz 1987).
use Rattle.std.specs.Prelude.{[], ◌∷◌}
use Rattle.px_terms.specs.declared.term.Term.TheVariants.{Obj}
use Rattle.px_terms.specs.MergedNames.{at, two_names, drop_first, apart, apart_after}
use Rattle.px_terms.specs.Plans.{IsRun, Carries}

-- The plan has a run: from the state where AT is true of the first object alone to the one where it is true of nothing. Without the fact
-- AT(a) it carries to nothing, since its precondition may fail. From AT(a) it carries to the empty goal and not to AT(a). What it doesn't
-- delete it keeps, so from AT(a) and AT(b) it carries to AT(b).
pub record DropPlanFact : Type 0 where
  pub run : IsRun two_names (apart ∷ apart_after ∷ []) (drop_first ∷ [])
  pub unmet : ¬ Carries two_names [] (drop_first ∷ []) 0 []
  pub lost : ¬ Carries two_names (at (Obj 0) ∷ []) (drop_first ∷ []) 0 (at (Obj 0) ∷ [])
  pub carried : Carries two_names (at (Obj 0) ∷ []) (drop_first ∷ []) 0 []
  pub spared : Carries two_names (at (Obj 0) ∷ at (Obj 1) ∷ []) (drop_first ∷ []) 0 (at (Obj 1) ∷ [])
