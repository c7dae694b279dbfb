use Rattle.std.specs.Prelude.{◌<◌, ℕ, List, slice_index}
use Rattle.px_gaps.specs.Bindings.{Avoids, open_term_count}
use Rattle.px_gaps.proofs.bindings.+can_choose.Given as goal

abbrev pub decreases-can_choose : goal.decreases-can_choose
decreases-can_choose l = open_term_count l.terms.now

-- no object before this one will do
abbrev pub invariant-loop-object : goal.invariant-loop-object
invariant-loop-object l =
    (values : List ℕ) → Avoids l.avoidance.limit l.terms l.avoidance.atoms.now l.avoidance.set.now.atoms values
    → ¬ (slice_index values l.variable < l.object)
