-- A list of ticks is possible only where each shorter one is.
use Rattle.std.proofs.Common.{Bool, ℕ, List, [], ◌∷◌, ◌++◌}
use Rattle.px_terms.specs.declared.atom.Atom.{Atom}
use Rattle.px_proof.specs.declared.shape.Tick.{Tick}
use Rattle.px_question.specs.Settings.{Setting}
use Rattle.px_proof_walk.specs.Order.{IsPrefixClosed}
use Rattle.px_proof_walk.specs.Possible.{IsClosing, IsPossible}
use Rattle.std.specs.List.{AllByRecursion}
use Rattle.px_proof_walk.proofs.Pushing.{feasible-shorter}

prefix : (ticks : List Tick) (tick : Tick) (more : List Tick) → AllByRecursion IsClosing (ticks ++ tick ∷ more)
    → AllByRecursion IsClosing (ticks ++ tick ∷ [])
prefix [] tick more all = (all.0, tt)
prefix (t ∷ ticks) tick more all = (all.0, prefix ticks tick more all.1)

pub possible-shorter : (loose : Bool) (s : Setting) (formula : List Atom) (variable_count : ℕ) → IsPrefixClosed (IsPossible loose s formula variable_count)
possible-shorter loose s formula variable_count ticks tick more possible =
    (prefix ticks tick more possible.0, feasible-shorter loose s formula variable_count ticks tick more possible.1)
