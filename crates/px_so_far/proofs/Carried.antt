-- What is told of a result is told otherwise.
use Rattle.px_so_far.proofs.Common.{Result, Ok, Err, IfOk}

-- what is told of a result is told otherwise
pub carried : {A E : Type 0} (r : Result A E) (P Q : A → Type 0) → ((a : A) → P a → Q a) → IfOk r P → IfOk r Q
carried (Ok a) P Q other is = other a is
carried (Err e) P Q other is = tt
