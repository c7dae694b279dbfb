-- The number of a term that is an object.
use Rattle.std.specs.Prelude.{ℕ}
use Rattle.px_terms.specs.declared.term.Term.{Term}
use Rattle.px_terms.specs.declared.term.Term.TheVariants.{Obj, Var, Any as WildCard}

-- the object's number
abbrev pub number_of : Term → ℕ
number_of (Obj n) = n
number_of (Var v) = 0
number_of WildCard = 0
