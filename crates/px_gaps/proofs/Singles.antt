-- Lists of one element.
use Rattle.std.proofs.Common.{zero, suc, [], ◌∷◌, refl, sym, subst, arith}
use Rattle.std.specs.Prelude.{Any}

pub any_one : {X : Type 0} (P : X → Type 0) (x : X) → P x → Any P (x ∷ [])
any_one P x p = (0, x, omega arith, refl, p)

pub one_any : {X : Type 0} (P : X → Type 0) (x : X) → Any P (x ∷ []) → P x
one_any P x (zero, y, below, is, p) = subst P (sym is) p
one_any P x (suc k, y, below, is, p) = absurd (omega (arith, below))
