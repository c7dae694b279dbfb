-- Lists of words that are taken, and some that aren't.
use Rattle.std.specs.Prelude.{◌≡◌, [], ◌∷◌, codes, None, Some}
use Rattle.px_words.specs.Orders.{order_of}
use Rattle.px_words.specs.declared.orders.Order.TheVariants.{Run, Demo, Check}

pub record WorkedWords : Type 0 where
  pub run : order_of (codes "run" ∷ []) ≡ Some Run
  pub check : order_of (codes "check" ∷ []) ≡ Some Check
  pub demo : order_of (codes "demo" ∷ codes "3" ∷ codes "0" ∷ []) ≡ Some (Demo 3 0)
  pub zeros : order_of (codes "demo" ∷ codes "0000000012" ∷ codes "2147483647" ∷ []) ≡ Some (Demo 12 2147483647)
  pub nothing : order_of [] ≡ None
  pub more : order_of (codes "run" ∷ codes "x" ∷ []) ≡ None
  pub more_to_check : order_of (codes "check" ∷ codes "x" ∷ []) ≡ None
  pub fewer : order_of (codes "demo" ∷ codes "3" ∷ []) ≡ None
  pub too_few_rooms : order_of (codes "demo" ∷ codes "2" ∷ codes "0" ∷ []) ≡ None
  pub too_many_rooms : order_of (codes "demo" ∷ codes "13" ∷ codes "0" ∷ []) ≡ None
  pub large : order_of (codes "demo" ∷ codes "3" ∷ codes "2147483648" ∷ []) ≡ None
  pub long : order_of (codes "demo" ∷ codes "3" ∷ codes "00000000000" ∷ []) ≡ None
  pub sign : order_of (codes "demo" ∷ codes "3" ∷ codes "+1" ∷ []) ≡ None
  pub hyphens : order_of (codes "--" ∷ codes "run" ∷ []) ≡ None
