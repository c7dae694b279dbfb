-- Each instance of an operator of buildings is that of one action.
use Rattle.std.specs.Prelude.{◌≡◌, ◌<◌, ◌≤◌, ℕ, Some, List, [], ◌∷◌, length, map, slice_get, slice_index, slice_index_or, All}
use Rattle.std.proofs.Common.{zero, suc, refl, sym, ap, ◌∙◌, subst, arith}
use Rattle.std.proofs.lemmas.List.Elements.{All-head, All-tail}
use Rattle.px_terms.specs.declared.instance.OpInst.{OpInst}
use Rattle.px_terms.specs.declared.problem.Problem.{Problem}
use Rattle.px_terms.specs.declared.term.Term.{Term}
use Rattle.px_terms.specs.declared.term.Term.TheVariants.{Obj, Var, Any as WildCard}
use Rattle.px_terms.specs.Operators.{no_schema}
use Rattle.px_terms.specs.Validity.{IsInstanceOf, IsTermOf}
use Rattle.px_rooms.specs.declared.action.RoomAction.{RoomAction}
use Rattle.px_rooms.specs.declared.action.RoomAction.TheVariants as act
use Rattle.px_rooms.specs.Changes.{instance_of_action}
use Rattle.px_rooms.specs.Domain.{room_schemas}
use Rattle.px_rooms.specs.Following.{InstancesAreActions}
use Rattle.px_rooms.specs.States.{RoomState, building_rules}
use Rattle.px_rooms.proofs.Numbers.{number_of}

-- ---- lists of objects

module _ (problem : Problem) where
  abbrev AreObjects : List Term → Type 0
  AreObjects args = All (IsTermOf problem 0) args

  one_of : (args : List Term) → length args ≡ 1 → AreObjects args → (x : ℕ) × (args ≡ Obj x ∷ [])
  one_of [] e all = absurd (omega (arith, e))
  one_of (Obj n ∷ []) e all = (n, refl)
  one_of (Obj n ∷ y ∷ args) e all = absurd (omega (arith, e))
  one_of (Var v ∷ args) e all = absurd (omega (arith, All-head (IsTermOf problem 0) (Var v) args all))
  one_of (WildCard ∷ args) e all = absurd (All-head (IsTermOf problem 0) WildCard args all)

  two_of : (args : List Term) → length args ≡ 2 → AreObjects args → (x : ℕ) × (y : ℕ) × (args ≡ Obj x ∷ Obj y ∷ [])
  two_of [] e all = absurd (omega (arith, e))
  two_of (Obj n ∷ args) e all =
      let rest =
      one_of args (omega (arith, e)) (All-tail (IsTermOf problem 0) (Obj n) args all) in (n, rest.0, ap (λ ys. Obj n ∷ ys) rest.1)
  two_of (Var v ∷ args) e all = absurd (omega (arith, All-head (IsTermOf problem 0) (Var v) args all))
  two_of (WildCard ∷ args) e all = absurd (All-head (IsTermOf problem 0) WildCard args all)

  three_of : (args : List Term) → length args ≡ 3 → AreObjects args → (x : ℕ) × (y : ℕ) × (z : ℕ) × (args ≡ Obj x ∷ Obj y ∷ Obj z ∷ [])
  three_of [] e all = absurd (omega (arith, e))
  three_of (Obj n ∷ args) e all =
      let rest =
      two_of args (omega (arith, e)) (All-tail (IsTermOf problem 0) (Obj n) args all) in (n, rest.0, rest.1, ap (λ ys. Obj n ∷ ys) rest.2)
  three_of (Var v ∷ args) e all = absurd (omega (arith, All-head (IsTermOf problem 0) (Var v) args all))
  three_of (WildCard ∷ args) e all = absurd (All-head (IsTermOf problem 0) WildCard args all)

  four_of : (args : List Term) → length args ≡ 4 → AreObjects args
      → (w : ℕ) × (x : ℕ) × (y : ℕ) × (z : ℕ) × (args ≡ Obj w ∷ Obj x ∷ Obj y ∷ Obj z ∷ [])
  four_of [] e all = absurd (omega (arith, e))
  four_of (Obj n ∷ args) e all =
      let rest =
      three_of args (omega (arith, e)) (All-tail (IsTermOf problem 0) (Obj n) args all) in
      (n, rest.0, rest.1, rest.2, ap (λ ys. Obj n ∷ ys) rest.3)
  four_of (Var v ∷ args) e all = absurd (omega (arith, All-head (IsTermOf problem 0) (Var v) args all))
  four_of (WildCard ∷ args) e all = absurd (All-head (IsTermOf problem 0) WildCard args all)

-- ---- the action of an instance

abbrev IsActions : OpInst → Type 0
IsActions inst = (action : RoomAction) × (inst ≡ instance_of_action action)

abbrev with_args : ℕ → List Term → OpInst
with_args op args = record { op = op; args = args }

action-of : (problem : Problem) (op : ℕ) (args : List Term) → op < 7 → length args ≡ (slice_index_or room_schemas op no_schema).params
    → All (IsTermOf problem 0) args → IsActions (with_args op args)
action-of problem zero args below count all =
    let told = two_of problem args count all in (act.GoToBox told.0 told.1, ap (with_args 0) told.2)
action-of problem (suc zero) args below count all =
    let told = three_of problem args count all in (act.GoToDoor told.0 told.1 told.2, ap (with_args 1) told.3)
action-of problem (suc (suc zero)) args below count all =
    let told = one_of problem args count all in (act.Open told.0, ap (with_args 2) told.1)
action-of problem (suc (suc (suc zero))) args below count all =
    let told = one_of problem args count all in (act.Close told.0, ap (with_args 3) told.1)
action-of problem (suc (suc (suc (suc zero)))) args below count all =
    let told = three_of problem args count all in (act.GoThrough told.0 told.1 told.2, ap (with_args 4) told.3)
action-of problem (suc (suc (suc (suc (suc zero))))) args below count all =
    let told = four_of problem args count all in (act.PushToDoor told.0 told.1 told.2 told.3, ap (with_args 5) told.4)
action-of problem (suc (suc (suc (suc (suc (suc zero)))))) args below count all =
    let told = four_of problem args count all in (act.PushThrough told.0 told.1 told.2 told.3, ap (with_args 6) told.4)
action-of problem (suc (suc (suc (suc (suc (suc (suc k))))))) args below count all = absurd (omega (arith, below))

pub action-of-instance : (state : RoomState) (inst : OpInst) → IsInstanceOf (building_rules state) inst
    → (action : RoomAction) × (inst ≡ instance_of_action action)
action-of-instance state inst of_problem =
    action-of (building_rules state) inst.op inst.args of_problem.op of_problem.count of_problem.objects

-- ---- which action an instance is of

-- the actions of the first objects of a list, by operator
abbrev back : List (List ℕ → RoomAction)
back =
    (λ os. act.GoToBox (slice_index os 0) (slice_index os 1))
    ∷ (λ os. act.GoToDoor (slice_index os 0) (slice_index os 1) (slice_index os 2))
    ∷ (λ os. act.Open (slice_index os 0))
    ∷ (λ os. act.Close (slice_index os 0))
    ∷ (λ os. act.GoThrough (slice_index os 0) (slice_index os 1) (slice_index os 2))
    ∷ (λ os. act.PushToDoor (slice_index os 0) (slice_index os 1) (slice_index os 2) (slice_index os 3))
    ∷ (λ os. act.PushThrough (slice_index os 0) (slice_index os 1) (slice_index os 2) (slice_index os 3))
    ∷ []

abbrev read : OpInst → RoomAction
read inst = slice_index_or back inst.op (λ os. act.Open 0) (map number_of inst.args)

read-back : (one : RoomAction) → read (instance_of_action one) ≡ one
read-back (act.GoToBox b r) = refl
read-back (act.GoToDoor d r s) = refl
read-back (act.Open d) = refl
read-back (act.Close d) = refl
read-back (act.GoThrough d r s) = refl
read-back (act.PushToDoor b d r s) = refl
read-back (act.PushThrough b d r s) = refl

pub instances-are-actions : InstancesAreActions
instances-are-actions = record {
  each = action-of-instance;
  once = λ one other same. sym (read-back one) ∙ ap read same ∙ read-back other;
}

-- ---- the action that is read from the numbers of an instance

-- the numbers are those of its first objects, as far as there are any
pub record Reads (args : List Term) (first second third fourth : ℕ) : Type 0 where
  pub one : (n : ℕ) → slice_get args 0 ≡ Some (Obj n) → first ≡ n
  pub two : (n : ℕ) → slice_get args 1 ≡ Some (Obj n) → second ≡ n
  pub three : (n : ℕ) → slice_get args 2 ≡ Some (Obj n) → third ≡ n
  pub four : (n : ℕ) → slice_get args 3 ≡ Some (Obj n) → fourth ≡ n

abbrev pub pick : ℕ → ℕ → ℕ → ℕ → ℕ → RoomAction
pick zero a b c d = act.GoToBox a b
pick (suc zero) a b c d = act.GoToDoor a b c
pick (suc (suc zero)) a b c d = act.Open a
pick (suc (suc (suc zero))) a b c d = act.Close a
pick (suc (suc (suc (suc zero)))) a b c d = act.GoThrough a b c
pick (suc (suc (suc (suc (suc zero))))) a b c d = act.PushToDoor a b c d
pick (suc (suc (suc (suc (suc (suc k)))))) a b c d = act.PushThrough a b c d

picked : (action : RoomAction) (a b c d : ℕ) → Reads (instance_of_action action).args a b c d
    → pick (instance_of_action action).op a b c d ≡ action
picked (act.GoToBox x y) a b c d reads = let one : a ≡ x = reads.one x refl in let two : b ≡ y = reads.two y refl in cc
picked (act.GoToDoor x y z) a b c d reads =
    let one : a ≡ x = reads.one x refl in let two : b ≡ y = reads.two y refl in let three : c ≡ z = reads.three z refl in cc
picked (act.Open x) a b c d reads = let one : a ≡ x = reads.one x refl in cc
picked (act.Close x) a b c d reads = let one : a ≡ x = reads.one x refl in cc
picked (act.GoThrough x y z) a b c d reads =
    let one : a ≡ x = reads.one x refl in let two : b ≡ y = reads.two y refl in let three : c ≡ z = reads.three z refl in cc
picked (act.PushToDoor w x y z) a b c d reads =
    let one : a ≡ w =
    reads.one w refl in let two : b ≡ x =
    reads.two x refl in let three : c ≡ y = reads.three y refl in let four : d ≡ z = reads.four z refl in cc
picked (act.PushThrough w x y z) a b c d reads =
    let one : a ≡ w =
    reads.one w refl in let two : b ≡ x =
    reads.two x refl in let three : c ≡ y = reads.three y refl in let four : d ≡ z = reads.four z refl in cc

-- so the instance is that of the action that is picked by its operator's number
pub read-action : (state : RoomState) (inst : OpInst) (op a b c d : ℕ) → IsInstanceOf (building_rules state) inst → inst.op ≡ op
    → Reads inst.args a b c d → inst ≡ instance_of_action (pick op a b c d)
read-action state inst op a b c d of_problem number reads =
    let told = action-of-instance state inst of_problem in
    let same : pick (instance_of_action told.0).op a b c d ≡ told.0 =
    picked told.0 a b c d (subst (λ (i : OpInst). Reads i.args a b c d) told.1 reads) in
    let by_number : pick op a b c d ≡ pick (instance_of_action told.0).op a b c d =
    ap (λ n. pick n a b c d) (sym number ∙ ap (λ (i : OpInst). i.op) told.1) in
    told.1 ∙ ap instance_of_action (sym (by_number ∙ same))

pub pick-last : (op a b c d : ℕ) → 6 ≤ op → pick op a b c d ≡ act.PushThrough a b c d
pick-last zero a b c d less = absurd (omega (arith, less))
pick-last (suc zero) a b c d less = absurd (omega (arith, less))
pick-last (suc (suc zero)) a b c d less = absurd (omega (arith, less))
pick-last (suc (suc (suc zero))) a b c d less = absurd (omega (arith, less))
pick-last (suc (suc (suc (suc zero)))) a b c d less = absurd (omega (arith, less))
pick-last (suc (suc (suc (suc (suc zero))))) a b c d less = absurd (omega (arith, less))
pick-last (suc (suc (suc (suc (suc (suc k)))))) a b c d less = refl

pub reads-of : (args given : List Term) (a b c d : ℕ) → given ≡ args → ((n : ℕ) → slice_get given 0 ≡ Some (Obj n) → a ≡ n)
    → ((n : ℕ) → slice_get given 1 ≡ Some (Obj n) → b ≡ n)
    → ((n : ℕ) → slice_get given 2 ≡ Some (Obj n) → c ≡ n) → ((n : ℕ) → slice_get given 3 ≡ Some (Obj n) → d ≡ n) → Reads args a b c d
reads-of args given a b c d is one two three four =
    subst (λ xs. Reads xs a b c d) is (record { one = one; two = two; three = three; four = four })
