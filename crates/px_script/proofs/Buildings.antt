-- The things of a building by their numbers, where there is one thing more; and what a building is in the end: its things are a building.
use Rattle.px_script.proofs.Common.{IsBuilding, IsDoorOrNone, thing_at, ◌≡◌, ℕ, zero, suc, ◌+◌, ◌≤◌, true, false, List, [], ◌∷◌, ◌++◌, length, refl, sym, ap, ◌∙◌, subst, arith, length-append, All, AllByRecursion, Option, None, Some, slice_get, slice_index_or, list_any, All-append, All-from_recursion, All-push, has_name, Standing, a_room, a_door, a_box, IsBoxAt, IsDoorAt, IsRoomAt, StandsRight, robot_rooms, standings, robots-more, standings-more, Thing, is_robot, Roles, number_in, IsThingAfter}
use Rattle.px_world.specs.declared.thing.Thing.TheVariants as thing
use Rattle.px_script.proofs.Lists.{by_test, number-kept, number-unknown, number-new, each-more}
use Rattle.px_script.specs.States.{AreRolesOf, AreStanding}

-- ---- a thing keeps its number where there are more

get-kept : {A : Type 0} (xs ys : List A) (k : ℕ) (x : A) → slice_get xs k ≡ Some x → slice_get (xs ++ ys) k ≡ Some x
get-kept [] ys k x is = cc
get-kept (y ∷ xs) ys zero x is = is
get-kept (y ∷ xs) ys (suc k) x is = get-kept xs ys k x is

get-last : {A : Type 0} (xs : List A) (x : A) → slice_get (xs ++ x ∷ []) (length xs) ≡ Some x
get-last [] x = refl
get-last (y ∷ xs) x = get-last xs x

at-kept : (old more : List Standing) (k : ℕ) (one : Standing) → thing_at old k ≡ Some one → thing_at (old ++ more) k ≡ Some one
at-kept old more zero one is = is
at-kept old more (suc k) one is = get-kept old more k one is

-- what a number may be the number of
pub record IsKind (P : List Standing → ℕ → Type 0) : Type 0 where
  pub kept : (old more : List Standing) (k : ℕ) → P old k → P (old ++ more) k
  pub no_robot : (things : List Standing) → ¬ P things 0

pub rooms-kind : IsKind IsRoomAt
rooms-kind = record { kept = λ old more k is. at-kept old more k a_room is; no_robot = λ things is. cc }

pub doors-kind : IsKind IsDoorAt
doors-kind = record { kept = λ old more k is. (is.0, is.1, is.2, at-kept old more k _ is.3); no_robot = λ things is. let e = is.3 in cc }

pub boxes-kind : IsKind IsBoxAt
boxes-kind = record { kept = λ old more k is. (is.0, is.1, at-kept old more k _ is.2); no_robot = λ things is. let e = is.2 in cc }

-- ---- the names of a kind

abbrev pub AreOfKind : (List Standing → ℕ → Type 0) → List (List ℕ) → List Thing → List (List ℕ) → Type 0
AreOfKind P objects things names = All (λ n. P (standings things) (number_in n objects)) names

module _ (P : List Standing → ℕ → Type 0) (kind : IsKind P) where
  -- a name of the kind is an object's
  pub kind-known : (objects : List (List ℕ)) (things : List Standing) (n : List ℕ) → P things (number_in n objects)
      → has_name n objects ≡ true
  kind-known objects things n is = by_test (has_name n objects) (λ e. e)
      (λ e. absurd (kind.no_robot things (subst (P things) (number-unknown n objects e) is)))

  -- a name keeps its kind where there are more objects and things
  pub kind-kept : (objects more new : List (List ℕ)) (things after : List Thing) (others : List Standing) (names : List (List ℕ))
      → new ≡ objects ++ more → standings after ≡ standings things ++ others → AreOfKind P objects things names
      → AreOfKind P new after names
  kind-kept objects more new things after others names objects_are things_are all = λ k d below.
      let n = slice_index_or names k d in let is = all k d below in subst (λ o. P (standings after) (number_in n o)) (sym objects_are)
      (subst (λ xs. P xs (number_in n (objects ++ more))) (sym things_are) (subst (P (standings things ++ others))
      (sym (number-kept n objects more (kind-known objects (standings things) n is))) (kind.kept (standings things) others _ is)))

  -- a new name is that of the new thing
  pub kind-more : (objects : List (List ℕ)) (n : List ℕ) (things : List Thing) (t : Thing) (one : Standing) (names : List (List ℕ))
      → standings (t ∷ []) ≡ one ∷ [] → ((xs : List Standing) (k : ℕ) → thing_at xs k ≡ Some one → P xs k) → has_name n objects ≡ false
      → length objects ≡ length (standings things) + 1 → AreOfKind P objects things names
      → AreOfKind P (objects ++ n ∷ []) (things ++ t ∷ []) (names ++ n ∷ [])
  kind-more objects n things t one names stands is new counts old =
      let all = kind-kept objects (n ∷ []) (objects ++ n ∷ []) things (things ++ t ∷ []) (standings (t ∷ [])) names refl
      (standings-more things t) old in
      let after = standings-more things t ∙ ap (λ xs. standings things ++ xs) stands in
      let last = number-new n objects [] new in
      let number : suc (length (standings things)) ≡ number_in n (objects ++ n ∷ []) = omega (arith, last, counts) in
      let place : thing_at (standings (things ++ t ∷ [])) (suc (length (standings things))) ≡ Some one =
      ap (λ xs. thing_at xs (suc (length (standings things)))) after ∙ get-last (standings things) one in
      let Q : List ℕ → Type 0 = λ m. P (standings (things ++ t ∷ [])) (number_in m (objects ++ n ∷ [])) in
      All-push Q names n all (subst (P (standings (things ++ t ∷ []))) number (is _ _ place))

-- roles are kept where there are more objects and things
pub roles-kept : (objects more new : List (List ℕ)) (things after : List Thing) (others : List Standing) (roles : Roles)
    → new ≡ objects ++ more → standings after ≡ standings things ++ others → AreRolesOf objects roles things → AreRolesOf new roles after
roles-kept objects more new things after others roles objects_are things_are r = record {
  rooms = kind-kept IsRoomAt rooms-kind objects more new things after others roles.rooms objects_are things_are r.rooms;
  doors = kind-kept IsDoorAt doors-kind objects more new things after others roles.doors objects_are things_are r.doors;
  boxes = kind-kept IsBoxAt boxes-kind objects more new things after others roles.boxes objects_are things_are r.boxes;
}

-- ---- the things stand right

door-or-none-kept : (old more : List Standing) (beside : Option ℕ) → IsDoorOrNone old beside → IsDoorOrNone (old ++ more) beside
door-or-none-kept old more None is = tt
door-or-none-kept old more (Some k) is = doors-kind.kept old more k is

stands-kept : (old more : List Standing) (one : Standing) → StandsRight old one → StandsRight (old ++ more) one
stands-kept old more a_room is = tt
stands-kept old more (a_door x y is_open) is = (rooms-kind.kept old more x is.0, rooms-kind.kept old more y is.1, is.2)
stands-kept old more (a_box r beside) is = (rooms-kind.kept old more r is.0, door-or-none-kept old more beside is.1)

-- the next thing stands right among those before it
next-right : (before : List Thing) (t : Thing) → IsThingAfter before t
    → AllByRecursion (StandsRight (standings before)) (standings (t ∷ []))
next-right before thing.Room is = (tt, tt)
next-right before (thing.Door x y is_open) is = (is, tt)
next-right before (thing.Box r) is = ((is, tt), tt)
next-right before (thing.Robot r) is = tt

next-robot : (before : List Thing) (t : Thing) → IsThingAfter before t → AllByRecursion (IsRoomAt (standings before)) (robot_rooms (t ∷ []))
next-robot before (thing.Robot r) is = (is, tt)
next-robot before _ is = tt

pub standing-more : (things : List Thing) (t : Thing) → AreStanding things → IsThingAfter things t
    → length (robot_rooms things) + length (robot_rooms (t ∷ [])) ≤ 1 → AreStanding (things ++ t ∷ [])
standing-more things t old is single = let after = standings-more things t in let robots_after = robots-more things t in
    let xs = standings things in let more = standings (t ∷ []) in
    let all_right = All-append (StandsRight xs) xs more old.right (All-from_recursion _ more (next-right things t is)) in
    let all_robots = All-append (IsRoomAt xs) (robot_rooms things) _ old.robots
    (All-from_recursion _ (robot_rooms (t ∷ [])) (next-robot things t is)) in
    let T : List Standing → Type 0 = λ ys. All (IsRoomAt ys) (robot_rooms (things ++ t ∷ [])) in
    let robots = subst (All (IsRoomAt (xs ++ more))) (sym robots_after) (λ k d below. rooms-kind.kept xs more _ (all_robots k d below)) in
    record {
      right = subst (λ ys. All (StandsRight ys) ys) (sym after) (λ k d below. stands-kept xs more _ (all_right k d below));
      robots = subst T (sym after) robots;
      one_robot = omega (arith, ap length robots_after, length-append (robot_rooms things) (robot_rooms (t ∷ [])), single);
      earlier = each-more IsThingAfter things t thing.Room old.earlier is;
    }

-- ---- robots

pub robots-none : (things : List Thing) → list_any is_robot things ≡ false → length (robot_rooms things) ≡ 0
robots-none [] none = refl
robots-none (thing.Robot r ∷ things) none = cc
robots-none (_ ∷ things) none = robots-none things none

pub robots-some : (things : List Thing) → list_any is_robot things ≡ true → 1 ≤ length (robot_rooms things)
robots-some [] there = cc
robots-some (thing.Robot r ∷ things) there = omega arith
robots-some (_ ∷ things) there = robots-some things there

-- ---- in the end

-- things that stand right are a building where there is a robot
pub is-building : (things : List Thing) → AreStanding things → 1 ≤ length (robot_rooms things) → IsBuilding things
is-building things are some =
    (omega (arith, some, are.one_robot), record { robot_room = are.robots 0 0 some; robot_beside = tt; things = are.right })
