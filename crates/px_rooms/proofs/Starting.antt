-- The things and the robots of a list of things, one by one.
use Rattle.std.specs.Prelude.{◌≡◌, ◌<◌, ◌≤◌, ◌+◌, ℕ, None, List, [], ◌∷◌, ◌++◌, length, take, slice_index_or, Result, Ok, Err, IfOk}
use Rattle.std.proofs.Common.{refl, sym, ap, ◌∙◌, subst, arith, length-append}
use Rattle.std.proofs.lemmas.List.{take_more}
use Rattle.px_terms.specs.declared.problem.Problem.{Problem}
use Rattle.px_terms.specs.Validity.{IsValid}
use Rattle.px_world.specs.declared.thing.Thing.{Thing}
use Rattle.px_world.specs.declared.thing.Thing.TheVariants as thing
use Rattle.px_rooms.specs.declared.standing.Standing.{Standing}
use Rattle.px_rooms.specs.declared.standing.Standing.TheVariants.{Room as a_room, Door as a_door, Box as a_box}
use Rattle.px_rooms.specs.declared.robots.Robots.{Robots}
use Rattle.px_rooms.specs.declared.robots.Robots.TheVariants as robots
use Rattle.px_rooms.specs.RobotCounts.{AreRobots}
use Rattle.px_rooms.specs.States.{robot_rooms, standings}

pub counted : (things : List Thing) → length (standings things) + length (robot_rooms things) ≡ length things
counted [] = refl
counted (thing.Room ∷ things) = let rest = counted things in omega (arith, rest)
counted (thing.Door a b is_open ∷ things) = let rest = counted things in omega (arith, rest)
counted (thing.Box r ∷ things) = let rest = counted things in omega (arith, rest)
counted (thing.Robot r ∷ things) = let rest = counted things in omega (arith, rest)

pub standings-more : (things : List Thing) (one : Thing) → standings (things ++ one ∷ []) ≡ standings things ++ standings (one ∷ [])
standings-more [] one = refl
standings-more (thing.Room ∷ things) one = ap (λ xs. a_room ∷ xs) (standings-more things one)
standings-more (thing.Door a b is_open ∷ things) one = ap (λ xs. a_door a b is_open ∷ xs) (standings-more things one)
standings-more (thing.Box r ∷ things) one = ap (λ xs. a_box r None ∷ xs) (standings-more things one)
standings-more (thing.Robot r ∷ things) one = standings-more things one

pub robots-more : (things : List Thing) (one : Thing) → robot_rooms (things ++ one ∷ []) ≡ robot_rooms things ++ robot_rooms (one ∷ [])
robots-more [] one = refl
robots-more (thing.Room ∷ things) one = robots-more things one
robots-more (thing.Door a b is_open ∷ things) one = robots-more things one
robots-more (thing.Box r ∷ things) one = robots-more things one
robots-more (thing.Robot r ∷ things) one = ap (λ xs. r ∷ xs) (robots-more things one)

pub add-next : (things : List Thing) (k : ℕ) (d : Thing) (old new : List Standing) → k < length things
    → new ≡ old ++ standings (slice_index_or things k d ∷ []) → old ≡ standings (take k things)
    → new ≡ standings (take (k + 1) things)
add-next things k d old new below more before =
    more ∙ ap (λ xs. xs ++ standings (slice_index_or things k d ∷ [])) before
    ∙ sym (standings-more (take k things) (slice_index_or things k d)) ∙ ap standings (sym (take_more things k d below))

pub robots-next : (things : List Thing) (k : ℕ) (d : Thing) (one : Robots) → k < length things
    → AreRobots one (robot_rooms (take k things) ++ robot_rooms (slice_index_or things k d ∷ []))
    → AreRobots one (robot_rooms (take (k + 1) things))
robots-next things k d one below are =
    subst (AreRobots one) (sym (ap robot_rooms (take_more things k d below) ∙ robots-more (take k things) (slice_index_or things k d))) are

pub first-robot : (one : Robots) (room : ℕ) (before : List ℕ) → one ≡ robots.None → AreRobots one before
    → AreRobots (robots.One room) (before ++ room ∷ [])
first-robot one room before is are = ap (λ xs. xs ++ room ∷ []) (subst (λ r. AreRobots r before) is are)

pub second-robot : (one : Robots) (first room : ℕ) (before : List ℕ) → one ≡ robots.One first → AreRobots one before
    → AreRobots robots.Several (before ++ room ∷ [])
second-robot one first room before is are =
    let told : before ≡ first ∷ [] = subst (λ r. AreRobots r before) is are in
    omega (arith, ap length told, length-append before (room ∷ []))

pub later-robot : (one : Robots) (room : ℕ) (before : List ℕ) → one ≡ robots.Several → AreRobots one before
    → AreRobots robots.Several (before ++ room ∷ [])
later-robot one room before is are =
    let told : 2 ≤ length before = subst (λ r. AreRobots r before) is are in
    omega (arith, told, length-append before (room ∷ []))

-- ---- the problem of a building

pub objects_are : (things : List Thing) → length (robot_rooms things) ≡ 1 → length things ≡ length (standings things) + 1
objects_are things single = let all = counted things in omega (arith, all, single)

pub valid-of : {E : Type 0} (result : Result Problem E) (problem : Problem) → IfOk result (λ p. p ≡ problem) → IsValid problem
    → IfOk result IsValid
valid-of (Ok p) problem is valid = subst IsValid (sym is) valid
valid-of (Err e) problem is valid = tt
