-- For what is read, being in range is a fact with one proof at most, so that a type can keep it. What may be in a version.
use Rattle.std.proofs.Common.{ap, subst, arith}
use Rattle.std.specs.Prelude.{◌≡◌, ◌≤◌, nat_le, ℕ, Bool, true, false, List, Option, None, Some, if◌then◌else◌}
use Rattle.std.proofs.Props.{props}
use mathlib.Core.Sum.{⊎_set}
use Rattle.px_rooms.specs.declared.standing.Standing.{Standing}
use Rattle.px_rooms.specs.declared.standing.Standing.TheVariants.{Room as a_room, Door as a_door, Box as a_box}
use Rattle.px_script.specs.Common.{IsAdmitted, IsBoxAt, IsBuilding, IsDoorAt, IsDoorOrNone, RoomState, StandsRight, thing_at, Atom, Problem, Term, Obj, IsTermOf, IsPatternTermOf, IsAtomOf, IsValid, AtomEdit, RoomEdit, Thing}
use Rattle.px_terms.specs.Language.{IsPlainBelow}
use Rattle.px_world.specs.declared.edits.AtomEdit.TheVariants as atom_edit
use Rattle.px_world.specs.declared.edits.RoomEdit.TheVariants as room_edit
use Rattle.px_world.specs.declared.thing.Thing.TheVariants as thing
use Rattle.px_script.specs.Commands.{Command}
use Rattle.px_script.specs.declared.command.Command.TheVariants.{Plan, DisturbRooms}
use Rattle.px_script.specs.Content.{ScriptValue}
use Rattle.px_script.specs.Limits.{by_version}
use Rattle.px_script.specs.Ranges.{IsEditOf, IsThingAfter, AreRoomEditsOf, IsCommandOf, NamesEarlier, IsInRange}

-- what may be in some version may be in the last
pub version-most : (version n a b : ℕ) → a ≤ b → n ≤ by_version version a b → n ≤ b
version-most version n a b more few = told (nat_le version 1) few
  where
    told : (one : Bool) → n ≤ (if one then a else b) → n ≤ b
    told true few = omega (arith, few, more)
    told false few = few

ruleset sums = (⊎_set, props)

Term-set : IsSet Term
Term-set = Prim.hlevel sums

pub IsTermOf-prop : (problem : Problem) (variable_count : ℕ) (t : Term) → IsProp (IsTermOf problem variable_count t)
IsTermOf-prop problem variable_count (Obj n) = Prim.hlevel props
IsTermOf-prop problem variable_count _ = Prim.hlevel props

pub IsPatternTermOf-prop : (problem : Problem) (variable_count : ℕ) (t : Term) → IsProp (IsPatternTermOf problem variable_count t)
IsPatternTermOf-prop problem variable_count (Obj n) = Prim.hlevel props
IsPatternTermOf-prop problem variable_count _ = Prim.hlevel props

IsPlainBelow-prop : (limit : ℕ) (t : Term) → IsProp (IsPlainBelow limit t)
IsPlainBelow-prop limit (Obj n) = Prim.hlevel props
IsPlainBelow-prop limit _ = Prim.hlevel props

ruleset terms = (IsTermOf-prop, IsPatternTermOf-prop, IsPlainBelow-prop, props)

pub IsAtomOf-prop : (problem : Problem) (variable_count : ℕ) (atom : Atom) → IsProp (IsAtomOf problem variable_count atom)
IsAtomOf-prop problem variable_count atom = Prim.hlevel terms

pub IsValid-prop : (problem : Problem) → IsProp (IsValid problem)
IsValid-prop problem = Prim.hlevel terms

IsEditOf-prop : (problem : Problem) (edit : AtomEdit) → IsProp (IsEditOf problem edit)
IsEditOf-prop problem (atom_edit.Add atom) = IsAtomOf-prop problem 0 atom
IsEditOf-prop problem (atom_edit.Remove atom) = IsAtomOf-prop problem 0 atom

-- rooms, doors and boxes of a building, each by one thing that stands there
Standing-set : IsSet (Option Standing)
Standing-set = Prim.hlevel sums

IsDoorAt-prop : (things : List Standing) (k : ℕ) → IsProp (IsDoorAt things k)
IsDoorAt-prop things k (x, y, is_open, one) (a, b, other, two) =
    let same : (x ≡ a) × (y ≡ b) × (is_open ≡ other) = (cc, cc, cc) in
    let At : ℕ → ℕ → Bool → Type 0 = λ x y o. thing_at things k ≡ Some (a_door x y o) in
    let is : (x y : ℕ) (o : Bool) → At x y o → IsDoorAt things k = λ x y o e. (x, y, o, e) in
    let P : ℕ → Type 0 = λ a. (two : At a b other) → is x y is_open one ≡ is a b other two in
    let Q : ℕ → Type 0 = λ b. (two : At x b other) → is x y is_open one ≡ is x b other two in
    let R : Bool → Type 0 = λ other. (two : At x y other) → is x y is_open one ≡ is x y other two in
    subst P same.0 (subst Q same.1 (subst R same.2 (λ two. ap (is x y is_open) (Standing-set _ _ one two)))) two

IsBoxAt-prop : (things : List Standing) (k : ℕ) → IsProp (IsBoxAt things k)
IsBoxAt-prop things k (r, beside, one) (a, other, two) =
    let same : (r ≡ a) × (beside ≡ other) = (cc, cc) in
    let At : ℕ → Option ℕ → Type 0 = λ r beside. thing_at things k ≡ Some (a_box r beside) in
    let is : (r : ℕ) (beside : Option ℕ) → At r beside → IsBoxAt things k = λ r beside e. (r, beside, e) in
    let P : ℕ → Type 0 = λ a. (two : At a other) → is r beside one ≡ is a other two in
    let Q : Option ℕ → Type 0 = λ other. (two : At r other) → is r beside one ≡ is r other two in
    subst P same.0 (subst Q same.1 (λ two. ap (is r beside) (Standing-set _ _ one two))) two

ruleset rooms = (Standing-set, IsDoorAt-prop, IsBoxAt-prop, props)

IsDoorOrNone-prop : (things : List Standing) (beside : Option ℕ) → IsProp (IsDoorOrNone things beside)
IsDoorOrNone-prop things None = Prim.hlevel rooms
IsDoorOrNone-prop things (Some k) = IsDoorAt-prop things k

StandsRight-prop : (things : List Standing) (one : Standing) → IsProp (StandsRight things one)
StandsRight-prop things a_room = Prim.hlevel rooms
StandsRight-prop things (a_door x y is_open) = Prim.hlevel rooms
StandsRight-prop things (a_box r beside) = Prim.hlevel (IsDoorOrNone-prop, rooms)

IsBuilding-prop : (things : List Thing) → IsProp (IsBuilding things)
IsBuilding-prop things = Prim.hlevel (StandsRight-prop, rooms)

IsThingAfter-prop : (before : List Thing) (t : Thing) → IsProp (IsThingAfter before t)
IsThingAfter-prop before thing.Room = Prim.hlevel rooms
IsThingAfter-prop before _ = Prim.hlevel rooms

IsAdmitted-prop : (state : RoomState) (edit : RoomEdit) → IsProp (IsAdmitted state edit)
IsAdmitted-prop state (room_edit.Robot r) = Prim.hlevel rooms
IsAdmitted-prop state _ = Prim.hlevel rooms

ruleset parts = (IsEditOf-prop, IsAdmitted-prop, IsAtomOf-prop, IsThingAfter-prop, IsBuilding-prop, terms)

AreRoomEditsOf-prop : (building : Option (List Thing)) (edits : List RoomEdit) → IsProp (AreRoomEditsOf building edits)
AreRoomEditsOf-prop None edits = Prim.hlevel parts
AreRoomEditsOf-prop (Some things) edits = Prim.hlevel parts

IsCommandOf-prop : (version : ℕ) (problem : Problem) (building : Option (List Thing)) (results : ℕ) (command : Command)
    → IsProp (IsCommandOf version problem building results command)
IsCommandOf-prop version problem building results (DisturbRooms turn between edits) = Prim.hlevel (AreRoomEditsOf-prop, parts)
IsCommandOf-prop version problem building results _ = Prim.hlevel parts

NamesEarlier-prop : (given : List ℕ) (before : List Command) (command : Command) → IsProp (NamesEarlier given before command)
NamesEarlier-prop given before (Plan name goal variable_count) = Prim.hlevel props
NamesEarlier-prop given before _ = Prim.hlevel props

pub IsInRange-prop : (script : ScriptValue) → IsProp (IsInRange script)
IsInRange-prop script = Prim.hlevel (IsCommandOf-prop, NamesEarlier-prop, IsValid-prop, Term-set, parts)
