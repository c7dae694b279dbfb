-- What a world keeps, and what is so of its facts.
use Rattle.std.specs.Prelude.{◌≡◌, ◌↔◌, ◌+◌, ℕ, Bool, true, false, Option, Some, None, List, [], ◌∷◌, length, All, Contains, IsTrue, slice_get}
use Rattle.std.proofs.Common.{zero, suc, sym, ap, ◌∙◌, subst, arith}
use Rattle.std.proofs.lemmas.List.Elements.{All-cons, All-nil}
use Rattle.std.specs.List.{AllByRecursion}
use Rattle.px_base.proofs.Loops.{is_false}
use Rattle.px_base.specs.Answers.{some_or_none, some_same}
use Rattle.px_base.specs.ListLaws.{All-each, AllByRecursion-at}
use Rattle.px_base.specs.SetLaws.{set_of-is_sorted}
use Rattle.px_terms.specs.declared.atom.Atom.{Atom}
use Rattle.px_terms.specs.declared.problem.Problem.{Problem}
use Rattle.px_terms.specs.declared.term.Term.{Term}
use Rattle.px_terms.specs.declared.term.Term.TheVariants.{Obj, Var, Any as WildCard}
use Rattle.px_terms.specs.AtomSets.{IsAtomSet}
use Rattle.px_terms.specs.Instances.{IsGround}
use Rattle.px_terms.specs.Language.{IsObject}
use Rattle.px_terms.specs.Order.{atom_cmp}
use Rattle.px_terms.specs.OrderLaws.{atom_cmp-total, atom_cmp-same}
use Rattle.px_terms.specs.Validity.{IsValid}
use Rattle.px_rooms.specs.declared.standing.Standing.{Standing}
use Rattle.px_rooms.specs.declared.standing.Standing.TheVariants.{Room as a_room, Door as a_door, Box as a_box}
use Rattle.px_rooms.specs.Looking.{atoms_about, atoms_of_thing, number_first}
use Rattle.px_rooms.specs.States.{IsRoomWorld, RoomState, beside_atoms, door_atom, rendering, thing_atoms}
use Rattle.px_rooms.proofs.About.{about, about-rendering, rendering-about}
use Rattle.px_rooms.proofs.Telling.{found-about}
use Rattle.px_rooms.proofs.Valid.{buildings_are_valid}

pub rules-valid : (rules : Problem) (state : RoomState) → IsRoomWorld rules state → IsValid rules
rules-valid rules state is =
    subst IsValid (sym is.rules) (buildings_are_valid (length state.things + 1) 1 1 2 (omega arith, is.few) (omega arith, omega arith)
    (omega arith, omega arith) (omega arith, omega arith))

-- ---- each fact is ground

ground-one : (pred k : ℕ) → IsGround (record { pred = pred; args = Obj k ∷ [] })
ground-one pred k = All-cons IsObject (Obj k) [] tt (All-nil IsObject)

ground-two : (pred k x : ℕ) → IsGround (record { pred = pred; args = Obj k ∷ Obj x ∷ [] })
ground-two pred k x = All-cons IsObject (Obj k) (Obj x ∷ []) tt (All-cons IsObject (Obj x) [] tt (All-nil IsObject))

ground-three : (pred k x y : ℕ) → IsGround (record { pred = pred; args = Obj k ∷ Obj x ∷ Obj y ∷ [] })
ground-three pred k x y =
    All-cons IsObject (Obj k) (Obj x ∷ Obj y ∷ []) tt
    (All-cons IsObject (Obj x) (Obj y ∷ []) tt (All-cons IsObject (Obj y) [] tt (All-nil IsObject)))

beside-ground : (k : ℕ) (beside : Option ℕ) → AllByRecursion IsGround (beside_atoms k beside)
beside-ground k None = tt
beside-ground k (Some x) = (ground-two 1 k x, tt)

door-ground : (k : ℕ) (is_open : Bool) → IsGround (door_atom k is_open)
door-ground k true = ground-one 3 k
door-ground k false = ground-one 4 k

thing-ground : (k : ℕ) (one : Standing) → AllByRecursion IsGround (thing_atoms k one)
thing-ground k a_room = (ground-one 5 k, tt)
thing-ground k (a_door x y is_open) = (ground-one 6 k, (ground-three 2 k x y, (ground-three 2 k y x, (door-ground k is_open, tt))))
thing-ground k (a_box r beside) = (ground-one 7 k, (ground-two 0 k r, beside-ground k beside))

of_thing-ground : (k : ℕ) (one : Option Standing) → AllByRecursion IsGround (atoms_of_thing k one)
of_thing-ground k None = tt
of_thing-ground k (Some one) = thing-ground k one

about-ground : (state : RoomState) (k : ℕ) → AllByRecursion IsGround (atoms_about state k)
about-ground state zero = (ground-two 0 0 state.robot_room, beside-ground 0 state.robot_beside)
about-ground state (suc k) = of_thing-ground (suc k) (slice_get state.things k)

pub rendering-ground : (state : RoomState) → All IsGround (rendering state)
rendering-ground state = All-each IsGround (rendering state)
    (λ atom has. let found = rendering-about state atom has in
    AllByRecursion-at IsGround (atoms_about state found.0) atom (about-ground state found.0) found.1)

pub rendering-ascending : (state : RoomState) → IsAtomSet (rendering state)
rendering-ascending state = set_of-is_sorted atom_cmp atom_cmp-total atom_cmp-same _

-- ---- an atom is a fact where it is one about its first argument

pub fact-by-first : (state : RoomState) (atom : Atom) (n : ℕ) (terms : List Term) → atom.args ≡ Obj n ∷ terms
    → Contains (atoms_about state n) atom ↔ Contains (rendering state) atom
fact-by-first state atom n terms told = ((λ has. about-rendering state n atom has), (λ has. found-about state atom n terms told has))

pub first-is-object : (state : RoomState) (atom : Atom) → Contains (rendering state) atom
    → (n : ℕ) × (terms : List Term) × (atom.args ≡ Obj n ∷ terms)
first-is-object state atom has =
    let found = rendering-about state atom has in let told = about state found.0 atom found.1 in (found.0, told.0, told.1)

-- ---- the first argument

first-is : (terms : List Term) (n : ℕ) → number_first terms ≡ Some n → (rest : List Term) × (terms ≡ Obj n ∷ rest)
first-is [] n is = absurd (cc)
first-is (Obj m ∷ terms) n is = (terms, ap (λ k. Obj k ∷ terms) (some_same is))
first-is (Var v ∷ terms) n is = absurd (cc)
first-is (WildCard ∷ terms) n is = absurd (cc)

first-not : (terms : List Term) (n : ℕ) (rest : List Term) → number_first terms ≡ None → ¬ (terms ≡ Obj n ∷ rest)
first-not terms n rest none is = some_or_none (sym (ap number_first is) ∙ none)

pub has-some : (state : RoomState) (atom : Atom) (n : ℕ) (b : Bool) → number_first atom.args ≡ Some n → IsTrue b
    ↔ Contains (atoms_about state n) atom → IsTrue b ↔ Contains (rendering state) atom
has-some state atom n b first test =
    let told = first-is atom.args n first in
    let fact = fact-by-first state atom n told.0 told.1 in
    ((λ t. fact.0 (test.0 t)), (λ has. test.1 (fact.1 has)))

pub has-none : (state : RoomState) (atom : Atom) → number_first atom.args ≡ None → IsTrue false ↔ Contains (rendering state) atom
has-none state atom none = is_false (λ has. let first = first-is-object state atom has in first-not atom.args first.0 first.1 none first.2)

-- what a world keeps, of its state
pub world-state : (problem : Problem) (inside state : RoomState) → inside ≡ state → IsRoomWorld problem inside → IsRoomWorld problem state
world-state problem inside state is world = subst (IsRoomWorld problem) is world
