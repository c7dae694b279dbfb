-- Changes of the facts about the robot alone, and of those about the robot and one thing.
use Rattle.std.specs.Prelude.{◌≡◌, ◌≢◌, ◌⊎◌, ◌==◌, ℕ, Bool, true, false, Some, List, [], ◌∷◌, set, slice_get, slice_index_or, Contains}
use Rattle.std.proofs.Common.{zero, suc, refl, sym, ap, subst, inl, inr}
use Rattle.std.specs.List.{AllByRecursion}
use Rattle.std.proofs.lemmas.Bool.{eqb-true}
use Rattle.px_terms.specs.declared.atom.Atom.{Atom}
use Rattle.px_terms.specs.declared.instance.OpInst.{OpInst}
use Rattle.px_terms.specs.declared.problem.Schema.{Schema}
use Rattle.px_terms.specs.Operators.{atoms_of, result_by}
use Rattle.px_rooms.specs.declared.standing.Standing.{Standing}
use Rattle.px_rooms.specs.declared.standing.Standing.TheVariants.{Room as a_room}
use Rattle.px_rooms.specs.Changes.{things_with}
use Rattle.px_rooms.specs.Looking.{atoms_about, atoms_of_thing}
use Rattle.px_rooms.specs.States.{RoomState, rendering, robot_atoms, thing_atoms}
use Rattle.px_base.specs.Answers.{both_answers}
use Rattle.px_rooms.proofs.About.{all-about}
use Rattle.px_rooms.proofs.Effects.{Changes, IsSpared, same-number, result-by-changes, same-facts}

pub differing : (k t : ℕ) → (k == t) ≡ false → k ≢ t
differing k t is e = both_answers (k == t) is (rw e (same-number t))

-- ---- one thing of a list is changed

pub set-same : {X : Type 0} (xs : List X) (k : ℕ) (x y : X) → slice_get xs k ≡ Some y → slice_get (set xs k x) k ≡ Some x
set-same [] k x y is = absurd (cc)
set-same (z ∷ xs) zero x y is = refl
set-same (z ∷ xs) (suc k) x y is = set-same xs k x y is

pub set-other : {X : Type 0} (xs : List X) (k j : ℕ) (x : X) → j ≢ k → slice_get (set xs k x) j ≡ slice_get xs j
set-other [] k j x differ = refl
set-other (z ∷ xs) zero zero x differ = absurd (differ refl)
set-other (z ∷ xs) zero (suc j) x differ = refl
set-other (z ∷ xs) (suc k) zero x differ = refl
set-other (z ∷ xs) (suc k) (suc j) x differ = set-other xs k j x (λ e. differ (ap suc e))

pub read-or : {X : Type 0} (xs : List X) (k : ℕ) (x d : X) → slice_get xs k ≡ Some x → slice_index_or xs k d ≡ x
read-or [] k x d is = absurd (cc)
read-or (z ∷ xs) zero x d is = cc
read-or (z ∷ xs) (suc k) x d is = read-or xs k x d is

pub changed-here : (change : Standing → Standing) (things : List Standing) (t : ℕ) (one : Standing) → slice_get things t ≡ Some one
    → slice_get (things_with (suc t) change things) t ≡ Some (change one)
changed-here change things t one is = rw (read-or things t one a_room is) (set-same things t (change one) one is)

pub changed-there : (change : Standing → Standing) (things : List Standing) (t k : ℕ) → k ≢ t
    → slice_get (things_with (suc t) change things) k ≡ slice_get things k
changed-there change things t k differ = set-other things t k (change (slice_index_or things t a_room)) differ

-- ---- what is to be shown then

module _ (schema : Schema) (inst : OpInst) (old new : RoomState) where
  -- the facts about the robot change
  pub robot-result : new.things ≡ old.things → ((k : ℕ) → IsSpared schema inst (suc k))
      → Changes schema inst (robot_atoms old) (robot_atoms new)
      → AllByRecursion (Contains (robot_atoms new)) (atoms_of schema.add inst) → rendering new ≡ result_by schema (rendering old) inst
  robot-result same spare robot added = result-by-changes schema inst old new each (found (atoms_of schema.add inst) added) where
    each : (k : ℕ) → Changes schema inst (atoms_about old k) (atoms_about new k)
    each zero = robot
    each (suc k) = subst (λ things. Changes schema inst (atoms_about old (suc k)) (atoms_of_thing (suc k) (slice_get things k))) (sym same)
        (same-facts schema inst (suc k) (atoms_about old (suc k)) (spare k) (all-about old (suc k)))

    found : (atoms : List Atom) → AllByRecursion (Contains (robot_atoms new)) atoms
        → AllByRecursion (λ a. (k : ℕ) × Contains (atoms_about new k) a) atoms
    found [] all = tt
    found (a ∷ atoms) (here, all) = ((0, here), found atoms all)

  -- the facts about the robot and about one thing change
  pub thing-result : (t : ℕ) (was is : Standing) → slice_get old.things t ≡ Some was → slice_get new.things t ≡ Some is
      → ((k : ℕ) → k ≢ t → slice_get new.things k ≡ slice_get old.things k)
      → ((k : ℕ) → k ≢ t → IsSpared schema inst (suc k)) → Changes schema inst (robot_atoms old) (robot_atoms new)
      → Changes schema inst (thing_atoms (suc t) was) (thing_atoms (suc t) is)
      → AllByRecursion (λ a. Contains (robot_atoms new) a ⊎ Contains (thing_atoms (suc t) is) a) (atoms_of schema.add inst)
      → rendering new ≡ result_by schema (rendering old) inst
  thing-result t was is before after same spare robot thing added =
      result-by-changes schema inst old new each (found (atoms_of schema.add inst) added) where
        here : Changes schema inst (atoms_about old (suc t)) (atoms_about new (suc t))
        here = subst (λ one. Changes schema inst (atoms_of_thing (suc t) one) (atoms_about new (suc t))) (sym before)
            (subst (λ one. Changes schema inst (thing_atoms (suc t) was) (atoms_of_thing (suc t) one)) (sym after) thing)

        changed : (k : ℕ) (b : Bool) → (k == t) ≡ b → Changes schema inst (atoms_about old (suc k)) (atoms_about new (suc k))
        changed k true equal =
            subst (λ j. Changes schema inst (atoms_about old (suc j)) (atoms_about new (suc j))) (sym (eqb-true k t equal)) here
        changed k false other =
            subst (λ one. Changes schema inst (atoms_about old (suc k)) (atoms_of_thing (suc k) one)) (sym (same k (differing k t other)))
            (same-facts schema inst (suc k) (atoms_about old (suc k)) (spare k (differing k t other)) (all-about old (suc k)))

        each : (k : ℕ) → Changes schema inst (atoms_about old k) (atoms_about new k)
        each zero = robot
        each (suc k) = changed k (k == t) refl

        found : (atoms : List Atom) → AllByRecursion (λ a. Contains (robot_atoms new) a ⊎ Contains (thing_atoms (suc t) is) a) atoms
            → AllByRecursion (λ a. (k : ℕ) × Contains (atoms_about new k) a) atoms
        found [] all = tt
        found (a ∷ atoms) (inl has, all) = ((0, has), found atoms all)
        found (a ∷ atoms) (inr has, all) =
            ((suc t, subst (λ one. Contains (atoms_of_thing (suc t) one) a) (sym after) has), found atoms all)
