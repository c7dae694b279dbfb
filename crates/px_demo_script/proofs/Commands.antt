-- The commands of an errand have no fault where their names are new, and what they leave.
use Rattle.std.specs.Str.{chars}
use Rattle.px_rooms.specs.Domain.{in_room}
use Rattle.px_script.specs.Declarations.{Declared, Roles, nothing_declared, operator_names, predicate_arities, predicate_names}
use Rattle.px_script.specs.Statements.{learn, plan, run}
use Rattle.px_script.specs.declared.command.Command.{Command}
use Rattle.px_script.specs.declared.command.Command.TheVariants.{Plan, Learn, Run}
use Rattle.px_script.proofs.Common.{◌≡◌, ℕ, ◌+◌, ◌≤◌, true, false, List, [], ◌∷◌, ◌++◌, length, refl, sym, ap, ◌∙◌, arith, Some, codes, has_name, number_in, nat_lt, nat_tests, bytes_eq, bytes_eq-itself, list_any-append, length-append, spelling, robot_name, Obj, Thing, Statement, Passes, stage_now}
use Rattle.px_script.proofs.Lists.{known-last, known-still, number-kept, number-new}
use Rattle.px_saved.proofs.Clean.{IsClean, clean-line}
use Rattle.px_saved.proofs.Words.{Reads}
use Rattle.px_demo_script.proofs.Lines.{in_room_of}

few-of : (most n : ℕ) → n ≤ most → nat_lt most n ≡ false
few-of most n few = grind (arith, nat_tests, few)

-- a name that isn't among names nor the next one
pub not-added : (n other : List ℕ) (names : List (List ℕ)) → has_name n names ≡ false → bytes_eq n other ≡ false
    → has_name n (names ++ other ∷ []) ≡ false
not-added n other names old apart = list_any-append (bytes_eq n) names (other ∷ []) ∙ rw (old, apart) refl

-- a building of these objects and things
pub record Building : Type 0 where
  pub objects : List (List ℕ)
  pub rooms : List (List ℕ)
  pub doors : List (List ℕ)
  pub boxes : List (List ℕ)
  pub things : List Thing

-- the building's lines, and commands that gave these results, among them these plans
abbrev pub underway : Building → (results plans : List (List ℕ)) → List Command → Declared
underway building results plans commands = record nothing_declared {
  names = record { objects = building.objects; predicates = predicate_names; operators = operator_names; results = results };
  roles = record { rooms = building.rooms; doors = building.doors; boxes = building.boxes; plans = plans; tables = results };
  arities = predicate_arities;
  things = Some building.things;
  commands = commands;
  begun = true;
}

-- the room of this name has this number, and the robot has 0
pub record HasRoom (building : Building) (room : List ℕ) (number : ℕ) : Type 0 where
  pub robot_known : has_name robot_name building.objects ≡ true
  pub robot_number : number_in robot_name building.objects ≡ 0
  pub room_known : has_name room building.objects ≡ true
  pub room_number : number_in room building.objects ≡ number

module _ (building : Building) (results plans : List (List ℕ)) (commands : List Command) (few : length commands + 1 ≤ 512) where
  abbrev here : Declared
  here = underway building results plans commands

  module _ (name room : List ℕ) (number k : ℕ) (short : length name ≤ 64) (fresh : has_name name results ≡ false)
      (count : length results ≡ k) (has : HasRoom building room number) where
    abbrev asked : Statement
    asked = plan name (in_room_of room ∷ [])

    plan-clean : IsClean stage_now here asked
    plan-clean = record {
      order = refl;
      built = refl;
      known = rw (has.robot_known, has.room_known) refl;
      single = rw (fresh, bytes_eq-itself name) refl;
      arity = refl;
      bound = refl;
      limits = (rw (few-of 64 (length name) short) refl, (refl, (refl, (few-of 512 (length commands + 1) few, tt))));
      whole = refl;
    }

    pub plan-passes : (n : ℕ) (line : List ℕ) → Reads line (spelling asked) → Passes stage_now n here (chars line)
        (underway building (results ++ name ∷ []) (plans ++ name ∷ [])
        (commands ++ Plan k (in_room (Obj 0) (Obj number) ∷ []) 0 ∷ []))
    plan-passes n line reads = (
      spelling asked,
      reads.lexes,
      (
        asked,
        (refl, refl),
        clean-line stage_now here asked plan-clean,
        sym (λ i. underway building (results ++ name ∷ []) (plans ++ name ∷ [])
            (commands ++ Plan (count i) (in_room (Obj (has.robot_number i)) (Obj (has.room_number i)) ∷ []) 0 ∷ [])),
      ),
    )

  module _ (name source : List ℕ) (k from : ℕ) (short : length name ≤ 64) (fresh : has_name name results ≡ false)
      (count : length results ≡ k) (planned : has_name source plans ≡ true) (source_number : number_in source results ≡ from) where
    abbrev learned : Statement
    learned = learn name source

    learn-clean : IsClean stage_now here learned
    learn-clean = record {
      order = refl;
      built = refl;
      known = rw planned refl;
      single = rw (fresh, bytes_eq-itself name) refl;
      arity = refl;
      bound = refl;
      limits = (rw (few-of 64 (length name) short) refl, (few-of 512 (length commands + 1) few, tt));
      whole = refl;
    }

    pub learn-passes : (n : ℕ) (line : List ℕ) → Reads line (spelling learned) → Passes stage_now n here (chars line)
        (underway building (results ++ name ∷ []) plans (commands ++ Learn k from ∷ []))
    learn-passes n line reads = (
      spelling learned,
      reads.lexes,
      (
        learned,
        (refl, refl),
        clean-line stage_now here learned learn-clean,
        sym (λ i. underway building (results ++ name ∷ []) plans (commands ++ Learn (count i) (source_number i) ∷ [])),
      ),
    )

  module _ (name : List ℕ) (k : ℕ) (known : has_name name results ≡ true) (number : number_in name results ≡ k) where
    abbrev ran : Statement
    ran = run name []

    run-clean : IsClean stage_now here ran
    run-clean = record {
      order = refl;
      built = refl;
      known = rw known refl;
      single = refl;
      arity = refl;
      bound = refl;
      limits = (refl, (few-of 512 (length commands + 1) few, tt));
      whole = refl;
    }

    pub run-passes : (n : ℕ) (line : List ℕ) → Reads line (spelling ran) → Passes stage_now n here (chars line)
        (underway building results plans (commands ++ Run k [] ∷ []))
    run-passes n line reads = (
      spelling ran,
      reads.lexes,
      (
        ran,
        (refl, refl),
        clean-line stage_now here ran run-clean,
        sym (λ i. underway building results plans (commands ++ Run (number i) [] ∷ [])),
      ),
    )
