-- What an instance of an operator needs, adds and leaves in a building, of however many things.
use Rattle.std.specs.Prelude.{◌≡◌, ◌+◌, true, false, length, All, Contains}
use Rattle.std.proofs.Common.{refl, inl, inr, arith}
use Rattle.px_terms.specs.declared.atom.Atom.{Atom}
use Rattle.px_terms.specs.declared.instance.OpInst.{OpInst}
use Rattle.px_terms.specs.declared.problem.Problem.{Problem}
use Rattle.px_terms.specs.Instances.{IsGround}
use Rattle.px_terms.specs.OperatorLaws.{is_deleted-decides, result_by-members}
use Rattle.px_terms.specs.Operators.{IsDeleted, adds, is_deleted, precondition, result_of, schema_of}
use Rattle.px_terms.specs.Validity.{IsAtomOf, IsInstanceOf, IsSchemaOf}
use Rattle.px_terms.specs.ValidityLaws.{atoms-are_of, instance_objects, well_formed_schema}
use Rattle.px_rooms.specs.States.{RoomState, building_rules, rendering}
use Rattle.px_rooms.proofs.Valid.{each-schema}

module _ (state : RoomState) (inst : OpInst) (is : IsInstanceOf (building_rules state) inst) where
  abbrev rules : Problem
  rules = building_rules state

  operator : IsSchemaOf rules inst.op (schema_of rules inst)
  operator = each-schema (length state.things + 1) 1 1 2 (omega arith) inst.op is.op

  pub needed-belongs : All (IsAtomOf rules 0) (precondition rules inst)
  needed-belongs = atoms-are_of rules inst.args is.objects (schema_of rules inst).pre (rw is.count operator.pre)

  pub added-belongs : All (IsAtomOf rules 0) (adds rules inst)
  added-belongs = atoms-are_of rules inst.args is.objects (schema_of rules inst).add (rw is.count operator.add)

  -- a fact that isn't deleted stays
  pub stays : (atom : Atom) → IsGround atom → Contains (rendering state) atom → ¬ IsDeleted (schema_of rules inst) inst atom
      → Contains (result_of rules (rendering state) inst) atom
  stays atom is_ground has kept = (result_by-members (schema_of rules inst) (rendering state) inst atom).1 (inl (has, passed)) where
    passed : is_deleted (schema_of rules inst) inst atom ≡ false
    passed = elim (is_deleted (schema_of rules inst) inst atom) as (λ b. is_deleted (schema_of rules inst) inst atom ≡ b → b ≡ false) [
      | true ↦ λ found. absurd (kept ((is_deleted-decides (schema_of rules inst) inst atom is_ground (instance_objects rules inst is)
          (rw is.count (well_formed_schema rules inst.op (schema_of rules inst) operator).del)).0 found))
      | false ↦ λ _. refl
    ] refl

  -- what is added is there
  pub comes : (atom : Atom) → Contains (adds rules inst) atom → Contains (result_of rules (rendering state) inst) atom
  comes atom has = (result_by-members (schema_of rules inst) (rendering state) inst atom).1 (inr has)
