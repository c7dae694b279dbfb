use Rattle.px_effects.proofs.Common.{refl, at-most, arith, declared_of}
use Rattle.px_effects.proofs.Fresh.{objects-named}
use Rattle.px_effects.proofs.Right.{few-in, readable, facts-ground, axiom-clause, axiom-room}
use Rattle.px_effects.proofs.TableLines.{few-parameters, readable-parts}
use Rattle.px_effects.proofs.declaring.add_line.Goals as goal

pub add_axiom-requires-clause-few_variables : goal.add_axiom-requires-clause-few_variables
add_axiom-requires-clause-few_variables c =
    let f = (rw c.in-Axiom.is at c.requires.faultless) refl in
    (at-most 12 _ f.limits.1.1.0)

pub add_axiom-requires-clause-readable : goal.add_axiom-requires-clause-readable
add_axiom-requires-clause-readable c = readable (declared_of c.args.so_far.now) _ c.in-Axiom.literals.now _
    refl c.requires.range (rw c.in-Axiom.is at c.requires.right) refl

pub add_axiom-requires-clause-clause : goal.add_axiom-requires-clause-clause
add_axiom-requires-clause-clause c =
    let f = (rw c.in-Axiom.is at c.requires.faultless) refl in
    axiom-clause (declared_of c.args.so_far.now) _ c.requires.range (rw c.in-Axiom.is at c.requires.formed) f

pub add_axiom-requires-clause-room : goal.add_axiom-requires-clause-room
add_axiom-requires-clause-room c =
    let f = (rw c.in-Axiom.is at c.requires.faultless) refl in
    axiom-room (declared_of c.args.so_far.now) _ c.requires.range (rw c.in-Axiom.is at c.requires.formed) f

pub extend_operator-requires : goal.extend_operator-requires
extend_operator-requires c = record {
  readable = readable (declared_of c.args.so_far.now) _ c.in-Pre.atoms.now _ refl c.requires.range
      (rw c.in-Pre.is at c.requires.right) refl;
}

pub extend_operator-requires-in-Delete : goal.extend_operator-requires-in-Delete
extend_operator-requires-in-Delete c = record {
  readable = readable (declared_of c.args.so_far.now) _ c.in-Delete.atoms.now _ refl c.requires.range
      (rw c.in-Delete.is at c.requires.right) refl;
}

pub extend_operator-requires-in-Add : goal.extend_operator-requires-in-Add
extend_operator-requires-in-Add c = record {
  readable = readable (declared_of c.args.so_far.now) _ c.in-Add.atoms.now _ refl c.requires.range
      (rw c.in-Add.is at c.requires.right) refl;
}

pub add_facts-requires-clause-readable : goal.add_facts-requires-clause-readable
add_facts-requires-clause-readable c = readable (declared_of c.args.so_far.now) _ c.in-Fact.atoms.now _
    refl c.requires.range (rw c.in-Fact.is at c.requires.right) refl

pub add_facts-requires-clause-all_ground : goal.add_facts-requires-clause-all_ground
add_facts-requires-clause-all_ground c =
    let right = rw c.in-Fact.is at c.requires.right in
    (facts-ground (declared_of c.args.so_far.now) c.in-Fact.atoms.now c.requires.range right)

pub add_plan-requires-clause-few_variables : goal.add_plan-requires-clause-few_variables
add_plan-requires-clause-few_variables c =
    let f = (rw c.in-Plan.is at c.requires.faultless) refl in
    (at-most 12 _ f.limits.0)

pub add_plan-requires-clause-readable : goal.add_plan-requires-clause-readable
add_plan-requires-clause-readable c = readable (declared_of c.args.so_far.now) _ c.in-Plan.goal.now _
    refl c.requires.range (rw c.in-Plan.is at c.requires.right) refl

pub disturb_atoms-requires-clause-readable : goal.disturb_atoms-requires-clause-readable
disturb_atoms-requires-clause-readable c = readable (declared_of c.args.so_far.now) _ c.in-DisturbAtoms.edits.now _
    refl c.requires.range (rw c.in-DisturbAtoms.is at c.requires.right) refl

pub disturb_atoms-requires-clause-room : goal.disturb_atoms-requires-clause-room
disturb_atoms-requires-clause-room c =
    let f = (rw c.in-DisturbAtoms.is at c.requires.faultless) refl in
    let few = at-most 64 _ f.limits.1.0 in omega (arith, few)

pub disturb_rooms-requires : goal.disturb_rooms-requires
disturb_rooms-requires c =
    let f = (rw c.in-DisturbRooms.is at c.requires.faultless) refl in
    let few = at-most 64 _ f.limits.1.0 in record { room = omega (arith, few) }

pub declare_names-requires-clause-named : goal.declare_names-requires-clause-named
declare_names-requires-clause-named c =
    (objects-named c.in-Object.names.now (rw c.in-Object.is at c.requires.named).1)

pub returns-in-Door : goal.returns-in-Door
returns-in-Door c = rw c.in-Door.is c.add_door.ensures

pub returns-in-Box : goal.returns-in-Box
returns-in-Box c = rw c.in-Box.is c.add_box.ensures

pub add_sort-requires-clause-few_sorts : goal.add_sort-requires-clause-few_sorts
add_sort-requires-clause-few_sorts c = c.requires.range.problem.few_sorts

pub add_sort-requires-clause-named : goal.add_sort-requires-clause-named
add_sort-requires-clause-named c =
    (objects-named c.in-Sort.objects.now (rw c.in-Sort.is at c.requires.named).1.1)

pub give_sort-requires : goal.give_sort-requires
give_sort-requires c = record { few_sorts = c.requires.range.problem.few_sorts }

pub close_block-requires-clause-good : goal.close_block-requires-clause-good
close_block-requires-clause-good c = let f = (rw c.in-End.is at c.requires.faultless) refl in f.no_bad_table

pub add_step-requires-clause-few : goal.add_step-requires-clause-few
add_step-requires-clause-few c = few-in (declared_of c.args.so_far.now) _ c.requires.range.operators

pub add_step-requires-clause-few_parameters : goal.add_step-requires-clause-few_parameters
add_step-requires-clause-few_parameters c = few-parameters (declared_of c.args.so_far.now) c.requires.range

pub set_goal-requires-clause-readable : goal.set_goal-requires-clause-readable
set_goal-requires-clause-readable c = readable (declared_of c.args.so_far.now) _ c.in-Goal.atoms.now _
    refl c.requires.range (rw c.in-Goal.is at c.requires.right) refl

pub set_goal-requires-clause-few_parameters : goal.set_goal-requires-clause-few_parameters
set_goal-requires-clause-few_parameters c = few-parameters (declared_of c.args.so_far.now) c.requires.range

pub add_row-requires-clause-readable : goal.add_row-requires-clause-readable
add_row-requires-clause-readable c = readable-parts (declared_of c.args.so_far.now) c.in-Proof.parts.now c.requires.range
    (rw c.in-Proof.is at c.requires.right)

pub add_row-requires-clause-few_parameters : goal.add_row-requires-clause-few_parameters
add_row-requires-clause-few_parameters c = few-parameters (declared_of c.args.so_far.now) c.requires.range

pub add_pursuit-requires-clause-few_variables : goal.add_pursuit-requires-clause-few_variables
add_pursuit-requires-clause-few_variables c =
    let f = (rw c.in-Pursue.is at c.requires.faultless) refl in
    (at-most 12 _ f.limits.0)

pub add_pursuit-requires-clause-readable : goal.add_pursuit-requires-clause-readable
add_pursuit-requires-clause-readable c = readable (declared_of c.args.so_far.now) _ c.in-Pursue.goal.now _
    refl c.requires.range (rw c.in-Pursue.is at c.requires.right) refl

pub add_tree-requires-clause-few_variables : goal.add_tree-requires-clause-few_variables
add_tree-requires-clause-few_variables c =
    let f = (rw c.in-Tree.is at c.requires.faultless) refl in
    (at-most 12 _ f.limits.0)

pub add_tree-requires-clause-readable : goal.add_tree-requires-clause-readable
add_tree-requires-clause-readable c = readable (declared_of c.args.so_far.now) _ c.in-Tree.goal.now _
    refl c.requires.range (rw c.in-Tree.is at c.requires.right) refl
