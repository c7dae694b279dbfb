-- The problem that the lines so far give.
use Rattle.px_so_far.proofs.Common.{◌≡◌, Bool, true, false, List, subst, arith, IfSome, Option, None, Some, option_map, Problem, own_problem, Declared, OpenBlock, Thing, AreInRange, list_any}
use Rattle.px_script.specs.Causes.{is_robot}
use Rattle.px_script.specs.Declarations.{kind_of_block, WrittenTable}
use Rattle.px_script.proofs.Buildings.{is-building as stands-building, robots-some}
use Rattle.px_script.proofs.Problems.{heavier}
use Rattle.px_script.specs.States.{SuitsBlock}
use Rattle.px_script.specs.RangeLaws.{version-most}
use Rattle.px_rooms.proofs.Starting.{objects_are}
use Rattle.px_rooms.proofs.Valid.{buildings_are_valid}
use Rattle.px_so_far.specs.Problems.{HasProblem}
use Rattle.px_so_far.specs.SoFarViews.{kind_here, table_kind}

abbrev HasRobot : Option (List Thing) → Type 0
HasRobot things = IfSome things (λ things. list_any is_robot things ≡ true)

-- where a building has its robot, the lines so far give a problem
pub has-problem : (d : Declared) → AreInRange d → HasRobot d.things → HasProblem d
has-problem d r robots = go d.things r robots
  where
    go : (things : Option (List Thing)) → AreInRange (record d { things = things }) → HasRobot things
        → HasProblem (record d { things = things })
    go None r robots = record { valid = r.problem.valid; building = tt; short = tt; objects = tt; few_sorts = r.problem.few_sorts }
    go (Some things) r robots = let is = r.building in
        let whole = stands-building things is.standing (robots-some things robots) in let p : Problem = own_problem d in
        let few = version-most d.version _ 256 1024 (omega arith) r.names.few_objects in let l = r.problem.valid in record {
          valid = heavier _ p.weight l.weight (buildings_are_valid p.objects p.height p.nodes p.shapes
              (omega (arith, is.objects_are), omega (arith, few)) l.height l.nodes l.shapes);
          building = whole;
          short = omega (arith, few, is.objects_are, objects_are things whole.0);
          objects = is.objects_are;
          few_sorts = r.problem.few_sorts;
        }

-- so it is where no block is open
pub closed-problem : (d : Declared) → AreInRange d → d.block ≡ None → HasProblem d
closed-problem d r closed = has-problem d r
    (subst (λ (b : Option OpenBlock). SuitsBlock (option_map (λ block. kind_of_block block.kind) b) d.things) closed r.block)

-- and in a table's block
pub table-problem : (d : Declared) (has_goal : Bool) (t : WrittenTable) → kind_here d ≡ Some (table_kind has_goal t) → AreInRange d
    → HasProblem d
table-problem d has_goal t is r = has-problem d r (go d.block is r.block)
  where
    stands : (has_goal : Bool) → SuitsBlock (Some (kind_of_block (table_kind has_goal t))) d.things → HasRobot d.things
    stands true suits = suits
    stands false suits = suits

    go : (block : Option OpenBlock) → option_map (λ block. block.kind) block ≡ Some (table_kind has_goal t)
        → SuitsBlock (option_map (λ block. kind_of_block block.kind) block) d.things → HasRobot d.things
    go None is suits = cc
    go (Some block) is suits = stands has_goal
        (let same : block.kind ≡ table_kind has_goal t = cc in subst (λ k. SuitsBlock (Some (kind_of_block k)) d.things) same suits)
