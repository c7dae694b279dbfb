-- The ends of a search at the initial node, with whatever weight.
use Rattle.std.proofs.Common.{◌≡◌, ℕ, zero, suc, ◌≤◌, List, [], ◌∷◌, refl, sym, subst, inl, inr, arith, Some, slice_get, Contains}
use Rattle.px_terms.specs.declared.atom.Atom.{Atom}
use Rattle.px_proof.specs.declared.shape.Tick.{Tick}
use Rattle.px_table.specs.declared.entry.Move.{Move}
use Rattle.px_gaps.specs.Questions.{IsMetLimit, MeetsLimit}
use Rattle.px_gaps.specs.declared.question.MetLimit.{MetLimit}
use Rattle.px_gaps.specs.declared.question.Question.{Question}
use Rattle.px_order.proofs.LawProofs.{asked_by_run}
use Rattle.px_order.specs.Ends as order_ends
use Rattle.px_order.specs.Places.{some-one}
use Rattle.px_order.specs.Spaces.{IsLinear}
use Rattle.px_ends.proofs.MoveLaws.{move_cmp-total, move_cmp-same}
use Rattle.px_ends.specs.ByValue.{aim_of, order_by, space_of, IsFound, IsShapeLimit}
use Rattle.px_ends.specs.Ends.{node_of}
use Rattle.px_ends.specs.Tasks.{Task, IsSolved, goal_question, initial_node}

module _ (task : Task) (weight : ℕ) (room : 1 ≤ task.nodes) where
  linear : IsLinear (order_by task weight)
  linear = record { total = move_cmp-total; identical = move_cmp-same }

  -- trying the goal there doesn't meet the limit
  abbrev IsBelow : Type 0
  IsBelow = (formula : List Atom) (shapes : List (List Tick))
      → ¬ MeetsLimit task.problem (goal_question task (initial_node task)) formula shapes

  nothing-in : (moves : List Move) → ¬ Contains [] moves
  nothing-in moves has = omega (arith, has.1)

  tested : order_ends.IsTested (space_of task) (order_by task weight) (aim_of task) []
  tested = record {
    earlier = [];
    begins = ([], (0, (refl, refl)));
    unsolved = λ moves has. absurd (nothing-in moves has);
    room = omega (arith, room);
  }

  -- the only place
  only-place : (k : ℕ) (moves : List Move) → slice_get ([] ∷ []) k ≡ Some moves → [] ≡ moves
  only-place zero moves at = some-one [] moves at
  only-place (suc k) moves at = absurd (cc)

  -- it is solved
  pub found_at_start : IsSolved task (initial_node task) → IsBelow → IsFound task weight []
  found_at_start solved below = record { unlimited = unlimited; earlier = []; stop = stop; room = omega (arith, room) }
    where
      stop : order_ends.IsStop (space_of task) (order_by task weight) (aim_of task) [] []
      stop = record {
        begins = ([], (0, (refl, refl)));
        unsolved = λ moves has. absurd (nothing-in moves has);
        room = omega arith;
        stops = inl solved;
      }

      unlimited : order_ends.IsUnlimited (space_of task) (order_by task weight) (aim_of task)
      unlimited moves q (inl (gone, asks)) met =
          let r = (asked_by_run (space_of task) (aim_of task)).gone_through (order_by task weight) linear [] [] stop moves gone in
          omega (arith, r.2.1)
      unlimited moves q (inr (tests, tries)) met =
          let r = (asked_by_run (space_of task) (aim_of task)).tested (order_by task weight) linear [] [] stop moves tests in
          below met.0 met.1
          (subst (λ (x : List Move). MeetsLimit task.problem (goal_question task (node_of task x)) met.0 met.1)
          (sym (only-place r.0 moves r.1))
          (subst (λ (x : Question). MeetsLimit task.problem x met.0 met.1) tries.1 met.2))
