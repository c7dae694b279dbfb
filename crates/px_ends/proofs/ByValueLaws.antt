-- Proofs of the laws of the ends with a weight.
use Rattle.std.proofs.Common.{ℕ, List, map, sym, ◌∙◌, ap, inl, inr}
use Rattle.px_table.specs.declared.entry.Move.{Move}
use Rattle.px_table.specs.declared.node.Node.{Node}
use Rattle.px_gaps.specs.declared.question.MetLimit.{MetLimit}
use Rattle.px_gaps.specs.declared.question.Question.{Question}
use Rattle.px_order.proofs.LawProofs.{runs_are_one, nodes_stand_once, all_is_found, one_stop, exhausted_in_all, blind_ends}
use Rattle.px_order.specs.BreadthEnds as least_ends
use Rattle.px_order.specs.Spaces.{IsLinear}
use Rattle.px_ends.proofs.Exclusion.{limit-count}
use Rattle.px_ends.proofs.MoveLaws.{move_cmp-total, move_cmp-same}
use Rattle.px_ends.specs.ByValue.{space_of, order_by, aim_of, IsExhausted, IsFound, IsNodeLimit, IsShapeLimit}
use Rattle.px_ends.specs.Ends as breadth
use Rattle.px_ends.specs.Ends.{node_of}
use Rattle.px_ends.specs.Order.{IsBefore}
use Rattle.px_ends.specs.Tasks.{Task}
use Rattle.px_ends.specs.ValueLaws.{ExhaustedWithAll, NodesStandOnceWithAll, ValueEndsAreOne, WeightNoneIsBreadth}

module _ (task : Task) (weight : ℕ) where
  linear : IsLinear (order_by task weight)
  linear = record { total = move_cmp-total; identical = move_cmp-same }

-- ---- one end

pub value_ends_are_one : ValueEndsAreOne
value_ends_are_one = record {
  runs = λ task weight. runs_are_one (space_of task) (order_by task weight) (linear task weight);
  found = λ task weight. (one_stop (space_of task) (aim_of task)).found (order_by task weight) (linear task weight);
  node_limit = λ task weight nodes more moves others k l.
      let same = (one_stop (space_of task) (aim_of task)).node_limit (order_by task weight) (linear task weight) k.earlier l.earlier
      moves others k.limit l.limit in
      (k.nodes_are ∙ ap (λ (lists : List (List Move)). map (node_of task) lists) same.0 ∙ sym l.nodes_are, same.1);
  found_or_node_limit = λ task weight moves nodes count f l.
      (one_stop (space_of task) (aim_of task)).found_or_node_limit (order_by task weight) (linear task weight) moves l.earlier count f
      l.limit;
  shape_limit_or_found = λ task weight node limit moves s f.
      f.unlimited s.moves limit.question s.asked (limit.formula, limit.shapes, s.met);
  shape_limit_or_node_limit = λ task weight node limit nodes count s l.
      l.limit.unlimited s.moves limit.question s.asked (limit.formula, limit.shapes, s.met);
  shapes = λ task weight node limit s. limit-count task.problem limit.question limit.formula limit.shapes s.met;
}

pub nodes_stand_once_with_all : NodesStandOnceWithAll
nodes_stand_once_with_all = record {
  once = λ task. nodes_stand_once (space_of task);
  all = λ task. all_is_found (space_of task);
}

pub exhausted_with_all : ExhaustedWithAll
exhausted_with_all = record {
  found = λ task weight other x moves.
      (exhausted_in_all (space_of task) (aim_of task)).found (order_by task weight) (order_by task other) x moves;
  node_limit = λ task weight other x nodes count l.
      (exhausted_in_all (space_of task) (aim_of task)).node_limit (order_by task weight) (order_by task other) x l.earlier count l.limit;
  shape_limit = λ task weight other x node limit s.
      (exhausted_in_all (space_of task) (aim_of task)).limited (order_by task weight) (order_by task other) x s.moves limit.question s.asked
      (limit.formula, limit.shapes, s.met);
}

-- ---- weight 0

module _ (task : Task) where
  abbrev LeastStop : List (List Move) → List Move → Type 0
  LeastStop earlier last = least_ends.IsBreadthStop (space_of task) IsBefore (aim_of task) earlier last

  stop_to : (earlier : List (List Move)) (last : List Move) → LeastStop earlier last → breadth.IsStop task earlier last
  stop_to earlier last s = record { beginning = s.beginning; unsolved = s.unsolved; room = s.room; stops = s.stops }

  stop_from : (earlier : List (List Move)) (last : List Move) → breadth.IsStop task earlier last → LeastStop earlier last
  stop_from earlier last s = record { beginning = s.beginning; unsolved = s.unsolved; room = s.room; stops = s.stops }

  asked_from : (moves : List Move) (question : Question) → breadth.IsAsked task moves question
      → least_ends.IsBreadthAsked (space_of task) IsBefore (aim_of task) moves question
  asked_from moves question (inl (g, asks)) =
      inl (record { least = g.least; early = λ earlier last s. g.early earlier last (stop_to earlier last s) }, asks)
  asked_from moves question (inr (t, is)) =
      inr (record { least = t.least; early = λ earlier last s. t.early earlier last (stop_to earlier last s) }, (t.empty, is))

  asked_to : (moves : List Move) (question : Question)
      → least_ends.IsBreadthAsked (space_of task) IsBefore (aim_of task) moves question → breadth.IsAsked task moves question
  asked_to moves question (inl (g, asks)) =
      inl (record { least = g.least; early = λ earlier last s. g.early earlier last (stop_from earlier last s) }, asks)
  asked_to moves question (inr (t, is)) = inr (
    record { least = t.least; empty = is.0; early = λ earlier last s. t.early earlier last (stop_from earlier last s) },
    is.1,
  )

  unlimited_to : least_ends.IsBreadthUnlimited (space_of task) IsBefore (aim_of task) → breadth.IsUnlimited task
  unlimited_to unlimited moves question formula shapes asked met =
      unlimited moves question (asked_from moves question asked) (formula, shapes, met)

  blind_found : (moves : List Move) → IsFound task 0 moves → breadth.IsFound task moves
  blind_found moves f =
      let g = (blind_ends (space_of task) (aim_of task)).found (order_by task 0) (linear task 0) moves f in
      record {
        unlimited = unlimited_to g.unlimited;
        earlier = g.earlier;
        stop = stop_to g.earlier moves g.stop;
        room = g.room;
      }

  blind_exhausted : IsExhausted task 0 → breadth.IsExhausted task
  blind_exhausted x =
      let g = (blind_ends (space_of task) (aim_of task)).exhausted (order_by task 0) (linear task 0) x in
      record {
        unlimited = unlimited_to g.unlimited;
        lists = g.lists;
        whole = g.whole;
        unsolved = g.unsolved;
        room = g.room;
      }

  blind_limit : (nodes : List Node) (moves : ℕ) → IsNodeLimit task 0 nodes moves → breadth.IsNodeLimit task nodes moves
  blind_limit nodes moves l =
      let g = (blind_ends (space_of task) (aim_of task)).node_limit (order_by task 0) (linear task 0) l.earlier moves l.limit in
      record {
        unlimited = unlimited_to g.unlimited;
        earlier = l.earlier;
        last = g.last;
        stop = stop_to l.earlier g.last g.stop;
        full = g.full;
        nodes_are = l.nodes_are;
        moves_are = g.moves_are;
      }

  blind_shapes : (node : Node) (limit : MetLimit) → IsShapeLimit task 0 node limit → breadth.IsShapeLimit task node limit
  blind_shapes node limit s = record {
    moves = s.moves;
    node_is = s.node_is;
    asked = asked_to s.moves limit.question
        ((blind_ends (space_of task) (aim_of task)).asked (order_by task 0) (linear task 0) s.moves limit.question s.asked);
    met = s.met;
  }

pub weight_none_is_breadth : WeightNoneIsBreadth
weight_none_is_breadth = record {
  found = blind_found;
  exhausted = blind_exhausted;
  node_limit = blind_limit;
  shape_limit = blind_shapes;
}
