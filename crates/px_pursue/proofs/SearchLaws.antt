-- A search has one end, and the moves that it finds have one table.
use Rattle.std.specs.Prelude.{◌≡◌, List}
use Rattle.std.proofs.Common.{refl, sym, ◌∙◌, inl, inr}
use Rattle.px_table.specs.declared.entry.Move.{Move}
use Rattle.px_ends.specs.Tasks.{Task}
use Rattle.px_ends.proofs.ByValueLaws.{exhausted_with_all, value_ends_are_one}
use Rattle.px_printer.specs.declared.pursue_end.PursueEnd.{PursueEnd}
use Rattle.px_printer.specs.declared.pursue_end.PursueEnd.TheVariants.{Goal, Exhausted, NodeLimit, ShapeLimit}
use Rattle.px_pursue.specs.PursuitLaws.{AreSameEnds}
use Rattle.px_pursue.specs.Searches.{EndsWithoutPlan, FindsMoves}

pub found-once : (task : Task) (moves others : List Move) → FindsMoves task moves → FindsMoves task others → moves ≡ others
found-once task moves others found also = value_ends_are_one.found task task.problem.weight moves others found also

pub found-no_end : (task : Task) (moves : List Move) (end : PursueEnd) → FindsMoves task moves → ¬ EndsWithoutPlan task end
found-no_end task moves Goal found ends = ends
found-no_end task moves Exhausted found ends =
    exhausted_with_all.found task task.problem.weight task.problem.weight ends moves found
found-no_end task moves (NodeLimit nodes count) found ends =
    value_ends_are_one.found_or_node_limit task task.problem.weight moves nodes count found ends
found-no_end task moves (ShapeLimit node limit) found ends =
    value_ends_are_one.shape_limit_or_found task task.problem.weight node limit moves ends found

-- two ends of one search are the same, apart from the question at which it met the limit of shapes
pub ends-alike : (task : Task) (end also : PursueEnd) → EndsWithoutPlan task end → EndsWithoutPlan task also → AreSameEnds end also
ends-alike task Goal also is is_also = absurd is
ends-alike task Exhausted Goal is is_also = absurd is_also
ends-alike task Exhausted Exhausted is is_also = inl refl
ends-alike task Exhausted (NodeLimit nodes count) is is_also =
    absurd (exhausted_with_all.node_limit task task.problem.weight task.problem.weight is nodes count is_also)
ends-alike task Exhausted (ShapeLimit node limit) is is_also =
    absurd (exhausted_with_all.shape_limit task task.problem.weight task.problem.weight is node limit is_also)
ends-alike task (NodeLimit nodes count) Goal is is_also = absurd is_also
ends-alike task (NodeLimit nodes count) Exhausted is is_also =
    absurd (exhausted_with_all.node_limit task task.problem.weight task.problem.weight is_also nodes count is)
ends-alike task (NodeLimit nodes count) (NodeLimit more others) is is_also =
    let same = value_ends_are_one.node_limit task task.problem.weight nodes more count others is is_also in
    inl (λ i. NodeLimit (same.0 i) (same.1 i))
ends-alike task (NodeLimit nodes count) (ShapeLimit node limit) is is_also =
    absurd (value_ends_are_one.shape_limit_or_node_limit task task.problem.weight node limit nodes count is_also is)
ends-alike task (ShapeLimit node limit) Goal is is_also = absurd is_also
ends-alike task (ShapeLimit node limit) Exhausted is is_also =
    absurd (exhausted_with_all.shape_limit task task.problem.weight task.problem.weight is_also node limit is)
ends-alike task (ShapeLimit node limit) (NodeLimit nodes count) is is_also =
    absurd (value_ends_are_one.shape_limit_or_node_limit task task.problem.weight node limit nodes count is is_also)
ends-alike task (ShapeLimit node limit) (ShapeLimit there other) is is_also = inr (record {
  node = node;
  also_node = there;
  limit = limit;
  also_limit = other;
  one_is = refl;
  other_is = refl;
  as_many = value_ends_are_one.shapes task task.problem.weight node limit is
      ∙ sym (value_ends_are_one.shapes task task.problem.weight there other is_also);
})
