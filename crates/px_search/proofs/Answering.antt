-- What the one end says of the answer.
use Rattle.std.proofs.Common.{◌≡◌, ℕ, ◌⊎◌, List, refl, ◌∙◌, inl, inr, subst}
use Rattle.std.specs.Prelude.{Result, Ok, Err, IfOk, IfErr, IsErrOf}
use Rattle.px_table.specs.declared.entry.Move.{Move}
use Rattle.px_table.specs.declared.node.Node.{Node}
use Rattle.px_gaps.specs.declared.question.MetLimit.{MetLimit}
use Rattle.px_ends.specs.ByValue.{IsFound, IsExhausted, IsNodeLimit, IsShapeLimit}
use Rattle.px_ends.specs.Tasks.{Task}
use Rattle.px_ends.proofs.ByValueLaws.{exhausted_with_all, value_ends_are_one}
use Rattle.px_search.specs.declared.ends.SearchErr.{SearchErr}
use Rattle.px_search.specs.declared.ends.SearchErr.TheVariants.{Exhausted, NodeLimit, ShapeLimit, NoMemory}
use Rattle.px_search.specs.Looping.{IsEnd}
use Rattle.px_search.specs.Planned.{IsPlanned}
use Rattle.px_search.specs.declared.ends.Found.{Found}

-- ---- what a plan says

pub each_plan : (task : Task) (result : Result Found SearchErr) → IfOk result (IsPlanned task) → (Q : Found → Type 0)
    → ((plan : Found) → IsPlanned task plan → Q plan) → IfOk result Q
each_plan task (Ok plan) is Q f = f plan is
each_plan task (Err e) is Q f = tt

pub found-in : (task : Task) (result : Result Found SearchErr) → IfOk result (IsPlanned task)
    → IfOk result (λ plan. IsFound task task.problem.weight plan.moves)
found-in task result is = each_plan task result is (λ plan. IsFound task task.problem.weight plan.moves) (λ plan is. is.found)

-- ---- what the error says

module _ {F : Type 0} (task : Task) (result : Result F SearchErr) (ends : IfErr result (IsEnd task)) where
  of_error : (error : SearchErr) → IsErrOf result error → IsEnd task error
  of_error error is = by result ends is
    where
      by : (r : Result F SearchErr) → IfErr r (IsEnd task) → IsErrOf r error → IsEnd task error
      by (Ok f) e same = absurd (cc)
      by (Err x) e same = let same_error : x ≡ error = cc in subst (IsEnd task) same_error e

  pub end-exhausted : IsErrOf result Exhausted → IsExhausted task task.problem.weight
  end-exhausted is = of_error Exhausted is

  pub end-limit : (nodes : List Node) (moves : ℕ) → IsErrOf result (NodeLimit nodes moves)
      → IsNodeLimit task task.problem.weight nodes moves
  end-limit nodes moves is = of_error (NodeLimit nodes moves) is

  pub end-shape_limit : (node : Node) (limit : MetLimit) → IsErrOf result (ShapeLimit node limit)
      → IsShapeLimit task task.problem.weight node limit
  end-shape_limit node limit is = of_error (ShapeLimit node limit) is

-- ---- what each end says of the answer

module _ {F : Type 0} (moves_of : F → List Move) (task : Task) (result : Result F SearchErr)
    (found : IfOk result (λ f. IsFound task task.problem.weight (moves_of f))) (ends : IfErr result (IsEnd task)) where
  pub answers_found : (moves : List Move) → IsFound task task.problem.weight moves
      → IfOk result (λ f. moves_of f ≡ moves) × IfErr result (λ e. e ≡ NoMemory)
  answers_found moves is = by result found ends
    where
      by : (r : Result F SearchErr) → IfOk r (λ f. IsFound task task.problem.weight (moves_of f)) → IfErr r (IsEnd task)
          → IfOk r (λ f. moves_of f ≡ moves) × IfErr r (λ e. e ≡ NoMemory)
      by (Ok f) h e = (value_ends_are_one.found task task.problem.weight (moves_of f) moves h is, tt)
      by (Err Exhausted) h e = absurd (exhausted_with_all.found task task.problem.weight task.problem.weight e moves is)
      by (Err (NodeLimit n m)) h e = absurd (value_ends_are_one.found_or_node_limit task task.problem.weight moves n m is e)
      by (Err (ShapeLimit n l)) h e = absurd (value_ends_are_one.shape_limit_or_found task task.problem.weight n l moves e is)
      by (Err NoMemory) h e = (tt, refl)

  pub answers_exhausted : IsExhausted task task.problem.weight → IsErrOf result Exhausted ⊎ IsErrOf result NoMemory
  answers_exhausted is = by result refl found ends
    where
      by : (r : Result F SearchErr) → result ≡ r → IfOk r (λ f. IsFound task task.problem.weight (moves_of f)) → IfErr r (IsEnd task)
          → IsErrOf result Exhausted ⊎ IsErrOf result NoMemory
      by (Ok f) same h e = absurd (exhausted_with_all.found task task.problem.weight task.problem.weight is (moves_of f) h)
      by (Err Exhausted) same h e = inl same
      by (Err (NodeLimit n m)) same h e = absurd (exhausted_with_all.node_limit task task.problem.weight task.problem.weight is n m e)
      by (Err (ShapeLimit n l)) same h e = absurd (exhausted_with_all.shape_limit task task.problem.weight task.problem.weight is n l e)
      by (Err NoMemory) same h e = inr same

  pub answers_limit : (nodes : List Node) (moves : ℕ) → IsNodeLimit task task.problem.weight nodes moves
      → IsErrOf result (NodeLimit nodes moves) ⊎ IsErrOf result NoMemory
  answers_limit nodes moves is = by result refl found ends
    where
      by : (r : Result F SearchErr) → result ≡ r → IfOk r (λ f. IsFound task task.problem.weight (moves_of f)) → IfErr r (IsEnd task)
          → IsErrOf result (NodeLimit nodes moves) ⊎ IsErrOf result NoMemory
      by (Ok f) same h e = absurd (value_ends_are_one.found_or_node_limit task task.problem.weight (moves_of f) nodes moves h is)
      by (Err Exhausted) same h e = absurd (exhausted_with_all.node_limit task task.problem.weight task.problem.weight e nodes moves is)
      by (Err (NodeLimit n m)) same h e =
          let parts = value_ends_are_one.node_limit task task.problem.weight n nodes m moves e is in
          inl (same ∙ (λ i. Err (NodeLimit (parts.0 i) (parts.1 i))))
      by (Err (ShapeLimit n l)) same h e =
          absurd (value_ends_are_one.shape_limit_or_node_limit task task.problem.weight n l nodes moves e is)
      by (Err NoMemory) same h e = inr same

  -- the answer is that some question which was asked meets the limit
  abbrev pub AnswersLimit : Type 0
  AnswersLimit = (node : Node) × (limit : MetLimit) × IsErrOf result (ShapeLimit node limit)

  -- and it comes wherever there is such a question
  pub answers_shape_limit : (node : Node) (limit : MetLimit) → IsShapeLimit task task.problem.weight node limit
      → AnswersLimit ⊎ IsErrOf result NoMemory
  answers_shape_limit node limit is = by result refl found ends
    where
      by : (r : Result F SearchErr) → result ≡ r → IfOk r (λ f. IsFound task task.problem.weight (moves_of f)) → IfErr r (IsEnd task)
          → AnswersLimit ⊎ IsErrOf result NoMemory
      by (Ok f) same h e = absurd (value_ends_are_one.shape_limit_or_found task task.problem.weight node limit (moves_of f) is h)
      by (Err Exhausted) same h e =
          absurd (exhausted_with_all.shape_limit task task.problem.weight task.problem.weight e node limit is)
      by (Err (NodeLimit n m)) same h e =
          absurd (value_ends_are_one.shape_limit_or_node_limit task task.problem.weight node limit n m is e)
      by (Err (ShapeLimit n l)) same h e = inl (n, l, same)
      by (Err NoMemory) same h e = inr same
