-- Moves that lead to a solved node can be taken where no question that is asked on the way meets its limit.
use Rattle.std.specs.Prelude.{◌≡◌, ◌<◌, ℕ, List, [], ◌∷◌, ◌++◌, length, slice_index_or, All}
use Rattle.std.proofs.Common.{refl, sym, ◌∙◌, subst, inl, append_assoc}
use Rattle.std.proofs.lemmas.List.{append-nil}
use Rattle.std.proofs.lemmas.List.Elements.{All-contains_itself}
use Rattle.px_terms.specs.declared.atom.Atom.{Atom}
use Rattle.px_proof.specs.declared.shape.Tick.{Tick}
use Rattle.px_table.specs.declared.entry.Move.{Move}
use Rattle.px_table.specs.declared.entry.Move.TheVariants.{Apply, Push}
use Rattle.px_table.specs.declared.node.Node.{Node}
use Rattle.px_gaps.specs.Needs.{IsApplicable}
use Rattle.px_gaps.specs.Questions.{MeetsLimit, AsksOf}
use Rattle.px_gaps.specs.declared.question.Obligation.{Obligation}
use Rattle.px_gaps.specs.declared.question.Question.{Question}
use Rattle.px_gaps.specs.declared.question.Question.TheVariants.{Proving}
use Rattle.px_order.specs.Frontier.{reached-append}
use Rattle.px_ends.proofs.MoveLaws.{order}
use Rattle.px_ends.specs.ByValue.{space_of}
use Rattle.px_ends.specs.Ends.{AreMoves, node_of}
use Rattle.px_ends.specs.Moves.{CanMake, reached}
use Rattle.px_ends.specs.Order.{IsBefore}
use Rattle.px_ends.specs.Tasks.{Task, after, goal_from, goal_question, initial_node, IsAllowed, IsSolved, needs_at}
use Rattle.px_support.specs.Asking.{AreTakeable, IsFindable, IsTakeable}

module _ (task : Task) where
  -- a move is allowed where it is made
  allowed-there : (node : Node) (ms : List Move) (m : Move) (rest : List Move) → CanMake (IsAllowed task) (after task) node (ms ++ m ∷ rest)
      → IsAllowed task (reached (IsAllowed task) (after task) node ms) m
  allowed-there node [] m rest can = can.0
  allowed-there node (k ∷ ms) m rest can = allowed-there (after task node k) ms m rest can.1

  one-more : (p : List Move) (m : Move) → node_of task (p ++ m ∷ []) ≡ after task (node_of task p) m
  one-more p m = reached-append (space_of task) IsBefore order (initial_node task) p (m ∷ [])

  -- no question about what the node needs that these moves reach meets the limit
  abbrev pub IsBelowAt : List Move → Type 0
  IsBelowAt p = (question : Question) (formula : List Atom) (shapes : List (List Tick))
      → AsksOf task.problem (needs_at task (node_of task p)) question → ¬ MeetsLimit task.problem question formula shapes

  module _ (moves : List Move) (can : AreMoves task moves) (solved : IsSolved task (node_of task moves))
      (below : (p : List Move) (m : Move) (rest : List Move) → moves ≡ p ++ m ∷ rest → IsBelowAt p)
      (goal_below : (formula : List Atom) (shapes : List (List Tick))
      → ¬ MeetsLimit task.problem (goal_question task (node_of task moves)) formula shapes) where
    goal-findable : IsFindable task.problem (goal_from task (node_of task moves).model)
    goal-findable = record { answer = solved.1; below = λ shapes limited. goal_below task.goal shapes (refl, limited) }

    asks : (needs : List Obligation) (k : ℕ) (d : Obligation) → k < length needs
        → AsksOf task.problem needs (Proving (slice_index_or needs k d))
    asks needs k d within =
        let has = All-contains_itself needs k d within in
        (has.0, slice_index_or needs k d, has.1, has.2, inl refl)

    needs-findable : (p : List Move) (m : Move) (rest : List Move) → moves ≡ p ++ m ∷ rest
        → IsApplicable task.problem (needs_at task (node_of task p)) → All (IsFindable task.problem) (needs_at task (node_of task p))
    needs-findable p m rest is applicable k d within =
        let needs = needs_at task (node_of task p) in
        let needed : Obligation = slice_index_or needs k d in
        record {
          answer = applicable k d within;
          below = λ shapes limited. below p m rest is (Proving needed) needed.formula shapes (asks needs k d within) (refl, limited);
        }

    takeable-at : (p : List Move) (m : Move) (rest : List Move) → moves ≡ p ++ m ∷ rest → IsAllowed task (node_of task p) m
        → IsTakeable task (node_of task p) m
    takeable-at p Apply rest is allowed = (allowed.0, needs-findable p Apply rest is allowed.1)
    takeable-at p (Push entry) rest is allowed = allowed.0.is_entry

    takeable-from : (p rest : List Move) → moves ≡ p ++ rest → AreTakeable task (node_of task p) rest
    takeable-from p [] is =
        subst (λ (ms : List Move). IsFindable task.problem (goal_from task (node_of task ms).model)) (is ∙ append-nil p) goal-findable
    takeable-from p (m ∷ rest) is =
        let onward : moves ≡ (p ++ m ∷ []) ++ rest = is ∙ sym (append_assoc p (m ∷ []) rest) in (
          takeable-at p m rest is (allowed-there (initial_node task) p m rest (subst (AreMoves task) is can)),
          subst (λ (n : Node). AreTakeable task n rest) (one-more p m) (takeable-from (p ++ m ∷ []) rest onward),
        )

    pub takeable : AreTakeable task (initial_node task) moves
    takeable = takeable-from [] moves refl
