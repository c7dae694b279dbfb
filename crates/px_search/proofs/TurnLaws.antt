-- What a search knows from one move to the next.
use Rattle.std.proofs.Common.{◌≡◌, ℕ, zero, suc, ◌⊎◌, List, [], ◌∷◌, ◌++◌, take, sym, ◌∙◌, ap, subst, inl, inr, arith, Some, slice_get, Contains}
use Rattle.std.proofs.lemmas.List.Elements.{Contains-append_left, Contains-push, Contains-push_cases}
use Rattle.px_base.specs.ListLaws.{Contains-cases}
use Rattle.px_table.specs.declared.entry.Move.{Move}
use Rattle.px_table.specs.declared.node.Node.{Node}
use Rattle.px_order.specs.Places.{push-cases, place-within-list, some-one}
use Rattle.px_order.specs.RunLaws.{node-push}
use Rattle.px_order.specs.Runs.{IsNext, Reaches}
use Rattle.px_ends.specs.ByValue.{space_of}
use Rattle.px_ends.specs.Ends.{node_of}
use Rattle.px_ends.specs.Tasks.{Task, initial_node, IsAllowed, after, AsksAt}
use Rattle.px_search.specs.Searching.{IsBetween, IsMaking, Searching, order_of}
use Rattle.px_search.proofs.ValueEndings.{AsksBelowLimit, searching_picked}

take-more : {A : Type 0} (i : ℕ) (xs : List A) (x : A) → slice_get xs i ≡ Some x → take (suc i) xs ≡ take i xs ++ x ∷ []
take-more i [] x e = absurd (cc)
take-more zero (y ∷ xs) x e = ap (λ z. z ∷ []) (some-one y x e)
take-more (suc i) (y ∷ xs) x e = ap (λ l. y ∷ l) (take-more i xs x e)

module _ (task : Task) where
  abbrev Reached : List (List Move) → Node → Type 0
  Reached found node = Reaches (space_of task) (order_of task) found node

  -- a place is picked, and no move from it is made yet
  pub making_start : (found : List (List Move)) (picked : List ℕ) → IsBetween task found picked → (place : ℕ)
      → IsNext (space_of task) (order_of task) found picked place → IsMaking task found place picked []
  making_start found picked b place next =
      record { searching = searching_picked task found picked b place next; made = λ moves m at has. absurd (omega (arith, has.1)) }

  module _ (found : List (List Move)) (place : ℕ) (picked : List ℕ) (p : List Move) (at : slice_get found place ≡ Some p) where
    same_list : (x : List Move) → slice_get found place ≡ Some x → p ≡ x
    same_list x at_x = some-one p x (sym at ∙ at_x)

    -- one more move leads to a node that is found
    pub making_seen : (moves : List Move) (i : ℕ) (m : Move) → IsMaking task found place picked (take i moves) → slice_get moves i ≡ Some m
        → Reached found (after task (node_of task p) m) → IsMaking task found place picked (take (suc i) moves)
    making_seen moves i m making at_m reached = record {
      searching = making.searching;
      made = λ x n at_x has. elim (Contains-push_cases (take i moves) m n
          (subst (λ (l : List Move). Contains l n) (take-more i moves m at_m) has)) [
            | inl old ↦ making.made x n at_x old
            | inr e ↦ subst (λ (l : List Move). Reached found (after task (node_of task l) n)) (same_list x at_x)
                (subst (λ (k : Move). Reached found (after task (node_of task p) k)) e reached)
          ];
    }

    -- one more move leads to a new node, which is found
    pub making_found : (moves : List Move) (i : ℕ) (m : Move) → IsMaking task found place picked (take i moves)
        → slice_get moves i ≡ Some m → Searching task (found ++ (p ++ m ∷ []) ∷ []) (place ∷ picked) picked
        → IsMaking task (found ++ (p ++ m ∷ []) ∷ []) place picked (take (suc i) moves)
    making_found moves i m making at_m searching = record {
      searching = searching;
      made = λ x n at_x has. elim (push-cases found (p ++ m ∷ []) x place at_x) [
        | inl old ↦ reached x n old (Contains-push_cases (take i moves) m n
            (subst (λ (l : List Move). Contains l n) (take-more i moves m at_m) has))
        | inr last ↦ absurd (omega (arith, last.0, place-within-list found place p at))
      ];
    }
      where
        reached : (x : List Move) (n : Move) → slice_get found place ≡ Some x → Contains (take i moves) n ⊎ (m ≡ n)
            → Reached (found ++ (p ++ m ∷ []) ∷ []) (after task (node_of task x) n)
        reached x n at_x (inl before) =
            let r = making.made x n at_x before in (r.0, Contains-append_left found ((p ++ m ∷ []) ∷ []) r.0 r.1, r.2)
        reached x n at_x (inr e) = (
          p ++ m ∷ [],
          Contains-push found (p ++ m ∷ []),
          node-push (space_of task) (order_of task) (initial_node task) p m
              ∙ ap (λ (l : List Move). after task (node_of task l) m) (same_list x at_x)
              ∙ ap (λ (k : Move). after task (node_of task x) k) e,
        )

    -- all moves from the place were made, and none of its questions meets the limit
    pub between_next : (moves : List Move) → IsMaking task found place picked moves
        → ((m : Move) → IsAllowed task (node_of task p) m → Contains moves m) → AsksBelowLimit task p
        → IsBetween task found (place ∷ picked)
    between_next moves making every below = record {
      searching = record {
        known = making.searching.known;
        room = making.searching.room;
        unsolved = making.searching.unsolved;
        tested = making.searching.tested;
        gone_through = λ k x q has at_k asks. elim (Contains-cases place picked k has) [
          | inl e ↦ below q (subst (λ (l : List Move). AsksAt task (node_of task l) q)
              (sym (same_list x (ap (λ (j : ℕ). slice_get found j) e ∙ at_k))) asks)
          | inr earlier ↦ making.searching.gone_through k x q earlier at_k asks
        ];
      };
      done = λ x at_x m can. making.made x m at_x
          (every m (subst (λ (l : List Move). IsAllowed task (node_of task l) m) (sym (same_list x at_x)) can));
    }
