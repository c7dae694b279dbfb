-- What a search knows gives each end, by whatever weight.
use Rattle.std.proofs.Common.{◌≡◌, ℕ, suc, ◌<◌, ◌⊎◌, List, [], ◌∷◌, ◌++◌, length, refl, sym, ◌∙◌, ap, subst, inl, inr, arith, Some, slice_get, Contains, length-append}
use Rattle.std.proofs.lemmas.List.Elements.{Contains-push_cases}
use Rattle.px_base.specs.ListLaws.{Contains-cases}
use Rattle.px_table.specs.declared.entry.Move.{Move}
use Rattle.px_gaps.specs.Questions.{MeetsLimit}
use Rattle.px_gaps.specs.declared.question.Question.{Question}
use Rattle.px_order.proofs.LawProofs.{asked_by_run}
use Rattle.px_order.specs.Ends as order_ends
use Rattle.px_order.specs.Places.{contains_place, place_of, push-cases, some-one}
use Rattle.px_order.specs.RunLaws.{behind}
use Rattle.px_order.specs.Runs.{Comes, IsNew, IsNext, IsOver}
use Rattle.px_order.specs.Spaces.{IsLinear}
use Rattle.px_ends.proofs.MoveLaws.{move_cmp-total, move_cmp-same}
use Rattle.px_ends.specs.ByValue.{aim_of, space_of}
use Rattle.px_ends.specs.Ends.{node_of}
use Rattle.px_ends.specs.Tasks.{Task, IsSolved, AsksAt, goal_question}
use Rattle.px_tree.specs.declared.nodes.TreeEnd.TheVariants.{Solved, Exhausted, More}
use Rattle.px_search.specs.Searching.{IsBelowLimit, IsBetween, Searching, order_of}
use Rattle.px_ends.specs.Trees.{EndsTree}

module _ (task : Task) where
  abbrev weight : ℕ
  weight = task.problem.weight

  pub linear : IsLinear (order_of task)
  linear = record { total = move_cmp-total; identical = move_cmp-same }

  abbrev pub goal_there : List Move → Question
  goal_there moves = goal_question task (node_of task moves)

  -- no question of the node that the moves reach meets the limit
  abbrev pub AsksBelowLimit : List Move → Type 0
  AsksBelowLimit moves = (q : Question) → AsksAt task (node_of task moves) q → IsBelowLimit task q

  -- ---- no place is left

  pub ends_over : (found : List (List Move)) (picked : List ℕ) → IsBetween task found picked
      → ((k : ℕ) (moves : List Move) → slice_get found k ≡ Some moves → Contains picked k) → EndsTree task weight found Exhausted
  ends_over found picked b all = (
    record {
      unlimited = unlimited;
      lists = found;
      picked = picked;
      over = over;
      unsolved = b.searching.unsolved;
      room = b.searching.room;
    },
    refl,
  )
    where
      over : IsOver (space_of task) (order_of task) found picked
      over = record { comes = b.searching.known; done = b.done; all = all }

      unlimited : order_ends.IsUnlimited (space_of task) (order_of task) (aim_of task)
      unlimited moves q (inl (gone, asks)) met =
          let has = (asked_by_run (space_of task) (aim_of task)).over_gone_through (order_of task) linear found picked over moves gone in
          let place = place_of found moves has in
          b.searching.gone_through place.0 moves q (all place.0 moves place.1) place.1 asks met.0 met.1 met.2
      unlimited moves q (inr (tested, tries)) met =
          let has = (asked_by_run (space_of task) (aim_of task)).over_tested (order_of task) linear found picked over moves tested in
          b.searching.tested moves has tries.0 met.0 met.1
          (subst (λ (x : Question). MeetsLimit task.problem x met.0 met.1) tries.1 met.2)

  -- ---- a place is picked

  pub searching_picked : (found : List (List Move)) (picked : List ℕ) → IsBetween task found picked → (place : ℕ)
      → IsNext (space_of task) (order_of task) found picked place → Searching task found (place ∷ picked) picked
  searching_picked found picked b place next = record {
    known = (
      suc b.searching.known.0,
      (found, picked, b.searching.known.1, inl (record { place = place; done = b.done; next = next; found_is = refl; picked_is = refl })),
    );
    room = b.searching.room;
    unsolved = b.searching.unsolved;
    tested = b.searching.tested;
    gone_through = b.searching.gone_through;
  }

  -- ---- a list is found

  module _ (found : List (List Move)) (place : ℕ) (picked : List ℕ) (s : Searching task found (place ∷ picked) picked)
      (p : List Move) (at : slice_get found place ≡ Some p) (m : Move) (is_new : IsNew (space_of task) (order_of task) found p m) where
    abbrev new_moves : List Move
    new_moves = p ++ m ∷ []

    abbrev pub comes : Comes (space_of task) (order_of task) (found ++ new_moves ∷ []) (place ∷ picked)
    comes = (
      suc s.known.0,
      (
        found,
        place ∷ picked,
        s.known.1,
        inr (record {
          place = place;
          earlier = picked;
          last = refl;
          moves = p;
          stands = at;
          m = m;
          is_new = is_new;
          found_is = refl;
          picked_is = refl;
        }),
      ),
    )

    -- a place that was picked is one of the old ones
    old_place : (k : ℕ) (moves : List Move) → Contains (place ∷ picked) k → slice_get (found ++ new_moves ∷ []) k ≡ Some moves
        → slice_get found k ≡ Some moves
    old_place k moves has at_k = elim (push-cases found new_moves moves k at_k) [
      | inl old ↦ old
      | inr last ↦ absurd (omega (
        arith,
        last.0,
        (behind (space_of task) (order_of task) s.known.0 found (place ∷ picked) s.known.1).within k has,
      ))
    ]

    -- it isn't solved, and there is room for it
    pub searching_found : length found < task.nodes → (¬ IsSolved task (node_of task new_moves))
        → ((node_of task new_moves).stack ≡ [] → IsBelowLimit task (goal_there new_moves))
        → Searching task (found ++ new_moves ∷ []) (place ∷ picked) picked
    searching_found room unsolved tested = record {
      known = comes;
      room = omega (arith, room, length-append found (new_moves ∷ []));
      unsolved = λ x has is_solved. elim (Contains-push_cases found new_moves x has) [
        | inl old ↦ s.unsolved x old is_solved
        | inr e ↦ unsolved (subst (λ (y : List Move). IsSolved task (node_of task y)) (sym e) is_solved)
      ];
      tested = λ x has empty. elim (Contains-push_cases found new_moves x has) [
        | inl old ↦ s.tested x old empty
        | inr e ↦ subst (λ (y : List Move). IsBelowLimit task (goal_there y)) e
            (tested (subst (λ (y : List Move). (node_of task y).stack ≡ []) (sym e) empty))
      ];
      gone_through = λ k x q has at_k. s.gone_through k x q has
          (old_place k x (later k has) at_k);
    }
      where
        later : (k : ℕ) → Contains picked k → Contains (place ∷ picked) k
        later k has = (suc has.0, omega (arith, has.1), has.2)

    abbrev stop : IsSolved task (node_of task new_moves) ⊎ (length found ≡ task.nodes)
        → order_ends.IsStop (space_of task) (order_of task) (aim_of task) found new_moves
    stop stops = record { begins = (place ∷ picked, comes); unsolved = s.unsolved; room = s.room; stops = stops }

    -- what is asked before a stop there doesn't meet the limit
    module _ (stops : IsSolved task (node_of task new_moves) ⊎ (length found ≡ task.nodes)) (here : AsksBelowLimit p)
        (goal : length found < task.nodes → IsBelowLimit task (goal_there new_moves)) where
      gone_below : (k : ℕ) (moves : List Move) → Contains (place ∷ picked) k → slice_get found k ≡ Some moves → AsksBelowLimit moves
      gone_below k moves has at_k q asks = elim (Contains-cases place picked k has) [
        | inl e ↦
            let same : p ≡ moves = some-one p moves (sym at ∙ ap (λ (i : ℕ). slice_get found i) e ∙ at_k) in
            here q (subst (λ (x : List Move). AsksAt task (node_of task x) q) (sym same) asks)
        | inr earlier ↦ s.gone_through k moves q earlier at_k asks
      ]

      pub unlimited_there : order_ends.IsUnlimited (space_of task) (order_of task) (aim_of task)
      unlimited_there moves q (inl (gone, asks)) met =
          let r =
          (asked_by_run (space_of task) (aim_of task)).gone_through (order_of task) linear found new_moves (stop stops) moves gone in
          gone_below r.0 moves r.2 (old_place r.0 moves r.2 r.1) q asks met.0 met.1 met.2
      unlimited_there moves q (inr (tested, tries)) met =
          let r = (asked_by_run (space_of task) (aim_of task)).tested (order_of task) linear found new_moves (stop stops) moves tested in
          let met_goal = subst (λ (x : Question). MeetsLimit task.problem x met.0 met.1) tries.1 met.2 in
          elim (push-cases found new_moves moves r.0 r.1) [
            | inl old ↦ s.tested moves (contains r.0 moves old) tries.0 met.0 met.1 met_goal
            | inr last ↦ goal (omega (arith, last.0, r.2)) met.0 met.1
                (subst (λ (x : List Move). MeetsLimit task.problem (goal_there x) met.0 met.1) (sym last.1) met_goal)
          ]
        where
          contains : (k : ℕ) (x : List Move) → slice_get found k ≡ Some x → Contains found x
          contains k x e = contains_place found k x e

    pub ends_found : length found < task.nodes → IsSolved task (node_of task new_moves) → AsksBelowLimit p
        → IsBelowLimit task (goal_there new_moves) → EndsTree task weight (found ++ new_moves ∷ []) Solved
    ends_found room solved here goal = (
      new_moves,
      record { unlimited = unlimited_there (inl solved) here (λ _. goal); earlier = found; stop = stop (inl solved); room = room },
      refl,
    )

    abbrev pub ends_full : length found ≡ task.nodes → AsksBelowLimit p → EndsTree task weight found (More (length new_moves))
    ends_full full here = record {
      unlimited = unlimited_there (inr full) here (λ room. absurd (omega (arith, room, full)));
      last = new_moves;
      stop = stop (inr full);
      full = full;
      moves_are = refl;
    }
