-- What small searches come to with a weight.
use Rattle.std.specs.Prelude.{◌≡◌, ◌≤◌, ℕ, Some, List, [], ◌∷◌, slice_get, Contains}
use Rattle.std.proofs.Common.{zero, suc, refl, sym, ap, ◌∙◌, subst, inl, inr, arith}
use Rattle.std.specs.declared.cmp.Ordering.TheVariants.{Less}
use Rattle.px_base.specs.Answers.{some_same}
use Rattle.px_base.specs.Sets.{set_of, with_item}
use Rattle.px_base.specs.ListLaws.{Contains-cases, Contains-first, Contains-later, Contains-none, Contains-one}
use Rattle.px_terms.specs.declared.problem.Schema.{Schema}
use Rattle.px_table.specs.declared.entry.Entry.{Entry}
use Rattle.px_table.specs.declared.entry.Move.{Move}
use Rattle.px_table.specs.declared.entry.Move.TheVariants.{Apply, Push}
use Rattle.px_table.specs.declared.node.Node.{Node}
use Rattle.px_proof.specs.Derivation.{also, fact, none}
use Rattle.px_gaps.specs.Questions.{MeetsLimit}
use Rattle.px_gaps.specs.declared.question.Question.{Question}
use Rattle.px_order.specs.Spaces.{Order, value}
use Rattle.px_order.specs.Runs.{IsDone, IsGoneOver, IsNew, Reaches, RunsFor}
use Rattle.px_order.specs.Places.{contains_place}
use Rattle.px_order.specs.RunLaws as run_laws
use Rattle.px_order.specs.Ends as order_ends
use Rattle.px_ends.specs.ByValue.{space_of, order_by, aim_of, IsExhausted, IsFound, IsNodeLimit}
use Rattle.px_ends.specs.Ends.{AreMoves, node_of}
use Rattle.px_ends.specs.Order.{move_cmp}
use Rattle.px_ends.specs.Tasks.{IsAllowed, IsSolved, task_of}
use Rattle.px_ends.specs.WorkedEnds.{bare, idle, make, p, p_from_none, plain_problem, stuck}
use Rattle.px_ends.specs.WorkedValues.{ValueFacts}
use Rattle.px_ends.proofs.Operators.{IsPlainStack, NeedLittle, all_moves, apply_allowed, each_list, little, little_stuck, needs_below, no_moves, only_make, push_allowed, pushed, pushed_and_applied, stops, stuck_moves, three, to_p, two}
use Rattle.px_ends.proofs.AtStart.{found_at_start}
use Rattle.px_ends.proofs.Smallest.{no_proof, p_leaf, p_proof, proving_below}

module _ (weight : ℕ) where
  abbrev by : (schemas : List Schema) (nodes : ℕ) → Order Node Move
  by schemas nodes = order_by (p_from_none schemas nodes) weight

  abbrev Runs : (schemas : List Schema) (nodes : ℕ) → ℕ → List (List Move) → List ℕ → Type 0
  Runs schemas nodes n found picked = RunsFor (space_of (p_from_none schemas nodes)) (by schemas nodes) n found picked

  -- no question meets the limit
  unlimited : (schemas : List Schema) (nodes : ℕ) → NeedLittle schemas
      → ((moves : List Move) → AreMoves (p_from_none schemas nodes) moves → IsPlainStack (node_of (p_from_none schemas nodes) moves).stack)
      → order_ends.IsUnlimited (space_of (p_from_none schemas nodes)) (by schemas nodes) (aim_of (p_from_none schemas nodes))
  unlimited schemas nodes few plain moves question (inl (gone, asks)) (formula, shapes, met) =
      let node : Node = node_of (p_from_none schemas nodes) moves in
      let can : AreMoves (p_from_none schemas nodes) moves =
      run_laws.made (space_of (p_from_none schemas nodes)) (by schemas nodes) gone.comes.0 gone.found (gone.place ∷ gone.picked)
      gone.comes.1 moves (contains_place gone.found gone.place moves gone.stands) in
      needs_below schemas nodes few node.model node.stack (plain moves can) question asks formula shapes met
  unlimited schemas nodes few plain moves question (inr (tested, (empty, is))) (formula, shapes, met) =
      proving_below schemas nodes (node_of (p_from_none schemas nodes) moves).model (p ∷ []) tt formula shapes
      (subst (λ (q : Question). MeetsLimit (plain_problem schemas nodes) q formula shapes) is met)

  -- ---- the first node is picked

  only-first : (k : ℕ) (moves : List Move) → slice_get ([] ∷ []) k ≡ Some moves → (k ≡ 0) × ([] ≡ moves)
  only-first zero moves stands = (refl, some_same stands)
  only-first (suc k) moves stands = absurd (cc)

  first-picked : (schemas : List Schema) (nodes : ℕ) → Runs schemas nodes 1 ([] ∷ []) (0 ∷ [])
  first-picked schemas nodes = (
    [] ∷ [],
    [],
    (refl, refl),
    inl (record {
      place = 0;
      done = tt;
      next = record {
        moves = [];
        stands = refl;
        fresh = Contains-none 0;
        least = λ k other stands fresh.
            let only = only-first k other stands in
            inr (ap (λ (l : List Move). value (space_of (p_from_none schemas nodes)) (by schemas nodes) l) only.1, omega arith);
      };
      found_is = refl;
      picked_is = refl;
    }),
  )

  -- ---- an operator that leads to the goal

  module _ (nodes : ℕ) where
    abbrev Reached : List (List Move) → Node → Type 0
    Reached found node = Reaches (space_of (to_p nodes)) (by two nodes) found node

    abbrev first_two : List (List Move)
    first_two = [] ∷ pushed ∷ []

    -- each move from the first node is the push
    one-push : (P : Move → Type 0) → P (Push make) → (m : Move) → IsAllowed (to_p nodes) (bare []) m → P m
    one-push P is Apply can = absurd (can.0 refl)
    one-push P is (Push entry) can = subst (λ (e : Entry). P (Push e)) (only_make nodes entry can) is

    push-new : IsNew (space_of (to_p nodes)) (by two nodes) ([] ∷ []) [] (Push make)
    push-new = record {
      allowed = push_allowed nodes;
      new = λ r. empty-only r.0 r.1 r.2;
      first = λ n can lower. absurd (one-push (λ m. ¬ (move_cmp m (Push make) ≡ Less)) (λ less. cc) n can lower);
    }
      where
        empty-only : (moves : List Move) → Contains ([] ∷ []) moves → ¬ (node_of (to_p nodes) moves ≡ bare (make ∷ []))
        empty-only moves has is =
            let same : bare [] ≡ bare (make ∷ []) = ap (λ (ms : List Move). node_of (to_p nodes) ms) (Contains-one [] moves has) ∙ is in
            let stacks = ap (λ (node : Node). node.stack) same in cc

    push-found : Runs two nodes 2 first_two (0 ∷ [])
    push-found = (
      [] ∷ [],
      0 ∷ [],
      first-picked two nodes,
      inr (record {
        place = 0;
        earlier = [];
        last = refl;
        moves = [];
        stands = refl;
        m = Push make;
        is_new = push-new;
        found_is = refl;
        picked_is = refl;
      }),
    )

    first-done : IsDone (space_of (to_p nodes)) (by two nodes) first_two (0 ∷ [])
    first-done moves stands = subst (λ (l : List Move). IsGoneOver (space_of (to_p nodes)) (by two nodes) first_two l) (some_same stands)
        (λ m can. one-push (λ (n : Move). Reached first_two (node_of (to_p nodes) (n ∷ [])))
        (pushed, Contains-later [] (pushed ∷ []) pushed (Contains-first pushed []), refl) m can)

    second-least : (k : ℕ) (other : List Move) → slice_get first_two k ≡ Some other → (¬ Contains (0 ∷ []) k)
        → (pushed ≡ other) × (1 ≤ k)
    second-least zero other stands fresh = absurd (fresh (Contains-first 0 []))
    second-least (suc zero) other stands fresh = (some_same stands, omega arith)
    second-least (suc (suc k)) other stands fresh = absurd (cc)

    second-picked : Runs two nodes 3 first_two (1 ∷ 0 ∷ [])
    second-picked = (
      first_two,
      0 ∷ [],
      push-found,
      inl (record {
        place = 1;
        done = first-done;
        next = record {
          moves = pushed;
          stands = refl;
          fresh = λ has. omega (arith, Contains-one 0 1 has);
          least = λ k other stands fresh.
              let only = second-least k other stands fresh in
              inr (ap (λ (l : List Move). value (space_of (to_p nodes)) (by two nodes) l) only.0, only.1);
        };
        found_is = refl;
        picked_is = refl;
      }),
    )

    apply-new : IsNew (space_of (to_p nodes)) (by two nodes) first_two pushed Apply
    unfolding set_of with_item
    apply-new = record {
      allowed = apply_allowed nodes;
      new = λ r. elim (Contains-cases [] (pushed ∷ []) r.0 r.1) [
        | inl first ↦
            let same : bare [] ≡ node_of (to_p nodes) pushed_and_applied =
            ap (λ (ms : List Move). node_of (to_p nodes) ms) first ∙ r.2 in
            let models = ap (λ (node : Node). node.model) same in cc
        | inr second ↦
            let same : bare (make ∷ []) ≡ node_of (to_p nodes) pushed_and_applied =
            ap (λ (ms : List Move). node_of (to_p nodes) ms) (Contains-one pushed r.0 second) ∙ r.2 in
            let models = ap (λ (node : Node). node.model) same in cc
      ];
      first = λ n can lower. absurd (none-lower n lower);
    }
      where
        none-lower : (n : Move) → ¬ (move_cmp n Apply ≡ Less)
        none-lower Apply less = cc
        none-lower (Push entry) less = cc

    all-found : Runs two nodes 4 three (1 ∷ 0 ∷ [])
    all-found = (
      first_two,
      1 ∷ 0 ∷ [],
      second-picked,
      inr (record {
        place = 1;
        earlier = 0 ∷ [];
        last = refl;
        moves = pushed;
        stands = refl;
        m = Apply;
        is_new = apply-new;
        found_is = refl;
        picked_is = refl;
      }),
    )

    stop : 2 ≤ nodes → order_ends.IsStop (space_of (to_p nodes)) (by two nodes) (aim_of (to_p nodes)) first_two pushed_and_applied
    stop room = record {
      begins = (1 ∷ 0 ∷ [], (4, all-found));
      unsolved = (stops nodes room).unsolved;
      room = room;
      stops = (stops nodes room).stops;
    }

    below-limit : order_ends.IsUnlimited (space_of (to_p nodes)) (by two nodes) (aim_of (to_p nodes))
    below-limit = unlimited two nodes little
        (λ moves can. each_list (λ (ms : List Move). IsPlainStack (node_of (to_p nodes) ms).stack) tt tt tt moves
        (all_moves nodes moves can))

  made : IsFound (to_p 3) weight pushed_and_applied
  made = record { unlimited = below-limit 3; earlier = [] ∷ pushed ∷ []; stop = stop 3 (omega arith); room = omega arith }

  no_room : IsNodeLimit (to_p 2) weight (bare [] ∷ bare (make ∷ []) ∷ []) 2
  no_room = record {
    earlier = [] ∷ pushed ∷ [];
    limit = record {
      unlimited = below-limit 2;
      last = pushed_and_applied;
      stop = stop 2 (omega arith);
      full = refl;
      moves_are = refl;
    };
    nodes_are = refl;
  }

  -- ---- where nothing is pushed

  module _ (schemas : List Schema) (few : NeedLittle schemas)
      (only : (moves : List Move) → AreMoves (p_from_none schemas 1) moves → [] ≡ moves) where
    no-move : (m : Move) → ¬ IsAllowed (p_from_none schemas 1) (bare []) m
    no-move m can = let none = only (m ∷ []) (can, tt) in cc

    not-solved : ¬ IsSolved (p_from_none schemas 1) (bare [])
    not-solved solved = no_proof schemas 1 p solved.1

    exhausted_at_first : IsExhausted (p_from_none schemas 1) weight
    exhausted_at_first = record {
      unlimited = unlimited schemas 1 few
          (λ moves can. subst (λ (ms : List Move). IsPlainStack (node_of (p_from_none schemas 1) ms).stack) (only moves can) tt);
      lists = [] ∷ [];
      picked = 0 ∷ [];
      over = record {
        comes = (1, first-picked schemas 1);
        done = λ moves stands. subst (λ (l : List Move). IsGoneOver (space_of (p_from_none schemas 1)) (by schemas 1) ([] ∷ []) l)
            (only-first 0 moves stands).1 (λ m can. absurd (no-move m can));
        all = λ k moves stands. subst (λ (n : ℕ). Contains (0 ∷ []) n) (sym (only-first k moves stands).0) (Contains-first 0 []);
      };
      unsolved = λ moves has. subst (λ (l : List Move). ¬ (aim_of (p_from_none schemas 1)).solved (node_of (p_from_none schemas 1) l))
          (Contains-one [] moves has) not-solved;
      room = omega arith;
    }

  -- an operator that isn't open
  none_open : IsExhausted (p_from_none (stuck ∷ []) 1) weight
  none_open = exhausted_at_first (stuck ∷ []) little_stuck stuck_moves

  -- no operator
  pub not_there_by_value : IsExhausted (p_from_none [] 1) weight
  not_there_by_value = exhausted_at_first [] (λ nodes inst. tt) no_moves

  -- P where it is a fact
  pub there_by_value : IsFound (task_of idle [] (p ∷ []) (p ∷ []) 0) weight []
  there_by_value = found_at_start (task_of idle [] (p ∷ []) (p ∷ []) 0) weight (omega arith)
      (refl, ([], also (fact p_leaf) none, p_proof [] 1)) (proving_below [] 1 (p ∷ []) (p ∷ []) tt)

pub value_facts : ValueFacts
value_facts = record {
  counted = refl;
  at_first = λ nodes. refl;
  with_make = λ nodes. refl;
  with_stuck = λ nodes. refl;
  at_last = λ nodes. refl;
  made = made;
  no_room = no_room;
  not_open = none_open;
}
