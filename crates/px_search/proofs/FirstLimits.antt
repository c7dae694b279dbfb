-- When a question first meets the limit of shapes, from what a search knows.
use Rattle.std.proofs.Common.{◌≡◌, ℕ, zero, suc, ◌<◌, ◌≤◌, ◌⊎◌, List, [], ◌∷◌, ◌++◌, length, refl, sym, ◌∙◌, ap, subst, inl, inr, arith, Some, slice_get, Contains, length-append}
use Rattle.std.proofs.lemmas.List.Elements.{Contains-append_left, Contains-push}
use Rattle.px_base.specs.ListLaws.{Contains-cases, Contains-later}
use Rattle.px_terms.specs.declared.atom.Atom.{Atom}
use Rattle.px_proof.specs.declared.shape.Tick.{Tick}
use Rattle.px_table.specs.declared.entry.Move.{Move}
use Rattle.px_gaps.specs.Questions.{IsMetLimit, MeetsLimit}
use Rattle.px_gaps.specs.declared.question.MetLimit.{MetLimit}
use Rattle.px_gaps.specs.declared.question.Question.{Question}
use Rattle.px_order.specs.Places.{order_of as order_between, place-within-list, some-one, still_there}
use Rattle.px_order.specs.RunLaws.{prefixes, runs-one}
use Rattle.px_order.specs.Runs.{IsNew, IsNext, RunsFor}
use Rattle.px_order.specs.Shortlex.{lower-total}
use Rattle.px_order.specs.Spaces.{IsLower, Order, Space}
use Rattle.px_ends.specs.ByValue.{IsAsked, IsShapeLimit, space_of}
use Rattle.px_ends.specs.Ends.{node_of}
use Rattle.px_ends.specs.Tasks.{Task, AsksAt}
use Rattle.px_search.specs.Searching.{IsBelowLimit, IsBetween, Searching, order_of}
use Rattle.px_ends.specs.Trees.{IsAskedAmong, IsFirstLimit}
use Rattle.px_search.proofs.ValueEndings.{AsksBelowLimit, comes, goal_there, linear, searching_picked}

-- it is asked at some time
pub asked_of : (task : Task) (weight : ℕ) (found : List (List Move)) (moves : List Move) (question : Question)
    → IsAskedAmong task weight found moves question → IsAsked task weight moves question
asked_of task weight found moves question (inl (gone, same, asks)) = inl (gone, asks)
asked_of task weight found moves question (inr (tested, same, empty, is)) = inr (tested, (empty, is))

module _ {N M : Type 0} (space : Space N M) (order : Order N M)
    (total : (m n : M) → IsLower order m n ⊎ ((m ≡ n) ⊎ IsLower order n m)) where
  -- what was picked stays picked
  picks-kept : (m n : ℕ) (f g : List (List M)) (p q : List ℕ) → RunsFor space order n f p → RunsFor space order m g q → n ≤ m → (k : ℕ)
      → Contains p k → Contains q k
  picks-kept zero n f g p q r s h k has =
      let number : n ≡ 0 = omega (arith, h) in
      let same = runs-one space order total 0 f g p q (subst (λ (j : ℕ). RunsFor space order j f p) number r) s in
      subst (λ (l : List ℕ). Contains l k) same.1 has
  picks-kept (suc m) n f g p q r s h k has = by (order_between m n) (λ low. picks-kept m n f s.0 p s.1 r s.2 low k has)
    where
      by : (m < n) ⊎ (n ≤ m) → (n ≤ m → Contains s.1 k) → Contains q k
      by (inl high) onward =
          let number : n ≡ suc m = omega (arith, h, high) in
          let same = runs-one space order total (suc m) f g p q (subst (λ (j : ℕ). RunsFor space order j f p) number r) s in
          subst (λ (l : List ℕ). Contains l k) same.1 has
      by (inr low) onward = elim s.3 [
        | inl x ↦ subst (λ (l : List ℕ). Contains l k) (sym x.picked_is) (Contains-later x.place s.1 k (onward low))
        | inr x ↦ subst (λ (l : List ℕ). Contains l k) (sym x.picked_is) (onward low)
      ]

  -- a state with fewer lists comes before
  pub comes-before : (n m : ℕ) (found lists : List (List M)) (picked places : List ℕ) → RunsFor space order n found picked
      → RunsFor space order m lists places → length lists < length found → m < n
  comes-before n m found lists picked places r s less = elim (order_between m n) [
    | inl early ↦ early
    | inr late ↦
        let e = prefixes space order total n m found lists picked places late r s in
        absurd (omega (arith, less, ap length e.1, length-append found e.0))
  ]

module _ (task : Task) where
  abbrev weight : ℕ
  weight = task.problem.weight

  abbrev Runs : ℕ → List (List Move) → List ℕ → Type 0
  Runs n found picked = RunsFor (space_of task) (order_of task) n found picked

  pub total : (m n : Move) → IsLower (order_of task) m n ⊎ ((m ≡ n) ⊎ IsLower (order_of task) n m)
  total = lower-total (order_of task) (linear task)

  -- no question that is asked up to a state meets the limit: none about what was picked there, and none whether a found list is solved
  module _ (n : ℕ) (found : List (List Move)) (picked : List ℕ) (run : Runs n found picked)
      (tested : (moves : List Move) → Contains found moves → (node_of task moves).stack ≡ [] → IsBelowLimit task (goal_there task moves))
      (gone : (k : ℕ) (moves : List Move) → Contains picked k → slice_get found k ≡ Some moves → AsksBelowLimit task moves)
      (bound : ℕ)
      (early : (m : ℕ) (lists : List (List Move)) (places : List ℕ) → Runs m lists places → length lists < bound → m ≤ n) where
    pub none-met : (fewer : List (List Move)) (others : List Move) (other : Question) → length fewer < bound
        → IsAskedAmong task weight fewer others other → (atoms : List Atom) (lists : List (List Tick))
        → ¬ MeetsLimit task.problem other atoms lists
    none-met fewer others other less (inl (g, same, asks)) atoms lists met =
        let few : length g.found < bound = subst (λ (l : List (List Move)). length l < bound) (sym same) less in
        let soon = early g.comes.0 g.found (g.place ∷ g.picked) g.comes.1 few in
        let r =
        prefixes (space_of task) (order_of task) total g.comes.0 n g.found found (g.place ∷ g.picked) picked soon g.comes.1 run in
        gone g.place others
        (picks-kept (space_of task) (order_of task) total n g.comes.0 g.found found (g.place ∷ g.picked) picked g.comes.1 run soon g.place
        (0, omega arith, refl))
        (ap (λ (l : List (List Move)). slice_get l g.place) r.1 ∙ still_there g.found r.0 g.place others g.stands) other asks atoms lists
        met
    none-met fewer others other less (inr (t, same, empty, is)) atoms lists met =
        let few : length (t.earlier ++ others ∷ []) < bound = subst (λ (l : List (List Move)). length l < bound) (sym same) less in
        let soon = early t.begins.1.0 (t.earlier ++ others ∷ []) t.begins.0 t.begins.1.1 few in
        let r =
        prefixes (space_of task) (order_of task) total t.begins.1.0 n (t.earlier ++ others ∷ []) found t.begins.0 picked soon t.begins.1.1
        run in
        tested others
        (subst (λ (l : List (List Move)). Contains l others) (sym r.1)
        (Contains-append_left (t.earlier ++ others ∷ []) r.0 others (Contains-push t.earlier others))) empty atoms lists
        (subst (λ (q : Question). MeetsLimit task.problem q atoms lists) is met)

  -- ---- a place was just picked, and a question of its node meets the limit

  abbrev pub first_here : (found : List (List Move)) (picked : List ℕ) → IsBetween task found picked → (place : ℕ)
      → IsNext (space_of task) (order_of task) found picked place → (p : List Move) → slice_get found place ≡ Some p → (limit : MetLimit)
      → AsksAt task (node_of task p) limit.question → IsMetLimit task.problem limit → IsFirstLimit task weight found limit
  first_here found picked b place next p at limit asks met = record {
    moves = p;
    asked = inl (
      record {
        found = found;
        place = place;
        picked = picked;
        comes = (searching_picked task found picked b place next).known;
        stands = at;
        unsolved = b.searching.unsolved;
        room = b.searching.room;
      },
      refl,
      asks,
    );
    met = met;
    first = none-met b.searching.known.0 found picked b.searching.known.1 b.searching.tested
        (λ k moves has at_k other asks_it. b.searching.gone_through k moves other has at_k asks_it) (length found)
        (λ m lists places r less.
        let before =
        comes-before (space_of task) (order_of task) total b.searching.known.0 m found lists picked places b.searching.known.1 r less in
        omega (arith, before));
  }

  -- ---- a list was just found, and whether it is solved meets the limit

  module _ (found : List (List Move)) (place : ℕ) (picked : List ℕ) (s : Searching task found (place ∷ picked) picked)
      (p : List Move) (at : slice_get found place ≡ Some p) (m : Move) (is_new : IsNew (space_of task) (order_of task) found p m)
      (here : AsksBelowLimit task p) where
    pub gone_here : (k : ℕ) (moves : List Move) → Contains (place ∷ picked) k → slice_get found k ≡ Some moves → AsksBelowLimit task moves
    gone_here k moves has at_k = elim (Contains-cases place picked k has) [
      | inl e ↦
          let same : p ≡ moves = some-one p moves (sym at ∙ ap (λ (i : ℕ). slice_get found i) e ∙ at_k) in
          subst (AsksBelowLimit task) same here
      | inr earlier ↦ λ other asks. s.gone_through k moves other earlier at_k asks
    ]

    abbrev pub first_there : length found < task.nodes → (node_of task (p ++ m ∷ [])).stack ≡ [] → (limit : MetLimit)
        → limit.question ≡ goal_there task (p ++ m ∷ []) → IsMetLimit task.problem limit
        → IsFirstLimit task weight (found ++ (p ++ m ∷ []) ∷ []) limit
    first_there room empty limit is met = record {
      moves = p ++ m ∷ [];
      asked = inr (
        record {
          earlier = found;
          begins = (place ∷ picked, comes task found place picked s p at m is_new);
          unsolved = s.unsolved;
          room = room;
        },
        refl,
        empty,
        is,
      );
      met = met;
      first = none-met s.known.0 found (place ∷ picked) s.known.1 s.tested gone_here (length (found ++ (p ++ m ∷ []) ∷ []))
          (λ number lists places r less.
          let all = comes task found place picked s p at m is_new in
          let before : number < suc s.known.0 =
          comes-before (space_of task) (order_of task) total all.0 number (found ++ (p ++ m ∷ []) ∷ []) lists (place ∷ picked) places all.1
          r less in
          omega (arith, before));
    }

  -- ---- whether the initial node is solved meets the limit

  pub none-before : (fewer : List (List Move)) (others : List Move) (other : Question) → length fewer < 1
      → IsAskedAmong task weight fewer others other → (atoms : List Atom) (lists : List (List Tick))
      → ¬ MeetsLimit task.problem other atoms lists
  none-before fewer others other less (inl (g, same, asks)) atoms lists met =
      omega (arith, less, ap length same, place-within-list g.found g.place others g.stands)
  none-before fewer others other less (inr (t, same, empty, is)) atoms lists met =
      omega (arith, less, ap length same, length-append t.earlier (others ∷ []))

  abbrev pub first_at_start : 1 ≤ task.nodes → (limit : MetLimit) → limit.question ≡ goal_there task [] → IsMetLimit task.problem limit
      → IsFirstLimit task weight ([] ∷ []) limit
  first_at_start room limit is met = record {
    moves = [];
    asked = inr (
      record {
        earlier = [];
        begins = ([], (0, (refl, refl)));
        unsolved = λ moves has. absurd (omega (arith, has.1));
        room = omega (arith, room);
      },
      refl,
      refl,
      is,
    );
    met = met;
    first = none-before;
  }

  -- ---- it is a limit

  pub limit_of : (found : List (List Move)) (limit : MetLimit) (first : IsFirstLimit task weight found limit)
      → IsShapeLimit task weight (node_of task first.moves) limit
  limit_of found limit first = record {
    moves = first.moves;
    node_is = refl;
    asked = asked_of task weight found first.moves limit.question first.asked;
    met = first.met;
  }
