-- What the search keeps at each turn, by numbers.
use Rattle.std.proofs.Common.{◌≡◌, ℕ, Bool, true, zero, suc, ◌+◌, ◌<◌, ◌≤◌, List, [], ◌∷◌, ◌++◌, map, take, length, refl, sym, ◌∙◌, ap, subst, inl, inr, arith, Some, slice_get, Contains}
use Rattle.std.specs.Prelude.{All}
use Rattle.std.proofs.lemmas.List.{length-append, length-map, map-append}
use Rattle.std.proofs.lemmas.List.Elements.{All-tail, All-cons}
use Rattle.px_terms.specs.declared.atom.Atom.{Atom}
use Rattle.px_terms.specs.Operators.{results_of}
use Rattle.px_table.specs.declared.entry.Entry.{Entry}
use Rattle.px_table.specs.declared.entry.Move.{Move}
use Rattle.px_table.specs.declared.entry.Move.TheVariants.{Apply, Push}
use Rattle.px_table.specs.declared.node.Node.{Node}
use Rattle.px_entries.specs.Entries.{IsEntry, effect_of}
use Rattle.px_gaps.specs.declared.known.Tried.TheVariants.{Answered, Unanswered, Limited}
use Rattle.px_gaps.specs.declared.question.MetLimit.{MetLimit}
use Rattle.px_ops.specs.Keeping.{Keeps}
use Rattle.px_ops.specs.KeepLaws.{place_within, has_at, push-cases}
use Rattle.px_numbers.specs.declared.nodes.NodeKey.{NodeKey}
use Rattle.px_numbers.specs.Numbers.{Kept, AreEachOnce, IsKeyOf, KeepsAll, AllStand}
use Rattle.px_numbers.specs.NumberLaws.{one_at, node_of_key, seen, unseen, stands-grows, all_stand-grows, all_stand-push}
use Rattle.px_order.specs.Places.{at_end, contains_place, place_of, still_there}
use Rattle.px_order.specs.RunLaws.{behind, made, made-push, node-push}
use Rattle.px_order.specs.Runs.{Comes, IsNew, IsNext}
use Rattle.px_ends.specs.ByValue.{space_of}
use Rattle.px_ends.specs.Ends.{AreMoves, node_of}
use Rattle.px_ends.specs.Moves.{CanMake, reached}
use Rattle.px_ends.specs.Tasks.{Task, initial_node, IsAllowed, IsSolved, after, goal_question}
use Rattle.px_search.specs.declared.picker.Picker.{Picker}
use Rattle.px_search.specs.declared.step.Step.{Step}
use Rattle.px_search.specs.declared.step.Origin.{Origin}
use Rattle.px_search.specs.Asking.{IsTriedAt}
use Rattle.px_search.specs.Going.{IsAskedAt, AreFirstSuccessors, LimitsNode}
use Rattle.px_search.specs.Looping.{AreFoundBy, AreNumbered, AtPick, Between, Going, IsFull, IsLimitedAt, IsReached, IsSpent, Trying}
use Rattle.px_search.specs.Picking.{AreWithin, IsOnward, IsPickerOf}
use Rattle.px_search.specs.Searching.{IsBelowLimit, IsMaking, Searching, order_of}
use Rattle.px_search.specs.Steps.{DescribesMove, AreEarlier, Trace}
use Rattle.px_search.proofs.FirstMoves.{first_new}
use Rattle.px_search.proofs.PickerLaws.{picker-grows}
use Rattle.px_search.proofs.StepLaws.{step-grows, steps-grow}
use Rattle.px_search.proofs.TurnLaws.{between_next, making_found, making_seen, making_start}
use Rattle.px_search.proofs.FirstLimits.{first_here, first_there}
use Rattle.px_search.proofs.ValueEndings.{comes, ends_found, ends_full, ends_over, searching_found}

-- ---- the entries on the stacks of nodes that moves reach are entries

pub no_entries : {A : Type 0} (P : A → Type 0) → All P []
no_entries P k d below = absurd (omega (arith, below))

pub stack_entries : (task : Task) (model : List Atom) (stack : List Entry) (moves : List Move)
    → All (IsEntry task.problem task.tables) stack
    → CanMake (IsAllowed task) (after task) (record { model = model; stack = stack }) moves
    → All (IsEntry task.problem task.tables) (reached (IsAllowed task) (after task) (record { model = model; stack = stack }) moves).stack
stack_entries task model stack [] entries can = entries
stack_entries task model stack (Push e ∷ moves) entries can =
    stack_entries task model (e ∷ stack) moves (All-cons (IsEntry task.problem task.tables) e stack can.0.0.is_entry entries) can.1
stack_entries task model [] (Apply ∷ moves) entries can = absurd (can.0.0 refl)
stack_entries task model (e ∷ below) (Apply ∷ moves) entries can =
    stack_entries task (results_of task.problem model (effect_of task.tables e)) below moves
    (All-tail (IsEntry task.problem task.tables) e below entries) can.1

-- ---- keeping a pair

pub kept_old : {X : Type 0} (old new : List X) (item : X) (number : ℕ) → Keeps old new item number → number < length old
    → Contains old item × (new ≡ old)
kept_old old new item number kept below = elim kept.change [
  | inl same ↦ same
  | inr more ↦ absurd (more.0 (early old item number (subst (λ l. slice_get l number ≡ Some item) more.1 kept.here) below))
]
  where
    early : {X : Type 0} (xs : List X) (y : X) (k : ℕ) → slice_get (xs ++ y ∷ []) k ≡ Some y → k < length xs → Contains xs y
    early xs y k at below' = elim (push-cases xs y y k at) [
      | inl before ↦ has_at xs k y before
      | inr last ↦ absurd (omega (arith, last.0, below'))
    ]

pub kept_new : {X : Type 0} (old new : List X) (item : X) (number : ℕ) → Keeps old new item number → (¬ (number < length old))
    → (¬ Contains old item) × (new ≡ old ++ item ∷ [])
kept_new old new item number kept above = elim kept.change [
  | inl same ↦ absurd (above (place_within old number item (subst (λ l. slice_get l number ≡ Some item) same.1 kept.here)))
  | inr more ↦ more
]

-- ---- traces

trace-grows : (old new : Kept) (origins : List Origin) (found : List (List Move)) → KeepsAll old new → Trace old origins found
    → Trace new origins found
trace-grows old new origins found keeps trace = record {
  first = trace.first;
  later = λ k origin at. let s = trace.later k origin at in (s.0, s.1, s.2, step-grows old new origin.last s.1 keeps s.3, s.4);
}

trace_new : (kept : Kept) (origins : List Origin) (found : List (List Move)) (next : ℕ) (p : List Move) (m : Move) (s : Step)
    → Trace kept origins found → slice_get found next ≡ Some p → length found ≡ length origins + 1
    → DescribesMove kept s m → Trace kept (origins ++ record { parent = next; last = s } ∷ []) (found ++ (p ++ m ∷ []) ∷ [])
trace_new kept origins found next p m s trace at counts is = record {
  first = still_there found ((p ++ m ∷ []) ∷ []) 0 [] trace.first;
  later = λ k origin here'. elim (push-cases origins (record { parent = next; last = s }) origin k here') [
    | inl old ↦
        let step = trace.later k origin old in (
          step.0,
          step.1,
          still_there found ((p ++ m ∷ []) ∷ []) origin.parent step.0 step.2,
          step.3,
          still_there found ((p ++ m ∷ []) ∷ []) (suc k) (step.0 ++ step.1 ∷ []) step.4,
        )
    | inr new ↦ newest k origin new.0 new.1
  ];
}
  where
    newest : (k : ℕ) (origin : Origin) → k ≡ length origins → record { parent = next; last = s } ≡ origin
        → (parent : List Move) × (n : Move) × (slice_get (found ++ (p ++ m ∷ []) ∷ []) origin.parent ≡ Some parent)
        × DescribesMove kept origin.last n × (slice_get (found ++ (p ++ m ∷ []) ∷ []) (suc k) ≡ Some (parent ++ n ∷ []))
    newest k origin place same =
        let number : length found ≡ suc k = omega (arith, counts, place) in
        subst (λ (o : Origin). (parent : List Move) × (n : Move) × (slice_get (found ++ (p ++ m ∷ []) ∷ []) o.parent ≡ Some parent)
        × DescribesMove kept o.last n
        × (slice_get (found ++ (p ++ m ∷ []) ∷ []) (suc k) ≡ Some (parent ++ n ∷ []))) same (
          p,
          m,
          still_there found ((p ++ m ∷ []) ∷ []) next p at,
          is,
          subst (λ (n : ℕ). slice_get (found ++ (p ++ m ∷ []) ∷ []) n ≡ Some (p ++ m ∷ [])) number (at_end found (p ++ m ∷ [])),
        )

earlier_new : (origins : List Origin) (next : ℕ) (s : Step) → AreEarlier origins → next ≤ length origins
    → AreEarlier (origins ++ record { parent = next; last = s } ∷ [])
earlier_new origins next s earlier below k origin here' = elim (push-cases origins (record { parent = next; last = s }) origin k here') [
  | inl old ↦ earlier k origin old
  | inr new ↦ subst (λ (o : Origin). o.parent ≤ k) new.1 (omega (arith, below, new.0))
]

module _ (task : Task) where
  abbrev pub goes : List Move → Node
  goes moves = node_of task moves

  -- ---- found lists and their nodes

  there_in : (found : List (List Move)) (k : ℕ) (p : List Move) → slice_get found k ≡ Some p → slice_get (map goes found) k ≡ Some (goes p)
  there_in [] k p e = absurd (cc)
  there_in (q ∷ found) zero p e = cc
  there_in (q ∷ found) (suc k) p e = there_in found k p e

  at_map : (found : List (List Move)) (k : ℕ) (node : Node) → slice_get (map goes found) k ≡ Some node
      → (p : List Move) × (slice_get found k ≡ Some p) × (goes p ≡ node)
  at_map [] k node e = absurd (cc)
  at_map (p ∷ found) zero node e = (p, refl, cc)
  at_map (p ∷ found) (suc k) node e = at_map found k node e

  from_map : (found : List (List Move)) (node : Node) → Contains (map goes found) node
      → (q : List Move) × Contains found q × (goes q ≡ node)
  from_map found node has =
      let k = place_of (map goes found) node has in let r = at_map found k.0 node k.1 in (r.0, contains_place found k.0 r.0 r.1, r.2)

  to_map : (found : List (List Move)) (q : List Move) → Contains found q → Contains (map goes found) (goes q)
  to_map found q has = let k = place_of found q has in contains_place (map goes found) k.0 (goes q) (there_in found k.0 q k.1)

  module _ (kept : Kept) (keys : List NodeKey) (origins : List Origin) (found : List (List Move))
      (n : AreNumbered task kept keys origins found) where
    pub key_is : (k : ℕ) (key : NodeKey) (p : List Move) → slice_get keys k ≡ Some key → slice_get found k ≡ Some p
        → IsKeyOf kept key (goes p)
    key_is k key p at_key at_p = n.stand.each k key (goes p) at_key (there_in found k p at_p)

    pub list_of : (k : ℕ) (key : NodeKey) → slice_get keys k ≡ Some key
        → (p : List Move) × (slice_get found k ≡ Some p) × IsKeyOf kept key (goes p)
    list_of k key at =
        let there = node_of_key kept keys (map goes found) k key n.stand at in
        let p = at_map found k there.0 there.1 in
        (p.0, p.1, key_is k key p.0 at p.1)

    pub counted : length found ≡ length keys
    counted = sym (length-map found goes) ∙ sym n.stand.count

  pub numbered-grows : (old new : Kept) (keys : List NodeKey) (origins : List Origin) (found : List (List Move)) → KeepsAll old new
      → AreNumbered task old keys origins found → AreNumbered task new keys origins found
  numbered-grows old new keys origins found keeps n = record {
    stand = all_stand-grows old new keys (map goes found) keeps n.stand;
    trace = trace-grows old new origins found keeps n.trace;
    earlier = n.earlier;
    one_more = n.one_more;
  }

  -- the entries on the stack of a node that moves reach are entries
  pub entries_at : (moves : List Move) → AreMoves task moves → All (IsEntry task.problem task.tables) (goes moves).stack
  entries_at moves can = stack_entries task task.initial [] moves (no_entries (IsEntry task.problem task.tables)) can

  pub list-made : (found : List (List Move)) (picked asked : List ℕ) → Searching task found picked asked → (k : ℕ) (p : List Move)
      → slice_get found k ≡ Some p → AreMoves task p
  list-made found picked asked s k p at =
      made (space_of task) (order_of task) s.known.0 found picked s.known.1 p (contains_place found k p at)

  -- ---- the start

  -- the initial node alone is found
  pub numbered-start : (kept : Kept) (key : NodeKey) → IsKeyOf kept key (initial_node task)
      → AreNumbered task kept (key ∷ []) [] ([] ∷ [])
  numbered-start kept key stands = record {
    stand = record { count = refl; each = λ k key' node' at at'. one k key' node' at at' };
    trace = record { first = refl; later = λ k origin at. absurd (nothing_at k origin at) };
    earlier = λ k origin at. absurd (nothing_at k origin at);
    one_more = refl;
  }
    where
      nothing_at : (k : ℕ) (origin : Origin) → ¬ (slice_get [] k ≡ Some origin)
      nothing_at k origin at = cc

      one : (k : ℕ) (key' : NodeKey) (node' : Node) → slice_get (key ∷ []) k ≡ Some key' → slice_get (initial_node task ∷ []) k ≡ Some node'
          → IsKeyOf kept key' node'
      one zero key' node' at at' =
          let same : key ≡ key' = cc in
          let same_node : initial_node task ≡ node' = cc in
          subst (λ (x : NodeKey). IsKeyOf kept x node') same (subst (λ (x : Node). IsKeyOf kept key x) same_node stands)
      one (suc k) key' node' at at' = absurd (cc)

  pub found-start : (kept : Kept) (key : NodeKey) → IsKeyOf kept key (initial_node task) → AreFoundBy task kept (key ∷ []) [] ([] ∷ [])
  found-start kept key stands = record { begins = ([], (0, (refl, refl))); numbered = numbered-start kept key stands }

  pub between-start : (kept : Kept) (key : NodeKey) (picker : Picker) → IsKeyOf kept key (initial_node task)
      → IsTriedAt task (initial_node task) Unanswered → 1 ≤ task.nodes → IsPickerOf task kept ([] ∷ []) [] picker
      → Between task kept (key ∷ []) [] picker []
  between-start kept key picker stands tried room picking = record {
    found = [] ∷ [];
    between = record {
      searching = record {
        known = (0, (refl, refl));
        room = room;
        unsolved = λ x has is_solved. tried.0 (subst (λ (y : List Move). IsSolved task (goes y)) (sym (only x has)) is_solved);
        tested = λ x has empty. subst (λ (y : List Move). IsBelowLimit task (goal_question task (goes y))) (only x has) (tried.1 refl);
        gone_through = λ k p question has. absurd (omega (arith, has.1));
      };
      done = tt;
    };
    numbered = numbered-start kept key stands;
    picking = picking;
  }
    where
      only : (x : List Move) → Contains ([] ∷ []) x → [] ≡ x
      only x (zero, h, e) = e
      only x (suc k, h, e) = absurd (omega (arith, h))

  -- ---- between nodes

  -- a place is picked
  pub going-start : (kept : Kept) (keys : List NodeKey) (origins : List Origin) (old new : Picker) (picked : List ℕ) (next : ℕ)
      → (b : Between task kept keys origins old picked) → IsNext (space_of task) (order_of task) b.found picked next
      → IsPickerOf task kept b.found (next ∷ picked) new → AtPick task kept keys origins new picked next
  going-start kept keys origins old new picked next b is_next picking =
      record { found = b.found; between = b.between; is_next = is_next; numbered = b.numbered; picking = picking }

  -- no move from it is made yet
  abbrev pub pick-going : {kept : Kept} {keys : List NodeKey} {origins : List Origin} {picker : Picker} {picked : List ℕ} {next : ℕ}
      → AtPick task kept keys origins picker picked next → Going task kept keys origins picker picked next []
  pick-going {kept} {keys} {origins} {picker} {picked} {next} a = record {
    found = a.found;
    making = making_start task a.found picked a.between next a.is_next;
    numbered = a.numbered;
    picking = a.picking;
  }

  -- no place is left
  pub going-exhausted : (kept : Kept) (keys : List NodeKey) (origins : List Origin) (picker : Picker) (picked : List ℕ)
      → (b : Between task kept keys origins picker picked)
      → ((k : ℕ) (moves : List Move) → slice_get b.found k ≡ Some moves → Contains picked k) → IsSpent task kept keys origins
  going-exhausted kept keys origins picker picked b all = (
    b.found,
    record { begins = (picked, b.between.searching.known); numbered = b.numbered },
    ends_over task b.found picked b.between all,
  )

  -- ---- at a node

  abbrev pub going-grows : {old new : Kept} {keys : List NodeKey} {origins : List Origin} {picker : Picker} {picked : List ℕ} {next : ℕ}
      {tried : List Move} → KeepsAll old new → Going task old keys origins picker picked next tried
      → Going task new keys origins picker picked next tried
  going-grows {old} {new} {keys} {origins} {picker} {picked} {next} {tried} keeps g = record {
    found = g.found;
    making = g.making;
    numbered = numbered-grows old new keys origins g.found keeps g.numbered;
    picking = picker-grows task old new g.found (next ∷ picked) picker keeps g.picking;
  }

  -- the node whose moves are to be made
  pub here_of : {kept : Kept} {keys : List NodeKey} {origins : List Origin} {picker : Picker} {picked : List ℕ} {next : ℕ}
      {tried : List Move} {key : NodeKey} → Going task kept keys origins picker picked next tried → slice_get keys next ≡ Some key
      → IsAskedAt task kept key
  here_of {kept} {keys} {origins} {picker} {picked} {next} {tried} {key} g at =
      let here = list_of kept keys origins g.found g.numbered next key at in
      let has = contains_place g.found next here.0 here.1 in
      record {
        node = goes here.0;
        stands = here.2;
        entries = entries_at here.0 (list-made g.found (next ∷ picked) picked g.making.searching next here.0 here.1);
        tried = (λ solved. g.making.searching.unsolved here.0 has solved, λ empty. g.making.searching.tested here.0 has empty);
      }

  pub trying-start : {old new : Kept} {keys : List NodeKey} {origins : List Origin} {picker : Picker} {picked : List ℕ} {next : ℕ}
      {key : NodeKey} (steps : List Step) (is_all : Bool) → KeepsAll old new → Going task old keys origins picker picked next []
      → slice_get keys next ≡ Some key → ((node : Node) → IsKeyOf old key node → AreFirstSuccessors task new node steps is_all)
      → Trying task new keys origins picker picked next steps is_all 0
  trying-start {old} {new} {keys} {origins} {picker} {picked} {next} {key} steps is_all keeps g at successors =
      let here = list_of old keys origins g.found g.numbered next key at in
      record {
        list = here.0;
        successors = successors (goes here.0) here.2;
        going = going-grows keeps g;
        list_at = here.1;
      }

  abbrev pub trying-grows : {old new : Kept} {keys : List NodeKey} {origins : List Origin} {picker : Picker} {picked : List ℕ} {next : ℕ}
      {steps : List Step} {is_all : Bool} {i : ℕ} → KeepsAll old new → Trying task old keys origins picker picked next steps is_all i
      → Trying task new keys origins picker picked next steps is_all i
  trying-grows {old} {new} {keys} {origins} {picker} {picked} {next} {steps} {is_all} {i} keeps t = record {
    list = t.list;
    successors =
        record {
          moves = t.successors.moves;
          are = t.successors.are;
          every = t.successors.every;
          steps_are = steps-grow old new steps t.successors.moves keeps t.successors.steps_are;
          unlimited = t.successors.unlimited;
        };
    going = going-grows keeps t.going;
    list_at = t.list_at;
  }

  -- the pair at the place is the node
  pub same_here : {kept : Kept} {keys : List NodeKey} {origins : List Origin} {picker : Picker} {picked : List ℕ} {next : ℕ}
      {steps : List Step} {is_all : Bool} {i : ℕ} {key : NodeKey} → (t : Trying task kept keys origins picker picked next steps is_all i)
      → slice_get keys next ≡ Some key → IsKeyOf kept key (goes t.list)
  same_here {kept} {keys} {origins} {picker} {picked} {next} {steps} {is_all} {i} {key} t at =
      key_is kept keys origins t.going.found t.going.numbered next key t.list at t.list_at

  -- the place is that of a node
  pub trying-within : {kept : Kept} {keys : List NodeKey} {origins : List Origin} {picker : Picker} {picked : List ℕ} {next : ℕ}
      {steps : List Step} {is_all : Bool} {i : ℕ} → Trying task kept keys origins picker picked next steps is_all i → next < length keys
  trying-within {kept} {keys} {origins} {picker} {picked} {next} {steps} {is_all} {i} t =
      omega (arith, counted kept keys origins t.going.found t.going.numbered, place_within t.going.found next t.list t.list_at)

  -- there is room for more, or as many as may be kept
  pub going-room : {kept : Kept} {keys : List NodeKey} {origins : List Origin} {picker : Picker} {picked : List ℕ} {next : ℕ}
      {tried : List Move} → Going task kept keys origins picker picked next tried → length keys ≤ task.nodes
  going-room {kept} {keys} {origins} {picker} {picked} {next} {tried} g =
      omega (arith, counted kept keys origins g.found g.numbered, g.making.searching.room)

  -- a question of the node that was picked meets the limit
  pub limit-here : {old new : Kept} {keys : List NodeKey} {origins : List Origin} {picker : Picker} {picked : List ℕ} {next : ℕ}
      {key : NodeKey} (limit : MetLimit) → KeepsAll old new → AtPick task old keys origins picker picked next
      → slice_get keys next ≡ Some key → ((node : Node) → IsKeyOf old key node → LimitsNode task node limit)
      → IsLimitedAt task new keys origins (record { key = key; met = limit })
  limit-here {old} {new} {keys} {origins} {picker} {picked} {next} {key} limit keeps a at limits =
      let here = list_of old keys origins a.found a.numbered next key at in
      let l = limits (goes here.0) here.2 in
      record {
        found = a.found;
        are = record {
          begins = (picked, a.between.searching.known);
          numbered = numbered-grows old new keys origins a.found keeps a.numbered;
        };
        first = first_here task a.found picked a.between next a.is_next here.0 here.1 limit l.asked l.met;
        stands = stands-grows old new key (goes here.0) keeps here.2;
      }

  pub going-next : {kept : Kept} {keys : List NodeKey} {origins : List Origin} {picker : Picker} {picked : List ℕ} {next : ℕ}
      {steps : List Step} {is_all : Bool} {i : ℕ} (t : Trying task kept keys origins picker picked next steps is_all i)
      → take i t.successors.moves ≡ t.successors.moves → is_all ≡ true → Between task kept keys origins picker (next ∷ picked)
  going-next {kept} {keys} {origins} {picker} {picked} {next} {steps} {is_all} {i} t whole all = record {
    found = t.going.found;
    between = between_next task t.going.found next picked t.list t.list_at t.successors.moves
        (subst (λ (l : List Move). IsMaking task t.going.found next picked l) whole t.going.making)
        (t.successors.every all) t.successors.unlimited;
    numbered = t.going.numbered;
    picking = t.going.picking;
  }

  -- ---- a move of the node

  module _ {kept : Kept} (once : AreEachOnce kept) {keys : List NodeKey} {origins : List Origin} {picker : Picker} {picked : List ℕ}
      {next : ℕ} {steps : List Step} {is_all : Bool} {i : ℕ} (s : Step)
      (t : Trying task kept keys origins picker picked next steps is_all i) {m : Move} (at_m : slice_get t.successors.moves i ≡ Some m)
      (step_is : DescribesMove kept s m) {there : NodeKey} (there_stands : IsKeyOf kept there (after task (goes t.list) m)) where
    abbrev pub g : Going task kept keys origins picker picked next (take i t.successors.moves)
    g = t.going

    abbrev pub next_node : Node
    next_node = after task (goes t.list) m

    abbrev pub more_moves : List Move
    more_moves = t.list ++ m ∷ []

    abbrev pub origin : Origin
    origin = record { parent = next; last = s }

    abbrev pub more_origins : List Origin
    more_origins = origins ++ origin ∷ []

    pub new_goes : goes more_moves ≡ next_node
    new_goes = node-push (space_of task) (order_of task) (initial_node task) t.list m

    new_stands : IsKeyOf kept there (goes more_moves)
    new_stands = subst (λ (x : Node). IsKeyOf kept there x) (sym new_goes) there_stands

    found_counts : length g.found ≡ length origins + 1
    found_counts = counted kept keys origins g.found g.numbered ∙ g.numbered.one_more

    key_within : next < length keys
    key_within = trying-within t

    -- the places that were picked are those of found lists
    pub picked-within : AreWithin g.found (next ∷ picked)
    picked-within =
        let known = g.making.searching.known in (behind (space_of task) (order_of task) known.0 g.found (next ∷ picked) known.1).within

    pub more_earlier : AreEarlier more_origins
    more_earlier = earlier_new origins next s g.numbered.earlier (omega (arith, key_within, g.numbered.one_more))

    more_trace : Trace kept more_origins (g.found ++ more_moves ∷ [])
    more_trace = trace_new kept origins g.found next t.list m s g.numbered.trace t.list_at found_counts step_is

    pub some_trace : (found : List (List Move)) × Trace kept more_origins found
    some_trace = (g.found ++ more_moves ∷ [], more_trace)

    -- the last of the traced lists is that of the new node
    last_traced : slice_get (g.found ++ more_moves ∷ []) (length more_origins) ≡ Some more_moves
    last_traced =
        let number : length g.found ≡ length more_origins = omega (arith, found_counts, length-append origins (origin ∷ [])) in
        subst (λ (n : ℕ). slice_get (g.found ++ more_moves ∷ []) n ≡ Some more_moves) number (at_end g.found more_moves)

    -- one more of the moves was made
    one_tried : (found : List (List Move)) → IsMaking task found next picked (take (suc i) t.successors.moves)
        → IsMaking task found next picked (take (i + 1) t.successors.moves)
    one_tried found making =
        let number : suc i ≡ i + 1 = omega arith in
        subst (λ (n : ℕ). IsMaking task found next picked (take n t.successors.moves)) number making

    pub trying-seen : Contains keys there → Trying task kept keys origins picker picked next steps is_all (i + 1)
    trying-seen has =
        let reached = from_map g.found next_node (seen kept keys (map goes g.found) there next_node g.numbered.stand there_stands has) in
        record {
          list = t.list;
          successors = t.successors;
          going = record {
            found = g.found;
            making = one_tried g.found (making_seen task g.found next picked t.list t.list_at t.successors.moves i m g.making at_m reached);
            numbered = g.numbered;
            picking = g.picking;
          };
          list_at = t.list_at;
        }

    -- the move goes on from the place
    pub onward : IsOnward task kept g.found origin there more_moves
    onward = record {
      parent = t.list;
      parent_at = t.list_at;
      m = m;
      step = step_is;
      moves_are = refl;
      stands = new_stands;
      entries = entries_at more_moves (made-push (space_of task) (order_of task) (initial_node task) t.list m
          (list-made g.found (next ∷ picked) picked g.making.searching next t.list t.list_at)
          (t.successors.are.allowed m (contains_place t.successors.moves i m at_m)));
    }

    pub numbered-more : AreNumbered task kept (keys ++ there ∷ []) more_origins (g.found ++ more_moves ∷ [])
    numbered-more = record {
      stand = subst (λ (l : List Node). AllStand kept (keys ++ there ∷ []) l) (sym (map-append goes g.found (more_moves ∷ [])))
          (all_stand-push kept keys (map goes g.found) there (goes more_moves) g.numbered.stand new_stands);
      trace = more_trace;
      earlier = more_earlier;
      one_more = omega (arith, g.numbered.one_more, length-append keys (there ∷ []), length-append origins (origin ∷ []));
    }

    module _ (fresh : ¬ Contains keys there) where
      is_new : IsNew (space_of task) (order_of task) g.found t.list m
      is_new = first_new task g.found next picked t.list t.list_at t.successors.moves t.successors.are i m g.making at_m
          (λ r. unseen kept once keys (map goes g.found) there next_node g.numbered.stand there_stands fresh
          (subst (λ (x : Node). Contains (map goes g.found) x) r.2 (to_map g.found r.0 r.1)))

      room_there : length keys < task.nodes → length g.found < task.nodes
      room_there room = omega (arith, counted kept keys origins g.found g.numbered, room)

      pub trying-new : (new : Picker) → length keys < task.nodes → IsTriedAt task next_node Unanswered
          → IsPickerOf task kept (g.found ++ more_moves ∷ []) (next ∷ picked) new
          → Trying task kept (keys ++ there ∷ []) more_origins new picked next steps is_all (i + 1)
      trying-new new room tried picking =
          let t_new = subst (λ (x : Node). IsTriedAt task x Unanswered) (sym new_goes) tried in
          record {
            list = t.list;
            successors = t.successors;
            going = record {
              found = g.found ++ more_moves ∷ [];
              making = one_tried (g.found ++ more_moves ∷ [])
                  (making_found task g.found next picked t.list t.list_at t.successors.moves i m g.making at_m
                  (searching_found task g.found next picked g.making.searching t.list t.list_at m is_new (room_there room) t_new.0
                  t_new.1));
              numbered = numbered-more;
              picking = picking;
            };
            list_at = still_there g.found (more_moves ∷ []) next t.list t.list_at;
          }

      comes_there : Comes (space_of task) (order_of task) (g.found ++ more_moves ∷ []) (next ∷ picked)
      comes_there = comes task g.found next picked g.making.searching t.list t.list_at m is_new

      pub found-more : AreFoundBy task kept (keys ++ there ∷ []) more_origins (g.found ++ more_moves ∷ [])
      found-more = record { begins = (next ∷ picked, comes_there); numbered = numbered-more }

      pub going-found : length keys < task.nodes → IsTriedAt task next_node Answered
          → IsReached task kept (keys ++ there ∷ []) more_origins
      going-found room tried =
          let t_new = subst (λ (x : Node). IsTriedAt task x Answered) (sym new_goes) tried in (
            g.found ++ more_moves ∷ [],
            found-more,
            ends_found task g.found next picked g.making.searching t.list t.list_at m is_new (room_there room) t_new.0
                t.successors.unlimited t_new.1,
          )

      pub going-limit : (limit : MetLimit) → length keys < task.nodes → IsTriedAt task next_node (Limited limit)
          → IsLimitedAt task kept (keys ++ there ∷ []) more_origins (record { key = there; met = limit })
      going-limit limit room tried =
          let t_new = subst (λ (x : Node). IsTriedAt task x (Limited limit)) (sym new_goes) tried in
          record {
            found = g.found ++ more_moves ∷ [];
            are = found-more;
            first = first_there task g.found next picked g.making.searching t.list t.list_at m is_new t.successors.unlimited
                (room_there room) t_new.0 limit t_new.1 t_new.2;
            stands = new_stands;
          }

      pub going-full : (count : ℕ) → task.nodes ≤ length keys
          → ((moves : List Move) × (count ≡ length moves)
          × ((found : List (List Move)) → Trace kept more_origins found → slice_get found (length more_origins) ≡ Some moves))
          → IsFull task kept (keys ++ there ∷ []) more_origins count
      going-full count enough (moves, count_is, traced) =
          let full : length g.found ≡ task.nodes =
          omega (arith, enough, counted kept keys origins g.found g.numbered, g.making.searching.room) in
          let same : more_moves ≡ moves =
          one_at (g.found ++ more_moves ∷ []) (length more_origins) more_moves moves last_traced
          (traced (g.found ++ more_moves ∷ []) more_trace) in
          subst (λ (n : ℕ). IsFull task kept (keys ++ there ∷ []) more_origins n) (ap length same ∙ sym count_is) (record {
            found = g.found;
            end = ends_full task g.found next picked g.making.searching t.list t.list_at m is_new full t.successors.unlimited;
            are = found-more;
          })
