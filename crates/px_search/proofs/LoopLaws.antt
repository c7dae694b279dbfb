-- What the search keeps at each turn, from what its calls say.
use Rattle.std.proofs.Common.{◌≡◌, ℕ, Bool, true, zero, suc, ◌+◌, ◌<◌, ◌≤◌, List, [], ◌∷◌, ◌++◌, map, take, length, refl, sym, ◌∙◌, ap, inl, subst, arith, Some, slice_get, Contains}
use Rattle.std.specs.Prelude.{All}
use Rattle.std.proofs.lemmas.List.{take_all, length-append, length-map, map-append}
use Rattle.px_table.specs.declared.entry.Move.{Move}
use Rattle.px_table.specs.declared.node.Node.{Node}
use Rattle.px_entries.specs.Entries.{IsEntry}
use Rattle.px_gaps.specs.declared.known.Tried.{Tried}
use Rattle.px_gaps.specs.declared.known.Tried.TheVariants.{Answered, Unanswered, Limited}
use Rattle.px_gaps.specs.declared.question.MetLimit.{MetLimit}
use Rattle.px_ops.specs.Keeping.{Keeps}
use Rattle.px_numbers.specs.declared.nodes.NodeKey.{NodeKey}
use Rattle.px_numbers.specs.Numbers.{Kept, AreEachOnce, IsKeyOf, KeepsAll, AllStand}
use Rattle.px_numbers.specs.NumberLaws.{one_list}
use Rattle.px_order.proofs.LawProofs.{one_stop}
use Rattle.px_order.specs.Ends as order_ends
use Rattle.px_order.specs.Places.{at_end, some-one}
use Rattle.px_ends.proofs.AtStart.{found_at_start}
use Rattle.px_ends.specs.ByValue.{IsFound, IsNodeLimit, aim_of, space_of}
use Rattle.px_ends.specs.Ends.{node_of}
use Rattle.px_ends.specs.Tasks.{Task, initial_node, IsSolved, after}
use Rattle.px_search.specs.declared.best_first.Explored.{Explored}
use Rattle.px_search.specs.declared.picker.Picker.{Picker}
use Rattle.px_search.specs.declared.stop.Limit.{Limit}
use Rattle.px_search.specs.declared.step.Step.{Step}
use Rattle.px_search.specs.declared.step.Origin.{Origin}
use Rattle.px_search.specs.Asking.{IsTriedAt}
use Rattle.px_search.specs.Looping.{AreFoundBy, Between, IsExploring, IsFull, IsLimitedAt, IsReached, IsUnexplored, Trying}
use Rattle.px_search.specs.Cache.{AreRight, HaveGrown}
use Rattle.px_search.specs.CurrentModels.{IsCurrent}
use Rattle.px_search.specs.Searching.{order_of}
use Rattle.px_search.specs.Picking.{AreWithin, IsOnward, IsPickerOf}
use Rattle.px_search.specs.Steps.{DescribesMove, AreStepsOf, AreEarlier, Trace}
use Rattle.px_search.proofs.GoingLaws.{counted, here_of, between-start, found-start, trying-grows, trying-seen, trying-new, going-found, going-limit, going-full, going-next, going-room, onward, same_here, kept_old, kept_new, more_earlier, picked-within, some_trace}
use Rattle.px_search.proofs.FirstLimits.{first_at_start}
use Rattle.px_search.proofs.ValueEndings.{linear}
use Rattle.px_search.proofs.CacheLaws.{right-grows}
use Rattle.px_search.proofs.CurrentLaws.{current-grows, current-start}
use Rattle.px_search.proofs.StepLaws.{step-grows, steps-count}

-- ---- the step at a place

pub step_move : (kept : Kept) (ss : List Step) (ms : List Move) (i : ℕ) (s : Step) → AreStepsOf kept ss ms → slice_get ss i ≡ Some s
    → (m : Move) × (slice_get ms i ≡ Some m) × DescribesMove kept s m
step_move kept [] [] i s are at = absurd (cc)
step_move kept [] (m ∷ ms) i s are at = absurd are
step_move kept (x ∷ ss) [] i s are at = absurd are
step_move kept (x ∷ ss) (m ∷ ms) zero s are at = let same : x ≡ s = cc in (m, refl, subst (λ (y : Step). DescribesMove kept y m) same are.0)
step_move kept (x ∷ ss) (m ∷ ms) (suc i) s are at = step_move kept ss ms i s are.1 at

take_prefix : {A : Type 0} (xs : List A) (x : A) (n : ℕ) → n ≡ length xs → take n (xs ++ x ∷ []) ≡ xs
take_prefix [] x n long = rw long refl
take_prefix (y ∷ xs) x n long = rw long (ap (λ t. y ∷ t) (take_prefix xs x (length xs) refl))

module _ (task : Task) where
  -- ---- what is kept

  -- what is kept stays right, whatever nodes there are
  pub exploring-grows : (old new : Explored) → HaveGrown task old.cache new.cache → old.current ≡ new.current → IsExploring task old
      → IsExploring task new
  exploring-grows old new grown same exploring = record {
    cache = grown.right;
    current = subst (IsCurrent task new.cache.numbers) same (current-grows task old.cache.numbers new.cache.numbers old.current grown.keeps
        exploring.current);
  }

  -- what is kept is right where no model was looked at yet
  pub exploring-start : (old new : Explored) → IsUnexplored task old → KeepsAll old.cache.numbers new.cache.numbers
      → record old.cache { numbers = new.cache.numbers } ≡ new.cache → old.current ≡ new.current → IsExploring task new
  exploring-start old new given keeps same_cache same_current = record {
    cache = subst (AreRight task) same_cache (right-grows task old.cache new.cache.numbers keeps given.cache);
    current = subst (IsCurrent task new.cache.numbers) same_current (current-start task new.cache.numbers old.current given.current);
  }

  -- ---- the start

  -- the pair is the initial node, and is alone
  pub start-alone : (kept : Kept) (key : NodeKey) (old keys : List NodeKey) (place : ℕ) → old ≡ [] → Keeps old keys key place
      → keys ≡ key ∷ []
  start-alone kept key old keys place none kept_key =
      (kept_new [] keys key place (subst (λ (l : List NodeKey). Keeps l keys key place) none kept_key) (λ h. omega (arith, h))).1

  pub start-are : (kept : Kept) (key : NodeKey) (keys : List NodeKey) (origins : List Origin) → IsKeyOf kept key (initial_node task)
      → keys ≡ key ∷ [] → origins ≡ [] → AreFoundBy task kept keys origins ([] ∷ [])
  start-are kept key keys origins stands one none =
      subst (λ (l : List NodeKey). AreFoundBy task kept l origins ([] ∷ [])) (sym one)
      (subst (λ (o : List Origin). AreFoundBy task kept (key ∷ []) o ([] ∷ [])) (sym none) (found-start task kept key stands))

  pub start-found : (kept : Kept) (key : NodeKey) (keys : List NodeKey) (origins : List Origin) (tried : Tried)
      → IsKeyOf kept key (initial_node task) → keys ≡ key ∷ [] → origins ≡ []
      → ((node : Node) → IsKeyOf kept key node → IsTriedAt task node tried) → tried ≡ Answered → 1 ≤ task.nodes
      → IsReached task kept keys origins
  start-found kept key keys origins tried stands one none says is room =
      let t : IsTriedAt task (initial_node task) Answered =
      subst (IsTriedAt task (initial_node task)) is (says (initial_node task) stands) in
      let end = found_at_start task task.problem.weight room t.0 t.1 in
      let same =
      (one_stop (space_of task) (aim_of task)).stop (order_of task) (linear task) [] end.earlier [] [] (start-stop t.0) end.stop in
      ([] ∷ [], start-are kept key keys origins stands one none, ([], end, ap (λ (l : List (List Move)). l ++ [] ∷ []) same.0))
    where
      start-stop : IsSolved task (initial_node task) → order_ends.IsStop (space_of task) (order_of task) (aim_of task) [] []
      start-stop solved = record {
        begins = ([], (0, (refl, refl)));
        unsolved = λ moves has. absurd (omega (arith, has.1));
        room = omega arith;
        stops = inl solved;
      }

  pub start-limit : (kept : Kept) (key : NodeKey) (keys : List NodeKey) (origins : List Origin) (tried : Tried) (limit : MetLimit)
      → IsKeyOf kept key (initial_node task) → keys ≡ key ∷ [] → origins ≡ []
      → ((node : Node) → IsKeyOf kept key node → IsTriedAt task node tried) → tried ≡ Limited limit → 1 ≤ task.nodes
      → IsLimitedAt task kept keys origins (record { key = key; met = limit })
  start-limit kept key keys origins tried limit stands one none says is room =
      let t : IsTriedAt task (initial_node task) (Limited limit) =
      subst (IsTriedAt task (initial_node task)) is (says (initial_node task) stands) in
      record {
        found = [] ∷ [];
        are = start-are kept key keys origins stands one none;
        first = first_at_start task room limit t.1 t.2;
        stands = stands;
      }

  pub start-from : (kept : Kept) (key : NodeKey) (keys : List NodeKey) (origins : List Origin) (picker : Picker)
      → IsKeyOf kept key (initial_node task) → IsTriedAt task (initial_node task) Unanswered → 1 ≤ task.nodes
      → keys ≡ key ∷ [] → origins ≡ [] → IsPickerOf task kept ([] ∷ []) [] picker → Between task kept keys origins picker []
  start-from kept key keys origins picker stands tried room one none picking =
      subst (λ (l : List NodeKey). Between task kept l origins picker []) (sym one)
      (subst (λ (o : List Origin). Between task kept (key ∷ []) o picker []) (sym none)
      (between-start task kept key picker stands tried room picking))

  -- ---- a move of it

  -- the next move was made, and the pair is the node that it leads to
  pub record Stepped (kept : Kept) (keys : List NodeKey) (origins : List Origin) (picker : Picker) (picked : List ℕ) (next : ℕ)
      (steps : List Step) (is_all : Bool) (i : ℕ) (s : Step) (there : NodeKey) : Type 0 where
    pub t : Trying task kept keys origins picker picked next steps is_all i
    pub m : Move
    pub at_m : slice_get t.successors.moves i ≡ Some m
    pub step_is : DescribesMove kept s m
    pub stands : IsKeyOf kept there (after task (node_of task t.list) m)

  pub step_on : {old new : Kept} {keys : List NodeKey} {origins : List Origin} {picker : Picker} {picked : List ℕ} {next : ℕ}
      {steps : List Step} {is_all : Bool} {i : ℕ} {key there : NodeKey} (s : Step)
      → Trying task old keys origins picker picked next steps is_all i → slice_get keys next ≡ Some key → KeepsAll old new
      → ((node : Node) (m : Move) → IsKeyOf old key node → DescribesMove old s m → IsKeyOf new there (after task node m))
      → slice_get steps i ≡ Some s → Stepped new keys origins picker picked next steps is_all i s there
  step_on {old} {new} {keys} {origins} {picker} {picked} {next} {steps} {is_all} {i} {key} {there} s t at keeps makes step_at' =
      let r = step_move old steps t.successors.moves i s t.successors.steps_are step_at' in
      record {
        t = trying-grows task keeps t;
        m = r.0;
        at_m = r.1;
        step_is = step-grows old new s r.0 keeps r.2;
        stands = makes (node_of task t.list) r.0 (same_here task t at) r.2;
      }

  pub asks_step : {kept : Kept} {keys : List NodeKey} {origins : List Origin} {picker : Picker} {picked : List ℕ} {next : ℕ}
      {steps : List Step} {is_all : Bool} {i : ℕ} {key : NodeKey} → Trying task kept keys origins picker picked next steps is_all i
      → slice_get keys next ≡ Some key
      → (node : Node) × IsKeyOf kept key node × All (IsEntry task.problem task.tables) node.stack
  asks_step {kept} {keys} {origins} {picker} {picked} {next} {steps} {is_all} {i} {key} t at =
      let h = here_of task t.going at in (h.node, h.stands, h.entries)

  module _ {kept : Kept} (once : AreEachOnce kept) {keys new : List NodeKey} {origins : List Origin} {picker : Picker} {picked : List ℕ}
      {next : ℕ} {steps : List Step} {is_all : Bool} {i : ℕ} {s : Step} {there : NodeKey} {place : ℕ}
      (st : Stepped kept keys origins picker picked next steps is_all i s there) (kept_key : Keeps keys new there place) where
    abbrev origin : Origin
    origin = record { parent = next; last = s }

    pub step-seen : place < length keys → Trying task kept new origins picker picked next steps is_all (i + 1)
    step-seen below =
        let old = kept_old keys new there place kept_key below in
        subst (λ (l : List NodeKey). Trying task kept l origins picker picked next steps is_all (i + 1)) (sym old.1)
        (trying-seen task once s st.t st.at_m st.step_is st.stands old.0)

    pub step-earlier : (made : List Origin) → made ≡ origins ++ origin ∷ [] → AreEarlier made
    step-earlier made is = subst AreEarlier (sym is) (more_earlier task once s st.t st.at_m st.step_is st.stands)

    pub step-trace : (made : List Origin) → made ≡ origins ++ origin ∷ [] → (found : List (List Move)) × Trace kept made found
    step-trace made is =
        subst (λ (l : List Origin). (found : List (List Move)) × Trace kept l found) (sym is)
        (some_trace task once s st.t st.at_m st.step_is st.stands)

    abbrev pub there_stands : (node : Node) × IsKeyOf kept there node
    there_stands = (after task (node_of task st.t.list) st.m, st.stands)

    -- the moves to the new node
    abbrev pub step-moves : List Move
    step-moves = st.t.list ++ st.m ∷ []

    pub step-onward : IsOnward task kept st.t.going.found origin there step-moves
    step-onward = onward task once s st.t st.at_m st.step_is st.stands

    pub step-within : AreWithin st.t.going.found (next ∷ picked)
    step-within = picked-within task once s st.t st.at_m st.step_is st.stands

    module _ (above : ¬ (place < length keys)) where
      fresh : (¬ Contains keys there) × (new ≡ keys ++ there ∷ [])
      fresh = kept_new keys new there place kept_key above

      pub step-few : length keys ≤ task.nodes
      step-few = going-room task st.t.going

      pub step-new : (made : List Origin) (tried : Tried) (later : Picker) → made ≡ origins ++ origin ∷ []
          → length keys < task.nodes → ((node : Node) → IsKeyOf kept there node → IsTriedAt task node tried) → tried ≡ Unanswered
          → IsPickerOf task kept (st.t.going.found ++ step-moves ∷ []) (next ∷ picked) later
          → Trying task kept new made later picked next steps is_all (i + 1)
      step-new made tried later is room says same picking =
          let t = subst (IsTriedAt task there_stands.0) same (says there_stands.0 st.stands) in
          subst (λ (l : List NodeKey). Trying task kept l made later picked next steps is_all (i + 1)) (sym fresh.1)
          (subst (λ (l : List Origin). Trying task kept (keys ++ there ∷ []) l later picked next steps is_all (i + 1)) (sym is)
          (trying-new task once s st.t st.at_m st.step_is st.stands fresh.0 later room t picking))

      pub step-reached : (made : List Origin) (tried : Tried) → made ≡ origins ++ origin ∷ [] → length keys < task.nodes
          → ((node : Node) → IsKeyOf kept there node → IsTriedAt task node tried) → tried ≡ Answered → IsReached task kept new made
      step-reached made tried is room says same =
          let t = subst (IsTriedAt task there_stands.0) same (says there_stands.0 st.stands) in
          subst (λ (l : List NodeKey). IsReached task kept l made) (sym fresh.1)
          (subst (λ (l : List Origin). IsReached task kept (keys ++ there ∷ []) l) (sym is)
          (going-found task once s st.t st.at_m st.step_is st.stands fresh.0 room t))

      -- there are fewer origins than numbers of 32 bits
      pub step-origins : (made : List Origin) → made ≡ origins ++ origin ∷ [] → length made ≤ task.nodes
      step-origins made is = omega (arith, step-few, st.t.going.numbered.one_more, ap length is, length-append origins (origin ∷ []))

      pub step-limit : (made : List Origin) (tried : Tried) (limit : MetLimit) → made ≡ origins ++ origin ∷ []
          → length keys < task.nodes → ((node : Node) → IsKeyOf kept there node → IsTriedAt task node tried) → tried ≡ Limited limit
          → IsLimitedAt task kept new made (record { key = there; met = limit })
      step-limit made tried limit is room says same =
          let t = subst (IsTriedAt task there_stands.0) same (says there_stands.0 st.stands) in
          let here : Limit = record { key = there; met = limit } in
          subst (λ (l : List NodeKey). IsLimitedAt task kept l made here) (sym fresh.1)
          (subst (λ (l : List Origin). IsLimitedAt task kept (keys ++ there ∷ []) l here) (sym is)
          (going-limit task once s st.t st.at_m st.step_is st.stands fresh.0 limit room t))

      pub step-full : (made : List Origin) (count : ℕ) → made ≡ origins ++ origin ∷ [] → task.nodes ≤ length keys
          → ((moves : List Move) × (count ≡ length moves)
          × ((found : List (List Move)) → Trace kept made found → slice_get found (length made) ≡ Some moves))
          → IsFull task kept new made count
      step-full made count is enough traced =
          subst (λ (l : List NodeKey). IsFull task kept l made count) (sym fresh.1)
          (subst (λ (l : List Origin). IsFull task kept (keys ++ there ∷ []) l count) (sym is)
          (going-full task once s st.t st.at_m st.step_is st.stands fresh.0 count enough
          (subst (λ (l : List Origin). (moves : List Move) × (count ≡ length moves)
          × ((found : List (List Move)) → Trace kept l found → slice_get found (length l) ≡ Some moves)) is traced)))

  -- ---- the end

  -- the last of the found lists is the one that is traced
  pub reached-moves : (kept : Kept) (keys : List NodeKey) (origins : List Origin) (moves : List Move) → IsReached task kept keys origins
      → ((found : List (List Move)) → Trace kept origins found → slice_get found (length origins) ≡ Some moves)
      → IsFound task task.problem.weight moves
  reached-moves kept keys origins moves (found, are, (last, end, is)) traced =
      let number : length end.earlier ≡ length origins =
      omega (
        arith,
        counted task kept keys origins found are.numbered,
        are.numbered.one_more,
        ap length is,
        length-append end.earlier
            (last ∷ []),
      ) in
      let at_last : slice_get found (length origins) ≡ Some last =
      subst (λ (n : ℕ). slice_get found n ≡ Some last) number
      (subst (λ (l : List (List Move)). slice_get l (length end.earlier) ≡ Some last) (sym is) (at_end end.earlier last)) in
      subst (IsFound task task.problem.weight)
      (some-one last moves (sym at_last ∙ traced found are.numbered.trace)) end

  module _ (kept : Kept) (keys : List NodeKey) (origins : List Origin) (moves : ℕ) (full : IsFull task kept keys origins moves) where
    abbrev all_lists : List (List Move)
    all_lists = full.found ++ full.end.last ∷ []

    pub full-count : task.nodes ≤ length keys
    full-count =
        omega (
          arith,
          full.end.full,
          counted task kept keys origins all_lists full.are.numbered,
          length-append full.found (full.end.last ∷ []),
        )

    pub full-stand : (nodes : List Node) × AllStand kept keys nodes
    full-stand = (map (node_of task) all_lists, full.are.numbered.stand)

    pub full-limit : (nodes : List Node) → AllStand kept keys nodes
        → IsNodeLimit task task.problem.weight (take task.nodes nodes) moves
    full-limit nodes stand = record {
      earlier = full.found;
      limit = full.end;
      nodes_are =
          ap (λ (l : List Node). take task.nodes l)
          (one_list kept keys nodes (map (node_of task) all_lists) stand full.are.numbered.stand
          ∙ map-append (node_of task) full.found (full.end.last ∷ []))
          ∙ take_prefix (map (node_of task) full.found) (node_of task full.end.last) task.nodes
          (sym full.end.full ∙ sym (length-map full.found (node_of task)));
    }

  pub node-done : {kept : Kept} {keys : List NodeKey} {origins : List Origin} {picker : Picker} {picked : List ℕ} {next : ℕ}
      {steps : List Step} {is_all : Bool} {i : ℕ} → Trying task kept keys origins picker picked next steps is_all i → length steps ≤ i
      → is_all ≡ true → Between task kept keys origins picker (next ∷ picked)
  node-done {kept} {keys} {origins} {picker} {picked} {next} {steps} {is_all} {i} t all is =
      going-next task t
      (take_all i t.successors.moves (omega (arith, all, steps-count kept steps t.successors.moves t.successors.steps_are))) is
