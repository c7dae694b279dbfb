-- What the picker keeps: it stays right where more gets numbers, and where nodes are put behind the others.
use Rattle.std.proofs.Common.{◌≡◌, ◌+◌, ◌*◌, ◌<◌, ◌⊎◌, ℕ, zero, suc, List, [], ◌∷◌, ◌++◌, length, sym, ◌∙◌, ap, subst, inl, inr, arith, Some, slice_get, length-append}
use Rattle.std.specs.Prelude.{All, IsPermutation}
use Rattle.std.proofs.lemmas.List.Elements.{All-head}
use Rattle.std.proofs.lemmas.List.Sums.{sum_by-cons}
use Rattle.px_terms.specs.declared.atom.Atom.{Atom}
use Rattle.px_table.specs.declared.entry.Move.{Move}
use Rattle.px_table.specs.declared.entry.Move.TheVariants as move
use Rattle.px_table.specs.declared.node.Node.{Node}
use Rattle.px_entries.specs.Entries.{IsEntry}
use Rattle.px_order.proofs.LawProofs.{agenda_goes_on}
use Rattle.px_order.specs.Agendas.{Rank, rank_of}
use Rattle.px_order.specs.Places.{place-within-list, push-cases, some-one}
use Rattle.px_order.specs.RunLaws.{node-push}
use Rattle.px_numbers.specs.declared.nodes.NodeKey.{NodeKey}
use Rattle.px_numbers.specs.Numbers.{Kept, IsKeyOf, KeepsAll}
use Rattle.px_numbers.specs.NumberLaws.{model_at-grows, one_at, one_model}
use Rattle.px_ends.specs.ByValue.{space_of}
use Rattle.px_ends.specs.Ends.{node_of}
use Rattle.px_ends.specs.Lacks.{lacks, needs}
use Rattle.px_ends.specs.Tasks.{Task, after, initial_node}
use Rattle.px_search.specs.declared.estimates.Estimates.{Estimates}
use Rattle.px_search.specs.declared.picker.Picker.{Picker}
use Rattle.px_search.specs.declared.picker.Picker.TheVariants.{InOrder, ByValue}
use Rattle.px_search.specs.declared.picker.Ranking.{Ranking}
use Rattle.px_search.specs.declared.picker.Reckoned.{Reckoned}
use Rattle.px_search.specs.declared.step.Origin.{Origin}
use Rattle.px_search.specs.declared.step.Step.{Step}
use Rattle.px_search.specs.declared.step.Step.TheVariants as step
use Rattle.px_search.specs.Estimating.{AreCounted, IsCountAt, IsGoalCountAt}
use Rattle.px_search.specs.Cache.{IsEntryAt}
use Rattle.px_search.specs.Picking.{AreWithin, IsOnward, IsPickerOf, IsPut, IsRanking}
use Rattle.px_search.specs.Searching.{order_of}
use Rattle.px_search.specs.Steps.{DescribesMove}
use Rattle.px_search.proofs.Pairs.{each-grows}

module _ (task : Task) where
  -- ---- more gets numbers

  pub counted-grows : (old new : Kept) (estimates : Estimates) → KeepsAll old new → AreCounted task old estimates
      → AreCounted task new estimates
  counted-grows old new estimates keeps counted = record {
    entries = each-grows (IsCountAt task old) (IsCountAt task new) estimates.entries.entries
        (λ place count c. (c.0, c.1, model_at-grows old new place.model c.0 keeps c.2, keeps.entries place.entry c.1 c.3, c.4))
        counted.entries;
    goals = each-grows (IsGoalCountAt task old) (IsGoalCountAt task new) estimates.goals.entries
        (λ number count c. (c.0, model_at-grows old new number c.0 keeps c.1, c.2)) counted.goals;
  }

  pub picker-grows : (old new : Kept) (found : List (List Move)) (picked : List ℕ) (picker : Picker) → KeepsAll old new
      → IsPickerOf task old found picked picker → IsPickerOf task new found picked picker
  picker-grows old new found picked (InOrder next) keeps is = is
  picker-grows old new found picked (ByValue ranking) keeps is = record {
    agenda = is.agenda;
    count = is.count;
    lacking = is.lacking;
    long = is.long;
    estimates = counted-grows old new ranking.estimates keeps is.estimates;
  }

  -- ---- one node more

  same_value : (node : Reckoned) (moves : List Move) → node.needs ≡ needs task (node_of task moves) → node.moves ≡ length moves
      → node.moves + task.problem.weight * node.needs ≡ length moves + task.problem.weight * needs task (node_of task moves)
  same_value node moves needs_is long_is =
      ap (λ (n : ℕ). n + task.problem.weight * node.needs) long_is
      ∙ ap (λ (n : ℕ). length moves + task.problem.weight * n) needs_is

  pub ranking-first : (kept : Kept) (node : Reckoned) (old new : Ranking) → old.agenda ≡ [] → old.reckoned.items ≡ []
      → IsPut task.problem.weight node old new → node.needs ≡ needs task (initial_node task) → node.moves ≡ 0
      → AreCounted task kept old.estimates → IsRanking task kept ([] ∷ []) [] new
  ranking-first kept node old new none_open none_reckoned put needs_is long_is counted =
      let one : new.reckoned.items ≡ node ∷ [] = put.reckoned ∙ ap (λ (l : List Reckoned). l ++ node ∷ []) none_reckoned in
      let taken : IsPermutation (rank_of (node.moves + task.problem.weight * node.needs) 0 ∷ []) new.agenda =
      subst (λ (l : List Rank). IsPermutation (rank_of (node.moves + task.problem.weight * node.needs) 0 ∷ l) new.agenda) none_open
      (subst (λ (l : List Reckoned). IsPermutation (rank_of (node.moves + task.problem.weight * node.needs) (length l) ∷ old.agenda)
      new.agenda) none_reckoned put.agenda) in
      record {
        agenda = (agenda_goes_on (space_of task)).first (order_of task) new.agenda
            (subst (λ (n : ℕ). IsPermutation (rank_of n 0 ∷ []) new.agenda) (same_value node [] needs_is long_is) taken);
        count = ap length one;
        lacking = λ k r moves at_k at. first k r moves (ap (λ (l : List Reckoned). slice_get l k) (sym one) ∙ at_k) at
            (λ n l. n.needs ≡ needs task (node_of task l)) needs_is;
        long = λ k r moves at_k at. first k r moves (ap (λ (l : List Reckoned). slice_get l k) (sym one) ∙ at_k) at
            (λ n l. n.moves ≡ length l) long_is;
        estimates = subst (AreCounted task kept) (sym put.estimates) counted;
      }
    where
      first : (k : ℕ) (r : Reckoned) (moves : List Move) → slice_get (node ∷ []) k ≡ Some r → slice_get ([] ∷ []) k ≡ Some moves
          → (P : Reckoned → List Move → Type 0) → P node [] → P r moves
      first zero r moves at_r at P p =
          subst (λ (x : Reckoned). P x moves) (some-one node r at_r) (subst (λ (x : List Move). P node x) (some-one [] moves at) p)
      first (suc k) r moves at_r at P p = absurd (cc)

  module _ (kept : Kept) (found : List (List Move)) (picked : List ℕ) (node : Reckoned) (moves : List Move) (old new : Ranking)
      (ranking : IsRanking task kept found picked old) (put : IsPut task.problem.weight node old new)
      (needs_is : node.needs ≡ needs task (node_of task moves)) (long_is : node.moves ≡ length moves) where
    -- what is true of each found node and of the new one is true of all
    each-more : (P : Reckoned → List Move → Type 0)
        → ((k : ℕ) (r : Reckoned) (l : List Move) → slice_get old.reckoned.items k ≡ Some r → slice_get found k ≡ Some l → P r l)
        → P node moves → (k : ℕ) (r : Reckoned) (l : List Move) → slice_get new.reckoned.items k ≡ Some r
        → slice_get (found ++ moves ∷ []) k ≡ Some l → P r l
    each-more P all last k r l at_r at_l =
        by (push-cases old.reckoned.items node r k (ap (λ (x : List Reckoned). slice_get x k) (sym put.reckoned) ∙ at_r))
        (push-cases found moves l k at_l)
      where
        by : (slice_get old.reckoned.items k ≡ Some r) ⊎ ((k ≡ length old.reckoned.items) × (node ≡ r))
            → (slice_get found k ≡ Some l) ⊎ ((k ≡ length found) × (moves ≡ l)) → P r l
        by (inl a) (inl b) = all k r l a b
        by (inl a) (inr b) = absurd (omega (arith, b.0, ranking.count, place-within-list old.reckoned.items k r a))
        by (inr a) (inl b) = absurd (omega (arith, a.0, ranking.count, place-within-list found k l b))
        by (inr a) (inr b) = subst (λ (x : Reckoned). P x l) a.1 (subst (λ (x : List Move). P node x) b.1 last)

    pub ranking-more : AreWithin found picked → IsRanking task kept (found ++ moves ∷ []) picked new
    ranking-more within = record {
      agenda = (agenda_goes_on (space_of task)).finds (order_of task) found picked old.agenda new.agenda moves within ranking.agenda
          (subst (λ (n : ℕ). IsPermutation (rank_of n (length found) ∷ old.agenda) new.agenda) (same_value node moves needs_is long_is)
          (subst (λ (n : ℕ). IsPermutation (rank_of (node.moves + task.problem.weight * node.needs) n ∷ old.agenda) new.agenda)
          ranking.count put.agenda));
      count =
          omega (
            arith,
            ap length put.reckoned,
            length-append old.reckoned.items (node ∷ []),
            length-append found (moves ∷ []),
            ranking.count,
          );
      lacking = each-more (λ r l. r.needs ≡ needs task (node_of task l)) ranking.lacking needs_is;
      long = each-more (λ r l. r.moves ≡ length l) ranking.long long_is;
      estimates = subst (AreCounted task kept) (sym put.estimates) ranking.estimates;
    }

  -- ---- the node that goes on from another

  pub onward-node : (kept : Kept) (found : List (List Move)) (origin : Origin) (there : NodeKey) (moves : List Move)
      → (onward : IsOnward task kept found origin there moves) → node_of task moves ≡ after task (node_of task onward.parent) onward.m
  onward-node kept found origin there moves onward =
      ap (node_of task) onward.moves_are ∙ node-push (space_of task) (order_of task) (initial_node task) onward.parent onward.m

  pub ranking-onward : (kept : Kept) (found : List (List Move)) (picked : List ℕ) (origin : Origin) (there : NodeKey) (moves : List Move)
      (old new : Ranking) (estimates : Estimates) (one : Reckoned) (lacking count : ℕ) → IsRanking task kept found picked old
      → IsOnward task kept found origin there moves → AreWithin found picked → slice_get old.reckoned.items origin.parent ≡ Some one
      → ((node : Node) (m : Move) → one.needs ≡ needs task node → DescribesMove kept origin.last m → IsKeyOf kept there (after task node m)
      → lacking ≡ needs task (after task node m))
      → count ≡ one.moves + 1 → AreCounted task kept estimates
      → IsPut task.problem.weight (record { needs = lacking; moves = count }) (record old { estimates = estimates }) new
      → IsRanking task kept (found ++ moves ∷ []) picked new
  ranking-onward kept found picked origin there moves old new estimates one lacking count ranking onward within at_one says count_is counted
      put =
      let node = onward-node kept found origin there moves onward in
      ranking-more kept found picked (record { needs = lacking; moves = count }) moves (record old { estimates = estimates }) new
      (record {
        agenda = ranking.agenda;
        count = ranking.count;
        lacking = ranking.lacking;
        long = ranking.long;
        estimates = counted;
      }) put
      (says (node_of task onward.parent) onward.m (ranking.lacking origin.parent one onward.parent at_one onward.parent_at) onward.step
      (subst (IsKeyOf kept there) node onward.stands) ∙ ap (needs task) (sym node))
      (omega (
        arith,
        count_is,
        ranking.long origin.parent one onward.parent at_one onward.parent_at,
        ap length onward.moves_are,
        length-append onward.parent (onward.m ∷ []),
      )) within

  -- the pair that the node after is
  pub onward-stands : (kept : Kept) (found : List (List Move)) (origin : Origin) (there : NodeKey) (moves : List Move)
      → (onward : IsOnward task kept found origin there moves) → IsKeyOf kept there (after task (node_of task onward.parent) onward.m)
  onward-stands kept found origin there moves onward =
      subst (IsKeyOf kept there) (onward-node kept found origin there moves onward) onward.stands

  pub onward-entries : (kept : Kept) (found : List (List Move)) (origin : Origin) (there : NodeKey) (moves : List Move)
      → (onward : IsOnward task kept found origin there moves)
      → All (IsEntry task.problem task.tables) (after task (node_of task onward.parent) onward.m).stack
  onward-entries kept found origin there moves onward =
      subst (λ (x : Node). All (IsEntry task.problem task.tables) x.stack) (onward-node kept found origin there moves onward) onward.entries

  pub onward-within : (kept : Kept) (found : List (List Move)) (picked : List ℕ) (origin : Origin) (there : NodeKey) (moves : List Move)
      (ranking : Ranking) → IsRanking task kept found picked ranking → IsOnward task kept found origin there moves
      → origin.parent < length ranking.reckoned.items
  onward-within kept found picked origin there moves ranking is onward =
      omega (arith, is.count, place-within-list found origin.parent onward.parent onward.parent_at)

  -- ---- the node after a push

  pub pushed_entry : (kept : Kept) (last : Step) (number : ℕ) (there : NodeKey) (node : Node) (m : Move) → last ≡ step.Push number
      → DescribesMove kept last m → IsKeyOf kept there (after task node m)
      → All (IsEntry task.problem task.tables) (after task node m).stack
      → IsEntryAt task kept (record { model = there.model; entry = number })
  pushed_entry kept last number there node m is describes stands entries =
      by m (subst (λ (s : Step). DescribesMove kept s m) is describes) stands entries
    where
      by : (m : Move) → DescribesMove kept (step.Push number) m → IsKeyOf kept there (after task node m)
          → All (IsEntry task.problem task.tables) (after task node m).stack
          → IsEntryAt task kept (record { model = there.model; entry = number })
      by move.Apply wrong stands entries = absurd wrong
      by (move.Push e) at stands entries =
          (node.model, e, stands.model, at, All-head (IsEntry task.problem task.tables) e node.stack entries)

  pub pushed_needs : (kept : Kept) (last : Step) (number : ℕ) (there : NodeKey) (before more all : ℕ) (node : Node) (m : Move)
      → last ≡ step.Push number → IsCountAt task kept (record { model = there.model; entry = number }) more → all ≡ before + more
      → before ≡ needs task node → DescribesMove kept last m → IsKeyOf kept there (after task node m)
      → all ≡ needs task (after task node m)
  pushed_needs kept last number there before more all node m is (model, entry, model_at, entry_at, more_is) all_is before_is describes
      stands =
      by m (subst (λ (s : Step). DescribesMove kept s m) is describes) stands
    where
      by : (m : Move) → DescribesMove kept (step.Push number) m → IsKeyOf kept there (after task node m)
          → all ≡ needs task (after task node m)
      by move.Apply wrong stands = absurd wrong
      by (move.Push e) at stands =
          let same_model : model ≡ node.model = one_model kept there.model model node.model model_at stands.model in
          let same_entry : entry ≡ e = one_at kept.entries number entry e entry_at at in
          let more_here : more ≡ lacks task node.model e =
          more_is ∙ ap (λ (l : List Atom). lacks task l entry) same_model ∙ ap (lacks task node.model) same_entry in
          omega (arith, all_is, before_is, more_here, sum_by-cons (lacks task node.model) e node.stack)
