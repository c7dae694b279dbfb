-- From what is known of a node's needs to its moves by numbers.
use Rattle.std.proofs.Common.{◌≡◌, ◌≢◌, ◌↔◌, ◌⊎◌, ℕ, Bool, true, ◌<◌, List, [], ◌∷◌, length, map, take, refl, sym, ◌∙◌, ap, subst, Some, slice_get}
use Rattle.std.specs.Prelude.{Contains, All, None, Result, Ok, Err}
use Rattle.std.specs.List.Sorted.{IsStrictlySortedBy}
use Rattle.std.specs.declared.cmp.Ordering.TheVariants.{Less}
use Rattle.std.proofs.lemmas.List.Elements.{All-head}
use Rattle.px_terms.specs.declared.atom.Atom.{Atom}
use Rattle.px_table.specs.declared.entry.Entry.{Entry}
use Rattle.px_table.specs.declared.entry.Move.{Move}
use Rattle.px_table.specs.declared.entry.Move.TheVariants as move
use Rattle.px_table.specs.declared.node.Node.{Node}
use Rattle.px_table.specs.EntryOrder.{order_of_entries}
use Rattle.px_entries.specs.Entries.{IsEntry, obligations_of}
use Rattle.px_gaps.specs.Needs.{HasAnswer}
use Rattle.px_diff.specs.Outcomes.{AtStop, IfStopped}
use Rattle.px_diff.specs.Pushes.{IsPushable, IsRelevant}
use Rattle.px_gaps.specs.Questions.{AreUnlimited}
use Rattle.px_diff.specs.declared.move_err.MoveErr.{MoveErr}
use Rattle.px_diff.specs.declared.move_err.MoveErr.TheVariants.{ShapeLimit, NoMemory}
use Rattle.px_gaps.specs.declared.question.MetLimit.{MetLimit}
use Rattle.px_gaps.specs.declared.known.Known.{Known}
use Rattle.px_gaps.specs.declared.known.Known.TheVariants.{Applicable, Closed}
use Rattle.px_gaps.specs.declared.known.Tried.TheVariants.{Unanswered}
use Rattle.px_gaps.specs.Known.{IsKnownOf, IsOpenWith}
use Rattle.px_numbers.specs.declared.nodes.NodeKey.{NodeKey}
use Rattle.px_numbers.specs.declared.stacks.Frame.{Frame}
use Rattle.px_numbers.specs.Numbers.{Kept, IsKeyOf, IsModelAt, IsStackAt, IsTopOf, KeepsAll}
use Rattle.px_numbers.specs.NumberLaws.{one_at, one_model, one_stack, model_at-grows, stack_at-grows}
use Rattle.px_ops.specs.KeepLaws.{place_within}
use Rattle.px_ends.specs.Tasks.{Task, needs_at, needs_with, goal_from}
use Rattle.px_search.specs.declared.cache.EntryPlace.{EntryPlace}
use Rattle.px_search.specs.declared.cache.Offer.{Offer}
use Rattle.px_search.specs.declared.step.Step.{Step}
use Rattle.px_search.specs.declared.step.Step.TheVariants as step
use Rattle.px_search.specs.Asking.{IsTriedAt}
use Rattle.px_search.specs.Cache.{IsStepsAt, IsTopAt}
use Rattle.px_search.specs.Going.{AreFirstSuccessors, IsGoneOn}
use Rattle.px_search.specs.Steps.{AreStepsOf, unstruck}
use Rattle.px_search.proofs.BeginningLaws.{all-successors}
use Rattle.px_search.proofs.StruckLaws.{successors-struck}
use Rattle.px_search.proofs.Stepping.{applicable-unlimited, applicable-moves, closed-unlimited, closed-moves, open-every, open-first, open-moves, open-unlimited}

-- ---- the top of a stack

pub none_top : (kept : Kept) (stack : List Entry) → IsTopOf kept stack None → stack ≡ []
none_top kept [] top = refl
none_top kept (e ∷ es) top = absurd top

pub some_top : (kept : Kept) (stack : List Entry) (frame : Frame) → IsTopOf kept stack (Some frame) → frame.entry < length kept.entries
some_top kept [] frame top = absurd top
some_top kept (e ∷ es) frame top = place_within kept.entries frame.entry e top.0

pub top_entry : (kept : Kept) (P : Entry → Type 0) (stack : List Entry) (frame : Frame) (entry : Entry) → All P stack
    → IsTopOf kept stack (Some frame) → slice_get kept.entries frame.entry ≡ Some entry → P entry
top_entry kept P [] frame entry all top at = absurd top
top_entry kept P (e ∷ es) frame entry all top at = subst P (one_at kept.entries frame.entry e entry top.0 at) (All-head P e es all)

pub below_stands : (kept : Kept) (stack : List Entry) (frame : Frame) → IsTopOf kept stack (Some frame)
    → (rest : List Entry) × IsStackAt kept frame.below rest
below_stands kept [] frame top = absurd top
below_stands kept (e ∷ es) frame top = (es, top.1)

pub top_at : (kept : Kept) (model_number : ℕ) (frame : Frame) (model : List Atom) (stack : List Entry) → IsModelAt kept model_number model
    → IsTopOf kept stack (Some frame)
    → IsTopAt kept (record { model = model_number; entry = frame.entry }) frame.below model stack
top_at kept model_number frame model [] model_at top = absurd top
top_at kept model_number frame model (e ∷ es) model_at top =
    record { entry = e; rest = es; stack_is = refl; model_at = model_at; entry_at = top.0; below_at = top.1 }

abbrev pub top_at-grows : (old new : Kept) (place : EntryPlace) (below : ℕ) (model : List Atom) (stack : List Entry) → KeepsAll old new
    → IsTopAt old place below model stack → IsTopAt new place below model stack
top_at-grows old new place below model stack keeps t = record {
  entry = t.entry;
  rest = t.rest;
  stack_is = t.stack_is;
  model_at = model_at-grows old new place.model model keeps t.model_at;
  entry_at = keeps.entries place.entry t.entry t.entry_at;
  below_at = stack_at-grows old new below t.rest keeps t.below_at;
}

-- the node of a pair is that of its model and its stack
pub same_node : (kept : Kept) (key : NodeKey) (node : Node) (model : List Atom) (stack : List Entry) → IsKeyOf kept key node
    → IsModelAt kept key.model model → stack ≡ node.stack
    → ◌≡◌ {A = Node} (record { model = model; stack = stack }) node
same_node kept key node model stack stands model_at stacks =
    let models = one_model kept key.model model node.model model_at stands.model in
    λ i. record { model = models i; stack = stacks i }

pub if_limit : {A : Type 0} (P Q : MetLimit → Type 0) (result : Result A MoveErr) → IfStopped result P
    → ((limit : MetLimit) → P limit → Q limit) → IfStopped result Q
if_limit P Q (Ok a) p f = tt
if_limit P Q (Err (ShapeLimit limit)) p f = f limit p
if_limit P Q (Err NoMemory) p f = tt

-- the same of an error
pub at_limit : (P Q : MetLimit → Type 0) (error : MoveErr) → AtStop error P → ((limit : MetLimit) → P limit → Q limit) → AtStop error Q
at_limit P Q (ShapeLimit limit) p f = f limit p
at_limit P Q NoMemory p f = tt

-- where all that a node without an answer needs has one, an entry stands on its stack
pub stacked-applicable : (task : Task) (node : Node) → IsTriedAt task node Unanswered
    → IsKnownOf task.problem (needs_at task node) Applicable → node.stack ≢ []
stacked-applicable task node tried known empty =
    tried.0 (
      empty,
      All-head (HasAnswer task.problem) (goal_from task node.model) []
          (subst (λ (s : List Entry). IsKnownOf task.problem (needs_with task node.model s) Applicable) empty known).0,
    )

module _ (task : Task) where
  -- ---- the goal

  pub no_answer : (node : Node) (model : List Atom) → IsTriedAt task node Unanswered → node.stack ≡ [] → model ≡ node.model
      → ¬ HasAnswer task.problem (goal_from task model)
  no_answer node model tried empty same answer =
      tried.0 (empty, subst (λ (m : List Atom). HasAnswer task.problem (goal_from task m)) same answer)

  -- ---- moves

  pub gone-applicable : (kept : Kept) (node : Node) → node.stack ≢ [] → IsKnownOf task.problem (needs_at task node) Applicable
      → IsGoneOn task kept node (step.Apply ∷ [])
  gone-applicable kept node stacked known = record {
    moves = move.Apply ∷ [];
    are = applicable-moves task node stacked known.0;
    steps_are = (tt, tt);
    unlimited = applicable-unlimited task node known.1.unlimited known.0;
  }

  pub gone-closed : (kept : Kept) (node : Node) → IsKnownOf task.problem (needs_at task node) Closed → IsGoneOn task kept node []
  gone-closed kept node known = record {
    moves = [];
    are = closed-moves task node known.0;
    steps_are = tt;
    unlimited = closed-unlimited task node known.1.unlimited known.0;
  }

  pub gone-open : (kept : Kept) (node : Node) (gaps : List Atom) (entries : List Entry) (steps : List Step)
      → IsOpenWith task.problem (needs_at task node) gaps
      → ((entry : Entry) → Contains entries entry ↔ IsPushable task.problem task.tables gaps node.stack node.model entry)
      → IsStrictlySortedBy order_of_entries entries
      → ((entry : Entry) → IsRelevant task.problem task.tables gaps node.stack entry
      → AreUnlimited task.problem (obligations_of task.problem task.tables node.model entry))
      → AreStepsOf kept steps (map move.Push entries)
      → IsGoneOn task kept node steps
  gone-open kept node gaps entries steps opens exact sorted unlimited are = record {
    moves = map move.Push entries;
    are = open-moves task node gaps opens.exact opens.not_applicable entries sorted exact;
    steps_are = are;
    unlimited = open-unlimited task node gaps opens.exact opens.questions.unlimited unlimited;
  }

  pub successors-open : (kept : Kept) (node : Node) (gaps : List Atom) (entries : List Entry) (steps : List Step) (is_all : Bool)
      → IsOpenWith task.problem (needs_at task node) gaps → IsStrictlySortedBy order_of_entries entries
      → ((entry : Entry) → Contains entries entry → IsPushable task.problem task.tables gaps node.stack node.model entry)
      → ((entry : Entry) → IsPushable task.problem task.tables gaps node.stack node.model entry
      → Contains entries entry ⊎ ((first : Entry) → Contains entries first → order_of_entries first entry ≡ Less))
      → (is_all ≡ true → (entry : Entry) → IsPushable task.problem task.tables gaps node.stack node.model entry → Contains entries entry)
      → ((entry : Entry) → IsRelevant task.problem task.tables gaps node.stack entry
      → AreUnlimited task.problem (obligations_of task.problem task.tables node.model entry))
      → AreStepsOf kept steps (map move.Push entries)
      → AreFirstSuccessors task kept node steps is_all
  successors-open kept node gaps entries steps is_all opens sorted sound others every unlimited are = record {
    moves = map move.Push entries;
    are = open-first task node gaps opens.exact opens.not_applicable entries sorted sound others;
    every = λ all. open-every task node gaps opens.exact opens.not_applicable entries (every all);
    steps_are = are;
    unlimited = open-unlimited task node gaps opens.exact opens.questions.unlimited unlimited;
  }

  -- ---- with an entry on top

  module _ {kept : Kept} {place : EntryPlace} {below : ℕ} {model : List Atom} {stack : List Entry}
      (t : IsTopAt kept place below model stack) where
    abbrev pub the_node : Node
    the_node = record { model = model; stack = stack }

    -- what is known of the entry is known of what the node needs
    pub known-top : (entry : Entry) (known : Known) → slice_get kept.entries place.entry ≡ Some entry
        → IsKnownOf task.problem (obligations_of task.problem task.tables model entry) known
        → IsKnownOf task.problem (needs_with task model stack) known
    known-top entry known at is =
        subst (λ (s : List Entry). IsKnownOf task.problem (needs_with task model s) known) (sym t.stack_is)
        (subst (λ (e : Entry). IsKnownOf task.problem (obligations_of task.problem task.tables model e) known)
        (one_at kept.entries place.entry entry t.entry at t.entry_at) is)

    -- and of what it needs over the entry alone
    pub alone-top : (known : Known) → IsKnownOf task.problem (needs_with task model stack) known
        → IsKnownOf task.problem (needs_with task model (t.entry ∷ [])) known
    alone-top known is = subst (λ (s : List Entry). IsKnownOf task.problem (needs_with task model s) known) t.stack_is is

    pub first-top : take 1 stack ≡ t.entry ∷ []
    first-top = ap (λ (s : List Entry). take 1 s) t.stack_is

    -- the moves over the entry alone, where these don't depend on the stack
    pub alone-gone : (steps : List Step) (is_all : Bool) → IsGoneOn task kept (record { model = model; stack = t.entry ∷ [] }) steps
        → AreFirstSuccessors task kept (record { model = model; stack = take 1 stack }) steps is_all
    alone-gone steps is_all gone =
        subst (λ (s : List Entry). AreFirstSuccessors task kept (record { model = model; stack = s }) steps is_all) (sym first-top)
        (all-successors task kept (record { model = model; stack = t.entry ∷ [] }) steps is_all gone)

    pub alone-applicable : (is_all : Bool) → IsKnownOf task.problem (needs_with task model stack) Applicable
        → AreFirstSuccessors task kept (record { model = model; stack = take 1 stack }) (step.Apply ∷ []) is_all
    alone-applicable is_all known =
        alone-gone (step.Apply ∷ []) is_all (gone-applicable kept (record { model = model; stack = t.entry ∷ [] }) (λ e. cc)
        (alone-top Applicable known))

    pub alone-closed : (is_all : Bool) → IsKnownOf task.problem (needs_with task model stack) Closed
        → AreFirstSuccessors task kept (record { model = model; stack = take 1 stack }) [] is_all
    alone-closed is_all known =
        alone-gone [] is_all (gone-closed kept (record { model = model; stack = t.entry ∷ [] }) (alone-top Closed known))

    -- where only pushes over the entry alone are known
    pub successors-over : (steps left : List Step) (is_all : Bool)
        → AreFirstSuccessors task kept (record { model = model; stack = t.entry ∷ [] }) steps is_all
        → ((entries : List Entry) (moves : List Move) → IsStackAt kept below entries → AreStepsOf kept steps moves
        → AreStepsOf kept left (unstruck entries moves)) → AreFirstSuccessors task kept the_node left is_all
    successors-over steps left is_all successors struck =
        subst (λ (s : List Entry). AreFirstSuccessors task kept (record { model = model; stack = s }) left is_all) (sym t.stack_is)
        (successors-struck task model t.entry t.rest kept steps left is_all successors
        (struck t.rest successors.moves t.below_at successors.steps_are))

    -- what is kept for the place
    pub successors-from-cache : (offer : Offer) (left : List Step) → IsStepsAt task kept place offer
        → ((entries : List Entry) (moves : List Move) → IsStackAt kept below entries → AreStepsOf kept offer.steps moves
        → AreStepsOf kept left (unstruck entries moves)) → AreFirstSuccessors task kept the_node left offer.is_all
    successors-from-cache offer left (built, entry, built_at, entry_at, successors) struck =
        let models : built ≡ model = one_model kept place.model built model built_at t.model_at in
        let entries : entry ≡ t.entry = one_at kept.entries place.entry entry t.entry entry_at t.entry_at in
        successors-over offer.steps left offer.is_all
        (subst (λ (e : Entry). AreFirstSuccessors task kept (record { model = model; stack = e ∷ [] }) offer.steps offer.is_all) entries
        (subst (λ (m : List Atom). AreFirstSuccessors task kept (record { model = m; stack = entry ∷ [] }) offer.steps offer.is_all)
        models successors))
        struck

-- the node of a pair, by the numbers of its model and of its top
pub node-top : (kept : Kept) (key : NodeKey) (frame : Frame) (node : Node) (model : List Atom) (stack : List Entry) → IsKeyOf kept key node
    → IsTopOf kept node.stack (Some frame) → IsModelAt kept key.model model → stack ≡ node.stack
    → IsTopAt kept (record { model = key.model; entry = frame.entry }) frame.below model stack
node-top kept key frame node model stack stands top model_at is =
    top_at kept key.model frame model stack model_at (subst (λ (s : List Entry). IsTopOf kept s (Some frame)) (sym is) top)

-- any two nodes of a pair are one, so what is said of one is said of the other
pub of_node : (kept : Kept) (key : NodeKey) (P : Node → Type 0) (node : Node) (model : List Atom) (stack : List Entry)
    → IsKeyOf kept key node → IsModelAt kept key.model model → stack ≡ node.stack → P (record { model = model; stack = stack }) → P node
of_node kept key P node model stack stands model_at is p = subst P (same_node kept key node model stack stands model_at is) p

-- the stack of a pair, where another node of the pair has that stack
pub stack_of : (kept : Kept) (key : NodeKey) (one other : Node) (stack : List Entry) → IsKeyOf kept key one → IsKeyOf kept key other
    → one.stack ≡ stack → stack ≡ other.stack
stack_of kept key one other stack a b is = sym is ∙ one_stack kept key.stack one.stack other.stack a.stack b.stack

pub goal-answered : {G : Type 0} (task : Task) (model : List Atom) → (¬ HasAnswer task.problem (goal_from task model))
    → IsKnownOf task.problem (goal_from task model ∷ []) Applicable → G
goal-answered task model none known = absurd (none (All-head (HasAnswer task.problem) (goal_from task model) [] known.0))

-- what is said of the node with this model and no stack is said of each node of the pair, where one of these has no stack
pub goal-each : (kept : Kept) (key : NodeKey) (model : List Atom) (one : Node) → IsKeyOf kept key one → one.stack ≡ []
    → IsModelAt kept key.model model → (P : Node → Type 0) → P (record { model = model; stack = [] })
    → (node : Node) → IsKeyOf kept key node → P node
goal-each kept key model one stands empty model_at P p node other =
    of_node kept key P node model [] other model_at (stack_of kept key one node [] stands other empty) p

-- ---- what is known of a node with an entry on top

-- a node of the pair, its top and what was read of it
pub record Read (task : Task) (kept : Kept) (key : NodeKey) (frame : Frame) (model : List Atom) (stack : List Entry) : Type 0 where
  pub node : Node
  pub stands : IsKeyOf kept key node
  pub top : IsTopOf kept node.stack (Some frame)
  pub model_at : IsModelAt kept key.model model
  pub stack_is : stack ≡ node.stack

pub read-of : (task : Task) (kept : Kept) (key : NodeKey) (frame : Frame) (model : List Atom) (stack : List Entry)
    (n : (node : Node) × IsKeyOf kept key node × All (IsEntry task.problem task.tables) node.stack × IsTopOf kept node.stack (Some frame))
    → IsModelAt kept key.model model → stack ≡ n.0.stack → Read task kept key frame model stack
read-of task kept key frame model stack n model_at is = record { node = n.0; stands = n.1; top = n.3; model_at = model_at; stack_is = is }

module _ {task : Task} {kept : Kept} {key : NodeKey} {frame : Frame} {model : List Atom} {stack : List Entry}
    (r : Read task kept key frame model stack) where
  abbrev pub read-place : EntryPlace
  read-place = record { model = key.model; entry = frame.entry }

  abbrev pub read-top : IsTopAt kept read-place frame.below model stack
  read-top = node-top kept key frame r.node model stack r.stands r.top r.model_at r.stack_is

  -- what is said of the node with this model and stack is said of each node of the pair
  pub read-each : (P : Node → Type 0) → P (record { model = model; stack = stack }) → (node : Node) → IsKeyOf kept key node → P node
  read-each P p node stands =
      of_node kept key P node model stack stands r.model_at (stack_of kept key r.node node stack r.stands stands (sym r.stack_is)) p

  -- what is known of the top entry is known of what the node needs
  pub read-known : (entry : Entry) (known given : Known) → slice_get kept.entries frame.entry ≡ Some entry
      → IsKnownOf task.problem (obligations_of task.problem task.tables model entry) given → given ≡ known
      → IsKnownOf task.problem (needs_with task model stack) known
  read-known entry known given at is same =
      known-top task read-top entry known at
      (subst (IsKnownOf task.problem (obligations_of task.problem task.tables model entry)) same is)

-- the first moves of the node with this frame on top, by what is kept for its place
pub successors-found : (task : Task) (kept : Kept) (key : NodeKey) (frame : Frame) (offer : Offer) (left : List Step)
    → IsStepsAt task kept (record { model = key.model; entry = frame.entry }) offer
    → ((entries : List Entry) (moves : List Move) → IsStackAt kept frame.below entries → AreStepsOf kept offer.steps moves
    → AreStepsOf kept left (unstruck entries moves))
    → (one : Node) → IsKeyOf kept key one → IsTopOf kept one.stack (Some frame) → (node : Node) → IsKeyOf kept key node
    → AreFirstSuccessors task kept node left offer.is_all
successors-found task kept key frame offer left kept_steps struck one stands top node other =
    of_node kept key (λ (n : Node). AreFirstSuccessors task kept n left offer.is_all) node one.model one.stack other stands.model
    (stack_of kept key one node one.stack stands other refl)
    (successors-from-cache task (top_at kept key.model frame one.model one.stack stands.model top) offer left kept_steps struck)
