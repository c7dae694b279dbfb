-- Moves and tests by numbers.
use Rattle.std.proofs.Common.{◌≡◌, ℕ, suc, List, [], ◌∷◌, length, refl, ◌∙◌, ap, subst, arith, Some, slice_get}
use Rattle.std.specs.Prelude.{All}
use Rattle.std.proofs.lemmas.List.Elements.{All-head}
use Rattle.px_terms.specs.declared.atom.Atom.{Atom}
use Rattle.px_terms.specs.Operators.{results_of}
use Rattle.px_table.specs.declared.entry.Entry.{Entry}
use Rattle.px_table.specs.declared.entry.Move.{Move}
use Rattle.px_table.specs.declared.entry.Move.TheVariants as move
use Rattle.px_table.specs.declared.node.Node.{Node}
use Rattle.px_entries.specs.Entries.{IsEntry, effect_of}
use Rattle.px_gaps.specs.Known.{IsTriedOf}
use Rattle.px_gaps.specs.declared.known.Tried.{Tried}
use Rattle.px_gaps.specs.declared.known.Tried.TheVariants.{Answered, Unanswered, Limited}
use Rattle.px_numbers.specs.declared.nodes.NodeKey.{NodeKey}
use Rattle.px_numbers.specs.declared.stacks.Frame.{Frame}
use Rattle.px_numbers.specs.Numbers.{Kept, IsModelAt, IsStackAt, IsTopOf, IsKeyOf, KeepsAll}
use Rattle.px_numbers.specs.NumberLaws.{one_at, one_model, model_at-grows, stack_at-grows, stands-grows}
use Rattle.px_search.specs.declared.step.Step.{Step}
use Rattle.px_search.specs.declared.step.Step.TheVariants as step
use Rattle.px_search.specs.Asking.{IsTriedAt}
use Rattle.px_search.specs.Going.{IsAskedAt}
use Rattle.px_search.specs.Cache.{IsEntryAt, IsResultAt}
use Rattle.px_search.specs.Steps.{DescribesMove, AreStepsOf}
use Rattle.px_ends.specs.Tasks.{Task, applied, after, goal_from}

-- the entry on top is one of the problem's
pub entry_on_top : (task : Task) (kept : Kept) (key : NodeKey) (frame : Frame) (model : List Atom) (stack : List Entry)
    → IsModelAt kept key.model model → IsTopOf kept stack (Some frame) → All (IsEntry task.problem task.tables) stack
    → IsEntryAt task kept (record { model = key.model; entry = frame.entry })
entry_on_top task kept key frame model [] model_at top all = absurd top
entry_on_top task kept key frame model (e ∷ below) model_at top all =
    (model, e, model_at, top.0, All-head (IsEntry task.problem task.tables) e below all)

-- the node after the entry on top was applied
pub result_stands : (task : Task) (old new : Kept) (key : NodeKey) (frame : Frame) (number : ℕ) (model : List Atom) (stack : List Entry)
    → KeepsAll old new → IsModelAt old key.model model → IsTopOf old stack (Some frame)
    → IsResultAt task new (record { model = key.model; entry = frame.entry }) number
    → IsKeyOf new (record { model = number; stack = frame.below }) (applied task model stack)
result_stands task old new key frame number model [] keeps model_at top result = absurd top
result_stands task old new key frame number model (e ∷ below) keeps model_at top (built, entry, built_at, entry_at, left) =
    let same_entry : entry ≡ e = one_at new.entries frame.entry entry e entry_at (keeps.entries frame.entry e top.0) in
    let same_model : built ≡ model = one_model new key.model built model built_at (model_at-grows old new key.model model keeps model_at) in
    let is : results_of task.problem built (effect_of task.tables entry) ≡ results_of task.problem model (effect_of task.tables e) =
    ap (λ (m : List Atom). results_of task.problem m (effect_of task.tables entry)) same_model
    ∙ ap (λ (x : Entry). results_of task.problem model (effect_of task.tables x)) same_entry in
    record {
      model = subst (IsModelAt new number) is left;
      stack = stack_at-grows old new frame.below below keeps top.1;
    }

pub pushed_stands : (old new : Kept) (key : NodeKey) (stack : ℕ) (node : Node) (top : Entry) → KeepsAll old new → IsKeyOf old key node
    → IsStackAt new stack (top ∷ node.stack)
    → IsKeyOf new (record { model = key.model; stack = stack }) (record { model = node.model; stack = top ∷ node.stack })
pushed_stands old new key stack node top keeps stands is =
    record { model = model_at-grows old new key.model node.model keeps stands.model; stack = is }

-- the node after a push
pub push_stands : (task : Task) (old new : Kept) (there : NodeKey) (number : ℕ) (given : Step) (node : Node) (m : Move)
    → given ≡ step.Push number → DescribesMove old given m
    → ((top : Entry) → slice_get old.entries number ≡ Some top
    → IsKeyOf new there (record { model = node.model; stack = top ∷ node.stack })) → IsKeyOf new there (after task node m)
push_stands task old new there number given node m same is stands = by m (subst (λ (s : Step). DescribesMove old s m) same is)
  where
    by : (m : Move) → DescribesMove old (step.Push number) m → IsKeyOf new there (after task node m)
    by move.Apply wrong = absurd wrong
    by (move.Push e) at = stands e at

pub empty_stack : (kept : Kept) (number : ℕ) (stack : List Entry) → number ≡ 0 → IsStackAt kept number stack → stack ≡ []
empty_stack kept number [] none is = refl
empty_stack kept number (e ∷ below) none is = absurd (omega (arith, none, is.2))

pub tried_at : (task : Task) (kept : Kept) (key : NodeKey) (node : Node) (built : List Atom) (tried : Tried) → IsKeyOf kept key node
    → key.stack ≡ 0 → IsModelAt kept key.model built
    → IsTriedOf task.problem (goal_from task built) tried → IsTriedAt task node tried
tried_at task kept key node built tried stands none built_at is =
    by tried (subst (λ (m : List Atom). IsTriedOf task.problem (goal_from task m) tried)
    (one_model kept key.model built node.model built_at stands.model) is)
  where
    empty : node.stack ≡ []
    empty = empty_stack kept key.stack node.stack none stands.stack

    by : (tried : Tried) → IsTriedOf task.problem (goal_from task node.model) tried → IsTriedAt task node tried
    by Answered h = ((empty, h.0), h.1.unlimited)
    by Unanswered h = ((λ solved. h.0 solved.1), λ _. h.1.unlimited)
    by (Limited limit) h = (empty, h.0, h.1)

pub asked-grows : (task : Task) (old new : Kept) (key : NodeKey) → KeepsAll old new → IsAskedAt task old key → IsAskedAt task new key
asked-grows task old new key keeps asked =
    record {
      node = asked.node;
      stands = stands-grows old new key asked.node keeps asked.stands;
      entries = asked.entries;
      tried = asked.tried;
    }

-- ---- steps that are moves

pub step-grows : (old new : Kept) (s : Step) (m : Move) → KeepsAll old new → DescribesMove old s m → DescribesMove new s m
step-grows old new step.Apply move.Apply keeps is = is
step-grows old new step.Apply (move.Push e) keeps is = is
step-grows old new (step.Push n) move.Apply keeps is = is
step-grows old new (step.Push n) (move.Push e) keeps is = keeps.entries n e is

pub steps-grow : (old new : Kept) (ss : List Step) (ms : List Move) → KeepsAll old new → AreStepsOf old ss ms → AreStepsOf new ss ms
steps-grow old new [] [] keeps are = are
steps-grow old new [] (m ∷ ms) keeps are = are
steps-grow old new (s ∷ ss) [] keeps are = are
steps-grow old new (s ∷ ss) (m ∷ ms) keeps are = (step-grows old new s m keeps are.0, steps-grow old new ss ms keeps are.1)

pub steps-count : (kept : Kept) (ss : List Step) (ms : List Move) → AreStepsOf kept ss ms → length ss ≡ length ms
steps-count kept [] [] are = refl
steps-count kept [] (m ∷ ms) are = absurd are
steps-count kept (s ∷ ss) [] are = absurd are
steps-count kept (s ∷ ss) (m ∷ ms) are = ap suc (steps-count kept ss ms are.1)
