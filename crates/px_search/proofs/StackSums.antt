-- What the entries of a stack lack, summed from the top on.
use Rattle.std.proofs.Common.{◌≡◌, ◌+◌, ℕ, List, [], ◌∷◌, sym, ◌∙◌, ap, arith}
use Rattle.std.specs.List.{sum_by}
use Rattle.std.specs.Prelude.{None, Some, slice_get, All}
use Rattle.std.proofs.lemmas.List.Sums.{sum_by-cons}
use Rattle.px_base.specs.ListLaws.{All-at, All-each, Contains-first, Contains-later}
use Rattle.px_table.specs.declared.entry.Entry.{Entry}
use Rattle.px_table.specs.declared.node.Node.{Node}
use Rattle.px_entries.specs.Entries.{IsEntry}
use Rattle.px_numbers.specs.Numbers.{Kept, IsKeyOf, IsStackAt, IsTopOf}
use Rattle.px_numbers.specs.NumberLaws.{one_at}
use Rattle.px_numbers.specs.declared.nodes.NodeKey.{NodeKey}
use Rattle.px_numbers.specs.declared.stacks.Frame.{Frame}
use Rattle.px_ends.specs.Lacks.{lacks, lacks_of, needs}
use Rattle.px_ends.specs.Tasks.{Task, goal_from}

-- the goal and the entries above this part of the stack are counted, and what the node needs is this and what the rest lacks
pub record IsSummed (task : Task) (kept : Kept) (node : Node) (rest count : ℕ) : Type 0 where
  pub left : List Entry
  pub left_at : IsStackAt kept rest left
  pub entries : All (IsEntry task.problem task.tables) left
  pub sum : needs task node ≡ count + sum_by (lacks task node.model) left

module _ (task : Task) (kept : Kept) (node : Node) where
  pub summed-start : (key : NodeKey) (count : ℕ) → IsKeyOf kept key node → All (IsEntry task.problem task.tables) node.stack
      → count ≡ lacks_of (goal_from task node.model) → IsSummed task kept node key.stack count
  summed-start key count stands entries is = record {
    left = node.stack;
    left_at = stands.stack;
    entries = entries;
    sum = ap (λ (n : ℕ). n + sum_by (lacks task node.model) node.stack) (sym is);
  }

  -- the entry on top is one
  pub summed-top : (rest count : ℕ) (frame : Frame) → IsSummed task kept node rest count
      → ((entries : List Entry) → IsStackAt kept rest entries → IsTopOf kept entries (Some frame))
      → (entry : Entry) × (slice_get kept.entries frame.entry ≡ Some entry) × IsEntry task.problem task.tables entry
  summed-top rest count frame s top = by s.left (top s.left s.left_at) s.entries
    where
      by : (left : List Entry) → IsTopOf kept left (Some frame) → All (IsEntry task.problem task.tables) left
          → (entry : Entry) × (slice_get kept.entries frame.entry ≡ Some entry) × IsEntry task.problem task.tables entry
      by [] is all = absurd is
      by (entry ∷ below) is all =
          (entry, is.0, All-at (IsEntry task.problem task.tables) (entry ∷ below) entry all (Contains-first entry below))

  -- one more entry is counted
  pub summed-next : (rest count more total : ℕ) (frame : Frame) (entry : Entry) → IsSummed task kept node rest count
      → ((entries : List Entry) → IsStackAt kept rest entries → IsTopOf kept entries (Some frame))
      → slice_get kept.entries frame.entry ≡ Some entry → more ≡ lacks task node.model entry → total ≡ count + more
      → IsSummed task kept node frame.below total
  summed-next rest count more total frame entry s top entry_at more_is total_is =
      by s.left (top s.left s.left_at) s.entries s.sum
    where
      by : (left : List Entry) → IsTopOf kept left (Some frame) → All (IsEntry task.problem task.tables) left
          → needs task node ≡ count + sum_by (lacks task node.model) left → IsSummed task kept node frame.below total
      by [] is all sum = absurd is
      by (first ∷ below) is all sum =
          let same : first ≡ entry = one_at kept.entries frame.entry first entry is.0 entry_at in
          let here : more ≡ lacks task node.model first = more_is ∙ ap (lacks task node.model) (sym same) in
          record {
            left = below;
            left_at = is.1;
            entries = All-each (IsEntry task.problem task.tables) below
                (λ e has. All-at (IsEntry task.problem task.tables) (first ∷ below) e all (Contains-later first below e has));
            sum = omega (arith, sum, sum_by-cons (lacks task node.model) first below, here, total_is);
          }

  -- all are counted
  pub summed-all : (rest count : ℕ) → IsSummed task kept node rest count
      → ((entries : List Entry) → IsStackAt kept rest entries → IsTopOf kept entries None) → count ≡ needs task node
  summed-all rest count s top = by s.left (top s.left s.left_at) s.sum
    where
      by : (left : List Entry) → IsTopOf kept left None → needs task node ≡ count + sum_by (lacks task node.model) left
          → count ≡ needs task node
      by [] is sum = omega (arith, sum)
      by (first ∷ below) is sum = absurd is
