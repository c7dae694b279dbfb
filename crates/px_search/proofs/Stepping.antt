-- What is known of a node's needs, and the candidates for its gaps, give its moves and say whether its questions meet the limit.
use Rattle.std.proofs.Common.{◌≡◌, ◌≢◌, ◌↔◌, ◌⊎◌, ℕ, zero, suc, ◌<◌, List, [], ◌∷◌, map, length, refl, ◌∙◌, ap, subst, inl, inr, arith, get_or}
use Rattle.std.specs.Prelude.{AllPairs, Contains}
use Rattle.std.specs.List.Sorted.{IsStrictlySortedBy}
use Rattle.std.specs.declared.cmp.Ordering.TheVariants.{Less}
use Rattle.px_base.specs.ListLaws.{Contains-none, Contains-first, Contains-later, Contains-one, Contains-cases, AllByRecursion-at}
use Rattle.px_terms.specs.declared.atom.Atom.{Atom}
use Rattle.px_terms.specs.declared.problem.Problem.{Problem}
use Rattle.px_table.specs.declared.entry.Entry.{Entry}
use Rattle.px_table.specs.declared.entry.Move.{Move}
use Rattle.px_table.specs.declared.entry.Move.TheVariants.{Apply, Push}
use Rattle.px_table.specs.declared.node.Node.{Node}
use Rattle.px_table.specs.EntryOrder.{order_of_entries}
use Rattle.px_entries.specs.Entries.{obligations_of}
use Rattle.px_gaps.specs.Needs.{HasAnswer, IsApplicable, IsOpen, IsGapOfNeeds}
use Rattle.px_diff.specs.Pushes.{IsRelevant, IsPushable, LimitsRelevant}
use Rattle.px_gaps.specs.Questions.{AreUnlimited}
use Rattle.px_gaps.specs.declared.question.MetLimit.{MetLimit}
use Rattle.px_gaps.specs.declared.question.Obligation.{Obligation}
use Rattle.px_gaps.specs.Known.{LimitsNeeds}
use Rattle.px_ends.specs.Order.{move_cmp}
use Rattle.px_ends.specs.Tasks.{Task, needs_at, IsRelevantAt, IsAllowed}
use Rattle.px_search.specs.Going.{AreFirstOf, AreMovesOf, IsUnlimitedAt, LimitsNode}

pub answered-no_gap : (problem : Problem) (needs : List Obligation) (atom : Atom) → IsApplicable problem needs
    → ¬ IsGapOfNeeds problem needs atom
answered-no_gap problem needs atom all (opens, (k, needed, below, is, gap)) = gap.0 (subst (HasAnswer problem) is (all k needed below))

in_pushes : (entries : List Entry) (entry : Entry) → Contains entries entry → Contains (map Push entries) (Push entry)
in_pushes [] entry has = absurd (Contains-none entry has)
in_pushes (e ∷ es) entry has = elim (Contains-cases e es entry has) [
  | inl is ↦ subst (λ (x : Entry). Contains (Push e ∷ map Push es) (Push x)) is (Contains-first (Push e) (map Push es))
  | inr later ↦ Contains-later (Push e) (map Push es) (Push entry) (in_pushes es entry later)
]

of_push : Entry → Move → Entry
of_push d Apply = d
of_push d (Push e) = e

from_pushes : (entries : List Entry) (entry : Entry) → Contains (map Push entries) (Push entry) → Contains entries entry
unfolding of_push
from_pushes [] entry has = absurd (Contains-none (Push entry) has)
from_pushes (e ∷ es) entry has = elim (Contains-cases (Push e) (map Push es) (Push entry) has) [
  | inl is ↦ subst (Contains (e ∷ es)) (ap (of_push e) is) (Contains-first e es)
  | inr later ↦ Contains-later e es entry (from_pushes es entry later)
]

no_apply : (entries : List Entry) → ¬ Contains (map Push entries) Apply
no_apply [] has = Contains-none Apply has
no_apply (e ∷ es) has = elim (Contains-cases (Push e) (map Push es) Apply has) [
  | inl is ↦ differ e is
  | inr later ↦ no_apply es later
]
  where
    differ : (e : Entry) → ¬ (Push e ≡ Apply)
    differ e is = cc

pushes-ordered : (entries : List Entry) → IsStrictlySortedBy order_of_entries entries
    → AllPairs (λ m n. move_cmp m n ≡ Less) (map Push entries)
unfolding IsStrictlySortedBy
pushes-ordered entries sorted = by entries sorted
  where
    at : (entries : List Entry) (k : ℕ) (d : Move) → k < length (map Push entries)
        → (e : Entry) × (get_or (map Push entries) k d ≡ Push e) × Contains entries e
    at [] k d below = absurd (omega (arith, below))
    at (e ∷ es) zero d below = (e, refl, Contains-first e es)
    at (e ∷ es) (suc k) d below = let r = at es k d (omega (arith, below)) in (r.0, r.1, Contains-later e es r.0 r.2)

    by : (entries : List Entry) → IsStrictlySortedBy order_of_entries entries → AllPairs (λ m n. move_cmp m n ≡ Less) (map Push entries)
    by [] sorted i j d less below = absurd (omega (arith, below))
    by (e ∷ es) sorted i zero d less below = absurd (omega (arith, less))
    by (e ∷ es) sorted zero (suc j) d less below =
        let r = at es j d (omega (arith, below)) in
        ap (move_cmp (Push e)) r.1 ∙ AllByRecursion-at (λ y. order_of_entries e y ≡ Less) es r.0 sorted.0 r.2
    by (e ∷ es) sorted (suc i) (suc j) d less below = by es sorted.1 i j d (omega (arith, less)) (omega (arith, below))

module _ (task : Task) (node : Node) where
  abbrev needs : List Obligation
  needs = needs_at task node

  -- ---- all that it needs has an answer

  pub applicable-unlimited : AreUnlimited task.problem needs → IsApplicable task.problem needs → IsUnlimitedAt task node
  applicable-unlimited unlimited all question (inl asks) formula shapes met = unlimited question formula shapes asks met
  applicable-unlimited unlimited all question (inr (entry, relevant, asks)) formula shapes met =
      answered-no_gap task.problem needs relevant.gap all relevant.is_gap

  pub applicable-moves : node.stack ≢ [] → IsApplicable task.problem needs → AreMovesOf task node (Apply ∷ [])
  applicable-moves stacked all = record {
    all = λ m. which m;
    ordered = λ i j d less below. absurd (omega (arith, less, below));
  }
    where
      which : (m : Move) → IsAllowed task node m ↔ Contains (Apply ∷ []) m
      which Apply = (λ _. Contains-first Apply [], λ _. (stacked, all))
      which (Push entry) = (
        λ allowed. absurd (answered-no_gap task.problem needs allowed.0.gap all allowed.0.is_gap),
        λ has. absurd (differ entry (Contains-one Apply (Push entry) has)),
      )
        where
          differ : (e : Entry) → ¬ (Apply ≡ Push e)
          differ e is = cc

  -- ---- something that it needs has neither an answer nor a gap

  pub closed-unlimited : AreUnlimited task.problem needs → (¬ IsOpen task.problem needs) → IsUnlimitedAt task node
  closed-unlimited unlimited closed question (inl asks) formula shapes met = unlimited question formula shapes asks met
  closed-unlimited unlimited closed question (inr (entry, relevant, asks)) formula shapes met = closed relevant.is_gap.0

  pub closed-moves : (¬ IsOpen task.problem needs) → AreMovesOf task node []
  closed-moves closed = record {
    all = λ m. which m;
    ordered = λ i j d less below. absurd (omega (arith, below));
  }
    where
      which : (m : Move) → IsAllowed task node m ↔ Contains [] m
      which Apply = (λ allowed. absurd (closed (λ k d below. inl (allowed.1 k d below))), λ has. absurd (Contains-none Apply has))
      which (Push entry) = (λ allowed. absurd (closed allowed.0.is_gap.0), λ has. absurd (Contains-none (Push entry) has))

  -- ---- it has gaps

  module _ (gaps : List Atom) (exact : (atom : Atom) → Contains gaps atom ↔ IsGapOfNeeds task.problem needs atom) where
    pub relevant_at : (entry : Entry) → IsRelevantAt task node entry ↔ IsRelevant task.problem task.tables gaps node.stack entry
    relevant_at entry = (
      λ r. record { is_entry = r.is_entry; fresh = r.fresh; atom = r.gap; is_wanted = (exact r.gap).1 r.is_gap; added = r.added },
      λ r. record { is_entry = r.is_entry; fresh = r.fresh; gap = r.atom; is_gap = (exact r.atom).0 r.is_wanted; added = r.added },
    )

    pub open-unlimited : AreUnlimited task.problem needs
        → ((entry : Entry) → IsRelevant task.problem task.tables gaps node.stack entry
        → AreUnlimited task.problem (obligations_of task.problem task.tables node.model entry)) → IsUnlimitedAt task node
    open-unlimited unlimited each question (inl asks) formula shapes met = unlimited question formula shapes asks met
    open-unlimited unlimited each question (inr (entry, relevant, asks)) formula shapes met =
        each entry ((relevant_at entry).0 relevant) question formula shapes asks met

    -- the moves are the pushes of what may be pushed, in order
    pub open-moves : (¬ IsApplicable task.problem needs) → (entries : List Entry) → IsStrictlySortedBy order_of_entries entries
        → ((entry : Entry) → Contains entries entry ↔ IsPushable task.problem task.tables gaps node.stack node.model entry)
        → AreMovesOf task node (map Push entries)
    open-moves not_applicable entries sorted members = record { all = λ m. which m; ordered = pushes-ordered entries sorted }
      where
        which : (m : Move) → IsAllowed task node m ↔ Contains (map Push entries) m
        which Apply = (λ allowed. absurd (not_applicable allowed.1), λ has. absurd (no_apply entries has))
        which (Push entry) = (
          λ allowed. in_pushes entries entry ((members entry).1
              (record { relevant = (relevant_at entry).0 allowed.0; open_entry = allowed.1 })),
          λ has. let p = (members entry).0 (from_pushes entries entry has) in ((relevant_at entry).1 p.relevant, p.open_entry),
        )

    -- the first of what may be pushed, in order, are the first moves
    pub open-first : (¬ IsApplicable task.problem needs) → (entries : List Entry) → IsStrictlySortedBy order_of_entries entries
        → ((entry : Entry) → Contains entries entry → IsPushable task.problem task.tables gaps node.stack node.model entry)
        → ((entry : Entry) → IsPushable task.problem task.tables gaps node.stack node.model entry
        → Contains entries entry ⊎ ((first : Entry) → Contains entries first → order_of_entries first entry ≡ Less))
        → AreFirstOf task node (map Push entries)
    open-first not_applicable entries sorted sound after =
        record { allowed = λ m has. allowed_here m has; ordered = pushes-ordered entries sorted; others = λ m may. others_here m may }
      where
        allowed_here : (m : Move) → Contains (map Push entries) m → IsAllowed task node m
        allowed_here Apply has = absurd (no_apply entries has)
        allowed_here (Push entry) has =
            let p = sound entry (from_pushes entries entry has) in ((relevant_at entry).1 p.relevant, p.open_entry)

        before : (entry : Entry) → ((first : Entry) → Contains entries first → order_of_entries first entry ≡ Less) → (n : Move)
            → Contains (map Push entries) n → move_cmp n (Push entry) ≡ Less
        before entry later Apply has = absurd (no_apply entries has)
        before entry later (Push first) has = later first (from_pushes entries first has)

        others_here : (m : Move) → IsAllowed task node m
            → Contains (map Push entries) m ⊎ ((n : Move) → Contains (map Push entries) n → move_cmp n m ≡ Less)
        others_here Apply may = absurd (not_applicable may.1)
        others_here (Push entry) may = elim (after entry (record { relevant = (relevant_at entry).0 may.0; open_entry = may.1 })) [
          | inl has ↦ inl (in_pushes entries entry has)
          | inr later ↦ inr (λ n has. before entry later n has)
        ]

    -- where they are all that may be pushed, they are all moves
    pub open-every : (¬ IsApplicable task.problem needs) → (entries : List Entry)
        → ((entry : Entry) → IsPushable task.problem task.tables gaps node.stack node.model entry → Contains entries entry) → (m : Move)
        → IsAllowed task node m → Contains (map Push entries) m
    open-every not_applicable entries every Apply may = absurd (not_applicable may.1)
    open-every not_applicable entries every (Push entry) may =
        in_pushes entries entry (every entry (record { relevant = (relevant_at entry).0 may.0; open_entry = may.1 }))

    -- where a question about what is relevant meets the limit, one of the node does
    pub limits-open : (limit : MetLimit) → LimitsRelevant task.problem task.tables gaps node.stack node.model limit
        → LimitsNode task node limit
    limits-open limit l = record { asked = inr (l.entry, (relevant_at l.entry).1 l.relevant, l.asked); met = l.met }

  -- where a question about what it needs meets the limit, one of the node does
  pub limits-needs : (limit : MetLimit) → LimitsNeeds task.problem needs limit → LimitsNode task node limit
  limits-needs limit l = record { asked = inl l.asked; met = l.met }
