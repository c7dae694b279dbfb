-- A search has one end: the ends exclude each other, and each but the shape limit is the only one of its kind. The shape limit comes
-- exactly where some question that is asked meets it.
use Rattle.std.proofs.Common.{◌≡◌, ℕ, suc, ◌<◌, List, [], ◌∷◌, ◌++◌, length, map, refl, sym, ◌∙◌, ap, subst, inl, inr, arith, Some, slice_get, Contains}
use Rattle.std.proofs.lemmas.List.Elements.{Contains-push}
use Rattle.px_terms.specs.declared.atom.Atom.{Atom}
use Rattle.px_terms.specs.declared.problem.Problem.{Problem}
use Rattle.px_proof.specs.declared.shape.Tick.{Tick}
use Rattle.px_table.specs.declared.entry.Move.{Move}
use Rattle.px_table.specs.declared.node.Node.{Node}
use Rattle.px_gaps.specs.Questions.{MeetsLimit}
use Rattle.px_gaps.specs.declared.question.MetLimit.{MetLimit}
use Rattle.px_gaps.specs.declared.question.Question.{Question}
use Rattle.px_gaps.specs.declared.question.Question.TheVariants.{FindingGaps, Proving}
use Rattle.px_order.specs.Beginnings.{beginnings_agree, one_place}
use Rattle.px_order.specs.Places.{at_end, at_index, contains_place, order_of, place-within-list, place_of, still_there}
use Rattle.px_ends.specs.ByValue.{space_of}
use Rattle.px_ends.specs.Determined.{EndsAreOne}
use Rattle.px_ends.specs.Order.{IsBefore}
use Rattle.px_ends.specs.Tasks.{Task}
use Rattle.px_ends.specs.Ends.{BeginsWith, node_of, IsStop, IsFound, IsExhausted, IsNodeLimit, IsShapeLimit}
use Rattle.px_ends.proofs.MoveLaws.{order}

-- lists that are as long and agree at each place are the same
pub same_lists : {A : Type 0} (xs ys : List A) → length xs ≡ length ys
    → ((k : ℕ) (x y : A) → slice_get xs k ≡ Some x → slice_get ys k ≡ Some y → x ≡ y) → xs ≡ ys
same_lists [] [] long each = refl
same_lists [] (y ∷ ys) long each = absurd (omega (arith, long))
same_lists (x ∷ xs) [] long each = absurd (omega (arith, long))
same_lists (x ∷ xs) (y ∷ ys) long each =
    cc (each 0 x y refl refl, same_lists xs ys (omega (arith, long)) (λ k p q at_p at_q. each (suc k) p q at_p at_q))

module _ (task : Task) where
  found_stop : (moves : List Move) → (f : IsFound task moves) → IsStop task f.earlier moves
  found_stop moves f = f.stop

  limit_stop : (nodes : List Node) (moves : ℕ) → (l : IsNodeLimit task nodes moves) → IsStop task l.earlier l.last
  limit_stop nodes moves l = l.stop

  agree : (xs ys : List (List Move)) → BeginsWith task xs → BeginsWith task ys → (k : ℕ) (p q : List Move) → slice_get xs k ≡ Some p
      → slice_get ys k ≡ Some q → p ≡ q
  agree = beginnings_agree (space_of task) IsBefore order

  not_shorter : (e₁ e₂ : List (List Move)) (l₁ l₂ : List Move) → IsStop task e₁ l₁ → IsStop task e₂ l₂ → ¬ (length e₁ < length e₂)
  not_shorter e₁ e₂ l₁ l₂ s₁ s₂ less =
      let second : slice_get e₂ (length e₁) ≡ Some _ = at_index e₂ (length e₁) l₁ less in
      let e =
      agree (e₁ ++ l₁ ∷ []) (e₂ ++ l₂ ∷ []) s₁.beginning s₂.beginning (length e₁) l₁ _ (at_end e₁ l₁)
      (still_there e₂ (l₂ ∷ []) (length e₁) _ second) in
      let has : Contains e₂ l₁ = contains_place e₂ (length e₁) l₁ (second ∙ ap Some (sym e)) in
      elim s₁.stops [
        | inl solved ↦ s₂.unsolved l₁ has solved
        | inr full ↦ omega (arith, s₂.room, full, less)
      ]

  same_length : (e₁ e₂ : List (List Move)) (l₁ l₂ : List Move) → IsStop task e₁ l₁ → IsStop task e₂ l₂ → length e₁ ≡ length e₂
  same_length e₁ e₂ l₁ l₂ s₁ s₂ = elim (order_of (length e₁) (length e₂)) [
    | inl less ↦ absurd (not_shorter e₁ e₂ l₁ l₂ s₁ s₂ less)
    | inr h ↦ elim (order_of (length e₂) (length e₁)) [
      | inl less ↦ absurd (not_shorter e₂ e₁ l₂ l₁ s₂ s₁ less)
      | inr g ↦ omega (arith, h, g)
    ]
  ]

  pub same_stop : (e₁ e₂ : List (List Move)) (l₁ l₂ : List Move) → IsStop task e₁ l₁ → IsStop task e₂ l₂ → l₁ ≡ l₂
  same_stop e₁ e₂ l₁ l₂ s₁ s₂ =
      agree (e₁ ++ l₁ ∷ []) (e₂ ++ l₂ ∷ []) s₁.beginning s₂.beginning (length e₁) l₁ l₂ (at_end e₁ l₁)
      (subst (λ (n : ℕ). slice_get (e₂ ++ l₂ ∷ []) n ≡ Some l₂) (sym (same_length e₁ e₂ l₁ l₂ s₁ s₂)) (at_end e₂ l₂))

  pub one_found : (ms ns : List Move) → IsFound task ms → IsFound task ns → ms ≡ ns
  one_found ms ns f g = same_stop f.earlier g.earlier ms ns (found_stop ms f) (found_stop ns g)

  pub same_earlier : (e₁ e₂ : List (List Move)) (l₁ l₂ : List Move) → IsStop task e₁ l₁ → IsStop task e₂ l₂ → e₁ ≡ e₂
  same_earlier e₁ e₂ l₁ l₂ s₁ s₂ =
      same_lists e₁ e₂ (same_length e₁ e₂ l₁ l₂ s₁ s₂)
      (λ k p q at_p at_q. agree (e₁ ++ l₁ ∷ []) (e₂ ++ l₂ ∷ []) s₁.beginning s₂.beginning k p q (still_there e₁ (l₁ ∷ []) k p at_p)
      (still_there e₂ (l₂ ∷ []) k q at_q))

  pub one_limit : (nodes : List Node) (moves : ℕ) (more : List Node) (others : ℕ) → IsNodeLimit task nodes moves
      → IsNodeLimit task more others → (nodes ≡ more) × (moves ≡ others)
  one_limit nodes moves more others k l = (
    k.nodes_are ∙ ap (map (node_of task)) (same_earlier k.earlier l.earlier k.last l.last (limit_stop nodes moves k)
        (limit_stop more others l)) ∙ sym l.nodes_are,
    k.moves_are ∙ ap length (same_stop k.earlier l.earlier k.last l.last (limit_stop nodes moves k) (limit_stop more others l))
        ∙ sym l.moves_are,
  )

  pub found_or_limit : (ms : List Move) (nodes : List Node) (moves : ℕ) → IsFound task ms → ¬ IsNodeLimit task nodes moves
  found_or_limit ms nodes moves f l =
      omega (arith, f.room, l.full, same_length f.earlier l.earlier ms l.last (found_stop ms f) (limit_stop nodes moves l))

  pub found_or_exhausted : (ms : List Move) → IsFound task ms → ¬ IsExhausted task
  found_or_exhausted ms f x =
      let made = (f.stop.beginning.least ms (Contains-push f.earlier ms)).made in
      elim f.stop.stops [
        | inl solved ↦ x.unsolved ms made solved
        | inr full ↦ omega (arith, full, f.room)
      ]

  pub limit_or_exhausted : (nodes : List Node) (moves : ℕ) → IsNodeLimit task nodes moves → ¬ IsExhausted task
  limit_or_exhausted nodes moves l x =
      let has = x.whole.every l.last (l.stop.beginning.least l.last (Contains-push l.earlier l.last)) in
      let place = place_of x.lists l.last has in
      let number : place.0 ≡ length l.earlier =
      one_place (space_of task) IsBefore order x.lists (l.earlier ++ l.last ∷ []) x.whole.beginning l.stop.beginning place.0
      (length l.earlier) l.last place.1 (at_end l.earlier l.last) in
      omega (arith, number, l.full, x.room, place-within-list x.lists place.0 l.last place.1)

  pub shape_limit_or_found : (node : Node) (limit : MetLimit) (ms : List Move) → IsShapeLimit task node limit → ¬ IsFound task ms
  shape_limit_or_found node limit ms s f = f.unlimited s.moves limit.question limit.formula limit.shapes s.asked s.met

  pub shape_limit_or_exhausted : (node : Node) (limit : MetLimit) → IsShapeLimit task node limit → ¬ IsExhausted task
  shape_limit_or_exhausted node limit s x = x.unlimited s.moves limit.question limit.formula limit.shapes s.asked s.met

  pub shape_limit_or_limit : (node : Node) (limit : MetLimit) (nodes : List Node) (moves : ℕ) → IsShapeLimit task node limit
      → ¬ IsNodeLimit task nodes moves
  shape_limit_or_limit node limit nodes moves s l = l.unlimited s.moves limit.question limit.formula limit.shapes s.asked s.met

-- ---- the laws

-- a limit has as many shapes as the problem says
pub limit-count : (problem : Problem) (question : Question) (formula : List Atom) (shapes : List (List Tick))
    → MeetsLimit problem question formula shapes → length shapes ≡ problem.shapes
limit-count problem (Proving needed) formula shapes met = met.1.count
limit-count problem (FindingGaps needed) formula shapes (inl met) = met.1.count
limit-count problem (FindingGaps needed) formula shapes (inr met) = met.3.count

pub ends_are_one : EndsAreOne
ends_are_one = record {
  found = one_found;
  node_limit = λ task nodes more moves others is is_other. one_limit task nodes moves more others is is_other;
  found_or_exhausted = found_or_exhausted;
  found_or_node_limit = found_or_limit;
  node_limit_or_exhausted = limit_or_exhausted;
  shape_limit_or_found = shape_limit_or_found;
  shape_limit_or_exhausted = shape_limit_or_exhausted;
  shape_limit_or_node_limit = shape_limit_or_limit;
  shapes = λ task node limit s. limit-count task.problem limit.question limit.formula limit.shapes s.met;
}
