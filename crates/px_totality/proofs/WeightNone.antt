-- With weight 0 a search ends as the search in breadth does: the runs are built from the lists in order, since none is impossible.
use Rattle.std.specs.Prelude.{◌≡◌, ◌<◌, ◌⊎◌, Bool, true, false, ℕ, Some, List, [], ◌∷◌, ◌++◌, length, slice_get, slice_index_or}
use Rattle.std.specs.Bool.{Decides}
use Rattle.std.specs.Cmp.Lexicographic.{pointwise, pointwise_decides}
use Rattle.std.proofs.Common.{refl, sym, ap, ◌∙◌, subst, inl, inr, arith}
use Rattle.std.proofs.lemmas.List.Elements.{Contains-push}
use Rattle.px_terms.specs.Order.{atom_eq}
use Rattle.px_terms.specs.OrderLaws.{atom_eq-decides}
use Rattle.px_table.specs.declared.entry.Move.{Move}
use Rattle.px_table.specs.declared.node.Node.{Node}
use Rattle.px_table.specs.EntryLaws.{entry_eq-decides}
use Rattle.px_table.specs.EntryOrder.{entry_eq}
use Rattle.px_gaps.specs.declared.question.MetLimit.{MetLimit}
use Rattle.px_gaps.specs.declared.question.Question.{Question}
use Rattle.px_order.proofs.LawProofs.{blind_is_breadth}
use Rattle.px_order.specs.AtZero.{least-gone}
use Rattle.px_order.specs.Beginnings.{beginnings_agree, one_place}
use Rattle.px_order.specs.Breadth.{IsByLength, down_from}
use Rattle.px_order.specs.EndLaws.{list-gone, list-tested}
use Rattle.px_order.specs.Ends as order_ends
use Rattle.px_order.specs.Frontier.{IsMoveOrder}
use Rattle.px_order.specs.Places.{at_end, at_index, contains_place, order_of, place-within-list, place_of, push-cases, some-one, still_there}
use Rattle.px_order.specs.RunOrigins.{found-at}
use Rattle.px_order.specs.Runs.{Begins, IsOver}
use Rattle.px_order.specs.Shortlex.{breadth_length, breadth_order}
use Rattle.px_order.specs.Spaces.{IsLinear, IsLower}
use Rattle.px_ends.proofs.ByValueLaws.{weight_none_is_breadth}
use Rattle.px_ends.proofs.Exclusion.{ends_are_one, same_earlier, same_lists, same_stop}
use Rattle.px_ends.proofs.MoveLaws.{move_cmp-total, move_cmp-same}
use Rattle.px_ends.specs.ByValue.{aim_of, order_by, space_of, IsAsked, IsExhausted, IsFound, IsNodeLimit, IsShapeLimit}
use Rattle.px_ends.specs.Ends as breadth
use Rattle.px_ends.specs.Ends.{IsWhole, node_of}
use Rattle.px_ends.specs.Order.{IsBefore}
use Rattle.px_ends.specs.Tasks.{Task}
use Rattle.px_totality.specs.WeightNone.{WeightNoneIsExactlyBreadth}
use Rattle.px_totality.proofs.FiniteEntries.{finite-allowed}
use Rattle.px_totality.proofs.FromBreadth.{begins, is-over}
use Rattle.px_totality.proofs.NextStep.{Finished, Stopped, stopped-or-finished}

-- ---- nodes are compared

decided : {P : Type 0} (b : Bool) → Decides b P → P ⊎ (¬ P)
decided true d = inl (d.0 refl)
decided false d = inr (λ p. let e = d.1 p in cc)

same_node : (x y : Node) → (x ≡ y) ⊎ (¬ (x ≡ y))
same_node x y = elim (decided (pointwise atom_eq x.model y.model) (pointwise_decides atom_eq-decides x.model y.model)) [
  | inr other ↦ inr (λ e. other (ap (λ (n : Node). n.model) e))
  | inl model ↦ elim (decided (pointwise entry_eq x.stack y.stack) (pointwise_decides entry_eq-decides x.stack y.stack)) [
    | inr other ↦ inr (λ e. other (ap (λ (n : Node). n.stack) e))
    | inl stack ↦ inl (λ i. record { model = model i; stack = stack i })
  ]
]

module _ (task : Task) where
  linear : IsLinear (order_by task 0)
  linear = record { total = move_cmp-total; identical = move_cmp-same }

  sound : IsMoveOrder IsBefore
  sound = breadth_order (order_by task 0) linear

  by_length : IsByLength IsBefore (IsLower (order_by task 0))
  by_length = breadth_length (order_by task 0) linear

  abbrev Begun : List (List Move) → Type 0
  Begun lists = Begins (space_of task) (order_by task 0) lists

  abbrev OverSomehow : List (List Move) → Type 0
  OverSomehow lists = (picked : List ℕ) × IsOver (space_of task) (order_by task 0) lists picked

  abbrev StopsSomewhere : Type 0
  StopsSomewhere = Stopped (space_of task) (order_by task 0) linear (aim_of task) (finite-allowed task)

  abbrev IsOverSomewhere : Type 0
  IsOverSomewhere = Finished (space_of task) (order_by task 0) linear (aim_of task) (finite-allowed task)

  some-run : ¬ ¬ (StopsSomewhere ⊎ IsOverSomewhere)
  some-run = stopped-or-finished (space_of task) (order_by task 0) linear (aim_of task) (finite-allowed task)

  stop-of : (s : StopsSomewhere) → breadth.IsStop task s.earlier s.last
  stop-of s = record {
    beginning = (blind_is_breadth (space_of task)).beginning (order_by task 0) linear (s.earlier ++ s.last ∷ []) s.stop.begins;
    unsolved = s.stop.unsolved;
    room = s.stop.room;
    stops = s.stop.stops;
  }

  whole-of : (f : IsOverSomewhere) → IsWhole task f.lists
  whole-of f = (blind_is_breadth (space_of task)).whole (order_by task 0) linear f.lists f.picked f.over

  -- a list is as far behind in all nodes as it is in a part
  far-within : (lists earlier : List (List Move)) (last : List Move) → IsWhole task lists → breadth.IsStop task earlier last
      → length earlier < length lists
  far-within lists earlier last whole stop =
      let place = place_of lists last (whole.every last (stop.beginning.least last (Contains-push earlier last))) in
      let number : place.0 ≡ length earlier =
      one_place (space_of task) IsBefore sound lists (earlier ++ last ∷ []) whole.beginning stop.beginning place.0 (length earlier) last
      place.1 (at_end earlier last) in
      omega (arith, number, place-within-list lists place.0 last place.1)

  -- ---- a stop

  possible : (earlier : List (List Move)) (last : List Move) → breadth.IsStop task earlier last → ¬ ¬ Begun (earlier ++ last ∷ [])
  possible earlier last stop never = some-run (λ r. elim r [
    | inl s ↦
        let prefix : s.earlier ≡ earlier = same_earlier task s.earlier earlier s.last last (stop-of s) stop in
        let end : s.last ≡ last = same_stop task s.earlier earlier s.last last (stop-of s) stop in
        never (subst (λ (l : List (List Move)). Begun (l ++ last ∷ [])) prefix
        (subst (λ (l : List Move). Begun (s.earlier ++ l ∷ [])) end s.stop.begins))
    | inr f ↦ elim stop.stops [
      | inl solved ↦ f.unsolved last
          ((whole-of f).every last (stop.beginning.least last (Contains-push earlier last))) solved
      | inr full ↦ omega (arith, full, f.room, far-within f.lists earlier last (whole-of f) stop)
    ]
  ])

  stop-back : (earlier : List (List Move)) (last : List Move) → breadth.IsStop task earlier last
      → order_ends.IsStop (space_of task) (order_by task 0) (aim_of task) earlier last
  stop-back earlier last stop = record {
    begins = begins (space_of task) (order_by task 0) linear same_node (earlier ++ last ∷ []) stop.beginning
        (possible earlier last stop);
    unsolved = stop.unsolved;
    room = stop.room;
    stops = stop.stops;
  }

  -- ---- three of the ends

  abbrev IsUnlimited : Type 0
  IsUnlimited = order_ends.IsUnlimited (space_of task) (order_by task 0) (aim_of task)

  unlimited : ((node : Node) (limit : MetLimit) → ¬ breadth.IsShapeLimit task node limit) → IsUnlimited
  unlimited none moves question asked met =
      let limit : MetLimit = record { question = question; formula = met.0; shapes = met.1 } in
      none (node_of task moves) limit (weight_none_is_breadth.shape_limit task (node_of task moves) limit
      (record { moves = moves; node_is = refl; asked = asked; met = met.2 }))

  found_back : (moves : List Move) → breadth.IsFound task moves → IsFound task 0 moves
  found_back moves f = record {
    unlimited = unlimited (λ node limit s. ends_are_one.shape_limit_or_found task node limit moves s f);
    earlier = f.earlier;
    stop = stop-back f.earlier moves f.stop;
    room = f.room;
  }

  limit_back : (nodes : List Node) (moves : ℕ) → breadth.IsNodeLimit task nodes moves → IsNodeLimit task 0 nodes moves
  limit_back nodes moves l = record {
    earlier = l.earlier;
    limit = record {
      unlimited = unlimited (λ node limit s. ends_are_one.shape_limit_or_node_limit task node limit nodes moves s l);
      last = l.last;
      stop = stop-back l.earlier l.last l.stop;
      full = l.full;
      moves_are = l.moves_are;
    };
    nodes_are = l.nodes_are;
  }

  -- all nodes in order are listed in one way
  not-longer : (lists others : List (List Move)) → IsWhole task lists → IsWhole task others → ¬ (length lists < length others)
  not-longer lists others w v less =
      let q = slice_index_or others (length lists) [] in
      let at_q : slice_get others (length lists) ≡ Some q = at_index others (length lists) [] less in
      let place = place_of lists q (w.every q (v.beginning.least q (contains_place others (length lists) q at_q))) in
      let number : place.0 ≡ length lists =
      one_place (space_of task) IsBefore sound lists others w.beginning v.beginning place.0 (length lists) q place.1 at_q in
      omega (arith, number, place-within-list lists place.0 q place.1)

  one-whole : (lists others : List (List Move)) → IsWhole task lists → IsWhole task others → lists ≡ others
  one-whole lists others w v = same_lists lists others long
      (beginnings_agree (space_of task) IsBefore sound lists others w.beginning v.beginning)
    where
      long : length lists ≡ length others
      long = elim (order_of (length lists) (length others)) [
        | inl less ↦ absurd (not-longer lists others w v less)
        | inr high ↦ elim (order_of (length others) (length lists)) [
          | inl less ↦ absurd (not-longer others lists v w less)
          | inr low ↦ omega (arith, high, low)
        ]
      ]

  module _ (x : breadth.IsExhausted task) where
    over-possible : ¬ ¬ OverSomehow x.lists
    over-possible never = some-run (λ r. elim r [
      | inl s ↦ elim s.stop.stops [
        | inl solved ↦ x.unsolved s.last ((stop-of s).beginning.least s.last (Contains-push s.earlier s.last)).made solved
        | inr full ↦ omega (arith, full, x.room, far-within x.lists s.earlier s.last x.whole (stop-of s))
      ]
      | inr f ↦ never (
        f.picked,
        subst (λ (l : List (List Move)). IsOver (space_of task) (order_by task 0) l f.picked)
            (one-whole f.lists x.lists (whole-of f) x.whole) f.over,
      )
    ])

    exhausted_back : IsExhausted task 0
    exhausted_back = record {
      unlimited = unlimited (λ node limit s. ends_are_one.shape_limit_or_exhausted task node limit s x);
      lists = x.lists;
      picked = down_from (length x.lists);
      over = is-over (space_of task) (order_by task 0) linear same_node x.lists x.whole.beginning
          (λ never. over-possible (λ o. never (o.0, o.1.comes))) over-possible;
      unsolved = λ moves has. x.unsolved moves (x.whole.beginning.least moves has).made;
      room = x.room;
    }

  -- ---- the limit of shapes

  abbrev IsGone : List Move → Type 0
  IsGone moves = order_ends.IsGoneThrough (space_of task) (order_by task 0) (aim_of task) moves

  abbrev IsTried : List Move → Type 0
  IsTried moves = order_ends.IsTested (space_of task) (order_by task 0) (aim_of task) moves

  -- the same search, where nothing meets a limit
  abbrev free_aim : order_ends.Aim Node Question
  free_aim = record (aim_of task) { meets = λ question. ⊥ }

  abbrev free-end : (f : IsOverSomewhere) → order_ends.IsExhausted (space_of task) (order_by task 0) free_aim
  free-end f = record {
    unlimited = λ moves question asked met. met;
    lists = f.lists;
    picked = f.picked;
    over = f.over;
    unsolved = f.unsolved;
    room = f.room;
  }

  gone-back : (StopsSomewhere ⊎ IsOverSomewhere) → (moves : List Move) → breadth.IsGoneThrough task moves → IsGone moves
  gone-back (inl s) moves g =
      let from = g.early s.earlier s.last (stop-of s) in
      least-gone (space_of task) IsBefore sound (order_by task 0) by_length (aim_of task) s.earlier s.last s.stop from.0 from.1 from.2 moves
      g.least from.3
  gone-back (inr f) moves g =
      let h = list-gone (space_of task) free_aim (order_by task 0) (free-end f) moves ((whole-of f).every moves g.least) in
      record {
        found = h.found;
        place = h.place;
        picked = h.picked;
        comes = h.comes;
        stands = h.stands;
        unsolved = h.unsolved;
        room = h.room;
      }

  -- a list before the stop was tried
  tried-at : (s : StopsSomewhere) (moves : List Move) (place : ℕ) → slice_get (s.earlier ++ s.last ∷ []) place ≡ Some moves
      → place < length s.earlier → IsTried moves
  tried-at s moves place at low =
      let f = found-at (space_of task) (order_by task 0) s.stop.begins.1.0 (s.earlier ++ s.last ∷ []) s.stop.begins.0 s.stop.begins.1.1 place
      (place-within-list (s.earlier ++ s.last ∷ []) place moves at) in
      subst IsTried (some-one f.moves moves (sym f.stands ∙ at)) (record {
        earlier = f.earlier;
        begins = f.begins;
        unsolved = λ l has.
            let i = place_of f.earlier l has in
            let inside = place-within-list f.earlier i.0 l i.1 in
            let there : slice_get (s.earlier ++ s.last ∷ []) i.0 ≡ Some l =
            ap (λ (z : List (List Move)). slice_get z i.0) f.found_is
            ∙ still_there (f.earlier ++ f.moves ∷ []) f.rest i.0 l (still_there f.earlier (f.moves ∷ []) i.0 l i.1) in
            elim (push-cases s.earlier s.last l i.0 there) [
              | inl old ↦ s.stop.unsolved l (contains_place s.earlier i.0 l old)
              | inr end ↦ absurd (omega (arith, end.0, inside, f.number, low))
            ];
        room = omega (arith, f.number, low, s.stop.room);
      })

  tried-back : (StopsSomewhere ⊎ IsOverSomewhere) → (moves : List Move) → breadth.IsTested task moves → IsTried moves
  tried-back (inl s) moves t = elim (t.early s.earlier s.last (stop-of s)) [
    | inl less ↦
        let has = (stop-of s).beginning.closed moves s.last (Contains-push s.earlier s.last) t.least less in
        let place = place_of (s.earlier ++ s.last ∷ []) moves has in
        elim (push-cases s.earlier s.last moves place.0 place.1) [
          | inl old ↦ tried-at s moves place.0 place.1 (place-within-list s.earlier place.0 moves old)
          | inr end ↦ absurd (sound.irreflexive moves (subst (λ (l : List Move). IsBefore moves l) end.1 less))
        ]
    | inr here ↦ subst IsTried (sym here.0)
        (record { earlier = s.earlier; begins = s.stop.begins; unsolved = s.stop.unsolved; room = here.1 })
  ]
  tried-back (inr f) moves t =
      let h = list-tested (space_of task) free_aim (order_by task 0) (free-end f) moves ((whole-of f).every moves t.least) in
      record { earlier = h.earlier; begins = h.begins; unsolved = h.unsolved; room = h.room }

  asked-back : (StopsSomewhere ⊎ IsOverSomewhere) → (moves : List Move) (question : Question) → breadth.IsAsked task moves question
      → IsAsked task 0 moves question
  asked-back r moves question (inl (gone, asks)) = inl (gone-back r moves gone, asks)
  asked-back r moves question (inr (tested, is)) = inr (tried-back r moves tested, (tested.empty, is))

  shapes_back : (node : Node) (limit : MetLimit) → breadth.IsShapeLimit task node limit → ¬ ¬ IsShapeLimit task 0 node limit
  shapes_back node limit s never = some-run (λ r. never (record {
    moves = s.moves;
    node_is = s.node_is;
    asked = asked-back r s.moves limit.question s.asked;
    met = s.met;
  }))

pub weight_none_is_exactly_breadth : WeightNoneIsExactlyBreadth
weight_none_is_exactly_breadth = record {
  found = λ task moves. (weight_none_is_breadth.found task moves, found_back task moves);
  exhausted = λ task. (weight_none_is_breadth.exhausted task, exhausted_back task);
  node_limit = λ task nodes moves. (weight_none_is_breadth.node_limit task nodes moves, limit_back task nodes moves);
  shape_limit = weight_none_is_breadth.shape_limit;
  shape_limit_back = shapes_back;
}
