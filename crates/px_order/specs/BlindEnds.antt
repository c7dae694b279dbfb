-- At weight 0 a search ends as one in breadth.
use Rattle.std.proofs.Common.{◌≡◌, ℕ, ◌<◌, ◌⊎◌, List, [], ◌∷◌, ◌++◌, length, refl, sym, ◌∙◌, ap, subst, inl, inr, arith, Some, slice_get, Contains}
use Rattle.std.proofs.lemmas.List.Elements.{Contains-push}
use Rattle.px_order.specs.Spaces.{Space, Order, IsLower, blind, at, IsLeast, IsBeginning}
use Rattle.px_order.specs.Places.{order_of, place_of, contains_place, place-within-list, push-cases, still_there, some-one, head-of, at_end}
use Rattle.px_order.specs.RunLaws.{over-reaches, node-push}
use Rattle.px_order.specs.RunOrigins.{found-at, FoundAt}
use Rattle.px_order.specs.Frontier.{IsMoveOrder}
use Rattle.px_order.specs.Beginnings.{places_ascend, one_place, can-prefix, prefix-least}
use Rattle.px_order.specs.Breadth.{IsByLength, Going, in_order, begins-least, over-whole}
use Rattle.px_order.specs.AtZero.{least-gone}
use Rattle.px_order.specs.Ends.{Aim, IsStop, IsGoneThrough, IsTested, IsAsked, IsUnlimited, IsFound, IsExhausted, IsNodeLimit}
use Rattle.px_order.specs.EndLaws.{list-gone, list-tested}
use Rattle.px_order.specs.BreadthEnds.{IsBreadthStop, IsMadeFrom, IsBreadthGone, IsBreadthTested, IsBreadthAsked, IsBreadthUnlimited, IsBreadthFound, IsBreadthExhausted, IsBreadthNodeLimit}

-- a list is empty, or has a last item
ends-in : {A : Type 0} (xs : List A) → (xs ≡ []) ⊎ ((prefix : List A) × (last : A) × (xs ≡ prefix ++ last ∷ []))
ends-in [] = inl refl
ends-in {A = A} (x ∷ xs) = elim (ends-in xs) [
  | inl e ↦ inr ([], x, ap (λ (l : List A). x ∷ l) e)
  | inr more ↦ inr (x ∷ more.0, more.1, ap (λ (l : List A). x ∷ l) more.2)
]

module _ {N M Q : Type 0} (space : Space N M) (before : List M → List M → Type 0) (sound : IsMoveOrder before) (order : Order N M)
    (by_length : IsByLength before (IsLower order)) (aim : Aim N Q) where
  -- ---- from the steps to the order of lists

  stop-breadth : (earlier : List (List M)) (last : List M) → IsStop space (blind order) aim earlier last
      → IsBreadthStop space before aim earlier last
  stop-breadth earlier last stop = record {
    beginning = begins-least space before sound order by_length (earlier ++ last ∷ []) stop.begins;
    unsolved = stop.unsolved;
    room = stop.room;
    stops = stop.stops;
  }

  module _ (earlier : List (List M)) (last : List M) (stop : IsStop space (blind order) aim earlier last) where
    abbrev all : List (List M)
    all = earlier ++ last ∷ []

    gone-steps : (moves : List M) → IsBreadthGone space before aim moves → IsGoneThrough space (blind order) aim moves
    gone-steps moves g =
        let from = g.early earlier last (stop-breadth earlier last stop) in
        least-gone space before sound order by_length aim earlier last stop from.0 from.1 from.2 moves g.least from.3

    tested-at : (place : ℕ) → place < length earlier → FoundAt space (blind order) all place → (moves : List M)
        → slice_get all place ≡ Some moves → IsTested space (blind order) aim moves
    tested-at place below s moves stands =
        subst (λ (l : List M). IsTested space (blind order) aim l) (some-one s.moves moves (sym s.stands ∙ stands)) (record {
          earlier = s.earlier;
          begins = s.begins;
          unsolved = λ l has.
              let i = place_of s.earlier l has in
              let inside = place-within-list s.earlier i.0 l i.1 in
              let there : slice_get all i.0 ≡ Some l =
              ap (λ (z : List (List M)). slice_get z i.0) s.found_is
              ∙ still_there (s.earlier ++ s.moves ∷ []) s.rest i.0 l (still_there s.earlier (s.moves ∷ []) i.0 l i.1) in
              elim (push-cases earlier last l i.0 there) [
                | inl old ↦ stop.unsolved l (contains_place earlier i.0 l old)
                | inr end ↦ absurd (omega (arith, end.0, inside, s.number, below))
              ];
          room = omega (arith, s.number, below, stop.room);
        })

    tested-steps : (moves : List M) → IsBreadthTested space before aim moves → IsTested space (blind order) aim moves
    tested-steps moves g = elim (g.early earlier last (stop-breadth earlier last stop)) [
      | inl less ↦
          let begins = begins-least space before sound order by_length all stop.begins in
          let place = place_of all moves (begins.closed moves last (Contains-push earlier last) g.least less) in
          let inside = place-within-list all place.0 moves place.1 in
          elim (push-cases earlier last moves place.0 place.1) [
            | inl old ↦ tested-at place.0 (place-within-list earlier place.0 moves old)
                (found-at space (blind order) stop.begins.1.0 all stop.begins.0 stop.begins.1.1 place.0 inside) moves place.1
            | inr end ↦ absurd (sound.irreflexive moves (subst (λ (l : List M). before moves l) end.1 less))
          ]
      | inr here ↦ subst (λ (l : List M). IsTested space (blind order) aim l) (sym here.0)
          (record { earlier = earlier; begins = stop.begins; unsolved = stop.unsolved; room = here.1 })
    ]

    unlimited-breadth : IsUnlimited space (blind order) aim → IsBreadthUnlimited space before aim
    unlimited-breadth unlimited moves q asked = elim asked [
      | inl a ↦ unlimited moves q (inl (gone-steps moves a.0, a.1))
      | inr a ↦ unlimited moves q (inr (tested-steps moves a.0, a.1))
    ]

  pub found-breadth : (moves : List M) → IsFound space (blind order) aim moves → IsBreadthFound space before aim moves
  found-breadth moves f = record {
    unlimited = unlimited-breadth f.earlier moves f.stop f.unlimited;
    earlier = f.earlier;
    stop = stop-breadth f.earlier moves f.stop;
    room = f.room;
  }

  pub node-limit-breadth : (earlier : List (List M)) (moves : ℕ) → IsNodeLimit space (blind order) aim earlier moves
      → IsBreadthNodeLimit space before aim earlier moves
  node-limit-breadth earlier moves f = record {
    unlimited = unlimited-breadth earlier f.last f.stop f.unlimited;
    last = f.last;
    stop = stop-breadth earlier f.last f.stop;
    full = f.full;
    moves_are = f.moves_are;
  }

  pub exhausted-breadth : IsExhausted space (blind order) aim → IsBreadthExhausted space before aim
  exhausted-breadth x =
      let whole = over-whole space before sound order by_length x.lists x.picked x.over in
      record {
        unlimited = λ moves q asked. elim asked [
          | inl a ↦ x.unlimited moves q
              (inl (list-gone space aim (blind order) x moves (whole.every moves a.0.least), a.1))
          | inr a ↦ x.unlimited moves q
              (inr (list-tested space aim (blind order) x moves (whole.every moves a.0.least), a.1))
        ];
        lists = x.lists;
        whole = whole;
        unsolved = λ moves can solved.
            let r = over-reaches space (blind order) x.lists x.picked x.over moves can in
            x.unsolved r.0 r.1 (subst aim.solved (sym r.2) solved);
        room = x.room;
      }

  -- ---- what is asked by the steps is asked in breadth

  -- a list with room for it, before which none is solved, stands no later than a stop, and before it where there is no room for that
  tested-breadth : (moves : List M) → IsTested space (blind order) aim moves → IsBreadthTested space before aim moves
  tested-breadth moves t =
      let begins = begins-least space before sound order by_length (t.earlier ++ moves ∷ []) t.begins in
      record {
        least = begins.least moves (Contains-push t.earlier moves);
        early = λ earlier last stop. elim (sound.total moves last) [
          | inl less ↦ inl less
          | inr (inl e) ↦
              let number = one_place space before sound (t.earlier ++ moves ∷ []) (earlier ++ last ∷ []) begins stop.beginning
              (length t.earlier) (length earlier) moves (at_end t.earlier moves) (at_end earlier last ∙ ap Some (sym e)) in
              inr (e, omega (arith, number, t.room))
          | inr (inr more) ↦
              let least = stop.beginning.least last (Contains-push earlier last) in
              let place = place_of (t.earlier ++ moves ∷ []) last
              (begins.closed last moves (Contains-push t.earlier moves) least more) in
              elim (push-cases t.earlier moves last place.0 place.1) [
                | inl old ↦
                    let number = one_place space before sound (t.earlier ++ moves ∷ []) (earlier ++ last ∷ []) begins stop.beginning
                    place.0 (length earlier) last place.1 (at_end earlier last) in
                    elim stop.stops [
                      | inl solved ↦ absurd (t.unsolved last (contains_place t.earlier place.0 last old) solved)
                      | inr full ↦ absurd (omega (arith, full, number, place-within-list t.earlier place.0 last old, t.room))
                    ]
                | inr end ↦ absurd (sound.irreflexive last (subst (λ (l : List M). before last l) end.1 more))
              ]
        ];
      }

  module _ (moves : List M) (g : IsGoneThrough space (blind order) aim moves)
      (going : Going space before sound order by_length g.found (g.place ∷ g.picked)) where
    begins : IsBeginning space before space.start g.found
    begins = begins-least space before sound order by_length g.found (g.place ∷ g.picked, g.comes)

    number : g.place ≡ going.next
    number = head-of g.place going.next g.picked _ going.picked_is

    module _ (earlier : List (List M)) (last : List M) (stop : IsBreadthStop space before aim earlier last) where
      -- the stop isn't found
      not-yet : ¬ Contains g.found last
      not-yet has =
          let place = place_of g.found last has in
          let same = one_place space before sound g.found (earlier ++ last ∷ []) begins stop.beginning place.0 (length earlier) last place.1
          (at_end earlier last) in
          elim stop.stops [
            | inl solved ↦ g.unsolved last has solved
            | inr full ↦ omega (arith, full, same, place-within-list g.found place.0 last place.1, g.room)
          ]

      module _ (parent : List M) (m : M) (is : last ≡ parent ++ m ∷ []) (less : before parent moves) where
        least-last : IsLeast space before space.start last
        least-last = stop.beginning.least last (Contains-push earlier last)

        least-whole : IsLeast space before space.start (parent ++ m ∷ [])
        least-whole = subst (λ (l : List M). IsLeast space before space.start l) is least-last

        parent-at : (i : ℕ) × (slice_get g.found i ≡ Some parent)
        parent-at = place_of g.found parent (begins.closed parent moves (contains_place g.found g.place moves g.stands)
            (prefix-least space before sound parent m least-whole) less)

        parent-earlier : parent-at.0 < g.place
        parent-earlier = elim (order_of parent-at.0 g.place) [
          | inl lower ↦ lower
          | inr high ↦ elim (order_of g.place parent-at.0) [
            | inl higher ↦ absurd (sound.irreflexive parent (sound.transitive parent moves parent less
                (places_ascend space before sound g.found begins g.place parent-at.0 moves parent higher g.stands parent-at.1)))
            | inr low ↦
                let same : parent-at.0 ≡ g.place = omega (arith, high, low) in
                let e : parent ≡ moves =
                some-one parent moves (sym parent-at.1 ∙ ap (λ (k : ℕ). slice_get g.found k) same ∙ g.stands) in
                absurd (sound.irreflexive moves (subst (λ (l : List M). before l moves) e less))
          ]
        ]

        stop-is-found : ⊥
        stop-is-found =
            let r = going.known.covered parent-at.0 parent m parent-at.1 (inl (omega (arith, parent-earlier, number)))
            (can-prefix space before sound space.start parent m least-whole.made).1 in
            let there : at space r.0 ≡ at space last =
            r.2 ∙ sym (node-push space (blind order) space.start parent m) ∙ sym (ap (λ (l : List M). at space l) is) in
            elim (sound.total r.0 last) [
              | inl less' ↦ least-last.least r.0 (begins.least r.0 r.1).made there less'
              | inr (inl e) ↦ not-yet (subst (λ (l : List M). Contains g.found l) e r.1)
              | inr (inr more) ↦ r.3 (subst (λ (l : List M). before l r.0) is more)
            ]

      made-from : IsMadeFrom space before aim moves last
      made-from = elim (ends-in last) [
        | inl e ↦ absurd (not-yet (subst (λ (l : List M). Contains g.found l) (sym e) (contains_place g.found 0 [] going.known.root)))
        | inr parts ↦ (parts.0, parts.1, parts.2, λ less. stop-is-found parts.0 parts.1 parts.2 less)
      ]

    gone-by-going : IsBreadthGone space before aim moves
    gone-by-going = record { least = begins.least moves (contains_place g.found g.place moves g.stands); early = made-from }

  gone-breadth : (moves : List M) → IsGoneThrough space (blind order) aim moves → IsBreadthGone space before aim moves
  gone-breadth moves g = elim (in_order space before sound order by_length g.comes.0 g.found (g.place ∷ g.picked) g.comes.1) [
    | inl first ↦ absurd (none g.place g.picked first.1)
    | inr going ↦ gone-by-going moves g going
  ]
    where
      none : (a : ℕ) (xs : List ℕ) → ¬ (a ∷ xs ≡ [])
      none a xs e = cc

  pub asked-breadth : (moves : List M) (q : Q) → IsAsked space (blind order) aim moves q → IsBreadthAsked space before aim moves q
  asked-breadth moves q asked = elim asked [
    | inl a ↦ inl (gone-breadth moves a.0, a.1)
    | inr a ↦ inr (tested-breadth moves a.0, a.1)
  ]
