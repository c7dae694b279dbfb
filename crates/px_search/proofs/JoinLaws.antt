-- Joining two lists of pushes that are in order.
use Rattle.std.proofs.Common.{◌≡◌, ◌↔◌, ◌⊎◌, ◌+◌, ◌-◌, ◌++◌, ℕ, zero, suc, List, [], ◌∷◌, map, length, take, drop, length-drop, slice_get, Some, ap, sym, subst, inl, inr, arith, ◌∙◌}
use Rattle.std.specs.Prelude.{Contains}
use Rattle.std.specs.List.{AllByRecursion}
use Rattle.std.specs.List.Sorted.{IsStrictlySortedBy}
use Rattle.std.specs.Ordering.{ordering_reverse}
use Rattle.std.specs.declared.cmp.Ordering.{Ordering}
use Rattle.std.specs.declared.cmp.Ordering.TheVariants.{Less, Equal, Greater}
use Rattle.std.proofs.lemmas.List.{append-nil, append_assoc, map-append, take_all}
use Rattle.std.proofs.lemmas.List.Elements.{Contains-append_left, Contains-append_right, Contains-append_cases}
use Rattle.px_base.specs.ListLaws.{Contains-none, Contains-first, Contains-later, Contains-cases}
use Rattle.px_table.specs.declared.entry.Entry.{Entry}
use Rattle.px_table.specs.declared.entry.Move.{Move}
use Rattle.px_table.specs.declared.entry.Move.TheVariants.{Push}
use Rattle.px_table.specs.EntryLaws.{order_of_entries-same, order_of_entries-total}
use Rattle.px_table.specs.EntryOrder.{order_of_entries}
use Rattle.px_numbers.specs.Numbers.{Kept}
use Rattle.px_search.specs.Offers.{AreJoined, ArePushes}
use Rattle.px_search.specs.Steps.{AreStepsOf, DescribesMove}
use Rattle.px_search.specs.declared.step.Step.{Step}

-- ---- lists

drop_suc : {X : Type 0} (xs : List X) (k : ℕ) (x : X) → slice_get xs k ≡ Some x → drop k xs ≡ x ∷ drop (suc k) xs
drop_suc [] k x at = absurd (cc)
drop_suc (y ∷ xs) zero x at = let same : y ≡ x = cc in ap (λ z. z ∷ xs) same
drop_suc (y ∷ xs) (suc k) x at = drop_suc xs k x at

pub drop_at : {X : Type 0} (xs : List X) (k : ℕ) (x : X) → slice_get xs k ≡ Some x → drop k xs ≡ x ∷ drop (k + 1) xs
drop_at xs k x at = let n : suc k ≡ k + 1 = omega arith in drop_suc xs k x at ∙ ap (λ (m : ℕ). x ∷ drop m xs) n

-- what is left from a place on, put at the end
pub put_rest : (made new xs : List Step) (k : ℕ) → new ≡ made ++ take (length xs - k) (drop k xs) → new ≡ made ++ drop k xs
put_rest made new xs k is = is ∙ ap (λ (l : List Step). made ++ l) (take_all (length xs - k) (drop k xs) (omega (arith, length-drop k xs)))

module _ {X : Type 0} where
  to_rest : (done rest : List X) (e x : X) → Contains (done ++ e ∷ []) x → Contains done x ⊎ Contains (e ∷ rest) x
  to_rest done rest e x has = elim (Contains-append_cases done (e ∷ []) x has) [
    | inl before ↦ inl before
    | inr last ↦ elim (Contains-cases e [] x last) [
      | inl is ↦ inr (subst (Contains (e ∷ rest)) is (Contains-first e rest))
      | inr later ↦ absurd (Contains-none x later)
    ]
  ]

  is_last : (done : List X) (e x : X) → e ≡ x → Contains (done ++ e ∷ []) x
  is_last done e x is = Contains-append_right done (e ∷ []) x (subst (Contains (e ∷ [])) is (Contains-first e []))

-- what is in three parts, where the first item of the second is put at the end of the first, and the third keeps what isn't put there
module _ {X : Type 0} (done rest before after : List X) (e : X) (still : (x : X) → Contains after x → Contains before x)
    (put : (x : X) → Contains before x → Contains (done ++ e ∷ []) x ⊎ Contains after x) where
  put-members : (x : X) → (Contains (done ++ e ∷ []) x ⊎ (Contains rest x ⊎ Contains after x))
      ↔ (Contains done x ⊎ (Contains (e ∷ rest) x ⊎ Contains before x))
  put-members x = (
    λ either. elim either [
      | inl has ↦ elim (to_rest done rest e x has) [
        | inl earlier ↦ inl earlier
        | inr here ↦ inr (inl here)
      ]
      | inr left ↦ elim left [
        | inl later ↦ inr (inl (Contains-later e rest x later))
        | inr other ↦ inr (inr (still x other))
      ]
    ],
    λ given. elim given [
      | inl earlier ↦ inl (Contains-append_left done (e ∷ []) x earlier)
      | inr left ↦ elim left [
        | inl one ↦ elim (Contains-cases e rest x one) [
          | inl is ↦ inl (is_last done e x is)
          | inr later ↦ inr (inl later)
        ]
        | inr other ↦ elim (put x other) [
          | inl last ↦ inl last
          | inr later ↦ inr (inr later)
        ]
      ]
    ],
  )

-- ---- order

module _ {X : Type 0} (P : X → Type 0) where
  all_put : (done rest others : List X) (e : X) → AllByRecursion P (done ++ e ∷ rest) → AllByRecursion P (done ++ others)
      → AllByRecursion P ((done ++ e ∷ []) ++ others)
  all_put [] rest others e a b = (a.0, b)
  all_put (d ∷ done) rest others e a b = (a.0, all_put done rest others e a.1 b.1)

module _ {X : Type 0} (R : X → X → Ordering) where
  sorted_put : (done rest others : List X) (e : X) → IsStrictlySortedBy R (done ++ e ∷ rest) → IsStrictlySortedBy R (done ++ others)
      → AllByRecursion (λ y. R e y ≡ Less) others → IsStrictlySortedBy R ((done ++ e ∷ []) ++ others)
  unfolding IsStrictlySortedBy
  sorted_put [] rest others e a b below = (below, b)
  sorted_put (d ∷ done) rest others e a b below =
      (all_put (λ y. R d y ≡ Less) done rest others e a.0 b.0, sorted_put done rest others e a.1 b.1 below)

  sorted_next : (done rest : List X) (e : X) → IsStrictlySortedBy R (done ++ e ∷ rest) → IsStrictlySortedBy R ((done ++ e ∷ []) ++ rest)
  sorted_next done rest e sorted = subst (IsStrictlySortedBy R) (sym (append_assoc done (e ∷ []) rest)) sorted

  sorted_from : (done rest : List X) → IsStrictlySortedBy R (done ++ rest) → IsStrictlySortedBy R rest
  unfolding IsStrictlySortedBy
  sorted_from [] rest sorted = sorted
  sorted_from (d ∷ done) rest sorted = sorted_from done rest sorted.1

  sorted_first : (e : X) (rest : List X) → IsStrictlySortedBy R (e ∷ rest) → AllByRecursion (λ y. R e y ≡ Less) rest
  unfolding IsStrictlySortedBy
  sorted_first e rest sorted = sorted.0

below_all : (e f : Entry) (others : List Entry) → order_of_entries e f ≡ Less → AllByRecursion (λ y. order_of_entries f y ≡ Less) others
    → AllByRecursion (λ y. order_of_entries e y ≡ Less) others
below_all e f [] less all = tt
below_all e f (y ∷ others) less all = (order_of_entries-total.trans e f y less all.0, below_all e f others less all.1)

turned : (e f : Entry) → order_of_entries e f ≡ Greater → order_of_entries f e ≡ Less
turned e f greater = order_of_entries-total.antisymm f e ∙ ap ordering_reverse greater

-- ---- steps

steps_join : (kept : Kept) (ss ts : List Step) (ms ns : List Move) → AreStepsOf kept ss ms → AreStepsOf kept ts ns
    → AreStepsOf kept (ss ++ ts) (ms ++ ns)
steps_join kept [] ts [] ns are more = more
steps_join kept [] ts (m ∷ ms) ns are more = absurd are
steps_join kept (s ∷ ss) ts [] ns are more = absurd are
steps_join kept (s ∷ ss) ts (m ∷ ms) ns are more = (are.0, steps_join kept ss ts ms ns are.1 more)

pushes_join : (kept : Kept) (ss ts : List Step) (es fs : List Entry) → AreStepsOf kept ss (map Push es) → AreStepsOf kept ts (map Push fs)
    → AreStepsOf kept (ss ++ ts) (map Push (es ++ fs))
pushes_join kept ss ts es fs are more =
    subst (AreStepsOf kept (ss ++ ts)) (sym (map-append Push es fs)) (steps_join kept ss ts (map Push es) (map Push fs) are more)

-- ---- joining

-- the pushes of `done` are joined, and those of `rest` and `others` are left
pub record AreJoining (kept : Kept) (firsts seconds done rest others : List Entry) (first second made : List Step) : Type 0 where
  pub done_are : AreStepsOf kept made (map Push done)
  pub rest_are : AreStepsOf kept first (map Push rest)
  pub others_are : AreStepsOf kept second (map Push others)
  pub before_rest : IsStrictlySortedBy order_of_entries (done ++ rest)
  pub before_others : IsStrictlySortedBy order_of_entries (done ++ others)
  pub members : (entry : Entry) → (Contains done entry ⊎ (Contains rest entry ⊎ Contains others entry))
      ↔ (Contains firsts entry ⊎ Contains seconds entry)

pub record Joining (kept : Kept) (firsts seconds : List Entry) (first second made : List Step) : Type 0 where
  pub done : List Entry
  pub rest : List Entry
  pub others : List Entry
  pub are : AreJoining kept firsts seconds done rest others first second made

other_way : {A B : Type 0} → A ⊎ B → B ⊎ A
other_way (inl a) = inr a
other_way (inr b) = inl b

pub joining-start : (kept : Kept) (firsts seconds : List Entry) (first second : List Step) → ArePushes kept firsts first
    → ArePushes kept seconds second → Joining kept firsts seconds first second []
joining-start kept firsts seconds first second a b = record {
  done = [];
  rest = firsts;
  others = seconds;
  are = record {
    done_are = tt;
    rest_are = a.steps_are;
    others_are = b.steps_are;
    before_rest = a.ordered;
    before_others = b.ordered;
    members = λ entry. (
      λ either. elim either [
        | inl before ↦ absurd (Contains-none entry before)
        | inr left ↦ left
      ],
      λ left. inr left,
    );
  };
}

are_joining-turned : (kept : Kept) (firsts seconds done rest others : List Entry) (first second made : List Step)
    → AreJoining kept firsts seconds done rest others first second made → AreJoining kept seconds firsts done others rest second first made
are_joining-turned kept firsts seconds done rest others first second made j = record {
  done_are = j.done_are;
  rest_are = j.others_are;
  others_are = j.rest_are;
  before_rest = j.before_others;
  before_others = j.before_rest;
  members = λ entry. (
    λ either. other_way ((j.members entry).0 (elim either [
      | inl before ↦ inl before
      | inr left ↦ inr (other_way left)
    ])),
    λ left. elim ((j.members entry).1 (other_way left)) [
      | inl before ↦ inl before
      | inr later ↦ inr (other_way later)
    ],
  );
}

joining-turned : (kept : Kept) (firsts seconds : List Entry) (first second made : List Step) → Joining kept firsts seconds first second made
    → Joining kept seconds firsts second first made
joining-turned kept firsts seconds first second made j =
    record {
      done = j.done;
      rest = j.others;
      others = j.rest;
      are = are_joining-turned kept firsts seconds j.done j.rest j.others first second made j.are;
    }

joined-turned : (kept : Kept) (firsts seconds : List Entry) (steps : List Step) → AreJoined kept firsts seconds steps
    → AreJoined kept seconds firsts steps
joined-turned kept firsts seconds steps j = record {
  entries = j.entries;
  members = λ entry. (λ has. other_way ((j.members entry).0 has), λ either. (j.members entry).1 (other_way either));
  pushes = j.pushes;
}

module _ (kept : Kept) (firsts seconds : List Entry) (first second made : List Step) (s t : Step) where
  -- the first of the one list comes before all others
  less_by : (done rest others : List Entry) → AreJoining kept firsts seconds done rest others (s ∷ first) (t ∷ second) made
      → ((e f : Entry) → DescribesMove kept s (Push e) → DescribesMove kept t (Push f) → order_of_entries e f ≡ Less)
      → Joining kept firsts seconds first (t ∷ second) (made ++ s ∷ [])
  less_by done [] others j less = absurd j.rest_are
  less_by done (e ∷ rest) [] j less = absurd j.others_are
  less_by done (e ∷ rest) (f ∷ others) j less = record {
    done = done ++ e ∷ [];
    rest = rest;
    others = f ∷ others;
    are = record {
      done_are = pushes_join kept made (s ∷ []) done (e ∷ []) j.done_are (j.rest_are.0, tt);
      rest_are = j.rest_are.1;
      others_are = j.others_are;
      before_rest = sorted_next order_of_entries done rest e j.before_rest;
      before_others =
          sorted_put order_of_entries done rest (f ∷ others) e j.before_rest j.before_others (
            below,
            below_all e f others below (sorted_first order_of_entries f others
                (sorted_from order_of_entries done (f ∷ others) j.before_others)),
          );
      members =
          λ entry. let put =
          put-members done rest (f ∷ others) (f ∷ others) e (λ x has. has) (λ x has. inr has) entry in
          (λ either. (j.members entry).0 (put.0 either), λ given. put.1 ((j.members entry).1 given));
    };
  }
    where
      below : order_of_entries e f ≡ Less
      below = less e f j.rest_are.0 j.others_are.0

  -- the first ones of both lists are the same
  same_by : (done rest others : List Entry) → AreJoining kept firsts seconds done rest others (s ∷ first) (t ∷ second) made
      → ((e f : Entry) → DescribesMove kept s (Push e) → DescribesMove kept t (Push f) → order_of_entries e f ≡ Equal)
      → Joining kept firsts seconds first second (made ++ s ∷ [])
  same_by done [] others j equal = absurd j.rest_are
  same_by done (e ∷ rest) [] j equal = absurd j.others_are
  same_by done (e ∷ rest) (f ∷ others) j equal = record {
    done = done ++ e ∷ [];
    rest = rest;
    others = others;
    are = record {
      done_are = pushes_join kept made (s ∷ []) done (e ∷ []) j.done_are (j.rest_are.0, tt);
      rest_are = j.rest_are.1;
      others_are = j.others_are.1;
      before_rest = sorted_next order_of_entries done rest e j.before_rest;
      before_others =
          subst (λ (x : Entry). IsStrictlySortedBy order_of_entries ((done ++ x ∷ []) ++ others)) (sym same)
          (sorted_next order_of_entries done others f j.before_others);
      members =
          λ entry. let put =
          put-members done rest (f ∷ others) others e (Contains-later f others) later_or_last entry in
          (λ either. (j.members entry).0 (put.0 either), λ given. put.1 ((j.members entry).1 given));
    };
  }
    where
      same : e ≡ f
      same = order_of_entries-same e f (equal e f j.rest_are.0 j.others_are.0)

      later_or_last : (x : Entry) → Contains (f ∷ others) x → Contains (done ++ e ∷ []) x ⊎ Contains others x
      later_or_last x has = elim (Contains-cases f others x has) [
        | inl is ↦ inl (is_last done e x (same ∙ is))
        | inr later ↦ inr later
      ]

  pub joining-less : Joining kept firsts seconds (s ∷ first) (t ∷ second) made
      → ((e f : Entry) → DescribesMove kept s (Push e) → DescribesMove kept t (Push f) → order_of_entries e f ≡ Less)
      → Joining kept firsts seconds first (t ∷ second) (made ++ s ∷ [])
  joining-less j less = less_by j.done j.rest j.others j.are less

  pub joining-same : Joining kept firsts seconds (s ∷ first) (t ∷ second) made
      → ((e f : Entry) → DescribesMove kept s (Push e) → DescribesMove kept t (Push f) → order_of_entries e f ≡ Equal)
      → Joining kept firsts seconds first second (made ++ s ∷ [])
  joining-same j equal = same_by j.done j.rest j.others j.are equal

pub joining-greater : (kept : Kept) (firsts seconds : List Entry) (first second made : List Step) (s t : Step)
    → Joining kept firsts seconds (s ∷ first) (t ∷ second) made
    → ((e f : Entry) → DescribesMove kept s (Push e) → DescribesMove kept t (Push f) → order_of_entries e f ≡ Greater)
    → Joining kept firsts seconds (s ∷ first) second (made ++ t ∷ [])
joining-greater kept firsts seconds first second made s t j greater =
    joining-turned kept seconds firsts second (s ∷ first) (made ++ t ∷ [])
    (joining-less kept seconds firsts second first made t s (joining-turned kept firsts seconds (s ∷ first) (t ∷ second) made j)
    (λ f e is is'. turned e f (greater e f is' is)))

-- the entries of the first steps that are left
pub first_left : (kept : Kept) (firsts seconds : List Entry) (first second made : List Step) (s : Step)
    → Joining kept firsts seconds (s ∷ first) second made → (entry : Entry) × DescribesMove kept s (Push entry)
first_left kept firsts seconds first second made s j = by j.rest j.are.rest_are
  where
    by : (rest : List Entry) → AreStepsOf kept (s ∷ first) (map Push rest) → (entry : Entry) × DescribesMove kept s (Push entry)
    by [] are = absurd are
    by (e ∷ rest) are = (e, are.0)

pub second_left : (kept : Kept) (firsts seconds : List Entry) (first second made : List Step) (t : Step)
    → Joining kept firsts seconds first (t ∷ second) made → (entry : Entry) × DescribesMove kept t (Push entry)
second_left kept firsts seconds first second made t j =
    first_left kept seconds firsts second first made t (joining-turned kept firsts seconds first (t ∷ second) made j)

-- ---- at places of the two lists

module _ (kept : Kept) (firsts seconds : List Entry) (first second made : List Step) (i j : ℕ) (s t : Step) where
  pub joining-at : slice_get first i ≡ Some s → slice_get second j ≡ Some t
      → Joining kept firsts seconds (drop i first) (drop j second) made
      → Joining kept firsts seconds (s ∷ drop (i + 1) first) (t ∷ drop (j + 1) second) made
  joining-at at at' g =
      subst (λ (l : List Step). Joining kept firsts seconds (s ∷ drop (i + 1) first) l made) (drop_at second j t at')
      (subst (λ (l : List Step). Joining kept firsts seconds l (drop j second) made) (drop_at first i s at) g)

  pub first_at : slice_get first i ≡ Some s → slice_get second j ≡ Some t → Joining kept firsts seconds (drop i first) (drop j second) made
      → (entry : Entry) × DescribesMove kept s (Push entry)
  first_at at at' g = first_left kept firsts seconds (drop (i + 1) first) (t ∷ drop (j + 1) second) made s (joining-at at at' g)

  pub second_at : slice_get first i ≡ Some s → slice_get second j ≡ Some t → Joining kept firsts seconds (drop i first) (drop j second) made
      → (entry : Entry) × DescribesMove kept t (Push entry)
  second_at at at' g = second_left kept firsts seconds (s ∷ drop (i + 1) first) (drop (j + 1) second) made t (joining-at at at' g)

  module _ (order : Ordering) (new : List Step) (says : (e f : Entry) → DescribesMove kept s (Push e) → DescribesMove kept t (Push f)
      → order ≡ order_of_entries e f) where
    pub next-less : slice_get first i ≡ Some s → slice_get second j ≡ Some t
        → Joining kept firsts seconds (drop i first) (drop j second) made → order ≡ Less → new ≡ made ++ s ∷ []
        → Joining kept firsts seconds (drop (i + 1) first) (drop j second) new
    next-less at at' g is new_is =
        subst (Joining kept firsts seconds (drop (i + 1) first) (drop j second)) (sym new_is)
        (subst (λ (l : List Step). Joining kept firsts seconds (drop (i + 1) first) l (made ++ s ∷ [])) (sym (drop_at second j t at'))
        (joining-less kept firsts seconds (drop (i + 1) first) (drop (j + 1) second) made s t (joining-at at at' g)
        (λ e f of_s of_t. sym (says e f of_s of_t) ∙ is)))

    pub next-same : slice_get first i ≡ Some s → slice_get second j ≡ Some t
        → Joining kept firsts seconds (drop i first) (drop j second) made → order ≡ Equal → new ≡ made ++ s ∷ []
        → Joining kept firsts seconds (drop (i + 1) first) (drop (j + 1) second) new
    next-same at at' g is new_is =
        subst (Joining kept firsts seconds (drop (i + 1) first) (drop (j + 1) second)) (sym new_is)
        (joining-same kept firsts seconds (drop (i + 1) first) (drop (j + 1) second) made s t (joining-at at at' g)
        (λ e f of_s of_t. sym (says e f of_s of_t) ∙ is))

    pub next-greater : slice_get first i ≡ Some s → slice_get second j ≡ Some t
        → Joining kept firsts seconds (drop i first) (drop j second) made → order ≡ Greater → new ≡ made ++ t ∷ []
        → Joining kept firsts seconds (drop i first) (drop (j + 1) second) new
    next-greater at at' g is new_is =
        subst (Joining kept firsts seconds (drop i first) (drop (j + 1) second)) (sym new_is)
        (subst (λ (l : List Step). Joining kept firsts seconds l (drop (j + 1) second) (made ++ t ∷ [])) (sym (drop_at first i s at))
        (joining-greater kept firsts seconds (drop (i + 1) first) (drop (j + 1) second) made s t (joining-at at at' g)
        (λ e f of_s of_t. sym (says e f of_s of_t) ∙ is)))

-- ---- where one of the lists is done

joined-by : (kept : Kept) (firsts seconds done rest others : List Entry) (second made : List Step)
    → AreJoining kept firsts seconds done rest others [] second made → AreJoined kept firsts seconds (made ++ second)
joined-by kept firsts seconds done (e ∷ rest) others second made j = absurd j.rest_are
joined-by kept firsts seconds done [] others second made j = record {
  entries = done ++ others;
  members = λ entry. (
    λ has. elim (Contains-append_cases done others entry has) [
      | inl before ↦ (j.members entry).0 (inl before)
      | inr other ↦ (j.members entry).0 (inr (inr other))
    ],
    λ given. elim ((j.members entry).1 given) [
      | inl before ↦ Contains-append_left done others entry before
      | inr left ↦ elim left [
        | inl one ↦ absurd (Contains-none entry one)
        | inr other ↦ Contains-append_right done others entry other
      ]
    ],
  );
  pushes = record { ordered = j.before_others; steps_are = pushes_join kept made second done others j.done_are j.others_are };
}

pub joined-first : (kept : Kept) (firsts seconds : List Entry) (second made : List Step) → Joining kept firsts seconds [] second made
    → AreJoined kept firsts seconds (made ++ second)
joined-first kept firsts seconds second made j = joined-by kept firsts seconds j.done j.rest j.others second made j.are

pub joined-second : (kept : Kept) (firsts seconds : List Entry) (first made : List Step) → Joining kept firsts seconds first [] made
    → AreJoined kept firsts seconds (made ++ first)
joined-second kept firsts seconds first made j =
    joined-turned kept seconds firsts (made ++ first)
    (joined-first kept seconds firsts first made (joining-turned kept firsts seconds first [] made j))

pub joined-past_first : (kept : Kept) (firsts seconds : List Entry) (first second made new all : List Step) → first ≡ []
    → Joining kept firsts seconds first second made → new ≡ made ++ first → all ≡ new ++ second → AreJoined kept firsts seconds all
joined-past_first kept firsts seconds first second made new all none g new_is all_is =
    subst (AreJoined kept firsts seconds) (sym (all_is
    ∙ ap (λ (l : List Step). l ++ second) (new_is ∙ ap (λ (l : List Step). made ++ l) none ∙ append-nil made)))
    (joined-first kept firsts seconds second made (subst (λ (l : List Step). Joining kept firsts seconds l second made) none g))

pub joined-past_second : (kept : Kept) (firsts seconds : List Entry) (first second made new all : List Step) → second ≡ []
    → Joining kept firsts seconds first second made → new ≡ made ++ first → all ≡ new ++ second → AreJoined kept firsts seconds all
joined-past_second kept firsts seconds first second made new all none g new_is all_is =
    subst (AreJoined kept firsts seconds) (sym (all_is ∙ ap (λ (l : List Step). new ++ l) none ∙ append-nil new ∙ new_is))
    (joined-second kept firsts seconds first made (subst (λ (l : List Step). Joining kept firsts seconds first l made) none g))
