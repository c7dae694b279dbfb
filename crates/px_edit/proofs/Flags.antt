-- Flags of steps: setting one, the walk over the marks, and what the flags say in the end.
use Rattle.std.specs.Prelude.{◌≡◌, ◌↔◌, ◌⊎◌, ◌+◌, ◌<◌, ◌≤◌, ℕ, Bool, true, false, Some, List, [], ◌∷◌, ◌++◌, length, replicate, set, slice_get, slice_index, slice_index_or, All, AllPairs, Contains}
use Rattle.std.specs.List.Sorted.{IsStrictlyIncreasing}
use Rattle.std.proofs.Common.{zero, suc, refl, sym, ap, ◌∙◌, subst, inl, inr, arith, length-append}
use Rattle.std.proofs.lemmas.List.{length-replicate}
use Rattle.std.proofs.lemmas.List.Elements.{All-append, Contains-push, Contains-push_cases, Contains-append_left}
use Rattle.std.proofs.lemmas.List.Kept.{AllPairs-cons}
use Rattle.px_base.specs.Answers.{some_same}
use Rattle.px_base.specs.ListLaws.{All-at, All-each, Contains-none}
use Rattle.px_terms.specs.declared.problem.Problem.{Problem}
use Rattle.px_proof.specs.Derivation.{Derivation}
use Rattle.px_proof.specs.PlaceLaws.{slice_get-read, slice_get-within}
use Rattle.px_table.specs.declared.mark.Mark.{Mark}
use Rattle.px_table.specs.declared.table.Table.{Table}
use Rattle.px_table.specs.Marks.{IsNamed, marks_from, row_marks}
use Rattle.px_table.specs.Tables.{IsTable, rows_of}
use Rattle.px_edit.specs.Editing.{AreKeptSteps, IsNeededStep, asked, rested_on}
use Rattle.px_edit.specs.Keeping.{AreAsked, AreFlagged, AreMarksBelow, HasFlag}
use Rattle.px_edit.proofs.KeptParts.{table-rows}
use Rattle.px_edit.proofs.Lists.{mark-at, place_of, read-at, row_mark-leaf, there_at}

-- ---- setting a flag

pub set-flag : (flags : List Bool) (i : ℕ) → i < length flags → (k : ℕ) → HasFlag (set flags i true) k ↔ (HasFlag flags k ⊎ (k ≡ i))
set-flag [] i below k = absurd (omega (arith, below))
set-flag (b ∷ flags) zero below zero = (λ _. inr refl, λ _. refl)
set-flag (b ∷ flags) zero below (suc k) = (λ h. inl h, λ h. elim h [ inl old ↦ old | inr e ↦ absurd (omega (arith, e)) ])
set-flag (b ∷ flags) (suc i) below zero = (λ h. inl h, λ h. elim h [ inl old ↦ old | inr e ↦ absurd (omega (arith, e)) ])
set-flag (b ∷ flags) (suc i) below (suc k) =
    let rest = set-flag flags i (omega (arith, below)) k in (
      λ h. elim (rest.0 h) [ inl old ↦ inl old | inr e ↦ inr (ap suc e) ],
      λ h. elim h [ inl old ↦ rest.1 (inl old) | inr e ↦ rest.1 (inr (omega (arith, e))) ],
    )

pub length-set_flag : (flags : List Bool) (i : ℕ) (b : Bool) → length (set flags i b) ≡ length flags
length-set_flag [] i b = refl
length-set_flag (f ∷ flags) zero b = refl
length-set_flag (f ∷ flags) (suc i) b = ap suc (length-set_flag flags i b)

pub flag-within : (flags : List Bool) (k : ℕ) → HasFlag flags k → k < length flags
flag-within [] k is = absurd (cc)
flag-within (b ∷ flags) zero is = omega arith
flag-within (b ∷ flags) (suc k) is = omega (arith, flag-within flags k is)

-- whatever is given for a place past the end, a place within has its flag
pub read-flag : (flags : List Bool) (k : ℕ) (d : Bool) → k < length flags → slice_index_or flags k d ≡ true → HasFlag flags k
read-flag [] k d below is = absurd (omega (arith, below))
read-flag (b ∷ flags) zero d below is = is
read-flag (b ∷ flags) (suc k) d below is = read-flag flags k d (omega (arith, below)) is

pub no-flag : (flags : List Bool) (k : ℕ) (d : Bool) → k < length flags → slice_index_or flags k d ≡ false → ¬ HasFlag flags k
no-flag [] k d below is = absurd (omega (arith, below))
no-flag (b ∷ flags) zero d below is = λ h. cc
no-flag (b ∷ flags) (suc k) d below is = no-flag flags k d (omega (arith, below)) is

-- ---- the flags of the pairs' steps

no-flags : (count k : ℕ) → ¬ HasFlag (replicate count false) k
no-flags zero k is = cc
no-flags (suc count) zero is = cc
no-flags (suc count) (suc k) is = no-flags count k is

pub asked-none : (count : ℕ) (flags : List Bool) → flags ≡ replicate count false → AreAsked count [] flags
asked-none count flags is = record {
  long = ap length is ∙ length-replicate count false;
  exact = λ k. (
    λ h. absurd (no-flags count k (subst (λ l. HasFlag l k) is h)),
    λ h. absurd (Contains-none (k, h.0) h.1),
  );
}

pub asked-next : (count : ℕ) (wanted : List (ℕ × ℕ)) (flags : List Bool) (pair : ℕ × ℕ) → pair.0 < count → AreAsked count wanted flags
    → AreAsked count (wanted ++ pair ∷ []) (set flags pair.0 true)
asked-next count wanted flags pair below are =
    let exact = set-flag flags pair.0 (omega (arith, below, are.long)) in
    record {
      long = length-set_flag flags pair.0 true ∙ are.long;
      exact = λ k. (
        λ h. elim ((exact k).0 h) [
          | inl old ↦
              let found = (are.exact k).0 old in (found.0, Contains-append_left wanted (pair ∷ []) (k, found.0) found.1)
          | inr is ↦ (pair.1, subst (λ n. Contains (wanted ++ pair ∷ []) (n, pair.1)) (sym is) (Contains-push wanted pair))
        ],
        λ h. elim (Contains-push_cases wanted pair (k, h.0) h.1) [
          | inl old ↦ (exact k).1 (inl ((are.exact k).1 (h.0, old)))
          | inr is ↦ (exact k).1 (inr (sym (ap (λ (p : ℕ × ℕ). p.0) is)))
        ],
      );
    }

-- ---- marks stand by rows

AllPairs-append : {X : Type 0} (R : X → X → Type 0) (xs ys : List X) → AllPairs R xs → AllPairs R ys
    → ((x y : X) → Contains xs x → Contains ys y → R x y) → AllPairs R (xs ++ ys)
AllPairs-append R [] ys one other across = other
AllPairs-append {X = X} R (x ∷ xs) ys one other across =
    AllPairs-cons R x (xs ++ ys)
    (All-append (R x) xs ys (λ k d below. one 0 (suc k) d (omega arith) (omega (arith, below)))
    (All-each (R x) ys (λ y has. across x y (0, omega arith, refl) has)))
    (AllPairs-append R xs ys (λ i j d lt within. one (suc i) (suc j) d (omega (arith, lt)) (omega (arith, within))) other
    (λ a b has there. across a b (later a has) there))
  where
    later : (a : X) → Contains xs a → Contains (x ∷ xs) a
    later a (k, below, is) = (suc k, omega (arith, below), is)

abbrev Rises : Mark → Mark → Type 0
Rises one other = one.row ≤ other.row

row-is : (r : ℕ) (row : List Derivation) → All (λ (mark : Mark). mark.row ≡ r) (row_marks r row)
row-is r row = All-each (λ (mark : Mark). mark.row ≡ r) (row_marks r row)
    (λ mark has. let found = row_mark-leaf r row mark has in sym (ap (λ (m : Mark). m.row) found.2))

later-row : (first : ℕ) (rows : List (List Derivation)) (mark : Mark) → Contains (marks_from first rows) mark → first ≤ mark.row
later-row first rows mark has =
    let found = mark-at first rows mark has in omega (arith, ap (λ (m : Mark). m.row) found.is)

marks-rise : (first : ℕ) (rows : List (List Derivation)) → AllPairs Rises (marks_from first rows)
marks-rise first [] = λ i j d lt within. absurd (omega (arith, lt, within))
marks-rise first (row ∷ rows) =
    let is = row-is first row in
    AllPairs-append Rises (row_marks first row) (marks_from (suc first) rows)
    (λ i j d lt within. omega (arith, is i d (omega (arith, lt, within)), is j d within))
    (marks-rise (suc first) rows)
    (λ one other has there.
    omega (arith, All-at (λ (mark : Mark). mark.row ≡ first) (row_marks first row) one is has, later-row (suc first) rows other there))

pub table-marks : (problem : Problem) (table : Table) → IsTable problem table → (count : ℕ) → count ≡ length table.steps + 2
    → AreMarksBelow count table.marks
table-marks problem table is count long = record {
  rising = subst (AllPairs Rises) (sym is.marks) (marks-rise 1 (rows_of table.proofs));
  earlier = All-each (λ (mark : Mark). mark.column < mark.row) table.marks
      (λ mark has. (All-at (IsNamed problem table.steps) table.marks mark is.named has).earlier);
  within = All-each (λ (mark : Mark). mark.row < count) table.marks (λ mark has.
      let found = mark-at 1 (rows_of table.proofs) mark (subst (λ (l : List Mark). Contains l mark) is.marks has) in
      omega (
        arith,
        long,
        ap (λ (m : Mark). m.row) found.is,
        slice_get-within (rows_of table.proofs) found.place found.row found.at,
        table-rows problem table is,
      ));
}

-- ---- the walk from the last mark to the first

-- where the marks from a place on are done
pub record AreFlaggedFrom (start flags : List Bool) (marks : List Mark) (at : ℕ) : Type 0 where
  pub inside : at ≤ length marks
  pub long : length flags ≡ length start
  pub more : (k : ℕ) → HasFlag start k → HasFlag flags k
  pub closed : (i : ℕ) (mark : Mark) → at ≤ i → slice_get marks i ≡ Some mark → HasFlag flags mark.row → HasFlag flags mark.column
  pub least : (k : ℕ) → HasFlag flags k
      → HasFlag start k ⊎ ((mark : Mark) × Contains marks mark × (mark.column ≡ k) × HasFlag flags mark.row)

-- the mark's column gets a flag, if its row has one
abbrev pub IsColumnFlagged : List Bool → List Bool → Mark → Type 0
IsColumnFlagged before after mark =
    (k : ℕ) → HasFlag after k ↔ (HasFlag before k ⊎ (HasFlag before mark.row × (k ≡ mark.column)))

pub flagged-none : (start : List Bool) (marks : List Mark) (at : ℕ) → at ≡ length marks → AreFlaggedFrom start start marks at
flagged-none start marks at is = record {
  inside = omega (arith, is);
  long = refl;
  more = λ k h. h;
  closed = λ i mark low there h. absurd (omega (arith, low, is, slice_get-within marks i mark there));
  least = λ k h. inl h;
}

pub flagged-next : (start before after : List Bool) (marks : List Mark) (count at : ℕ) (mark : Mark) → AreMarksBelow count marks
    → slice_get marks at ≡ Some mark → length after ≡ length before → IsColumnFlagged before after mark
    → AreFlaggedFrom start before marks (at + 1) → AreFlaggedFrom start after marks at
flagged-next start before after marks count at mark marks_are there long exact are = record {
  inside = omega (arith, are.inside);
  long = long ∙ are.long;
  more = λ k h. (exact k).1 (inl (are.more k h));
  closed = closed_here;
  least = λ k h. elim ((exact k).0 h) [
    | inl old ↦ elim (are.least k old) [
      | inl first ↦ inl first
      | inr by ↦ inr (by.0, by.1, by.2, (exact by.0.row).1 (inl by.3))
    ]
    | inr new ↦ inr (mark, there_at marks at mark there, sym new.1, (exact mark.row).1 (inl new.0))
  ];
}
  where
    order : (i : ℕ) → at ≤ i → (at ≡ i) ⊎ (at < i)
    order i low = grind (arith, low)

    rows-rise : (i : ℕ) (m : Mark) → at ≤ i → slice_get marks i ≡ Some m → mark.row ≤ m.row
    rows-rise i m low here = elim (order i low) [
      | inl same ↦
          let one : mark ≡ m = some_same (sym there ∙ ap (slice_get marks) same ∙ here) in omega (arith, ap (λ (x : Mark). x.row) one)
      | inr before' ↦
          let rise = marks_are.rising at i mark before' (slice_get-within marks i m here) in
          omega (
            arith,
            rise,
            ap (λ (x : Mark). x.row) (read-at marks at mark mark there),
            ap (λ (x : Mark). x.row) (read-at marks i m mark here),
          )
    ]

    closed_here : (i : ℕ) (m : Mark) → at ≤ i → slice_get marks i ≡ Some m → HasFlag after m.row → HasFlag after m.column
    closed_here i m low here h = elim ((exact m.row).0 h) [
      | inl old ↦ elim (order i low) [
        | inl same ↦
            let one : mark ≡ m = some_same (sym there ∙ ap (slice_get marks) same ∙ here) in
            (exact m.column).1 (inr (
              subst (λ (x : Mark). HasFlag before x.row) (sym one) old,
              sym (ap (λ (x : Mark). x.column) one),
            ))
        | inr later ↦ (exact m.column).1 (inl (are.closed i m (omega (arith, later)) here old))
      ]
      | inr new ↦
          let before_row = All-at (λ (x : Mark). x.column < x.row) marks mark marks_are.earlier (there_at marks at mark there) in
          absurd (omega (arith, new.1, before_row, rows-rise i m low here))
    ]

-- ---- the numbers whose flags are set

push-prefix : (xs : List ℕ) (y k : ℕ) → k < length xs → slice_index (xs ++ y ∷ []) k ≡ slice_index xs k
push-prefix [] y k below = absurd (omega (arith, below))
push-prefix (x ∷ xs) y zero below = refl
push-prefix (x ∷ xs) y (suc k) below = push-prefix xs y k (omega (arith, below))

push-end : (xs : List ℕ) (y k : ℕ) → k ≡ length xs → slice_index (xs ++ y ∷ []) k ≡ y
push-end [] y zero is = refl
push-end [] y (suc k) is = absurd (omega (arith, is))
push-end (x ∷ xs) y zero is = absurd (omega (arith, is))
push-end (x ∷ xs) y (suc k) is = push-end xs y k (omega (arith, is))

rises-push : (xs : List ℕ) (y : ℕ) → IsStrictlyIncreasing xs → All (λ x. x < y) xs → IsStrictlyIncreasing (xs ++ y ∷ [])
rises-push xs y rising below k within =
    let long = length-append xs (y ∷ []) in
    elim (order (k + 1) (length xs)) [
      | inl inside ↦
          omega (
            arith,
            push-prefix xs y k (omega (arith, inside)),
            push-prefix xs y (k + 1) inside,
            rising k inside,
          )
      | inr end ↦
          let is : k + 1 ≡ length xs = omega (arith, end, long, within) in
          omega (
            arith,
            push-prefix xs y k (omega (arith, is)),
            push-end xs y (k + 1) is,
            below k 0 (omega (arith, is)),
          )
    ]
  where
    order : (a b : ℕ) → (a < b) ⊎ (b ≤ a)
    order a b = grind arith

last-or-before : (j k : ℕ) → j < k + 1 → (j < k) ⊎ (j ≡ k)
last-or-before j k h = grind (arith, h)

pub numbers-push : (flags : List Bool) (k : ℕ) (numbers : List ℕ) → 1 ≤ k → HasFlag flags k → AreFlagged flags k numbers
    → AreFlagged flags (k + 1) (numbers ++ k ∷ [])
numbers-push flags k numbers low has are = record {
  in_order = rises-push numbers k are.in_order (All-each (λ x. x < k) numbers (λ x there. ((are.exact x).0 there).1));
  exact = λ j. (
    λ there. elim (Contains-push_cases numbers k j there) [
      | inl old ↦ let h = (are.exact j).0 old in (h.0, omega (arith, h.1), h.2)
      | inr is ↦ (omega (arith, low, is), omega (arith, is), subst (HasFlag flags) is has)
    ],
    λ h. elim (last-or-before j k h.1) [
      | inl before ↦ Contains-append_left numbers (k ∷ []) j ((are.exact j).1 (h.0, before, h.2))
      | inr is ↦ subst (Contains (numbers ++ k ∷ [])) (sym is) (Contains-push numbers k)
    ],
  );
}

pub numbers-skip : (flags : List Bool) (k : ℕ) (numbers : List ℕ) → ¬ HasFlag flags k → AreFlagged flags k numbers
    → AreFlagged flags (k + 1) numbers
numbers-skip flags k numbers none are = record {
  in_order = are.in_order;
  exact = λ j. (
    λ there. let h = (are.exact j).0 there in (h.0, omega (arith, h.1), h.2),
    λ h. elim (last-or-before j k h.1) [
      | inl before ↦ (are.exact j).1 (h.0, before, h.2)
      | inr is ↦ absurd (none (subst (HasFlag flags) is h.2))
    ],
  );
}

-- ---- what the flags say in the end

module _ (problem : Problem) (table : Table) (is : IsTable problem table) (wanted : List (ℕ × ℕ))
    (within : All (λ (pair : ℕ × ℕ). (1 ≤ pair.0) × (pair.0 ≤ length table.steps)) wanted) (start flags : List Bool)
    (asked_are : (k : ℕ) → HasFlag start k ↔ ((index : ℕ) × Contains wanted (k, index)))
    (more : (k : ℕ) → HasFlag start k → HasFlag flags k)
    (closed : (mark : Mark) → Contains table.marks mark → HasFlag flags mark.row → HasFlag flags mark.column)
    (least : (k : ℕ) → HasFlag flags k
    → HasFlag start k ⊎ ((mark : Mark) × Contains table.marks mark × (mark.column ≡ k) × HasFlag flags mark.row)) where
  flag-needed : (left k : ℕ) → length flags ≤ k + left → 1 ≤ k → HasFlag flags k → IsNeededStep table wanted k
  flag-needed zero k past low h = absurd (omega (arith, past, flag-within flags k h))
  flag-needed (suc left) k past low h = elim (least k h) [
    | inl first ↦ let found = (asked_are k).0 first in asked found.0 found.1
    | inr by ↦
        let before : by.0.column < by.0.row = (All-at (IsNamed problem table.steps) table.marks by.0 is.named by.1).earlier in
        let needed =
        flag-needed left by.0.row (omega (arith, past, before, by.2)) (omega (arith, before)) by.3 in
        rested_on needed by.0 by.1 refl by.2 low
  ]

  needed-flag : {k : ℕ} → IsNeededStep table wanted k → (1 ≤ k) × HasFlag flags k
  needed-flag (asked {k} index has) = (
    (All-at (λ (pair : ℕ × ℕ). (1 ≤ pair.0) × (pair.0 ≤ length table.steps)) wanted (k, index) within has).0,
    more k ((asked_are k).1 (index, has)),
  )
  needed-flag (rested_on {k} {row} needed mark has row_is column_is low) =
      let flag = (needed-flag needed).1 in
      (low, subst (HasFlag flags) column_is (closed mark has (subst (HasFlag flags) (sym row_is) flag)))

  pub flags-needed : (k : ℕ) → ((1 ≤ k) × HasFlag flags k) ↔ IsNeededStep table wanted k
  flags-needed k = (λ h. flag-needed (length flags) k (omega arith) h.0 h.1, λ needed. needed-flag needed)

-- the numbers whose flags are set are the kept steps
pub kept-by_flags : (table : Table) (wanted : List (ℕ × ℕ)) (flags : List Bool) (kept : List ℕ)
    → ((k : ℕ) → ((1 ≤ k) × HasFlag flags k) ↔ IsNeededStep table wanted k)
    → IsStrictlyIncreasing kept → ((k : ℕ) → Contains kept k ↔ ((1 ≤ k) × HasFlag flags k)) → AreKeptSteps table wanted kept
kept-by_flags table wanted flags kept needed in_order exact = record {
  in_order = in_order;
  needed = λ k. (λ has. (needed k).0 ((exact k).0 has), λ need. (exact k).1 ((needed k).1 need));
}

-- after the walk each mark is done
pub flagged-all : (start flags : List Bool) (marks : List Mark) (at : ℕ) → at ≤ 0 → AreFlaggedFrom start flags marks at → (mark : Mark)
    → Contains marks mark → HasFlag flags mark.row → HasFlag flags mark.column
flagged-all start flags marks at none are mark has h =
    let found = place_of marks mark has in are.closed found.0 mark (omega (arith, none)) found.1 h

-- after the last number all flags are seen
pub numbers-all : (flags : List Bool) (k : ℕ) (numbers : List ℕ) → length flags ≤ k → AreFlagged flags k numbers
    → (j : ℕ) → Contains numbers j ↔ ((1 ≤ j) × HasFlag flags j)
numbers-all flags k numbers past are j = (
  λ has. let h = (are.exact j).0 has in (h.0, h.2),
  λ h. (are.exact j).1 (h.0, omega (arith, past, flag-within flags j h.1), h.1),
)
