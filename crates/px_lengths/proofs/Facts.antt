-- How many facts can be true at once, and how many marks the table of a plan has.
use Rattle.std.specs.Prelude.{All, AllPairs, Contains, ◌≢◌, not, filter, slice_index}
use Rattle.std.proofs.Common.{◌≡◌, ℕ, ◌+◌, ◌*◌, ◌<◌, ◌≤◌, suc, Bool, true, List, [], ◌∷◌, length, map, refl, sym, ◌∙◌, subst, inl, inr, arith, length-append}
use Rattle.std.specs.Bool.{Decides}
use Rattle.std.specs.List.{IsDistinct, flat_map, range_with_len}
use Rattle.std.specs.Ordering.{eq_by_cmp}
use Rattle.std.proofs.Math.Nat.{le_trans}
use Rattle.std.proofs.lemmas.List.{length-map}
use Rattle.std.proofs.lemmas.List.Elements.{All-head, All-map, All-tail, Contains-append_left, Contains-append_right, filter_passes}
use Rattle.std.proofs.lemmas.List.FromFn.{get_or-range_with_len, length-range_with_len}
use Rattle.std.proofs.lemmas.List.Kept.{AllPairs-cons, AllPairs-filter}
use Rattle.std.proofs.lemmas.Map.Keys.{IsDistinct-from_sorted}
use Rattle.std.proofs.lemmas.Map.Made.{IsDistinct-from_AllPairs, is_member-Decides, length-le_from_is_member}
use Rattle.px_base.specs.ListLaws.{All-at, Contains-cases, Contains-first, Contains-none}
use Rattle.px_terms.specs.declared.atom.Atom.{Atom}
use Rattle.px_terms.specs.declared.problem.Problem.{Problem}
use Rattle.px_terms.specs.declared.term.Term.{Term}
use Rattle.px_terms.specs.declared.term.Term.TheVariants.{Obj, Var, Any}
use Rattle.px_terms.specs.AtomSets.{IsAtomSet}
use Rattle.px_terms.specs.Order.{atom_cmp}
use Rattle.px_terms.specs.OrderLaws.{atom_cmp-matches_eq, atom_eq-decides, decides_equiv}
use Rattle.px_terms.specs.Validity.{IsAtomOf, IsTermOf}
use Rattle.px_proof.specs.Derivation.{Derivation}
use Rattle.px_proof.specs.PlaceLaws.{Contains-mapped}
use Rattle.px_table.specs.declared.mark.Mark.{Mark}
use Rattle.px_table.specs.Marks.{mark_eq, mark_of, marks_from, row_leaves, row_marks}
use Rattle.px_table.specs.MarkLaws.{mark_eq-decides}
use Rattle.px_table.specs.Once.{each_once}
use Rattle.px_table.specs.OnceLaws.{Contains-each_once, Contains-from_each_once}
use Rattle.px_cert.specs.Limits.{most_atoms}
use Rattle.px_lengths.specs.Longest.{atom_with, ground_atoms, lists_of, most_facts, objects_of}
use Rattle.px_lengths.proofs.Sizes.{all-of, flat-short, flat-within, one-more}

-- ---- what stands in lists

in-flat : {X Y : Type 0} (f : X → List Y) (xs : List X) (x : X) (y : Y) → Contains xs x → Contains (f x) y → Contains (flat_map f xs) y
in-flat f [] x y has there = absurd (Contains-none x has)
in-flat f (z ∷ xs) x y has there =
    elim (Contains-cases z xs x has) [
      | inl same ↦ Contains-append_left (f z) (flat_map f xs) y (subst (λ (w : _). Contains (f w) y) (sym same) there)
      | inr later ↦ Contains-append_right (f z) (flat_map f xs) y (in-flat f xs x y later there)
    ]

in-range : (count v : ℕ) → v < count → Contains (range_with_len 0 count) v
in-range count v below =
    let read = get_or-range_with_len 0 count v v below in
    (v, omega (arith, below, length-range_with_len 0 count), read ∙ omega arith)

-- ---- a list in which nothing stands twice is no longer than one that has all that it has

distinct-short : {A : Type 0} (same : A → A → Bool) (decides : (x y : A) → Decides (same x y) (x ≡ y)) (xs ys : List A)
    → IsDistinct same xs → ((x : A) → Contains xs x → Contains ys x) → length xs ≤ length ys
distinct-short same decides xs ys apart within =
    length-le_from_is_member (decides_equiv same decides) xs ys apart
    (λ q member. (is_member-Decides decides ys q).1 (within q ((is_member-Decides decides xs q).0 member)))

never : {A : Type 0} (same : A → A → Bool) (decides : (x y : A) → Decides (same x y) (x ≡ y)) (x y : A) → not (same x y) ≡ true → x ≢ y
never same decides x y other is = let one : same x y ≡ true = (decides x y).1 is in cc

once-apart : {A : Type 0} (same : A → A → Bool) (decides : (x y : A) → Decides (same x y) (x ≡ y)) (xs : List A)
    → AllPairs (λ x y. x ≢ y) (each_once same xs)
once-apart same decides [] = λ i j d less below. absurd (omega (arith, below))
once-apart same decides (x ∷ xs) =
    let others = filter (λ y. not (same x y)) (each_once same xs) in
    AllPairs-cons (λ y z. y ≢ z) x others
    (λ k d below. never same decides x _ (filter_passes (λ y. not (same x y)) (each_once same xs) k d below))
    (AllPairs-filter (λ y z. y ≢ z) (λ y. not (same x y)) (each_once same xs) (once-apart same decides xs))

-- of a list each once, no more than another has that has all of it
once-within : {A : Type 0} (same : A → A → Bool) (decides : (x y : A) → Decides (same x y) (x ≡ y)) (xs ys : List A)
    → ((x : A) → Contains xs x → Contains ys x) → length (each_once same xs) ≤ length ys
once-within same decides xs ys within =
    distinct-short same decides (each_once same xs) ys (IsDistinct-from_AllPairs decides (each_once same xs) (once-apart same decides xs))
    (λ x has. within x (Contains-from_each_once same xs x has))

-- ---- facts

in-lists : (terms args : List Term) → All (Contains terms) args → Contains (lists_of (length args) terms) args
in-lists terms [] all = Contains-first [] []
in-lists terms (term ∷ args) all =
    in-flat (λ (rest : List Term). map (λ (t : Term). t ∷ rest) terms) (lists_of (length args) terms) args (term ∷ args)
    (in-lists terms args (All-tail (Contains terms) term args all))
    (Contains-mapped (λ (t : Term). t ∷ args) terms term (All-head (Contains terms) term args all))

in-objects : (problem : Problem) (term : Term) → IsTermOf problem 0 term → Contains (objects_of problem) term
in-objects problem (Obj n) of = Contains-mapped Obj (range_with_len 0 problem.objects) n (in-range problem.objects n of)
in-objects problem (Var v) of = absurd (omega (arith, of))
in-objects problem Any of = elim of [ ]

-- each atom of the problem without variables is among all of them
pub is-ground : (problem : Problem) (atom : Atom) → IsAtomOf problem 0 atom → Contains (ground_atoms problem) atom
is-ground problem atom of =
    let objects = objects_of problem in
    let args = in-lists objects atom.args (λ k d below. in-objects problem _ (of.1 k d below)) in
    let long = subst (λ (n : ℕ). Contains (lists_of n objects) atom.args) of.0.1 args in
    in-flat (λ (pred : ℕ). map (atom_with pred) (lists_of (slice_index problem.arities pred) objects))
    (range_with_len 0 (length problem.arities)) atom.pred atom (in-range (length problem.arities) atom.pred of.0.0)
    (Contains-mapped (atom_with atom.pred) (lists_of (slice_index problem.arities atom.pred) objects) atom.args long)

atoms-decided : (x y : Atom) → Decides (eq_by_cmp atom_cmp x y) (x ≡ y)
atoms-decided x y = subst (λ (b : Bool). Decides b (x ≡ y)) (atom_cmp-matches_eq x y) (atom_eq-decides x y)

-- so a set of atoms of the problem has no more
pub facts-few : (problem : Problem) (atoms : List Atom) → IsAtomSet atoms → All (IsAtomOf problem 0) atoms
    → length atoms ≤ most_facts problem
unfolding most_facts
facts-few problem atoms set own =
    distinct-short (eq_by_cmp atom_cmp) atoms-decided atoms (ground_atoms problem) (IsDistinct-from_sorted atom_cmp atoms set)
    (λ atom has. is-ground problem atom (All-at (IsAtomOf problem 0) atoms atom own has))

-- ---- marks of facts, where steps add few

-- the mark is of an atom without variables, of a column before its row, and of an index that is low
pub record IsGroundMark (problem : Problem) (mark : Mark) : Type 0 where
  pub of : IsAtomOf problem 0 mark.atom
  pub earlier : mark.column < mark.row
  pub low : mark.index < most_atoms

abbrev mark_with : ℕ → Atom → ℕ → ℕ → Mark
mark_with row atom column index = record { atom = atom; row = row; column = column; index = index }

-- all marks of a row of an atom in a column, and of as many columns
abbrev marks_in : ℕ → Atom → ℕ → List Mark
marks_in row atom column = map (mark_with row atom column) (range_with_len 0 most_atoms)

abbrev marks_of : ℕ → ℕ → Atom → List Mark
marks_of columns row atom = flat_map (marks_in row atom) (range_with_len 0 columns)

abbrev all_marks : Problem → ℕ → ℕ → List Mark
all_marks problem columns row = flat_map (marks_of columns row) (ground_atoms problem)

in-length : (row : ℕ) (atom : Atom) (column : ℕ) → length (marks_in row atom column) ≤ most_atoms
in-length row atom column =
    omega (arith, length-map (range_with_len 0 most_atoms) (mark_with row atom column), length-range_with_len 0 most_atoms)

of-length : (columns row : ℕ) (atom : Atom) → length (marks_of columns row atom) ≤ columns * most_atoms
of-length columns row atom =
    let few : length (range_with_len 0 columns) ≤ columns = omega (arith, length-range_with_len 0 columns) in
    flat-within (marks_in row atom) most_atoms columns (range_with_len 0 columns) few
    (all-of (λ column. length (marks_in row atom column) ≤ most_atoms) (range_with_len 0 columns) (in-length row atom))

all-length : (problem : Problem) (columns row : ℕ) → length (all_marks problem columns row) ≤ most_facts problem * (columns * most_atoms)
unfolding most_facts
all-length problem columns row =
    flat-short (marks_of columns row) (columns * most_atoms) (ground_atoms problem)
    (all-of (λ atom. length (marks_of columns row atom) ≤ columns * most_atoms) (ground_atoms problem) (of-length columns row))

in-marks : (problem : Problem) (columns row : ℕ) (mark : Mark) → IsGroundMark problem mark → mark.row ≡ row → row ≤ columns
    → Contains (all_marks problem columns row) mark
in-marks problem columns row mark is at few =
    subst (λ (r : ℕ). Contains (all_marks problem columns r) mark) at
    (in-flat (marks_of columns mark.row) (ground_atoms problem) mark.atom mark (is-ground problem mark.atom is.of)
    (in-flat (marks_in mark.row mark.atom) (range_with_len 0 columns) mark.column mark
    (in-range columns mark.column (omega (arith, is.earlier, at, few)))
    (Contains-mapped (mark_with mark.row mark.atom mark.column) (range_with_len 0 most_atoms) mark.index
    (in-range most_atoms mark.index is.low))))

pub ground-marks-few : (problem : Problem) (columns first : ℕ) (rows : List (List Derivation))
    → ((mark : Mark) → Contains (marks_from first rows) mark → IsGroundMark problem mark) → first + length rows ≤ columns + 1
    → length (marks_from first rows) ≤ length rows * (most_facts problem * (columns * most_atoms))
ground-marks-few problem columns first [] are few = omega arith
ground-marks-few problem columns first (row ∷ rows) are few =
    let marks = map (mark_of first) (row_leaves row) in
    let of-row : All (λ (mark : Mark). mark.row ≡ first) marks =
    All-map (λ (mark : Mark). mark.row ≡ first) (mark_of first) (row_leaves row) (λ k d below. refl) in
    let each : (mark : Mark) → Contains marks mark → Contains (all_marks problem columns first) mark =
    λ mark has.
    let once = Contains-each_once mark_eq mark_eq-decides marks mark has in
    in-marks problem columns first mark (are mark (Contains-append_left (row_marks first row) (marks_from (suc first) rows) mark once))
    (All-at (λ (m : Mark). m.row ≡ first) marks mark of-row has) (omega (arith, few)) in
    let here = le_trans (once-within mark_eq mark_eq-decides marks (all_marks problem columns first) each)
    (all-length problem columns first) in
    let rest = ground-marks-few problem columns (suc first) rows
    (λ mark has. are mark (Contains-append_right (row_marks first row) (marks_from (suc first) rows) mark has)) (omega (arith, few)) in
    let sum = one-more (length rows) (most_facts problem * (columns * most_atoms)) (length (row_marks first row))
    (length (marks_from (suc first) rows)) here rest in
    omega (arith, length-append (row_marks first row) (marks_from (suc first) rows), sum)
