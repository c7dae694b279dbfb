-- What edits leave, taken together.
use Rattle.std.specs.Prelude.{◌≡◌, ◌<◌, ◌≤◌, ◌+◌, ℕ, Bool, true, false, cond, List, [], ◌∷◌, ◌++◌, take, length, filter}
use Rattle.std.specs.List.{flat_map}
use Rattle.std.proofs.Common.{zero, suc, refl, sym, ap, ◌∙◌, subst, get_or, arith, append_assoc}
use Rattle.std.proofs.lemmas.List.{append-nil, length-append}
use Rattle.px_terms.specs.declared.atom.Atom.{Atom}
use Rattle.px_terms.specs.declared.problem.Problem.{Problem}
use Rattle.px_planex.specs.Turns.{Recorded, after_edits, edits_at, is_at}
use Rattle.px_turns.specs.Turning.{HasTaken, IsDisturbed}
use Rattle.px_turns.proofs.Admitting.{admit-both, admit-same}

after-both : {E : Type 0} (leaves : E → List Atom → List Atom) (xs ys : List E) (atoms : List Atom)
    → after_edits leaves (xs ++ ys) atoms ≡ after_edits leaves ys (after_edits leaves xs atoms)
after-both leaves [] ys atoms = refl
after-both leaves (x ∷ xs) ys atoms = after-both leaves xs ys (leaves x atoms)

-- an item that the edits of a turn and point are taken from, and those before it
module _ {E : Type 0} (number : ℕ) (between : Bool) where
  abbrev pub part_of : Recorded E → List E
  part_of one = cond (is_at number between one) one.edits []

  first-part : (one : Recorded E) (recorded : List (Recorded E))
      → edits_at (one ∷ recorded) number between ≡ part_of one ++ edits_at recorded number between
  first-part one recorded = by (is_at number between one)
    where
      by : (b : Bool) → flat_map (λ (r : Recorded E). r.edits)
          (cond b (one ∷ filter (is_at number between) recorded) (filter (is_at number between) recorded))
          ≡ cond b one.edits [] ++ edits_at recorded number between
      by true = refl
      by false = refl

  pub edits_at-more : (recorded : List (Recorded E)) (i : ℕ) (d : Recorded E) → i < length recorded
      → edits_at (take (suc i) recorded) number between ≡ edits_at (take i recorded) number between ++ part_of (get_or recorded i d)
  edits_at-more [] i d below = absurd (omega (arith, below))
  edits_at-more (one ∷ recorded) zero d below = first-part one [] ∙ append-nil (part_of one)
  edits_at-more (one ∷ recorded) (suc i) d below =
      first-part one (take (suc i) recorded)
      ∙ ap (λ l. part_of one ++ l) (edits_at-more recorded i d (omega (arith, below)))
      ∙ sym (append_assoc (part_of one) (edits_at (take i recorded) number between) (part_of (get_or recorded i d)))
      ∙ sym (ap (λ l. l ++ part_of (get_or recorded i d)) (first-part one (take i recorded)))

  -- the parts so far and the next are among all
  pub edits_at-within : (recorded : List (Recorded E)) (i : ℕ) (d : Recorded E) → i < length recorded
      → length (edits_at (take i recorded) number between) + length (part_of (get_or recorded i d))
      ≤ length (edits_at recorded number between)
  edits_at-within [] i d below = absurd (omega (arith, below))
  edits_at-within (one ∷ recorded) zero d below =
      omega (arith, ap length (first-part one recorded), length-append (part_of one) (edits_at recorded number between))
  edits_at-within (one ∷ recorded) (suc i) d below =
      let rest = edits_at-within recorded i d (omega (arith, below)) in
      omega (
        arith,
        rest,
        ap length (first-part one recorded),
        length-append (part_of one) (edits_at recorded number between),
        ap length (first-part one (take i recorded)),
        length-append (part_of one) (edits_at (take i recorded) number between),
      )

  -- the places that are left for the next item
  pub spare-next : (recorded : List (Recorded E)) (i : ℕ) (one : Recorded E) → i < length recorded → one ≡ get_or recorded i one
      → is_at number between one ≡ true → (places spare : ℕ) → length (edits_at recorded number between) ≤ places
      → places ≤ spare + length (edits_at (take i recorded) number between) → length one.edits ≤ spare
  spare-next recorded i one below is test places spare all left =
      let part : part_of (get_or recorded i one) ≡ one.edits = ap part_of (sym is) ∙ ap (λ t. cond t one.edits []) test in
      omega (arith, all, left, edits_at-within recorded i one below, ap length part)

module _ {S E : Type 0} (rules_of : S → Problem) (atoms_in : S → List Atom) (spare_of : S → ℕ) (admits : S → E → Type 0)
    (leaves : E → List Atom → List Atom) where
  abbrev Taken : ℕ → S → S → Type 0
  Taken places old new = HasTaken rules_of atoms_in spare_of admits places old new

  abbrev Disturbed : List E → S → S → Type 0
  Disturbed edits old new = IsDisturbed rules_of atoms_in spare_of admits leaves edits old new

  pub disturbed-none : (world : S) → Disturbed [] world world
  disturbed-none world = record {
    atoms = refl;
    taken = record { number = omega arith; spare = omega arith; rules = refl; edits = admit-same (admits world) };
  }

  -- what is taken first and then
  pub taken-both : (m n p : ℕ) (old mid new : S) → Taken m old mid → Taken n mid new → m + n ≤ p → Taken p old new
  taken-both m n p old mid new first second within = record {
    number = omega (arith, first.number, second.number, within);
    spare = omega (arith, first.spare, second.spare, within);
    rules = second.rules ∙ first.rules;
    edits = admit-both (admits old) (admits mid) (admits new) first.edits second.edits;
  }

  pub disturbed-both : (xs ys : List E) (old mid new : S) → Disturbed xs old mid → Disturbed ys mid new → Disturbed (xs ++ ys) old new
  disturbed-both xs ys old mid new first second = record {
    atoms = second.atoms ∙ ap (after_edits leaves ys) first.atoms ∙ sym (after-both leaves xs ys (atoms_in old));
    taken = taken-both (length xs) (length ys) (length (xs ++ ys)) old mid new first.taken second.taken
        (let long = length-append xs ys in omega (arith, long));
  }

  -- what comes of the next item
  pub disturbed-next : (number : ℕ) (between : Bool) (recorded : List (Recorded E)) (i : ℕ) (one : Recorded E) → i < length recorded
      → one ≡ get_or recorded i one → (b : Bool) → is_at number between one ≡ b → (old mid new : S)
      → Disturbed (edits_at (take i recorded) number between) old mid → Disturbed (cond b one.edits []) mid new
      → Disturbed (edits_at (take (i + 1) recorded) number between) old new
  disturbed-next number between recorded i one below is b test old mid new first second =
      let part : part_of number between (get_or recorded i one) ≡ cond b one.edits [] =
      ap (part_of number between) (sym is) ∙ ap (λ t. cond t one.edits []) test in
      let next : i + 1 ≡ suc i = omega arith in
      subst (λ (edits : List E). Disturbed edits old new)
      (sym (ap (λ n. edits_at (take n recorded) number between) next ∙ edits_at-more number between recorded i one below
      ∙ ap (λ l. edits_at (take i recorded) number between ++ l) part))
      (disturbed-both (edits_at (take i recorded) number between) (cond b one.edits []) old mid new first second)
