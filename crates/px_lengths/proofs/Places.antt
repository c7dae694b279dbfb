-- How many places a proof has, and how long it is as it is written, in a block and in a certificate.
use Rattle.std.proofs.Common.{ℕ, ◌+◌, ◌*◌, ◌≤◌, zero, suc, List, [], ◌∷◌, ◌++◌, length, arith, length-append}
use Rattle.std.specs.List.{flat_map}
use Rattle.std.proofs.Math.Nat.{le-max_left, le-max_right, le_trans, mul-le-mul_right}
use Rattle.px_names.specs.Lists.{NameLists}
use Rattle.px_terms.specs.declared.atom.Atom.{Atom}
use Rattle.px_terms.specs.declared.term.Term.{Term}
use Rattle.px_terms.specs.declared.term.Term.TheVariants.{Obj, Var, Any}
use Rattle.px_terms.specs.Limits.{most_arguments, most_formula_variables, most_literals}
use Rattle.px_proof.specs.Derivation.{Derivation, Derivations, fact, ancestor, step, gap, open_place, none, also, all_leaves_of, greatest_height, height, leaves_of}
use Rattle.px_printer.specs.Blocks.{all_proof_words, count_of, proof_words, terms_text}
use Rattle.px_printer.specs.declared.spelling.Spelling.{Spelling}
use Rattle.px_cert.specs.Lines.{atom_item, derivation_item, derivation_items, number_item, term_item}
use Rattle.px_lengths.specs.Longest.{longest_piece, most_places}
use Rattle.px_lengths.proofs.Parts.{AreShort, arguments-short, atom-short, number-short}
use Rattle.px_lengths.proofs.Sizes.{flat-short, all-of, one-more, size-append, words_size}

-- ---- places

abbrev mutual
  pub places_of : Derivation → ℕ
  places_of (fact leaf) = 1
  places_of (ancestor i) = 1
  places_of (step number theta place parts) = 1 + all_places_of parts
  places_of (gap atom) = 1
  places_of open_place = 1

  pub all_places_of : Derivations → ℕ
  all_places_of none = 0
  all_places_of (also d ds) = places_of d + all_places_of ds

-- each step has few parts and few terms, and each fact few arguments
abbrev mutual
  pub IsSmall : Derivation → Type 0
  IsSmall (fact leaf) = length leaf.atom.args ≤ most_arguments
  IsSmall (ancestor i) = Unit {0}
  IsSmall (step number theta place parts) =
      (length theta ≤ most_formula_variables) × (count_of parts ≤ most_literals) × AreSmall parts
  IsSmall (gap atom) = Unit {0}
  IsSmall open_place = Unit {0}

  pub AreSmall : Derivations → Type 0
  AreSmall none = Unit {0}
  AreSmall (also d ds) = IsSmall d × AreSmall ds

tall : (d : Derivation) → 1 ≤ height d
tall (fact leaf) = omega arith
tall (ancestor i) = omega arith
tall (step number theta place parts) = omega arith
tall (gap atom) = omega arith
tall open_place = omega arith

one-place : (h : ℕ) → 1 ≤ most_places (suc h)
unfolding most_places
one-place h = omega arith

step-places : (h parts count : ℕ) → count ≤ most_literals → parts ≤ count * most_places h → 1 + parts ≤ most_places (suc h)
unfolding most_places
step-places h parts count few all =
    let most : count * most_places h ≤ most_literals * most_places h = mul-le-mul_right (most_places h) few in
    omega (arith, all, most)

mutual
  pub few-places : (d : Derivation) (h : ℕ) → IsSmall d → height d ≤ suc h → places_of d ≤ most_places (suc h)
  few-places (fact leaf) h small low = one-place h
  few-places (ancestor i) h small low = one-place h
  few-places (step number theta place parts) h small low =
      step-places h (all_places_of parts) (count_of parts) small.1 (all-few-places parts h small.2 (omega (arith, low)))
  few-places (gap atom) h small low = one-place h
  few-places open_place h small low = one-place h

  pub all-few-places : (ds : Derivations) (h : ℕ) → AreSmall ds → greatest_height ds ≤ h → all_places_of ds ≤ count_of ds * most_places h
  all-few-places none h small low = omega arith
  all-few-places (also d ds) zero small low =
      let left = le-max_left (height d) (greatest_height ds) in
      absurd (omega (arith, tall d, left, low))
  all-few-places (also d ds) (suc h) small low =
      let left = le-max_left (height d) (greatest_height ds) in
      let right = le-max_right (height d) (greatest_height ds) in
      one-more (count_of ds) (most_places (suc h)) (places_of d) (all_places_of ds) (few-places d h small.0 (le_trans left low))
      (all-few-places ds (suc h) small.1 (le_trans right low))

-- ---- leaves

mutual
  pub few-leaves : (d : Derivation) → length (leaves_of d) ≤ places_of d
  few-leaves (fact leaf) = omega arith
  few-leaves (ancestor i) = omega arith
  few-leaves (step number theta place parts) = omega (arith, all-few-leaves parts)
  few-leaves (gap atom) = omega arith
  few-leaves open_place = omega arith

  pub all-few-leaves : (ds : Derivations) → length (all_leaves_of ds) ≤ all_places_of ds
  all-few-leaves none = omega arith
  all-few-leaves (also d ds) =
      omega (arith, length-append (leaves_of d) (all_leaves_of ds), few-leaves d, all-few-leaves ds)

-- ---- words

module _ (names : NameLists) (short : AreShort names) (spelling : Spelling) where
  terms-short : (terms : List Term) → length (terms_text names spelling terms) ≤ 67 * length terms + 2
  terms-short [] = omega arith
  terms-short (term ∷ terms) = omega (arith, arguments-short names short spelling (term ∷ terms))

  mutual
    words-short : (d : Derivation) → IsSmall d → words_size (proof_words names spelling d) ≤ places_of d * longest_piece
    words-short (fact leaf) small =
        omega (arith, number-short leaf.column, number-short leaf.index, atom-short names short spelling leaf.atom small)
    words-short (ancestor i) small = omega (arith, number-short i)
    words-short (step number theta place parts) small =
        omega (
          arith,
          number-short number,
          number-short place,
          number-short (count_of parts),
          terms-short theta,
          small.0,
          all-words-short parts small.2,
        )
    words-short (gap atom) small = omega arith
    words-short open_place small = omega arith

    pub all-words-short : (ds : Derivations) → AreSmall ds
        → words_size (all_proof_words names spelling ds) ≤ all_places_of ds * longest_piece
    all-words-short none small = omega arith
    all-words-short (also d ds) small =
        omega (
          arith,
          size-append (proof_words names spelling d) (all_proof_words names spelling ds),
          words-short d small.0,
          all-words-short ds small.1,
        )

-- ---- items of a certificate

pub item-short : (n : ℕ) → length (number_item n) ≤ 65
item-short n = omega (arith, number-short n)

pub term-item-short : (term : Term) → length (term_item term) ≤ 66
term-item-short (Obj n) = omega (arith, number-short n)
term-item-short (Var v) = omega (arith, number-short v)
term-item-short Any = omega arith

pub term-items-short : (terms : List Term) → length (flat_map term_item terms) ≤ length terms * 66
term-items-short terms = flat-short term_item 66 terms (all-of (λ term. length (term_item term) ≤ 66) terms term-item-short)

pub atom-item-short : (atom : Atom) → length atom.args ≤ most_arguments → length (atom_item atom) ≤ 461
atom-item-short atom few =
    omega (
      arith,
      length-append (number_item atom.pred) (flat_map term_item atom.args),
      item-short atom.pred,
      term-items-short atom.args,
      few,
    )

mutual
  derivation-short : (d : Derivation) → IsSmall d → length (derivation_item d) ≤ places_of d * longest_piece
  derivation-short (fact leaf) small =
      omega (
        arith,
        length-append (number_item leaf.column) (number_item leaf.index ++ atom_item leaf.atom),
        length-append (number_item leaf.index) (atom_item leaf.atom),
        item-short leaf.column,
        item-short leaf.index,
        atom-item-short leaf.atom small,
      )
  derivation-short (ancestor i) small = omega (arith, item-short i)
  derivation-short (step number theta place parts) small =
      omega (
        arith,
        length-append (number_item number) (number_item place ++ (flat_map term_item theta ++ derivation_items parts)),
        length-append (number_item place) (flat_map term_item theta ++ derivation_items parts),
        length-append (flat_map term_item theta) (derivation_items parts),
        item-short number,
        item-short place,
        term-items-short theta,
        small.0,
        derivations-short parts small.2,
      )
  derivation-short (gap atom) small = omega arith
  derivation-short open_place small = omega arith

  pub derivations-short : (ds : Derivations) → AreSmall ds → length (derivation_items ds) ≤ all_places_of ds * longest_piece
  derivations-short none small = omega arith
  derivations-short (also d ds) small =
      omega (
        arith,
        length-append (derivation_item d) (derivation_items ds),
        derivation-short d small.0,
        derivations-short ds small.1,
      )
