-- How long the parts of lines are: numbers, names, terms, atoms and steps.
use Rattle.std.specs.Prelude.{◌-◌, ◌/◌, ◌%◌, ◌==◌, All, nat_lt, slice_get, unwrap_or}
use Rattle.std.proofs.Common.{ℕ, ◌+◌, ◌*◌, ◌≤◌, zero, suc, List, [], ◌∷◌, ◌++◌, codes, false, length, map, arith, length-append}
use Rattle.std.specs.Fmt.{decimal, digit_glyph, digits, digits_onto}
use Rattle.std.proofs.lemmas.List.Elements.{All-head, All-tail}
use Rattle.px_names.specs.Lists.{NameLists, names_of}
use Rattle.px_names.specs.declared.kind.Kind.{Kind}
use Rattle.px_names.specs.declared.kind.Kind.TheVariants as kind
use Rattle.px_terms.specs.declared.atom.Atom.{Atom}
use Rattle.px_terms.specs.declared.instance.OpInst.{OpInst}
use Rattle.px_terms.specs.declared.term.Term.{Term}
use Rattle.px_terms.specs.declared.term.Term.TheVariants.{Obj, Var, Any}
use Rattle.px_terms.specs.Limits.{most_arguments, most_parameters}
use Rattle.px_printer.specs.Texts.{after_commas, arguments_text, atom_text, instance_text, name_text, numbered_variable, term_text, variable_text}
use Rattle.px_printer.specs.declared.spelling.Spelling.{Spelling}
use Rattle.px_printer.specs.declared.spelling.Spelling.TheVariants.{InBlock, InRows}
use Rattle.px_lengths.proofs.Sizes.{either-short}
use Rattle.px_lengths.specs.Longest.{longest_name, longest_number, longest_term}

-- ---- numbers

onto-short : (k n : ℕ) (acc : List ℕ) → length (digits_onto k 10 false n acc) ≤ k + length acc
onto-short zero n acc = omega arith
onto-short (suc k) n acc =
    let digit = digit_glyph false (n % 10) in
    let more = onto-short k (n / 10) (digit ∷ acc) in
    either-short (n / 10 == 0) (suc k + length acc) (digit ∷ acc) (digits_onto k 10 false (n / 10) (digit ∷ acc)) (omega arith)
    (omega (arith, more))

-- of no number more digits are written
pub number-short : (n : ℕ) → length (decimal n) ≤ longest_number
unfolding digits
number-short n = onto-short 64 n []

-- ---- names

-- the names of each kind are short
abbrev pub AreShort : NameLists → Type 0
AreShort names = (kind : Kind) → All (λ name. length name ≤ longest_name) (names_of kind names)

named-short : (names : List (List ℕ)) (number : ℕ) → All (λ name. length name ≤ longest_name) names
    → length (unwrap_or (slice_get names number) []) ≤ longest_name
named-short [] number all = omega arith
named-short (name ∷ names) zero all = All-head (λ n. length n ≤ longest_name) name names all
named-short (name ∷ names) (suc k) all = named-short names k (All-tail (λ n. length n ≤ longest_name) name names all)

-- ---- variables

numbered-short : (params : ℕ) (parameter own : List ℕ) (number : ℕ) → length parameter ≤ 2 → length own ≤ 2
    → length (numbered_variable params parameter own number) ≤ longest_term
numbered-short params parameter own number few fewer =
    either-short (nat_lt number params) longest_term (parameter ++ decimal (number + 1)) (own ++ decimal (number - params + 1))
    (omega (arith, length-append parameter (decimal (number + 1)), number-short (number + 1), few))
    (omega (arith, length-append own (decimal (number - params + 1)), number-short (number - params + 1), fewer))

variable-short : (spelling : Spelling) (number : ℕ) → length (variable_text spelling number) ≤ longest_term
variable-short (InRows params) number = numbered-short params (codes "p") (codes "?") number (omega arith) (omega arith)
variable-short (InBlock params) number = numbered-short params (codes "?p") (codes "?g") number (omega arith) (omega arith)

-- ---- terms, atoms and steps

module _ (names : NameLists) (short : AreShort names) where
  pub name-short : (which : Kind) (number : ℕ) → length (name_text names which number) ≤ longest_name
  name-short which number = named-short (names_of which names) number (short which)

  module _ (spelling : Spelling) where
    term-short : (term : Term) → length (term_text names spelling term) ≤ longest_term
    term-short (Obj number) = omega (arith, name-short kind.Object number)
    term-short (Var number) = variable-short spelling number
    term-short Any = omega arith

    abbrev spelt : List Term → List (List ℕ)
    spelt terms = map (term_text names spelling) terms

    commas-short : (terms : List Term) → length (after_commas (spelt terms)) ≤ 67 * length terms
    commas-short [] = omega arith
    commas-short (term ∷ terms) =
        omega (
          arith,
          length-append (codes "," ++ term_text names spelling term) (after_commas (spelt terms)),
          term-short term,
          commas-short terms,
        )

    pub arguments-short : (terms : List Term) → length (arguments_text names spelling terms) ≤ 67 * length terms + 1
    arguments-short [] = omega arith
    arguments-short (term ∷ terms) =
        omega (
          arith,
          length-append (term_text names spelling term) (after_commas (spelt terms) ++ codes ")"),
          length-append (after_commas (spelt terms)) (codes ")"),
          term-short term,
          commas-short terms,
        )

    pub atom-short : (atom : Atom) → length atom.args ≤ most_arguments → length (atom_text names spelling atom) ≤ 467
    atom-short atom few =
        omega (
          arith,
          length-append (name_text names kind.Predicate atom.pred) (arguments_text names spelling atom.args),
          name-short kind.Predicate atom.pred,
          arguments-short atom.args,
          few,
        )

    pub step-short : (inst : OpInst) → length inst.args ≤ most_parameters → length (instance_text names spelling inst) ≤ 601
    step-short inst few =
        omega (
          arith,
          length-append (name_text names kind.Operator inst.op) (arguments_text names spelling inst.args),
          name-short kind.Operator inst.op,
          arguments-short inst.args,
          few,
        )
