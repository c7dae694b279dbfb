-- How a table's block is written, as statements; and that each line of its text is read as its statement's lexemes.
use Rattle.std.specs.Prelude.{◌-◌, ◌^◌}
use Rattle.px_script.proofs.Common.{◌≡◌, ℕ, ◌+◌, ◌<◌, true, List, [], ◌∷◌, ◌++◌, map, refl, subst, arith, append_assoc, append-nil, codes, flat_map, flat_map-append, IsUtf8, decimal, nat_lt, AllByRecursion, if◌then◌else◌, Lexeme, name, number, sign, variable, Argument, named, open_variable, anything, SignedAtom, Part, a_fact, an_ancestor, an_axiom, spell_argument, spell_atom, spell_part, spell_terms, with_commas, parenthesised, Statement, spelling, table, step, goal, proof, end, NameLists, Term, Obj, Var, Any, Atom}
use Rattle.px_script.specs.Common.{OpInst}
use Rattle.px_script.specs.declared.kinds.Sign.TheVariants.{Bare as bare}
use lib.Utf8.{encode}
use Rattle.std.specs.Str.{chars, is_utf8}
use Rattle.px_script.specs.Items.{spell, proofs}
use Rattle.px_script.proofs.Lists.{by_test}
use Rattle.px_names.specs.Name.{is_name_text}
use Rattle.px_names.specs.declared.kind.Kind.TheVariants as kind
use Rattle.px_proof.specs.Derivation.{Derivation, Derivations, fact, ancestor, gap, open_place, none, also, derivations}
use Rattle.px_proof.specs.Derivation as derivation
use Rattle.px_printer.specs.Texts.{name_text, term_text, after_commas, in_parentheses, atom_text, instance_text, after_spaces}
use Rattle.px_printer.specs.Blocks.{terms_text, count_of, proof_words, all_proof_words}
use Rattle.px_printer.specs.declared.spelling.Spelling.TheVariants.{InBlock}
use Rattle.px_saved.proofs.Words.{IsWord, Reads, Ends, nothing-reads, word-reads, word-before, space-reads, nothing-ends, space-ends, comma-ends, opening-ends, closing-ends, number-word, name-word, keyword, variable-word, sign-word}
use Rattle.unicode_ident.proofs.Computing.{unicode_ident}

-- ---- the words of a block

letter_f : IsWord (codes "f") (name (codes "f"))
unfolding unicode_ident chars is_utf8 encode
letter_f = keyword (codes "f") refl refl

letter_a : IsWord (codes "a") (name (codes "a"))
unfolding unicode_ident chars is_utf8 encode
letter_a = keyword (codes "a") refl refl

letter_s : IsWord (codes "s") (name (codes "s"))
unfolding unicode_ident chars is_utf8 encode
letter_s = keyword (codes "s") refl refl

word_table : IsWord (codes "table") (name (codes "table"))
unfolding unicode_ident chars is_utf8 encode
word_table = keyword (codes "table") refl refl

word_step : IsWord (codes "step") (name (codes "step"))
unfolding unicode_ident chars is_utf8 encode
word_step = keyword (codes "step") refl refl

word_goal : IsWord (codes "goal") (name (codes "goal"))
unfolding unicode_ident chars is_utf8 encode
word_goal = keyword (codes "goal") refl refl

word_proof : IsWord (codes "proof") (name (codes "proof"))
unfolding unicode_ident chars is_utf8 encode
word_proof = keyword (codes "proof") refl refl

word_end : IsWord (codes "end") (name (codes "end"))
unfolding unicode_ident chars is_utf8 encode
word_end = keyword (codes "end") refl refl

-- the text is one of a name
pub record IsText (text : List ℕ) : Type 0 where
  pub utf8 : IsUtf8 text
  pub name : is_name_text text ≡ true

module _ (names : NameLists) (params : ℕ) where
  -- ---- what is written

  abbrev pub written_variable : ℕ → List ℕ
  written_variable v = if nat_lt v params then 112 ∷ decimal (v + 1) else 103 ∷ decimal (v - params + 1)

  abbrev pub written_term : Term → Argument
  written_term (Obj n) = named (name_text names kind.Object n)
  written_term (Var v) = open_variable (written_variable v)
  written_term Any = anything

  abbrev pub written_atom : Atom → SignedAtom
  written_atom atom = record {
    sign = bare;
    atom = record { predicate = name_text names kind.Predicate atom.pred; arguments = map written_term atom.args };
  }

  -- the parts of a proof, in preorder
  abbrev mutual
    pub written_parts : Derivation → List Part
    written_parts (fact leaf) = a_fact leaf.column leaf.index (written_atom leaf.atom) ∷ []
    written_parts (ancestor i) = an_ancestor i ∷ []
    written_parts (derivation.step clause theta place parts) =
        an_axiom clause place (count_of parts) (map written_term theta) ∷ all_written_parts parts
    written_parts (gap atom) = []
    written_parts open_place = []

    pub all_written_parts : Derivations → List Part
    all_written_parts none = []
    all_written_parts (also d ds) = written_parts d ++ all_written_parts ds

  abbrev pub written_step : OpInst → Statement
  written_step inst = step (name_text names kind.Operator inst.op) (map written_term inst.args)

  abbrev pub written_goal : List Atom → Statement
  written_goal atoms = goal (map written_atom atoms)

  abbrev pub written_row : List Derivation → Statement
  written_row row = proof (all_written_parts (derivations row))

  -- ---- what has a text

  abbrev pub HasText : Term → Type 0
  HasText (Obj n) = IsText (name_text names kind.Object n)
  HasText (Var v) = v < 2 ^ 30
  HasText Any = ⊥

  pub record AtomHasText (atom : Atom) : Type 0 where
    pub predicate : IsText (name_text names kind.Predicate atom.pred)
    pub arguments : AllByRecursion HasText atom.args

  pub record StepHasText (inst : OpInst) : Type 0 where
    pub operator : IsText (name_text names kind.Operator inst.op)
    pub arguments : AllByRecursion HasText inst.args

  abbrev mutual
    pub ProofHasText : Derivation → Type 0
    ProofHasText (fact leaf) = (leaf.column < 2 ^ 31) × (leaf.index < 2 ^ 31) × AtomHasText leaf.atom
    ProofHasText (ancestor i) = i < 2 ^ 31
    ProofHasText (derivation.step clause theta place parts) =
        (clause < 2 ^ 31) × (place < 2 ^ 31) × (count_of parts < 2 ^ 31) × AllByRecursion HasText theta × ProofsHaveText parts
    ProofHasText (gap atom) = ⊥
    ProofHasText open_place = ⊥

    pub ProofsHaveText : Derivations → Type 0
    ProofsHaveText none = Unit {0}
    ProofsHaveText (also d ds) = ProofHasText d × ProofsHaveText ds

  -- ---- terms

  text-word : (text : List ℕ) → IsText text → IsWord text (name text)
  text-word text is = name-word text is.utf8 is.name

  variable-text : (v : ℕ) → v < 2 ^ 30 → IsWord (term_text names (InBlock params) (Var v)) (variable (written_variable v))
  unfolding unicode_ident
  variable-text v below = by_test (nat_lt v params)
      (λ own. rw own (variable-word 112 (v + 1) (omega arith) refl refl (omega (arith, below))))
      (λ later. rw later (variable-word 103 (v - params + 1) (omega arith) refl refl (omega (arith, below))))

  term-word : (t : Term) → HasText t → IsWord (term_text names (InBlock params) t) (spell_argument (written_term t))
  term-word (Obj n) is = text-word (name_text names kind.Object n) is
  term-word (Var v) is = variable-text v is
  term-word Any is = absurd is

  abbrev the_text : Term → List ℕ
  the_text t = term_text names (InBlock params) t

  comma : IsWord (44 ∷ []) (sign 44)
  comma = sign-word 44 refl (omega arith) refl

  opening : IsWord (40 ∷ []) (sign 40)
  opening = sign-word 40 refl (omega arith) refl

  closing : IsWord (41 ∷ []) (sign 41)
  closing = sign-word 41 refl (omega arith) refl

  -- ---- terms with commas, and in parentheses

  module _ (tail : List ℕ) (lexemes : List Lexeme) (more : Reads tail lexemes) where
    commas-read : (t : Term) (ts : List Term) → HasText t → AllByRecursion HasText ts
        → Reads (the_text t ++ (after_commas (map the_text ts) ++ (41 ∷ tail)))
        (with_commas (spell_argument (written_term t) ∷ map spell_argument (map written_term ts)) ++ (sign 41 ∷ lexemes))
    commas-read t [] is all =
        word-before (the_text t) (41 ∷ tail) _ _ (term-word t is) (closing-ends tail) (word-reads (41 ∷ []) tail _ _ closing tt more)
    commas-read t (u ∷ us) is all =
        let rest = the_text u ++ (after_commas (map the_text us) ++ (41 ∷ tail)) in
        rw (append_assoc (the_text u) (after_commas (map the_text us)) (41 ∷ tail))
        (word-before (the_text t) (44 ∷ rest) _ _ (term-word t is) (comma-ends rest)
        (word-reads (44 ∷ []) rest _ _ comma tt (commas-read u us all.0 all.1)))

    in-parentheses-read : (t : Term) (ts : List Term) → HasText t → AllByRecursion HasText ts
        → Reads (in_parentheses (map the_text (t ∷ ts)) ++ tail)
        (parenthesised (map spell_argument (map written_term (t ∷ ts))) ++ lexemes)
    in-parentheses-read t ts is all =
        rw (
          append_assoc (the_text t) (after_commas (map the_text ts) ++ (41 ∷ [])) tail,
          append_assoc (after_commas (map the_text ts)) (41 ∷ []) tail,
          append_assoc (with_commas (spell_argument (written_term t) ∷ map spell_argument (map written_term ts))) (sign 41 ∷ []) lexemes,
        )
        (word-reads (40 ∷ []) (the_text t ++ (after_commas (map the_text ts) ++ (41 ∷ tail))) _ _ opening tt (commas-read t ts is all))

    -- a name and its arguments
    named-reads : (text : List ℕ) (ts : List Term) → IsText text → AllByRecursion HasText ts → Ends tail
        → Reads (text ++ (in_parentheses (map the_text ts) ++ tail))
        (name text ∷ (parenthesised (map spell_argument (map written_term ts)) ++ lexemes))
    named-reads text [] is all ends = word-before text tail _ _ (text-word text is) ends more
    named-reads text (t ∷ ts) is all ends =
        word-before text (in_parentheses (map the_text (t ∷ ts)) ++ tail) _ _ (text-word text is) (opening-ends _)
        (in-parentheses-read t ts all.0 all.1)

    atom-reads : (atom : Atom) → AtomHasText atom → Ends tail
        → Reads (atom_text names (InBlock params) atom ++ tail) (spell_atom (written_atom atom) ++ lexemes)
    atom-reads atom is ends =
        rw (append_assoc (name_text names kind.Predicate atom.pred) (in_parentheses (map the_text atom.args)) tail)
        (named-reads (name_text names kind.Predicate atom.pred) atom.args is.predicate is.arguments ends)

    terms-read : (theta : List Term) → AllByRecursion HasText theta
        → Reads (terms_text names (InBlock params) theta ++ tail) (spell_terms (map written_term theta) ++ lexemes)
    terms-read [] all = word-reads (40 ∷ []) (41 ∷ tail) _ _ opening tt (word-reads (41 ∷ []) tail _ _ closing tt more)
    terms-read (t ∷ ts) all = in-parentheses-read t ts all.0 all.1

  -- ---- words after spaces

  spaces-end : (words : List (List ℕ)) (tail : List ℕ) → Ends tail → Ends (after_spaces words ++ tail)
  spaces-end [] tail ends = ends
  spaces-end (word ∷ words) tail ends = space-ends _

  -- The bytes end here, after words each after a space.
  module _ (tail : List ℕ) (ends : Ends tail) where
    record Spaced (words : List (List ℕ)) (lexemes : List Lexeme) : Type 0 where
      reads : Reads (after_spaces words ++ tail) lexemes

    spaced : (word : List ℕ) (words : List (List ℕ)) (lexeme : Lexeme) (lexemes : List Lexeme) → IsWord word lexeme
        → Spaced words lexemes → Spaced (word ∷ words) (lexeme ∷ lexemes)
    spaced word words lexeme lexemes is more = record {
      reads = rw (append_assoc word (after_spaces words) tail)
          (space-reads (word ++ (after_spaces words ++ tail)) lexeme lexemes
          (word-before word (after_spaces words ++ tail) lexeme lexemes is (spaces-end words tail ends) more.reads));
    }

    spaced-atom : (atom : Atom) (words : List (List ℕ)) (lexemes : List Lexeme) → AtomHasText atom → Spaced words lexemes
        → Spaced (atom_text names (InBlock params) atom ∷ words) (spell_atom (written_atom atom) ++ lexemes)
    spaced-atom atom words lexemes is more = record {
      reads =
          rw (append_assoc (atom_text names (InBlock params) atom) (after_spaces words) tail)
          (space-reads (atom_text names (InBlock params) atom ++ (after_spaces words ++ tail)) _ _
          (atom-reads (after_spaces words ++ tail) lexemes more.reads atom is (spaces-end words tail ends)));
    }

    spaced-instance : (inst : OpInst) (words : List (List ℕ)) (lexemes : List Lexeme) → StepHasText inst → Spaced words lexemes
        → Spaced (instance_text names (InBlock params) inst ∷ words)
        (name (name_text names kind.Operator inst.op) ∷ (parenthesised (map spell_argument (map written_term inst.args)) ++ lexemes))
    spaced-instance inst words lexemes is more = record {
      reads =
          rw (
            append_assoc (name_text names kind.Operator inst.op ++ in_parentheses (map the_text inst.args)) (after_spaces words) tail,
            append_assoc (name_text names kind.Operator inst.op) (in_parentheses (map the_text inst.args)) (after_spaces words ++ tail),
          )
          (space-reads
          (name_text names kind.Operator inst.op ++ (in_parentheses (map the_text inst.args) ++ (after_spaces words ++ tail))) _ _
          (named-reads (after_spaces words ++ tail) lexemes more.reads (name_text names kind.Operator inst.op) inst.args is.operator
          is.arguments
          (spaces-end words tail ends)));
    }

    spaced-terms : (theta : List Term) (words : List (List ℕ)) (lexemes : List Lexeme) → AllByRecursion HasText theta
        → Spaced words lexemes → Spaced (terms_text names (InBlock params) theta ∷ words) (spell_terms (map written_term theta) ++ lexemes)
    spaced-terms theta words lexemes is more = record {
      reads =
          rw (append_assoc (terms_text names (InBlock params) theta) (after_spaces words) tail)
          (space-reads (terms_text names (InBlock params) theta ++ (after_spaces words ++ tail)) _ _
          (terms-read (after_spaces words ++ tail) lexemes more.reads theta is));
    }

    atoms-read : (atoms : List Atom) → AllByRecursion AtomHasText atoms → Spaced [] []
        → Spaced (map (atom_text names (InBlock params)) atoms) (flat_map spell_atom (map written_atom atoms))
    atoms-read [] is more = more
    atoms-read (atom ∷ atoms) is more = spaced-atom atom (map (atom_text names (InBlock params)) atoms) _ is.0 (atoms-read atoms is.1 more)

    -- ---- proofs

    mutual
      proof-read : (d : Derivation) (words : List (List ℕ)) (lexemes : List Lexeme) → ProofHasText d → Spaced words lexemes
          → Spaced (proof_words names (InBlock params) d ++ words) (flat_map spell_part (written_parts d) ++ lexemes)
      proof-read (fact leaf) words lexemes is more = rw (append-nil (parenthesised (map spell_argument (map written_term leaf.atom.args))))
          (spaced (codes "f") _ _ _ letter_f (spaced (decimal leaf.column) _ _ _ (number-word leaf.column is.0)
          (spaced (decimal leaf.index) _ _ _ (number-word leaf.index is.1) (spaced-atom leaf.atom words lexemes is.2 more))))
      proof-read (ancestor i) words lexemes is more =
          spaced (codes "a") _ _ _ letter_a (spaced (decimal i) words _ lexemes (number-word i is) more)
      proof-read (derivation.step clause theta place parts) words lexemes is more =
          rw (append_assoc (spell_terms (map written_term theta)) (flat_map spell_part (all_written_parts parts)) lexemes)
          (spaced (codes "s") _ _ _ letter_s (spaced (decimal clause) _ _ _ (number-word clause is.0)
          (spaced (decimal place) _ _ _ (number-word place is.1) (spaced (decimal (count_of parts)) _ _ _
          (number-word (count_of parts) is.2) (spaced-terms theta (all_proof_words names (InBlock params) parts ++ words) _ is.3
          (proofs-read parts words lexemes is.4 more))))))
      proof-read (gap atom) words lexemes is more = absurd is
      proof-read open_place words lexemes is more = absurd is

      proofs-read : (ds : Derivations) (words : List (List ℕ)) (lexemes : List Lexeme) → ProofsHaveText ds → Spaced words lexemes
          → Spaced (all_proof_words names (InBlock params) ds ++ words) (flat_map spell_part (all_written_parts ds) ++ lexemes)
      proofs-read none words lexemes is more = more
      proofs-read (also d ds) words lexemes is more =
          rw (
            append_assoc (proof_words names (InBlock params) d) (all_proof_words names (InBlock params) ds) words,
            flat_map-append spell_part (written_parts d) (all_written_parts ds),
            append_assoc (flat_map spell_part (written_parts d)) (flat_map spell_part (all_written_parts ds)) lexemes,
          )
          (proof-read d (all_proof_words names (InBlock params) ds ++ words) _ is.0 (proofs-read ds words lexemes is.1 more))

  -- ---- the lines of a block, without what ends them

  abbrev pub line_bytes : List ℕ → List (List ℕ) → List ℕ
  line_bytes word words = word ++ after_spaces words

  -- a line of a word of the language and words after it
  line-read : (word : List ℕ) (words : List (List ℕ)) (lexemes : List Lexeme) → IsWord word (name word)
      → Spaced [] nothing-ends words lexemes → Reads (line_bytes word words) (name word ∷ lexemes)
  line-read word words lexemes is more = subst (λ bytes. Reads (word ++ bytes) (name word ∷ lexemes)) (append-nil (after_spaces words))
      (word-before word (after_spaces words ++ []) (name word) lexemes is (spaces-end words [] nothing-ends) more.reads)

  nothing-more : Spaced [] nothing-ends [] []
  nothing-more = record { reads = nothing-reads }

  pub table-line : (text : List ℕ) → IsText text → params < 2 ^ 31
      → Reads (line_bytes (codes "table") (text ∷ decimal params ∷ [])) (spelling (table text params))
  table-line text is few = line-read (codes "table") (text ∷ decimal params ∷ []) _ word_table
      (spaced [] nothing-ends text (decimal params ∷ []) (name text) (number params ∷ []) (text-word text is)
      (spaced [] nothing-ends (decimal params) [] (number params) [] (number-word params few) nothing-more))

  pub step-line : (inst : OpInst) → StepHasText inst
      → Reads (line_bytes (codes "step") (instance_text names (InBlock params) inst ∷ [])) (spelling (written_step inst))
  step-line inst is = line-read (codes "step") (instance_text names (InBlock params) inst ∷ []) _ word_step
      (spaced-instance [] nothing-ends inst [] [] is nothing-more)

  pub goal-line : (atoms : List Atom) → AllByRecursion AtomHasText atoms
      → Reads (line_bytes (codes "goal") (map (atom_text names (InBlock params)) atoms)) (spelling (written_goal atoms))
  goal-line atoms is = rw (append-nil (flat_map spell_atom (map written_atom atoms)))
      (line-read (codes "goal") (map (atom_text names (InBlock params)) atoms) _ word_goal
      (atoms-read [] nothing-ends atoms is nothing-more))

  pub proof-line : (row : List Derivation) → ProofsHaveText (derivations row)
      → Reads (line_bytes (codes "proof") (all_proof_words names (InBlock params) (derivations row))) (spelling (written_row row))
  proof-line row is = line-read (codes "proof") (all_proof_words names (InBlock params) (derivations row)) _ word_proof
      (subst (λ words. Spaced [] nothing-ends words (spell (proofs (all_written_parts (derivations row))) ++ []))
      (append-nil (all_proof_words names (InBlock params) (derivations row)))
      (proofs-read [] nothing-ends (derivations row) [] [] is nothing-more))

  pub end-line : Reads (line_bytes (codes "end") []) (spelling end)
  end-line = line-read (codes "end") [] [] word_end nothing-more
