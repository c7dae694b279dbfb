-- The text of the block that a saved table is, line by line.
use Rattle.std.specs.Prelude.{ℕ, List, [], ◌∷◌, ◌++◌, All, codes, map}
use Rattle.std.specs.Fmt.{decimal}
use Rattle.std.specs.List.{flat_map}
use Rattle.std.proofs.Common.{suc}
use Rattle.px_names.specs.Lists.{NameLists}
use Rattle.px_proof.specs.declared.proof.Proof.{Proof}
use Rattle.px_proof.specs.ProofTerm.{derivation_of}
use Rattle.px_proof.specs.Derivation.{Derivation, Derivations, fact, ancestor, step, gap, open_place, none, also, derivations}
use Rattle.px_table.specs.declared.table.Table.{Table}
use Rattle.px_terms.specs.declared.atom.Atom.{Atom}
use Rattle.px_terms.specs.declared.instance.OpInst.{OpInst}
use Rattle.px_terms.specs.declared.term.Term.{Term}
use Rattle.px_printer.specs.declared.spelling.Spelling.{Spelling}
use Rattle.px_printer.specs.declared.spelling.Spelling.TheVariants.{InBlock}
use Rattle.px_printer.specs.Texts.{IsNamedAtom, IsNamedInstance, IsNamedTerm, after_spaces, arguments_text, atom_text, instance_text, text_line}

-- ---- which numbers have their names

-- the numbers of each leaf's atom and of each term that a step chooses have their names
abbrev mutual
  pub IsNamedProof : NameLists → Derivation → Type 0
  IsNamedProof names (fact leaf) = IsNamedAtom names leaf.atom
  IsNamedProof names (ancestor i) = Unit {0}
  IsNamedProof names (step number theta place parts) = All (IsNamedTerm names) theta × AreNamedProofs names parts
  IsNamedProof names (gap atom) = Unit {0}
  IsNamedProof names open_place = Unit {0}

  pub AreNamedProofs : NameLists → Derivations → Type 0
  AreNamedProofs names none = Unit {0}
  AreNamedProofs names (also d ds) = IsNamedProof names d × AreNamedProofs names ds

-- each number that the table's block prints as a name has one
pub record IsNamedBlock (names : NameLists) (table : Table) : Type 0 where
  pub steps : All (IsNamedInstance names) table.steps
  pub goal : All (IsNamedAtom names) table.goal
  pub rows : All (λ (row : List Proof). AreNamedProofs names (derivations (map derivation_of row))) table.proofs

-- ---- proofs

-- the terms of an axiom's variables, in parentheses; no terms are empty parentheses
abbrev pub terms_text : NameLists → Spelling → List Term → List ℕ
terms_text names spelling [] = codes "()"
terms_text names spelling (term ∷ terms) = arguments_text names spelling (term ∷ terms)

-- how many proofs there are
abbrev pub count_of : Derivations → ℕ
count_of none = 0
count_of (also d ds) = suc (count_of ds)

-- The words of a proof. A fact is `f`, its column, its index and its atom; an ancestor is `a` and its number; a step is `s`, the
-- axiom's number, the place, the number of its parts and its terms, and then come its parts. No table has a gap or an open place.
abbrev mutual
  pub proof_words : NameLists → Spelling → Derivation → List (List ℕ)
  proof_words names spelling (fact leaf) =
      codes "f" ∷ decimal leaf.column ∷ decimal leaf.index ∷ atom_text names spelling leaf.atom ∷ []
  proof_words names spelling (ancestor i) = codes "a" ∷ decimal i ∷ []
  proof_words names spelling (step number theta place parts) =
      codes "s" ∷ decimal number ∷ decimal place ∷ decimal (count_of parts) ∷ terms_text names spelling theta
      ∷ all_proof_words names spelling parts
  proof_words names spelling (gap atom) = []
  proof_words names spelling open_place = []

  -- the words of proofs, one after the other
  pub all_proof_words : NameLists → Spelling → Derivations → List (List ℕ)
  all_proof_words names spelling none = []
  all_proof_words names spelling (also d ds) = proof_words names spelling d ++ all_proof_words names spelling ds

-- ---- lines

-- a word, then words each after a space
abbrev pub line_after : List ℕ → List (List ℕ) → List ℕ
line_after word words = word ++ (after_spaces words ++ codes "\n")

abbrev pub step_line : NameLists → Spelling → OpInst → List ℕ
step_line names spelling inst = text_line (codes "step" ∷ instance_text names spelling inst ∷ [])

-- the proofs of a row
abbrev pub proof_line : NameLists → Spelling → List Derivation → List ℕ
proof_line names spelling row = line_after (codes "proof") (all_proof_words names spelling (derivations row))

-- the lines of the steps, the goal and the rows
abbrev pub lines_inside : NameLists → Spelling → List OpInst → List Atom → List (List Derivation) → List ℕ
lines_inside names spelling steps goal rows =
    flat_map (step_line names spelling) steps
    ++ (line_after (codes "goal") (map (atom_text names spelling) goal) ++ flat_map (proof_line names spelling) rows)

-- the block of a table of that name: its number of parameters, then the lines inside, then the end
abbrev pub block_text : NameLists → (name : List ℕ) (params : ℕ) → List OpInst → List Atom → List (List Derivation) → List ℕ
block_text names name params steps goal rows =
    text_line (codes "table" ∷ name ∷ decimal params ∷ [])
    ++ (lines_inside names (InBlock params) steps goal rows ++ text_line (codes "end" ∷ []))
