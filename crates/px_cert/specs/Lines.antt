-- The lines of a certificate, and how each is written. A text is a list of bytes.
use Rattle.std.specs.Prelude.{ℕ, Bool, true, false, List, [], ◌++◌, codes, length}
use Rattle.std.specs.Fmt.{decimal}
use Rattle.std.specs.List.{flat_map}
use Rattle.px_terms.specs.declared.atom.Atom.{Atom}
use Rattle.px_terms.specs.declared.clause.Clause.{Clause}
use Rattle.px_terms.specs.declared.clause.Lit.{Lit}
use Rattle.px_terms.specs.declared.instance.OpInst.{OpInst}
use Rattle.px_terms.specs.declared.term.Term.{Term}
use Rattle.px_terms.specs.declared.term.Term.TheVariants.{Obj, Var, Any}
use Rattle.px_proof.specs.declared.proof.Proof.{Proof}
use Rattle.px_proof.specs.Derivation.{Derivation, Derivations, fact, ancestor, step, gap, open_place, none, also}
use Rattle.px_proof.specs.ProofTerm.{derivation_of}

-- What a line says. Objects, operators and tables name the sorts of their objects and parameters, one each.
pub data Line : Type 0 where
  heading : Line
  objects predicates : List ℕ → Line
  axioms : ℕ → Line
  clause : Clause → Line
  operators : ℕ → Line
  operator : List ℕ → Line
  pre delete add : List Atom → Line
  table : List ℕ → Line
  -- how many variables of its own it has, and its atoms
  goal : ℕ → List Atom → Line
  steps : ℕ → Line
  action : OpInst → Line
  row : List Proof → Line

-- ---- items: words, each after a space

abbrev pub number_item : ℕ → List ℕ
number_item n = codes " " ++ decimal n

abbrev pub term_item : Term → List ℕ
term_item (Obj n) = codes " o" ++ decimal n
term_item (Var v) = codes " v" ++ decimal v
term_item Any = codes " $"

abbrev pub atom_item : Atom → List ℕ
atom_item atom = number_item atom.pred ++ flat_map term_item atom.args

abbrev pub sign_item : Bool → List ℕ
sign_item true = codes " 1"
sign_item false = codes " 0"

abbrev pub literal_item : Lit → List ℕ
literal_item lit = sign_item lit.positive ++ atom_item lit.atom

-- a gap and an open place aren't written; a table has neither
abbrev mutual
  pub derivation_item : Derivation → List ℕ
  derivation_item (fact leaf) = codes " f" ++ (number_item leaf.column ++ (number_item leaf.index ++ atom_item leaf.atom))
  derivation_item (ancestor i) = codes " a" ++ number_item i
  derivation_item (step number theta place parts) =
      codes " s" ++ (number_item number ++ (number_item place ++ (flat_map term_item theta ++ derivation_items parts)))
  derivation_item (gap atom) = []
  derivation_item open_place = []

  pub derivation_items : Derivations → List ℕ
  derivation_items none = []
  derivation_items (also d ds) = derivation_item d ++ derivation_items ds

abbrev pub proof_item : Proof → List ℕ
proof_item proof = derivation_item (derivation_of proof)

-- a list is its length and its items
abbrev pub list_item : {A : Type 0} → (A → List ℕ) → List A → List ℕ
list_item item list = number_item (length list) ++ flat_map item list

-- ---- lines

-- a line's first word, its further items, and a line feed
abbrev pub line_of_items : List ℕ → List ℕ → List ℕ
line_of_items word items = word ++ (items ++ codes "\n")

abbrev pub line_bytes : Line → List ℕ
line_bytes heading = line_of_items (codes "planex") (codes " certificate 1")
line_bytes (objects sorts) = line_of_items (codes "objects") (list_item number_item sorts)
line_bytes (predicates arities) = line_of_items (codes "predicates") (list_item number_item arities)
line_bytes (axioms count) = line_of_items (codes "axioms") (number_item count)
line_bytes (clause c) = line_of_items (codes "axiom") (number_item c.variable_count ++ list_item literal_item c.lits)
line_bytes (operators count) = line_of_items (codes "operators") (number_item count)
line_bytes (operator sorts) = line_of_items (codes "operator") (list_item number_item sorts)
line_bytes (pre atoms) = line_of_items (codes "pre") (list_item atom_item atoms)
line_bytes (delete atoms) = line_of_items (codes "delete") (list_item atom_item atoms)
line_bytes (add atoms) = line_of_items (codes "add") (list_item atom_item atoms)
line_bytes (table sorts) = line_of_items (codes "table") (list_item number_item sorts)
line_bytes (goal variable_count atoms) = line_of_items (codes "goal") (number_item variable_count ++ list_item atom_item atoms)
line_bytes (steps count) = line_of_items (codes "steps") (number_item count)
line_bytes (action inst) = line_of_items (codes "step") (number_item inst.op ++ flat_map term_item inst.args)
line_bytes (row proofs) = line_of_items (codes "row") (list_item proof_item proofs)
