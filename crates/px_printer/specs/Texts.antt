-- The texts of terms, atoms and operator instances, and of lines. Texts are lists of bytes.
use Rattle.std.specs.Prelude.{◌≡◌, ◌+◌, ◌-◌, ◌<◌, ℕ, List, [], ◌∷◌, ◌++◌, All, codes, length, map, nat_lt, if◌then◌else◌, slice_get, unwrap_or}
use Rattle.std.specs.Fmt.{decimal}
use Rattle.std.specs.List.{flat_map}
use Rattle.px_names.specs.Lists.{NameLists, names_of}
use Rattle.px_names.specs.declared.kind.Kind.{Kind}
use Rattle.px_names.specs.declared.kind.Kind.TheVariants as kind
use Rattle.px_terms.specs.declared.atom.Atom.{Atom}
use Rattle.px_terms.specs.declared.instance.OpInst.{OpInst}
use Rattle.px_terms.specs.declared.term.Term.{Term}
use Rattle.px_terms.specs.declared.term.Term.TheVariants.{Obj, Var, Any}
use Rattle.px_printer.specs.declared.spelling.Spelling.{Spelling}
use Rattle.px_printer.specs.declared.spelling.Spelling.TheVariants.{InBlock, InRows}

-- ---- names

-- the number has a name of the kind
abbrev pub HasName : NameLists → Kind → ℕ → Type 0
HasName names kind number = number < length (names_of kind names)

-- the name of a number
abbrev pub name_text : NameLists → Kind → ℕ → List ℕ
name_text names kind number = unwrap_or (slice_get (names_of kind names) number) []

-- ---- terms, atoms and operator instances

-- if the term is an object, it has its name
abbrev pub IsNamedTerm : NameLists → Term → Type 0
IsNamedTerm names term = (number : ℕ) → term ≡ Obj number → HasName names kind.Object number

-- the predicate has its name, and so has each object among the arguments
pub record IsNamedAtom (names : NameLists) (atom : Atom) : Type 0 where
  pub predicate : HasName names kind.Predicate atom.pred
  pub objects : All (IsNamedTerm names) atom.args

-- the operator has its name, and so has each object among the arguments
pub record IsNamedInstance (names : NameLists) (inst : OpInst) : Type 0 where
  pub operator : HasName names kind.Operator inst.op
  pub objects : All (IsNamedTerm names) inst.args

-- The first variables are parameters and the others are a goal's own, each a word and its number, from 1.
abbrev pub numbered_variable : (params : ℕ) (parameter own : List ℕ) (number : ℕ) → List ℕ
numbered_variable params parameter own number =
    if nat_lt number params then parameter ++ decimal (number + 1) else own ++ decimal (number - params + 1)

-- parameters are `p1` and on in the rows of a shown table, and `?p1` and on in the block of a saved one; the variables of a goal are
-- `?1` and on, and `?g1` and on
abbrev pub variable_text : Spelling → ℕ → List ℕ
variable_text (InRows params) number = numbered_variable params (codes "p") (codes "?") number
variable_text (InBlock params) number = numbered_variable params (codes "?p") (codes "?g") number

-- An object is its name, and the wild card is `$`.
abbrev pub term_text : NameLists → Spelling → Term → List ℕ
term_text names spelling (Obj number) = name_text names kind.Object number
term_text names spelling (Var number) = variable_text spelling number
term_text names spelling Any = codes "$"

-- texts, each after a comma
abbrev pub after_commas : List (List ℕ) → List ℕ
after_commas texts = flat_map (λ text. codes "," ++ text) texts

-- texts in parentheses, with commas between them; no texts are no parentheses
abbrev pub in_parentheses : List (List ℕ) → List ℕ
in_parentheses [] = []
in_parentheses (first ∷ rest) = codes "(" ++ (first ++ (after_commas rest ++ codes ")"))

-- the texts of the arguments, in parentheses
abbrev pub arguments_text : NameLists → Spelling → List Term → List ℕ
arguments_text names spelling terms = in_parentheses (map (term_text names spelling) terms)

-- the predicate's name, then the arguments
abbrev pub atom_text : NameLists → Spelling → Atom → List ℕ
atom_text names spelling atom = name_text names kind.Predicate atom.pred ++ arguments_text names spelling atom.args

-- the operator's name, then the arguments
abbrev pub instance_text : NameLists → Spelling → OpInst → List ℕ
instance_text names spelling inst = name_text names kind.Operator inst.op ++ arguments_text names spelling inst.args

-- ---- lines

-- a line of words: a space between two words, a line feed at the end
abbrev pub text_line : List (List ℕ) → List ℕ
text_line [] = codes "\n"
text_line (word ∷ []) = word ++ codes "\n"
text_line (word ∷ next ∷ words) = word ++ (codes " " ++ text_line (next ∷ words))

-- words, each after a space
abbrev pub after_spaces : List (List ℕ) → List ℕ
after_spaces words = flat_map (λ word. codes " " ++ word) words

-- a line of words that begins with two spaces
abbrev pub indented_line : List (List ℕ) → List ℕ
indented_line words = codes "  " ++ text_line words

-- a line for each text, with its number; the first has this one
abbrev pub numbered_lines : ℕ → List (List ℕ) → List ℕ
numbered_lines number [] = []
numbered_lines number (text ∷ texts) = indented_line (decimal number ∷ text ∷ []) ++ numbered_lines (number + 1) texts

-- a line for each text
abbrev pub indented_lines : List (List ℕ) → List ℕ
indented_lines texts = flat_map (λ text. indented_line (text ∷ [])) texts
