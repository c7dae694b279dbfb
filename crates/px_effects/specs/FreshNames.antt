-- Names that a line declares: they are names, new to their kind, and there is room for them.
use Rattle.std.specs.Prelude.{◌≤◌, ◌++◌, ℕ, List, [], ◌∷◌, length}
use Rattle.px_names.specs.Lists.{AreDistinct, NameLists, limit_of, names_of}
use Rattle.px_names.specs.Name.{IsName}
use Rattle.px_names.specs.declared.kind.Kind.{Kind}
use Rattle.px_names.specs.declared.kind.Kind.TheVariants as kind
use Rattle.px_script.specs.Lexemes.{Lexeme, name}

-- a lexeme that has to be a name is one
abbrev pub IsNameLexeme : Lexeme → Type 0
IsNameLexeme (name text) = IsName text
IsNameLexeme _ = Unit {0}

-- the names of a kind are different, and no more than there may be
pub record AreOfKind (kind : Kind) (names : List (List ℕ)) : Type 0 where
  pub distinct : AreDistinct names
  pub few : length names ≤ limit_of kind

-- the names of each kind are like this
pub record AreOfKinds (names : NameLists) : Type 0 where
  pub objects : AreOfKind kind.Object names.objects
  pub predicates : AreOfKind kind.Predicate names.predicates
  pub operators : AreOfKind kind.Operator names.operators
  pub results : AreOfKind kind.Result names.results

-- the name is a name and new to its kind, and there is room for it
abbrev pub IsFresh : Kind → NameLists → List ℕ → Type 0
IsFresh kind names n = IsName n × AreOfKind kind (names_of kind names ++ n ∷ [])
