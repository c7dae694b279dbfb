-- The names of each kind, in the order of their numbers.
use Rattle.std.specs.Prelude.{◌≡◌, ◌≢◌, ◌≤◌, ◌<◌, Contains, ℕ, Bool, List, [], ◌∷◌, ◌++◌, length, All, AllPairs, nat_lt, if◌then◌else◌, not, Option, None, Some}
use Rattle.std.specs.List.{list_any}
use Rattle.std.specs.Str.{IsUtf8, bytes_eq}
use Rattle.px_names.specs.Name.{is_name_text, IsName}
use Rattle.px_names.specs.declared.kind.Kind.{Kind}
use Rattle.px_names.specs.declared.kind.Kind.TheVariants as kind
use Rattle.px_names.specs.declared.limits.TheConstants.{OBJECTS, OPERATORS, PREDICATES, RESULTS}
use Rattle.px_names.specs.declared.kind.NameErr.{NameErr}
use Rattle.px_names.specs.declared.kind.NameErr.TheVariants.{BadName, Duplicate, Full}

-- the names of each kind
pub record NameLists : Type 0 where
  pub objects : List (List ℕ)
  pub predicates : List (List ℕ)
  pub operators : List (List ℕ)
  pub results : List (List ℕ)

-- no name of any kind
abbrev pub no_names : NameLists
no_names = record { objects = []; predicates = []; operators = []; results = [] }

-- how many names of a kind there may be, in a script of any version
abbrev pub limit_of : Kind → ℕ
limit_of kind.Object = OBJECTS
limit_of kind.Predicate = PREDICATES
limit_of kind.Operator = OPERATORS
limit_of kind.Result = RESULTS

-- the names of a kind
abbrev pub names_of : Kind → NameLists → List (List ℕ)
names_of kind.Object names = names.objects
names_of kind.Predicate names = names.predicates
names_of kind.Operator names = names.operators
names_of kind.Result names = names.results

-- no two of the names are equal
abbrev pub AreDistinct : List (List ℕ) → Type 0
AreDistinct names = AllPairs (λ earlier later. earlier ≢ later) names

-- the texts are distinct names in UTF-8, at most as many as there may be of the kind
pub record AreNames (kind : Kind) (names : List (List ℕ)) : Type 0 where
  pub distinct : AreDistinct names
  pub named : All IsName names
  pub texts : All IsUtf8 names
  pub fit : length names ≤ limit_of kind

-- the list of each kind is one of names of the kind
pub record AreNameLists (names : NameLists) : Type 0 where
  pub objects : AreNames kind.Object names.objects
  pub predicates : AreNames kind.Predicate names.predicates
  pub operators : AreNames kind.Operator names.operators
  pub results : AreNames kind.Result names.results

-- the text is a new name, and there is room for it
abbrev pub IsWelcome : Kind → List (List ℕ) → List ℕ → Type 0
IsWelcome kind names name = IsName name × (¬ Contains names name) × (length names < limit_of kind)

-- the text is a new name, and there are as many names as there may be
abbrev pub IsOneTooMany : Kind → List (List ℕ) → List ℕ → Type 0
IsOneTooMany kind names name = IsName name × (¬ Contains names name) × (length names ≡ limit_of kind)

-- the lists with one more name of a kind
abbrev pub with_name : Kind → List ℕ → NameLists → NameLists
with_name kind.Object name names = record names { objects = names.objects ++ name ∷ [] }
with_name kind.Predicate name names = record names { predicates = names.predicates ++ name ∷ [] }
with_name kind.Operator name names = record names { operators = names.operators ++ name ∷ [] }
with_name kind.Result name names = record names { results = names.results ++ name ∷ [] }

-- For callers whose definitions compute: two tests. `NameLaws` has that the first decides membership, and that the second finds no
-- cause exactly where a name is welcome.

-- whether a name is in a list
abbrev pub has_name : List ℕ → List (List ℕ) → Bool
has_name name names = list_any (bytes_eq name) names

-- the first cause to refuse a name, in the order of the causes; none where the name is welcome
abbrev pub refusal : Kind → NameLists → List ℕ → Option NameErr
refusal kind names name = if not (is_name_text name) then Some BadName
    else (if has_name name (names_of kind names) then Some Duplicate
    else (if nat_lt (length (names_of kind names)) (limit_of kind) then None else Some Full))
