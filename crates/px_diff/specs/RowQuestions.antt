-- What questions of gaps say of a row of a table, where some of its parameters have objects.
use Rattle.std.specs.Prelude.{◌≡◌, ◌⊎◌, ◌<◌, ◌≤◌, ◌+◌, ℕ, List, [], ◌∷◌, length, get_or, All}
use Rattle.px_prover.specs.Limits.{most_gap_variables}
use Rattle.px_prover.specs.PatternLists.{lists_of}
use Rattle.px_prover.specs.Patterns.{AreGapPatterns}
use Rattle.px_prover.specs.declared.pattern.GapPattern.{GapPattern}
use Rattle.px_question.specs.Gaps.{IsGapList, IsLooseGap}
use Rattle.px_question.specs.Limits.{AreFewGapShapes}
use Rattle.px_question.specs.Settings.{Setting, setting_of}
use Rattle.px_table.specs.Tables.{IsTable}
use Rattle.px_table.specs.declared.table.Table.{Table}
use Rattle.px_terms.specs.AtomSets.{IsAtomSet}
use Rattle.px_terms.specs.Validity.{IsValid}
use Rattle.px_terms.specs.declared.atom.Atom.{Atom}
use Rattle.px_terms.specs.declared.problem.Problem.{Problem}
use Rattle.px_terms.specs.declared.term.Term.{Term}
use Rattle.px_gaps.specs.Closings.{IsClosedIn, OneOf}
use Rattle.px_gaps.specs.Bindings.{AreUnbound, ExtendsTerms, IsBinding}
use Rattle.px_entries.specs.Entries.{initial_atoms}
use Rattle.px_entries.specs.Parameters.{FitsTerms}
use Rattle.px_diff.specs.declared.row_choices.TableChoices.{TableChoices}

-- All patterns of the formula, which has fewer unfinished gap proofs than the limit, by their shapes; and each atom that they close has
-- fewer, too.
pub record IsRowAnswer (s : Setting) (formula : List Atom) (variable_count : ℕ) (patterns : List GapPattern) : Type 0 where
  pub all : AreGapPatterns s formula variable_count patterns
  pub few : AreFewGapShapes s formula variable_count
  pub atoms : (atom : Atom) → IsClosedIn (lists_of s.objects patterns) atom → AreFewGapShapes s (atom ∷ []) 0

-- the table's rows can be asked with these terms for its parameters, which are few enough for a question
pub record CanAskRows (problem : Problem) (table : Table) (terms : List Term) : Type 0 where
  pub valid : IsValid problem
  pub is_table : IsTable problem table
  pub long : length terms ≡ table.params
  pub binding : IsBinding problem.objects terms
  pub few : table.params ≤ most_gap_variables

-- the objects fit one of the choices
abbrev pub FitsOne : List (List Term) → List ℕ → Type 0
FitsOne choices sigma = OneOf choices (λ (choice : List Term). FitsTerms choice sigma)

-- The row with these objects for the parameters: fewer unfinished gap proofs of it exist than the limit, and fewer of each atom that a
-- loose gap proof of it closes. Where it has a list of loose gap proofs, the objects fit one of the choices.
pub record IsInstanceKnown (s : Setting) (table : Table) (row : ℕ) (choices : List (List Term)) (sigma : List ℕ) : Type 0 where
  pub few : AreFewGapShapes s (initial_atoms table sigma row) 0
  pub atoms : (atom : Atom) → IsLooseGap s (initial_atoms table sigma row) 0 atom → AreFewGapShapes s (atom ∷ []) 0
  pub covers : (objects : List ℕ) (gaps : List Atom) → IsGapList s (initial_atoms table sigma row) 0 objects gaps → FitsOne choices sigma

-- this is so for all objects of the part
abbrev pub AreInstancesKnown : Setting → Table → ℕ → (List ℕ → Type 0) → List (List Term) → Type 0
AreInstancesKnown s table row IsPart choices = (sigma : List ℕ) → IsPart sigma → IsInstanceKnown s table row choices sigma

-- this is so for all objects of the part but those that fit one of the terms at which the row meets the limit
abbrev pub AreAskedOf : Setting → Table → ℕ → (List ℕ → Type 0) → List (List Term) → List (List Term) → Type 0
AreAskedOf s table row IsPart choices limited = (sigma : List ℕ) → IsPart sigma → FitsOne limited sigma
    ⊎ IsInstanceKnown s table row choices sigma

-- The new choices have a term for each parameter, if the old ones had. Objects that fit one of the old ones fit one of the new ones.
pub record Widens (params : ℕ) (old new : List (List Term)) : Type 0 where
  pub long : All (λ choice. length choice ≡ params) old → All (λ choice. length choice ≡ params) new
  pub kept : (sigma : List ℕ) → FitsOne old sigma → FitsOne new sigma

-- Choices of terms for the parameters, and terms at which the row meets the limit, where all objects that extend the given terms were
-- asked about.
pub record IsRowKnown (s : Setting) (table : Table) (terms : List Term) (row : ℕ) (choices limited : List (List Term)) : Type 0 where
  pub long : All (λ choice. length choice ≡ table.params) choices
  pub limited_long : All (λ choice. length choice ≡ table.params) limited
  pub asked : AreAskedOf s table row (ExtendsTerms s.objects terms) choices limited

-- such choices and terms for each of the first rows
pub record AreRowsKnown (s : Setting) (table : Table) (terms : List Term) (prefix : ℕ) (rows limited : List (List (List Term))) : Type 0
  where
    pub count : length rows ≡ prefix
    pub limited_count : length limited ≡ prefix
    pub each : (k : ℕ) → k < prefix → IsRowKnown s table terms (k + 1) (get_or rows k []) (get_or limited k [])

-- such choices and terms for all rows of the table, where the given terms are variables, the problem has an object, and the facts are a
-- set
pub record AreTableChoices (problem : Problem) (facts : List Atom) (table : Table) (found : TableChoices) : Type 0 where
  pub terms : List Term
  pub unbound : AreUnbound table.params terms
  pub some_object : 0 < problem.objects
  pub set : IsAtomSet facts
  pub known : AreRowsKnown (setting_of problem facts) table terms (length table.steps) found.choices found.limited

-- the objects fit one of the choices of each row
abbrev pub FitsEach : List (List (List Term)) → List ℕ → Type 0
FitsEach rows sigma = All (λ choices. OneOf choices (λ (choice : List Term). FitsTerms choice sigma)) rows
