-- What an edited table is worth.
use Rattle.std.specs.Prelude.{◌≡◌, ◌⊎◌, ◌<◌, ◌≤◌, ℕ, List, length, map, take, All, Any, Contains, Some, slice_get}
use Rattle.std.proofs.Common.{suc}
use Rattle.px_terms.specs.declared.atom.Atom.{Atom}
use Rattle.px_terms.specs.declared.instance.OpInst.{OpInst}
use Rattle.px_terms.specs.declared.problem.Problem.{Problem}
use Rattle.px_terms.specs.declared.term.Term.{Term}
use Rattle.px_terms.specs.declared.term.Term.TheVariants.{Obj}
use Rattle.px_terms.specs.Language.{substitute}
use Rattle.px_terms.specs.Operators.{IsDeleted, adds, schema_of}
use Rattle.px_terms.specs.Sorts.{IsWellSorted}
use Rattle.px_terms.specs.Substitution.{substitute_atom}
use Rattle.px_terms.specs.Validity.{IsValid}
use Rattle.px_table.specs.declared.mark.Mark.{Mark}
use Rattle.px_table.specs.declared.table.Table.{Table}
use Rattle.px_table.specs.Kernels.{IsInstantiation, IsProper, atom_under, kernel_under, steps_under}
use Rattle.px_table.specs.Marks.{step_at}
use Rattle.px_table.specs.Parameters.{IsNumbered}
use Rattle.px_table.specs.Prefixes.{IsProperPrefix}
use Rattle.px_table.specs.Tables.{IsTable}
use Rattle.px_table.specs.WellSorted.{HasSortsOfPlaces, ParametersFit}
use Rattle.px_edit.specs.Editing.{AreKeptSteps, IsEdited, kept_steps, left_parameters, names_by, new_number, wanted_atom}
use Rattle.px_edit.specs.EditCauses.{IsEditable}

-- each step has an add that a row of the table rests on, the goal's row included
abbrev pub EachStepServes : Table → Type 0
EachStepServes edited = (k : ℕ) → 1 ≤ k → k ≤ length edited.steps → Any (λ (mark : Mark). mark.column ≡ k) edited.marks

-- the rows of the kept steps rest on no step that is dropped
abbrev pub NothingIsMissed : Table → List ℕ → Type 0
NothingIsMissed table kept = All (λ (mark : Mark). Contains kept mark.row → (mark.column ≡ 0) ⊎ Contains kept mark.column) table.marks

-- the steps of the pairs are kept, and each kept step is one of the first ones
abbrev pub KeepsWanted : List (ℕ × ℕ) → ℕ → List ℕ → Type 0
KeepsWanted wanted prefix kept =
    All (λ (pair : ℕ × ℕ). Contains kept pair.0) wanted × All (λ k. (1 ≤ k) × (k ≤ prefix)) kept

-- ---- that they are there

-- the step of the pair is one of the table's, and adds the wanted atom at its place
pub record IsAddThere (problem : Problem) (table : Table) (pair : ℕ × ℕ) : Type 0 where
  pub inst : OpInst
  pub step : step_at table.steps pair.0 ≡ Some inst
  pub add : slice_get (adds problem inst) pair.1 ≡ Some (wanted_atom problem table pair)

-- so it is with each pair, and each kept step is the table's step of its number: nothing stands for what is past an end
pub record AreThere (problem : Problem) (table : Table) (wanted : List (ℕ × ℕ)) (kept : List ℕ) : Type 0 where
  pub adds_are : All (IsAddThere problem table) wanted
  pub steps_are : (place k : ℕ) → slice_get kept place ≡ Some k → slice_get (kept_steps table kept) place ≡ step_at table.steps k

-- ---- where the marks of the edited table come from

-- the names that the parameters get
abbrev pub names_left : Problem → Table → List (ℕ × ℕ) → List ℕ → List Term
names_left problem table wanted kept = names_by table.params (left_parameters problem table wanted kept)

-- the mark is one of a kept step's row, and rests on the initial model or on a kept step, under its new numbers and names
pub record IsOldMark (problem : Problem) (table : Table) (wanted : List (ℕ × ℕ)) (kept : List ℕ) (mark : Mark) : Type 0 where
  pub old : Mark
  pub has : Contains table.marks old
  pub row : Contains kept old.row
  pub column : (old.column ≡ 0) ⊎ Contains kept old.column
  pub atom_is : mark.atom ≡ substitute_atom (names_left problem table wanted kept) old.atom
  pub row_is : mark.row ≡ new_number kept old.row
  pub column_is : mark.column ≡ new_number kept old.column
  pub index_is : mark.index ≡ old.index

-- the mark is one of the goal's row, for an add that is wanted of a kept step, under its new number and names
pub record IsGoalMark (problem : Problem) (table : Table) (wanted : List (ℕ × ℕ)) (kept : List ℕ) (mark : Mark) : Type 0 where
  pub pair : ℕ × ℕ
  pub has : Contains wanted pair
  pub column : Contains kept pair.0
  pub atom_is : mark.atom ≡ substitute_atom (names_left problem table wanted kept) (wanted_atom problem table pair)
  pub row_is : mark.row ≡ suc (length kept)
  pub column_is : mark.column ≡ new_number kept pair.0
  pub index_is : mark.index ≡ pair.1

-- each mark of the edited table is such a one, so that none names a step that is dropped
abbrev pub EachMarkIsKept : Problem → Table → List (ℕ × ℕ) → List ℕ → Table → Type 0
EachMarkIsKept problem table wanted kept edited =
    All (λ mark. IsOldMark problem table wanted kept mark ⊎ IsGoalMark problem table wanted kept mark) edited.marks

-- ---- where the edited table may be used

-- these are the objects that sigma gives to the parameters that are left, in their order
abbrev pub AreObjectsLeft : Problem → Table → List (ℕ × ℕ) → (kept sigma left : List ℕ) → Type 0
AreObjectsLeft problem table wanted kept sigma left =
    map Obj left ≡ map (substitute (map Obj sigma)) (left_parameters problem table wanted kept)

-- under the objects a kept step deletes an add that is wanted of a step before it
pub record IsSpoilt (problem : Problem) (table : Table) (wanted : List (ℕ × ℕ)) (kept sigma : List ℕ) (k : ℕ) : Type 0 where
  pub pair : ℕ × ℕ
  pub has : Contains wanted pair
  pub is_kept : Contains kept k
  pub later : pair.0 < k
  pub inst : OpInst
  pub at : step_at (steps_under table sigma) k ≡ Some inst
  pub deleted : IsDeleted (schema_of problem inst) inst (atom_under sigma (wanted_atom problem table pair))

-- under the objects a row of the first steps rests on the atom in the initial model
pub record IsAskedAtFirst (table : Table) (prefix : ℕ) (sigma : List ℕ) (atom : Atom) : Type 0 where
  pub mark : Mark
  pub has : Contains table.marks mark
  pub row : mark.row ≤ prefix
  pub column : mark.column ≡ 0
  pub atom_is : atom_under sigma mark.atom ≡ atom

-- The edited table under the objects that are left of sigma. They are objects for its parameters. They fit where the first steps fit under
-- sigma. They are proper where sigma is proper for the first steps and no kept step deletes a wanted add. The first kernel asks for
-- nothing that the rows of the first steps don't rest on in the initial model. So the edited table may be used wherever the first steps may
-- be, but where a kept step deletes a wanted add: then the objects are proper at no kernel up to that step.
pub record IsUsedAlike (problem : Problem) (table : Table) (prefix : ℕ) (wanted : List (ℕ × ℕ)) (kept : List ℕ) (edited : Table)
    (sigma left : List ℕ) : Type 0 where
  pub instantiation : IsInstantiation problem edited left
  pub fits : All (IsWellSorted problem) (take prefix (steps_under table sigma)) → ParametersFit problem.object_sorts edited left
  pub proper : IsProperPrefix problem table prefix sigma → ((k : ℕ) → ¬ IsSpoilt problem table wanted kept sigma k)
      → IsProper problem edited left 1
  pub asks_no_more : (atom : Atom) → Contains (kernel_under edited left 1) atom → IsAskedAtFirst table prefix sigma atom
  pub spoilt : (k i : ℕ) → IsSpoilt problem table wanted kept sigma k → i ≤ new_number kept k → ¬ IsProper problem edited left i

-- Of what may be edited there is one edited table. It is a table whose steps all serve, and which has all that they rest on. Each of its
-- parameters occurs, they are numbered in the order in which they first occur, and each has the sort of the sorted places of the steps at
-- which it stands.
pub record EditingIsSound : Type 0 where
  pub table : (problem : Problem) (table : Table) (prefix : ℕ) (wanted : List (ℕ × ℕ)) (edited : Table) → IsValid problem
      → IsTable problem table → IsEditable problem table prefix wanted → IsEdited problem table wanted edited → IsTable problem edited
  pub serves : (problem : Problem) (table : Table) (prefix : ℕ) (wanted : List (ℕ × ℕ)) (edited : Table) → IsValid problem
      → IsTable problem table → IsEditable problem table prefix wanted → IsEdited problem table wanted edited → EachStepServes edited
  pub whole : (problem : Problem) (table : Table) (prefix : ℕ) (wanted : List (ℕ × ℕ)) (kept : List ℕ) → IsTable problem table
      → IsEditable problem table prefix wanted → AreKeptSteps table wanted kept
      → NothingIsMissed table kept × KeepsWanted wanted prefix kept
  pub there : (problem : Problem) (table : Table) (prefix : ℕ) (wanted : List (ℕ × ℕ)) (kept : List ℕ) → IsValid problem
      → IsTable problem table → IsEditable problem table prefix wanted → AreKeptSteps table wanted kept → AreThere problem table wanted kept
  pub marks : (problem : Problem) (table : Table) (prefix : ℕ) (wanted : List (ℕ × ℕ)) (edited : Table) → IsValid problem
      → IsTable problem table → IsEditable problem table prefix wanted → (is : IsEdited problem table wanted edited)
      → EachMarkIsKept problem table wanted is.kept edited
  pub numbered : (problem : Problem) (table : Table) (prefix : ℕ) (wanted : List (ℕ × ℕ)) (edited : Table) → IsValid problem
      → IsTable problem table → IsEditable problem table prefix wanted → IsEdited problem table wanted edited → IsNumbered edited
  pub sorts : (problem : Problem) (table : Table) (prefix : ℕ) (wanted : List (ℕ × ℕ)) (edited : Table) → IsValid problem
      → IsTable problem table → IsEditable problem table prefix wanted → IsEdited problem table wanted edited
      → HasSortsOfPlaces problem edited
  -- there are objects that are left of those for the table's parameters, and where these may be used those may be
  pub objects : (problem : Problem) (table : Table) (wanted : List (ℕ × ℕ)) (kept sigma : List ℕ) → IsInstantiation problem table sigma
      → (left : List ℕ) × AreObjectsLeft problem table wanted kept sigma left
  pub alike : (problem : Problem) (table : Table) (prefix : ℕ) (wanted : List (ℕ × ℕ)) (edited : Table) (sigma left : List ℕ)
      → IsValid problem → IsTable problem table → IsEditable problem table prefix wanted → (is : IsEdited problem table wanted edited)
      → IsInstantiation problem table sigma → AreObjectsLeft problem table wanted is.kept sigma left
      → IsUsedAlike problem table prefix wanted is.kept edited sigma left
  pub some : (problem : Problem) (table : Table) (prefix : ℕ) (wanted : List (ℕ × ℕ)) → IsValid problem → IsTable problem table
      → IsEditable problem table prefix wanted → (edited : Table) × IsEdited problem table wanted edited
  pub one : (problem : Problem) (table : Table) (wanted : List (ℕ × ℕ)) (a b : Table) → IsEdited problem table wanted a
      → IsEdited problem table wanted b → a ≡ b
