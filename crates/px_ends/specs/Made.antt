-- The table of a list of moves: which proofs stand in its rows, and where the facts that they rest on come from (after Fikes, Hart and
-- Nilsson 1972).
use Rattle.std.specs.Prelude.{◌≡◌, ◌≢◌, ◌<◌, ℕ, not, Some, List, [], ◌∷◌, ◌++◌, map, filter, length, slice_get, All, Contains}
use Rattle.std.specs.List.{AllZip}
use Rattle.px_terms.specs.declared.atom.Atom.{Atom}
use Rattle.px_terms.specs.declared.instance.OpInst.{OpInst}
use Rattle.px_terms.specs.declared.problem.Problem.{Problem}
use Rattle.px_terms.specs.declared.term.Term.TheVariants.{Obj}
use Rattle.px_terms.specs.Operators.{adds, deletes, precondition}
use Rattle.px_proof.specs.declared.proof.Leaf.{Leaf}
use Rattle.px_proof.specs.Derivation.{Derivation, derivations, fact, leaf_atoms, leaves_of}
use Rattle.px_proof.specs.Grafting.{first_leaves, grafted}
use Rattle.px_proof.specs.Substitution.{derivation_under}
use Rattle.px_question.specs.Answers.{IsFirst}
use Rattle.px_question.specs.FirstOfEach.{IsFirstProof}
use Rattle.px_question.specs.Settings.{setting_of}
use Rattle.px_table.specs.declared.entry.Entry.{Entry}
use Rattle.px_table.specs.declared.entry.Entry.TheVariants.{Op, Macro}
use Rattle.px_table.specs.declared.entry.Move.{Move}
use Rattle.px_table.specs.declared.entry.Move.TheVariants.{Apply, Push}
use Rattle.px_table.specs.declared.node.Node.{Node}
use Rattle.px_table.specs.declared.table.Table.{Table}
use Rattle.px_table.specs.Marks.{marks_from, step_at}
use Rattle.px_table.specs.Tables.{rows_of}
use Rattle.px_entries.specs.Entries.{effect_of, table_at}
use Rattle.px_ends.specs.Tasks.{Task, after, initial_node, steps_of}

-- ---- where a fact comes from

-- after these steps the leaf names where its atom comes from: the last of the steps that adds it, by its first place there, or the
-- initial model if none does
pub record IsSource (problem : Problem) (made : List OpInst) (leaf : Leaf) : Type 0 where
  pub initial : leaf.column ≡ 0 → leaf.index ≡ 0
  pub adder : 0 < leaf.column → (inst : OpInst) × (step_at made leaf.column ≡ Some inst)
      × (slice_get (adds problem inst) leaf.index ≡ Some leaf.atom)
      × ((i : ℕ) → i < leaf.index → slice_get (adds problem inst) i ≢ Some leaf.atom)
  pub last : (k : ℕ) (inst : OpInst) → leaf.column < k → step_at made k ≡ Some inst → ¬ Contains (adds problem inst) leaf.atom

-- the second proof is the first with leaves that name where their atoms come from
abbrev pub IsSourced : Problem → List OpInst → Derivation → Derivation → Type 0
IsSourced problem made d new =
    (leaves : List Leaf) × (leaf_atoms leaves ≡ leaf_atoms (leaves_of d)) × All (IsSource problem made) leaves
    × (new ≡ grafted 0 (map (λ leaf. fact leaf) leaves) d)

-- ---- the rows of entries

-- the row has the first proofs of the formula from these facts
abbrev pub IsFirstRow : Problem → List OpInst → List Atom → List Atom → ℕ → List Derivation → Type 0
IsFirstRow problem made facts formula variable_count row =
    (objects : List ℕ) × (ds : List Derivation) × IsFirst (setting_of problem facts) formula variable_count objects (derivations ds)
    × AllZip (IsSourced problem made) ds row

-- the part is the first proof of the leaf's atom from these facts
abbrev pub IsPart : Problem → List OpInst → List Atom → Leaf → Derivation → Type 0
IsPart problem made facts leaf part = (first : Derivation) × IsFirstProof (setting_of problem facts) leaf.atom first
    × IsSourced problem made first part

-- The second proof is the first with such parts in the places of its leaves in column 0, and with its other leaves higher by the number of
-- columns.
abbrev pub IsGraft : Problem → ℕ → List OpInst → List Atom → Derivation → Derivation → Type 0
IsGraft problem shift made facts d new =
    (parts : List Derivation) × AllZip (IsPart problem made facts) (first_leaves (leaves_of d)) parts × (new ≡ grafted shift parts d)

-- for each of a table's first steps in turn, the table's row put onto the facts that no step before deletes
abbrev pub MacroRows : Problem → List ℕ → ℕ → List OpInst → List Atom → List (List Derivation) → List OpInst → List (List Derivation)
    → Type 0
MacroRows problem sigma shift made facts rows [] new = new ≡ []
MacroRows problem sigma shift made facts [] (step ∷ steps) new = ⊥
MacroRows problem sigma shift made facts (row ∷ rows) (step ∷ steps) [] = ⊥
MacroRows problem sigma shift made facts (row ∷ rows) (step ∷ steps) (first ∷ new) =
    AllZip (IsGraft problem shift made facts) (map (derivation_under (map Obj sigma)) row) first
    × MacroRows problem sigma shift (made ++ step ∷ []) (filter (λ atom. not (deletes problem step atom)) facts) rows steps new

-- the rows of the steps that applying the entry makes, after the steps made before
abbrev pub EntryRows : Problem → List Table → List Atom → List OpInst → Entry → List (List Derivation) → Type 0
EntryRows problem tables model made (Op inst) rows = (row : List Derivation)
    × IsFirstRow problem made model (precondition problem inst) 0 row × (rows ≡ row ∷ [])
EntryRows problem tables model made (Macro number prefix sigma) rows =
    MacroRows problem sigma (length made) made model (rows_of (table_at tables number).proofs)
    (effect_of tables (Macro number prefix sigma)) rows

-- ---- the rows of moves

-- what applying the top entry makes: steps, and their rows
abbrev pub top_steps : List Table → List Entry → List OpInst
top_steps tables [] = []
top_steps tables (entry ∷ below) = effect_of tables entry

abbrev pub TopRows : Problem → List Table → List Atom → List OpInst → List Entry → List (List Derivation) → Type 0
TopRows problem tables model made [] rows = ⊥
TopRows problem tables model made (entry ∷ below) rows = EntryRows problem tables model made entry rows

-- from a node that is reached after the steps made, the rows of the steps that the moves make, and the goal's row at the end
abbrev pub MovesRows : Task → Node → List OpInst → List Move → List (List Derivation) → Type 0
MovesRows task node made [] rows = (row : List Derivation) × IsFirstRow task.problem made node.model task.goal task.variable_count row
    × (rows ≡ row ∷ [])
MovesRows task node made (Push entry ∷ moves) rows = MovesRows task (after task node (Push entry)) made moves rows
MovesRows task node made (Apply ∷ moves) rows =
    (first rest : List (List Derivation)) × TopRows task.problem task.tables node.model made node.stack first
    × MovesRows task (after task node Apply) (made ++ top_steps task.tables node.stack) moves rest × (rows ≡ first ++ rest)

-- the table of the moves
pub record IsTableOfMoves (task : Task) (moves : List Move) (table : Table) : Type 0 where
  pub params : table.params ≡ 0
  pub steps : table.steps ≡ steps_of task.tables [] moves
  pub goal : table.goal ≡ task.goal
  pub goal_variable_count : table.goal_variable_count ≡ task.variable_count
  pub rows : MovesRows task (initial_node task) [] moves (rows_of table.proofs)
  pub marks : table.marks ≡ marks_from 1 (rows_of table.proofs)
  pub param_sorts : table.param_sorts ≡ []
