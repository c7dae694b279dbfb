-- What a move adds to what is gone through.
use Rattle.std.specs.Prelude.{◌≡◌, ◌≤◌, ◌<◌, ◌+◌, ◌*◌, ℕ, List, [], ◌∷◌, ◌++◌, length, drop, reverse, slice_index_or, All, Result, Ok, Err, IfOk}
use Rattle.std.proofs.Common.{refl, sym, ap, ◌∙◌, subst, arith, append_assoc, add-one, length-append}
use Rattle.std.proofs.Math.Seq.{drop-cons}
use Rattle.std.proofs.Math.ListN.{drop_of_length-le}
use Rattle.std.proofs.lemmas.List.{append-nil, reverse-append}
use Rattle.std.proofs.lemmas.List.Elements.{All-append, All-cons, All-head, All-nil, All-tail}
use Rattle.px_table.specs.Limits.{most_steps}
use Rattle.px_base.specs.declared.no_memory.NoMemory.{NoMemory}
use Rattle.px_terms.specs.declared.atom.Atom.{Atom}
use Rattle.px_terms.specs.declared.instance.OpInst.{OpInst}
use Rattle.px_terms.specs.declared.problem.Problem.{Problem}
use Rattle.px_terms.specs.Operators.{precondition, result_of, results_of}
use Rattle.px_terms.specs.Validity.{IsGroundInstanceOf}
use Rattle.px_terms.specs.ValidityLaws.{instance-is_ground}
use Rattle.px_proof.specs.Derivation.{Derivation}
use Rattle.px_table.specs.declared.entry.Entry.{Entry}
use Rattle.px_table.specs.declared.entry.Entry.TheVariants.{Op, Macro}
use Rattle.px_table.specs.declared.entry.Move.{Move}
use Rattle.px_table.specs.declared.entry.Move.TheVariants.{Apply, Push}
use Rattle.px_table.specs.declared.node.Node.{Node}
use Rattle.px_table.specs.declared.table.Table.{Table}
use Rattle.px_table.specs.Tables.{rows_of}
use Rattle.px_entries.proofs.RowSteps.{steps-count}
use Rattle.px_entries.specs.Entries.{IsEntry, effect_of, obligations_of, table_at}
use Rattle.px_entries.specs.Learned.{AreLearned}
use Rattle.px_ends.specs.Made.{EntryRows, IsFirstRow, MovesRows, TopRows, top_steps}
use Rattle.px_ends.specs.Tasks.{Task, after, initial_node, needs_with, steps_of}
use Rattle.px_support.specs.declared.walk.Walk.{Walk}
use Rattle.px_support.specs.Asking.{AreTakeable, IsFindable, IsTakeable}
use Rattle.px_support.specs.Going.{AreMovesTaken, IsEntryApplied, IsMoveTaken, RowsBy, node_in, steps_by}
use Rattle.px_support.proofs.MacroTables.{macro-instances, macro-table}

-- ---- one move

-- the last entry of the code's stack is the node's top
pub top-is : (stack below : List Entry) (entry : Entry) → stack ≡ below ++ entry ∷ [] → reverse stack ≡ entry ∷ reverse below
top-is stack below entry is = ap reverse is ∙ reverse-append below (entry ∷ [])

-- what the top entry needs is found
pub top-findable : (task : Task) (model : List Atom) (stack rest : List Entry) (entry : Entry) → stack ≡ entry ∷ rest
    → All (IsFindable task.problem) (needs_with task model stack)
    → All (IsFindable task.problem) (obligations_of task.problem task.tables model entry)
top-findable task model stack rest entry is all = subst (λ (s : List Entry). All (IsFindable task.problem) (needs_with task model s)) is all

pub top-entry : (task : Task) (stack rest : List Entry) (entry : Entry) → stack ≡ entry ∷ rest
    → All (IsEntry task.problem task.tables) stack → IsEntry task.problem task.tables entry
top-entry task stack rest entry is all =
    All-head (IsEntry task.problem task.tables) entry rest (subst (All (IsEntry task.problem task.tables)) is all)

-- what applying the top entry does to the node
applied-node : (task : Task) (model : List Atom) (stack rest : List Entry) (entry : Entry) → stack ≡ entry ∷ rest
    → after task (record { model = model; stack = stack }) Apply
    ≡ record { model = results_of task.problem model (effect_of task.tables entry); stack = rest }
applied-node task model stack rest entry is = ap (λ (s : List Entry). after task (record { model = model; stack = s }) Apply) is

pub taken-top : (task : Task) (entry : Entry) (walk below next : Walk) → walk.stack.items ≡ below.stack.items ++ entry ∷ []
    → below.model.atoms ≡ walk.model.atoms → below.steps.items ≡ walk.steps.items
    → below.rows.items ≡ walk.rows.items → IsEntryApplied task.problem task.tables entry below next → IsMoveTaken task Apply walk next
taken-top task entry walk below next stack model steps rows is =
    let top = top-is walk.stack.items below.stack.items entry stack in
    record {
      node =
          (λ i. record { model = new_model i; stack = reverse (is.stack i) })
          ∙ sym (applied-node task walk.model.atoms (reverse walk.stack.items) (reverse below.stack.items) entry top);
      steps = is.steps ∙ (λ i. steps i ++ top_steps task.tables (sym top i));
      first = is.first;
      made = subst (λ (s : List Entry). TopRows task.problem task.tables walk.model.atoms walk.steps.items s is.first) (sym top)
          (subst (λ (m : List Atom). EntryRows task.problem task.tables m walk.steps.items entry is.first) model
          (subst (λ (made : List OpInst). EntryRows task.problem task.tables below.model.atoms made entry is.first) steps is.made));
      rows = is.rows ∙ ap (λ rs. rows_of rs ++ is.first) rows;
    }
  where
    new_model : next.model.atoms ≡ results_of task.problem walk.model.atoms (effect_of task.tables entry)
    new_model = is.model ∙ ap (λ (m : List Atom). results_of task.problem m (effect_of task.tables entry)) model

pub if_taken_top : (task : Task) (entry : Entry) (walk below : Walk) (result : Result Walk NoMemory)
    → walk.stack.items ≡ below.stack.items ++ entry ∷ [] → below.model.atoms ≡ walk.model.atoms → below.steps.items ≡ walk.steps.items
    → below.rows.items ≡ walk.rows.items → IfOk result (IsEntryApplied task.problem task.tables entry below)
    → IfOk result (IsMoveTaken task Apply walk)
if_taken_top task entry walk below (Ok next) stack model steps rows is = taken-top task entry walk below next stack model steps rows is
if_taken_top task entry walk below (Err e) stack model steps rows is = tt

pub no_items : (stack : List Entry) → length stack ≡ 0 → stack ≡ []
no_items [] none = refl
no_items (entry ∷ stack) none = absurd (omega (arith, none))

pub taken-push : (task : Task) (entry : Entry) (walk next : Walk) → next.stack.items ≡ walk.stack.items ++ entry ∷ []
    → next.model.atoms ≡ walk.model.atoms → next.steps.items ≡ walk.steps.items
    → next.rows.items ≡ walk.rows.items → IsMoveTaken task (Push entry) walk next
taken-push task entry walk next stack model steps rows =
    let top = top-is next.stack.items walk.stack.items entry stack in
    record {
      node = λ i. record { model = model i; stack = top i };
      steps = steps ∙ sym (append-nil walk.steps.items);
      first = [];
      made = refl;
      rows = ap rows_of rows ∙ sym (append-nil (rows_of walk.rows.items));
    }

-- the operator's instance is applied
pub applied-instance : (problem : Problem) (tables : List Table) (inst : OpInst) (old new : Walk) (row : List Derivation)
    → new.stack.items ≡ old.stack.items → new.model.atoms ≡ result_of problem old.model.atoms inst
    → new.steps.items ≡ old.steps.items ++ inst ∷ [] → IsFirstRow problem old.steps.items old.model.atoms (precondition problem inst) 0 row
    → rows_of new.rows.items ≡ rows_of old.rows.items ++ row ∷ []
    → IsEntryApplied problem tables (Op inst) old new
applied-instance problem tables inst old new row stack model steps first rows =
    record { model = model; stack = stack; steps = steps; first = row ∷ []; made = (row, first, refl); rows = rows }

-- ---- move by move

module _ (task : Task) where
  -- as many moves as the number are taken
  pub record IsGoing (moves : List Move) (i : ℕ) (walk : Walk) : Type 0 where
    pub takeable : AreTakeable task (node_in walk) (drop i moves)
    pub entries : All (IsEntry task.problem task.tables) (node_in walk).stack
    pub steps : walk.steps.items ++ steps_of task.tables (node_in walk).stack (drop i moves) ≡ steps_of task.tables [] moves
    pub rows : (rest : List (List Derivation)) → MovesRows task (node_in walk) walk.steps.items (drop i moves) rest
        → MovesRows task (initial_node task) [] moves (rows_of walk.rows.items ++ rest)
    pub all_ground : All (IsGroundInstanceOf task.problem) walk.steps.items
    pub short : length walk.steps.items + most_steps * length (drop i moves) ≤ most_steps * length moves

module _ (task : Task) (learned : AreLearned task.problem task.tables) where
  -- the steps that are left, with those of the first move
  steps-first : (node : Node) (m : Move) (moves : List Move)
      → steps_of task.tables node.stack (m ∷ moves) ≡ steps_by task node m ++ steps_of task.tables (after task node m).stack moves
  steps-first node (Push entry) moves = refl
  steps-first node Apply moves = by node.model node.stack where
    by : (model : List Atom) (stack : List Entry)
        → steps_of task.tables stack (Apply ∷ moves)
        ≡ top_steps task.tables stack ++ steps_of task.tables (after task (record { model = model; stack = stack }) Apply).stack moves
    by model [] = refl
    by model (entry ∷ below) = refl

  -- and their rows
  rows-first : (node : Node) (made : List OpInst) (m : Move) (moves : List Move) (first rest : List (List Derivation))
      → RowsBy task node made m first
      → MovesRows task (after task node m) (made ++ steps_by task node m) moves rest → MovesRows task node made (m ∷ moves) (first ++ rest)
  rows-first node made (Push entry) moves first rest by later =
      subst (λ (rs : List (List Derivation)). MovesRows task (after task node (Push entry)) made moves (rs ++ rest)) (sym by)
      (subst (λ (s : List OpInst). MovesRows task (after task node (Push entry)) s moves rest) (append-nil made) later)
  rows-first node made Apply moves first rest by later = (first, rest, by, later, refl)

  -- an entry takes instances, at most 64
  entry-ground : (entry : Entry) → IsEntry task.problem task.tables entry
      → All (IsGroundInstanceOf task.problem) (effect_of task.tables entry)
  entry-ground (Op inst) is =
      All-cons (IsGroundInstanceOf task.problem) inst [] (instance-is_ground task.problem inst is.of)
      (All-nil (IsGroundInstanceOf task.problem))
  entry-ground (Macro number prefix sigma) is =
      let found = macro-table task.problem task.tables learned number prefix sigma is in
      let instances = macro-instances task.problem (table_at task.tables number) prefix sigma found.0 found.1 in
      λ k d below. instance-is_ground task.problem _ (instances k d below)

  entry-short : (entry : Entry) → IsEntry task.problem task.tables entry → length (effect_of task.tables entry) ≤ most_steps
  entry-short (Op inst) is = omega arith
  entry-short (Macro number prefix sigma) is =
      let table = table_at task.tables number in
      let found = macro-table task.problem task.tables learned number prefix sigma is in
      let taken = steps-count table sigma prefix found.1.within in
      omega (arith, taken, found.1.within, found.2)

  top-ground : (stack : List Entry) → All (IsEntry task.problem task.tables) stack
      → All (IsGroundInstanceOf task.problem) (top_steps task.tables stack)
  top-ground [] all = All-nil (IsGroundInstanceOf task.problem)
  top-ground (entry ∷ below) all = entry-ground entry (All-head (IsEntry task.problem task.tables) entry below all)

  top-short : (stack : List Entry) → All (IsEntry task.problem task.tables) stack → length (top_steps task.tables stack) ≤ most_steps
  top-short [] all = omega arith
  top-short (entry ∷ below) all = entry-short entry (All-head (IsEntry task.problem task.tables) entry below all)

  by-ground : (node : Node) (m : Move) → All (IsEntry task.problem task.tables) node.stack
      → All (IsGroundInstanceOf task.problem) (steps_by task node m)
  by-ground node (Push entry) all = All-nil (IsGroundInstanceOf task.problem)
  by-ground node Apply all = top-ground node.stack all

  by-short : (node : Node) (m : Move) → All (IsEntry task.problem task.tables) node.stack → length (steps_by task node m) ≤ most_steps
  by-short node (Push entry) all = omega arith
  by-short node Apply all = top-short node.stack all

  entries-after : (node : Node) (m : Move) → IsTakeable task node m → All (IsEntry task.problem task.tables) node.stack
      → All (IsEntry task.problem task.tables) (after task node m).stack
  entries-after node (Push entry) is all = All-cons (IsEntry task.problem task.tables) entry node.stack is all
  entries-after node Apply is all = by node.model node.stack all where
    by : (model : List Atom) (stack : List Entry) → All (IsEntry task.problem task.tables) stack
        → All (IsEntry task.problem task.tables) (after task (record { model = model; stack = stack }) Apply).stack
    by model [] all = all
    by model (entry ∷ below) all = All-tail (IsEntry task.problem task.tables) entry below all

  pub going-none : (moves : List Move) (walk : Walk) → node_in walk ≡ initial_node task → walk.steps.items ≡ [] → walk.rows.items ≡ []
      → AreTakeable task (initial_node task) moves → IsGoing task moves 0 walk
  going-none moves walk node steps rows takeable = record {
    takeable = subst (λ (n : Node). AreTakeable task n moves) (sym node) takeable;
    entries = subst (λ (n : Node). All (IsEntry task.problem task.tables) n.stack) (sym node) (All-nil (IsEntry task.problem task.tables));
    steps = λ i. steps i ++ steps_of task.tables (node i).stack moves;
    rows = λ rest made. subst (λ rs. MovesRows task (initial_node task) [] moves (rows_of rs ++ rest)) (sym rows)
        (subst (λ (s : List OpInst). MovesRows task (initial_node task) s moves rest) steps
        (subst (λ (n : Node). MovesRows task n walk.steps.items moves rest) node made));
    all_ground = subst (All (IsGroundInstanceOf task.problem)) (sym steps) (All-nil (IsGroundInstanceOf task.problem));
    short = let none : length walk.steps.items ≡ 0 = ap length steps in omega (arith, none);
  }

  next-left : (moves : List Move) (i : ℕ) (m : Move) → i < length moves → m ≡ slice_index_or moves i m
      → drop i moves ≡ m ∷ drop (i + 1) moves
  next-left moves i m below is = drop-cons moves i m below ∙ (λ j. sym is j ∷ drop (sym (add-one i) j) moves)

  -- what is known at the next move
  pub next-takeable : (moves : List Move) (i : ℕ) (m : Move) (walk : Walk) → i < length moves → m ≡ slice_index_or moves i m
      → IsGoing task moves i walk → IsTakeable task (node_in walk) m
  next-takeable moves i m walk below is going = (subst (AreTakeable task (node_in walk)) (next-left moves i m below is) going.takeable).0

  pub next-short : (moves : List Move) (i : ℕ) (walk : Walk) → i < length moves → IsGoing task moves i walk
      → length walk.steps.items + most_steps ≤ most_steps * length moves
  next-short moves i walk below going = let d = length-drop-some moves i below in omega (arith, d, going.short)
    where
      length-drop-some : (moves : List Move) (i : ℕ) → i < length moves → 0 < length (drop i moves)
      length-drop-some moves i below = subst (λ (l : List Move). 0 < length l) (sym (drop-cons moves i Apply below)) (omega arith)

  pub going-next : (moves : List Move) (i : ℕ) (m : Move) (walk next : Walk) → i < length moves → m ≡ slice_index_or moves i m
      → IsGoing task moves i walk → IsMoveTaken task m walk next → IsGoing task moves (i + 1) next
  going-next moves i m walk next below is going taken =
      let left = next-left moves i m below is in
      let both = subst (AreTakeable task (node_in walk)) left going.takeable in
      let rest = drop (i + 1) moves in
      let by = steps_by task (node_in walk) m in
      let here = by-short (node_in walk) m going.entries in
      let was : length walk.steps.items + most_steps * length (m ∷ rest) ≤ most_steps * length moves =
      subst (λ (l : List Move). length walk.steps.items + most_steps * length l ≤ most_steps * length moves) left going.short in
      let long : length next.steps.items ≡ length walk.steps.items + length by =
      ap length taken.steps ∙ length-append walk.steps.items by in
      record {
        takeable = subst (λ (n : Node). AreTakeable task n rest) (sym taken.node) both.1;
        entries =
            subst (λ (n : Node). All (IsEntry task.problem task.tables) n.stack) (sym taken.node)
            (entries-after (node_in walk) m both.0 going.entries);
        steps =
            (λ j. taken.steps j ++ steps_of task.tables (taken.node j).stack rest)
            ∙ append_assoc walk.steps.items by (steps_of task.tables (after task (node_in walk) m).stack rest)
            ∙ ap (λ (l : List OpInst). walk.steps.items ++ l) (sym (steps-first (node_in walk) m rest))
            ∙ ap (λ (l : List Move). walk.steps.items ++ steps_of task.tables (node_in walk).stack l) (sym left) ∙ going.steps;
        rows = λ more made.
            subst (λ (rs : List (List Derivation)). MovesRows task (initial_node task) [] moves rs)
            (sym (append_assoc (rows_of walk.rows.items) taken.first more)
            ∙ ap (λ (rs : List (List Derivation)). rs ++ more) (sym taken.rows))
            (going.rows (taken.first ++ more) (subst
            (λ (l : List Move). MovesRows task (node_in walk) walk.steps.items l (taken.first ++ more)) (sym left)
            (rows-first (node_in walk) walk.steps.items m rest taken.first more taken.made
            (subst (λ (s : List OpInst). MovesRows task (after task (node_in walk) m) s rest more) taken.steps
            (subst (λ (n : Node). MovesRows task n next.steps.items rest more) taken.node made)))));
        all_ground =
            subst (All (IsGroundInstanceOf task.problem)) (sym taken.steps)
            (All-append (IsGroundInstanceOf task.problem) walk.steps.items by going.all_ground (by-ground (node_in walk) m going.entries));
        short = omega (arith, here, was, long);
      }

  pub going-all : (moves : List Move) (i : ℕ) (walk : Walk) → length moves ≤ i → IsGoing task moves i walk → AreMovesTaken task moves walk
  going-all moves i walk end going =
      let none : drop i moves ≡ [] = drop_of_length-le moves end in
      record {
        goal = subst (AreTakeable task (node_in walk)) none going.takeable;
        steps =
            sym (append-nil walk.steps.items)
            ∙ ap (λ (l : List Move). walk.steps.items ++ steps_of task.tables (node_in walk).stack l) (sym none) ∙ going.steps;
        rows =
            λ row first. going.rows (row
            ∷ []) (subst (λ (l : List Move). MovesRows task (node_in walk) walk.steps.items l (row ∷ [])) (sym none) (row, first, refl));
        all_ground = going.all_ground;
        short = omega (arith, going.short);
      }
