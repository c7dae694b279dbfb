-- Each lawful reply is no longer than any may be.
use Rattle.std.specs.Prelude.{All, Contains, Option, None, Some}
use Rattle.std.proofs.Common.{◌≡◌, ◌⊎◌, ℕ, ◌+◌, ◌*◌, ◌<◌, ◌≤◌, List, [], ◌∷◌, ◌++◌, codes, length, map, refl, sym, ap, ◌∙◌, subst, inl, inr, arith, length-append}
use Rattle.std.specs.Fmt.{decimal}
use Rattle.std.specs.List.{flat_map}
use Rattle.std.proofs.Math.Nat.{le_trans, mul-le-mul_right}
use Rattle.std.proofs.lemmas.List.{length-map}
use Rattle.std.proofs.lemmas.List.Elements.{All-cons, All-head, All-nil, All-tail, All-weaker}
use Rattle.std.proofs.lemmas.Nat.{mul-le}
use Rattle.px_base.specs.Bounds.{u32_max}
use Rattle.px_base.specs.ListLaws.{All-at}
use Rattle.px_names.specs.Lists.{NameLists}
use Rattle.px_names.specs.declared.kind.Kind.TheVariants as kind
use Rattle.px_terms.specs.declared.atom.Atom.{Atom}
use Rattle.px_terms.specs.declared.instance.OpInst.{OpInst}
use Rattle.px_terms.specs.declared.problem.Problem.{Problem}
use Rattle.px_terms.specs.Validity.{IsAtomOf, IsValid}
use Rattle.px_table.specs.declared.table.Table.{Table}
use Rattle.px_table.specs.Limits.{most_steps}
use Rattle.px_table.specs.Tables.{IsTable, rows_of}
use Rattle.px_proof.specs.ProofTerm.{derivation_of}
use Rattle.px_cert.specs.Certificates.{certificate_text}
use Rattle.px_cert.specs.Limits.{most_atoms, most_table_parameters}
use Rattle.px_library.specs.Libraries.{table_named}
use Rattle.px_planex.specs.Turns.{Recorded, TurnValue}
use Rattle.px_duo.specs.Duos.{both}
use Rattle.px_ends.specs.Tasks.{task_of, task_with}
use Rattle.px_printer.specs.DuoLines.{duo_line}
use Rattle.px_printer.specs.Replies.{reply_text}
use Rattle.px_printer.specs.Rows.{row_lines}
use Rattle.px_printer.specs.Texts.{atom_text, indented_line, indented_lines, instance_text, name_text, numbered_lines, text_line}
use Rattle.px_printer.specs.Trees.{node_lines, tree_end_line}
use Rattle.px_printer.specs.PursuitEnds.{pursue_end_text}
use Rattle.px_printer.specs.Turns.{turn_lines}
use Rattle.px_printer.specs.Whys.{edit_why_text, save_why_text, why_text}
use Rattle.px_printer.specs.declared.duo_line.DuoLine.{DuoLine}
use Rattle.px_printer.specs.declared.pursue_end.PursueEnd.{PursueEnd}
use Rattle.px_printer.specs.declared.reply.EditWhy.{EditWhy}
use Rattle.px_printer.specs.declared.reply.EditWhy.TheVariants as edit_why
use Rattle.px_printer.specs.declared.reply.Reply.{Reply}
use Rattle.px_printer.specs.declared.reply.Reply.TheVariants as reply
use Rattle.px_printer.specs.declared.reply.SaveWhy.{SaveWhy}
use Rattle.px_printer.specs.declared.reply.SaveWhy.TheVariants as save_why
use Rattle.px_printer.specs.declared.reply.Why.{Why}
use Rattle.px_printer.specs.declared.reply.Why.TheVariants as why
use Rattle.px_printer.specs.declared.spelling.Spelling.TheVariants.{InRows}
use Rattle.px_printer.specs.declared.turn.Turn.{Turn}
use Rattle.px_tree.specs.declared.nodes.Tree.{Tree}
use Rattle.px_script.specs.declared.command.Command.{Command}
use Rattle.px_script.specs.declared.command.Command.TheVariants as command
use Rattle.px_script.specs.declared.limits.Limit.TheVariants.{Events as events}
use Rattle.px_script.specs.declared.limits.TheConstants.{MOST_TREE_NODES as most_tree_nodes}
use Rattle.px_script.specs.Limits.{greatest}
use Rattle.px_session.specs.CertifiedReplies.{IsCertifiableProblem}
use Rattle.px_session.specs.Asked.{TellsCertifying, TellsSaving, TellsShow}
use Rattle.px_session.specs.Lawful.{Lawful, Notes, TellsDuo, TellsEditing, TellsFacts, TellsLearning, TellsPursuit, TellsRun, TellsSearch, TellsTree, recorded_for, turn_told}
use Rattle.px_session.specs.OwnStates.{IsOwnGoal}
use Rattle.px_session.specs.declared.edit.Edit.{Edit}
use Rattle.px_session.specs.declared.edit.Edit.TheVariants.{OfAtoms as of_atoms, OfRooms as of_rooms}
use Rattle.px_session.specs.Sessions.{IsLearnedTable, IsPlanTable, IsSession, SessionState, any_table, first_table}
use Rattle.px_session.specs.Writable.{HasWritableTables, IsWritable}
use Rattle.px_session.proofs.FoundTables.{found-table}
use Rattle.px_session.proofs.Learned.{are-learned}
use Rattle.px_session.proofs.OneLearning.{any-right, table-there}
use Rattle.px_session.proofs.OwnDuos.{duo-steps, each_table}
use Rattle.px_session.proofs.OwnRuns.{IsOwnStep, run-steps}
use Rattle.px_session.proofs.PursuitRuns.{pursuit-steps}
use Rattle.px_session.proofs.ToldDuos.{told_duos}
use Rattle.px_session.proofs.ToldRuns.{told_runs}
use Rattle.px_session.proofs.ToldTrees.{told_trees}
use Rattle.px_session.proofs.WrittenTables.{HasNoCause, no-cause}
use Rattle.px_lengths.specs.Longest.{longest_block, longest_certificate, longest_duo, longest_facts, longest_piece, longest_plan, longest_pursuit, longest_reply, longest_run, longest_table, longest_tree, most_facts, most_marks}
use Rattle.px_lengths.proofs.CertificateTexts.{certificate-short}
use Rattle.px_lengths.proofs.Facts.{facts-few}
use Rattle.px_lengths.proofs.Parts.{AreShort, atom-short, name-short, number-short, step-short}
use Rattle.px_lengths.proofs.Pursued.{pursuit-few}
use Rattle.px_lengths.proofs.RunTexts.{IsNarrowOption, IsSmallOrigin, duo-short, nodes-short, pursue-end-short, tree-end-short, turns-short}
use Rattle.px_lengths.proofs.Sizes.{indented-short, line-short}
use Rattle.px_lengths.proofs.SmallTables.{learned-marks-few, low-rows, narrow-atoms, narrow-clauses, narrow-instance, narrow-marks, narrow-option, narrow-steps, plan-marks-few, row-count, short-operators, small-table}
use Rattle.px_lengths.proofs.TableTexts.{IsNarrowAtom, IsNarrowStep, block-short, shown-short}
use Rattle.px_lengths.proofs.TreeMoves.{small-nodes}

-- ---- each bound is within that of all

module _ (problem : Problem) (disturbances : ℕ) where
  abbrev most : ℕ
  most = longest_reply problem disturbances

  in-line : (n : ℕ) → n ≤ longest_piece → n ≤ most
  unfolding longest_reply longest_plan
  in-line n few = omega (arith, few)

  in-plan : (n : ℕ) → n ≤ longest_plan → n ≤ most
  unfolding longest_reply
  in-plan n few = omega (arith, few)

  in-table : (n : ℕ) → n ≤ longest_table problem → n ≤ most
  unfolding longest_reply
  in-table n few = omega (arith, few)

  in-block : (n : ℕ) → n ≤ longest_block → n ≤ most
  unfolding longest_reply
  in-block n few = omega (arith, few)

  in-certificate : (n : ℕ) → n ≤ longest_certificate problem → n ≤ most
  unfolding longest_reply
  in-certificate n few = omega (arith, few)

  in-run : (n : ℕ) → n ≤ longest_run disturbances → n ≤ most
  unfolding longest_reply
  in-run n few = omega (arith, few)

  in-pursuit : (n : ℕ) → n ≤ longest_pursuit disturbances → n ≤ most
  unfolding longest_reply
  in-pursuit n few = omega (arith, few)

  in-duo : (n : ℕ) → n ≤ longest_duo → n ≤ most
  unfolding longest_reply
  in-duo n few = omega (arith, few)

  in-facts : (n : ℕ) → n ≤ longest_facts problem → n ≤ most
  unfolding longest_reply
  in-facts n few = omega (arith, few)

  in-tree : (n : ℕ) → n ≤ longest_tree → n ≤ most
  unfolding longest_reply
  in-tree n few = omega (arith, few)

-- ---- words for causes

why-short : (cause : Why) → length (why_text cause) ≤ 7
why-short why.TooLong = omega arith
why-short why.TooDeep = omega arith
why-short why.TooWide = omega arith
why-short why.Full = omega arith

save-why-short : (cause : SaveWhy) → length (save_why_text cause) ≤ 7
save-why-short save_why.TooLong = omega arith
save-why-short save_why.TooDeep = omega arith
save-why-short save_why.TooMany = omega arith

edit-why-short : (cause : EditWhy) → length (edit_why_text cause) ≤ 7
edit-why-short edit_why.Prefix = omega arith
edit-why-short edit_why.Want = omega arith
edit-why-short edit_why.TooLong = omega arith
edit-why-short edit_why.TooDeep = omega arith
edit-why-short edit_why.Full = omega arith

-- ---- texts, where their parts are few and narrow

module _ (names : NameLists) (short : AreShort names) where
  abbrev named : ℕ → List ℕ
  named name = name_text names kind.Result name

  result-short : (name : ℕ) → length (named name) ≤ 64
  result-short name = name-short names short kind.Result name

  -- a word and a name, and what comes after
  word-short : (word : List ℕ) (name : ℕ) → length word ≤ 20 → length (text_line (word ∷ named name ∷ [])) ≤ 100
  word-short word name few = omega (arith, line-short (word ∷ named name ∷ []), result-short name, few)

  cause-short : (word : List ℕ) (name : ℕ) (cause : List ℕ) → length word ≤ 20 → length cause ≤ 7
      → length (text_line (word ∷ named name ∷ cause ∷ [])) ≤ 200
  cause-short word name cause few fewer =
      omega (arith, line-short (word ∷ named name ∷ cause ∷ []), result-short name, few, fewer)

  counts-short : (word : List ℕ) (name one other : ℕ) (first second : List ℕ) → length word ≤ 20 → length first ≤ 20
      → length second ≤ 20
      → length (text_line (word ∷ named name ∷ decimal one ∷ first ∷ decimal other ∷ second ∷ [])) ≤ 300
  counts-short word name one other first second few fewer least =
      omega (
        arith,
        line-short (word ∷ named name ∷ decimal one ∷ first ∷ decimal other ∷ second ∷ []),
        result-short name,
        number-short one,
        number-short other,
        few,
        fewer,
        least,
      )

  count-short : (word : List ℕ) (name count : ℕ) (last : List ℕ) → length word ≤ 20 → length last ≤ 20
      → length (text_line (word ∷ named name ∷ decimal count ∷ last ∷ [])) ≤ 200
  count-short word name count last few fewer =
      omega (
        arith,
        line-short (word ∷ named name ∷ decimal count ∷ last ∷ []),
        result-short name,
        number-short count,
        few,
        fewer,
      )

  numbered-short : (number : ℕ) (steps : List OpInst) → All IsNarrowStep steps
      → length (numbered_lines number (map (instance_text names (InRows 0)) steps)) ≤ length steps * longest_piece
  numbered-short number [] narrow = omega arith
  numbered-short number (step ∷ steps) narrow =
      let text = instance_text names (InRows 0) step in
      let line = indented_line (decimal number ∷ text ∷ []) in
      let here = step-short names short (InRows 0) step (All-head IsNarrowStep step steps narrow) in
      let rest = numbered-short (number + 1) steps (All-tail IsNarrowStep step steps narrow) in
      omega (
        arith,
        length-append line (numbered_lines (number + 1) (map (instance_text names (InRows 0)) steps)),
        indented-short (decimal number ∷ text ∷ []),
        number-short number,
        here,
        rest,
      )

  plan-text-short : (name moves : ℕ) (steps : List OpInst) → All IsNarrowStep steps → length steps < u32_max
      → length (reply_text names (reply.Plan name moves steps)) ≤ longest_plan
  unfolding longest_plan
  plan-text-short name moves steps narrow few =
      let line = text_line (codes "plan" ∷ named name ∷ decimal (length steps) ∷ codes "steps" ∷ decimal moves ∷ codes "moves" ∷ []) in
      omega (
        arith,
        length-append line (numbered_lines 1 (map (instance_text names (InRows 0)) steps)),
        counts-short (codes "plan") name (length steps) moves (codes "steps") (codes "moves") (omega arith) (omega arith) (omega arith),
        numbered-short 1 steps narrow,
        few,
      )

  facts-text-short : (problem : Problem) (atoms : List Atom) → All IsNarrowAtom atoms → length atoms ≤ most_facts problem
      → length (reply_text names (reply.FactsAre atoms)) ≤ longest_facts problem
  unfolding longest_facts
  facts-text-short problem atoms narrow few =
      let words = codes "facts" ∷ decimal (length atoms) ∷ [] in
      let texts = map (atom_text names (InRows 0)) atoms in
      let lines : length (indented_lines texts) ≤ length atoms * longest_piece = each atoms narrow in
      let all : length atoms * longest_piece ≤ most_facts problem * longest_piece = mul-le-mul_right longest_piece few in
      omega (
        arith,
        length-append (text_line words) (indented_lines texts),
        line-short words,
        number-short (length atoms),
        lines,
        all,
      )
    where
      each : (atoms : List Atom) → All IsNarrowAtom atoms
          → length (indented_lines (map (atom_text names (InRows 0)) atoms)) ≤ length atoms * longest_piece
      each [] narrow = omega arith
      each (atom ∷ atoms) narrow =
          let text = atom_text names (InRows 0) atom in
          let here = atom-short names short (InRows 0) atom (All-head IsNarrowAtom atom atoms narrow) in
          let rest = each atoms (All-tail IsNarrowAtom atom atoms narrow) in
          omega (
            arith,
            length-append (indented_line (text ∷ [])) (indented_lines (map (atom_text names (InRows 0)) atoms)),
            indented-short (text ∷ []),
            here,
            rest,
          )

  run-text-short : (name disturbances : ℕ) (turns : List Turn) → All (λ turn. IsNarrowOption turn.op) turns
      → length turns ≤ (disturbances + 1) * u32_max
      → length (reply_text names (reply.Ran name turns)) ≤ longest_run disturbances
  unfolding longest_run
  run-text-short name disturbances turns narrow few =
      omega (
        arith,
        length-append (text_line (codes "run" ∷ named name ∷ [])) (turn_lines names 1 turns),
        word-short (codes "run") name (omega arith),
        turns-short names short 1 turns narrow,
        few,
      )

  pursuit-text-short : (name searches disturbances : ℕ) (turns : List Turn) (end : PursueEnd) → All (λ turn. IsNarrowOption turn.op) turns
      → length turns ≤ (2 * disturbances + 1) * u32_max
      → length (reply_text names (reply.Pursuit name searches turns end)) ≤ longest_pursuit disturbances
  unfolding longest_pursuit
  pursuit-text-short name searches disturbances turns end narrow few =
      let line = text_line (codes "pursue" ∷ named name ∷ decimal searches ∷ codes "searches" ∷ []) in
      omega (
        arith,
        length-append line (turn_lines names 1 turns ++ pursue_end_text end),
        length-append (turn_lines names 1 turns) (pursue_end_text end),
        count-short (codes "pursue") name searches (codes "searches") (omega arith) (omega arith),
        turns-short names short 1 turns narrow,
        pursue-end-short end,
        few,
      )

  duo-text-short : (first second : ℕ) (lines : List DuoLine) → All (λ line. IsNarrowOption line.op) lines
      → length lines ≤ greatest 2 events
      → length (reply_text names (reply.DuoRan first second lines)) ≤ longest_duo
  unfolding longest_duo
  duo-text-short first second lines narrow few =
      let words = codes "duo" ∷ named first ∷ named second ∷ [] in
      omega (
        arith,
        length-append (text_line words) (flat_map (duo_line names) lines),
        line-short words,
        result-short first,
        result-short second,
        duo-short names short lines narrow,
        few,
      )

  tree-text-short : (name : ℕ) (tables : List ℕ) (tree : Tree) → All (λ node. IsSmallOrigin node.origin) tree.nodes
      → length tree.nodes ≤ most_tree_nodes
      → length (reply_text names (reply.Tree name tables tree)) ≤ longest_tree
  unfolding longest_tree
  tree-text-short name tables tree small few =
      let line = text_line (codes "tree" ∷ named name ∷ decimal (length tree.nodes) ∷ codes "nodes" ∷ []) in
      omega (
        arith,
        length-append line (node_lines names tables 0 tree.nodes ++ tree_end_line tree.end),
        length-append (node_lines names tables 0 tree.nodes) (tree_end_line tree.end),
        count-short (codes "tree") name (length tree.nodes) (codes "nodes") (omega arith) (omega arith),
        nodes-short names short tables 0 tree.nodes small,
        tree-end-short tree.end,
        few,
      )

  shown-text-short : (problem : Problem) (name : ℕ) (table : Table) → All IsNarrowStep table.steps
      → All (λ mark. IsNarrowAtom mark.atom) table.marks → All IsNarrowAtom table.goal → length table.goal ≤ most_atoms
      → length table.steps < u32_max → length table.marks ≤ most_marks problem
      → length (reply_text names (reply.Shown name table)) ≤ longest_table problem
  unfolding longest_table
  shown-text-short problem name table steps marks goal goal-few steps-few marks-few =
      let line = text_line (codes "table" ∷ named name ∷ decimal table.params ∷ codes "parameters" ∷ decimal (length table.steps)
      ∷ codes "steps" ∷ []) in
      let row = longest_piece + most_marks problem * longest_piece in
      let rows = shown-short names short table steps marks goal goal-few in
      let all : (length table.steps + 17) * (longest_piece + length table.marks * longest_piece) ≤ (u32_max + 16) * row =
      mul-le (length table.steps + 17) (longest_piece + length table.marks * longest_piece) (u32_max + 16) row (omega (arith, steps-few))
      (omega (arith, marks-few)) in
      omega (
        arith,
        length-append line (row_lines names table),
        counts-short (codes "table") name table.params (length table.steps) (codes "parameters") (codes "steps") (omega arith) (omega arith)
            (omega arith),
        rows,
        all,
      )

-- ---- what is asked of a command: not too many events, and a tree of not too many nodes

abbrev pub AsksFew : Command → Type 0
AsksFew (command.Duo first second numbers) = length numbers ≤ greatest 2 events
AsksFew (command.Tree name nodes goal variable_count) = nodes ≤ most_tree_nodes
AsksFew _ = Unit {0}

-- ---- lawful replies

module _ (problem : Problem) (valid : IsValid problem) (limits : IsCertifiableProblem problem) (names : NameLists) (short : AreShort names)
    (old : SessionState) (session : IsSession problem old) (written : HasWritableTables problem old)
    (atoms_own : All (IsAtomOf problem 0) old.atoms) (disturbances : ℕ) (recorded : length old.recorded ≤ disturbances) where
  abbrev IsBounded : Reply → Type 0
  IsBounded answer = length (reply_text names answer) ≤ longest_reply problem disturbances

  -- ---- tables of the session

  -- the table of a name is that of a plan, or learned
  any-there : (name : ℕ) (table : Table) → any_table old name ≡ Some table
      → Contains old.plans.tables table ⊎ Contains old.learned.tables table
  any-there name table named = by (table_named old.plans name) refl named
    where
      by : (plan : Option Table) → table_named old.plans name ≡ plan → first_table plan (table_named old.learned name) ≡ Some table
          → Contains old.plans.tables table ⊎ Contains old.learned.tables table
      by None at other = inr (table-there old.learned.names old.learned.tables name table other)
      by (Some plan) at same = inl (table-there old.plans.names old.plans.tables name table (at ∙ same))

  module _ (name : ℕ) (table : Table) (has : any_table old name ≡ Some table) where
    table-is : IsTable problem table
    table-is = any-right problem old session.plans session.learned name table has

    writable : IsWritable problem table
    writable = elim (any-there name table has) [
      | inl plan ↦ All-at (IsWritable problem) old.plans.tables table written.plans plan
      | inr learned ↦ All-at (IsWritable problem) old.learned.tables table written.learned learned
    ]

    goal-few : length table.goal ≤ most_atoms
    goal-few = writable.few_atoms

    marks-few : length table.marks ≤ most_marks problem
    marks-few = elim (any-there name table has) [
      | inl plan ↦ plan-marks-few problem valid limits table
          (All-at (IsPlanTable problem) old.plans.tables table session.plans plan) goal-few
      | inr learned ↦ learned-marks-few problem valid limits table
          (All-at (IsLearnedTable problem) old.learned.tables table session.learned learned) goal-few
    ]

    steps-narrow : All IsNarrowStep table.steps
    steps-narrow = narrow-steps problem valid limits table.params table.steps table-is.in_range.steps

    goal-narrow : All IsNarrowAtom table.goal
    goal-narrow = narrow-atoms problem valid limits (table.params + table.goal_variable_count) table.goal table-is.in_range.goal

    shown-bounded : (given : ℕ) → IsBounded (reply.Shown given table)
    shown-bounded given =
        in-table problem disturbances (length (reply_text names (reply.Shown given table)))
        (shown-text-short names short problem given table steps-narrow (narrow-marks problem valid limits table table-is) goal-narrow
        goal-few table-is.in_range.short marks-few)

    module _ (none : HasNoCause table) where
      steps-few : length table.steps ≤ most_steps
      steps-few = grind (arith, none.short)

      rows-few : length table.proofs ≤ most_steps + 1
      rows-few = omega (arith, row-count problem valid limits table table-is goal-few, steps-few)

      saved-bounded : (given : ℕ) → IsBounded (reply.Saved given table)
      saved-bounded given =
          let rows = rows_of table.proofs in
          let count : length rows ≤ most_steps + 1 = omega (arith, rows-few, length-map table.proofs (map derivation_of)) in
          in-block problem disturbances (length (reply_text names (reply.Saved given table)))
          (block-short names short given table.params table.steps table.goal rows steps-few steps-narrow goal-few goal-narrow count
          (small-table problem valid limits table table-is goal-few) (low-rows table none.low))

      certified-bounded : (given : ℕ) → IsBounded (reply.Certified given (certificate_text problem table))
      certified-bounded given =
          let params : table.params ≤ most_table_parameters = grind (arith, none.few) in
          let sorts : length table.param_sorts ≤ most_table_parameters = omega (arith, table-is.sorted.count, params) in
          in-certificate problem disturbances (length (certificate_text problem table))
          (certificate-short problem table (narrow-clauses problem valid limits) (short-operators problem valid limits) sorts goal-few
          goal-narrow steps-few steps-narrow rows-few (small-table problem valid limits table table-is goal-few) (low-rows table none.low))

  -- ---- lines of turns

  own-turns : (told : List Turn) → All (λ turn. IsOwnStep problem turn.op) (map turn_told told) → All (λ turn. IsNarrowOption turn.op) told
  own-turns [] own = All-nil (λ (turn : Turn). IsNarrowOption turn.op)
  own-turns (turn ∷ told) own =
      All-cons (λ (t : Turn). IsNarrowOption t.op) turn told
      (narrow-option problem valid limits turn.op
      (All-head (λ (t : TurnValue). IsOwnStep problem t.op) (turn_told turn) (map turn_told told) own))
      (own-turns told (All-tail (λ (t : TurnValue). IsOwnStep problem t.op) (turn_told turn) (map turn_told told) own))

  -- ---- by command

  plain : (answer : Reply) → length (reply_text names answer) ≤ 400 → IsBounded answer
  plain answer few = in-line problem disturbances (length (reply_text names answer)) (omega (arith, few))

  unknown-bounded : (given : ℕ) → IsBounded (reply.Unknown given)
  unknown-bounded given =
      let few = word-short names short (codes "unknown") given (omega arith) in
      plain (reply.Unknown given) (omega (arith, few))

  search-bounded : (name : ℕ) (goal : List Atom) (variable_count : ℕ) → All (IsAtomOf problem variable_count) goal → (answer : Reply) (new : SessionState)
      → TellsSearch (task_of problem old.learned.tables old.atoms goal variable_count) name old answer new → IsBounded answer
  search-bounded name goal variable_count own (reply.Plan given count steps) new is =
      let found = is.1 in
      let plan = found-table (task_of problem old.learned.tables old.atoms goal variable_count) valid own (are-learned problem old session)
      valid.nodes.1 name count old new steps found in
      let same : found.made.steps ≡ steps = found.table.steps ∙ sym found.taken in
      let narrow = subst (All IsNarrowStep) same
      (narrow-steps problem valid limits found.made.params found.made.steps plan.table.in_range.steps) in
      let few : length steps < u32_max = subst (λ (l : List OpInst). length l < u32_max) same plan.table.in_range.short in
      in-plan problem disturbances (length (reply_text names (reply.Plan given count steps)))
      (plan-text-short names short given count steps narrow few)
  search-bounded name goal variable_count own (reply.Exhausted given) new is =
      let few = word-short names short (codes "exhausted") given (omega arith) in
      plain (reply.Exhausted given) (omega (arith, few))
  search-bounded name goal variable_count own (reply.NodeLimit given nodes moves) new is =
      let few = counts-short names short (codes "nodelimit") given (length nodes) moves (codes "nodes") (codes "moves") (omega arith)
      (omega arith) (omega arith) in
      plain (reply.NodeLimit given nodes moves) (omega (arith, few))
  search-bounded name goal variable_count own (reply.ShapeLimit given node limit) new is =
      let few = count-short names short (codes "shapelimit") given (length limit.shapes) (codes "shapes") (omega arith) (omega arith) in
      plain (reply.ShapeLimit given node limit) (omega (arith, few))
  search-bounded name goal variable_count own answer new is = absurd is

  learning-bounded : (name source : ℕ) (answer : Reply) (new : SessionState) → TellsLearning problem old name source answer new
      → IsBounded answer
  learning-bounded name source (reply.Unknown given) new is = unknown-bounded given
  learning-bounded name source (reply.LearnRefused given cause) new is =
      let few = cause-short names short (codes "notlearned") given (why_text cause) (omega arith) (why-short cause) in
      plain (reply.LearnRefused given cause) (omega (arith, few))
  learning-bounded name source (reply.Learned given params steps) new is =
      let few = counts-short names short (codes "learned") given params steps (codes "parameters") (codes "steps") (omega arith)
      (omega arith) (omega arith) in
      plain (reply.Learned given params steps) (omega (arith, few))
  learning-bounded name source answer new is = absurd is

  editing-bounded : (name source prefix : ℕ) (wanted : List (ℕ × ℕ)) (answer : Reply) (new : SessionState)
      → TellsEditing problem old name source prefix wanted answer new → IsBounded answer
  editing-bounded name source prefix wanted (reply.Unknown given) new is = unknown-bounded given
  editing-bounded name source prefix wanted (reply.EditRefused given cause) new is =
      let few = cause-short names short (codes "notedited") given (edit_why_text cause) (omega arith) (edit-why-short cause) in
      plain (reply.EditRefused given cause) (omega (arith, few))
  editing-bounded name source prefix wanted (reply.Edited given params steps) new is =
      let few = counts-short names short (codes "edited") given params steps (codes "parameters") (codes "steps") (omega arith)
      (omega arith) (omega arith) in
      plain (reply.Edited given params steps) (omega (arith, few))
  editing-bounded name source prefix wanted answer new is = absurd is

  show-bounded : (name : ℕ) (answer : Reply) (new : SessionState) → TellsShow old name answer new → IsBounded answer
  show-bounded name (reply.Unknown given) new is = unknown-bounded given
  show-bounded name (reply.Shown given table) new is = shown-bounded name table is.1 given
  show-bounded name answer new is = absurd is

  saving-bounded : (name : ℕ) (answer : Reply) (new : SessionState) → TellsSaving old name answer new → IsBounded answer
  saving-bounded name (reply.Unknown given) new is = unknown-bounded given
  saving-bounded name (reply.SaveRefused given cause) new is =
      let few = cause-short names short (codes "notsaved") given (save_why_text cause) (omega arith) (save-why-short cause) in
      plain (reply.SaveRefused given cause) (omega (arith, few))
  saving-bounded name (reply.Saved given table) new is =
      saved-bounded name table is.1.named (no-cause table is.1.allowed) given
  saving-bounded name answer new is = absurd is

  certifying-bounded : (name : ℕ) (answer : Reply) (new : SessionState) → TellsCertifying problem old name answer new → IsBounded answer
  certifying-bounded name (reply.Unknown given) new is = unknown-bounded given
  certifying-bounded name (reply.CertifyRefused given cause) new is =
      let few = cause-short names short (codes "notcertified") given (save_why_text cause) (omega arith) (save-why-short cause) in
      plain (reply.CertifyRefused given cause) (omega (arith, few))
  certifying-bounded name (reply.Certified given bytes) new is =
      let saved = is.1.written in
      subst (λ (b : List ℕ). IsBounded (reply.Certified given b)) (sym is.1.bytes_are)
      (certified-bounded name is.1.table saved.named (no-cause is.1.table saved.allowed) given)
  certifying-bounded name answer new is = absurd is

  notes-bounded : (one : Recorded Edit) (answer : Reply) (new : SessionState) → Notes old one answer new → IsBounded answer
  notes-bounded one (reply.Noted count) new is =
      plain (reply.Noted count) (omega (arith, line-short (codes "noted" ∷ decimal count ∷ []), number-short count))
  notes-bounded one answer new is = absurd is

  run-bounded : (name : ℕ) (bound : List (ℕ × ℕ)) (answer : Reply) (new : SessionState) → TellsRun problem old name bound answer new
      → IsBounded answer
  run-bounded name bound (reply.Unknown given) new is = unknown-bounded given
  run-bounded name bound (reply.UnknownParam param) new is =
      plain (reply.UnknownParam param)
      (omega (
        arith,
        line-short (codes "unknown" ∷ (codes "p" ++ decimal param) ∷ []),
        length-append (codes "p") (decimal param),
        number-short param,
      ))
  run-bounded name bound (reply.Ran given told) new is =
      let table = is.1.table in
      let right = any-right problem old session.plans session.learned name table is.1.named in
      let steps = run-steps problem table right bound old.recorded old.atoms (map turn_told told) is.1.after is.1.runs in
      let few = told_runs.few problem old name given bound table told new valid session is.1.named is in
      let most : (length old.recorded + 1) * (length table.steps + 1) ≤ (disturbances + 1) * u32_max =
      mul-le (length old.recorded + 1) (length table.steps + 1) (disturbances + 1) u32_max (omega (arith, recorded))
      (omega (arith, right.in_range.short)) in
      in-run problem disturbances (length (reply_text names (reply.Ran given told)))
      (run-text-short names short given disturbances told (own-turns told steps) (le_trans few most))
  run-bounded name bound answer new is = absurd is

  duo-bounded : (first second : ℕ) (numbers : List ℕ) → length numbers ≤ greatest 2 events → (answer : Reply) (new : SessionState)
      → TellsDuo problem old first second numbers answer new → IsBounded answer
  duo-bounded first second numbers few (reply.Unknown given) new is = unknown-bounded given
  duo-bounded first second numbers few (reply.DuoRan one other lines) new is =
      let right = any-right problem old session.plans session.learned first is.2.one is.2.first_named in
      let other_right = any-right problem old session.plans session.learned second is.2.other is.2.second_named in
      let steps = duo-steps problem (both is.2.one is.2.other) (each_table problem is.2.one is.2.other right other_right) old.atoms numbers
      lines is.2.after is.2.runs in
      let same = ap length (told_duos.numbered problem old first second one other numbers lines new is) in
      let count : length lines ≤ greatest 2 events = omega (arith, same, length-map lines (λ (line : DuoLine). line.who), few) in
      in-duo problem disturbances (length (reply_text names (reply.DuoRan one other lines)))
      (duo-text-short names short one other lines
      (All-weaker (λ (line : DuoLine). IsOwnStep problem line.op) (λ (line : DuoLine). IsNarrowOption line.op)
      (λ line own. narrow-option problem valid limits line.op own) lines steps)
      count)
  duo-bounded first second numbers few answer new is = absurd is

  pursuit-bounded : (name : ℕ) (goal : List Atom) (variable_count : ℕ) → All (IsAtomOf problem variable_count) goal → (answer : Reply) (new : SessionState)
      → TellsPursuit problem old name goal variable_count answer new → IsBounded answer
  pursuit-bounded name goal variable_count own (reply.Pursuit given searches told end) new is =
      let steps = pursuit-steps problem old.learned.tables goal variable_count old.recorded valid (are-learned problem old session) own old.atoms
      searches (map turn_told told) end is.1.after is.1.pursues in
      in-pursuit problem disturbances (length (reply_text names (reply.Pursuit given searches told end)))
      (pursuit-text-short names short given searches disturbances told end (own-turns told steps)
      (pursuit-few problem old valid session goal variable_count own name given searches told end new disturbances recorded is))
  pursuit-bounded name goal variable_count own answer new is = absurd is

  tree-bounded : (name nodes : ℕ) (goal : List Atom) (variable_count : ℕ) → nodes ≤ most_tree_nodes → (answer : Reply) (new : SessionState)
      → TellsTree (task_with problem nodes old.learned.tables old.atoms goal variable_count) name old answer new → IsBounded answer
  tree-bounded name nodes goal variable_count few (reply.Tree given tables tree) new is =
      let task = task_with problem nodes old.learned.tables old.atoms goal variable_count in
      let count = told_trees.few problem old name given nodes goal variable_count tables tree new is in
      in-tree problem disturbances (length (reply_text names (reply.Tree given tables tree)))
      (tree-text-short names short given tables tree
      (small-nodes task (are-learned problem old session) (narrow-instance problem valid limits) problem.weight tree is.2)
      (le_trans count few))
  tree-bounded name nodes goal variable_count few answer new is = absurd is

  facts-bounded : (answer : Reply) (new : SessionState) → TellsFacts old answer new → IsBounded answer
  facts-bounded (reply.FactsAre atoms) new is =
      let own = subst (All (IsAtomOf problem 0)) (sym is.0) atoms_own in
      in-facts problem disturbances (length (reply_text names (reply.FactsAre atoms)))
      (facts-text-short names short problem atoms (narrow-atoms problem valid limits 0 atoms own) (facts-few problem atoms is.1 own))
  facts-bounded answer new is = absurd is

  pub reply-bounded : (given : Command) → IsOwnGoal problem given → AsksFew given → (answer : Reply) (new : SessionState)
      → Lawful problem old given answer new → IsBounded answer
  reply-bounded (command.Plan name goal variable_count) own few answer new is = search-bounded name goal variable_count own answer new is
  reply-bounded (command.Learn name source) own few answer new is = learning-bounded name source answer new is
  reply-bounded (command.Edit name source prefix wanted) own few answer new is =
      editing-bounded name source prefix wanted answer new is
  reply-bounded (command.Show name) own few answer new is = show-bounded name answer new is
  reply-bounded (command.Save name) own few answer new is = saving-bounded name answer new is
  reply-bounded (command.Certify name) own few answer new is = certifying-bounded name answer new is
  reply-bounded (command.DisturbAtoms turn between edits) own few answer new is =
      notes-bounded (recorded_for turn between (map of_atoms edits)) answer new is
  reply-bounded (command.DisturbRooms turn between edits) own few answer new is =
      notes-bounded (recorded_for turn between (map of_rooms edits)) answer new is
  reply-bounded (command.Run name bound) own few answer new is = run-bounded name bound answer new is
  reply-bounded (command.Duo first second numbers) own few answer new is = duo-bounded first second numbers few answer new is
  reply-bounded (command.Pursue name goal variable_count) own few answer new is = pursuit-bounded name goal variable_count own answer new is
  reply-bounded (command.Tree name nodes goal variable_count) own few answer new is = tree-bounded name nodes goal variable_count few answer new is
  reply-bounded command.Facts own few answer new is = facts-bounded answer new is
