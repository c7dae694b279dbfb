-- How long the texts of a table are: its rows as they are shown, and its block.
use Rattle.std.specs.Prelude.{All, filter, ◌==◌}
use Rattle.std.proofs.Common.{ℕ, ◌+◌, ◌*◌, ◌≤◌, List, [], ◌∷◌, ◌++◌, codes, length, map, arith, length-append}
use Rattle.std.specs.Fmt.{decimal}
use Rattle.std.specs.List.{flat_map}
use Rattle.std.proofs.Math.Nat.{add-mul, le_trans, mul-le-mul_right}
use Rattle.std.proofs.lemmas.List.Elements.{All-filter, All-head, All-tail, All-weaker}
use Rattle.px_names.specs.Lists.{NameLists}
use Rattle.px_names.specs.declared.kind.Kind.TheVariants as kind
use Rattle.px_terms.specs.declared.atom.Atom.{Atom}
use Rattle.px_terms.specs.declared.instance.OpInst.{OpInst}
use Rattle.px_terms.specs.Limits.{most_arguments, most_parameters}
use Rattle.px_proof.specs.Derivation.{Derivation, derivations}
use Rattle.px_table.specs.declared.mark.Mark.{Mark}
use Rattle.px_table.specs.declared.table.Table.{Table}
use Rattle.px_table.specs.Limits.{most_steps}
use Rattle.px_cert.specs.Limits.{most_atoms}
use Rattle.px_printer.specs.Blocks.{all_proof_words, block_text, line_after, lines_inside, proof_line, step_line}
use Rattle.px_printer.specs.Rows.{goal_line, goal_row, mark_line, mark_lines, row_lines, step_rows}
use Rattle.px_printer.specs.Texts.{after_spaces, atom_text, instance_text, name_text, text_line}
use Rattle.px_printer.specs.declared.spelling.Spelling.{Spelling}
use Rattle.px_printer.specs.declared.spelling.Spelling.TheVariants.{InBlock, InRows}
use Rattle.px_lengths.specs.Longest.{longest_block, longest_piece, most_row_places}
use Rattle.px_lengths.proofs.Parts.{AreShort, atom-short, name-short, number-short, step-short}
use Rattle.px_lengths.proofs.Places.{all-words-short}
use Rattle.px_lengths.proofs.Rows.{IsLowRow, IsSmallRow, row-places}
use Rattle.px_lengths.proofs.Sizes.{flat-short, flat-within, filter-short, indented-short, line-short, one-more, spaced-short, words_size}

-- a step and an atom have few arguments
abbrev pub IsNarrowStep : OpInst → Type 0
IsNarrowStep inst = length inst.args ≤ most_parameters

abbrev pub IsNarrowAtom : Atom → Type 0
IsNarrowAtom atom = length atom.args ≤ most_arguments

abbrev pub IsNarrowMark : Mark → Type 0
IsNarrowMark mark = IsNarrowAtom mark.atom

module _ (names : NameLists) (short : AreShort names) where
  -- ---- atoms after a word

  atoms-size : (spelling : Spelling) (atoms : List Atom) → All IsNarrowAtom atoms
      → words_size (map (atom_text names spelling) atoms) ≤ length atoms * longest_piece
  atoms-size spelling [] narrow = omega arith
  atoms-size spelling (atom ∷ atoms) narrow =
      let here = atom-short names short spelling atom (All-head IsNarrowAtom atom atoms narrow) in
      let rest = atoms-size spelling atoms (All-tail IsNarrowAtom atom atoms narrow) in
      omega (arith, here, rest)

  -- ---- rows that are shown

  module _ (params : ℕ) (marks : List Mark) (narrow : All IsNarrowMark marks) where
    mark-short : (mark : Mark) → IsNarrowMark mark → length (mark_line names params mark) ≤ longest_piece
    mark-short mark few =
        let words = decimal mark.column ∷ atom_text names (InRows params) mark.atom ∷ [] in
        omega (arith, indented-short words, number-short mark.column, atom-short names short (InRows params) mark.atom few)

    marks-short : (row : ℕ) → length (mark_lines names params marks row) ≤ length marks * longest_piece
    marks-short row =
        let here = filter (λ (mark : Mark). mark.row == row) marks in
        flat-within (mark_line names params) longest_piece (length marks) here (filter-short (λ (mark : Mark). mark.row == row) marks)
        (All-weaker IsNarrowMark (λ mark. length (mark_line names params mark) ≤ longest_piece) mark-short here
        (All-filter (λ (mark : Mark). mark.row == row) IsNarrowMark marks narrow))

    rows-short : (row : ℕ) (steps : List OpInst) → All IsNarrowStep steps
        → length (step_rows names params marks row steps) ≤ length steps * (longest_piece + length marks * longest_piece)
    rows-short row [] all = omega arith
    rows-short row (step ∷ steps) all =
        let words = codes "row" ∷ decimal row ∷ instance_text names (InRows params) step ∷ [] in
        let line : length (text_line words) ≤ longest_piece =
        omega (
          arith,
          line-short words,
          number-short row,
          step-short names short (InRows params) step (All-head IsNarrowStep step steps all),
        ) in
        let rest = rows-short (row + 1) steps (All-tail IsNarrowStep step steps all) in
        let lines = mark_lines names params marks row in
        let here : length (text_line words) + length lines ≤ longest_piece + length marks * longest_piece =
        omega (arith, line, marks-short row) in
        let sum = one-more (length steps) (longest_piece + length marks * longest_piece) (length (text_line words) + length lines)
        (length (step_rows names params marks (row + 1) steps)) here rest in
        omega (
          arith,
          length-append (text_line words) (lines ++ step_rows names params marks (row + 1) steps),
          length-append lines (step_rows names params marks (row + 1) steps),
          sum,
        )

    goal-short : (row : ℕ) (goal : List Atom) → length goal ≤ most_atoms → All IsNarrowAtom goal
        → length (goal_line names params row goal) ≤ 17 * longest_piece
    goal-short row goal few all =
        let words = map (atom_text names (InRows params)) goal in
        omega (
          arith,
          length-append (decimal row) (codes " goal" ++ (after_spaces words ++ codes "\n")),
          length-append (after_spaces words) (codes "\n"),
          number-short row,
          spaced-short words,
          atoms-size (InRows params) goal all,
          few,
        )

  pub shown-short : (table : Table) → All IsNarrowStep table.steps → All IsNarrowMark table.marks → All IsNarrowAtom table.goal
      → length table.goal ≤ most_atoms
      → length (row_lines names table) ≤ (length table.steps + 17) * (longest_piece + length table.marks * longest_piece)
  shown-short table steps marks goal few =
      let most = longest_piece + length table.marks * longest_piece in
      let rows = rows-short table.params table.marks marks 1 table.steps steps in
      let last = length table.steps + 1 in
      let line = goal-short table.params table.marks marks last table.goal few goal in
      let lines = marks-short table.params table.marks marks last in
      omega (
        arith,
        length-append (step_rows names table.params table.marks 1 table.steps) (goal_row names table),
        length-append (goal_line names table.params last table.goal) (mark_lines names table.params table.marks last),
        rows,
        line,
        lines,
        add-mul (length table.steps) 17 most,
      )

  -- ---- the block

  module _ (spelling : Spelling) where
    step-line-short : (inst : OpInst) → IsNarrowStep inst → length (step_line names spelling inst) ≤ longest_piece
    step-line-short inst few =
        let words = codes "step" ∷ instance_text names spelling inst ∷ [] in
        omega (arith, line-short words, step-short names short spelling inst few)

    goal-line-short : (goal : List Atom) → length goal ≤ most_atoms → All IsNarrowAtom goal
        → length (line_after (codes "goal") (map (atom_text names spelling) goal)) ≤ 17 * longest_piece
    goal-line-short goal few all =
        let words = map (atom_text names spelling) goal in
        omega (
          arith,
          length-append (after_spaces words) (codes "\n"),
          spaced-short words,
          atoms-size spelling goal all,
          few,
        )

    proof-line-short : (row : List Derivation) → IsSmallRow row → IsLowRow row
        → length (proof_line names spelling row) ≤ (1 + most_row_places) * longest_piece
    proof-line-short row small low =
        let words = all_proof_words names spelling (derivations row) in
        omega (
          arith,
          length-append (after_spaces words) (codes "\n"),
          spaced-short words,
          all-words-short names short spelling (derivations row) small.small,
          row-places row small low,
        )

    proof-lines-short : (rows : List (List Derivation)) → All IsSmallRow rows → All IsLowRow rows
        → length (flat_map (proof_line names spelling) rows) ≤ length rows * ((1 + most_row_places) * longest_piece)
    proof-lines-short rows small low =
        flat-short (proof_line names spelling) ((1 + most_row_places) * longest_piece) rows
        (λ k d below. proof-line-short _ (small k d below) (low k d below))

    inside-short : (steps : List OpInst) (goal : List Atom) (rows : List (List Derivation)) → length steps ≤ most_steps
        → All IsNarrowStep steps → length goal ≤ most_atoms → All IsNarrowAtom goal → length rows ≤ most_steps + 1 → All IsSmallRow rows
        → All IsLowRow rows
        → length (lines_inside names spelling steps goal rows)
        ≤ 81 * longest_piece + (most_steps + 1) * ((1 + most_row_places) * longest_piece)
    inside-short steps goal rows few steps-narrow goal-few goal-narrow rows-few small low =
        let all-steps = flat-within (step_line names spelling) longest_piece most_steps steps few
        (All-weaker IsNarrowStep (λ inst. length (step_line names spelling inst) ≤ longest_piece) step-line-short steps steps-narrow) in
        let all-rows = le_trans (proof-lines-short rows small low)
        (mul-le-mul_right ((1 + most_row_places) * longest_piece) rows-few) in
        let goal-text = line_after (codes "goal") (map (atom_text names spelling) goal) in
        omega (
          arith,
          length-append (flat_map (step_line names spelling) steps) (goal-text ++ flat_map (proof_line names spelling) rows),
          length-append goal-text (flat_map (proof_line names spelling) rows),
          all-steps,
          goal-line-short goal goal-few goal-narrow,
          all-rows,
        )

  pub block-short : (name params : ℕ) (steps : List OpInst) (goal : List Atom) (rows : List (List Derivation))
      → length steps ≤ most_steps → All IsNarrowStep steps → length goal ≤ most_atoms → All IsNarrowAtom goal
      → length rows ≤ most_steps + 1 → All IsSmallRow rows → All IsLowRow rows
      → length (block_text names (name_text names kind.Result name) params steps goal rows) ≤ longest_block
  unfolding longest_block
  block-short name params steps goal rows few steps-narrow goal-few goal-narrow rows-few small low =
      let first = codes "table" ∷ name_text names kind.Result name ∷ decimal params ∷ [] in
      let inside = lines_inside names (InBlock params) steps goal rows in
      let last = codes "end" ∷ [] in
      omega (
        arith,
        length-append (text_line first) (inside ++ text_line last),
        length-append inside (text_line last),
        line-short first,
        line-short last,
        name-short names short kind.Result name,
        number-short params,
        inside-short (InBlock params) steps goal rows few steps-narrow goal-few goal-narrow rows-few small low,
      )
