-- How long the lines are of turns, of two executors, of how a pursuit ends, and of search trees.
use Rattle.std.specs.Prelude.{All, Option, None, Some, slice_index_or}
use Rattle.std.proofs.Common.{ℕ, ◌+◌, ◌*◌, ◌≤◌, List, [], ◌∷◌, ◌++◌, codes, length, map, arith, length-append}
use Rattle.std.specs.Fmt.{decimal}
use Rattle.std.specs.List.{flat_map}
use Rattle.std.proofs.lemmas.List.Elements.{All-head, All-tail, All-weaker}
use Rattle.px_names.specs.Lists.{NameLists}
use Rattle.px_names.specs.declared.kind.Kind.TheVariants as kind
use Rattle.px_terms.specs.declared.instance.OpInst.{OpInst}
use Rattle.px_table.specs.Limits.{most_steps}
use Rattle.px_printer.specs.DuoLines.{duo_line, duo_words}
use Rattle.px_printer.specs.PursuitEnds.{pursue_end_text}
use Rattle.px_printer.specs.Texts.{after_spaces, instance_text}
use Rattle.px_printer.specs.Trees.{kind_text, move_words, node_line, node_lines, origin_words, table_words, tree_end_line}
use Rattle.px_printer.specs.Turns.{end_words, step_words, turn_line, turn_lines}
use Rattle.px_printer.specs.declared.duo_line.DuoEnd.{DuoEnd}
use Rattle.px_printer.specs.declared.duo_line.DuoEnd.TheVariants as duo
use Rattle.px_printer.specs.declared.duo_line.DuoLine.{DuoLine}
use Rattle.px_printer.specs.declared.pursue_end.PursueEnd.{PursueEnd}
use Rattle.px_printer.specs.declared.pursue_end.PursueEnd.TheVariants as pursuit
use Rattle.px_printer.specs.declared.spelling.Spelling.TheVariants.{InRows}
use Rattle.px_printer.specs.declared.turn.Turn.{Turn}
use Rattle.px_printer.specs.declared.turn.TurnEnd.{TurnEnd}
use Rattle.px_printer.specs.declared.turn.TurnEnd.TheVariants.{Acted, Slipped, Goal, NoKernel}
use Rattle.px_tree.specs.declared.nodes.MoveKind.{MoveKind}
use Rattle.px_tree.specs.declared.nodes.MoveKind.TheVariants.{Push, Apply}
use Rattle.px_tree.specs.declared.nodes.TreeEnd.{TreeEnd}
use Rattle.px_tree.specs.declared.nodes.TreeEnd.TheVariants as tree
use Rattle.px_tree.specs.declared.nodes.TreeMove.{TreeMove}
use Rattle.px_tree.specs.declared.nodes.TreeNode.{TreeNode}
use Rattle.px_tree.specs.declared.nodes.TreeOrigin.{TreeOrigin}
use Rattle.px_lengths.specs.Longest.{longest_piece}
use Rattle.px_lengths.proofs.Parts.{AreShort, name-short, number-short, step-short}
use Rattle.px_lengths.proofs.Sizes.{flat-short, indented-short, size-append, spaced-short, words_size}
use Rattle.px_lengths.proofs.TableTexts.{IsNarrowStep}

-- a step, if there is one, has few arguments
abbrev pub IsNarrowOption : Option OpInst → Type 0
IsNarrowOption None = Unit {0}
IsNarrowOption (Some inst) = IsNarrowStep inst

-- the steps of a move are few, and have few arguments
pub record IsSmallMove (move : TreeMove) : Type 0 where
  pub few : length move.steps ≤ most_steps
  pub narrow : All IsNarrowStep move.steps

abbrev pub IsSmallOrigin : Option TreeOrigin → Type 0
IsSmallOrigin None = Unit {0}
IsSmallOrigin (Some origin) = IsSmallMove origin.last

module _ (names : NameLists) (short : AreShort names) where
  step-size : (op : Option OpInst) → IsNarrowOption op → words_size (step_words names op) ≤ 602
  step-size None narrow = omega arith
  step-size (Some inst) narrow = omega (arith, step-short names short (InRows 0) inst narrow)

  -- ---- turns

  end-size : (kernel : ℕ) (op : Option OpInst) (end : TurnEnd) → IsNarrowOption op → words_size (end_words names kernel op end) ≤ 700
  end-size kernel op Acted narrow =
      omega (arith, number-short kernel, size-append (step_words names op) (codes "acted" ∷ []), step-size op narrow)
  end-size kernel op Slipped narrow =
      omega (arith, number-short kernel, size-append (step_words names op) (codes "slipped" ∷ []), step-size op narrow)
  end-size kernel op Goal narrow = omega (arith, number-short kernel)
  end-size kernel op NoKernel narrow = omega arith

  turn-short : (number : ℕ) (turn : Turn) → IsNarrowOption turn.op → length (turn_line names number turn) ≤ longest_piece
  turn-short number turn narrow =
      omega (
        arith,
        indented-short (codes "turn" ∷ decimal number ∷ end_words names turn.kernel turn.op turn.end),
        number-short number,
        end-size turn.kernel turn.op turn.end narrow,
      )

  pub turns-short : (number : ℕ) (turns : List Turn) → All (λ turn. IsNarrowOption turn.op) turns
      → length (turn_lines names number turns) ≤ length turns * longest_piece
  turns-short number [] narrow = omega arith
  turns-short number (turn ∷ turns) narrow =
      let here = turn-short number turn (All-head (λ (t : Turn). IsNarrowOption t.op) turn turns narrow) in
      let rest = turns-short (number + 1) turns (All-tail (λ (t : Turn). IsNarrowOption t.op) turn turns narrow) in
      omega (arith, length-append (turn_line names number turn) (turn_lines names (number + 1) turns), here, rest)

  -- ---- two executors

  duo-size : (op : Option OpInst) (end : DuoEnd) → IsNarrowOption op → words_size (duo_words names op end) ≤ 700
  duo-size op (duo.Sensed kernel) narrow = omega (arith, number-short kernel, step-size op narrow)
  duo-size op duo.Acted narrow = omega arith
  duo-size op duo.Slipped narrow = omega arith
  duo-size op duo.Goal narrow = omega arith
  duo-size op duo.NoKernel narrow = omega arith

  duo-line-short : (line : DuoLine) → IsNarrowOption line.op → length (duo_line names line) ≤ longest_piece
  duo-line-short line narrow =
      omega (
        arith,
        indented-short (decimal line.who ∷ duo_words names line.op line.end),
        number-short line.who,
        duo-size line.op line.end narrow,
      )

  pub duo-short : (lines : List DuoLine) → All (λ line. IsNarrowOption line.op) lines
      → length (flat_map (duo_line names) lines) ≤ length lines * longest_piece
  duo-short lines narrow =
      flat-short (duo_line names) longest_piece lines
      (All-weaker (λ (line : DuoLine). IsNarrowOption line.op) (λ line. length (duo_line names line) ≤ longest_piece) duo-line-short lines
      narrow)

  -- ---- trees

  kind-short : (kind : MoveKind) → length (kind_text kind) ≤ 5
  kind-short Push = omega arith
  kind-short Apply = omega arith

  table-size : (tables : List ℕ) (place : Option ℕ) → words_size (table_words names tables place) ≤ 65
  table-size tables None = omega arith
  table-size tables (Some place) = omega (arith, name-short names short kind.Result (slice_index_or tables place 0))

  steps-size : (steps : List OpInst) → All IsNarrowStep steps
      → words_size (map (instance_text names (InRows 0)) steps) ≤ length steps * longest_piece
  steps-size [] narrow = omega arith
  steps-size (inst ∷ steps) narrow =
      let here = step-short names short (InRows 0) inst (All-head IsNarrowStep inst steps narrow) in
      let rest = steps-size steps (All-tail IsNarrowStep inst steps narrow) in
      omega (arith, here, rest)

  move-size : (tables : List ℕ) (move : TreeMove) → IsSmallMove move
      → words_size (move_words names tables move) ≤ most_steps * longest_piece + 100
  move-size tables move small =
      let steps = map (instance_text names (InRows 0)) move.steps in
      omega (
        arith,
        size-append (table_words names tables move.table) steps,
        kind-short move.kind,
        table-size tables move.table,
        steps-size move.steps small.narrow,
        small.few,
      )

  origin-size : (tables : List ℕ) (origin : Option TreeOrigin) → IsSmallOrigin origin
      → words_size (origin_words names tables origin) ≤ most_steps * longest_piece + 200
  origin-size tables None small = omega arith
  origin-size tables (Some origin) small = omega (arith, number-short origin.parent, move-size tables origin.last small)

  node-short : (tables : List ℕ) (place : ℕ) (node : TreeNode) → IsSmallOrigin node.origin
      → length (node_line names tables place node) ≤ (most_steps + 2) * longest_piece
  node-short tables place node small =
      let words = origin_words names tables node.origin in
      omega (
        arith,
        length-append (decimal place) (after_spaces words ++ (codes " needs " ++ (decimal node.needs ++ codes "\n"))),
        length-append (after_spaces words) (codes " needs " ++ (decimal node.needs ++ codes "\n")),
        length-append (decimal node.needs) (codes "\n"),
        spaced-short words,
        number-short place,
        number-short node.needs,
        origin-size tables node.origin small,
      )

  pub nodes-short : (tables : List ℕ) (place : ℕ) (nodes : List TreeNode) → All (λ node. IsSmallOrigin node.origin) nodes
      → length (node_lines names tables place nodes) ≤ length nodes * ((most_steps + 2) * longest_piece)
  nodes-short tables place [] small = omega arith
  nodes-short tables place (node ∷ nodes) small =
      let here = node-short tables place node (All-head (λ (n : TreeNode). IsSmallOrigin n.origin) node nodes small) in
      let rest = nodes-short tables (place + 1) nodes (All-tail (λ (n : TreeNode). IsSmallOrigin n.origin) node nodes small) in
      omega (arith, length-append (node_line names tables place node) (node_lines names tables (place + 1) nodes), here, rest)

-- ---- ends

pub pursue-end-short : (end : PursueEnd) → length (pursue_end_text end) ≤ longest_piece
pursue-end-short pursuit.Goal = omega arith
pursue-end-short pursuit.Exhausted = omega arith
pursue-end-short (pursuit.NodeLimit nodes moves) =
    let words = codes "nodelimit" ∷ decimal (length nodes) ∷ codes "nodes" ∷ decimal moves ∷ codes "moves" ∷ [] in
    omega (arith, indented-short words, number-short (length nodes), number-short moves)
pursue-end-short (pursuit.ShapeLimit node limit) =
    let words = codes "shapelimit" ∷ decimal (length limit.shapes) ∷ codes "shapes" ∷ [] in
    omega (arith, indented-short words, number-short (length limit.shapes))

pub tree-end-short : (end : TreeEnd) → length (tree_end_line end) ≤ longest_piece
tree-end-short tree.Solved = omega arith
tree-end-short tree.Exhausted = omega arith
tree-end-short (tree.More moves) =
    let words = codes "more" ∷ decimal moves ∷ codes "moves" ∷ [] in
    omega (arith, indented-short words, number-short moves)
tree-end-short (tree.ShapeLimit shapes) =
    let words = codes "shapelimit" ∷ decimal shapes ∷ codes "shapes" ∷ [] in
    omega (arith, indented-short words, number-short shapes)
