-- Texts that are worked out by hand.
use Rattle.std.specs.Prelude.{◌≡◌, ℕ, List, [], ◌∷◌, ◌++◌, None, Some, codes, map}
use Rattle.px_names.specs.Lists.{NameLists}
use Rattle.px_gaps.specs.declared.question.MetLimit.{MetLimit}
use Rattle.px_proof.specs.Derivation.{Derivation, fact, ancestor, step, none, also}
use Rattle.px_proof.specs.declared.shape.Shape.{Shape}
use Rattle.px_table.specs.declared.node.Node.{Node}
use Rattle.px_terms.specs.declared.atom.Atom.{Atom}
use Rattle.px_terms.specs.declared.instance.OpInst.{OpInst}
use Rattle.px_terms.specs.declared.term.Term.{Term}
use Rattle.px_terms.specs.declared.term.Term.TheVariants.{Obj, Var}
use Rattle.px_tree.specs.declared.nodes.MoveKind.TheVariants as move
use Rattle.px_tree.specs.declared.nodes.TreeEnd.{TreeEnd}
use Rattle.px_tree.specs.declared.nodes.TreeEnd.TheVariants as tree
use Rattle.px_tree.specs.declared.nodes.TreeMove.{TreeMove}
use Rattle.px_tree.specs.declared.nodes.TreeNode.{TreeNode}
use Rattle.px_printer.specs.Blocks.{block_text, line_after, proof_line}
use Rattle.px_printer.specs.Notices.{no_text, yes_text}
use Rattle.px_printer.specs.PursuitEnds.{pursue_end_text}
use Rattle.px_printer.specs.Replies.{reply_text}
use Rattle.px_printer.specs.Texts.{atom_text}
use Rattle.px_printer.specs.declared.duo_line.DuoEnd.{DuoEnd}
use Rattle.px_printer.specs.declared.duo_line.DuoEnd.TheVariants as duo
use Rattle.px_printer.specs.declared.duo_line.DuoLine.{DuoLine}
use Rattle.px_printer.specs.declared.pursue_end.PursueEnd.TheVariants as pursuit
use Rattle.px_printer.specs.declared.reply.EditWhy.TheVariants as edit
use Rattle.px_printer.specs.declared.reply.Reply.TheVariants.{SaveRefused, Edited, EditRefused, Certified, CertifyRefused, DuoRan, Pursuit, Tree}
use Rattle.px_printer.specs.declared.reply.SaveWhy.TheVariants as save
use Rattle.px_printer.specs.declared.spelling.Spelling.TheVariants.{InBlock}
use Rattle.px_printer.specs.declared.turn.Turn.{Turn}
use Rattle.px_printer.specs.declared.turn.TurnEnd.TheVariants as turn

abbrev pub worked_names : NameLists
worked_names = record {
  objects = codes "A" ∷ codes "X" ∷ codes "Y" ∷ codes "Z" ∷ [];
  predicates = codes "P" ∷ codes "Q" ∷ codes "R" ∷ codes "G" ∷ [];
  operators = codes "A" ∷ codes "B" ∷ codes "MOVE" ∷ [];
  results = codes "N" ∷ codes "M" ∷ [];
}

abbrev pub atom_with : ℕ → List Term → Atom
atom_with pred terms = record { pred = pred; args = terms }

abbrev pub step_with : ℕ → List Term → OpInst
step_with op terms = record { op = op; args = terms }

abbrev pub from_step : (column index : ℕ) → Atom → Derivation
from_step column index atom = fact (record { column = column; index = index; atom = atom })

-- the move of A from X to another place
abbrev pub move_to : ℕ → OpInst
move_to place = step_with 2 (Obj 0 ∷ Obj 1 ∷ Obj place ∷ [])

abbrev pub did : (who : ℕ) → DuoEnd → DuoLine
did who end = record { who = who; end = end; op = None }

abbrev pub sensed : (who place : ℕ) → DuoLine
sensed who place = record { who = who; end = duo.Sensed 1; op = Some (move_to place) }

abbrev pub lost : Turn
lost = record { kernel = 0; op = None; end = turn.NoKernel }

-- the first node of a tree, and one that is found from there
abbrev first_node : TreeNode
first_node = record { origin = None; needs = 2 }

abbrev found_by : TreeMove → ℕ → TreeNode
found_by move needs = record { origin = Some (record { parent = 0; last = move }); needs = needs }

-- an operator's instance is pushed; the first two steps of the table at place 1 are applied
abbrev pushed : TreeMove
pushed = record { kind = move.Push; table = None; steps = move_to 2 ∷ [] }

abbrev applied : TreeMove
applied = record { kind = move.Apply; table = Some 1; steps = move_to 2 ∷ move_to 3 ∷ [] }

abbrev tree_text : List TreeNode → TreeEnd → List ℕ
tree_text nodes end = reply_text worked_names (Tree 1 (1 ∷ 0 ∷ []) (record { nodes = nodes; end = end }))

-- the block of a table of two steps
pub record WorkedBlock : Type 0 where
  pub block :
      block_text worked_names (codes "M") 2
      (step_with 0 (Var 0 ∷ []) ∷ step_with 1 (Var 0 ∷ Var 1 ∷ []) ∷ [])
      (atom_with 3 (Var 0 ∷ []) ∷ [])
      ((from_step 0 0 (atom_with 0 (Var 0 ∷ [])) ∷ [])
      ∷ (from_step 1 0 (atom_with 2 (Var 0 ∷ [])) ∷ from_step 0 0 (atom_with 1 (Var 1 ∷ [])) ∷ [])
      ∷ (from_step 2 0 (atom_with 3 (Var 0 ∷ [])) ∷ [])
      ∷ [])
      ≡ codes "table M 2\nstep A(?p1)\nstep B(?p1,?p2)\ngoal G(?p1)\nproof f 0 0 P(?p1)\n"
      ++ codes "proof f 1 0 R(?p1) f 0 0 Q(?p2)\nproof f 2 0 G(?p1)\nend\n"
  -- a variable of the goal's own
  pub goal : line_after (codes "goal") (map (atom_text worked_names (InBlock 6)) (atom_with 0 (Var 6 ∷ []) ∷ atom_with 1 (Var 5 ∷ []) ∷ []))
      ≡ codes "goal P(?g1) Q(?p6)\n"
  -- a row without proofs
  pub no_proofs : proof_line worked_names (InBlock 0) [] ≡ codes "proof\n"
  -- steps without terms, and an ancestor
  pub steps : proof_line worked_names (InBlock 0) (step 0 [] 0 (also (step 1 [] 0 (also (ancestor 1) none)) none) ∷ [])
      ≡ codes "proof s 0 0 1 () s 1 0 1 () a 1\n"
  -- a step with two parts, and a proof after it
  pub parts : proof_line worked_names (InBlock 1) (step 3 (Var 0 ∷ Obj 1 ∷ []) 2
      (also (from_step 0 0 (atom_with 0 [])) (also (from_step 12 4 (atom_with 1 (Obj 1 ∷ []))) none)) ∷ ancestor 0 ∷ [])
      ≡ codes "proof s 3 2 2 (?p1,X) f 0 0 P f 12 4 Q(X) a 0\n"

pub record WorkedTexts : Type 0 where
  pub not_saved : reply_text worked_names (SaveRefused 1 save.TooMany) ≡ codes "notsaved M toomany\n"
  pub edited : reply_text worked_names (Edited 1 3 1) ≡ codes "edited M 3 parameters 1 steps\n"
  pub not_edited : reply_text worked_names (EditRefused 1 edit.Want) ≡ codes "notedited M want\n"
  pub certified : (name : ℕ) (bytes : List ℕ) → reply_text worked_names (Certified name bytes) ≡ bytes
  pub not_certified : reply_text worked_names (CertifyRefused 0 save.TooLong) ≡ codes "notcertified N toolong\n"
  pub duo : reply_text worked_names (DuoRan 0 1 (sensed 1 2 ∷ sensed 2 3 ∷ did 1 duo.Acted ∷ did 2 duo.Slipped ∷ did 2 duo.NoKernel
      ∷ did 1 duo.Goal ∷ []))
      ≡ codes "duo N M\n  1 kernel 1 MOVE(A,X,Y)\n  2 kernel 1 MOVE(A,X,Z)\n  1 acted\n  2 slipped\n  2 nokernel\n  1 goal\n"
  pub lost : reply_text worked_names (Pursuit 0 2 (lost ∷ []) pursuit.Exhausted)
      ≡ codes "pursue N 2 searches\n  turn 1 nokernel\n  exhausted\n"
  pub reached : reply_text worked_names (Pursuit 0 1 (record { kernel = 1; op = Some (move_to 2); end = turn.Acted }
      ∷ record { kernel = 2; op = None; end = turn.Goal } ∷ []) pursuit.Goal)
      ≡ codes "pursue N 1 searches\n  turn 1 kernel 1 MOVE(A,X,Y) acted\n  turn 2 kernel 2 goal\n"
  pub nodes : (node : Node) → pursue_end_text (pursuit.NodeLimit (node ∷ node ∷ []) 4) ≡ codes "  nodelimit 2 nodes 4 moves\n"
  pub shapes : (node : Node) (limit : MetLimit) (shape : Shape)
      → pursue_end_text (pursuit.ShapeLimit node (record limit { shapes = shape ∷ shape ∷ [] })) ≡ codes "  shapelimit 2 shapes\n"
  pub solved : tree_text (first_node ∷ found_by pushed 3 ∷ found_by applied 0 ∷ []) tree.Solved
      ≡ codes "tree M 3 nodes\n  0 needs 2\n  1 from 0 push MOVE(A,X,Y) needs 3\n"
      ++ codes "  2 from 0 apply N MOVE(A,X,Y) MOVE(A,X,Z) needs 0\n  solved\n"
  pub exhausted : tree_text (first_node ∷ []) tree.Exhausted ≡ codes "tree M 1 nodes\n  0 needs 2\n  exhausted\n"
  pub more : tree_text (first_node ∷ []) (tree.More 1) ≡ codes "tree M 1 nodes\n  0 needs 2\n  more 1 moves\n"
  pub limited : tree_text (first_node ∷ []) (tree.ShapeLimit 9) ≡ codes "tree M 1 nodes\n  0 needs 2\n  shapelimit 9 shapes\n"
  pub yes : yes_text 6 2 ≡ codes "yes 6 parameters 2 steps\n"
  pub no : no_text ≡ codes "no\n"
