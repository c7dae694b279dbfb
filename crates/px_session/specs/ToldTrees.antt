-- What follows from a lawful reply that prints a tree.
use Rattle.std.specs.Prelude.{◌≡◌, ◌<◌, ◌≤◌, ℕ, Option, None, Some, List, length, slice_get}
use Rattle.px_terms.specs.declared.atom.Atom.{Atom}
use Rattle.px_terms.specs.declared.problem.Problem.{Problem}
use Rattle.px_printer.specs.declared.reply.Reply.{Reply}
use Rattle.px_printer.specs.declared.reply.Reply.TheVariants as reply
use Rattle.px_script.specs.declared.command.Command.TheVariants as command
use Rattle.px_tree.specs.declared.nodes.Tree.{Tree}
use Rattle.px_tree.specs.declared.nodes.TreeEnd.{TreeEnd}
use Rattle.px_tree.specs.declared.nodes.TreeEnd.TheVariants.{Solved, Exhausted, More, ShapeLimit}
use Rattle.px_tree.specs.declared.nodes.TreeNode.{TreeNode}
use Rattle.px_tree.specs.declared.nodes.TreeOrigin.{TreeOrigin}
use Rattle.px_session.specs.Lawful.{Lawful}
use Rattle.px_session.specs.Sessions.{SessionState}

-- it is found from a node before the place
abbrev pub ComesFromBefore : ℕ → Option TreeOrigin → Type 0
ComesFromBefore place None = Unit {0}
ComesFromBefore place (Some origin) = origin.parent < place

-- so ends the search that the reply to a plan tells of
abbrev pub EndsAsPlanned : TreeEnd → Reply → Type 0
EndsAsPlanned Solved (reply.Plan given count steps) = Unit {0}
EndsAsPlanned Exhausted (reply.Exhausted given) = Unit {0}
EndsAsPlanned (More moves) (reply.NodeLimit given nodes count) = moves ≡ count
EndsAsPlanned (ShapeLimit number) (reply.ShapeLimit given node limit) = number ≡ length limit.shapes
EndsAsPlanned end answer = ⊥

-- A tree has no more nodes than the command says, and each is found from one before it. Where the command says as many nodes as the problem
-- has, the tree ends as the search of each plan for the goal does.
pub record ToldTrees : Type 0 where
  pub few : (problem : Problem) (old : SessionState) (name given nodes : ℕ) (goal : List Atom) (variable_count : ℕ)
      (tables : List ℕ) (tree : Tree) (new : SessionState)
      → Lawful problem old (command.Tree name nodes goal variable_count) (reply.Tree given tables tree) new → length tree.nodes ≤ nodes
  pub upward : (problem : Problem) (old : SessionState) (name given nodes : ℕ) (goal : List Atom) (variable_count : ℕ)
      (tables : List ℕ) (tree : Tree) (new : SessionState) (place : ℕ) (node : TreeNode)
      → Lawful problem old (command.Tree name nodes goal variable_count) (reply.Tree given tables tree) new → slice_get tree.nodes place ≡ Some node
      → ComesFromBefore place node.origin
  pub planned : (problem : Problem) (old : SessionState) (name other given : ℕ) (goal : List Atom) (variable_count : ℕ)
      (tables : List ℕ) (tree : Tree) (answer : Reply) (new later : SessionState)
      → Lawful problem old (command.Tree name problem.nodes goal variable_count) (reply.Tree given tables tree) new
      → Lawful problem old (command.Plan other goal variable_count) answer later → EndsAsPlanned tree.end answer
