use Rattle.std.proofs.Common.{◌≡◌, ◌++◌, drop}
use Rattle.std.specs.Prelude.{string_bytes}
use Rattle.px_printer.specs.Trees.{node_lines}
use Rattle.px_printer.proofs.tree_text.push_nodes.Given as goal

abbrev pub invariant-loop-place : goal.invariant-loop-place
invariant-loop-place l = string_bytes l.text ++ node_lines l.names l.tables l.place (drop l.place l.nodes)
    ≡ string_bytes l.initial.text ++ node_lines l.names l.tables 0 l.nodes
