use Rattle.px_lines.proofs.Common.{◌≡◌, ◌++◌, drop, map, option_map, names_among, argument_view, text_of}
use Rattle.px_lines.proofs.lists.names_among.Given as goal

abbrev pub invariant-loop-argument : goal.invariant-loop-argument
invariant-loop-argument l = names_among (map argument_view l.arguments)
    ≡ option_map (λ more. map text_of l.names.items ++ more) (names_among (map argument_view (drop l.argument-index l.arguments)))
