use Rattle.std.proofs.Common.{[], List, take, length}
use Rattle.px_terms.specs.declared.term.Term.{Term}
use Rattle.px_gaps.specs.Closings.{OneOf}
use Rattle.px_entries.specs.Parameters.{FitsTerms, Matches}
use Rattle.px_entries.proofs.parameters.merged_with_each.Given as goal

abbrev pub invariant-loop-choice : goal.invariant-loop-choice
invariant-loop-choice l =
    Matches l.limit (length l.terms) l.terms
    (λ sigma. OneOf (take l.choice-index l.choices) (λ (choice : List Term). FitsTerms choice sigma)) [] l.found.items
