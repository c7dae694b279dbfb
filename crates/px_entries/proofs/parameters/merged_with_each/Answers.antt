use Rattle.std.proofs.Common.{[], ◌+◌, List, length, take, ap, sym, subst}
use Rattle.px_terms.specs.declared.term.Term.{Term}
use Rattle.px_gaps.specs.Closings.{OneOf}
use Rattle.px_entries.specs.Parameters.{FitsTerms, Matches}
use Rattle.px_entries.proofs.MatchLemmas.{matches_next, matches_none, matches_whole}
use Rattle.px_entries.proofs.parameters.merged_with_each.Goals as goal
use Rattle.px_entries.proofs.parameters.merged_with_each.Goals.{in-Some, in-None+in_ok-push_merged-in-None}

pub loop-choice-preserved : goal.loop-choice-preserved
loop-choice-preserved c =
    let terms = c.args.terms.now in
    let After : List (List Term) → Type 0 =
    λ l. Matches c.args.limit (length terms) terms
    (λ sigma. OneOf (take (c.loop-choice.choice-index + 1) c.args.choices.now) (λ (choice : List Term). FitsTerms choice sigma)) [] l in
    let next : (made : List (List Term)) → Matches c.args.limit (length terms) terms (FitsTerms c.choice-item.result)
    c.loop-choice.found.items made → After made =
    λ made here. matches_next c.args.limit (length terms) terms FitsTerms c.args.choices.now c.loop-choice.choice-index c.choice-item.result
    c.loop-choice-test.true c.choice-item.is [] c.loop-choice.found.items made c.loop-choice.invariant here in
    elim c.match-clash.branch [
      | in-Some w ↦ subst After (sym (ap (λ r. r.items) w.found-is))
          (next c.loop-choice.found.items (matches_none c.args.limit (length terms) terms (FitsTerms c.choice-item.result)
          c.loop-choice.found.items
          (λ sigma extends fits. w.in-Some.ensures.apart sigma extends
          (subst (λ (l : List Term). FitsTerms l sigma) (sym c.as_slice.ensures) fits))))
      | in-None+in_ok-push_merged-in-None w ↦ subst After (sym (ap (λ r. r.items) w.found-is))
          (next w.push_merged.new.found.items (subst (λ (l : List Term). Matches c.args.limit (length terms) terms (FitsTerms l)
          c.loop-choice.found.items w.push_merged.new.found.items) w.as_slice-in-None.ensures w.in_ok-push_merged-in-None.ensures))
    ]

pub returns : goal.returns
returns c =
    matches_whole c.args.limit (length c.args.terms.now) c.args.terms.now FitsTerms c.args.choices.now c.loop-choice.choice-index []
    c.loop-choice.found.items c.loop-choice-test.false c.loop-choice.invariant
