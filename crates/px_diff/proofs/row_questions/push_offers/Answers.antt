use Rattle.std.proofs.Common.{◌≡◌, ◌∙◌, ◌⊎◌, ◌+◌, ◌-◌, ◌<◌, ◌≤◌, ℕ, List, length, get_or, ap, sym, subst, inl, inr, arith}
use Rattle.std.specs.Prelude.{All}
use Rattle.std.proofs.lemmas.List.{get_or_default}
use Rattle.px_base.specs.ListLaws.{All-at}
use Rattle.px_prover.specs.declared.pattern.GapPattern.{GapPattern}
use Rattle.px_terms.specs.declared.term.Term.{Term}
use Rattle.px_entries.specs.Parameters.{FitsTerms}
use Rattle.px_base.proofs.Loops.{contains_here}
use Rattle.px_diff.proofs.RowSplitting.{widens-next, widens-none}
use Rattle.px_diff.proofs.row_questions.push_offers.Goals as goal

long-here : (variable_count : ℕ) (patterns : List GapPattern) (place : ℕ) (pattern : GapPattern) (terms : List Term)
    → All (λ (p : GapPattern). length p.terms ≡ variable_count) patterns → place < length patterns → pattern ≡ get_or patterns place pattern
    → terms ≡ pattern.terms → length terms ≡ variable_count
long-here variable_count patterns place pattern terms all below is same =
    ap length same ∙ All-at (λ (p : GapPattern). length p.terms ≡ variable_count) patterns pattern all (contains_here patterns place pattern below is)

here_or_after : (count passed place k : ℕ) → place + 1 + passed ≡ count → count - (passed + 1) ≤ k → (place ≡ k) ⊎ (count - passed ≤ k)
here_or_after count passed place k is low = grind (arith, is, low)

fits-place : (patterns : List GapPattern) (place k : ℕ) (pattern d : GapPattern) (terms : List Term) (sigma : List ℕ)
    → place < length patterns → pattern ≡ get_or patterns place pattern → place ≡ k → terms ≡ pattern.terms
    → FitsTerms (get_or patterns k d).terms sigma → FitsTerms terms sigma
fits-place patterns place k pattern d terms sigma below is level same fits =
    let one : get_or patterns k d ≡ pattern =
    ap (λ (n : ℕ). get_or patterns n d) (sym level) ∙ get_or_default patterns place d pattern below ∙ sym is in
    subst (λ (l : List Term). FitsTerms l sigma) (sym same) (subst (λ (p : GapPattern). FitsTerms p.terms sigma) one fits)

pub loop-passed-init : goal.loop-passed-init
loop-passed-init c = record {
  widens = widens-none (length c.args.terms.now) c.args.choices.now.items;
  covers = λ sigma k d extends low high fits. absurd (omega (arith, low, high));
}

pub push_offer-requires-clause-long : goal.push_offer-requires-clause-long
push_offer-requires-clause-long c =
    long-here (length c.args.terms.now) c.args.patterns.now
    (length c.args.patterns.now - c.loop-passed.passed - 1) c.index-patterns-place.result c.as_slice.result.now c.requires.long
    (omega (arith, c.loop-passed-test.true)) c.index-patterns-place.is
    (c.as_slice.ensures ∙ ap (λ (p : GapPattern). p.terms) (sym c.index-patterns-place.is))

pub push_offer-requires-clause-choices : goal.push_offer-requires-clause-choices
push_offer-requires-clause-choices c = c.loop-passed.invariant.widens.long c.requires.choices

pub loop-passed-preserved : goal.loop-passed-preserved
loop-passed-preserved c =
    let patterns = c.args.patterns.now in
    let pattern = c.index-patterns-place.result in
    let place = length patterns - c.loop-passed.passed - 1 in
    let below : length c.args.patterns.now - c.loop-passed.passed - 1 < length patterns = omega (arith, c.loop-passed-test.true) in
    record {
      widens =
          widens-next (length c.args.terms.now) c.args.choices.now.items c.loop-passed.choices.items c.push_offer.new.choices.items
          c.loop-passed.invariant.widens c.in_ok-push_offer.ensures.widens;
      covers =
          λ sigma k d extends low high fits. elim (here_or_after (length patterns) c.loop-passed.passed
          (length c.args.patterns.now - c.loop-passed.passed - 1) k (omega (arith, c.loop-passed-test.true)) low) [
            | inl here ↦ c.in_ok-push_offer.ensures.covers sigma extends
                (fits-place patterns (length c.args.patterns.now - c.loop-passed.passed - 1) k pattern d c.as_slice.result.now sigma below
                c.index-patterns-place.is here (c.as_slice.ensures ∙ ap (λ (p : GapPattern). p.terms) (sym c.index-patterns-place.is)) fits)
            | inr after ↦ c.in_ok-push_offer.ensures.widens.kept sigma (c.loop-passed.invariant.covers sigma k d extends after high fits)
          ];
    }

pub returns-clause-widens : goal.returns-clause-widens
returns-clause-widens c = c.loop-passed.invariant.widens

pub returns-clause-covers : goal.returns-clause-covers
returns-clause-covers c = λ sigma extends (pattern, has, fits).
    c.loop-passed.invariant.covers sigma has.0 pattern extends (omega (arith, c.loop-passed-test.false)) has.1
    (subst (λ (p : GapPattern). FitsTerms p.terms sigma) (sym has.2) fits)
