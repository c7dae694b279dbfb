use Rattle.std.proofs.Common.{◌≡◌, ◌+◌, ◌∙◌, ℕ, Some, List, [], ◌∷◌, ◌++◌, length, slice_get, sym, subst, inl, inr, arith, length-append}
use Rattle.px_terms.specs.declared.term.Term.{Term}
use Rattle.px_entries.specs.Parameters.{IsFirstTerm}
use Rattle.px_entries.proofs.ParameterLemmas.{pushed-at}
use Rattle.px_entries.proofs.parameters.first_terms.Goals as goal

pub loop-parameter-preserved : goal.loop-parameter-preserved
loop-parameter-preserved c =
    let items : c.push.new.self.items ≡ c.loop-parameter.terms.items ++ c.first_term.result ∷ [] = c.in_ok-push.ensures.items in
    record {
      count =
          subst (λ (l : List Term). length l ≡ c.loop-parameter.parameter + 1) (sym items)
          (omega (arith, length-append c.loop-parameter.terms.items (c.first_term.result ∷ []), c.loop-parameter.invariant.count));
      each =
          λ v t at. elim (pushed-at c.loop-parameter.terms.items c.first_term.result v t
          (subst (λ (l : List Term). slice_get l v ≡ Some t) items at)) [
            | inl before ↦ c.loop-parameter.invariant.each v t before
            | inr here ↦
                let place : v ≡ c.loop-parameter.parameter = here.0 ∙ c.loop-parameter.invariant.count in
                subst (λ (u : Term). IsFirstTerm c.args.table.now c.args.prefix v u) here.1
                (subst (λ (k : ℕ). IsFirstTerm c.args.table.now c.args.prefix k c.first_term.result) (sym place) c.first_term.ensures)
          ];
    }
