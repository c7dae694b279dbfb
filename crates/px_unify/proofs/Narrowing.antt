-- Which substitutions fit after a binding that makes two terms equal.
use Rattle.std.proofs.Common.{◌≡◌, ℕ, Some, List, [], ◌∷◌, ◌++◌, length, ap, sym, ◌∙◌, arith, length-append, length-set}
use Rattle.std.proofs.Math.Seq.{take-append_seam}
use Rattle.px_terms.specs.Language.{substitute}
use Rattle.px_terms.specs.declared.term.Term.{Term}
use Rattle.px_terms.specs.declared.term.Term.TheVariants.{Var}
use Rattle.px_unify.specs.declared.change.Change.{Change}
use Rattle.px_unify.specs.declared.change.Change.TheVariants.{Bound}
use Rattle.px_unify.specs.Changes.{slots_of, variables_of, AreOneUnder, NarrowedBy, Binds}
use Rattle.px_unify.specs.ChangeLaws.{slots_after-append, Fits-bound}

module _ (old new : List Change) (v : ℕ) (to : Term) (is : new ≡ old ++ Bound v to ∷ []) where
  pub binds-bound : Binds old new
  binds-bound = record {
    prefix = rw is (take-append_seam old (Bound v to ∷ []));
    grown = rw is (omega (arith, length-append old (Bound v to ∷ [])));
    variables = ap variables_of is ∙ ap length (slots_after-append old (Bound v to ∷ []) []) ∙ length-set (slots_of old) v (Some to);
  }

  fits_new : NarrowedBy old new (λ sigma. substitute sigma (Var v) ≡ substitute sigma to)
  fits_new sigma = rw is (Fits-bound sigma old v to)

  pub narrowed-bound : (s t : Term) → AreOneUnder old s (Var v) → AreOneUnder old t to
      → NarrowedBy old new (λ sigma. substitute sigma s ≡ substitute sigma t)
  narrowed-bound s t s_is t_is sigma =
      let both = fits_new sigma in (
        λ fits. let h = both.0 fits in (h.0, s_is sigma h.0 ∙ h.1 ∙ sym (t_is sigma h.0)),
        λ h. both.1 (h.0, sym (s_is sigma h.0) ∙ h.1 ∙ t_is sigma h.0),
      )

  pub narrowed-bound_back : (s t : Term) → AreOneUnder old s to → AreOneUnder old t (Var v)
      → NarrowedBy old new (λ sigma. substitute sigma s ≡ substitute sigma t)
  narrowed-bound_back s t s_is t_is sigma =
      let both = fits_new sigma in (
        λ fits. let h = both.0 fits in (h.0, s_is sigma h.0 ∙ sym h.1 ∙ sym (t_is sigma h.0)),
        λ h. both.1 (h.0, sym (t_is sigma h.0) ∙ sym h.1 ∙ s_is sigma h.0),
      )
