use Rattle.std.proofs.Common.{◌≡◌, ◌∙◌, Some, None, refl, set, sym, subst}
use Rattle.px_base.specs.Answers.{some_same}
use Rattle.px_terms.specs.declared.term.Term.{Term}
use Rattle.px_terms.specs.declared.term.Term.TheVariants.{Obj}
use Rattle.px_gaps.specs.Bindings.{ExtendsTerms}
use Rattle.px_entries.proofs.ParameterLemmas.{put-fits, put-slot}
use Rattle.px_entries.proofs.macro_matching.fit_parameter.Goals as goal

pub returns-in-Some-clause-binding : goal.returns-in-Some-clause-binding
returns-in-Some-clause-binding c =
    put-slot c.args.limit c.args.parameter c.args.terms.now c.args.wanted (Obj 0) c.in-Some.term c.requires.binding c.requires.term
    (sym c.in-Some.ensures)

pub returns-in-Some-clause-fits : goal.returns-in-Some-clause-fits
returns-in-Some-clause-fits c = λ sigma extends is.
    let both = put-fits c.args.limit c.args.parameter c.args.terms.now sigma c.args.wanted (Obj 0) c.requires.term extends is in (
      refl,
      subst (λ (t : Term). ExtendsTerms c.args.limit (set c.args.terms.now c.args.parameter t) sigma)
          (some_same (sym both.1 ∙ sym c.in-Some.ensures)) both.2,
    )

pub returns-in-None-clause-fits : goal.returns-in-None-clause-fits
returns-in-None-clause-fits c = λ sigma extends is.
    let both = put-fits c.args.limit c.args.parameter c.args.terms.now sigma c.args.wanted (Obj 0) c.requires.term extends is in
    let never : Some both.0 ≡ None = sym both.1 ∙ sym c.in-None.ensures in
    absurd (cc)
