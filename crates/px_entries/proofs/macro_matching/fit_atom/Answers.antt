use Rattle.std.proofs.Common.{◌≡◌, ◌∙◌, ◌<◌, ℕ, List, length, map, get_or, refl, ap, sym, subst}
use Rattle.std.specs.Prelude.{All}
use Rattle.std.proofs.lemmas.List.{get_or-map}
use Rattle.px_question.specs.Answers.{object_terms}
use Rattle.px_terms.specs.Language.{IsPlainBelow, substitute}
use Rattle.px_terms.specs.declared.atom.Atom.{Atom}
use Rattle.px_terms.specs.declared.term.Term.{Term}
use Rattle.px_terms.specs.declared.term.Term.TheVariants.{Obj}
use Rattle.px_base.specs.Answers.{both_answers}
use Rattle.px_entries.proofs.macro_matching.fit_atom.Goals as goal

pub fit_term-requires-clause-term : goal.fit_term-requires-clause-term
fit_term-requires-clause-term c =
    subst (λ (n : ℕ). IsPlainBelow n (get_or c.args-arguments.result.now c.loop-k.k (Obj 0))) (sym c.loop-k.invariant.long)
    ((subst (All (IsPlainBelow (length c.args.terms.now))) (sym c.args-arguments.ensures.value) c.requires.pattern) c.loop-k.k
    (Obj 0) c.loop-k-test.true)

pub loop-k-preserved : goal.loop-k-preserved
loop-k-preserved c =
    let terms = c.args-arguments.result.now in
    let objects = c.args-objects.result.now in
    let k = c.loop-k.k in
    let within : k < length terms = c.loop-k-test.true in
    record {
      long = c.fit_term.ensures.long ∙ c.loop-k.invariant.long;
      binding = c.fit_term.ensures.binding;
      fits = λ sigma extends is.
          let same : map (substitute (object_terms sigma)) terms ≡ objects =
          ap (map (substitute (object_terms sigma))) c.args-arguments.ensures.value ∙ ap (λ (atom : Atom). atom.args) is
          ∙ sym c.args-objects.ensures.value in
          (c.fit_term.ensures.fits sigma (c.loop-k.invariant.fits sigma extends is)
          (sym (get_or-map (substitute (object_terms sigma)) terms k (Obj 0) (Obj 0) within)
          ∙ ap (λ (l : List Term). get_or l k (Obj 0)) same)).1;
    }

pub returns-then-not-fit_term-clause-fits : goal.returns-then-not-fit_term-clause-fits
returns-then-not-fit_term-clause-fits c = λ sigma extends is.
    let terms = c.args-arguments.result.now in
    let objects = c.args-objects.result.now in
    let k = c.loop-k.k in
    let same : map (substitute (object_terms sigma)) terms ≡ objects =
    ap (map (substitute (object_terms sigma))) c.args-arguments.ensures.value ∙ ap (λ (atom : Atom). atom.args) is
    ∙ sym c.args-objects.ensures.value in
    both_answers c.fit_term.result c.if-not-fit_term.true
    (c.fit_term.ensures.fits sigma (c.loop-k.invariant.fits sigma extends is)
    (sym (get_or-map (substitute (object_terms sigma)) terms k (Obj 0) (Obj 0) c.loop-k-test.true)
    ∙ ap (λ (l : List Term). get_or l k (Obj 0)) same)).0

pub returns-clause-fits : goal.returns-clause-fits
returns-clause-fits c = λ sigma extends is. (refl, c.loop-k.invariant.fits sigma extends is)
