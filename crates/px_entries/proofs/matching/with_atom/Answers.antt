use Rattle.std.proofs.Common.{◌≡◌, ◌<◌, ◌∙◌, ℕ, List, length, map, get_or, sym, ap, subst, inl, inr, arith}
use Rattle.std.proofs.lemmas.List.{get_or-map, get_or_default, length-map, same_lists}
use Rattle.px_terms.specs.declared.atom.Atom.{Atom}
use Rattle.px_terms.specs.declared.term.Term.{Term}
use Rattle.px_terms.specs.declared.term.Term.TheVariants.{Obj, Any}
use Rattle.px_terms.specs.Language.{substitute}
use Rattle.px_base.proofs.Loops.{level_or_below}
use Rattle.px_entries.proofs.matching.with_atom.Goals as goal

pub loop-k-preserved : goal.loop-k-preserved
loop-k-preserved c =
    let terms = c.args-terms.result.now in
    let objects = c.args-objects.result.now in
    let k = c.loop-k.k in
    let within : k < length terms = c.loop-k-test.true in
    let object_within : k < length objects = omega (arith, within, c.if-terms-objects.false) in
    record {
      form = c.in_ok-matched.ensures.form;
      count = c.in_ok-matched.ensures.count ∙ c.loop-k.invariant.count;
      stands = λ full start is.
          let same : map (substitute full.args) terms ≡ objects =
          ap (map (substitute full.args)) c.args-terms.ensures.value ∙ ap (λ (atom : Atom). atom.args) is
          ∙ sym c.args-objects.ensures.value in
          c.in_ok-matched.ensures.stands full (c.loop-k.invariant.stands full start is)
          (sym (get_or-map (substitute full.args) terms k (Obj 0) (Obj 0) within) ∙ ap (λ (l : List Term). get_or l k (Obj 0)) same);
      only = λ full stands.
          let r = c.in_ok-matched.ensures.only full stands in
          let before = c.loop-k.invariant.only full r.0 in
          let here : substitute full.args (get_or terms k Any) ≡ get_or objects k Any =
          ap (substitute full.args) (get_or_default terms k Any (Obj 0) within) ∙ r.1
          ∙ sym (get_or_default objects k Any (Obj 0) object_within) in (
            before.0,
            λ j below. elim (level_or_below j k below) [
              | inl earlier ↦ before.1 j earlier
              | inr level ↦ subst (λ (i : ℕ). substitute full.args (get_or terms i Any) ≡ get_or objects i Any) (sym level) here
            ],
          );
    }

pub returns-clause-only : goal.returns-clause-only
returns-clause-only c = λ full stands.
    let terms = c.args-terms.result.now in
    let objects = c.args-objects.result.now in
    let r = c.loop-k.invariant.only full stands in
    let pred : c.args.pattern.now.pred ≡ c.args.wanted.now.pred = sym c.pred.ensures ∙ c.if-pred.false ∙ c.pred-2.ensures in
    let each : map (substitute full.args) terms ≡ objects =
    same_lists (map (substitute full.args) terms) objects (length-map terms (substitute full.args) ∙ c.if-terms-objects.false)
    (λ k d below.
    let within : k < length terms = omega (arith, below, length-map terms (substitute full.args)) in
    get_or-map (substitute full.args) terms k Any d within ∙ r.1 k (omega (arith, within, c.loop-k-test.false))
    ∙ get_or_default objects k Any d (omega (arith, within, c.if-terms-objects.false))) in
    let args : map (substitute full.args) c.args.pattern.now.args ≡ c.args.wanted.now.args =
    ap (map (substitute full.args)) (sym c.args-terms.ensures.value) ∙ each ∙ c.args-objects.ensures.value in
    (r.0, λ i. record { pred = pred i; args = args i })
