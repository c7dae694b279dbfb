use Rattle.std.proofs.Common.{◌≡◌, ◌<◌, ℕ, List, length, get_or, sym, ap, ◌∙◌, subst}
use Rattle.std.specs.Prelude.{slice_index_or}
use Rattle.px_terms.specs.declared.term.Term.{Term}
use Rattle.px_terms.specs.declared.term.Term.TheVariants.{Obj, Any}
use Rattle.px_terms.specs.Language.{IsPlainBelow, substitute}
use Rattle.px_question.specs.Answers.{object_terms}
use Rattle.px_terms.specs.declared.instance.OpInst.{OpInst}
use Rattle.px_entries.specs.Instances.{Fills, StandsFor}
use Rattle.px_entries.proofs.Covering.{argument_under, same_closed}
use Rattle.px_base.proofs.Loops.{some_map}
use Rattle.px_entries.proofs.matching.with_term.Goals as goal

pub returns-in-Var-clause-stands : goal.returns-in-Var-clause-stands
returns-in-Var-clause-stands c = λ full stands is.
    let below : c.in-Var.parameter < length c.args.partial.now.inst.args =
    subst (IsPlainBelow (length c.args.partial.now.inst.args)) c.in-Var.is c.requires.term in
    let known = argument_under c.args.problem.now c.args.partial.now full stands.0 stands.1 c.in-Var.parameter (Obj 0) below in
    let there : slice_index_or full.args c.in-Var.parameter Any ≡ c.args.wanted =
    subst (λ (t : Term). substitute full.args t ≡ c.args.wanted) c.in-Var.is is in
    c.with_known.ensures.stands full stands.0 stands.1 (
    ap (λ (l : List Term). substitute (object_terms stands.0) (get_or l c.in-Var.parameter (Obj 0))) c.args-in-Var.ensures.value ∙ known
    ∙ there)

pub returns-in-Var-clause-only : goal.returns-in-Var-clause-only
returns-in-Var-clause-only c =
    let problem = c.args.problem.now in
    let partial = c.args.partial.now in
    let parameter = c.in-Var.parameter in
    let below : parameter < length partial.inst.args = subst (IsPlainBelow (length partial.inst.args)) c.in-Var.is c.requires.term in
    some_map (λ next. (full : OpInst) → StandsFor problem next full
    → (objects : List ℕ) × Fills problem partial full objects
    × (substitute (object_terms objects) (get_or c.args-in-Var.result.now parameter (Obj 0)) ≡ c.args.wanted))
    (λ next. (full : OpInst) → StandsFor problem next full
    → StandsFor problem partial full × (substitute full.args c.args.term ≡ c.args.wanted))
    c.with_known.result
    (λ next only full stands.
    let r = only full stands in
    let known =
    ap (λ (l : List Term). substitute (object_terms r.0) (get_or l parameter (Obj 0))) c.args-in-Var.ensures.value
    ∙ argument_under problem partial full r.0 r.1 parameter (Obj 0) below in
    ((r.0, r.1), subst (λ (t : Term). substitute full.args t ≡ c.args.wanted) (sym c.in-Var.is) (sym known ∙ r.2)))
    c.with_known.ensures.only

pub returns-in-Obj : goal.returns-in-Obj
returns-in-Obj c =
    let problem = c.args.problem.now in
    let partial = c.args.partial.now in record {
      form = c.with_known-in-Obj.ensures.form;
      count = c.with_known-in-Obj.ensures.count;
      stands =
          λ full stands is. c.with_known-in-Obj.ensures.stands full stands.0 stands.1
          (same_closed (object_terms stands.0) full.args c.args.term c.in-Obj.is ∙ is);
      only =
          some_map (λ next. (full : OpInst) → StandsFor problem next full
          → (objects : List ℕ) × Fills problem partial full objects × (substitute (object_terms objects) c.args.term ≡ c.args.wanted))
          (λ next. (full : OpInst) → StandsFor problem next full
          → StandsFor problem partial full × (substitute full.args c.args.term ≡ c.args.wanted))
          c.with_known-in-Obj.result
          (λ next only full stands. let r = only full stands in
          ((r.0, r.1), same_closed full.args (object_terms r.0) c.args.term c.in-Obj.is ∙ r.2))
          c.with_known-in-Obj.ensures.only;
    }
