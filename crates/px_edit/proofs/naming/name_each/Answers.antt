use Rattle.std.proofs.Common.{◌≡◌, ◌∙◌, ◌+◌, List, refl, sym, subst, length, take, arith}
use Rattle.std.proofs.lemmas.List.{take_more}
use Rattle.px_base.proofs.Loops.{whole_taken}
use Rattle.px_terms.specs.declared.term.Term.{Term}
use Rattle.px_terms.specs.declared.term.Term.TheVariants.{Obj}
use Rattle.px_edit.specs.Parts.{AreNamesAlong}
use Rattle.px_edit.proofs.naming.name_each.Goals as goal

pub name_term-next-requires : goal.name_term-next-requires
name_term-next-requires c = omega (arith, c.loop-term.invariant.left, c.requires.room)

pub loop-term-preserved : goal.loop-term-preserved
loop-term-preserved c =
    let long : length c.loop-term.names ≡ length c.args.names.now = c.loop-term.invariant.long in
    let prefix = take c.loop-term.term-index c.args.terms.now in
    let before =
    subst (λ n. AreNamesAlong n prefix c.loop-term.names c.loop-term.next) (sym long) c.loop-term.invariant.named in
    let after = c.name_term-next.ensures.names prefix before in
    record {
      long = c.name_term-next.ensures.long ∙ long;
      left = c.name_term-next.ensures.left ∙ c.loop-term.invariant.left;
      named =
          subst (λ n. AreNamesAlong n (take (c.loop-term.term-index + 1) c.args.terms.now) c.name_term-next.new.names c.name_term-next.result)
          long
          (subst (λ (l : List Term). AreNamesAlong (length c.loop-term.names) l c.name_term-next.new.names c.name_term-next.result)
          (sym (take_more c.args.terms.now c.loop-term.term-index (Obj 0) c.loop-term-test.true)) after);
    }

pub returns-clause-names : goal.returns-clause-names
returns-clause-names c =
    subst (λ (l : List Term). AreNamesAlong (length c.args.names.now) l c.loop-term.names c.loop-term.next)
    (whole_taken c.args.terms.now (take c.loop-term.term-index c.args.terms.now) c.loop-term.term-index refl (omega (arith, c.loop-term-test.false)))
    c.loop-term.invariant.named
