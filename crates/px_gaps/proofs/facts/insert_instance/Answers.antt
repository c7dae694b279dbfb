use Rattle.std.proofs.Common.{subst, sym, inl, inr}
use Rattle.px_gaps.specs.Forms.{IsInstanceIn}
use Rattle.px_gaps.proofs.Grows.{inserted, nothing_comes}
use Rattle.px_base.proofs.Loops.{said_no, said_yes}
use Rattle.px_gaps.proofs.facts.insert_instance.Goals as goal

pub returns-then-not-is_instance : goal.returns-then-not-is_instance
returns-then-not-is_instance c = λ q.
    nothing_comes (λ here. said_no c.is_instance.result c.is_instance.ensures c.if-not-is_instance.true
    (subst (IsInstanceIn c.args.problem.now.objects c.args.form.now) (sym here.0) here.1))

pub returns : goal.returns
returns c = λ q.
    let put = inserted c.args.fact.now q c.args.found.now.atoms c.insert.new.self.atoms c.in_ok-insert.ensures.ok in
    let is = said_yes c.is_instance.result c.is_instance.ensures c.if-not-is_instance.false in (
      λ has. elim (put.0 has) [
        | inl before ↦ inl before
        | inr same ↦ inr
            (same, subst (IsInstanceIn c.args.problem.now.objects c.args.form.now) same is)
      ],
      λ h. put.1 (elim h [ inl before ↦ inl before | inr here ↦ inr here.0 ]),
    )
