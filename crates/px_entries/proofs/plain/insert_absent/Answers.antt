use Rattle.std.proofs.Common.{subst, inl, inr}
use Rattle.px_entries.specs.Plain.{IsAbsent}
use Rattle.px_gaps.proofs.Grows.{inserted}
use Rattle.px_base.proofs.Loops.{said_yes}
use Rattle.px_entries.proofs.plain.insert_absent.Goals as goal

pub returns : goal.returns
returns c = λ q.
    let put = inserted c.args.atom.now q c.args.found.now.atoms c.insert.new.self.atoms c.in_ok-insert.ensures.ok in
    let is = said_yes c.is_absent.result c.is_absent.ensures c.if-not-is_absent.false in (
      λ has. elim (put.0 has) [
        | inl before ↦ inl before
        | inr same ↦ inr
            (same, subst (IsAbsent c.args.problem.now c.args.model.now.atoms) same is)
      ],
      λ h. put.1 (elim h [ inl before ↦ inl before | inr here ↦ inr here.0 ]),
    )
