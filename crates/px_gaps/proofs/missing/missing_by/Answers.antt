use Rattle.std.proofs.Common.{List, inl, inr, subst}
use Rattle.std.specs.Prelude.{Contains}
use Rattle.px_base.specs.ListLaws.{Contains-none}
use Rattle.px_terms.specs.declared.atom.Atom.{Atom}
use Rattle.px_gaps.proofs.missing.missing_by.Goals as goal

pub returns : goal.returns
returns c = λ q. (
  λ h. elim ((c.in_ok-insert_missing_by.ensures q).0 h) [
    | inl before ↦ absurd (Contains-none q (subst (λ (l : List Atom). Contains l q) c.new-missing.ensures before))
    | inr is ↦ is
  ],
  λ is. (c.in_ok-insert_missing_by.ensures q).1 (inr is),
)
