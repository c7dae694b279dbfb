use Rattle.std.proofs.Common.{◌⊎◌, List, [], subst, sym, inl, inr}
use Rattle.std.specs.Prelude.{◌↔◌, Contains}
use Rattle.std.proofs.lemmas.List.{take_all}
use Rattle.px_base.specs.ListLaws.{Contains-none}
use Rattle.px_terms.specs.declared.atom.Atom.{Atom}
use Rattle.px_entries.specs.Plain.{IsAbsent}
use Rattle.px_gaps.proofs.FactLemmas.{facts-next}
use Rattle.px_gaps.proofs.Grows.{nothing_comes}
use Rattle.px_entries.proofs.plain.absent_of.Goals as goal

pub loop-atom-init : goal.loop-atom-init
loop-atom-init c = λ q.
    let Here = Contains {X = Atom} [] q × IsAbsent c.args.problem.now c.args.model.now.atoms q in
    subst (λ (l : List Atom). Contains l q ↔ (Contains {X = Atom} [] q ⊎ Here)) (sym c.new-absent.ensures)
    (nothing_comes (λ here. Contains-none q here.0))

pub loop-atom-preserved : goal.loop-atom-preserved
loop-atom-preserved c =
    λ q. facts-next c.args.formula.now c.loop-atom.atom-index c.atom-item.result q c.loop-atom-test.true c.atom-item.is
    (c.loop-atom.invariant q) (c.in_ok-insert_absent.ensures q)

pub returns : goal.returns
returns c = λ q.
    let whole =
    subst (λ (l : List Atom). Contains c.loop-atom.absent.atoms q
    ↔ (Contains {X = Atom} [] q ⊎ (Contains l q × IsAbsent c.args.problem.now c.args.model.now.atoms q)))
    (take_all c.loop-atom.atom-index c.args.formula.now c.loop-atom-test.false) (c.loop-atom.invariant q) in (
      λ has. elim (whole.0 has) [ inl never ↦ absurd (Contains-none q never) | inr both ↦ both ],
      λ both. whole.1 (inr both),
    )
