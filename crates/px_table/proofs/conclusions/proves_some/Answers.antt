use Rattle.std.proofs.Common.{◌≡◌, sym, ◌∙◌, subst}
use Rattle.px_terms.specs.declared.atom.Atom.{Atom}
use Rattle.px_proof.specs.Literals.{positive_of}
use Rattle.px_base.specs.Answers.{some_same, some_or_none}
use Rattle.px_proof.specs.ProofTerm.{derivation_of}
use Rattle.px_proof.specs.Proves.{IsTree}
use Rattle.px_table.proofs.conclusions.proves_some.Goals as goal

pub returns-in-Some : goal.returns-in-Some
returns-in-Some c =
    let exact = rw c.positive.ensures at c.is_tree.ensures.exact in (
      λ holds.
          let tree = exact.0 holds in
          (c.in-Some.atom, record { proves = tree.proves; terms = tree.terms }),
      λ some_atom.
          let same : c.in-Some.atom ≡ some_atom.0 =
          some_same (sym c.in-Some.is ∙ c.conclusion.ensures some_atom.0 (c.args.objects, c.args.params, some_atom.1)) in
          exact.1 (subst (λ (a : Atom). IsTree c.args.axioms.now c.args.objects c.args.params (positive_of a)
          (derivation_of c.args.proof.now)) (sym same) (record { proves = some_atom.1.proves; terms = some_atom.1.terms })),
    )

pub returns-in-None : goal.returns-in-None
returns-in-None c = (
  λ yes. cc,
  λ some_atom. some_or_none (sym (c.conclusion.ensures some_atom.0 (c.args.objects, c.args.params, some_atom.1)) ∙ c.in-None.is),
)
