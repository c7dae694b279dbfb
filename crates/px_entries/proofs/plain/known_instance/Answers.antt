use Rattle.std.proofs.Common.{◌∙◌, List, sym, subst}
use Rattle.std.specs.Prelude.{[], ◌∷◌, All, IfOk, IfSome}
use Rattle.px_terms.specs.Validity.{IsAtomOf}
use Rattle.px_terms.specs.ValidityLaws.{precondition-is_of}
use Rattle.px_terms.specs.declared.atom.Atom.{Atom}
use Rattle.px_table.specs.declared.entry.Entry.TheVariants.{Op}
use Rattle.px_gaps.specs.Known.{IsKnownOf}
use Rattle.px_gaps.specs.Questions.{AreUnlimited}
use Rattle.px_entries.proofs.plain.known_instance.Goals as goal

pub known_plain-requires-clause-formula : goal.known_plain-requires-clause-formula
known_plain-requires-clause-formula c =
    subst (All (IsAtomOf c.args.problem.now 0)) (sym (c.deref.ensures.value ∙ c.in_ok-formula.ensures))
    (precondition-is_of c.args.problem.now c.args.inst.now c.requires.problem c.requires.inst.of)

pub known_plain-requires-clause-unlimited : goal.known_plain-requires-clause-unlimited
known_plain-requires-clause-unlimited c =
    subst (λ (l : List Atom). AreUnlimited c.args.problem.now (record { formula = l; variable_count = 0; facts = c.args.model.now.atoms } ∷ []))
    (sym (c.deref.ensures.value ∙ c.in_ok-formula.ensures))
    (c.requires.never c.args.model.now.atoms c.atoms-facts.ensures.model.ascending (Op c.args.inst.now) c.requires.inst)

pub returns : goal.returns
returns c =
    subst (λ (l : List Atom). IfOk c.known_plain.result
    (λ found. IfSome found (IsKnownOf c.args.problem.now (record { formula = l; variable_count = 0; facts = c.args.model.now.atoms } ∷ []))))
    (c.deref.ensures.value ∙ c.in_ok-formula.ensures) c.known_plain.ensures
