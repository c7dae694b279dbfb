use Rattle.std.proofs.Common.{◌++◌, ◌∷◌, [], ◌+◌, length, refl, sym, subst, arith}
use Rattle.std.specs.Prelude.{set}
use Rattle.px_terms.specs.declared.term.Term.{Term}
use Rattle.px_terms.specs.declared.term.Term.TheVariants.{Obj, Var}
use Rattle.px_edit.specs.Parts.{AreNamesAlong}
use Rattle.px_edit.proofs.NameSteps.{name-kept, name-new, no-wild_card}
use Rattle.px_edit.proofs.naming.name_term.Goals as goal

pub returns-in-Any-clause-names : goal.returns-in-Any-clause-names
returns-in-Any-clause-names c = λ walked are.
    subst (λ (t : Term). AreNamesAlong (length c.args.names.now) (walked ++ t ∷ [])
    (set c.args.names.now c.in-Var.parameter (Var c.args.next)) (c.args.next + 1)) (sym c.in-Var.is)
    (name-new (length c.args.names.now) c.in-Var.parameter walked c.args.names.now c.args.next _
    (omega (arith, c.if-parameter-names.false)) c.in-Any.is are)

pub returns-in-Obj : goal.returns-in-Obj
returns-in-Obj c = record {
  long = refl;
  left = refl;
  names = λ walked are.
      subst (λ (t : Term). AreNamesAlong (length c.args.names.now) (walked ++ t ∷ []) c.args.names.now c.args.next) (sym c.in-Var.is)
      (name-kept (length c.args.names.now) c.in-Var.parameter walked c.args.names.now c.args.next _
      (omega (arith, c.if-parameter-names.false)) (no-wild_card _ c.in-Obj.is) are);
}
