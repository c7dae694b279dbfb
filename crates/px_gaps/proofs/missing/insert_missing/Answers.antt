use Rattle.std.proofs.Common.{◌⊎◌, ◌∙◌, ℕ, List, length, ap, sym, subst, arith}
use Rattle.std.specs.Prelude.{◌↔◌, Contains}
use Rattle.std.proofs.lemmas.List.{take_all}
use Rattle.px_terms.specs.declared.atom.Atom.{Atom}
use Rattle.px_gaps.specs.Closings.{OneOf}
use Rattle.px_gaps.specs.Bindings.{ArePlain, IsBinding}
use Rattle.px_gaps.proofs.Describing.{IsReached, target-next, unbound-binding}
use Rattle.px_gaps.proofs.missing.insert_missing.Goals as goal

pub insert_open-requires-clause-bound : goal.insert_open-requires-clause-bound
insert_open-requires-clause-bound c =
    let long = ap length c.deref.ensures.value ∙ c.in_ok-terms.ensures.count in
    record {
      plain =
          subst (λ (xs : List Atom). ArePlain (length c.deref.result.now) xs) (sym c.as_slice-atoms.ensures)
          (subst (λ (n : ℕ). ArePlain n c.args.pattern.now.atoms) (sym long) c.requires.pattern.atoms_plain);
      binding =
          subst (IsBinding c.args.limit) (sym c.deref.ensures.value)
          (unbound-binding c.args.limit c.args.pattern.now.variable_count c.in_ok-terms.terms.items c.in_ok-terms.ensures
          c.requires.pattern.some_object);
      is_ground = c.requires.provable;
    }

pub loop-target-preserved : goal.loop-target-preserved
loop-target-preserved c = λ q.
    target-next c.args.limit c.args.pattern.now.variable_count c.in_ok-terms.terms.items c.deref.result.now c.as_slice-atoms.result.now
    c.args.provable.now.atoms c.as_slice-atoms.result.now c.loop-target.target-index c.target-item.result q c.in_ok-terms.ensures
    c.deref.ensures.value
    c.loop-target-test.true c.target-item.is (c.loop-target.invariant q) (c.in_ok-insert_open.ensures q)

pub returns : goal.returns
returns c = λ q.
    let atoms = c.as_slice-atoms.result.now in
    let whole =
    subst (λ (ts : List Atom). Contains c.loop-target.found.atoms q
    ↔ (Contains c.args.found.now.atoms q ⊎ OneOf ts (IsReached c.args.limit c.args.pattern.now.variable_count atoms c.args.provable.now.atoms q)))
    (take_all c.loop-target.target-index atoms (omega (arith, c.loop-target-test.false))) (c.loop-target.invariant q) in
    subst (λ (ts : List Atom). Contains c.loop-target.found.atoms q
    ↔ (Contains c.args.found.now.atoms q ⊎ OneOf ts (IsReached c.args.limit c.args.pattern.now.variable_count ts c.args.provable.now.atoms q)))
    c.as_slice-atoms.ensures whole
