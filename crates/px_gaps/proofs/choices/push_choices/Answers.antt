use Rattle.std.proofs.Common.{◌⊎◌, ◌∙◌, ℕ, List, length, map, sym, subst, ap}
use Rattle.std.specs.Prelude.{◌↔◌, All, Contains}
use Rattle.px_prover.specs.Patterns.{object_under}
use Rattle.px_terms.specs.Language.{IsVariableBelow}
use Rattle.px_terms.specs.Sorts.{ObjectsFit}
use Rattle.px_terms.specs.declared.atom.Atom.{Atom}
use Rattle.px_terms.specs.declared.term.Term.{Term}
use Rattle.px_gaps.specs.Bindings.{ArePlain, AreUnbound, IsBinding, IsOpenChoice}
use Rattle.px_gaps.proofs.Describing.{then-same, unbound-binding, unbound-open}
use Rattle.px_gaps.proofs.SortedChoices.{fit-same}
use Rattle.px_base.proofs.Loops.{on_ok}
use Rattle.px_gaps.proofs.choices.push_choices.Goals as goal

pub push_open-requires-clause-below : goal.push_open-requires-clause-below
push_open-requires-clause-below c =
    let long = ap length c.deref.ensures.value ∙ c.in_ok-terms.ensures.count in
    subst (λ (ts : List Term). All (IsVariableBelow (length c.deref.result.now)) ts) (sym c.as_slice-targets.ensures)
    (subst (λ (n : ℕ). All (IsVariableBelow n) c.args.pattern.now.terms) (sym long) c.requires.pattern.terms_below)

pub push_open-requires-clause-bound : goal.push_open-requires-clause-bound
push_open-requires-clause-bound c =
    let long = ap length c.deref.ensures.value ∙ c.in_ok-terms.ensures.count in
    record {
      plain =
          subst (λ (xs : List Atom). ArePlain (length c.deref.result.now) xs) (sym c.as_slice-atoms.ensures)
          (subst (λ (n : ℕ). ArePlain n c.args.pattern.now.atoms) (sym long) c.requires.pattern.atoms_plain);
      binding =
          subst (IsBinding c.args.limit) (sym c.deref.ensures.value)
          (unbound-binding c.args.limit c.args.pattern.now.variable_count c.in_ok-terms.terms.items c.in_ok-terms.ensures
          c.requires.pattern.some_object);
      is_ground = c.requires.provable;
    }

pub returns : goal.returns
returns c = on_ok c.push_open.result (λ made objects.
    let limit = c.args.limit in
    let pattern = c.args.pattern.now in
    let provable = c.args.provable.now.atoms in
    let Fits : List ℕ → Type 0 = ObjectsFit c.args.sorting.now.object_sorts.now c.args.sorting.now.wanted.now in
    let are : AreUnbound pattern.variable_count c.deref.result.now =
    subst (AreUnbound pattern.variable_count) (sym c.deref.ensures.value) c.in_ok-terms.ensures in
    let here =
    subst (λ (xs : List Atom). Contains c.push_open.new.found.items objects
    ↔ (Contains c.args.found.now.items objects
    ⊎ (IsOpenChoice limit c.deref.result.now xs provable c.as_slice-targets.result.now objects × Fits objects))) c.as_slice-atoms.ensures
    (made objects) in
    let whole =
    subst (λ (ts : List Term). Contains c.push_open.new.found.items objects
    ↔ (Contains c.args.found.now.items objects
    ⊎ (IsOpenChoice limit c.deref.result.now pattern.atoms provable ts objects × Fits objects)))
    c.as_slice-targets.ensures here in
    then-same whole (fit-same (unbound-open limit pattern.variable_count c.deref.result.now pattern.atoms provable
    (λ values. map (object_under values) pattern.terms) objects are))) c.push_open.ensures
