use Rattle.std.proofs.Common.{◌≡◌, List, ◌∷◌}
use Rattle.std.specs.Prelude.{All}
use Rattle.px_base.proofs.Loops.{some_map}
use Rattle.px_question.specs.Settings.{setting_of}
use Rattle.px_terms.specs.Validity.{IsAtomOf}
use Rattle.px_terms.specs.ValidityLaws.{atom_of-is_ground}
use Rattle.px_terms.specs.declared.atom.Atom.{Atom}
use Rattle.px_gaps.specs.Bounds.{bound_beside}
use Rattle.px_gaps.specs.ByAtoms.{IsBoundOfAtoms}
use Rattle.px_gaps.specs.declared.bounds.Bound.{Bound}
use Rattle.px_gaps.proofs.AtomsBound.{bound_by, bound-with}
use Rattle.px_gaps.proofs.by_atoms.bound_with.Goals as goal

pub returns-in-Ok-Some : goal.returns-in-Ok-Some
returns-in-Ok-Some c =
    let s = setting_of c.args.problem.now c.args.model.now.atoms in
    let q = c.args.atom.now in
    let counts = rw c.in-Ok-Some.field-0-is at c.in-Ok-Some.ensures in
    some_map (λ (both : Bound). both ≡ bound_beside (bound_by c.in-Ok-Some.count) c.args.rest)
    (λ (both : Bound). (others : List Atom) → All (IsAtomOf c.args.problem.now 0) others → IsBoundOfAtoms s others c.args.rest
    → IsBoundOfAtoms s (q ∷ others) both) c.beside.result
    (λ both is others of known. bound-with s q (atom_of-is_ground c.args.problem.now q c.requires.atom) c.in-Ok-Some.count counts others
    c.args.rest both is known) c.beside.ensures
