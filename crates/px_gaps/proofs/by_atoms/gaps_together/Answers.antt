use Rattle.std.proofs.Common.{◌≡◌, ◌∙◌, ◌+◌, Bool, List, [], arith, subst, sym, take, true}
use Rattle.std.specs.Prelude.{◌&&◌}
use Rattle.std.proofs.lemmas.List.{take_all}
use Rattle.px_base.proofs.Loops.{contains_here}
use Rattle.px_base.specs.ListLaws.{All-at}
use Rattle.px_question.specs.Settings.{setting_of}
use Rattle.px_terms.specs.Validity.{IsAtomOf}
use Rattle.px_terms.specs.declared.atom.Atom.{Atom}
use Rattle.px_gaps.specs.ByAtoms.{AreGapsTogether}
use Rattle.px_gaps.proofs.Apartness.{AreTogether, and-else, and-then, together-begins, together-next, together-none, together-some}
use Rattle.px_gaps.proofs.by_atoms.gaps_together.Goals.{then-each_has, else-each_has}
use Rattle.px_gaps.proofs.by_atoms.gaps_together.Goals as goal

pub loop-atom-init : goal.loop-atom-init
loop-atom-init c =
    subst (λ (l : List Atom). AreTogether (setting_of c.args.problem.now c.args.model.now.atoms) [] true l) (sym c.new-found.ensures)
    (together-begins (setting_of c.args.problem.now c.args.model.now.atoms))

pub insert_gaps-requires-clause-atom : goal.insert_gaps-requires-clause-atom
insert_gaps-requires-clause-atom c =
    All-at (IsAtomOf c.args.problem.now 0) c.args.atoms.now c.atom-item.result c.requires.atoms
    (contains_here c.args.atoms.now c.loop-atom.atom-index c.atom-item.result c.loop-atom-test.true c.atom-item.is)

pub loop-atom-preserved : goal.loop-atom-preserved
loop-atom-preserved c =
    let s = setting_of c.args.problem.now c.args.model.now.atoms in
    let atoms = c.args.atoms.now in
    let before = c.loop-atom.each_has in
    let here = c.in-Ok.has in
    let next =
    together-next s atoms c.loop-atom.atom-index c.atom-item.result before here c.loop-atom.found.atoms c.insert_gaps.new.found.atoms
    c.loop-atom-test.true c.atom-item.is c.loop-atom.invariant c.in-Ok.ensures.proved c.in-Ok.ensures.found c.in-Ok.ensures.unlimited in
    let both : (before && here) ≡ c.if-each_has.each_has = elim c.if-each_has.branch [
      | then-each_has w ↦ and-then before here c.if-each_has.each_has w.if-each_has.true w.each_has-is
      | else-each_has w ↦ and-else before here c.if-each_has.each_has w.if-each_has.false (w.each_has-is ∙ w.if-each_has.false)
    ] in
    subst (λ (b : Bool). AreTogether s (take (c.loop-atom.atom-index + 1) atoms) b c.insert_gaps.new.found.atoms) both next

pub returns-then-not-each_has : goal.returns-then-not-each_has
returns-then-not-each_has c =
    let s = setting_of c.args.problem.now c.args.model.now.atoms in
    let atoms = c.args.atoms.now in
    let known : AreTogether s atoms c.loop-atom.each_has c.loop-atom.found.atoms =
    subst (λ (l : List Atom). AreTogether s l c.loop-atom.each_has c.loop-atom.found.atoms)
    (take_all c.loop-atom.atom-index atoms (omega (arith, c.loop-atom-test.false))) c.loop-atom.invariant in
    subst (AreGapsTogether s atoms) (sym c.new.ensures)
    (together-none s atoms c.loop-atom.found.atoms c.loop-atom.each_has known c.if-not-each_has.true)

pub returns : goal.returns
returns c =
    let s = setting_of c.args.problem.now c.args.model.now.atoms in
    let atoms = c.args.atoms.now in
    let known : AreTogether s atoms c.loop-atom.each_has c.loop-atom.found.atoms =
    subst (λ (l : List Atom). AreTogether s l c.loop-atom.each_has c.loop-atom.found.atoms)
    (take_all c.loop-atom.atom-index atoms (omega (arith, c.loop-atom-test.false))) c.loop-atom.invariant in
    together-some s atoms c.loop-atom.found.atoms c.loop-atom.each_has known c.if-not-each_has.false
