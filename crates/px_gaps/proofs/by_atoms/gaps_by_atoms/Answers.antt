use Rattle.std.proofs.Common.{◌<◌, List, Option, sym, subst, arith}
use Rattle.std.specs.Prelude.{All, IfSome}
use Rattle.std.proofs.lemmas.List.Elements.{All-weaker}
use Rattle.px_base.proofs.Loops.{ok_map, some_map}
use Rattle.px_ops.specs.ModelValue.{ModelValue}
use Rattle.px_question.specs.Limits.{AreFewGapShapes}
use Rattle.px_question.specs.Settings.{setting_of}
use Rattle.px_terms.specs.Instances.{IsGround}
use Rattle.px_terms.specs.Validity.{IsAtomOf}
use Rattle.px_terms.specs.ValidityLaws.{atom_of-is_ground}
use Rattle.px_terms.specs.declared.atom.Atom.{Atom}
use Rattle.px_terms.specs.declared.problem.Problem.{Problem}
use Rattle.px_gaps.specs.ByAtoms.{AreGapsOf, AreGapsTogether, IsBoundOfAtoms}
use Rattle.px_gaps.specs.declared.bounds.Bound.{Bound}
use Rattle.px_gaps.proofs.Apartness.{none-are, together-are}
use Rattle.px_gaps.proofs.AtomsBound.{bound-few}
use Rattle.px_gaps.proofs.by_atoms.gaps_by_atoms.Goals as goal

few-shapes : (problem : Problem) (facts formula : List Atom) (bound : Bound) → All (IsAtomOf problem 0) formula
    → IsBoundOfAtoms (setting_of problem facts) formula bound → bound.unfinished < problem.shapes
    → AreFewGapShapes (setting_of problem facts) formula 0
few-shapes problem facts formula bound of known below =
    bound-few (setting_of problem facts) formula bound
    (All-weaker (IsAtomOf problem 0) IsGround (atom_of-is_ground problem) formula of) known below

pub returns-then-bound-eq0 : goal.returns-then-bound-eq0
returns-then-bound-eq0 c =
    let s = setting_of c.args.problem.now c.args.model.now.atoms in
    let formula = c.args.formula.now in
    let known = rw c.in-Ok-Some.field-0-is at c.in-Ok-Some.ensures in
    let few =
    few-shapes c.args.problem.now c.args.model.now.atoms formula c.in-Ok-Some.bound c.requires.formula known
    (omega (arith, c.if-bound-problem.false)) in
    subst (AreGapsOf s formula) (sym c.new.ensures) (none-are s formula few (known.none (omega (arith, c.if-bound-eq0.true))))

pub returns : goal.returns
returns c =
    let s = setting_of c.args.problem.now c.args.model.now.atoms in
    let formula = c.args.formula.now in
    let known = rw c.in-Ok-Some.field-0-is at c.in-Ok-Some.ensures in
    let few =
    few-shapes c.args.problem.now c.args.model.now.atoms formula c.in-Ok-Some.bound c.requires.formula known
    (omega (arith, c.if-bound-problem.false)) in
    ok_map (λ (r : Option ModelValue). IfSome r (λ (gaps : ModelValue). AreGapsTogether s formula gaps.atoms))
    (λ (r : Option ModelValue). IfSome r (λ (gaps : ModelValue). AreGapsOf s formula gaps.atoms))
    (λ r. some_map (λ (gaps : ModelValue). AreGapsTogether s formula gaps.atoms) (λ (gaps : ModelValue). AreGapsOf s formula gaps.atoms) r
    (λ gaps are. together-are s formula few gaps.atoms c.requires.no_answer are)) c.gaps_together.result c.gaps_together.ensures
