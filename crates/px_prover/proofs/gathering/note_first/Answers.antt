use Rattle.std.proofs.Common.{◌≡◌, ℕ, arith, subst}
use Rattle.px_prover.specs.Gathering.{IsFirstVariable, NotesEnds}
use Rattle.px_prover.proofs.Noting.{first-start, first-next}
use Rattle.px_prover.proofs.gathering.note_first.Goals as goal

pub loop-variable-init : goal.loop-variable-init
loop-variable-init c = first-start c.args.roots.now c.args.free.now.items

pub loop-variable-preserved : goal.loop-variable-preserved
loop-variable-preserved c =
    first-next c.args.roots.now c.loop-variable.variable c.args.free.now.items c.loop-variable.free.items c.note_term.new.free.items
    c.loop-variable.invariant c.in_ok-note_term.ensures

pub returns : goal.returns
returns c =
    let all : c.loop-variable.variable ≡ c.args.variable_count = omega (arith, c.loop-variable-test.false, c.loop-variable.auto.variable-end) in
    subst (λ (n : ℕ). NotesEnds (IsFirstVariable n) c.args.roots.now c.args.free.now.items c.loop-variable.free.items) all
    c.loop-variable.invariant
