use Rattle.std.proofs.Common.{refl, arith, get_or, length}
use Rattle.px_prover.proofs.Noting.{terms-start, terms-next, terms-end, term-below}
use Rattle.px_terms.specs.declared.term.Term.TheVariants.{Obj}
use Rattle.px_prover.proofs.gathering.note_terms.Goals as goal

pub loop-term-init : goal.loop-term-init
loop-term-init c = terms-start c.args.roots.now c.args.terms.now c.args.free.now.items

pub note_term-requires : goal.note_term-requires
note_term-requires c =
    term-below (length c.args.roots.now) c.args.terms.now c.loop-term.term-index (get_or c.args.terms.now c.loop-term.term-index (Obj 0))
    (Obj 0) c.loop-term-test.true refl c.requires

pub loop-term-preserved : goal.loop-term-preserved
loop-term-preserved c =
    terms-next c.args.roots.now c.args.terms.now c.loop-term.term-index (get_or c.args.terms.now c.loop-term.term-index (Obj 0))
    (Obj 0) c.args.free.now.items c.loop-term.free.items c.note_term.new.free.items
    c.loop-term-test.true refl c.loop-term.invariant c.in_ok-note_term.ensures

pub returns : goal.returns
returns c =
    terms-end c.args.roots.now c.args.terms.now c.loop-term.term-index c.args.free.now.items c.loop-term.free.items
    (omega (arith, c.loop-term-test.false)) c.loop-term.invariant
