use Rattle.std.proofs.Common.{List, length, sym, subst}
use Rattle.px_terms.specs.Substitution.{substitute_atom}
use Rattle.px_terms.specs.declared.term.Term.{Term}
use Rattle.std.specs.Prelude.{Any, Contains}
use Rattle.px_gaps.specs.Bindings.{ArePlain}
use Rattle.std.proofs.Common.{◌∙◌, ℕ}
use Rattle.px_gaps.proofs.Choosing.{first-avoids, first-long, met-none}
use Rattle.px_base.proofs.Loops.{said_no, said_yes}
use Rattle.px_gaps.proofs.bindings.can_avoid.Goals as goal

pub meets_under-requires : goal.meets_under-requires
meets_under-requires c =
    subst (λ (ts : List Term). ArePlain (length ts) c.args.avoidance.now.atoms.now) (sym (c.deref.ensures.value ∙ c.in_ok-first.ensures))
    (subst (λ (n : ℕ). ArePlain n c.args.avoidance.now.atoms.now) (sym (first-long c.args.terms.now)) c.requires.plain)

pub meets_under-requires-2 : goal.meets_under-requires-2
meets_under-requires-2 c = c.requires.plain

pub returns-then-not-meets_under : goal.returns-then-not-meets_under
returns-then-not-meets_under c =
    first-avoids c.args.avoidance.now.limit c.args.terms.now c.requires.binding c.args.avoidance.now.atoms.now
    c.args.avoidance.now.set.now.atoms
    (λ any. said_no c.meets_under.result c.meets_under.ensures c.if-not-meets_under.true
    (subst (λ (ts : List Term). Any (λ atom. Contains c.args.avoidance.now.set.now.atoms (substitute_atom ts atom))
    c.args.avoidance.now.atoms.now) (sym (c.deref.ensures.value ∙ c.in_ok-first.ensures)) any))

pub returns-then-meets_under : goal.returns-then-meets_under
returns-then-meets_under c =
    met-none c.args.avoidance.now.limit c.args.terms.now c.requires.binding c.args.avoidance.now.atoms.now
    c.args.avoidance.now.set.now.atoms c.requires.plain c.requires.is_ground
    (said_yes c.meets_under-2.result c.meets_under-2.ensures c.if-meets_under.true)

pub can_choose_apart-requires-clause-unmet : goal.can_choose_apart-requires-clause-unmet
can_choose_apart-requires-clause-unmet c = said_no c.meets_under-2.result c.meets_under-2.ensures c.if-meets_under.false
