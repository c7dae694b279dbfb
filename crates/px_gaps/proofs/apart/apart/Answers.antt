use Rattle.std.proofs.Common.{◌≡◌, ◌∙◌, ℕ, List, ◌++◌, length, sym, ap, subst, arith}
use Rattle.std.specs.Prelude.{All, Any}
use Rattle.px_base.specs.ListLaws.{All-at}
use Rattle.px_terms.specs.declared.atom.Atom.{Atom}
use Rattle.px_gaps.specs.Apart.{StandsIn}
use Rattle.px_gaps.specs.Bindings.{ArePlain}
use Rattle.px_gaps.proofs.PartLemmas.{partly-apart, partly-next, partly-start}
use Rattle.px_gaps.proofs.apart.apart.Goals as goal

pub link-requires-clause-plain : goal.link-requires-clause-plain
link-requires-clause-plain c =
    let copied : c.extend_from_slice.new.self.items ≡ c.args.atoms.now =
    c.in_ok-extend_from_slice.ensures.items ∙ ap (λ xs. xs ++ c.args.atoms.now) c.new-others.ensures.items in
    subst (ArePlain (length c.args.terms.now)) (sym copied) c.requires.plain

pub loop-next-init : goal.loop-next-init
loop-next-init c =
    let terms = c.args.terms.now in
    let atoms = c.args.atoms.now in
    let copied : c.extend_from_slice.new.self.items ≡ atoms =
    c.in_ok-extend_from_slice.ensures.items ∙ ap (λ xs. xs ++ c.args.atoms.now) c.new-others.ensures.items in
    record {
      partly =
          partly-next terms atoms c.new-reached.result.items c.link.new.reached.items
          (record { linked = c.new.result; others = c.extend_from_slice.new.self }) c.link.new.parts
          (partly-start terms atoms c.new-reached.result.items
          (record { linked = c.new.result; others = c.extend_from_slice.new.self }) c.new.ensures.items copied c.requires.plain)
          c.in_ok-link.ensures;
      fewer = omega (arith, c.in_ok-link.ensures.fewer, ap length copied);
    }

pub loop-next-preserved : goal.loop-next-preserved
loop-next-preserved c =
    record {
      partly =
          partly-next c.args.terms.now c.args.atoms.now c.loop-next.reached.items c.link-in-Some.new.reached.items c.loop-next.parts
          c.link-in-Some.new.parts c.loop-next.invariant.partly c.in_ok-link-2.ensures;
      fewer = omega (arith, c.in_ok-link-2.ensures.fewer, c.loop-next.invariant.fewer);
    }

pub returns-clause-apart : goal.returns-clause-apart
returns-clause-apart c =
    let terms = c.args.terms.now in
    let none : All (λ (a : Atom). ¬ Any (λ v. StandsIn terms v a) c.loop-next.reached.items) c.loop-next.parts.others.items =
    subst (λ (l : List Atom). All (λ (a : Atom). ¬ Any (λ v. StandsIn terms v a) c.loop-next.reached.items) l)
    c.deref-in-loop-next.ensures.value
    (subst (λ (vs : List ℕ). All (λ (a : Atom). ¬ Any (λ v. StandsIn terms v a) vs) c.deref-in-loop-next.result.now) c.deref.ensures.value
    c.in_default.ensures.none) in
    partly-apart terms c.args.atoms.now c.loop-next.reached.items c.loop-next.parts c.loop-next.invariant.partly
    (λ atom has. All-at (λ (a : Atom). ¬ Any (λ v. StandsIn terms v a) c.loop-next.reached.items) c.loop-next.parts.others.items atom none
    has)
