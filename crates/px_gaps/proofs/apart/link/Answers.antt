use Rattle.std.proofs.Common.{◌≡◌, ◌∙◌, ◌⊎◌, List, ap, map, sym, subst, arith}
use Rattle.std.specs.Prelude.{◌↔◌, Contains}
use Rattle.px_terms.specs.Language.{substitute}
use Rattle.px_terms.specs.declared.atom.Atom.{Atom}
use Rattle.px_terms.specs.declared.term.Term.{Term}
use Rattle.px_terms.specs.declared.term.Term.TheVariants.{Var}
use Rattle.px_base.proofs.Loops.{Contains-pushed}
use Rattle.px_gaps.proofs.PartLemmas.{removed-members}
use Rattle.px_gaps.proofs.apart.link.Goals as goal

pub returns : goal.returns
returns c =
    let atom = c.remove-atom.result in
    let same : c.args-2.result.now ≡ map (substitute c.args.terms.now) atom.args =
    c.args-2.ensures.value ∙ ap (λ (a : Atom). a.args) c.apply-here.ensures in
    record {
      atom = atom;
      others =
          λ a. subst (λ (l : List Atom). Contains c.args.parts.now.others.items a ↔ ((atom ≡ a) ⊎ Contains l a))
          (sym c.remove-atom.ensures.items) (removed-members c.args.parts.now.others.items c.args.place atom c.requires.place
          c.remove-atom.ensures.value a);
      linked =
          λ a. subst (λ (l : List Atom). Contains l a ↔ (Contains c.args.parts.now.linked.items a ⊎ (atom ≡ a)))
          (sym c.in_ok-push.ensures.items) (Contains-pushed c.args.parts.now.linked.items atom a);
      reaches =
          λ v. subst (λ (ts : List Term). Contains c.reach.new.reached.items v
          ↔ (Contains c.args.reached.now.items v ⊎ Contains ts (Var v))) same (c.in_ok-reach.ensures v);
      fewer = omega (arith, c.remove-atom.ensures.len, c.remove-atom.new.self.ok.0, c.args.parts.now.others.ok.0);
    }
