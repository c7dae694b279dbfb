use Rattle.std.proofs.Common.{◌≡◌, ◌+◌, ◌++◌, ℕ, List, [], ◌∷◌, take, subst, sym, ap, ◌∙◌}
use Rattle.std.proofs.lemmas.List.{take_more}
use Rattle.px_terms.specs.declared.atom.Atom.{Atom}
use Rattle.px_numbers.specs.Numbers.{AreNumbersOf}
use Rattle.px_ops.specs.KeepLaws.{keeps-places, keeps-once}
use Rattle.px_numbers.proofs.NumberSteps.{keeps_both, numbers_more}
use Rattle.px_numbers.proofs.numbers.numbers_of.Goals as goal

pub returns-in_err-push-clause-once : goal.returns-in_err-push-clause-once
returns-in_err-push-clause-once c = λ once.
    keeps-once c.loop-atom.index c.number_of.new.index c.atom-item.result c.in_ok-number.number c.in_ok-number.ensures.kept
    (c.loop-atom.invariant.once once)

pub loop-atom-preserved : goal.loop-atom-preserved
loop-atom-preserved c =
    let old = c.loop-atom.index in
    let new = c.number_of.new.index in
    let atom = c.atom-item.result in
    let number = c.in_ok-number.number in
    let i = c.loop-atom.atom-index in
    let kept = c.in_ok-number.ensures.kept in
    let taken : take (i + 1) c.args.atoms.now ≡ take i c.args.atoms.now ++ atom ∷ [] =
    take_more c.args.atoms.now i atom c.loop-atom-test.true ∙ ap (λ (x : Atom). take i c.args.atoms.now ++ x ∷ []) (sym c.atom-item.is) in
    record {
      places = keeps_both c.args.index.now old new c.loop-atom.invariant.places (keeps-places old new atom number kept);
      once = λ once. keeps-once old new atom number kept (c.loop-atom.invariant.once once);
      numbers = subst (λ (l : List Atom). AreNumbersOf new c.push.new.self.items l) (sym taken)
          (subst (λ (l : List ℕ). AreNumbersOf new l (take i c.args.atoms.now ++ atom ∷ [])) (sym c.in_ok-push.ensures.items)
          (numbers_more old new c.loop-atom.numbers.items (take i c.args.atoms.now) atom number kept c.loop-atom.invariant.numbers));
    }
