use Rattle.std.proofs.Common.{◌≡◌, ◌+◌, ◌++◌, ◌∷◌, [], List, map, take, sym, ap, ◌∙◌}
use Rattle.std.proofs.lemmas.List.{map-append, take_more}
use Rattle.px_terms.specs.declared.atom.Atom.{Atom}
use Rattle.px_terms.specs.declared.term.Term.{Term}
use Rattle.px_terms.specs.Substitution.{substitute_atom}
use Rattle.px_search.proofs.alterations.atoms_with.Goals as goal

pub loop-atom-preserved : goal.loop-atom-preserved
loop-atom-preserved c =
    let i = c.loop-atom.atom-index in
    let atom = c.atom-item.result in
    let atoms = c.args.atoms.now in
    let under = substitute_atom c.args.inst.now.args in
    let taken : take (i + 1) atoms ≡ take i atoms ++ atom ∷ [] =
    take_more atoms i atom c.loop-atom-test.true ∙ ap (λ (x : Atom). take i atoms ++ x ∷ []) (sym c.atom-item.is) in
    c.in_ok-push.ensures.items ∙ ap (λ (l : List Atom). l ++ c.apply-here.result ∷ []) c.loop-atom.invariant
    ∙ ap (λ (x : Atom). map under (take i atoms) ++ x ∷ []) (c.apply-here.ensures ∙ ap (λ (m : List Term). substitute_atom m atom)
    c.args-in-loop-atom.ensures.value)
    ∙ sym (map-append under (take i atoms) (atom ∷ [])) ∙ ap (map under) (sym taken)
