use Rattle.px_terms.specs.declared.term.Term.{Term}
use Rattle.std.proofs.Common.{List, ◌∙◌, ap, sym, map, take, ◌++◌, ◌∷◌, []}
use Rattle.std.proofs.lemmas.List.{take_more, map-append}
use Rattle.px_terms.specs.Substitution.{substitute_atom}
use Rattle.px_replay.proofs.rows.needs.Goals as goal

pub loop-atom-preserved : goal.loop-atom-preserved
loop-atom-preserved c =
    c.in_ok-push.ensures.ok
    ∙ ap (λ l. l ++ c.apply.result ∷ []) c.loop-atom.invariant
    ∙ ap (λ a. map (substitute_atom c.args.inst.now.args) (take c.loop-atom.atom-index c.as_slice-atom-items.result.now) ++ a ∷ [])
    (c.apply.ensures ∙ ap (λ (ts : List Term). substitute_atom ts c.atom-item.result) c.args-in-loop-atom.ensures.value
    ∙ ap (substitute_atom c.args.inst.now.args) c.atom-item.is)
    ∙ sym (ap (map (substitute_atom c.args.inst.now.args))
    (take_more c.as_slice-atom-items.result.now c.loop-atom.atom-index c.atom-item.result c.loop-atom-test.true)
    ∙ map-append (substitute_atom c.args.inst.now.args) (take c.loop-atom.atom-index c.as_slice-atom-items.result.now) _)
