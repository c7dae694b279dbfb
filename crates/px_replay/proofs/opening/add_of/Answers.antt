use Rattle.std.proofs.Common.{◌≡◌, ◌∙◌, ap, List, map, get_or}
use Rattle.px_terms.specs.declared.atom.Atom.{Atom}
use Rattle.px_terms.specs.declared.problem.Schema.{Schema}
use Rattle.px_terms.specs.declared.term.Term.{Term}
use Rattle.px_terms.specs.Operators.{no_schema, schema_of}
use Rattle.px_terms.specs.Substitution.{substitute_atom}
use Rattle.px_replay.specs.Opened.{atom_in}
use Rattle.px_replay.proofs.OpenSteps.{atom_in-map, read-any}
use Rattle.px_replay.proofs.opening.add_of.Goals as goal

pub returns : goal.returns
returns c =
    let d = c.index-as_slice-op.result in
    let item = c.index-adds-index.result in
    let adds_are : c.as_slice-adds.result.now ≡ (schema_of c.args.problem.now c.args.inst.now).add =
    c.as_slice-adds.ensures ∙ ap (λ (l : List Schema). (get_or l c.op.result d).add) c.as_slice.ensures
    ∙ ap (λ k. (get_or c.args.problem.now.schemas k d).add) c.op.ensures
    ∙ ap (λ (s : Schema). s.add) (read-any c.args.problem.now.schemas c.args.inst.now.op d no_schema c.requires.schema.op) in
    c.apply.ensures ∙ ap (λ (ts : List Term). substitute_atom ts item) c.args-2.ensures.value
    ∙ ap (substitute_atom c.args.inst.now.args) c.index-adds-index.is
    ∙ atom_in-map (substitute_atom c.args.inst.now.args) c.as_slice-adds.result.now c.args.index item c.if-index-adds.false
    ∙ ap (λ (l : List Atom). atom_in (map (substitute_atom c.args.inst.now.args) l) c.args.index) adds_are
