use Rattle.std.proofs.Common.{◌≡◌, length, slice_get, Some, sym, ap, ◌∙◌, arith}
use Rattle.std.proofs.lemmas.List.{length-map}
use borrow.Author.Tests.{ltb-true}
use Rattle.px_terms.specs.declared.problem.Schema.{Schema}
use Rattle.px_terms.specs.Operators.{adds, schema_of}
use Rattle.px_terms.specs.OrderLaws.{atom_eq-decides}
use Rattle.px_terms.specs.Substitution.{substitute_atom}
use Rattle.px_base.specs.Answers.{some_same}
use Rattle.px_proof.specs.PlaceLaws.{slice_get-within}
use Rattle.px_table.proofs.leaf_sources.adds_mark.Goals as goal

pub returns-then-index-len : goal.returns-then-index-len
returns-then-index-len c =
    let at : slice_get (adds c.args.problem.now c.args.inst.now) c.args.mark.now.index ≡ Some c.adds.result =
    rw c.schema_of-schema.ensures.schema at c.adds.ensures in
    let decides = atom_eq-decides c.adds.result c.args.mark.now.atom in (
      λ holds. at ∙ ap Some (decides.0 (sym c.eq.ensures ∙ holds)),
      λ named. c.eq.ensures ∙ decides.1 (some_same (sym at ∙ named)),
    )

pub returns-else-index-len : goal.returns-else-index-len
returns-else-index-len c =
    let long : c.len.result ≡ length (schema_of c.args.problem.now c.args.inst.now).add =
    c.len.ensures ∙ ap (λ (s : Schema). length s.add) c.schema_of-schema.ensures.schema in (
      λ yes. absurd (omega (arith, c.if-index-len.false, ltb-true c.args.mark.now.index c.len.result yes)),
      λ named.
          let within = slice_get-within (adds c.args.problem.now c.args.inst.now) c.args.mark.now.index c.args.mark.now.atom named in
          absurd (omega (
            arith,
            within,
            long,
            c.if-index-len.false,
            length-map (schema_of c.args.problem.now c.args.inst.now).add (substitute_atom c.args.inst.now.args),
          )),
    )
