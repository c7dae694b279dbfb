use Rattle.std.proofs.Common.{◌≡◌, ◌<◌, ◌+◌, List, length, get_or, sym, ap, ◌∙◌, subst, inl, inr, arith}
use Rattle.std.specs.Prelude.{Contains}
use Rattle.px_terms.specs.declared.atom.Atom.{Atom}
use Rattle.px_terms.specs.declared.instance.OpInst.{OpInst}
use Rattle.px_terms.specs.declared.problem.Schema.{Schema}
use Rattle.px_terms.specs.Operators.{adds, atoms_of}
use Rattle.px_entries.proofs.Covering.{covers_less, covers_part}
use Rattle.px_base.proofs.Loops.{level_or_below}
use Rattle.px_terms.specs.SchemaLaws.{adds_here, schema_at, schema_number}
use Rattle.px_entries.proofs.matching.match_atom.Goals as goal

pub match_schema-requires-clause-schema : goal.match_schema-requires-clause-schema
match_schema-requires-clause-schema c =
    let schema = c.schema-item.result in
    schema_at c.args.problem.now c.loop-schema.schema-index schema c.requires
    (omega (arith, c.loop-schema-test.true, ap length c.as_slice-schemas.ensures))
    (c.schema-item.is ∙ ap (λ (l : List Schema). get_or l c.loop-schema.schema-index schema) c.as_slice-schemas.ensures)

pub loop-schema-preserved : goal.loop-schema-preserved
loop-schema-preserved c =
    let problem = c.args.problem.now in
    let wanted = c.args.wanted.now in
    let i = c.loop-schema.schema-index in
    let schema = c.schema-item.result in
    let below : i < length problem.schemas = omega (arith, c.loop-schema-test.true, ap length c.as_slice-schemas.ensures) in
    let here_is = c.schema-item.is ∙ ap (λ (l : List Schema). get_or l i schema) c.as_slice-schemas.ensures in
    let number = schema_number problem i schema c.requires below here_is in
    covers_part problem (λ (full : OpInst). (full.op < i) × Contains (adds problem full) wanted)
    (λ (full : OpInst). (full.op ≡ schema.op) × Contains (atoms_of schema.add full) wanted)
    (λ (full : OpInst). (full.op < i + 1) × Contains (adds problem full) wanted)
    c.args.found.now.items c.loop-schema.found.items c.match_schema.new.found.items
    (λ full is w. elim (level_or_below full.op i w.0) [
      | inl before ↦ inl (before, w.1)
      | inr level ↦ inr (
        level ∙ sym number,
        subst (λ (l : List Atom). Contains l wanted)
            (adds_here problem schema full (schema_at problem i schema c.requires below here_is) (number ∙ sym level)) w.1,
      )
    ])
    (λ full w. elim w [
      | inl before ↦ (omega (arith, before.0), before.1)
      | inr here ↦ (
        omega (arith, here.0, number),
        subst (λ (l : List Atom). Contains l wanted)
            (sym (adds_here problem schema full (schema_at problem i schema c.requires below here_is) (sym here.0))) here.1,
      )
    ])
    c.loop-schema.invariant c.in_ok-match_schema.ensures

pub returns : goal.returns
returns c =
    covers_less c.args.problem.now (λ (full : OpInst). (full.op < c.loop-schema.schema-index)
    × Contains (adds c.args.problem.now full) c.args.wanted.now)
    (λ (full : OpInst). Contains (adds c.args.problem.now full) c.args.wanted.now)
    c.args.found.now.items c.loop-schema.found.items
    (λ full is w. (omega (arith, is.op, c.loop-schema-test.false, ap length c.as_slice-schemas.ensures), w))
    (λ full v. v.1) c.loop-schema.invariant
