use Rattle.std.proofs.Common.{◌≡◌, slice_get, Some, length, map, ap, ◌∙◌, arith}
use Rattle.std.proofs.lemmas.List.{length-map}
use Rattle.std.proofs.lemmas.Slice.Zip.{AllZip-long}
use Rattle.px_terms.specs.declared.problem.Schema.{Schema}
use Rattle.px_terms.specs.Operators.{precondition, schema_of}
use Rattle.px_terms.specs.Substitution.{substitute_atom}
use Rattle.px_proof.specs.ProofTerm.{derivation_of}
use Rattle.px_proof.specs.Proves.{IsObjectOrParameter}
use Rattle.px_table.specs.Supports.{IsProofOf}
use Rattle.px_table.proofs.RowSteps.{row_step}
use Rattle.px_table.proofs.validation.row_proves.Goals as goal

pub returns-then-row-len : goal.returns-then-row-len
returns-then-row-len c = (
  λ yes. cc,
  λ each.
      let same =
      AllZip-long (IsProofOf (IsObjectOrParameter c.args.problem.now.objects c.args.params) c.args.problem.now.axioms)
      (precondition c.args.problem.now c.args.inst.now) (map derivation_of c.args.row.now) each in
      let long : c.len.result ≡ length (schema_of c.args.problem.now c.args.inst.now).pre =
      c.len.ensures ∙ ap (λ (s : Schema). length s.pre) c.schema_of-schema.ensures.schema in
      absurd (c.if-row-len.true
      (omega (
        arith,
        same,
        long,
        length-map c.args.row.now derivation_of,
        length-map (schema_of c.args.problem.now c.args.inst.now).pre (substitute_atom c.args.inst.now.args),
      ))),
)

pub returns-then-not-is_tree : goal.returns-then-not-is_tree
returns-then-not-is_tree c =
    let at : slice_get (precondition c.args.problem.now c.args.inst.now) c.loop-k.k ≡ Some c.pre.result =
    rw c.schema_of-schema.ensures.schema at c.pre.ensures in
    let split =
    row_step (IsObjectOrParameter c.args.problem.now.objects c.args.params) c.args.problem.now.axioms
    (precondition c.args.problem.now c.args.inst.now) c.args.row.now c.loop-k.k c.pre.result c.index-row-k.result at c.index-row-k.is
    c.loop-k-test.true in
    let exact = rw c.positive-wanted.ensures at c.is_tree.ensures.exact in (
      λ yes. cc,
      λ each.
          let here = (split.0 (c.loop-k.invariant.1 each)).0 in
          let yes = exact.1 (record { proves = here.proves; terms = here.terms }) in let no_tree = c.if-not-is_tree.true in cc,
    )

pub loop-k-preserved : goal.loop-k-preserved
loop-k-preserved c =
    let at : slice_get (precondition c.args.problem.now c.args.inst.now) c.loop-k.k ≡ Some c.pre.result =
    rw c.schema_of-schema.ensures.schema at c.pre.ensures in
    let split =
    row_step (IsObjectOrParameter c.args.problem.now.objects c.args.params) c.args.problem.now.axioms
    (precondition c.args.problem.now c.args.inst.now) c.args.row.now c.loop-k.k c.pre.result c.index-row-k.result at c.index-row-k.is
    c.loop-k-test.true in
    let exact = rw c.positive-wanted.ensures at c.is_tree.ensures.exact in
    let tree = exact.0 c.if-not-is_tree.false in (
      λ rest. c.loop-k.invariant.0 (split.1 (record { proves = tree.proves; terms = tree.terms }, rest)),
      λ each. (split.0 (c.loop-k.invariant.1 each)).1,
    )
