use Rattle.std.proofs.Common.{◌-◌, ◌∷◌, ◌++◌, [], List, map, ap, sym, ◌∙◌}
use Rattle.std.specs.Prelude.{slice_index, slice_index_or}
use Rattle.std.proofs.lemmas.List.{map-append}
use Rattle.px_proof.specs.Derivation.{Derivation}
use Rattle.px_proof.specs.ProofTerm.{derivation_of}
use Rattle.px_table.specs.Tables.{rows_of}
use Rattle.px_edit.specs.Editing.{in_columns, kept_of, new_number}
use Rattle.px_edit.proofs.PartSteps.{made-at, map_twice, mapped_all, row-at}
use Rattle.px_edit.proofs.parts.kept_rows.Goals as goal

pub loop-place-preserved : goal.loop-place-preserved
loop-place-preserved c =
    let number = new_number c.args.kept.now in
    made-at (map derivation_of) (λ k. map (in_columns number) (slice_index_or (rows_of c.args.table.now.proofs) (k - 1) [])) c.args.kept.now
    c.loop-place.place 0 c.loop-place.made.items _ c.in_ok-row.row c.loop-place-test.true c.loop-place.invariant c.in_ok-push.ensures.items
    (c.in_ok-row.ensures
    ∙ ap (map (in_columns number)) (sym (row-at c.args.table.now.proofs (slice_index c.args.kept.now c.loop-place.place - 1))))

pub returns : goal.returns
returns c = λ problem is.
    let number = new_number c.args.kept.now in
    let rows = c.loop-place.made.items in
    let prefix =
    mapped_all (λ k. map (in_columns number) (slice_index_or (rows_of c.args.table.now.proofs) (k - 1) [])) c.args.kept.now
    c.loop-place.place (rows_of rows) c.loop-place-test.false c.loop-place.invariant
    ∙ map_twice (map (in_columns number)) (λ k. slice_index_or (rows_of c.args.table.now.proofs) (k - 1) []) c.args.kept.now in
    ap rows_of c.in_ok-push-2.ensures.items ∙ map-append (map derivation_of) rows (c.from_proofs-last.result ∷ [])
    ∙ ap (λ (l : List (List Derivation)). l ++ map derivation_of c.from_proofs-last.result ∷ []) prefix
    ∙ ap (λ (r : List Derivation). map (map (in_columns number)) (kept_of [] c.args.kept.now (rows_of c.args.table.now.proofs)) ++ r ∷ [])
    (ap (map derivation_of) c.from_proofs-last.ensures ∙ c.in_ok-facts.ensures problem c.args.table.now is)
