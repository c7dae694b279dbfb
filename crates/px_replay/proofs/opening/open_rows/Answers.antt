use Rattle.std.proofs.Common.{ℕ, ◌∙◌, ◌+◌, ◌++◌, ◌∷◌, [], List, ap, sym, map, take, sum_by, arith}
use Rattle.std.proofs.lemmas.List.{map-append}
use Rattle.std.proofs.lemmas.List.Sums.{sum_by_more}
use Rattle.px_proof.specs.declared.proof.Proof.{Proof}
use Rattle.px_proof.specs.Derivation.{Derivation}
use Rattle.px_proof.specs.ProofTerm.{derivation_of}
use Rattle.px_table.specs.Tables.{rows_of}
use Rattle.px_replay.specs.FreshOf.{fresh_of_proof, row_fresh}
use Rattle.px_replay.specs.Opened.{add_at, opened_row, opened_rows}
use Rattle.px_replay.proofs.OpenSteps.{opened_rows-more}
use Rattle.px_replay.proofs.opening.open_rows.Goals as goal

pub loop-row-preserved : goal.loop-row-preserved
loop-row-preserved c =
    let named = add_at c.args.problem.now c.args.steps.now in
    let before = opened_rows named c.args.next.now (rows_of (take c.loop-row.row-index c.args.rows.now)) in
    let sum : ℕ = sum_by row_fresh (take c.loop-row.row-index c.args.rows.now) in
    record {
      made =
          ap rows_of c.in_ok-push.ensures.ok ∙ map-append (map derivation_of) c.loop-row.made.items (c.from_proofs.result ∷ [])
          ∙ ap (λ (l : List (List Derivation)). l ++ map derivation_of c.from_proofs.result ∷ []) c.loop-row.invariant.made
          ∙ ap (λ (row : List Derivation). before ++ row ∷ []) (ap (map derivation_of) c.from_proofs.ensures ∙ c.in_ok-proofs.ensures.proofs
          ∙ ap (λ (n : ℕ). opened_row named n (map derivation_of c.proofs.result.now)) c.loop-row.invariant.next
          ∙ ap (λ (ps : List Proof). opened_row named (c.args.next.now + sum) (map derivation_of ps)) (c.proofs.ensures ∙ c.row-item.is))
          ∙ sym (opened_rows-more named c.args.next.now c.loop-row.row-index c.args.rows.now c.row-item.result c.loop-row-test.true);
      next = omega (
        arith,
        c.in_ok-proofs.ensures.next,
        c.loop-row.invariant.next,
        sum_by_more row_fresh c.args.rows.now c.loop-row.row-index c.row-item.result c.loop-row-test.true,
        ap (sum_by fresh_of_proof) c.proofs.ensures,
        ap row_fresh c.row-item.is,
      );
    }
