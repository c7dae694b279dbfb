use Rattle.std.proofs.Common.{◌≡◌, ℕ, suc, ◌-◌, ◌<◌, ◌≤◌, length, map, take, drop, get_or, sym, ap, ◌∙◌, arith, add-one, length-drop, Some, None, eq-eqb}
use Rattle.std.specs.Prelude.{List}
use Rattle.std.proofs.lemmas.List.{drop-drop, drop_all, get_or-map, length-map, take_all}
use borrow.Author.Tests.{eqb-true}
use Rattle.px_proof.specs.declared.proof.Proof.{Proof}
use Rattle.px_proof.specs.ProofTerm.{derivation_of}
use Rattle.px_table.specs.declared.mark.Mark.{Mark}
use Rattle.px_table.specs.Marks.{marks_from, row_marks}
use Rattle.px_table.specs.Once.{IsPrefix}
use Rattle.px_table.specs.Tables.{rows_of}
use Rattle.px_table.proofs.Prefixes.{rows-next, rows-fail}
use Rattle.px_table.proofs.mark_list.marks_are_leaves.Goals as goal

-- the rest of a list up to its end
to_end : (xs : List Mark) (at : ℕ) → take (length xs - at) (drop at xs) ≡ drop at xs
to_end xs at = take_all (length xs - at) (drop at xs) (omega (arith, length-drop at xs))

row_at : (proofs : List (List Proof)) (k : ℕ) (row : List Proof) → row ≡ get_or proofs k row → k < length proofs
    → get_or (rows_of proofs) k (map derivation_of row) ≡ map derivation_of row
row_at proofs k row is below = get_or-map (map derivation_of) proofs k row (map derivation_of row) below ∙ ap (map derivation_of) (sym is)

pub returns-in-None : goal.returns-in-None
returns-in-None c =
    let marks = c.as_slice-marks.result.now in
    let is : c.row-item.result ≡ get_or c.args.table.now.proofs c.loop-k.k c.row-item.result =
    rw c.as_slice-row-items.ensures at c.row-item.is in
    let below : c.loop-k.k < length c.args.table.now.proofs = rw c.as_slice-row-items.ensures at c.loop-k-test.true in
    let below' : c.loop-k.k < length (rows_of c.args.table.now.proofs) =
    omega (arith, below, length-map c.args.table.now.proofs (map derivation_of)) in
    let prefix : IsPrefix (drop c.loop-k.at marks) (row_marks (suc c.loop-k.k) (map derivation_of c.row-item.result)) None =
    rw (to_end marks c.loop-k.at, c.proofs.ensures, add-one c.loop-k.k) at c.in-None.ensures in (
      λ yes. cc,
      λ whole.
          absurd (rows-fail marks (rows_of c.args.table.now.proofs) c.loop-k.k c.loop-k.at (map derivation_of c.row-item.result) below'
          (row_at c.args.table.now.proofs c.loop-k.k c.row-item.result is below) prefix
          (c.loop-k.invariant.rest.1 (c.as_slice-marks.ensures ∙ whole))),
    )

pub loop-k-preserved : goal.loop-k-preserved
loop-k-preserved c =
    let marks = c.as_slice-marks.result.now in
    let is : c.row-item.result ≡ get_or c.args.table.now.proofs c.loop-k.k c.row-item.result =
    rw c.as_slice-row-items.ensures at c.row-item.is in
    let below : c.loop-k.k < length c.args.table.now.proofs = rw c.as_slice-row-items.ensures at c.loop-k-test.true in
    let below' : c.loop-k.k < length (rows_of c.args.table.now.proofs) =
    omega (arith, below, length-map c.args.table.now.proofs (map derivation_of)) in
    let prefix : IsPrefix (drop c.loop-k.at marks) (row_marks (suc c.loop-k.k) (map derivation_of c.row-item.result)) (Some c.in-Some.count) =
    rw (to_end marks c.loop-k.at, c.proofs.ensures, add-one c.loop-k.k) at c.in-Some.ensures in
    let next =
    rows-next marks (rows_of c.args.table.now.proofs) c.loop-k.k c.loop-k.at (map derivation_of c.row-item.result) below'
    (row_at c.args.table.now.proofs c.loop-k.k c.row-item.result is below) c.in-Some.count prefix in
    record {
      within = omega (arith, length-drop c.loop-k.at marks, c.loop-k.invariant.within, prefix.0);
      rest =
          rw (add-one c.loop-k.k, ← drop-drop c.in-Some.count c.loop-k.at marks)
          (λ h. c.loop-k.invariant.rest.0 (next.0 h), λ whole. next.1 (c.loop-k.invariant.rest.1 whole));
    }

pub returns : goal.returns
returns c =
    let marks = c.as_slice-marks.result.now in
    let end : length (rows_of c.args.table.now.proofs) ≤ c.loop-k.k =
    omega (arith, length-map c.args.table.now.proofs (map derivation_of), ap length c.as_slice-row-items.ensures, c.loop-k-test.false)
    in
    let nothing = ap (marks_from (suc c.loop-k.k)) (drop_all c.loop-k.k (rows_of c.args.table.now.proofs) end) in (
      λ yes. sym c.as_slice-marks.ensures
          ∙ c.loop-k.invariant.rest.0 (drop_all c.loop-k.at marks (let e = eqb-true c.loop-k.at (length marks) yes in omega (arith, e))
          ∙ sym nothing),
      λ whole.
          let left = ap length (c.loop-k.invariant.rest.1 (c.as_slice-marks.ensures ∙ whole) ∙ nothing) in
          eq-eqb c.loop-k.at (length marks) (omega (arith, left, length-drop c.loop-k.at marks, c.loop-k.invariant.within)),
    )
