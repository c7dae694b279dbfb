use Rattle.std.specs.Prelude.{◌≡◌, ◌<◌, ◌≤◌, ◌-◌, ℕ, List, All, Contains, length}
use Rattle.std.proofs.Common.{rules, sym, ap, subst, get_or, arith}
use Rattle.px_table.specs.declared.mark.Mark.{Mark}
use Rattle.px_table.specs.Kernels.{atom_under, kernel_under}
use Rattle.px_match.proofs.Down.{passed_mark}
use Rattle.px_match.proofs.Renewed.{listed}
use Rattle.px_match.proofs.highest.pass_over.Goals as goal
use Rattle.px_match.proofs.highest.pass_over.Goals.{then-mark-next+then-next-mark+then-is_empty, else-mark-next}

pub loop-passed-preserved : goal.loop-passed-preserved
loop-passed-preserved c =
    let table = c.args.table.now in
    let atoms = c.args.model.now.atoms in
    let mark = c.index-marks-at.result in
    let at : ℕ = length c.as_slice-marks.result.now - 1 - c.loop-passed.passed in
    let is : mark ≡ get_or table.marks at mark =
    subst (λ (l : List Mark). mark ≡ get_or l at mark) c.as_slice-marks.ensures c.index-marks-at.is in
    let below : at < length table.marks = omega (arith, c.loop-passed-test.true, ap length c.as_slice-marks.ensures) in
    let Left : ℕ → Type 0 =
    λ n. (n ≤ c.args.number) × ((i : ℕ) (objects : List ℕ) → n < i → i ≤ c.args.number
    → ¬ All (Contains atoms) (kernel_under table objects i)) in
    elim c.if-mark-next.branch [
      | then-mark-next+then-next-mark+then-is_empty w ↦
          let none : length w.atoms.result.now ≡ 0 = search (rules, w.is_empty.ensures, w.if-is_empty.true) in
          let gone : (tau : List ℕ) → ¬ Contains atoms (atom_under tau mark.atom) = λ tau has.
          let there =
          listed table.marks atoms c.args.lists.now at mark w.index-lists-at.result w.atoms.result.now tau c.requires.lists below is
          w.index-lists-at.is
          w.atoms.ensures.value has in
          absurd (omega (arith, there.1, none)) in
          subst Left (sym w.next-is) (
            omega (arith, w.if-mark-next.true, c.loop-passed.invariant.0),
            passed_mark table atoms c.args.number c.loop-passed.next mark
                (at, below, sym is) w.if-next-mark.true gone c.loop-passed.invariant.1,
          )
      | else-mark-next w ↦ subst Left (sym w.next-is) c.loop-passed.invariant
    ]
