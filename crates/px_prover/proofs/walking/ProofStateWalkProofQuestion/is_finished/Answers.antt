use Rattle.std.proofs.Common.{◌≡◌, ℕ, arith, sym, ◌∙◌, true}
use Rattle.std.specs.Prelude.{nat_eq}
use Rattle.px_prover.specs.Asking.{setting_in}
use Rattle.px_prover.proofs.Moves.{finished-is}
use Rattle.px_prover.proofs.walking.ProofStateWalkProofQuestion.is_finished.Goals as goal

zero-from : (n : ℕ) → nat_eq n 0 ≡ true → n ≡ 0
zero-from n e = grind (arith, e)

zero-to : (n : ℕ) → n ≡ 0 → nat_eq n 0 ≡ true
zero-to n e = grind (arith, e)

pub returns : goal.returns
returns c =
    let both =
    finished-is c.args._question.now.loose (setting_in c.args._question.now) c.args._question.now.formula.now c.args._question.now.variable_count
    c.args.self.now c.requires.stands in (
      λ is. both.0 (sym c.first.ensures ∙ zero-from c.first.result is),
      λ finished. zero-to c.first.result (c.first.ensures ∙ both.1 finished),
    )
