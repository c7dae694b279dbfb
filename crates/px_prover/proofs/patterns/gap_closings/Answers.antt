use Rattle.px_prover.proofs.Keeping.{ok-weaker}
use Rattle.px_prover.proofs.PatternDeciding.{closings-kept}
use Rattle.px_prover.specs.Patterns.{AreGapClosings, AreKeptPatterns}
use Rattle.px_question.specs.Settings.{setting_of}
use Rattle.px_prover.proofs.patterns.gap_closings.Goals as goal

pub returns-clause-closings : goal.returns-clause-closings
returns-clause-closings c =
    let s = setting_of c.args.problem.now c.args.model.now.atoms in
    ok-weaker c.kept_patterns.result
    (λ kept. AreKeptPatterns 0 s c.args.formula.now c.args.variable_count kept.items)
    (λ kept. AreGapClosings s c.args.formula.now c.args.variable_count kept.items)
    (λ kept are. closings-kept s c.args.formula.now c.args.variable_count kept.items are) c.kept_patterns.ensures.patterns
