use Rattle.std.specs.Prelude.{◌≡◌}
use Rattle.std.proofs.Common.{rules, refl}
use Rattle.px_match.proofs.Proper.{proper_same}
use Rattle.px_match.proofs.known.is_proper.Goals as goal

pub returns-then-eq : goal.returns-then-eq
returns-then-eq c =
    let question = c.args.question.now in
    let same : question.known.now ≡ c.args.work.now = search (rules, c.eq.ensures, c.if-eq.true) in (
      λ _. proper_same question.problem.now question.table.now question.known.now c.args.work.now question.proper_from question.number same
          c.if-question.true c.requires.asked.known,
      λ _. refl,
    )
