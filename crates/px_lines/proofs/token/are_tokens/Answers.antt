use Rattle.px_lines.proofs.Common.{◌∙◌, sym}
use Rattle.px_lines.proofs.Scans.{scan-found, scan-ignored, scan-bad, whole-lexed, not-lexed, found-fewer}
use Rattle.px_lines.specs.Tokens.{lexemes_in}
use Rattle.px_lines.proofs.token.are_tokens.Goals as goal

pub loop-after-smaller : goal.loop-after-smaller
loop-after-smaller c =
    let begins = rw c.in-Ok-Some.field-0-is at c.in-Ok-Some.ensures.token in
    found-fewer c.loop-after.rest.now c.in-Ok-Some.after.now _ (scan-found c.loop-after.rest.now c.in-Ok-Some.after.now _ begins).0

pub loop-after-preserved : goal.loop-after-preserved
loop-after-preserved c =
    let begins = rw c.in-Ok-Some.field-0-is at c.in-Ok-Some.ensures.token in (
      rw c.in-Ok-Some.field-0-is at c.in-Ok-Some.ensures.rest,
      (scan-found c.loop-after.rest.now c.in-Ok-Some.after.now _ begins).1 ∙ c.loop-after.invariant.1,
    )

pub returns-in-Ok-None : goal.returns-in-Ok-None
returns-in-Ok-None c = (
  lexemes_in c.args.text.now,
  whole-lexed c.args.text.now (sym c.loop-after.invariant.1
      ∙ (scan-ignored c.loop-after.rest.now (rw c.in-Ok-None.field-0-is at c.in-Ok-None.ensures.ignored)).1),
)

pub returns-in-Err : goal.returns-in-Err
returns-in-Err c = not-lexed c.args.text.now (sym c.loop-after.invariant.1 ∙ (scan-bad c.loop-after.rest.now c.in-Err.ensures.no_token c.in-Err.ensures.not_lexed).1)
