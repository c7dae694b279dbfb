use Rattle.px_lines.proofs.Common.{chars}
use Rattle.px_lines.proofs.Scans.{scans-token, scans-ignored, scans-none, scans-bad}
use Rattle.px_lines.proofs.Texts.{skipped}
use Rattle.px_lines.proofs.token.first_token.Goals as goal

pub returns-clause-token : goal.returns-clause-token
returns-clause-token c = scans-token (chars c.args.text.now) c.token_at.result
    (rw (skipped _ c.args.text.now c.skip_while.result.now c.utf8.text c.skip_while.utf8 c.skip_while.ensures) at c.token_at.ensures)

pub returns-clause-ignored : goal.returns-clause-ignored
returns-clause-ignored c = scans-ignored (chars c.args.text.now) c.token_at.result
    (rw (skipped _ c.args.text.now c.skip_while.result.now c.utf8.text c.skip_while.utf8 c.skip_while.ensures) at c.token_at.ensures)

pub returns-clause-no_token : goal.returns-clause-no_token
returns-clause-no_token c = scans-none (chars c.args.text.now) c.token_at.result
    (rw (skipped _ c.args.text.now c.skip_while.result.now c.utf8.text c.skip_while.utf8 c.skip_while.ensures) at c.token_at.ensures)

pub returns-clause-not_lexed : goal.returns-clause-not_lexed
returns-clause-not_lexed c = scans-bad (chars c.args.text.now) c.token_at.result
    (rw (skipped _ c.args.text.now c.skip_while.result.now c.utf8.text c.skip_while.utf8 c.skip_while.ensures) at c.token_at.ensures)
