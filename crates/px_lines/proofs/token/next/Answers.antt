use Rattle.px_lines.proofs.Scans.{next-there, scan-bad}
use Rattle.px_lines.proofs.token.next.Goals as goal

pub returns-in-Ok : goal.returns-in-Ok
returns-in-Ok c = next-there c.args.text.now c.in-Ok.found c.in-Ok.ensures.token c.in-Ok.ensures.rest c.in-Ok.ensures.ignored

pub returns-in-Err : goal.returns-in-Err
returns-in-Err c = (scan-bad c.args.text.now c.in-Err.ensures.no_token c.in-Err.ensures.not_lexed).0
