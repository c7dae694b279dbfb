use Rattle.px_lines.proofs.Scans.{end-there, no-end}
use Rattle.px_lines.proofs.token.ends.Goals as goal

pub returns-in-Ok-None : goal.returns-in-Ok-None
returns-in-Ok-None c = end-there c.args.text.now (rw c.in-Ok-None.field-0-is at c.in-Ok-None.ensures.ignored)

pub returns-in_default : goal.returns-in_default
returns-in_default c = no-end c.args.text.now c.first_token.result c.first_token.ensures.token c.first_token.ensures.no_token
    c.first_token.ensures.not_lexed (λ e. let is = c.in_default.is in cc)

pub returns-in_default-2 : goal.returns-in_default-2
returns-in_default-2 c = no-end c.args.text.now c.first_token.result c.first_token.ensures.token c.first_token.ensures.no_token
    c.first_token.ensures.not_lexed (λ e. let is = c.in_default.is in cc)
