use Rattle.std.proofs.Common.{◌≡◌, [], arith}
use Rattle.std.proofs.lemmas.Str.{chars_past_char, chars-nil}
use Rattle.std.proofs.lemmas.Grind.{common_steps}
use Rattle.px_names.proofs.name.split_first.Goals as goal

pub returns-in-Some-clause-characters : goal.returns-in-Some-clause-characters
returns-in-Some-clause-characters c = chars_past_char _ _ _ c.utf8.text (grind (arith, common_steps))

pub returns-in-None-clause-characters : goal.returns-in-None-clause-characters
returns-in-None-clause-characters c = let e : c.args.text.now ≡ [] = grind (arith, common_steps) in rw e chars-nil
