use Rattle.std.proofs.Common.{◌≡◌, true, ap, ap₂, codes, rules, ◌∙◌}
use Rattle.std.proofs.lemmas.Result.{IfOk-weaker}
use Rattle.clap.specs.Simple.{app_of, app_of_fields, new_app, new_rule, on_top, with_rule}
use Rattle.clap.specs.Walk.{rule_of}
use Rattle.px_words.specs.Reading.{word_rule}
use Rattle.px_words.proofs.reading.command.Goals as goal

pub returns : goal.returns
returns c =
    let word_is : rule_of c.required-word.result ≡ word_rule = search rules in
    let rooms_is : rule_of c.new-rooms.result ≡ new_rule (codes "ROOMS") = search rules in
    let seed_is : rule_of c.new-seed.result ≡ new_rule (codes "SEED") = search rules in
    let bare_is : app_of c.no_binary_name.result ≡ on_top (λ top. record top { no_binary_name = true }) (new_app (codes "planex")) =
    ap app_of_fields c.no_binary_name.ensures ∙ ap (on_top (λ top. record top { no_binary_name = true })) c.new-2.ensures.app in
    let one_is = c.in_ok-command.ensures.shape (search rules) ∙ ap₂ with_rule bare_is word_is in
    let two_is = c.in_ok-wider.ensures.shape (search rules) ∙ ap₂ with_rule one_is rooms_is in
    IfOk-weaker c.arg-3.result _ _ (λ made h. h.shape (search rules) ∙ ap₂ with_rule two_is seed_is) c.arg-3.ensures
