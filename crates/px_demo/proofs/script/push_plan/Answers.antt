use Rattle.std.proofs.Common.{◌≡◌, ◌++◌, ℕ, List, rules, subst, sym}
use Rattle.std.specs.Prelude.{OnOk, string_bytes}
use Rattle.px_demo.proofs.Texts.{plan-text}
use Rattle.px_demo.proofs.script.push_plan.Goals as goal

pub returns : goal.returns
returns c = subst (λ (t : List ℕ). OnOk c.write.result (string_bytes c.write.new.self ≡ string_bytes c.args.text.now ++ t))
    (sym (plan-text c.args.errand c.args.room)) (search rules)
