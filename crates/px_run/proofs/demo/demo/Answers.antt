use Rattle.std.proofs.Common.{◌∙◌, ℕ, List, subst}
use Rattle.px_script.specs.ReadScripts.{content}
use Rattle.px_script.specs.Scripts.{IsScript}
use Rattle.px_script.specs.Stages.{stage_now}
use Rattle.px_run.specs.Transcripts.{IsScriptRefused}
use Rattle.px_run.proofs.DemoLemmas.{demo-not-refused, demo-summed}
use Rattle.px_run.proofs.demo.demo.Goals as goal

pub returns-in-Ok-read_script-clause-right : goal.returns-in-Ok-read_script-clause-right
returns-in-Ok-read_script-clause-right g c =
    let bytes_are = c.deref.ensures.value ∙ c.in-Ok.ensures.script in
    let is = subst (λ (bytes : List ℕ). IsScript stage_now bytes
    (content c.in-Ok-read_script.script)) bytes_are c.in-Ok-read_script.ensures.script in
    demo-summed c.args.rooms c.args.seed _ (content c.in-Ok-read_script.script) c.sum_up.result is c.sum_up.ensures.right

pub unreachable-requires : goal.unreachable-requires
unreachable-requires g c =
    let bytes_are = c.deref.ensures.value ∙ c.in-Ok.ensures.script in
    let first = rw c.in-Err-Refused.field-0-is at c.in-Err-Refused.ensures.refused in
    let fault = subst (λ (bytes : List ℕ). IsScriptRefused bytes c.in-Err-Refused.field-0-0) bytes_are first in
    demo-not-refused c.args.rooms c.args.seed c.in-Err-Refused.field-0-0 c.requires.rooms.0 c.requires.rooms.1 fault
