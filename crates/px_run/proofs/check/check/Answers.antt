use Rattle.std.proofs.Common.{refl}
use Rattle.px_run.proofs.CheckLemmas.{check-refused}
use Rattle.px_run.proofs.check.check.Goals as goal

pub returns-in-Err-BadCert-clause-right : goal.returns-in-Err-BadCert-clause-right
returns-in-Err-BadCert-clause-right g c =
    let first = c.in-Err-BadCert.ensures.refused _ c.in-Err-BadCert.field-0-is in
    let bad = rw c.deref.ensures.value at first in
    check-refused _ _ c.in-Ok.bytes.items _ c.refuse.result c.in-Ok.ensures.came (bad, refl, refl) c.refuse.ensures.right
