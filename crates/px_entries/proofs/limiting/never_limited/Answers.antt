use Rattle.std.specs.Prelude.{All, IfOk, IsTrue, Result, Ok, Err}
use Rattle.px_entries.specs.Few.{RowsHaveFew}
use Rattle.px_entries.specs.Unlimited.{IsNeverLimited}
use Rattle.px_entries.proofs.FewLaws.{never-limited}
use Rattle.px_entries.proofs.limiting.never_limited.Goals as goal

if_ok : {A E : Type 0} (P Q : A → Type 0) (r : Result A E) → ((a : A) → P a → Q a) → IfOk r P → IfOk r Q
if_ok P Q (Ok a) f p = f a p
if_ok P Q (Err e) f p = p

pub returns : goal.returns
returns c =
    let problem = c.args.problem.now in
    let tables = c.args.tables.now in
    if_ok (λ few. IsTrue few → All (RowsHaveFew problem) tables)
    (λ never. IsTrue never → IsNeverLimited problem tables) c.tables_have_few.result
    (λ never told is. never-limited problem (c.adds_have_few.ensures c.if-not-adds_have_few.false)
    (c.preconditions_have_few.ensures c.if-not-preconditions_have_few.false) tables (told is)) c.tables_have_few.ensures
