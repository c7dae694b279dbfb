use Rattle.std.proofs.Common.{[], refl}
use Rattle.px_pursue.proofs.seeking.seek.Goals as goal

pub search-requires-clause-problem : goal.search-requires-clause-problem
search-requires-clause-problem c = (c.requires.aim.searchable []).valid

pub search-requires-clause-goal : goal.search-requires-clause-goal
search-requires-clause-goal c = (c.requires.aim.searchable []).goal

pub search-requires-clause-tables : goal.search-requires-clause-tables
search-requires-clause-tables c = (c.requires.aim.searchable []).learned

pub build-requires-clause-problem : goal.build-requires-clause-problem
build-requires-clause-problem c = (c.requires.aim.searchable []).valid

pub build-requires-clause-goal : goal.build-requires-clause-goal
build-requires-clause-goal c = (c.requires.aim.searchable []).goal

pub returns-in-Err-NodeLimit : goal.returns-in-Err-NodeLimit
returns-in-Err-NodeLimit c =
    let told = rw c.in-Err-NodeLimit.field-0-is at c.in-Err-NodeLimit.ensures.node_limit in
    told c.in-Err-NodeLimit.nodes c.in-Err-NodeLimit.moves refl

pub returns-in-Err-Exhausted : goal.returns-in-Err-Exhausted
returns-in-Err-Exhausted c =
    let told = rw c.in-Err-Exhausted.field-0-is at c.in-Err-Exhausted.ensures.exhausted in told refl
