use Rattle.px_effects.proofs.Common.{ap, ◌∙◌, ◌++◌, ◌∷◌, []}
use Rattle.std.proofs.lemmas.Result.{on_ok_weaker}
use Rattle.px_script.specs.Declarations.{table_made}
use Rattle.px_so_far.specs.SoFarViews.{table_view}
use Rattle.px_effects.proofs.tables.close_table.Goals as goal

pub returns-clause-saved : goal.returns-clause-saved
returns-clause-saved c = on_ok_weaker c.push.result (λ last. last
    ∙ ap (λ made. c.args.so_far.now.saved.items ++ (c.args.table.name, made) ∷ [])
    (c.in_ok-made.ensures ∙ ap (λ problem. table_made problem (table_view c.args.table)) c.in_ok-problem.ensures)) c.push.ensures.ok
