use Rattle.std.proofs.Common.{◌∙◌, ◌++◌, List, ap, subst, replicate}
use Rattle.px_base.proofs.Loops.{ok_map}
use Rattle.px_terms.specs.declared.atom.Atom.{Atom}
use Rattle.px_terms.specs.declared.instance.OpInst.{OpInst}
use Rattle.px_unify.specs.declared.change.Change.{Change}
use Rattle.px_unify.specs.declared.change.Change.TheVariants.{Fresh}
use Rattle.px_proof.specs.declared.proof.Proof.{Proof}
use Rattle.px_table.specs.Tables.{rows_of}
use Rattle.px_replay.specs.Opened.{rows_pairs}
use Rattle.px_replay.specs.Replaying.{IsReplayOf}
use Rattle.px_general.specs.Naming.{IsResolved, IsSolutionOf}
use Rattle.px_general.proofs.GeneralSteps.{solved-by}
use Rattle.px_general.proofs.generalising.replayed.Goals as goal

pub returns : goal.returns
returns c =
    let problem = c.args.problem.now in
    let plan = c.args.plan.now in
    let now = c.replay_rows.new.bind in
    let pairs = rows_pairs problem plan.steps.items plan.goal.items (rows_of plan.rows.items) in
    let with_steps =
    subst (λ (s : List OpInst). IsReplayOf c.fresh.new.self now
    (rows_pairs problem s c.deref-2.result.now (rows_of c.deref-3.result.now))) c.deref.ensures.value c.in_ok-replay_rows.ensures in
    let with_goal =
    subst (λ (g : List Atom). IsReplayOf c.fresh.new.self now (rows_pairs problem plan.steps.items g (rows_of c.deref-3.result.now)))
    c.deref-2.ensures.value with_steps in
    let with_rows =
    subst (λ (r : List (List Proof)). IsReplayOf c.fresh.new.self now (rows_pairs problem plan.steps.items plan.goal.items (rows_of r)))
    c.deref-3.ensures.value with_goal in
    let replay =
    subst (λ (old : List Change). IsReplayOf old now pairs)
    (c.in-Ok.ensures.ok ∙ ap (λ (b : List Change). b ++ replicate c.args.count Fresh) c.new-bind.ensures) with_rows in
    ok_map (λ resolved. IsResolved now resolved.items) (λ resolved. IsSolutionOf pairs c.args.count resolved.items)
    (λ resolved are. solved-by c.args.count now pairs resolved.items replay are) c.resolve_all.result c.resolve_all.ensures
