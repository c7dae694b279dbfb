use Rattle.std.proofs.Common.{◌≡◌, false, length, sym, subst}
use Rattle.std.specs.Prelude.{All}
use Rattle.px_question.specs.Answers.{object_terms}
use Rattle.px_table.specs.Kernels.{instance_under}
use Rattle.px_terms.specs.Operators.{deletes}
use Rattle.px_terms.specs.Substitution.{substitute_atom}
use Rattle.px_terms.specs.declared.atom.Atom.{Atom}
use Rattle.px_terms.specs.declared.instance.OpInst.{OpInst}
use Rattle.px_entries.specs.Parameters.{IsLeftAdd}
use Rattle.px_base.proofs.Loops.{on_ok}
use Rattle.px_entries.proofs.MatchLemmas.{matches_less, matches_none}
use Rattle.px_entries.proofs.macro_matching.match_add.Goals as goal

pub returns-then-one_always_deletes : goal.returns-then-one_always_deletes
returns-then-one_always_deletes c =
    matches_none c.args.problem.now.objects (length c.args.start.now) c.args.start.now
    (λ sigma. IsLeftAdd c.args.problem.now c.args.later.now c.args.wanted.now sigma c.args.add.now) c.args.found.now.items
    (λ sigma extends left. c.one_always_deletes.ensures c.if-one_always_deletes.true sigma
    (subst (λ (a : Atom). All (λ (step : OpInst). deletes c.args.problem.now (instance_under sigma step) a ≡ false) c.args.later.now)
    (sym left.0) left.1))

pub returns : goal.returns
returns c =
    on_ok c.fit_pattern.result (λ made.
    matches_less c.args.problem.now.objects (length c.args.start.now) c.args.start.now
    (λ sigma. substitute_atom (object_terms sigma) c.args.add.now ≡ c.args.wanted.now)
    (λ sigma. IsLeftAdd c.args.problem.now c.args.later.now c.args.wanted.now sigma c.args.add.now) c.args.found.now.items
    c.fit_pattern.new.found.items
    (λ sigma left. left.0) made) c.fit_pattern.ensures
