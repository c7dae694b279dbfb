use Rattle.std.proofs.Common.{◌≡◌, ◌+◌, ◌<◌, All, Contains, drop, flat_map, get_or, length, refl, sym, subst, arith}
use Rattle.px_printer.specs.Replies.{IsReplyNamed}
use Rattle.px_saved.specs.ReadBack.{ReplyIsReadBack}
use Rattle.px_script.specs.Ranges.{result_given}
use Rattle.px_session.specs.KeptSessions.{IsRunnable}
use Rattle.px_session.specs.Named.{IsTellable}
use Rattle.px_session.specs.Opened.{SessionValue}
use Rattle.px_session.specs.CertifiedReplies.{ReplyIsAccepted}
use Rattle.px_session.specs.Writable.{AsksWritable}
use Rattle.px_session.specs.contracts.session.Session as held
use Rattle.px_session.proofs.AskedReplies.{reply-read-back}
use Rattle.px_session.proofs.Certifying.{reply-accepted}
use Rattle.px_session.proofs.Executing.{at-place, command-at, kept-after, kernels-after, named-after}
use Rattle.px_session.proofs.GivenNames.{names-new}
use Rattle.px_session.proofs.session.Session.execute.Goals as goal

pub run_command-requires-clause-runnable : goal.run_command-requires-clause-runnable
run_command-requires-clause-runnable c =
    let below = subst (λ (s : SessionValue). c.args.k < length s.commands) (sym c.self.view_is) c.requires.below in
    at-place (IsRunnable c.self.inside.problem c.self.inside.building) c.self.inside.commands c.as_slice.result.now c.args.k
    c.index-as_slice-k.result c.self.invariant.commands
    c.as_slice.ensures below c.index-as_slice-k.is

pub invariant_of-self-2 : goal.invariant_of-self-2
invariant_of-self-2 c =
    let below = subst (λ (s : SessionValue). c.args.k < length s.commands) (sym c.self.view_is) c.requires.below in
    let runs = at-place (IsRunnable c.self.inside.problem c.self.inside.building) c.self.inside.commands c.as_slice.result.now c.args.k
    c.index-as_slice-k.result
    c.self.invariant.commands c.as_slice.ensures below c.index-as_slice-k.is in
    let asks = at-place (AsksWritable c.self.inside.problem) c.self.inside.commands c.as_slice.result.now c.args.k
    c.index-as_slice-k.result
    c.self.invariant.asked c.as_slice.ensures below c.index-as_slice-k.is in
    let next : c.args.k ≡ c.self.inside.done = subst (λ (s : SessionValue). c.args.k ≡ s.done) (sym c.self.view_is) c.requires.next in
    let tellable = at-place (IsTellable c.self.inside.problem
    (length c.self.inside.names.results)) c.self.inside.commands c.as_slice.result.now c.args.k
    c.index-as_slice-k.result c.self.invariant.tellable c.as_slice.ensures below c.index-as_slice-k.is in
    let is = command-at c.self.inside.commands c.as_slice.result.now c.args.k c.index-as_slice-k.result c.as_slice.ensures
    c.index-as_slice-k.is in
    kept-after c.self.inside.building c.run_command.new.building (held.the_view c.self.inside)
    c.index-as_slice-k.result c.in_ok-reply.reply c.run_command.new.state (c.self.inside.done + 1)
    c.self.invariant refl (omega (arith, below, next))
    (subst (λ n. c.index-as_slice-k.result ≡ get_or c.self.inside.commands n
    c.index-as_slice-k.result) next is)
    runs asks tellable c.in_ok-reply.ensures.lawful c.in_ok-reply.ensures.placed c.run_command.ensures.takes

pub returns-clause-named : goal.returns-clause-named
returns-clause-named c =
    let below = subst (λ (s : SessionValue). c.args.k < length s.commands) (sym c.self.view_is) c.requires.below in
    let tellable = at-place (IsTellable c.self.inside.problem
    (length c.self.inside.names.results)) c.self.inside.commands c.as_slice.result.now c.args.k
    c.index-as_slice-k.result c.self.invariant.tellable c.as_slice.ensures below c.index-as_slice-k.is in
    subst (λ (s : SessionValue). IsReplyNamed s.names c.in_ok-reply.reply) c.self.view_is
    (named-after c.self.inside.building (held.the_view c.self.inside)
    c.index-as_slice-k.result c.in_ok-reply.reply c.run_command.new.state c.self.invariant tellable
    c.in_ok-reply.ensures.lawful)

pub returns-clause-kernels : goal.returns-clause-kernels
returns-clause-kernels c =
    let below = subst (λ (s : SessionValue). c.args.k < length s.commands) (sym c.self.view_is) c.requires.below in
    let runs = at-place (IsRunnable c.self.inside.problem c.self.inside.building) c.self.inside.commands c.as_slice.result.now c.args.k
    c.index-as_slice-k.result
    c.self.invariant.commands c.as_slice.ensures below c.index-as_slice-k.is in
    kernels-after c.self.inside.building (held.the_view c.self.inside)
    c.index-as_slice-k.result c.in_ok-reply.reply c.run_command.new.state c.self.invariant runs
    c.in_ok-reply.ensures.lawful

pub run_command-requires-clause-new_names : goal.run_command-requires-clause-new_names
run_command-requires-clause-new_names c =
    let below = subst (λ (s : SessionValue). c.args.k < length s.commands) (sym c.self.view_is) c.requires.below in
    let next : c.args.k ≡ c.self.inside.done = subst (λ (s : SessionValue). c.args.k ≡ s.done) (sym c.self.view_is) c.requires.next in
    let is = command-at c.self.inside.commands c.as_slice.result.now c.args.k c.index-as_slice-k.result c.as_slice.ensures
    c.index-as_slice-k.is in
    names-new c.self.inside.commands c.args.k c.index-as_slice-k.result below is c.self.inside.state.learned.names
    (subst (λ n. All (λ name. ¬ Contains (flat_map result_given (drop n c.self.inside.commands)) name) c.self.inside.state.learned.names)
    (sym next) c.self.invariant.learned)

pub run_command-requires-clause-few : goal.run_command-requires-clause-few
run_command-requires-clause-few c =
    let below = subst (λ (s : SessionValue). c.args.k < length s.commands) (sym c.self.view_is) c.requires.below in
    let next : c.args.k ≡ c.self.inside.done = subst (λ (s : SessionValue). c.args.k ≡ s.done) (sym c.self.view_is) c.requires.next in
    omega (arith, below, next, c.self.invariant.few, c.self.invariant.recorded)

pub returns-clause-certified : goal.returns-clause-certified
returns-clause-certified c =
    subst (λ (s : SessionValue). ReplyIsAccepted s.problem s.state c.in_ok-reply.reply) c.self.view_is
    (reply-accepted c.self.inside.problem c.self.inside.state c.run_command.new.state c.self.invariant.problem c.self.invariant.certifiable
    c.self.invariant.state c.self.invariant.written c.index-as_slice-k.result c.in_ok-reply.reply c.in_ok-reply.ensures.lawful)

pub returns-clause-read_back : goal.returns-clause-read_back
returns-clause-read_back c =
    let below = subst (λ (s : SessionValue). c.args.k < length s.commands) (sym c.self.view_is) c.requires.below in
    let tellable = at-place (IsTellable c.self.inside.problem
    (length c.self.inside.names.results)) c.self.inside.commands c.as_slice.result.now c.args.k
    c.index-as_slice-k.result c.self.invariant.tellable c.as_slice.ensures below c.index-as_slice-k.is in
    subst (λ (s : SessionValue). ReplyIsReadBack s.problem s.names c.in_ok-reply.reply) c.self.view_is
    (reply-read-back c.self.inside.problem c.self.inside.names c.self.invariant.named c.self.invariant.short_names c.self.inside.state
    c.run_command.new.state c.self.invariant.state c.self.invariant.written c.index-as_slice-k.result c.in_ok-reply.reply
    (named-after c.self.inside.building (held.the_view c.self.inside)
    c.index-as_slice-k.result c.in_ok-reply.reply c.run_command.new.state c.self.invariant tellable
    c.in_ok-reply.ensures.lawful)
    c.in_ok-reply.ensures.lawful)
