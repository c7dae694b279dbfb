-- Answers that grow at their end, and what was written with them.
use Rattle.std.proofs.Common.{◌≡◌, ℕ, ◌+◌, ◌<◌, ◌≤◌, List, [], ◌∷◌, ◌++◌, length, take, drop, get_or, refl, sym, ap, subst, ◌∙◌, arith, drop-cons, take-append-drop, add-one, length-append}
use Rattle.std.specs.Prelude.{Option, None, Some, Result, Ok, Err, IfOk, OnOk}
use Rattle.std.specs.Io.KnownBytes.{Appends}
use Rattle.std.proofs.KnownBytes.{Appends-nil, Appends-trans}
use Rattle.std.proofs.lemmas.List.{append-nil, append_assoc, take_all, take_more}
use Rattle.std.proofs.lemmas.List.Concat.{flat_map-append}
use Rattle.px_io.specs.Causes.{Rose}
use Rattle.px_io.specs.Writing.{HasNoRoomFor}
use Rattle.px_names.specs.Lists.{NameLists}
use Rattle.px_terms.specs.declared.problem.Problem.{Problem}
use Rattle.px_base.specs.declared.no_memory.NoMemory.{NoMemory}
use Rattle.px_printer.specs.Replies.{IsReplyNamed, reply_text}
use Rattle.px_printer.specs.declared.reply.Reply.{Reply}
use Rattle.px_script.specs.declared.command.Command.{Command}
use Rattle.px_script.specs.declared.command.Command.TheVariants.{Facts}
use Rattle.px_session.specs.Lawful.{Lawful}
use Rattle.px_session.specs.Opened.{SessionValue}
use Rattle.px_session.specs.Sessions.{SessionState}
use Rattle.px_session.specs.Transcripts.{AreAnswers, texts}
use Rattle.px_run.specs.Answers.{AnswerRight, IsAnswered, IsAnswerText, PutRight}
use Rattle.px_run.specs.Outcomes.{SinkEnds, Wrote, Broke}
use Rattle.px_run.specs.Transcripts.{IsBegunOf, IsNextOf, IsTextOf}
use Rattle.px_run.specs.declared.running.AnswerErr.{AnswerErr}
use Rattle.px_run.specs.declared.running.AnswerErr.TheVariants as answer_err

pub answers-end : (p : Problem) (old : SessionState) (cs : List Command) (answers : List Reply) (here : SessionState) (c : Command)
    (answer : Reply) (last : SessionState)
    → AreAnswers p old cs answers here → Lawful p here c answer last → AreAnswers p old (cs ++ c ∷ []) (answers ++ answer ∷ []) last
answers-end p old [] [] here c answer last so_far lawful =
    (last, subst (λ (s : SessionState). Lawful p s c answer last) so_far lawful, refl)
answers-end p old [] (a ∷ as') here c answer last so_far lawful = absurd so_far
answers-end p old (d ∷ ds) [] here c answer last so_far lawful = absurd so_far
answers-end p old (d ∷ ds) (a ∷ as') here c answer last so_far lawful =
    (so_far.0, so_far.1, answers-end p so_far.0 ds as' here c answer last so_far.2 lawful)

pub texts-end : (names : NameLists) (answers : List Reply) (answer : Reply)
    → texts names (answers ++ answer ∷ []) ≡ texts names answers ++ reply_text names answer
texts-end names answers answer = rw flat_map-append (ap (λ t. texts names answers ++ t) (append-nil (reply_text names answer)))

pub split-here : (cs : List Command) (i : ℕ) → i < length cs → cs ≡ take i cs ++ get_or cs i Facts ∷ drop (i + 1) cs
split-here cs i within = sym (take-append-drop i cs) ∙ ap (λ t. take i cs ++ t) (rw add-one (drop-cons cs i Facts within))

no-room-after : (sure : Option ℕ) (w0 w1 : Option (List ℕ)) (done next : List ℕ) → Appends w0 w1 done → HasNoRoomFor sure w1 next
    → HasNoRoomFor sure w0 (done ++ next)
no-room-after None w0 w1 done next grown lacks = tt
no-room-after (Some room) None w1 done next grown lacks = tt
no-room-after (Some room) (Some h) None done next grown lacks = elim grown [ ]
no-room-after (Some room) (Some h) (Some k) done next grown lacks =
    let long : length k ≡ length h + length done = ap length grown ∙ length-append h done in
    rw (length-append done next) (omega (arith, long, lacks))

pub wrote-both : (w0 w1 w2 : Option (List ℕ)) (f0 f1 f2 : ℕ) (s0 s1 : Option ℕ) (done next : List ℕ)
    → Wrote (record { written = w0; written_after = w1; faults = f0; faults_after = f1; sure = s0 }) done
    → Wrote (record { written = w1; written_after = w2; faults = f1; faults_after = f2; sure = s1 }) next
    → Wrote (record { written = w0; written_after = w2; faults = f0; faults_after = f2; sure = s0 }) (done ++ next)
wrote-both w0 w1 w2 f0 f1 f2 s0 s1 done next first second =
    record { appended = Appends-trans w0 w1 w2 done next first.appended second.appended; no_fault = second.no_fault ∙ first.no_fault }

pub broke-after : (w0 w1 w2 : Option (List ℕ)) (f0 f1 f2 : ℕ) (s0 s1 : Option ℕ) (done next : List ℕ) → s1 ≡ s0
    → Wrote (record { written = w0; written_after = w1; faults = f0; faults_after = f1; sure = s0 }) done
    → Broke (record { written = w1; written_after = w2; faults = f1; faults_after = f2; sure = s1 }) [] next
    → Broke (record { written = w0; written_after = w2; faults = f0; faults_after = f2; sure = s0 }) done next
broke-after w0 w1 w2 f0 f1 f2 s0 s1 done next same first second = record {
  prefix = second.prefix;
  rest = second.rest;
  whole = second.whole;
  proper = second.proper;
  appended = Appends-trans w0 w1 w2 done second.prefix first.appended second.appended;
  rose = subst (λ f. Rose f f2) first.no_fault second.rose;
  no_room = no-room-after s0 w0 w1 done next first.appended (subst (λ s. HasNoRoomFor s w1 next) same second.no_room);
}

-- ---- a session's answer

pub answered-of : (result : Result Reply NoMemory) (old new : SessionValue) (place : ℕ) → place ≡ old.done
    → IfOk result (λ reply. Lawful old.problem old.state (get_or old.commands place Facts) reply new.state)
    → OnOk result (new ≡ record old { done = place + 1; state = new.state }) → IfOk result (λ reply. IsAnswered old reply new)
answered-of (Ok reply) old new place next lawful frame = record {
  lawful = subst (λ (n : ℕ). Lawful old.problem old.state (get_or old.commands n Facts) reply new.state) next lawful;
  frame = subst (λ (n : ℕ). new ≡ record old { done = n + 1; state = new.state }) next frame;
}
answered-of (Err error) old new place next lawful frame = tt

pub named-of : (result : Result Reply NoMemory) (problem : Problem) (names : NameLists) (commands : List Command) (done : ℕ)
    (new : SessionValue) → IfOk result (IsReplyNamed names)
    → OnOk result (new ≡ record { problem = problem; names = names; commands = commands; done = done; state = new.state })
    → IfOk result (IsReplyNamed new.names)
named-of (Ok reply) problem names commands done new named frame =
    subst (λ (n : NameLists). IsReplyNamed n reply) (sym (ap (λ (s : SessionValue). s.names) frame)) named
named-of (Err error) problem names commands done new named frame = tt

-- the text of a lawful reply
pub text-answers : {T E : Type 0} (result : Result T E) (items : T → List ℕ) (old new : SessionValue) (reply : Reply)
    → IsAnswered old reply new
    → IfOk result (λ text. items text ≡ reply_text new.names reply) → IfOk result (λ text. IsAnswerText old new (items text))
text-answers (Ok text) items old new reply answered right = (reply, answered, right)
text-answers (Err error) items old new reply answered right = tt

-- ---- a session that was at first as `old`, and is now as `now`

-- that many commands are done, by these replies, and what is asked of it is the same
pub record IsSoFar (old now : SessionValue) (place : ℕ) (answers : List Reply) : Type 0 where
  pub problem : now.problem ≡ old.problem
  pub names : now.names ≡ old.names
  pub commands : now.commands ≡ old.commands
  pub done : now.done ≡ place
  pub lawful : AreAnswers old.problem old.state (take place old.commands) answers now.state

pub so-far-start : (session : SessionValue) → session.done ≡ 0 → IsSoFar session session 0 []
so-far-start session start = record { problem = refl; names = refl; commands = refl; done = start; lawful = refl }

module _ (old now new : SessionValue) (place : ℕ) (answers : List Reply) (answer : Reply) (so_far : IsSoFar old now place answers) where
  -- the next reply is lawful for the command at the place
  answered-here : IsAnswered now answer new → Lawful old.problem now.state (get_or old.commands place Facts) answer new.state
  answered-here is =
      subst (λ (n : ℕ). Lawful old.problem now.state (get_or old.commands n Facts) answer new.state) so_far.done
      (subst (λ (cs : List Command). Lawful old.problem now.state (get_or cs now.done Facts) answer new.state) so_far.commands
      (subst (λ (p : Problem). Lawful p now.state (get_or now.commands now.done Facts) answer new.state) so_far.problem is.lawful))

  -- the names are the same
  names-here : IsAnswered now answer new → new.names ≡ old.names
  names-here is = ap (λ (s : SessionValue). s.names) is.frame ∙ so_far.names

  pub text-more : IsAnswered now answer new → texts old.names (answers ++ answer ∷ []) ≡ texts old.names answers
      ++ reply_text new.names answer
  text-more is = texts-end old.names answers answer ∙ ap (λ (names : NameLists). texts old.names answers ++ reply_text names answer)
      (sym (names-here is))

  pub next-of : place < length old.commands → IsAnswered now answer new
      → IsNextOf old (texts old.names answers) (reply_text new.names answer)
  next-of within is = record {
    before = take place old.commands;
    command = get_or old.commands place Facts;
    after = drop (place + 1) old.commands;
    answers = answers;
    state = now.state;
    answer = answer;
    last = new.state;
    whole = split-here old.commands place within;
    lawful = so_far.lawful;
    lawful_next = answered-here is;
    done_text = refl;
    next_text = ap (λ (names : NameLists). reply_text names answer) (names-here is);
  }

  pub one-more : place < length old.commands → IsAnswered now answer new → IsSoFar old new (place + 1) (answers ++ answer ∷ [])
  one-more within is = record {
    problem = ap (λ (s : SessionValue). s.problem) is.frame ∙ so_far.problem;
    names = names-here is;
    commands = ap (λ (s : SessionValue). s.commands) is.frame ∙ so_far.commands;
    done = ap (λ (s : SessionValue). s.done) is.frame ∙ ap (λ (n : ℕ). n + 1) so_far.done;
    lawful = subst (λ (cs : List Command). AreAnswers old.problem old.state cs (answers ++ answer ∷ []) new.state)
        (sym (take_more old.commands place Facts within))
        (answers-end old.problem old.state (take place old.commands) answers now.state
        (get_or old.commands place Facts) answer new.state so_far.lawful (answered-here is));
  }

pub begun-of : (old now : SessionValue) (place : ℕ) (answers : List Reply) → IsSoFar old now place answers
    → IsBegunOf old (texts old.names answers)
begun-of old now place answers so_far = record {
  before = take place old.commands;
  after = drop place old.commands;
  answers = answers;
  last = now.state;
  whole = sym (take-append-drop place old.commands);
  lawful = so_far.lawful;
  text_is = refl;
}

pub text-of : (old now : SessionValue) (place : ℕ) (answers : List Reply) → length old.commands ≤ place → IsSoFar old now place answers
    → IsTextOf old (texts old.names answers)
text-of old now place answers all so_far = record {
  answers = answers;
  last = now.state;
  lawful = subst (λ (cs : List Command). AreAnswers old.problem old.state cs answers now.state)
      (take_all place old.commands all) so_far.lawful;
  text_is = refl;
}

-- the texts so far and the next one are texts of the first commands
pub begun-next : (session : SessionValue) (done next : List ℕ) → IsNextOf session done next → IsBegunOf session (done ++ next)
begun-next session done next of = record {
  before = of.before ++ of.command ∷ [];
  after = of.after;
  answers = of.answers ++ of.answer ∷ [];
  last = of.last;
  whole = of.whole ∙ sym (append_assoc of.before (of.command ∷ []) of.after);
  lawful = answers-end session.problem session.state of.before of.answers of.state of.command of.answer of.last of.lawful of.lawful_next;
  text_is = (λ i. of.done_text i ++ of.next_text i) ∙ sym (texts-end session.names of.answers of.answer);
}

pub wrote-nothing : (w0 w1 w2 : Option (List ℕ)) (f0 f1 f2 : ℕ) (s0 s1 : Option ℕ) (done : List ℕ)
    → Wrote (record { written = w0; written_after = w1; faults = f0; faults_after = f1; sure = s0 }) done
    → Wrote (record { written = w1; written_after = w2; faults = f1; faults_after = f2; sure = s1 }) []
    → Wrote (record { written = w0; written_after = w2; faults = f0; faults_after = f2; sure = s0 }) done
wrote-nothing w0 w1 w2 f0 f1 f2 s0 s1 done first second =
    subst (Wrote (record { written = w0; written_after = w2; faults = f0; faults_after = f2; sure = s0 })) (append-nil done)
    (wrote-both w0 w1 w2 f0 f1 f2 s0 s1 done [] first second)

pub wrote-none : (w : Option (List ℕ)) (f : ℕ) (s : Option ℕ)
    → Wrote (record { written = w; written_after = w; faults = f; faults_after = f; sure = s }) []
wrote-none w f s = record { appended = Appends-nil w; no_fault = refl }

pub begun-none : (session : SessionValue) → IsBegunOf session []
begun-none session = record {
  before = [];
  after = session.commands;
  answers = [];
  last = session.state;
  whole = refl;
  lawful = refl;
  text_is = refl;
}

pub answer-right : {T : Type 0} (old new : SessionValue) (sink : SinkEnds) (text : List ℕ) (result : Result T AnswerErr)
    → IsAnswerText old new text → PutRight text sink result
    → AnswerRight old new sink result
answer-right old new sink text (Ok done) is put = (is.0, is.1, subst (Wrote sink) is.2 put)
answer-right old new sink text (Err answer_err.Fault) is put = (is.0, is.1, subst (Broke sink []) is.2 put)
answer-right old new sink text (Err answer_err.NoMemory) is put = absurd put
