-- A script has one list of lawful replies, and one text.
use Rattle.std.specs.Prelude.{◌≡◌, ◌+◌, ◌++◌, ℕ, Bool, false, cond, List, [], ◌∷◌, codes, count_by, length, sum_by, All}
use Rattle.std.proofs.Common.{refl, sym, ap, ◌∙◌, subst, inl, inr}
use Rattle.std.specs.Fmt.{decimal}
use Rattle.std.specs.List.{AllZip}
use Rattle.std.proofs.lemmas.List.Elements.{All-head, All-tail}
use Rattle.std.proofs.lemmas.List.Sums.{sum_by-cons}
use Rattle.px_names.specs.Lists.{NameLists}
use Rattle.px_terms.specs.declared.problem.Problem.{Problem}
use Rattle.px_terms.specs.Validity.{IsValid}
use Rattle.px_table.specs.declared.node.Node.{Node}
use Rattle.px_gaps.specs.declared.question.MetLimit.{MetLimit}
use Rattle.px_demo.specs.Script.{demo_script}
use Rattle.px_printer.specs.Texts.{text_line}
use Rattle.px_printer.specs.declared.pursue_end.PursueEnd.{PursueEnd}
use Rattle.px_printer.specs.declared.reply.Reply.{Reply}
use Rattle.px_printer.specs.declared.reply.Reply.TheVariants as reply
use Rattle.px_printer.specs.declared.turn.Turn.{Turn}
use Rattle.px_script.specs.declared.command.Command.{Command}
use Rattle.px_script.specs.Content.{ScriptValue}
use Rattle.px_script.specs.Scripts.{IsScript}
use Rattle.px_script.specs.Stages.{stage_now}
use Rattle.px_script.proofs.Kept.{in-range}
use Rattle.px_script.proofs.Law.{reads-one-way}
use Rattle.px_session.specs.Demo.{Summary, is_plan, reaches_goal, step_count, summary_line}
use Rattle.px_session.specs.Determined.{AnswersAreOne, SameReply, TranscriptsAreOne}
use Rattle.px_session.specs.OwnStates.{IsOwnGoal}
use Rattle.px_session.specs.Sessions.{IsSession, SessionState, opening}
use Rattle.px_session.specs.Transcripts.{AreAnswers, AreAnswersTo, Transcript, texts}
use Rattle.px_session.proofs.Executing.{own-goals}
use Rattle.px_session.proofs.Kept.{sessions_are_kept}
use Rattle.px_session.proofs.OneReply.{lawful_is_one}

-- ---- the replies

module _ (problem : Problem) (valid : IsValid problem) where
  answers-one : (old : SessionState) → IsSession problem old → (commands : List Command) → All (IsOwnGoal problem) commands
      → (answers others : List Reply) (last later : SessionState)
      → AreAnswers problem old commands answers last → AreAnswers problem old commands others later
      → AllZip SameReply answers others × (last ≡ later)
  answers-one old session [] own [] [] last later p q = (tt, p ∙ sym q)
  answers-one old session [] own [] (b ∷ bs) last later p q = absurd q
  answers-one old session [] own (a ∷ answers) others last later p q = absurd p
  answers-one old session (c ∷ commands) own [] others last later p q = absurd p
  answers-one old session (c ∷ commands) own (a ∷ answers) [] last later p q = absurd q
  answers-one old session (c ∷ commands) own (a ∷ answers) (b ∷ others) last later p q =
      let same = lawful_is_one.replies problem old c a b p.0 q.0 valid session p.1 q.1 in
      let next = sessions_are_kept.kept problem old c b q.0 valid session (All-head (IsOwnGoal problem) c commands own) q.1 in
      let here = subst (λ (s : SessionState). AreAnswers problem s commands answers last) same.1 p.2 in
      let rest = answers-one q.0 next commands (All-tail (IsOwnGoal problem) c commands own) answers others last later here q.2 in
      ((same.0, rest.0), rest.1)

script-one : (script : ScriptValue) (answers others : List Reply) → IsValid script.problem
    → IsSession script.problem (opening script.facts script.saved) → All (IsOwnGoal script.problem) script.commands
    → (one : AreAnswersTo script answers) (other : AreAnswersTo script others) → AllZip SameReply answers others × (one.last ≡ other.last)
script-one script answers others valid session own one other =
    answers-one script.problem valid (opening script.facts script.saved) session script.commands own answers others one.last other.last
    one.lawful other.lawful

-- ---- what is made of them

texts-one : (names : NameLists) (answers others : List Reply) → AllZip SameReply answers others → texts names answers ≡ texts names others
texts-one names [] [] same = refl
texts-one names [] (b ∷ others) same = absurd same
texts-one names (a ∷ answers) [] same = absurd same
texts-one names (a ∷ answers) (b ∷ others) same =
    let one = lawful_is_one.texts names a b same.0 in
    let rest = texts-one names answers others same.1 in
    λ i. one i ++ rest i

-- what doesn't look at the question at a limit is the same of both
alike : {A : Type 0} (look : Reply → A) (limit : A)
    → ((name : ℕ) (node : Node) (met : MetLimit) → look (reply.ShapeLimit name node met) ≡ limit)
    → (pursuit : (name searches : ℕ) (turns : List Turn) (end : PursueEnd) → look (reply.Pursuit name searches turns end) ≡ limit)
    → (one other : Reply) → SameReply one other → look one ≡ look other
alike look limit is pursuit one other (inl e) = ap look e
alike look limit is pursuit one other (inr (inl are)) =
    ap look are.one_is ∙ is are.name are.node are.limit ∙ sym (is are.name are.also_node are.also_limit) ∙ sym (ap look are.other_is)
alike look limit is pursuit one other (inr (inr are)) =
    ap look are.one_is ∙ pursuit are.name are.searches are.turns are.end
    ∙ sym (pursuit are.name are.searches are.turns are.also_end) ∙ sym (ap look are.other_is)

-- so is a sum over replies
sums-one : (look : Reply → ℕ) → ((one other : Reply) → SameReply one other → look one ≡ look other) → (answers others : List Reply)
    → AllZip SameReply answers others → sum_by look answers ≡ sum_by look others
sums-one look is [] [] same = refl
sums-one look is [] (b ∷ others) same = absurd same
sums-one look is (a ∷ answers) [] same = absurd same
sums-one look is (a ∷ answers) (b ∷ others) same =
    let one = is a b same.0 in
    let rest = sums-one look is answers others same.1 in
    sum_by-cons look a answers ∙ (λ i. one i + rest i) ∙ sym (sum_by-cons look b others)

counts-one : (test : Reply → Bool) → ((one other : Reply) → SameReply one other → test one ≡ test other) → (answers others : List Reply)
    → AllZip SameReply answers others → count_by test answers ≡ count_by test others
counts-one test is answers others same =
    sums-one (λ x. cond (test x) 1 0) (λ one other e. ap (λ b. cond b 1 0) (is one other e)) answers others same

summary-line-one : (rooms seed commands : ℕ) (answers others : List Reply) → AllZip SameReply answers others
    → summary_line rooms seed commands answers ≡ summary_line rooms seed commands others
summary-line-one rooms seed commands answers others same =
    let plans = counts-one is_plan (alike is_plan false (λ name node met. refl) (λ name searches turns end. refl)) answers others same in
    let steps = sums-one step_count (alike step_count 0 (λ name node met. refl) (λ name searches turns end. refl)) answers others same in
    let goals = counts-one reaches_goal (alike reaches_goal false (λ name node met. refl) (λ name searches turns end. refl)) answers others same in
    λ i. text_line (codes "demo" ∷ decimal rooms ∷ decimal seed ∷ decimal commands ∷ codes "commands" ∷ decimal (plans i) ∷ codes "plans"
    ∷ decimal (steps i) ∷ codes "steps" ∷ decimal (goals i) ∷ codes "goals" ∷ [])

-- ---- from the bytes

abbrev IsSettled : ScriptValue → Type 0
IsSettled script = IsValid script.problem × IsSession script.problem (opening script.facts script.saved)
    × All (IsOwnGoal script.problem) script.commands

settled-script : (bytes : List ℕ) (script : ScriptValue) → IsScript stage_now bytes script → IsSettled script
settled-script bytes script is = let range = in-range stage_now bytes script is in
    (range.problem.valid, sessions_are_kept.scripts script range, own-goals script range)

-- replies to what is one script
settled-one : (one other : ScriptValue) (answers others : List Reply) → one ≡ other → IsSettled other → AreAnswersTo one answers
    → AreAnswersTo other others → AllZip SameReply answers others
settled-one one other answers others same settled p q =
    (script-one other answers others settled.0 settled.1 settled.2 (subst (λ (s : ScriptValue). AreAnswersTo s answers) same p) q).0

same-script : (bytes : List ℕ) (one other : ScriptValue) → IsScript stage_now bytes one → IsScript stage_now bytes other → one ≡ other
same-script bytes one other p q = (reads-one-way stage_now bytes).one_content one other p q

transcript-one : (bytes text other : List ℕ) → Transcript bytes text → Transcript bytes other → text ≡ other
transcript-one bytes text other p q =
    let script = same-script bytes p.script q.script p.spelt q.spelt in
    let same = settled-one p.script q.script p.answers q.answers script (settled-script bytes q.script q.spelt) p.lawful q.lawful in
    p.text_is ∙ ap (λ (s : ScriptValue). texts s.names p.answers) script ∙ texts-one q.script.names p.answers q.answers same ∙ sym q.text_is

summary-one : (rooms seed : ℕ) (text other : List ℕ) → Summary rooms seed text → Summary rooms seed other → text ≡ other
summary-one rooms seed text other p q =
    let script = same-script (demo_script rooms seed) p.script q.script p.spelt q.spelt in
    let settled = settled-script (demo_script rooms seed) q.script q.spelt in
    let same = settled-one p.script q.script p.answers q.answers script settled p.lawful q.lawful in
    p.text_is ∙ ap (λ (s : ScriptValue). summary_line rooms seed (length s.commands) p.answers) script
    ∙ summary-line-one rooms seed (length q.script.commands) p.answers q.answers same ∙ sym q.text_is

pub answers_are_one : AnswersAreOne
answers_are_one = record { answers = script-one; texts = texts-one }

pub transcripts_are_one : TranscriptsAreOne
transcripts_are_one = record { transcripts = transcript-one; summaries = summary-one }
