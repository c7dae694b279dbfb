-- The bytes determine what is written, and what is written for the first commands begins it.
use Rattle.std.proofs.Common.{◌≡◌, ℕ, ◌≤◌, List, [], ◌∷◌, ◌++◌, length, refl, sym, ap, subst, ◌∙◌, arith, length-append}
use Rattle.std.proofs.lemmas.List.Concat.{flat_map-append}
use Rattle.std.specs.List.{AllZip}
use Rattle.std.specs.Prelude.{All, Contains}
use Rattle.std.proofs.lemmas.List.Elements.{All-head, All-tail, Contains-append_left}
use Rattle.px_base.specs.ListLaws.{All-at, All-each}
use Rattle.px_names.specs.Lists.{NameLists}
use Rattle.px_terms.specs.declared.problem.Problem.{Problem}
use Rattle.px_terms.specs.Validity.{IsValid}
use Rattle.px_printer.specs.Replies.{reply_text}
use Rattle.px_printer.specs.declared.reply.Reply.{Reply}
use Rattle.px_script.specs.declared.command.Command.{Command}
use Rattle.px_script.specs.Content.{ScriptValue}
use Rattle.px_script.specs.Stages.{stage_now}
use Rattle.px_script.proofs.Kept.{in-range}
use Rattle.px_script.proofs.Law.{reads-one-way}
use Rattle.px_session.specs.Determined.{SameReply}
use Rattle.px_session.specs.OwnStates.{IsOwnGoal}
use Rattle.px_session.specs.Sessions.{IsSession, SessionState, opening}
use Rattle.px_session.specs.Transcripts.{AreAnswers, Transcript, texts}
use Rattle.px_session.proofs.Executing.{own-goals}
use Rattle.px_session.proofs.Kept.{sessions_are_kept}
use Rattle.px_session.proofs.OneReply.{lawful_is_one}
use Rattle.px_session.proofs.OneTranscript.{answers_are_one, transcripts_are_one}
use Rattle.px_run.specs.Laws.{TextsAreOne}
use Rattle.px_run.specs.Transcripts.{Begun}
use Rattle.px_run.proofs.OneCheckText.{one-check-text}

-- what replies begin with: those to the first commands, but for questions at limits of shapes
record BeginsLike (xs ys : List Reply) : Type 0 where
  prefix : List Reply
  rest : List Reply
  whole : ys ≡ prefix ++ rest
  alike : AllZip SameReply xs prefix

begins-more : (a b : Reply) (xs ys : List Reply) → SameReply a b → BeginsLike xs ys → BeginsLike (a ∷ xs) (b ∷ ys)
begins-more a b xs ys same begins =
    record {
      prefix = b ∷ begins.prefix;
      rest = begins.rest;
      whole = ap (λ (t : List Reply). b ∷ t) begins.whole;
      alike = (same, begins.alike);
    }

-- the replies to the first commands begin the replies to all
module _ (problem : Problem) (valid : IsValid problem) where
  prefix-of : (old : SessionState) → IsSession problem old → (before after : List Command) → All (IsOwnGoal problem) before
      → (xs ys : List Reply) (last later : SessionState)
      → AreAnswers problem old before xs last → AreAnswers problem old (before ++ after) ys later → BeginsLike xs ys
  prefix-of old session [] after own [] ys last later p q = record { prefix = []; rest = ys; whole = refl; alike = tt }
  prefix-of old session [] after own (a ∷ xs) ys last later p q = absurd p
  prefix-of old session (c ∷ before) after own [] ys last later p q = absurd p
  prefix-of old session (c ∷ before) after own (a ∷ xs) [] last later p q = absurd q
  prefix-of old session (c ∷ before) after own (a ∷ xs) (b ∷ ys) last later p q =
      let same = lawful_is_one.replies problem old c a b p.0 q.0 valid session p.1 q.1 in
      let next = sessions_are_kept.kept problem old c b q.0 valid session (All-head (IsOwnGoal problem) c before own) q.1 in
      let here = subst (λ (s : SessionState). AreAnswers problem s before xs last) same.1 p.2 in
      begins-more a b xs ys same.0 (prefix-of q.0 next before after (All-tail (IsOwnGoal problem) c before own) xs ys last later here q.2)

-- the goals of the first commands are of the problem
own-prefix : (script : ScriptValue) (before after : List Command) → script.commands ≡ before ++ after
    → All (IsOwnGoal script.problem) script.commands → All (IsOwnGoal script.problem) before
own-prefix script before after whole own =
    All-each (IsOwnGoal script.problem) before
    (λ c has. All-at (IsOwnGoal script.problem) script.commands c own
    (subst (λ (cs : List Command). Contains cs c) (sym whole) (Contains-append_left before after c has)))

text-begins : (names : NameLists) (xs ys : List Reply) → BeginsLike xs ys → (rest : List ℕ) × (texts names ys ≡ texts names xs ++ rest)
text-begins names xs ys begins = (
  texts names begins.rest,
  ap (texts names) begins.whole ∙ flat_map-append (reply_text names) begins.prefix begins.rest
      ∙ ap (λ (t : List ℕ). t ++ texts names begins.rest) (sym (answers_are_one.texts names xs begins.prefix begins.alike)),
)

prefix-text : (bytes begun text : List ℕ) → Begun bytes begun → Transcript bytes text → (rest : List ℕ) × (text ≡ begun ++ rest)
prefix-text bytes begun text (script, is, of) whole =
    let same : whole.script ≡ script = (reads-one-way stage_now bytes).one_content whole.script script whole.spelt is in
    by (subst (λ (s : ScriptValue). (last : SessionState) × AreAnswers s.problem (opening s.facts s.saved) s.commands whole.answers last
    × (text ≡ texts s.names whole.answers)) same (whole.lawful.last, whole.lawful.lawful, whole.text_is))
  where
    by : ((last : SessionState) × AreAnswers script.problem (opening script.facts script.saved) script.commands whole.answers last
        × (text ≡ texts script.names whole.answers))
        → (rest : List ℕ) × (text ≡ begun ++ rest)
    by (last, lawful, text_is) =
        let range = in-range stage_now bytes script is in
        let session = sessions_are_kept.scripts script range in
        let all = subst (λ (cs : List Command). AreAnswers script.problem (opening script.facts script.saved) cs whole.answers last) of.whole lawful in
        let begins = prefix-of script.problem range.problem.valid
        (opening script.facts script.saved) session of.before of.after
        (own-prefix script of.before of.after of.whole (own-goals script range))
        of.answers whole.answers of.last last of.lawful all in
        let texts_begin = text-begins script.names of.answers whole.answers begins in
        (texts_begin.0, text_is ∙ texts_begin.1 ∙ ap (λ (t : List ℕ). t ++ texts_begin.0) (sym of.text_is))

-- a text of the first commands is no longer than the whole text
begun-short : (bytes begun text : List ℕ) → Begun bytes begun → Transcript bytes text → length begun ≤ length text
begun-short bytes begun text first whole =
    let prefix = prefix-text bytes begun text first whole in
    let long = ap length prefix.1 in
    let sum = length-append begun prefix.0 in
    omega (arith, long, sum)

pub texts_are_one : TextsAreOne
texts_are_one = record { whole = transcripts_are_one.transcripts; prefix = prefix-text; short = begun-short; check = one-check-text }
