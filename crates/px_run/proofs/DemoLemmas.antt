-- What the outcomes of a demo say.
use Rattle.std.proofs.Common.{◌≡◌, ℕ, ◌+◌, ◌≤◌, List, [], ◌∷◌, codes, length, refl, sym, ◌∙◌, subst, inl, inr, true≢false}
use Rattle.std.specs.Prelude.{Option, None, Some, is_some, true}
use Rattle.std.specs.Fmt.{decimal}
use Rattle.px_demo.specs.Script.{demo_script}
use Rattle.px_demo_script.specs.Value.{demo_value}
use Rattle.px_demo_script.proofs.Law.{demo_is_script}
use Rattle.px_printer.specs.Texts.{text_line}
use Rattle.px_reader.specs.declared.refused.Refused.{Refused}
use Rattle.px_script.specs.Content.{ScriptValue}
use Rattle.px_script.specs.Stages.{stage_now}
use Rattle.px_script.specs.Scripts.{IsScript}
use Rattle.px_session.specs.Demo.{Summary}
use Rattle.px_session.specs.Opened.{SessionValue, opened_session}
use Rattle.px_session.proofs.OneTranscript.{transcripts_are_one}
use Rattle.px_words.specs.declared.orders.Order.{Order}
use Rattle.px_words.specs.declared.orders.Order.TheVariants.{Run, Demo, Check}
use Rattle.px_run.specs.Prefixes.{HasDemoPrefix}
use Rattle.px_run.specs.Outcomes.{SourceEnds, SinkEnds, DemoCompletes, DemoCompletesSurely, DemoRight, RunRight, StatusRight, SumRight, Wrote, limit}
use Rattle.px_run.specs.Sums.{IsCounted, IsSumOf}
use Rattle.px_run.specs.Transcripts.{IsScriptRefused}
use Rattle.px_run.specs.declared.counts.Counts.{Counts}
use Rattle.px_run.specs.declared.status.Status.{Status}
use Rattle.px_run.specs.declared.status.Status.TheVariants as status
use Rattle.px_run.proofs.Prefixes.{broke-text}
use Rattle.px_run.proofs.OutcomeLemmas.{no-room, not-both}

summary-of : (rooms seed : ℕ) (script : ScriptValue) (text : List ℕ) → IsScript stage_now (demo_script rooms seed) script
    → IsSumOf rooms seed (opened_session script) text → Summary rooms seed text
summary-of rooms seed script text is sum = record {
  script = script;
  spelt = is;
  answers = sum.0;
  lawful = record { last = sum.1.last; lawful = sum.1.lawful };
  text_is = sum.2;
}

pub demo-summed : (rooms seed : ℕ) (sink : SinkEnds) (script : ScriptValue) (result : Status)
    → IsScript stage_now (demo_script rooms seed) script
    → SumRight rooms seed (opened_session script) sink result → DemoRight rooms seed sink result
demo-summed rooms seed sink script status.Done is right = (right.0, summary-of rooms seed script right.0 is right.1, right.2)
demo-summed rooms seed sink script status.WriteFault is right = (right.0, summary-of rooms seed script right.0 is right.1, right.2)
demo-summed rooms seed sink script status.NoMemory is right = right
demo-summed rooms seed sink script status.Usage is right = elim right [ ]
demo-summed rooms seed sink script status.ReadFault is right = elim right [ ]
demo-summed rooms seed sink script status.TooLong is right = elim right [ ]
demo-summed rooms seed sink script (status.Refused refused) is right = elim right [ ]

-- the demo's bytes are a script, and so have no fault
pub demo-not-refused : (rooms seed : ℕ) (refused : Refused) → 3 ≤ rooms → rooms ≤ 12 → ¬ IsScriptRefused (demo_script rooms seed) refused
demo-not-refused rooms seed refused some few =
    not-both (demo_script rooms seed) (demo_value rooms seed) refused (demo_is_script rooms seed some few)

pub demo-completes : (rooms seed : ℕ) (sink : SinkEnds) (result : Status) → DemoRight rooms seed sink result
    → DemoCompletes sink result
demo-completes rooms seed sink status.Done right no_fault = inl refl
demo-completes rooms seed sink status.NoMemory right no_fault = inr refl
demo-completes rooms seed sink status.WriteFault right no_fault = absurd (no_fault right.2.rose)
demo-completes rooms seed sink (status.Refused refused) right no_fault = elim right [ ]
demo-completes rooms seed sink status.Usage right no_fault = elim right [ ]
demo-completes rooms seed sink status.ReadFault right no_fault = elim right [ ]
demo-completes rooms seed sink status.TooLong right no_fault = elim right [ ]

pub demo-completes_surely : (rooms seed : ℕ) (sink : SinkEnds) (result : Status) → DemoRight rooms seed sink result
    → DemoCompletesSurely rooms seed sink result
demo-completes_surely rooms seed sink status.Done right held room written sure fits = inl refl
demo-completes_surely rooms seed sink status.NoMemory right held room written sure fits = inr refl
demo-completes_surely rooms seed sink status.WriteFault right held room written sure fits =
    absurd (no-room sink.sure sink.written right.0 held room sure written right.2.no_room (fits right.0 right.1))
demo-completes_surely rooms seed sink (status.Refused refused) right held room written sure fits = elim right [ ]
demo-completes_surely rooms seed sink status.Usage right held room written sure fits = elim right [ ]
demo-completes_surely rooms seed sink status.ReadFault right held room written sure fits = elim right [ ]
demo-completes_surely rooms seed sink status.TooLong right held room written sure fits = elim right [ ]

-- ---- the prefix of what is demanded

pub demo-prefix : (rooms seed : ℕ) (sink : SinkEnds) (result : Status) → DemoRight rooms seed sink result
    → HasDemoPrefix rooms seed sink result
demo-prefix rooms seed sink status.WriteFault (next, is, broke) =
    λ text demanded. broke-text sink [] next text broke refl (transcripts_are_one.summaries rooms seed text next demanded is)
demo-prefix rooms seed sink status.NoMemory right = right
demo-prefix rooms seed sink status.Done right = tt
demo-prefix rooms seed sink (status.Refused refused) right = tt
demo-prefix rooms seed sink status.Usage right = tt
demo-prefix rooms seed sink status.ReadFault right = tt
demo-prefix rooms seed sink status.TooLong right = tt

-- there was no memory for reading the words
pub no_memory : (order : Option Order) (source : SourceEnds) (sink : SinkEnds) → is_some order ≡ true → source.faults_after ≡ source.faults
    → source.taken_after ≤ source.taken + limit → Wrote sink [] → StatusRight order source sink status.NoMemory
no_memory None source sink is quiet short wrote = absurd (true≢false (sym is))
no_memory (Some Run) source sink is quiet short wrote = (quiet, short, inl wrote)
no_memory (Some Check) source sink is quiet short wrote = (quiet, short, wrote)
no_memory (Some (Demo rooms seed)) source sink is quiet short wrote = wrote

-- the line of the counts is the line of the replies
pub summed : (rooms seed commands : ℕ) (session : SessionValue) (counts : Counts) (text : List ℕ) → IsCounted session counts
    → commands ≡ length session.commands
    → text ≡ text_line (codes "demo" ∷ decimal rooms ∷ decimal seed ∷ decimal commands ∷ codes "commands" ∷ decimal counts.plans
    ∷ codes "plans"
    ∷ decimal counts.steps ∷ codes "steps" ∷ decimal counts.goals ∷ codes "goals" ∷ [])
    → IsSumOf rooms seed session text
summed rooms seed commands session counts text counted count is = (
  counted.0,
  counted.1,
  is ∙ (λ i. text_line (codes "demo" ∷ decimal rooms ∷ decimal seed ∷ decimal (count i) ∷ codes "commands" ∷ decimal (counted.2.plans i)
      ∷ codes "plans"
      ∷ decimal (counted.2.steps i) ∷ codes "steps" ∷ decimal (counted.2.goals i) ∷ codes "goals" ∷ [])),
)

-- what is right for the words is right for what they order
pub run-right : (order : Option Order) (source : SourceEnds) (sink : SinkEnds) (result : Status) → order ≡ Some Run
    → StatusRight order source sink result
    → RunRight source sink result
run-right order source sink result is right = subst (λ (o : Option Order). StatusRight o source sink result) is right

pub demo-right : (rooms seed : ℕ) (order : Option Order) (source : SourceEnds) (sink : SinkEnds) (result : Status)
    → order ≡ Some (Demo rooms seed)
    → StatusRight order source sink result → DemoRight rooms seed sink result
demo-right rooms seed order source sink result is right = subst (λ (o : Option Order). StatusRight o source sink result) is right

-- what is right for the order is right for the words that order it
pub ordered : (order found : Option Order) (source : SourceEnds) (sink : SinkEnds) (result : Status) → found ≡ order
    → StatusRight found source sink result
    → StatusRight order source sink result
ordered order found source sink result is right = subst (λ (o : Option Order). StatusRight o source sink result) is right
