-- That commands have lawful replies, and scripts transcripts.
use Rattle.std.specs.Prelude.{ℕ, List, All}
use Rattle.px_terms.specs.declared.atom.Atom.{Atom}
use Rattle.px_terms.specs.declared.problem.Problem.{Problem}
use Rattle.px_terms.specs.Validity.{IsAtomOf, IsValid}
use Rattle.px_printer.specs.declared.reply.Reply.{Reply}
use Rattle.px_script.specs.declared.command.Command.{Command}
use Rattle.px_script.specs.declared.command.Command.TheVariants.{Edit, Plan, Pursue, Tree}
use Rattle.px_script.specs.Content.{ScriptValue}
use Rattle.px_script.specs.Scripts.{IsScript}
use Rattle.px_script.specs.Stages.{stage_now}
use Rattle.px_session.specs.Lawful.{Lawful}
use Rattle.px_session.specs.Sessions.{IsSession, SessionState}
use Rattle.px_session.specs.Transcripts.{Transcript}

-- some reply is lawful, and leaves some state
abbrev pub HasReply : Problem → SessionState → Command → Type 0
HasReply problem old given = (answer : Reply) × ((new : SessionState) × Lawful problem old given answer new)

-- the command searches for nothing and edits nothing
abbrev pub AsksNoSearch : Command → Type 0
AsksNoSearch (Plan name goal variable_count) = ⊥
AsksNoSearch (Edit name source prefix wanted) = ⊥
AsksNoSearch (Pursue name goal variable_count) = ⊥
AsksNoSearch (Tree name nodes goal variable_count) = ⊥
AsksNoSearch _ = Unit {0}

-- In a session's state each command has a lawful reply. For a plan this is a double negation, since which one it is takes a search to say;
-- so it is for a pursuit, which ends, and for the tree of a search; and so it is for editing, since which steps are kept takes work to say.
pub record RepliesExist : Type 0 where
  pub others : (problem : Problem) (old : SessionState) (given : Command) → IsValid problem → IsSession problem old → AsksNoSearch given
      → HasReply problem old given
  pub plans : (problem : Problem) (old : SessionState) (name : ℕ) (goal : List Atom) (variable_count : ℕ) → IsValid problem → IsSession problem old
      → All (IsAtomOf problem variable_count) goal → ¬ ¬ HasReply problem old (Plan name goal variable_count)
  pub pursued : (problem : Problem) (old : SessionState) (name : ℕ) (goal : List Atom) (variable_count : ℕ) → IsValid problem
      → IsSession problem old → All (IsAtomOf problem variable_count) goal → ¬ ¬ HasReply problem old (Pursue name goal variable_count)
  pub grown : (problem : Problem) (old : SessionState) (name nodes : ℕ) (goal : List Atom) (variable_count : ℕ)
      → ¬ ¬ HasReply problem old (Tree name nodes goal variable_count)
  pub edited : (problem : Problem) (old : SessionState) (name source prefix : ℕ) (wanted : List (ℕ × ℕ)) → IsValid problem
      → IsSession problem old → ¬ ¬ HasReply problem old (Edit name source prefix wanted)

-- there are no bytes that are a script of which no text is the transcript
abbrev pub TranscriptsExist : Type 0
TranscriptsExist = (bytes : List ℕ) (script : ScriptValue) → IsScript stage_now bytes script
    → ¬ ¬ ((text : List ℕ) × Transcript bytes text)
