-- What `save` prints is read back.
use Rattle.std.specs.Prelude.{◌≡◌, ◌≤◌, ◌<◌, ℕ, List, [], ◌∷◌, ◌++◌, Contains, codes, length}
use Rattle.px_names.specs.Lists.{AreNameLists, NameLists, with_name}
use Rattle.px_names.specs.declared.kind.Kind.TheVariants as kind
use Rattle.px_printer.specs.Replies.{reply_text}
use Rattle.px_printer.specs.Texts.{HasName, name_text}
use Rattle.px_printer.specs.declared.reply.Reply.{Reply}
use Rattle.px_printer.specs.declared.reply.Reply.TheVariants.{Saved}
use Rattle.px_script.specs.Content.{ScriptValue}
use Rattle.px_script.specs.Limits.{greatest}
use Rattle.px_script.specs.Ranges.{IsSavedTable}
use Rattle.px_script.specs.Scripts.{IsScript}
use Rattle.px_script.specs.Stages.{stage_now}
use Rattle.px_script.specs.declared.limits.Limit.TheVariants as limit
use Rattle.px_table.specs.declared.table.Table.{Table}
use Rattle.px_terms.specs.declared.problem.Problem.{Problem}

-- The script is of version 2 or a later one and has no command. Its problem is this one, and so are its names of objects, predicates and
-- operators. It has room for one more table, and no result of the name.
pub record IsReadyFor (problem : Problem) (names : NameLists) (name : List ℕ) (script : ScriptValue) : Type 0 where
  pub version : 2 ≤ script.version
  pub commands : script.commands ≡ []
  pub problem_is : script.problem ≡ problem
  pub objects : script.names.objects ≡ names.objects
  pub predicates : script.names.predicates ≡ names.predicates
  pub operators : script.names.operators ≡ names.operators
  pub room : length script.saved < greatest 2 limit.Tables
  pub fresh : ¬ Contains script.names.results name

-- the script with a table of that name last
abbrev pub with_saved : List ℕ → Table → ScriptValue → ScriptValue
with_saved name table script = record script {
  names = with_name kind.Result name script.names;
  saved = script.saved ++ (length script.names.results, table) ∷ [];
}

-- Bytes that end with a line feed and are such a script are, with the text after them, the same script with the table last.
pub record IsReadBack (problem : Problem) (names : NameLists) (name : List ℕ) (table : Table) (text : List ℕ) : Type 0 where
  pub again : (bytes : List ℕ) (script : ScriptValue) → IsScript stage_now (bytes ++ codes "\n") script
      → IsReadyFor problem names name script → IsScript stage_now (bytes ++ (codes "\n" ++ text)) (with_saved name table script)

-- where the reply is a saved table, its text is read back
abbrev pub ReplyIsReadBack : Problem → NameLists → Reply → Type 0
ReplyIsReadBack problem names (Saved number table) =
    IsReadBack problem names (name_text names kind.Result number) table (reply_text names (Saved number table))
ReplyIsReadBack problem names _ = Unit {0}

-- a script may declare the name, by its length
abbrev pub IsShortName : List ℕ → Type 0
IsShortName name = length name ≤ greatest 2 limit.NameBytes

-- a table within the limits of a block, under a short name, is read back
abbrev pub SavedIsReadBack : Type 0
SavedIsReadBack = (problem : Problem) (names : NameLists) (number : ℕ) (table : Table) → AreNameLists names
    → HasName names kind.Result number → IsShortName (name_text names kind.Result number) → IsSavedTable 2 problem table
    → ReplyIsReadBack problem names (Saved number table)
