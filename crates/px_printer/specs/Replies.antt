-- The text of each reply, and which numbers in it are printed by their names.
use Rattle.std.specs.Prelude.{ℕ, Bool, true, false, List, [], ◌∷◌, ◌++◌, All, Option, None, Some, codes, length, map}
use Rattle.std.specs.Fmt.{decimal}
use Rattle.std.specs.List.{flat_map}
use Rattle.px_names.specs.Lists.{NameLists}
use Rattle.px_names.specs.declared.kind.Kind.TheVariants as kind
use Rattle.px_table.specs.Tables.{rows_of}
use Rattle.px_printer.specs.Blocks.{IsNamedBlock, block_text}
use Rattle.px_printer.specs.DuoLines.{IsNamedDuoLine, duo_line}
use Rattle.px_printer.specs.PursuitEnds.{pursue_end_text}
use Rattle.px_printer.specs.Rows.{IsNamedTable, row_lines}
use Rattle.px_printer.specs.Texts.{HasName, IsNamedAtom, IsNamedInstance, name_text, atom_text, instance_text, text_line, numbered_lines, indented_lines}
use Rattle.px_printer.specs.Turns.{IsNamedTurn, turn_lines}
use Rattle.px_printer.specs.Trees.{IsNamedTree, node_lines, tree_end_line}
use Rattle.px_printer.specs.Whys.{edit_why_text, save_why_text, why_text}
use Rattle.px_printer.specs.declared.reply.Reply.{Reply}
use Rattle.px_printer.specs.declared.reply.Reply.TheVariants.{Plan, Exhausted, NodeLimit, ShapeLimit, Learned, LearnRefused, Shown, Noted, Ran, FactsAre, Unknown, UnknownParam, Saved, SaveRefused, Edited, EditRefused, Certified, CertifyRefused, DuoRan, Pursuit, Tree}
use Rattle.px_printer.specs.declared.spelling.Spelling.TheVariants.{InRows}

-- each number that is printed as a name has one
abbrev pub IsReplyNamed : NameLists → Reply → Type 0
IsReplyNamed names (Plan name moves steps) = HasName names kind.Result name × All (IsNamedInstance names) steps
IsReplyNamed names (Exhausted name) = HasName names kind.Result name
IsReplyNamed names (NodeLimit name nodes moves) = HasName names kind.Result name
IsReplyNamed names (ShapeLimit name node limit) = HasName names kind.Result name
IsReplyNamed names (Learned name params steps) = HasName names kind.Result name
IsReplyNamed names (LearnRefused name why) = HasName names kind.Result name
IsReplyNamed names (Shown name table) = HasName names kind.Result name × IsNamedTable names table
IsReplyNamed names (Noted count) = Unit {0}
IsReplyNamed names (Ran name turns) = HasName names kind.Result name × All (IsNamedTurn names) turns
IsReplyNamed names (FactsAre atoms) = All (IsNamedAtom names) atoms
IsReplyNamed names (Unknown name) = HasName names kind.Result name
IsReplyNamed names (UnknownParam param) = Unit {0}
IsReplyNamed names (Saved name table) = HasName names kind.Result name × IsNamedBlock names table
IsReplyNamed names (SaveRefused name why) = HasName names kind.Result name
IsReplyNamed names (Edited name params steps) = HasName names kind.Result name
IsReplyNamed names (EditRefused name why) = HasName names kind.Result name
IsReplyNamed names (Certified name bytes) = Unit {0}
IsReplyNamed names (CertifyRefused name why) = HasName names kind.Result name
IsReplyNamed names (DuoRan first second lines) =
    HasName names kind.Result first × HasName names kind.Result second × All (IsNamedDuoLine names) lines
IsReplyNamed names (Pursuit name searches turns end) = HasName names kind.Result name × All (IsNamedTurn names) turns
IsReplyNamed names (Tree name tables tree) = HasName names kind.Result name × IsNamedTree names tables tree.nodes

-- a line of words for each reply, and where it has a list a line for each item
abbrev pub reply_text : NameLists → Reply → List ℕ
reply_text names (Plan name moves steps) =
    text_line (codes "plan" ∷ name_text names kind.Result name ∷ decimal (length steps) ∷ codes "steps" ∷ decimal moves ∷ codes "moves"
    ∷ [])
    ++ numbered_lines 1 (map (instance_text names (InRows 0)) steps)
reply_text names (Exhausted name) =
    text_line (codes "exhausted" ∷ name_text names kind.Result name ∷ [])
reply_text names (NodeLimit name nodes moves) =
    text_line (codes "nodelimit" ∷ name_text names kind.Result name ∷ decimal (length nodes) ∷ codes "nodes" ∷ decimal moves ∷ codes "moves"
    ∷ [])
reply_text names (ShapeLimit name node limit) =
    text_line (codes "shapelimit" ∷ name_text names kind.Result name ∷ decimal (length limit.shapes) ∷ codes "shapes" ∷ [])
reply_text names (Learned name params steps) =
    text_line (codes "learned" ∷ name_text names kind.Result name ∷ decimal params ∷ codes "parameters" ∷ decimal steps ∷ codes "steps"
    ∷ [])
reply_text names (LearnRefused name why) =
    text_line (codes "notlearned" ∷ name_text names kind.Result name ∷ why_text why ∷ [])
reply_text names (Shown name table) =
    text_line (codes "table" ∷ name_text names kind.Result name ∷ decimal table.params ∷ codes "parameters" ∷ decimal (length table.steps)
    ∷ codes "steps" ∷ [])
    ++ row_lines names table
reply_text names (Noted count) =
    text_line (codes "noted" ∷ decimal count ∷ [])
reply_text names (Ran name turns) =
    text_line (codes "run" ∷ name_text names kind.Result name ∷ [])
    ++ turn_lines names 1 turns
reply_text names (FactsAre atoms) =
    text_line (codes "facts" ∷ decimal (length atoms) ∷ [])
    ++ indented_lines (map (atom_text names (InRows 0)) atoms)
reply_text names (Unknown name) =
    text_line (codes "unknown" ∷ name_text names kind.Result name ∷ [])
reply_text names (UnknownParam param) =
    text_line (codes "unknown" ∷ (codes "p" ++ decimal param) ∷ [])
reply_text names (Saved name table) =
    block_text names (name_text names kind.Result name) table.params table.steps table.goal (rows_of table.proofs)
reply_text names (SaveRefused name why) =
    text_line (codes "notsaved" ∷ name_text names kind.Result name ∷ save_why_text why ∷ [])
reply_text names (Edited name params steps) =
    text_line (codes "edited" ∷ name_text names kind.Result name ∷ decimal params ∷ codes "parameters" ∷ decimal steps ∷ codes "steps"
    ∷ [])
reply_text names (EditRefused name why) =
    text_line (codes "notedited" ∷ name_text names kind.Result name ∷ edit_why_text why ∷ [])
reply_text names (Certified name bytes) = bytes
reply_text names (CertifyRefused name why) =
    text_line (codes "notcertified" ∷ name_text names kind.Result name ∷ save_why_text why ∷ [])
reply_text names (DuoRan first second lines) =
    text_line (codes "duo" ∷ name_text names kind.Result first ∷ name_text names kind.Result second ∷ [])
    ++ flat_map (duo_line names) lines
reply_text names (Pursuit name searches turns end) =
    text_line (codes "pursue" ∷ name_text names kind.Result name ∷ decimal searches ∷ codes "searches" ∷ [])
    ++ (turn_lines names 1 turns ++ pursue_end_text end)
reply_text names (Tree name tables tree) =
    text_line (codes "tree" ∷ name_text names kind.Result name ∷ decimal (length tree.nodes) ∷ codes "nodes" ∷ [])
    ++ (node_lines names tables 0 tree.nodes ++ tree_end_line tree.end)

-- the certificate, if the reply is one
abbrev pub certificate_in : Reply → Option (List ℕ)
certificate_in (Certified name bytes) = Some bytes
certificate_in _ = None

-- the reply tells what became of a table that was to be kept, shown or saved
abbrev pub is_on_table : Reply → Bool
is_on_table (Learned name params steps) = true
is_on_table (LearnRefused name why) = true
is_on_table (Shown name table) = true
is_on_table (Saved name table) = true
is_on_table (SaveRefused name why) = true
is_on_table (Edited name params steps) = true
is_on_table (EditRefused name why) = true
is_on_table (CertifyRefused name why) = true
is_on_table _ = false

-- it tells why there is no table, or nothing of it
abbrev pub is_refusal : Reply → Bool
is_refusal (LearnRefused name why) = true
is_refusal (SaveRefused name why) = true
is_refusal (EditRefused name why) = true
is_refusal (CertifyRefused name why) = true
is_refusal _ = false
