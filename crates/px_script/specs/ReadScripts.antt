-- What a script that was read is about.
use Rattle.px_script.specs.Content.{ScriptValue}
use Rattle.px_script.specs.ScriptParts.{script_of}
use Rattle.px_script.specs.declared.script.Script.{Script}

abbrev pub content : Script → ScriptValue
content s = script_of s.version s.names s.problem s.facts s.building s.tables s.commands
