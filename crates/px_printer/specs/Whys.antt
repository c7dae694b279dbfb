-- The words for why a plan isn't learned, a table isn't saved or certified, and a table isn't edited.
use Rattle.std.specs.Prelude.{ℕ, List, codes}
use Rattle.px_printer.specs.declared.reply.EditWhy.{EditWhy}
use Rattle.px_printer.specs.declared.reply.EditWhy.TheVariants as edit
use Rattle.px_printer.specs.declared.reply.SaveWhy.{SaveWhy}
use Rattle.px_printer.specs.declared.reply.SaveWhy.TheVariants as save
use Rattle.px_printer.specs.declared.reply.Why.{Why}
use Rattle.px_printer.specs.declared.reply.Why.TheVariants.{TooLong, TooDeep, TooWide, Full}

abbrev pub why_text : Why → List ℕ
why_text TooLong = codes "toolong"
why_text TooDeep = codes "toodeep"
why_text TooWide = codes "toowide"
why_text Full = codes "full"

abbrev pub save_why_text : SaveWhy → List ℕ
save_why_text save.TooLong = codes "toolong"
save_why_text save.TooDeep = codes "toodeep"
save_why_text save.TooMany = codes "toomany"

abbrev pub edit_why_text : EditWhy → List ℕ
edit_why_text edit.Prefix = codes "prefix"
edit_why_text edit.Want = codes "want"
edit_why_text edit.TooLong = codes "toolong"
edit_why_text edit.TooDeep = codes "toodeep"
edit_why_text edit.Full = codes "full"
