use Rattle.px_lines.proofs.Common.{◌∙◌, sym}
use Rattle.px_lines.specs.LineViews.{line_view}
use Rattle.px_lines.proofs.FormedLines.{lexed-read, formed-none, formed-some, formed-not}
use Rattle.px_lines.proofs.Made.{formed-statement, formed-nothing}
use Rattle.px_lines.proofs.reading.formed_line.Goals as goal

pub returns-in_default-clause-none : goal.returns-in_default-clause-none
returns-in_default-clause-none c = λ d lexemes building known is.
    formed-nothing d _ (formed-none d lexemes c.args.with_building c.args.word.now c.args.text.now building is
    (rw c.in_default.is at c.in_ok-line.ensures.found))

pub returns-then-is_formed-clause-line : goal.returns-then-is_formed-clause-line
returns-then-is_formed-clause-line c = λ d lexemes building known is.
    formed-statement d _ (line_view c.in-Some.line) (formed-some d lexemes c.args.with_building c.args.word.now c.args.text.now building is
    (line_view c.in-Some.line) (rw c.in-Some.is at c.in_ok-line.ensures.found)
    (sym (c.is_formed.ensures d (rw c.in-Some.is at (c.in_ok-line.ensures.word d.version known)) building) ∙ c.if-is_formed.true))

pub returns-then-is_formed-clause-lexed : goal.returns-then-is_formed-clause-lexed
returns-then-is_formed-clause-lexed c = lexed-read c.args.text.now _ (line_view c.in-Some.line)
    (rw c.in-Some.is at c.in_ok-line.ensures.found)

pub returns-clause-none : goal.returns-clause-none
returns-clause-none c = λ d lexemes building known is.
    formed-nothing d _ (formed-not d lexemes c.args.with_building c.args.word.now c.args.text.now building is (line_view c.in-Some.line)
    (rw c.in-Some.is at c.in_ok-line.ensures.found)
    (sym (c.is_formed.ensures d (rw c.in-Some.is at (c.in_ok-line.ensures.word d.version known)) building) ∙ c.if-is_formed.false))
