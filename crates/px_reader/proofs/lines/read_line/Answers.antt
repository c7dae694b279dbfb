use Rattle.px_reader.proofs.Common.{sym, [], ◌∷◌, inl, refl, subst, chars, stage_view, declared_of, statement_view}
use Rattle.std.proofs.lemmas.Str.{scalars-chars}
use Rattle.px_script.specs.Lexemes.{Begins, name}
use Rattle.px_lines.specs.LineViews.{line_view}
use Rattle.px_lines.specs.Tokens.{lexeme_of}
use Rattle.px_reader.proofs.LineLemmas.{named, ends-read, fails-bad, fails-word, fails-unread, is-statement, is-made}
use Rattle.px_reader.proofs.lines.read_line.Goals as goal

pub returns-in_default : goal.returns-in_default
returns-in_default c = inl (rw c.in_default.is at c.first_token.ensures.not_lexed, refl)

pub returns-in_default-found : goal.returns-in_default-found
returns-in_default-found c =
    ([], rw c.in_default-found.is at (rw c.in-Ok.is at c.first_token.ensures.ignored), refl)

pub returns-then-are_tokens : goal.returns-then-are_tokens
returns-then-are_tokens c =
    let d = declared_of c.args.so_far.now in
    let begins = rw c.in-Some.is at (rw c.in-Ok.is at c.first_token.ensures.token) in
    let lexed = rw c.if-are_tokens.true at c.are_tokens.ensures in
    fails-word (stage_view c.args.stage.now) d (chars c.args.line.now) (lexeme_of c.in-Some.first) (chars c.in-Some.rest.now) begins
    lexed.0 lexed.1 (rw c.in_default-word_of.is at c.word_of.ensures lexed.0)

pub returns-in_default-word_of : goal.returns-in_default-word_of
returns-in_default-word_of c =
    let d = declared_of c.args.so_far.now in
    let begins = rw c.in-Some.is at (rw c.in-Ok.is at c.first_token.ensures.token) in
    fails-bad (stage_view c.args.stage.now) d (chars c.args.line.now) (lexeme_of c.in-Some.first) (chars c.in-Some.rest.now) begins
    (rw c.if-are_tokens.false at c.are_tokens.ensures)

pub returns-in_default-2 : goal.returns-in_default-2
returns-in_default-2 c =
    let d = declared_of c.args.so_far.now in
    let begins = rw c.in-Some.is at (rw c.in-Ok.is at c.first_token.ensures.token) in
    let word = subst (λ l. Begins (chars c.args.line.now) l (chars c.in-Some.rest.now)) c.in-Some-word_of.ensures.0 begins in
    fails-unread (stage_view c.args.stage.now) d (chars c.args.line.now) (name c.in-Some-word_of.word.now) c.in-Some.rest.now word
    c.in-Some-word_of.ensures.1 (λ others lexes. rw c.in_default-2.is at (c.in_ok-formed.ensures.none d others
    (sym c.has_building-with_building.ensures) c.in-Some-word_of.ensures.1 lexes))

pub read_statement-requires-clause-same : goal.read_statement-requires-clause-same
read_statement-requires-clause-same c =
    let d = declared_of c.args.so_far.now in
    let lexed = rw c.in-Some-2.is at c.in_ok-formed.ensures.lexed in
    let lexemes = name c.in-Some-word_of.word.now ∷ lexed.0 in
    let read = rw c.in-Some-2.is at (c.in_ok-formed.ensures.line d lexed.0 (sym c.has_building-with_building.ensures)
    c.in-Some-word_of.ensures.1 lexed.1) in
    let is = is-statement d lexemes _ (sym c.has_building-with_building.ensures) (line_view c.in-Some-2.formed) read
    (statement_view c.in-Some-statement.statement) (rw c.in-Some-statement.is at c.statement.ensures.by_rows) in
    is.1

pub read_statement-requires-clause-formed : goal.read_statement-requires-clause-formed
read_statement-requires-clause-formed c =
    let d = declared_of c.args.so_far.now in
    let lexed = rw c.in-Some-2.is at c.in_ok-formed.ensures.lexed in
    let lexemes = name c.in-Some-word_of.word.now ∷ lexed.0 in
    let read = rw c.in-Some-2.is at (c.in_ok-formed.ensures.line d lexed.0 (sym c.has_building-with_building.ensures)
    c.in-Some-word_of.ensures.1 lexed.1) in
    let is = is-statement d lexemes _ (sym c.has_building-with_building.ensures) (line_view c.in-Some-2.formed) read
    (statement_view c.in-Some-statement.statement) (rw c.in-Some-statement.is at c.statement.ensures.by_rows) in
    is.0.1

pub read_statement-requires-clause-named : goal.read_statement-requires-clause-named
read_statement-requires-clause-named c =
    let d = declared_of c.args.so_far.now in
    let begins = rw c.in-Some.is at (rw c.in-Ok.is at c.first_token.ensures.token) in
    let word = subst (λ l. Begins (chars c.args.line.now) l (chars c.in-Some.rest.now)) c.in-Some-word_of.ensures.0 begins in
    let lexed = rw c.in-Some-2.is at c.in_ok-formed.ensures.lexed in
    let lexemes = name c.in-Some-word_of.word.now ∷ lexed.0 in
    let read = rw c.in-Some-2.is at (c.in_ok-formed.ensures.line d lexed.0 (sym c.has_building-with_building.ensures)
    c.in-Some-word_of.ensures.1 lexed.1) in
    let is = is-statement d lexemes _ (sym c.has_building-with_building.ensures) (line_view c.in-Some-2.formed) read
    (statement_view c.in-Some-statement.statement) (rw c.in-Some-statement.is at c.statement.ensures.by_rows) in
    named (stage_view c.args.stage.now) d (chars c.args.line.now) lexemes (chars c.in-Some.rest.now, word, lexed.1)
    (scalars-chars c.args.line.now c.utf8.line) (statement_view c.in-Some-statement.statement) is.0

pub returns-in-Some-statement : goal.returns-in-Some-statement
returns-in-Some-statement c =
    let d = declared_of c.args.so_far.now in
    let begins = rw c.in-Some.is at (rw c.in-Ok.is at c.first_token.ensures.token) in
    let word = subst (λ l. Begins (chars c.args.line.now) l (chars c.in-Some.rest.now)) c.in-Some-word_of.ensures.0 begins in
    let lexed = rw c.in-Some-2.is at c.in_ok-formed.ensures.lexed in
    let lexemes = name c.in-Some-word_of.word.now ∷ lexed.0 in
    let read = rw c.in-Some-2.is at (c.in_ok-formed.ensures.line d lexed.0 (sym c.has_building-with_building.ensures)
    c.in-Some-word_of.ensures.1 lexed.1) in
    let is = is-statement d lexemes _ (sym c.has_building-with_building.ensures) (line_view c.in-Some-2.formed) read
    (statement_view c.in-Some-statement.statement) (rw c.in-Some-statement.is at c.statement.ensures.by_rows) in
    ends-read (stage_view c.args.stage.now) d (chars c.args.line.now) c.args.number (declared_of c.read_statement.new.so_far) lexemes
    (chars c.in-Some.rest.now, word, lexed.1) (statement_view c.in-Some-statement.statement) is.0
    c.read_statement.result c.read_statement.ensures.fault c.read_statement.ensures.declared

pub returns : goal.returns
returns c =
    let d = declared_of c.args.so_far.now in
    let lexed = rw c.in-Some-2.is at c.in_ok-formed.ensures.lexed in
    let lexemes = name c.in-Some-word_of.word.now ∷ lexed.0 in
    let read = rw c.in-Some-2.is at (c.in_ok-formed.ensures.line d lexed.0 (sym c.has_building-with_building.ensures)
    c.in-Some-word_of.ensures.1 lexed.1) in
    is-made d lexemes _ (sym c.has_building-with_building.ensures) (line_view c.in-Some-2.formed) read
    (rw c.in-None.is at c.statement.ensures.by_rows)
