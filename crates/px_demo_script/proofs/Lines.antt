-- Each line of an errand is read as the lexemes of its statement.
use Rattle.std.specs.Prelude.{◌^◌}
use Rattle.std.specs.Str.{chars, is_utf8}
use Rattle.std.proofs.lemmas.Fmt.{IsAscii-decimal}
use Rattle.std.proofs.lemmas.Str.{IsUtf8-from_ascii}
use Rattle.std.proofs.lemmas.Str.Ascii.{IsAscii-cons}
use lib.Utf8.{encode}
use Rattle.unicode_ident.proofs.Computing.{unicode_ident}
use Rattle.std.specs.List.{join_by}
use Rattle.px_demo.specs.Script.{DemoLine, learn_line, plan_line, run_line}
use Rattle.px_script.specs.Statements.{learn, plan, run}
use Rattle.px_script.specs.declared.kinds.Sign.TheVariants.{Bare as bare}
use Rattle.px_script.proofs.Common.{◌≡◌, ℕ, ◌<◌, ◌≤◌, true, List, [], ◌∷◌, ◌++◌, refl, sym, subst, arith, append-nil, codes, decimal, flat_map, starts_name, robot_name, Lexeme, name, sign, variable, IsLexeme, SignedAtom, named, spelling}
use Rattle.px_saved.proofs.Words.{Ends, IsWord, Reads, ascii-prefix, closing-ends, comma-ends, is_inside, keyword, name-word, nothing-ends, nothing-reads, opening-ends, sign-word, space-ends, space-reads, variable-word, word-before, word-reads}

-- a line without what ends it
abbrev pub line_bytes : DemoLine → List ℕ
line_bytes words = join_by (λ word. word) (codes " ") words

-- ---- a letter and a number are a name

lettered : (letter k : ℕ) → letter < 128 → starts_name letter ≡ true → is_inside letter ≡ true → k < 2 ^ 31
    → IsWord (letter ∷ decimal k) (name (letter ∷ decimal k))
lettered letter k low starts inside below =
    let text = letter ∷ decimal k in
    let is = subst (IsLexeme (variable text)) (ascii-prefix 63 text (omega arith)) (variable-word letter k low starts inside below).is in
    name-word text (IsUtf8-from_ascii text (IsAscii-cons letter (decimal k) low (IsAscii-decimal k (omega (arith, below))))) is.1

pub room-word : (k : ℕ) → k < 2 ^ 31 → IsWord (codes "R" ++ decimal k) (name (codes "R" ++ decimal k))
unfolding unicode_ident
room-word k below = lettered 82 k (omega arith) refl refl below

pub plan-word : (k : ℕ) → k < 2 ^ 31 → IsWord (codes "G" ++ decimal k) (name (codes "G" ++ decimal k))
unfolding unicode_ident
plan-word k below = lettered 71 k (omega arith) refl refl below

pub table-word : (k : ℕ) → k < 2 ^ 31 → IsWord (codes "M" ++ decimal k) (name (codes "M" ++ decimal k))
unfolding unicode_ident
table-word k below = lettered 77 k (omega arith) refl refl below

-- ---- words of the language

word-plan : IsWord (codes "plan") (name (codes "plan"))
unfolding unicode_ident chars is_utf8 encode
word-plan = keyword (codes "plan") refl refl

word-learn : IsWord (codes "learn") (name (codes "learn"))
unfolding unicode_ident chars is_utf8 encode
word-learn = keyword (codes "learn") refl refl

word-from : IsWord (codes "from") (name (codes "from"))
unfolding unicode_ident chars is_utf8 encode
word-from = keyword (codes "from") refl refl

word-run : IsWord (codes "run") (name (codes "run"))
unfolding unicode_ident chars is_utf8 encode
word-run = keyword (codes "run") refl refl

word-in_room : IsWord (codes "INROOM") (name (codes "INROOM"))
unfolding unicode_ident chars is_utf8 encode
word-in_room = keyword (codes "INROOM") refl refl

word-robot : IsWord (codes "ROBOT") (name (codes "ROBOT"))
unfolding unicode_ident chars is_utf8 encode
word-robot = keyword (codes "ROBOT") refl refl

opening : IsWord (40 ∷ []) (sign 40)
opening = sign-word 40 refl (omega arith) refl

comma : IsWord (44 ∷ []) (sign 44)
comma = sign-word 44 refl (omega arith) refl

closing : IsWord (41 ∷ []) (sign 41)
closing = sign-word 41 refl (omega arith) refl

-- ---- words after spaces

abbrev spaced : List (List ℕ) → List ℕ
spaced words = flat_map (λ word. codes " " ++ word) words

spaced-ends : (words : List (List ℕ)) → Ends (spaced words)
spaced-ends [] = nothing-ends
spaced-ends (word ∷ words) = space-ends (word ++ spaced words)

-- a word, and words after spaces
prefix-reads : (word : List ℕ) (words : List (List ℕ)) (lexeme : Lexeme) (lexemes : List Lexeme) → IsWord word lexeme
    → Reads (spaced words) lexemes → Reads (word ++ spaced words) (lexeme ∷ lexemes)
prefix-reads word words lexeme lexemes is more = word-before word (spaced words) lexeme lexemes is (spaced-ends words) more

next-reads : (word : List ℕ) (words : List (List ℕ)) (lexeme : Lexeme) (lexemes : List Lexeme) → IsWord word lexeme
    → Reads (spaced words) lexemes → Reads (spaced (word ∷ words)) (lexeme ∷ lexemes)
next-reads word words lexeme lexemes is more =
    space-reads (word ++ spaced words) lexeme lexemes (prefix-reads word words lexeme lexemes is more)

-- ---- the three lines

-- that the robot is in the room
abbrev pub in_room_of : List ℕ → SignedAtom
in_room_of room = record { sign = bare; atom = record { predicate = codes "INROOM"; arguments = named robot_name ∷ named room ∷ [] } }

abbrev goal_lexemes : List ℕ → List Lexeme
goal_lexemes room = sign 40 ∷ name (codes "ROBOT") ∷ sign 44 ∷ name room ∷ sign 41 ∷ []

goal-reads : (room : List ℕ) → IsWord room (name room)
    → Reads (codes "INROOM(ROBOT," ++ (room ++ codes ")")) (name (codes "INROOM") ∷ goal_lexemes room)
goal-reads room is =
    let after_room = word-reads (41 ∷ []) [] (sign 41) [] closing tt nothing-reads in
    let from_room = word-before room (codes ")") (name room) (sign 41 ∷ []) is (closing-ends []) after_room in
    let from_comma = word-reads (44 ∷ []) (room ++ codes ")") (sign 44) (name room ∷ sign 41 ∷ []) comma tt from_room in
    let from_robot = word-before (codes "ROBOT") (codes "," ++ (room ++ codes ")")) (name (codes "ROBOT")) _ word-robot
    (comma-ends (room ++ codes ")")) from_comma in
    let from_opening = word-reads (40 ∷ []) (codes "ROBOT," ++ (room ++ codes ")")) (sign 40) _ opening tt from_robot in
    word-before (codes "INROOM") (codes "(ROBOT," ++ (room ++ codes ")")) (name (codes "INROOM")) _ word-in_room
    (opening-ends (codes "ROBOT," ++ (room ++ codes ")"))) from_opening

pub plan-reads : (j room : ℕ) → j < 2 ^ 31 → room < 2 ^ 31
    → Reads (line_bytes (plan_line j room)) (spelling (plan (codes "G" ++ decimal j) (in_room_of (codes "R" ++ decimal room) ∷ [])))
plan-reads j room low there =
    let atom = codes "INROOM(ROBOT,R" ++ (decimal room ++ codes ")") in
    let goal = goal-reads (codes "R" ++ decimal room) (room-word room there) in
    let last = space-reads (atom ++ []) (name (codes "INROOM")) (goal_lexemes (codes "R" ++ decimal room))
    (subst (λ bytes. Reads bytes (name (codes "INROOM") ∷ goal_lexemes (codes "R" ++ decimal room))) (sym (append-nil atom)) goal) in
    prefix-reads (codes "plan") ((codes "G" ++ decimal j) ∷ atom ∷ []) (name (codes "plan")) _ word-plan
    (next-reads (codes "G" ++ decimal j) (atom ∷ []) (name (codes "G" ++ decimal j)) _ (plan-word j low) last)

pub learn-reads : (j : ℕ) → j < 2 ^ 31
    → Reads (line_bytes (learn_line j)) (spelling (learn (codes "M" ++ decimal j) (codes "G" ++ decimal j)))
learn-reads j low =
    prefix-reads (codes "learn") ((codes "M" ++ decimal j) ∷ codes "from" ∷ (codes "G" ++ decimal j) ∷ []) (name (codes "learn")) _ word-learn
    (next-reads (codes "M" ++ decimal j) (codes "from" ∷ (codes "G" ++ decimal j) ∷ []) (name (codes "M" ++ decimal j)) _ (table-word j low)
    (next-reads (codes "from") ((codes "G" ++ decimal j) ∷ []) (name (codes "from")) _ word-from
    (next-reads (codes "G" ++ decimal j) [] (name (codes "G" ++ decimal j)) [] (plan-word j low) nothing-reads)))

pub run-reads : (j : ℕ) → j < 2 ^ 31 → Reads (line_bytes (run_line j)) (spelling (run (codes "G" ++ decimal j) []))
run-reads j low = prefix-reads (codes "run") ((codes "G" ++ decimal j) ∷ []) (name (codes "run")) _ word-run
    (next-reads (codes "G" ++ decimal j) [] (name (codes "G" ++ decimal j)) [] (plan-word j low) nothing-reads)
