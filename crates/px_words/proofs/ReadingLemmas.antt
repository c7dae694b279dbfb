-- `clap` takes the words that are taken, and gives them back.
use Rattle.std.proofs.Common.{◌≡◌, ℕ, ◌&&◌, ◌||◌, Bool, eqb, true, false, List, [], ◌∷◌, codes, refl, sym, ap, ap₂, subst, ◌∙◌, arith, inl, inr, true≢false}
use Rattle.std.specs.Prelude.{◌⊎◌, Option, None, Some, is_some, if◌then◌else◌, option_and_then, option_map}
use Rattle.std.specs.List.{list_all}
use Rattle.std.specs.Option.{option_map_or}
use Rattle.std.specs.Str.{bytes_eq}
use Rattle.std.proofs.lemmas.Slice.Eq.{bytes_eq-Decides}
use Rattle.clap.specs.Lexer.{long_of, long_of_rest, short_of, short_of_rest, strip_byte}
use Rattle.clap.specs.Simple.{Shape, built, entered, matches_of}
use Rattle.clap.specs.Takes.{bundle_passes, default_passes, entered_passes, flag_word_passes, is_valid, settle_passes, step_passes, takes, turn_passes, walk_passes, word_passes}
use Rattle.clap.specs.Walk.{Held, Row, Rule, Step, Walk, after_step, arg_by_index, finished, first_of, idle, long_or_other, nothing_held, rows_of, short_or_plain, to_positional, trailing, value, walk, walk_from, walked, word_met}
use Rattle.clap.specs.declared.parser.matches.Found.{Found}
use Rattle.clap.proofs.OnLiterals.{clap_on_literals}
use Rattle.clap.proofs.WalkLemmas.{first_value-rows}
use Rattle.px_words.specs.Numbers.{is_number, number_within}
use Rattle.px_words.specs.Orders.{demo_order, lone_order, order_of}
use Rattle.px_words.specs.Reading.{order_in, order_read, planex}
use Rattle.px_words.specs.declared.orders.Order.{Order}
use Rattle.px_words.specs.declared.orders.Order.TheVariants.{Check, Demo, Run}
use Rattle.px_words.proofs.Decimals.{other-than, plain-number}

-- ---- what `clap` makes of the words

-- the three values
abbrev values : List Row → Option (List ℕ) × (Option (List ℕ) × Option (List ℕ))
values rows = (first_of (codes "WORD") rows, (first_of (codes "ROOMS") rows, first_of (codes "SEED") rows))

run-values : values (matches_of planex (codes "run" ∷ [])) ≡ (Some (codes "run"), (None, None))
unfolding clap_on_literals
run-values = refl

run-taken : takes planex (codes "run" ∷ []) ≡ true
unfolding clap_on_literals
run-taken = refl

check-values : values (matches_of planex (codes "check" ∷ [])) ≡ (Some (codes "check"), (None, None))
unfolding clap_on_literals
check-values = refl

check-taken : takes planex (codes "check" ∷ []) ≡ true
unfolding clap_on_literals
check-taken = refl

-- ---- words that don't begin with a hyphen

-- the walk stands before a word, and no option waits for a value
abbrev before_word : Held → ℕ → Walk
before_word held position = record { held = held; waiting = idle; position = position; is_trailing = false; stopped = None }

no-hyphen : (d : ℕ) (ds : List ℕ) → eqb d 45 ≡ false → strip_byte 45 (d ∷ ds) ≡ None
no-hyphen d ds plain = rw plain refl

no-long : (d : ℕ) (ds : List ℕ) → eqb d 45 ≡ false → long_of (d ∷ ds) ≡ None
no-long d ds plain = ap (λ (rest : Option (List ℕ)). option_and_then long_of_rest (option_and_then (strip_byte 45) rest))
    (no-hyphen d ds plain)

no-short : (d : ℕ) (ds : List ℕ) → eqb d 45 ≡ false → short_of (d ∷ ds) ≡ None
no-short d ds plain = ap (option_and_then short_of_rest) (no-hyphen d ds plain)

no-end : (d : ℕ) (ds : List ℕ) → eqb d 45 ≡ false → bytes_eq (d ∷ ds) (45 ∷ 45 ∷ []) ≡ false
no-end d ds plain = rw plain refl

plain-word : (rules : List Rule) (held : Held) (position d : ℕ) (ds : List ℕ) → eqb d 45 ≡ false
    → word_met rules [] false idle position (d ∷ ds) held ≡ (held, value)
plain-word rules held position d ds plain =
    ap₂ (λ (is_end : Bool) (long : Option (List ℕ × Option (List ℕ))). if is_end then
    (held, trailing position) else long_or_other rules idle (d ∷ ds) long held)
    (no-end d ds plain) (no-long d ds plain)
    ∙ ap (λ (short : Option (List ℕ)). short_or_plain rules idle (d ∷ ds) short held) (no-short d ds plain)

-- the word goes to the positional of its place
plain-walked : (rules : List Rule) (held : Held) (position d : ℕ) (ds : List ℕ) → eqb d 45 ≡ false
    → walked rules [] (before_word held position) (d ∷ ds)
    ≡ to_positional rules (arg_by_index rules position) (d ∷ ds) (before_word held position) held
unfolding walked
plain-walked rules held position d ds plain =
    ap (λ (met : Held × Step). after_step rules (d ∷ ds) (before_word held position) met.0 met.1)
    (plain-word rules held position d ds plain)

plain-passes : (shape : Shape) (held : Held) (position d : ℕ) (ds : List ℕ) → eqb d 45 ≡ false
    → word_passes shape [] false idle (d ∷ ds) held ≡ true
plain-passes shape held position d ds plain =
    ap₂ (λ (is_end : Bool) (long : Option (List ℕ × Option (List ℕ))). is_end
    || flag_word_passes shape.rules shape.args_override_self long (d ∷ ds) held)
    (no-end d ds plain) (no-long d ds plain)
    ∙ ap (λ (short : Option (List ℕ)). option_map_or
    (λ (flags : List ℕ). bundle_passes shape.rules shape.args_override_self flags held) short true) (no-short d ds plain)

plain-turn : (shape : Shape) (held : Held) (position d : ℕ) (ds : List ℕ) → eqb d 45 ≡ false
    → turn_passes shape [] (before_word held position) (d ∷ ds) ≡ step_passes shape position held value
plain-turn shape held position d ds plain =
    ap₂ (λ (passes : Bool) (met : Held × Step). passes && step_passes shape position met.0 met.1)
    (plain-passes shape held position d ds plain) (plain-word shape.rules held position d ds plain)

-- ---- `demo` and two words

abbrev made : Shape
made = (built planex).top

-- what is held after the first word, and after the second
abbrev first_held : Held
first_held = (walk made.rules [] nothing_held (codes "demo" ∷ [])).held

abbrev taken_at : ℕ → List ℕ → Held → Walk
taken_at position word held = to_positional made.rules (arg_by_index made.rules position) word (before_word held position) held

abbrev second_held : List ℕ → Held
second_held rooms = (taken_at 2 rooms first_held).held

abbrev demo_words : List ℕ → List ℕ → List (List ℕ)
demo_words rooms seed = codes "demo" ∷ rooms ∷ seed ∷ []

demo-walk : (d : ℕ) (ds : List ℕ) (e : ℕ) (es : List ℕ) → eqb d 45 ≡ false → eqb e 45 ≡ false
    → walk made.rules [] nothing_held (demo_words (d ∷ ds) (e ∷ es)) ≡ taken_at 3 (e ∷ es) (second_held (d ∷ ds))
unfolding clap_on_literals
demo-walk d ds e es first second =
    ap (λ (w : Walk). walked made.rules [] w (e ∷ es)) (plain-walked made.rules first_held 2 d ds first)
    ∙ plain-walked made.rules (second_held (d ∷ ds)) 3 e es second

demo-values : (d : ℕ) (ds : List ℕ) (e : ℕ) (es : List ℕ) → eqb d 45 ≡ false → eqb e 45 ≡ false
    → values (matches_of planex (demo_words (d ∷ ds) (e ∷ es))) ≡ (Some (codes "demo"), (Some (d ∷ ds), Some (e ∷ es)))
unfolding clap_on_literals
demo-values d ds e es first second = ap (λ (w : Walk). values (finished made.rules w.held)) (demo-walk d ds e es first second)

demo-passes : (d : ℕ) (ds : List ℕ) (e : ℕ) (es : List ℕ) → eqb d 45 ≡ false → eqb e 45 ≡ false
    → walk_passes made [] (walk_from nothing_held) (demo_words (d ∷ ds) (e ∷ es)) ≡ true
unfolding clap_on_literals
demo-passes d ds e es first second =
    ap₂ (λ (b c : Bool). b && c) (plain-turn made first_held 2 d ds first)
    (ap (λ (w : Walk). walk_passes made [] w ((e ∷ es) ∷ [])) (plain-walked made.rules first_held 2 d ds first)
    ∙ ap (λ (b : Bool). b && true) (plain-turn made (second_held (d ∷ ds)) 3 e es second))

-- the test after the walk
abbrev ends_right : Walk → Bool → Bool
ends_right w passes = entered_passes (built planex) w.stopped
    && (passes && (settle_passes made.rules made.args_override_self w.held
    && (list_all default_passes made.rules && is_valid made (finished made.rules w.held) (is_some (entered (built planex) w.stopped)))))

demo-taken : (d : ℕ) (ds : List ℕ) (e : ℕ) (es : List ℕ) → eqb d 45 ≡ false → eqb e 45 ≡ false
    → takes planex (demo_words (d ∷ ds) (e ∷ es)) ≡ true
unfolding clap_on_literals
demo-taken d ds e es first second = ap₂ ends_right (demo-walk d ds e es first second) (demo-passes d ds e es first second)

-- ---- which words are taken

some-cond : {A : Type 0} (b : Bool) (x : Option A) → is_some (if b then x else None) ≡ true → (b ≡ true) × (is_some x ≡ true)
some-cond true x is = (refl, is)
some-cond false x is = absurd (true≢false (sym is))

some-both : (rooms seed : Option ℕ) → is_some (option_and_then (λ (n : ℕ). option_map (Demo n) seed) rooms) ≡ true
    → (is_some rooms ≡ true) × (is_some seed ≡ true)
some-both None seed is = absurd (true≢false (sym is))
some-both (Some rooms) None is = absurd (true≢false (sym is))
some-both (Some rooms) (Some seed) is = (refl, refl)

-- `demo` and two texts that don't begin with a hyphen
record IsDemo (words : List (List ℕ)) : Type 0 where
  first : ℕ
  rest : List ℕ
  second : ℕ
  more : List ℕ
  whole : words ≡ codes "demo" ∷ (first ∷ rest) ∷ (second ∷ more) ∷ []
  plain : eqb first 45 ≡ false
  plain_too : eqb second 45 ≡ false

demo-shape : (word rooms seed : List ℕ) → is_some (order_in word (Some rooms) (Some seed)) ≡ true → IsDemo (word ∷ rooms ∷ seed ∷ [])
demo-shape word rooms seed is =
    let named = some-cond (bytes_eq word (codes "demo")) (demo_order rooms seed) is in
    let numbers = some-both (number_within 3 12 rooms) (number_within 0 2147483647 seed) named.1 in
    let one = plain-number rooms (some-cond (is_number rooms) _ numbers.0).0 in
    let other = plain-number seed (some-cond (is_number seed) _ numbers.1).0 in
    let word_is : word ≡ codes "demo" = (bytes_eq-Decides word (codes "demo")).0 named.0 in
    record {
      first = one.first;
      rest = one.rest;
      second = other.first;
      more = other.rest;
      whole = λ i. word_is i ∷ one.whole i ∷ other.whole i ∷ [];
      plain = other-than one.first 45 one.digit (omega arith);
      plain_too = other-than other.first 45 other.digit (omega arith);
    }

some-either : (b c : Bool) → is_some (if b then Some Run else (if c then Some Check else None)) ≡ true → (b ≡ true) ⊎ (c ≡ true)
some-either true c is = inl refl
some-either false true is = inr refl
some-either false false is = absurd (true≢false (sym is))

-- `run` or `check`, alone
abbrev IsLone : List (List ℕ) → Type 0
IsLone words = (words ≡ codes "run" ∷ []) ⊎ (words ≡ codes "check" ∷ [])

lone-shape : (word : List ℕ) → is_some (lone_order word) ≡ true → IsLone (word ∷ [])
lone-shape word is = elim (some-either (bytes_eq word (codes "run")) (bytes_eq word (codes "check")) is) [
  | inl run ↦ inl (ap (λ (w : List ℕ). w ∷ []) ((bytes_eq-Decides word (codes "run")).0 run))
  | inr check ↦ inr (ap (λ (w : List ℕ). w ∷ []) ((bytes_eq-Decides word (codes "check")).0 check))
]

taken-shape : (words : List (List ℕ)) → is_some (order_of words) ≡ true → IsLone words ⊎ IsDemo words
taken-shape [] is = absurd (true≢false (sym is))
taken-shape (word ∷ []) is = inl (lone-shape word is)
taken-shape (word ∷ rooms ∷ []) is = absurd (true≢false (sym is))
taken-shape (word ∷ rooms ∷ seed ∷ []) is = inr (demo-shape word rooms seed is)
taken-shape (word ∷ rooms ∷ seed ∷ more ∷ words) is = absurd (true≢false (sym is))

-- ---- words that are taken are read

abbrev order-from : Option (List ℕ) × (Option (List ℕ) × Option (List ℕ)) → Option Order
order-from found = option_and_then (λ (word : List ℕ). order_in word found.1.0 found.1.1) found.0

read-from : (found : Found) (rows : List Row) → rows_of found ≡ rows → order_read found ≡ order-from (values rows)
read-from found rows is =
    let word = first_value-rows found (codes "WORD") ∙ ap (first_of (codes "WORD")) is in
    let rooms = first_value-rows found (codes "ROOMS") ∙ ap (first_of (codes "ROOMS")) is in
    let seed = first_value-rows found (codes "SEED") ∙ ap (first_of (codes "SEED")) is in
    λ i. order-from (word i, (rooms i, seed i))

values-order : (words : List (List ℕ)) → is_some (order_of words) ≡ true → order-from (values (matches_of planex words)) ≡ order_of words
values-order words is = elim (taken-shape words is) [
  | inl (inl run) ↦ subst (λ (ws : List (List ℕ)). order-from (values (matches_of planex ws)) ≡ order_of ws) (sym run)
      (ap order-from run-values)
  | inl (inr check) ↦ subst (λ (ws : List (List ℕ)). order-from (values (matches_of planex ws)) ≡ order_of ws) (sym check)
      (ap order-from check-values)
  | inr demo ↦ subst (λ (ws : List (List ℕ)). order-from (values (matches_of planex ws)) ≡ order_of ws) (sym demo.whole)
      (ap order-from (demo-values demo.first demo.rest demo.second demo.more demo.plain demo.plain_too))
]

pub reads : (found : Found) (words : List (List ℕ)) → is_some (order_of words) ≡ true → rows_of found ≡ matches_of planex words
    → order_read found ≡ order_of words
reads found words taken is = read-from found (matches_of planex words) is ∙ values-order words taken

pub takes-them : (words : List (List ℕ)) → is_some (order_of words) ≡ true → takes planex words ≡ true
takes-them words is = elim (taken-shape words is) [
  | inl (inl run) ↦ subst (λ (ws : List (List ℕ)). takes planex ws ≡ true) (sym run) run-taken
  | inl (inr check) ↦ subst (λ (ws : List (List ℕ)). takes planex ws ≡ true) (sym check) check-taken
  | inr demo ↦ subst (λ (ws : List (List ℕ)). takes planex ws ≡ true) (sym demo.whole)
      (demo-taken demo.first demo.rest demo.second demo.more demo.plain demo.plain_too)
]
