-- A text, read from left to right: things of one kind to the end of a line, and items in parentheses.
use Rattle.px_lines.proofs.Common.{◌≡◌, ℕ, zero, suc, ◌≤◌, ◌<◌, Bool, true, false, ◌==◌, List, [], ◌∷◌, ◌++◌, map, length, refl, sym, ap, ◌∙◌, subst, arith, append_assoc, append-nil, length-append, Option, None, Some, IfSome, option_map, option_and_then, if◌then◌else◌, map-append, Lexeme, sign, ReadsBack, ReadsSpelled, atom-sound, atoms-back, binding-sound, bindings-back, pair-sound, pairs-back, room-edit-sound, room-edits-back, all_within, all_of, atom_at, room_edit_at, binding_at, pair_at, items_after, item_at, parts-back, part-sound, part_at, names_of, Follows, if_whole, is_end, is_none, is_whole, lexemes_in, name_in, number_in}
use Rattle.std.specs.Prelude.{◌&&◌}
use Rattle.px_script.specs.Lexemes.{name, variable, number}
use Rattle.px_script.specs.Parsing.{numbers_of}

pub some-same : {A : Type 0} (a b : A) → Some a ≡ Some b → a ≡ b
some-same a b e = subst (λ o. IfSome o (λ x. a ≡ x)) e refl

-- ---- things of one kind

-- a reader of one thing takes at least one lexeme
abbrev pub Advances : {A : Type 0} → (List Lexeme → Option (A × List Lexeme)) → Type 0
Advances {A = A} one = (lexemes : List Lexeme) (prefix : A × List Lexeme) → one lexemes ≡ Some prefix → length prefix.1 < length lexemes

advances-spelled : {A : Type 0} (good : A → Bool) (one : List Lexeme → Option (A × List Lexeme)) (spell : A → List Lexeme)
    → ReadsBack good one spell → ReadsSpelled one spell → Advances one
advances-spelled good one spell back sound lexemes prefix e = let long = back.long prefix.0 in
    let read = subst (λ o. IfSome o (λ f. lexemes ≡ spell f.0 ++ f.1)) e (sound lexemes) in
    let whole = ap length read ∙ length-append (spell prefix.0) prefix.1 in omega (arith, long, whole)

pub atom-advances : Advances atom_at
atom-advances = advances-spelled _ atom_at _ atoms-back atom-sound

pub room-edit-advances : Advances room_edit_at
room-edit-advances = advances-spelled _ room_edit_at _ room-edits-back room-edit-sound

pub binding-advances : Advances binding_at
binding-advances = advances-spelled _ binding_at _ bindings-back binding-sound

pub part-advances : Advances part_at
part-advances = advances-spelled _ part_at _ parts-back part-sound

pub pair-advances : Advances pair_at
pair-advances = advances-spelled _ pair_at _ pairs-back pair-sound

-- things that were read, put before those that follow
abbrev pub before : {A : Type 0} → List A → Option (List A) → Option (List A)
before got found = option_map (λ more. got ++ more) found

before-more : {A : Type 0} (got : List A) (a : A) (found : Option (List A))
    → before got (option_map (λ more. a ∷ more) found) ≡ before (got ++ a ∷ []) found
before-more got a None = refl
before-more got a (Some more) = ap Some (sym (append_assoc got (a ∷ []) more))

module _ {A : Type 0} (one : List Lexeme → Option (A × List Lexeme)) (advances : Advances one) where
  -- what the rest leads to, by what the first thing is
  abbrev after_one : (List Lexeme → Option (List A)) → Option (A × List Lexeme) → Option (List A)
  after_one rest found = option_and_then (λ prefix. option_map (λ more. prefix.0 ∷ more) (rest prefix.1)) found

  fuel-step : (n m : ℕ) (xs : List Lexeme) (found : Option (A × List Lexeme)) → one xs ≡ found → length xs ≤ suc n → length xs ≤ suc m
      → ((ys : List Lexeme) → length ys ≤ n → length ys ≤ m → all_within one n ys ≡ all_within one m ys)
      → after_one (all_within one n) found ≡ after_one (all_within one m) found
  fuel-step n m xs None e short less recur = refl
  fuel-step n m xs (Some prefix) e short less recur = let fewer = advances xs prefix e in
      ap (option_map (λ more. prefix.0 ∷ more)) (recur prefix.1 (omega (arith, fewer, short)) (omega (arith, fewer, less)))

  all-ended : (n : ℕ) → all_within one n [] ≡ Some []
  unfolding all_within
  all-ended zero = refl
  all-ended (suc n) = refl

  -- enough steps are enough
  fuel : (n m : ℕ) (xs : List Lexeme) → length xs ≤ n → length xs ≤ m → all_within one n xs ≡ all_within one m xs
  unfolding all_within
  fuel n m [] short less = all-ended n ∙ sym (all-ended m)
  fuel zero m (x ∷ xs) short less = absurd (omega (arith, short))
  fuel (suc n) zero (x ∷ xs) short less = absurd (omega (arith, less))
  fuel (suc n) (suc m) (x ∷ xs) short less = fuel-step n m (x ∷ xs) (one (x ∷ xs)) refl short less (λ ys s l. fuel n m ys s l)

  -- the first thing, and then the others
  all-first : (xs : List Lexeme) (a : A) (after : List Lexeme) → Some (a, after) ≡ one xs
      → all_of one xs ≡ option_map (λ more. a ∷ more) (all_of one after)
  unfolding all_within
  all-first [] a after e = let fewer = advances [] (a, after) (sym e) in absurd (omega (arith, fewer))
  all-first (x ∷ xs) a after e = let fewer = advances (x ∷ xs) (a, after) (sym e) in
      ap (after_one (all_within one (length xs))) (sym e)
      ∙ ap (option_map (λ more. a ∷ more)) (fuel (length xs) (length after) after (omega (arith, fewer)) (omega arith))

  all-none : (x : Lexeme) (xs : List Lexeme) → None ≡ one (x ∷ xs) → None ≡ all_of one (x ∷ xs)
  unfolding all_within
  all-none x xs e = ap (after_one (all_within one (length xs))) e

  -- nothing more is read: nothing follows, or what follows is no such thing
  nothing-more : (xs : List Lexeme) (b : Bool) → None ≡ one xs → (is_none xs && b) ≡ true → (b ≡ true) × (all_of one xs ≡ Some [])
  nothing-more [] b e ends = (ends, all-ended 0)
  nothing-more (x ∷ xs) b e ends = cc

  no-thing : (xs : List Lexeme) (b : Bool) → None ≡ one xs → (is_none xs && b) ≡ false
      → (got : List A) → None ≡ (if b then before got (all_of one xs) else None)
  no-thing [] true e ends got = cc
  no-thing (x ∷ xs) true e ends got = ap (before got) (all-none x xs e)
  no-thing xs false e ends got = refl

-- The text up to the rest is these things: all are these and what the rest are.
pub record AreReadTo {T A : Type 0} (view : T → A) (one : List Lexeme → Option (A × List Lexeme)) (text rest : List ℕ) (got : List T)
    : Type 0 where
  pub whole : all_of one (lexemes_in text) ≡ before (map view got) (all_of one (lexemes_in rest))
  pub follows : Follows text rest

module _ {T A : Type 0} {view : T → A} {one : List Lexeme → Option (A × List Lexeme)} (advances : Advances one) {text rest : List ℕ}
    {got : List T} (read : AreReadTo view one text rest got) where
  pub things-more : (thing : T) (after : List ℕ) → Some (view thing, lexemes_in after) ≡ one (lexemes_in rest) → Follows rest after
      → (new : List T) → new ≡ got ++ thing ∷ [] → AreReadTo view one text after new
  things-more thing after e follows new is = record {
    whole = read.whole ∙ ap (before (map view got)) (all-first one advances (lexemes_in rest) (view thing) (lexemes_in after) e)
        ∙ before-more (map view got) (view thing) (all_of one (lexemes_in after))
        ∙ ap (λ t. before t (all_of one (lexemes_in after))) (sym (ap (map view) is ∙ map-append view got (thing ∷ [])));
    follows = (follows.0, follows.1 ∙ read.follows.1);
  }

  pub things-fewer : (thing : T) (after : List ℕ) → Some (view thing, lexemes_in after) ≡ one (lexemes_in rest)
      → length (lexemes_in after) < length (lexemes_in rest)
  things-fewer thing after e = advances (lexemes_in rest) (view thing, lexemes_in after) (sym e)

  module _ (none : None ≡ one (lexemes_in rest)) where
    pub things-none : is_end rest ≡ false → None ≡ if_whole text (all_of one (lexemes_in text))
    things-none ends = rw (← read.follows.1, read.whole) (no-thing one advances (lexemes_in rest) (is_whole rest) none ends (map view got))

    pub things-end : is_end rest ≡ true → Some (map view got) ≡ if_whole text (all_of one (lexemes_in text))
    things-end ends = let both = nothing-more one advances (lexemes_in rest) (is_whole rest) none ends in
        rw (← read.follows.1, both.0, read.whole, both.1) (ap Some (sym (append-nil (map view got))))

-- what is made of what a whole text is
pub made-whole : {A B : Type 0} (f : A → B) (text : List ℕ) (result found : Option A) → result ≡ if_whole text found
    → option_map f result ≡ if_whole text (option_map f found)
made-whole f text result found is = ap (option_map f) is ∙ by_whole (is_whole text)
  where
    by_whole : (b : Bool) → option_map f (if b then found else None) ≡ (if b then option_map f found else None)
    by_whole true = refl
    by_whole false = refl

pub map-same : {A : Type 0} (xs : List A) → map (λ x. x) xs ≡ xs
map-same [] = refl
map-same (x ∷ xs) = ap (λ t. x ∷ t) (map-same xs)

-- names and numbers are things of one kind
pub name-advances : Advances name_in
name-advances (name n ∷ xs) prefix e = let is : xs ≡ prefix.1 = ap (λ f. f.1) (some-same _ _ e) in rw (← is) (omega arith)
name-advances _ prefix e = cc

pub number-advances : Advances number_in
number-advances (number n ∷ xs) prefix e = let is : xs ≡ prefix.1 = ap (λ f. f.1) (some-same _ _ e) in rw (← is) (omega arith)
number-advances _ prefix e = cc

pub names-are : (xs : List Lexeme) → all_of name_in xs ≡ names_of xs
unfolding all_within
names-are [] = refl
names-are (name n ∷ xs) = ap (option_map (λ more. n ∷ more)) (names-are xs)
names-are _ = refl

pub numbers-are : (xs : List Lexeme) → all_of number_in xs ≡ numbers_of xs
unfolding all_within
numbers-are [] = refl
numbers-are (number n ∷ xs) = ap (option_map (λ more. n ∷ more)) (numbers-are xs)
numbers-are _ = refl

-- ---- items

-- what an item and the sign after it lead to
abbrev pub after_item : {A : Type 0} → (Lexeme → Option A) → A × ℕ × List Lexeme → Option (List A × List Lexeme)
after_item item step = if step.1 == 41 then Some (step.0 ∷ [], step.2)
    else (if step.1 == 44 then option_map (λ more. (step.0 ∷ more.0, more.1)) (items_after item step.2) else None)

and_then-map : {A B C : Type 0} (f : B → Option C) (g : A → B) (o : Option A)
    → option_and_then f (option_map g o) ≡ option_and_then (λ a. f (g a)) o
and_then-map f g None = refl
and_then-map f g (Some x) = refl

pub items_step : {A : Type 0} (item : Lexeme → Option A) (lexemes : List Lexeme)
    → items_after item lexemes ≡ option_and_then (after_item item) (item_at item lexemes)
unfolding items_after
items_step item (x ∷ sign s ∷ rest) = rw and_then-map refl
items_step item _ = refl

-- items that were read, put before what a list leads to
abbrev pub in_front : {A : Type 0} → List A → Option (List A × List Lexeme) → Option (List A × List Lexeme)
in_front got found = option_map (λ r. (got ++ r.0, r.1)) found

in_front-more : {A : Type 0} (got : List A) (a : A) (found : Option (List A × List Lexeme))
    → in_front got (option_map (λ more. (a ∷ more.0, more.1)) found) ≡ in_front (got ++ a ∷ []) found
in_front-more got a None = refl
in_front-more got a (Some r) = ap (λ t. Some (t, r.1)) (sym (append_assoc got (a ∷ []) r.0))

module _ {A : Type 0} (item : Lexeme → Option A) (all rest : List Lexeme) (got : List A)
    (whole : items_after item all ≡ in_front got (items_after item rest)) where
  stepped : (step : A × ℕ × List Lexeme) → Some step ≡ item_at item rest → items_after item all ≡ in_front got (after_item item step)
  stepped step at = whole ∙ ap (in_front got) (items_step item rest ∙ ap (option_and_then (after_item item)) (sym at))

  module _ (a : A) (s : ℕ) (after : List Lexeme) (at : Some (a, s, after) ≡ item_at item rest) where
    pub items-closed : s ≡ 41 → Some (got ++ a ∷ [], after) ≡ items_after item all
    items-closed close = let e = stepped (a, s, after) at in sym (e ∙ rw close refl)

    pub items-wrong : (s == 41) ≡ false → (s == 44) ≡ false → None ≡ items_after item all
    items-wrong not_close not_comma = let e = stepped (a, s, after) at in sym (e ∙ rw (not_close, not_comma) refl)

    pub items-more : s ≡ 44 → items_after item all ≡ in_front (got ++ a ∷ []) (items_after item after)
    items-more comma = let e = stepped (a, s, after) at in e ∙ rw comma (in_front-more got a (items_after item after))

  pub items-none : None ≡ item_at item rest → None ≡ items_after item all
  items-none at = sym (whole ∙ ap (in_front got) (items_step item rest ∙ ap (option_and_then (after_item item)) (sym at)))

-- an item and its sign are two lexemes
pub item-shorter : {A : Type 0} (item : Lexeme → Option A) (xs : List Lexeme) (step : A × ℕ × List Lexeme) → Some step ≡ item_at item xs
    → length step.2 < length xs
item-shorter item [] step e = cc
item-shorter item (x ∷ []) step e = cc
item-shorter item (x ∷ sign s ∷ rest) step e = by_item (item x) e
  where
    by_item : (found : Option _) → Some step ≡ option_map (λ a. (a, s, rest)) found → length step.2 < length (x ∷ sign s ∷ rest)
    by_item None e = cc
    by_item (Some a) e = rw (ap (λ t. t.2) (some-same _ _ e)) (omega arith)
item-shorter item (x ∷ name n ∷ rest) step e = cc
item-shorter item (x ∷ variable n ∷ rest) step e = cc
item-shorter item (x ∷ number n ∷ rest) step e = cc
