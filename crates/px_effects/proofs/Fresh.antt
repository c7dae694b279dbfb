-- The names that a line without a fault declares are fresh: they are names, no two of a kind are equal, and there is room for them.
use Rattle.px_script.specs.RangeLaws.{version-most}
use Rattle.px_script.specs.States.{from_blocks}
use Rattle.px_effects.proofs.Common.{◌≡◌, ◌≤◌, ℕ, true, List, [], ◌∷◌, ◌++◌, map, length, refl, sym, ap, ◌∙◌, arith, chars, all_scalars, and_parts, get_or-append_seam, length-append, NameLists, Lexeme, name, Lexes, Statement, line_of, is_formed, Declared, well-formed, line-kept, IsFaultless, AreInRange, AreOfKinds, IsFresh, IsNameLexeme, leaves, text_of, Bor, AllByRecursion, IsName, is_name, get_or_append_left, chars-encodes, IsWelcome, names_in, Kind, IsLexeme}

-- ---- the names in the lexemes of a line are names

scalars-parts : (xs ys : List ℕ) → all_scalars (xs ++ ys) ≡ true → (all_scalars xs ≡ true) × (all_scalars ys ≡ true)
scalars-parts [] ys e = (refl, e)
scalars-parts (x ∷ xs) ys e =
    let both = and_parts _ (all_scalars (xs ++ ys)) e in let more = scalars-parts xs ys both.1 in (rw (both.0, more.0) refl, more.1)

text-named : (l : Lexeme) (text : List ℕ) → IsLexeme l text → all_scalars text ≡ true → IsNameLexeme l
text-named (name n) text is scalars = ap is_name (ap chars is.1 ∙ chars-encodes text scalars) ∙ is.0
text-named _ text is scalars = tt

pub lexemes-named : (lexemes : List Lexeme) (line : List ℕ) → all_scalars line ≡ true → Lexes line lexemes
    → AllByRecursion IsNameLexeme lexemes
lexemes-named [] line scalars lexes = tt
lexemes-named (l ∷ lexemes) line scalars (rest, begins, more) =
    let outer = scalars-parts begins.blanks (begins.text ++ rest) (sym (ap all_scalars begins.whole) ∙ scalars) in
    let inner = scalars-parts begins.text rest outer.1 in
    (text-named l begins.text begins.is_lexeme inner.0, lexemes-named lexemes rest inner.1 more)

-- the names of a line of objects
pub objects-named : (names : List (Bor (List ℕ))) → AllByRecursion IsNameLexeme (map name (map text_of names) ++ [])
    → AllByRecursion (λ n. IsName n.now) names
objects-named [] named = tt
objects-named (n ∷ names) named = (named.0, objects-named names named.1)

-- ---- the names of each kind

lists : (d : Declared) → AreInRange d → AreOfKinds d.names
lists d r =
    record {
      objects = (let few = version-most d.version _ 256 1024 (omega arith) r.names.few_objects in
          record { distinct = r.names.objects.distinct; few = omega (arith, few) });
      predicates = record { distinct = r.names.predicates.distinct; few = r.names.few_predicates };
      operators = record { distinct = r.names.operators.distinct; few = r.names.few_operators };
      results = (let few = version-most d.version _ 512 1024 (omega arith) r.commands.few in let results = r.results.few in
          let tables : length (from_blocks d) ≤ 32 = r.few_saved in
          record { distinct = r.names.results.distinct; few = omega (arith, few, results, tables) });
    }

-- those of a line without a fault with those before it
pub line-lists : (n : ℕ) (d : Declared) (s : Statement) → AreInRange d → is_formed d (line_of s) ≡ true → IsFaultless d s
    → AreOfKinds (leaves n d s).names
line-lists n d s r formed faultless = lists _ (line-kept n d r s (well-formed d (line_of s) formed) faultless)

pub welcome : (k : Kind) (names : NameLists) (n : List ℕ) → IsFresh k names n → IsWelcome k (names_in k names) n
welcome k names n fresh = let old = names_in k names in let one = length-append old (n ∷ []) in let few = fresh.1.few in (
  fresh.0,
  (λ (i, below, is). fresh.1.distinct i (length old) n below (omega (arith, one))
      (get_or_append_left old (n ∷ []) n i below ∙ is ∙ sym (get_or-append_seam old n [] n))),
  omega (arith, one, few),
)
