-- How many places the edits and the steps of a run may take.
use Rattle.std.specs.Prelude.{◌≡◌, ◌==◌, ◌&&◌, ◌<◌, ◌≤◌, ◌+◌, ℕ, Bool, true, false, cond, nat_le, Option, Some, None, List, [], ◌∷◌, length, All, slice_index_or, take, filter}
use mathlib.Core.Bool.{beq}
use Rattle.std.specs.List.{flat_map}
use Rattle.std.proofs.Common.{zero, suc, sym, ap, ◌∙◌, subst, get_or, arith}
use Rattle.std.proofs.Math.Nat.{le-max_left, le-max_right, max-le}
use Rattle.std.proofs.lemmas.Bool.Decides.{nat_tests}
use Rattle.std.proofs.lemmas.List.{length-append, length-map, take_all}
use Rattle.std.proofs.lemmas.List.Elements.{All-head, All-push, All-tail, All-weaker}
use Rattle.px_base.proofs.Loops.{take_next}
use Rattle.px_terms.specs.declared.instance.OpInst.{OpInst}
use Rattle.px_terms.specs.declared.problem.Problem.{Problem}
use Rattle.px_terms.specs.declared.problem.Schema.{Schema}
use Rattle.px_terms.specs.Operators.{adds, no_schema, schema_of}
use Rattle.px_terms.specs.Substitution.{substitute_atom}
use Rattle.px_planex.specs.Executors.{places_for}
use Rattle.px_planex.specs.Turns.{Recorded, edits_at, is_at}
use Rattle.px_turns.specs.Turning.{adds_most, edits_for, edits_from, edits_in}

-- ---- steps

pub adds_most-least : (schemas : List Schema) (n : ℕ) → All (λ schema. length schema.add ≤ n) schemas → adds_most schemas ≤ n
adds_most-least [] n all = omega arith
adds_most-least (schema ∷ schemas) n all =
    max-le (All-head (λ s. length s.add ≤ n) schema schemas all)
    (adds_most-least schemas n (All-tail (λ s. length s.add ≤ n) schema schemas all))

adds_most-at : (schemas : List Schema) (i : ℕ) → length (slice_index_or schemas i no_schema).add ≤ adds_most schemas
adds_most-at [] i = omega arith
adds_most-at (schema ∷ schemas) zero = le-max_left (length schema.add) (adds_most schemas)
adds_most-at (schema ∷ schemas) (suc i) = let rest = adds_most-at schemas i in let step =
    le-max_right (length schema.add) (adds_most schemas) in omega (arith, rest, step)

pub adds_most-item : (schemas : List Schema) (i : ℕ) (one : Schema) → i < length schemas → one ≡ get_or schemas i one
    → length one.add ≤ adds_most schemas
adds_most-item [] i one below is = absurd (omega (arith, below))
adds_most-item (schema ∷ schemas) zero one below is = let step = le-max_left (length schema.add) (adds_most schemas) in
    omega (arith, step, ap (λ (s : Schema). length s.add) is)
adds_most-item (schema ∷ schemas) (suc i) one below is = let rest = adds_most-item schemas i one (omega (arith, below)) is in let step =
    le-max_right (length schema.add) (adds_most schemas) in omega (arith, rest, step)

pub adds-few : (problem : Problem) (inst : OpInst) → length (adds problem inst) ≤ adds_most problem.schemas
adds-few problem inst =
    let few = adds_most-at problem.schemas inst.op in
    let long : length (adds problem inst) ≡ length (schema_of problem inst).add =
    length-map (schema_of problem inst).add (substitute_atom inst.args) in
    omega (arith, few, long)

pub places-few : (problem : Problem) (step : Option OpInst) → places_for problem step ≤ adds_most problem.schemas
places-few problem None = omega arith
places-few problem (Some inst) = adds-few problem inst

pub most-next : (schemas : List Schema) (i : ℕ) (one : Schema) (old new : ℕ) → i < length schemas → one ≡ get_or schemas i one
    → All (λ schema. length schema.add ≤ old) (take i schemas) → old ≤ new → length one.add ≤ new
    → All (λ schema. length schema.add ≤ new) (take (i + 1) schemas)
most-next schemas i one old new below is all grown fits =
    subst (All (λ (s : Schema). length s.add ≤ new)) (sym (take_next schemas i one below is))
    (All-push (λ (s : Schema). length s.add ≤ new) (take i schemas) one
    (All-weaker (λ (s : Schema). length s.add ≤ old) (λ (s : Schema). length s.add ≤ new) (λ s less. omega (arith, less, grown))
    (take i schemas) all) fits)

pub most-end : (schemas : List Schema) (i : ℕ) (most : ℕ) → length schemas ≤ i → All (λ schema. length schema.add ≤ most) (take i schemas)
    → adds_most schemas ≤ most
most-end schemas i most past all =
    adds_most-least schemas most (subst (All (λ (s : Schema). length s.add ≤ most)) (take_all i schemas past) all)

-- ---- edits

-- one entry, by its turn and point
used : (number turn edits : ℕ) (b : Bool)
    → cond ((turn == number) && beq b false) edits 0 + cond ((turn == number) && beq b true) edits 0 + cond
    (nat_le (suc number) turn) edits 0 ≤ cond (nat_le number turn) edits 0
used number turn edits true = grind (arith, nat_tests)
used number turn edits false = grind (arith, nat_tests)

from-step : (b : Bool) (n : ℕ) → cond b n 0 ≤ n
from-step true n = omega arith
from-step false n = omega arith

module _ {E : Type 0} where
  edits-first : (number : ℕ) (one : Recorded E) (recorded : List (Recorded E)) (between : Bool)
      → length (edits_at (one ∷ recorded) number between) ≡ cond (is_at number between one) (length one.edits) 0 + length
      (edits_at recorded number between)
  edits-first number one recorded between = by (is_at number between one)
    where
      by : (b : Bool) → length (flat_map (λ (r : Recorded E). r.edits)
          (cond b (one ∷ filter (is_at number between) recorded) (filter (is_at number between) recorded)))
          ≡ cond b (length one.edits) 0 + length (edits_at recorded number between)
      by true = length-append one.edits (edits_at recorded number between)
      by false = omega arith

  -- the edits of a turn, and those of later ones
  pub edits-used : (number : ℕ) (recorded : List (Recorded E))
      → edits_for recorded number + edits_from (suc number) recorded ≤ edits_from number recorded
  edits-used number [] = omega arith
  edits-used number (one ∷ recorded) =
      let rest = edits-used number recorded in
      let before = edits-first number one recorded false in
      let between = edits-first number one recorded true in
      let here = used number one.turn (length one.edits) one.between in
      omega (arith, rest, before, between, here)

  pub edits-all : (number : ℕ) (recorded : List (Recorded E)) → edits_from number recorded ≤ edits_in recorded
  edits-all number [] = omega arith
  edits-all number (one ∷ recorded) = let rest = edits-all number recorded in let here =
      from-step (nat_le number one.turn) (length one.edits) in omega (arith, rest, here)

  pub edits_in-more : (recorded : List (Recorded E)) (i : ℕ) (d : Recorded E) → i < length recorded
      → edits_in (take (suc i) recorded) ≡ edits_in (take i recorded) + length (get_or recorded i d).edits
  edits_in-more [] i d below = absurd (omega (arith, below))
  edits_in-more (one ∷ recorded) zero d below = omega arith
  edits_in-more (one ∷ recorded) (suc i) d below = let rest = edits_in-more recorded i d (omega (arith, below)) in omega (arith, rest)

  pub edits_in-next : (recorded : List (Recorded E)) (i : ℕ) (one : Recorded E) → i < length recorded → one ≡ get_or recorded i one
      → edits_in (take (i + 1) recorded) ≡ edits_in (take i recorded) + length one.edits
  edits_in-next recorded i one below is =
      let next : i + 1 ≡ suc i = omega arith in
      ap (λ n. edits_in (take n recorded)) next ∙ edits_in-more recorded i one below
      ∙ ap (λ (r : Recorded E). edits_in (take i recorded) + length r.edits) (sym is)
