-- The lines of the building have no fault, by computing: for each number of rooms.
use Rattle.std.specs.Prelude.{◌-◌}
use Rattle.std.specs.Fmt.{digits}
use Rattle.std.specs.Str.{chars, is_utf8}
use Rattle.std.specs.List.{list_all}
use lib.Utf8.{encode}
use Rattle.unicode_ident.proofs.Computing.{unicode_ident}
use Rattle.px_base.specs.Sets.{set_of, with_item}
use Rattle.px_demo.specs.Script.{building_lines, text_of_lines}
use Rattle.px_script.specs.Declarations.{nothing_declared}
use Rattle.px_script.proofs.Common.{◌≡◌, ℕ, zero, suc, ◌+◌, ◌<◌, ◌≤◌, ◌==◌, Bool, true, ◌&&◌, List, [], ◌∷◌, ◌++◌, map, refl, subst, inl, inr, arith, and_parts, cases_lt, codes, decimal, eqb-true, has_name, lines_of, number_in, range_with_len, robot_name, PassAll, stage_now}
use Rattle.px_script.proofs.Law.{LinesSay, lines-say, lines_read, passes, scan, scan_by}
use Rattle.px_script.proofs.Lists.{number-new}
use Rattle.px_script.specs.Parsing.{all_within, items_after}
use Rattle.px_demo_script.specs.Value.{demo_objects, demo_things, numbered}
use Rattle.px_demo_script.proofs.Commands.{Building, HasRoom, underway}
use Rattle.px_demo_script.proofs.Targets.{IsRoom}

abbrev pub building_text : ℕ → List ℕ
building_text rooms = text_of_lines (building_lines rooms)

abbrev pub demo_building : ℕ → Building
demo_building rooms = record {
  objects = demo_objects rooms;
  rooms = numbered (codes "R") rooms;
  doors = numbered (codes "D") (rooms - 1);
  boxes = codes "B1" ∷ [];
  things = demo_things rooms;
}

-- the room's name is that of the object of its number
abbrev is_named : ℕ → ℕ → Bool
is_named rooms r = has_name (codes "R" ++ decimal r) (demo_objects rooms)
    && (number_in (codes "R" ++ decimal r) (demo_objects rooms) == r)

record IsBuilt (rooms : ℕ) : Type 0 where
  text : is_utf8 (building_text rooms) ≡ true
  lines : lines_read stage_now 1 nothing_declared (map scan (lines_of (building_text rooms)))
      ≡ passes (underway (demo_building rooms) [] [] [])
  named : list_all (is_named rooms) (range_with_len 1 rooms) ≡ true

three : IsBuilt 3
unfolding lines_read scan_by all_within items_after with_item set_of encode chars is_utf8 unicode_ident digits
three = record { text = refl; lines = refl; named = refl }

four : IsBuilt 4
unfolding lines_read scan_by all_within items_after with_item set_of encode chars is_utf8 unicode_ident digits
four = record { text = refl; lines = refl; named = refl }

five : IsBuilt 5
unfolding lines_read scan_by all_within items_after with_item set_of encode chars is_utf8 unicode_ident digits
five = record { text = refl; lines = refl; named = refl }

six : IsBuilt 6
unfolding lines_read scan_by all_within items_after with_item set_of encode chars is_utf8 unicode_ident digits
six = record { text = refl; lines = refl; named = refl }

seven : IsBuilt 7
unfolding lines_read scan_by all_within items_after with_item set_of encode chars is_utf8 unicode_ident digits
seven = record { text = refl; lines = refl; named = refl }

eight : IsBuilt 8
unfolding lines_read scan_by all_within items_after with_item set_of encode chars is_utf8 unicode_ident digits
eight = record { text = refl; lines = refl; named = refl }

nine : IsBuilt 9
unfolding lines_read scan_by all_within items_after with_item set_of encode chars is_utf8 unicode_ident digits
nine = record { text = refl; lines = refl; named = refl }

ten : IsBuilt 10
unfolding lines_read scan_by all_within items_after with_item set_of encode chars is_utf8 unicode_ident digits
ten = record { text = refl; lines = refl; named = refl }

eleven : IsBuilt 11
unfolding lines_read scan_by all_within items_after with_item set_of encode chars is_utf8 unicode_ident digits
eleven = record { text = refl; lines = refl; named = refl }

twelve : IsBuilt 12
unfolding lines_read scan_by all_within items_after with_item set_of encode chars is_utf8 unicode_ident digits
twelve = record { text = refl; lines = refl; named = refl }

-- what holds of a number and of those above it
and-above : (P : ℕ → Type 0) (k most : ℕ) → P k → ((n : ℕ) → k + 1 ≤ n → n ≤ most → P n) → (n : ℕ) → k ≤ n → n ≤ most → P n
and-above P k most here above n least below = elim (cases_lt k n) [
  | inl less ↦ above n (omega (arith, less)) below
  | inr same ↦ subst P (omega (arith, same, least)) here
]

each-built : (rooms : ℕ) → 3 ≤ rooms → rooms ≤ 12 → IsBuilt rooms
each-built = and-above IsBuilt 3 12 three (and-above IsBuilt 4 12 four (and-above IsBuilt 5 12 five (and-above IsBuilt 6 12 six
    (and-above IsBuilt 7 12 seven (and-above IsBuilt 8 12 eight (and-above IsBuilt 9 12 nine (and-above IsBuilt 10 12 ten
    (and-above IsBuilt 11 12 eleven (and-above IsBuilt 12 12 twelve (λ n least most. absurd (omega (arith, least, most))))))))))))

-- a test of all numbers in a row, at one of them
at-each : (p : ℕ → Bool) (first count k : ℕ) → list_all p (range_with_len first count) ≡ true → first ≤ k → k < first + count
    → p k ≡ true
at-each p first zero k all least below = absurd (omega (arith, least, below))
at-each p first (suc count) k all least below =
    let both = and_parts (p first) (list_all p (range_with_len (first + 1) count)) all in elim (cases_lt first k) [
      | inl less ↦ at-each p (first + 1) count k both.1 (omega (arith, less)) (omega (arith, below))
      | inr same ↦ subst (λ j. p j ≡ true) (omega (arith, same, least)) both.0
    ]

module _ (rooms : ℕ) (some : 3 ≤ rooms) (few : rooms ≤ 12) where
  pub building-is-text : is_utf8 (building_text rooms) ≡ true
  building-is-text = (each-built rooms some few).text

  pub building-passes : PassAll stage_now 1 nothing_declared (lines_of (building_text rooms)) (underway (demo_building rooms) [] [] [])
  building-passes = subst (LinesSay stage_now 1 nothing_declared (lines_of (building_text rooms))) (each-built rooms some few).lines
      (lines-say stage_now 1 nothing_declared (lines_of (building_text rooms)))

  pub has-rooms : (r : ℕ) → IsRoom rooms r → HasRoom (demo_building rooms) (codes "R" ++ decimal r) r
  has-rooms r is =
      let least = is.0 in let most = is.1 in
      let tests = at-each (is_named rooms) 1 rooms r (each-built rooms some few).named least (omega (arith, most)) in
      let both = and_parts (has_name (codes "R" ++ decimal r) (demo_objects rooms))
      (number_in (codes "R" ++ decimal r) (demo_objects rooms) == r) tests in record {
        robot_known = refl;
        robot_number = number-new robot_name []
            (numbered (codes "R") rooms ++ (numbered (codes "D") (rooms - 1) ++ codes "B1" ∷ [])) refl;
        room_known = both.0;
        room_number = eqb-true (number_in (codes "R" ++ decimal r) (demo_objects rooms)) r both.1;
      }
