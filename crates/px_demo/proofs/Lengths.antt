-- How long the script is at most.
use Rattle.std.proofs.Common.{◌≡◌, ℕ, ◌+◌, ◌-◌, ◌*◌, ◌≤◌, zero, suc, List, [], ◌∷◌, ◌++◌, codes, length, map, leb-true, sym, subst, arith, length-append}
use Rattle.std.specs.Prelude.{nat_le, nat_lt}
use Rattle.std.specs.Fmt.{decimal}
use Rattle.std.specs.List.{flat_map, range_with_len}
use Rattle.std.proofs.lemmas.Bool.{cond_both}
use Rattle.std.proofs.lemmas.Fmt.{length-decimal-le}
use Rattle.px_demo.specs.Errands.{distance, number_after, room_after, target, turned_back}
use Rattle.px_demo.specs.Script.{DemoLine, building_lines, demo_script, door_line, errand_lines, errands, learn_line, line_text, plan_line, room_line, run_line, text_of_lines}
use Rattle.px_demo.proofs.Texts.{doors-text, rooms-text, text-append, things-text, start-text, building-text}

-- ---- where the robot is sent is a room

abbrev IsLow : ℕ → Type 0
IsLow n = n ≤ 12

low-back : (rooms here far : ℕ) → rooms ≤ 12 → here ≤ 12 → IsLow (turned_back rooms here far)
low-back rooms here far few low = cond_both (nat_lt far here) _ _ IsLow (λ is. omega (arith, low))
    (λ is. cond_both (nat_le (here + 1) rooms) _ _ IsLow (λ on. let below = leb-true (here + 1) rooms on in omega (arith, below, few))
    (λ off. omega (arith, low)))

low-target : (rooms here far : ℕ) → rooms ≤ 12 → here ≤ 12 → IsLow (target rooms here far)
low-target rooms here far few low = cond_both (nat_le (here + far) rooms) _ _ IsLow
    (λ is. let below = leb-true (here + far) rooms is in omega (arith, below, few)) (λ is. low-back rooms here far few low)

low-room : (rooms seed errand : ℕ) → rooms ≤ 12 → IsLow (room_after rooms seed errand)
low-room rooms seed zero few = omega arith
low-room rooms seed (suc errand) few =
    low-target rooms (room_after rooms seed errand) (distance (number_after seed (suc errand))) few (low-room rooms seed errand few)

-- ---- lines

two-digits : (n : ℕ) → n ≤ 13 → length (decimal n) ≤ 2
two-digits n below = length-decimal-le 2 n (omega arith) (omega (arith, below)) (omega (arith, below))

-- the words of a line with what stands between them
abbrev words-size : List (List ℕ) → ℕ
words-size [] = 0
words-size (word ∷ words) = length word + (1 + words-size words)

spaced-short : (words : List (List ℕ)) → length (flat_map (λ (word : List ℕ). codes " " ++ word) words) ≤ words-size words
spaced-short [] = omega arith
spaced-short (word ∷ words) =
    let sum = length-append (codes " " ++ word) (flat_map (λ (w : List ℕ). codes " " ++ w) words) in
    let rest = spaced-short words in
    omega (arith, sum, rest)

line-short : (words : DemoLine) → length (line_text words) ≤ words-size words + 1
line-short [] = omega arith
line-short (word ∷ words) =
    let spaced = flat_map (λ (w : List ℕ). codes " " ++ w) words in
    let whole = length-append (word ++ spaced) (codes "\n") in
    let sum = length-append word spaced in
    let rest = spaced-short words in
    omega (arith, whole, sum, rest)

room-short : (i : ℕ) → i ≤ 13 → length (line_text (room_line i)) ≤ 50
room-short i below =
    let digits = two-digits i below in
    let size = line-short (room_line i) in
    omega (arith, digits, size)

door-short : (i : ℕ) → i ≤ 12 → length (line_text (door_line i)) ≤ 50
door-short i below =
    let digits = two-digits i (omega (arith, below)) in
    let more = two-digits (i + 1) (omega (arith, below)) in
    let size = line-short (door_line i) in
    omega (arith, digits, more, size)

-- ---- lists of lines

lines-short : (f : ℕ → DemoLine) → ((i : ℕ) → i ≤ 12 → length (line_text (f i)) ≤ 50) → (first count : ℕ) → first + count ≤ 13
    → length (text_of_lines (map f (range_with_len first count))) ≤ count * 50
lines-short f each first zero within = omega arith
lines-short f each first (suc count) within =
    let one = each first (omega (arith, within)) in
    let rest = lines-short f each (first + 1) count (omega (arith, within)) in
    let sum = length-append (line_text (f first)) (text_of_lines (map f (range_with_len (first + 1) count))) in
    omega (arith, one, rest, sum)

errand-short : (j room : ℕ) → j ≤ 12 → room ≤ 12 → length (text_of_lines (errand_lines j room)) ≤ 150
errand-short j room below there =
    let digits = two-digits j (omega (arith, below)) in
    let more = two-digits room (omega (arith, there)) in
    let closed = length-append (decimal room) (codes ")") in
    let plan = line-short (plan_line j room) in
    let learn = line-short (learn_line j) in
    let run = line-short (run_line j) in
    let first = length-append (line_text (plan_line j room)) (text_of_lines (learn_line j ∷ run_line j ∷ [])) in
    let second = length-append (line_text (learn_line j)) (text_of_lines (run_line j ∷ [])) in
    let third = length-append (line_text (run_line j)) [] in
    omega (arith, digits, more, closed, plan, learn, run, first, second, third)

errands-short : (rooms seed first count : ℕ) → rooms ≤ 12 → first + count ≤ 13
    → length (text_of_lines (flat_map (λ (j : ℕ). errand_lines j (room_after rooms seed j)) (range_with_len first count))) ≤ count * 150
errands-short rooms seed first zero few within = omega arith
errands-short rooms seed first (suc count) few within =
    let one = errand-short first (room_after rooms seed first) (omega (arith, within)) (low-room rooms seed first few) in
    let rest = errands-short rooms seed (first + 1) count few (omega (arith, within)) in
    let others = flat_map (λ (j : ℕ). errand_lines j (room_after rooms seed j)) (range_with_len (first + 1) count) in
    let whole = text-append (errand_lines first (room_after rooms seed first)) others in
    let sum = length-append (text_of_lines (errand_lines first (room_after rooms seed first))) (text_of_lines others) in
    subst (λ (text : List ℕ). length text ≤ suc count * 150) (sym whole) (omega (arith, one, rest, sum))

building-short : (rooms : ℕ) → rooms ≤ 12 → length (text_of_lines (building_lines rooms)) ≤ 1300
building-short rooms few =
    let rows = lines-short room_line (λ i below. room-short i (omega (arith, below))) 1 rooms (omega (arith, few)) in
    let doors = lines-short door_line door-short 1 (rooms - 1) (omega (arith, few)) in
    let first = length-append start-text (rooms-text rooms ++ (doors-text rooms ++ things-text)) in
    let second = length-append (rooms-text rooms) (doors-text rooms ++ things-text) in
    let third = length-append (doors-text rooms) things-text in
    subst (λ (text : List ℕ). length text ≤ 1300) (sym (building-text rooms)) (omega (arith, few, rows, doors, first, second, third))

pub script-short : (rooms seed : ℕ) → rooms ≤ 12 → length (demo_script rooms seed) ≤ 3200
script-short rooms seed few =
    let building = building-short rooms few in
    let rest = errands-short rooms seed 1 rooms few (omega (arith, few)) in
    let whole = text-append (building_lines rooms) (errands rooms seed) in
    let sum = length-append (text_of_lines (building_lines rooms)) (text_of_lines (errands rooms seed)) in
    subst (λ (text : List ℕ). length text ≤ 3200) (sym whole) (omega (arith, few, building, rest, sum))

pub text_short : (rooms seed : ℕ) (text : List ℕ) → text ≡ demo_script rooms seed → rooms ≤ 12 → length text ≤ 3200
text_short rooms seed text is few = subst (λ (t : List ℕ). length t ≤ 3200) (sym is) (script-short rooms seed few)
