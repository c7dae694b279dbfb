-- The script of the demo, as a list of lines, each a list of words.
use Rattle.std.specs.Prelude.{◌+◌, ◌-◌, ℕ, List, [], ◌∷◌, ◌++◌, codes, map}
use Rattle.std.specs.Fmt.{decimal}
use Rattle.std.specs.List.{flat_map, join_by, range_with_len}
use Rattle.px_demo.specs.Errands.{room_after}

-- ---- lines

abbrev pub DemoLine : Type 0
DemoLine = List (List ℕ)

-- a line's words, with a space between two and a line feed at the end
abbrev pub line_text : DemoLine → List ℕ
line_text words = join_by (λ word. word) (codes " ") words ++ codes "\n"

abbrev pub text_of_lines : List DemoLine → List ℕ
text_of_lines lines = flat_map line_text lines

-- ---- the building

abbrev pub room_line : ℕ → DemoLine
room_line i = codes "room" ∷ (codes "R" ++ decimal i) ∷ []

-- each door leads from the room of its number to the next
abbrev pub door_line : ℕ → DemoLine
door_line i = codes "door" ∷ (codes "D" ++ decimal i) ∷ (codes "R" ++ decimal i) ∷ (codes "R" ++ decimal (i + 1)) ∷ codes "open" ∷ []

-- a box in the second room and the robot in the first
abbrev pub things_lines : List DemoLine
things_lines = (codes "box" ∷ codes "B1" ∷ codes "R2" ∷ []) ∷ (codes "robot" ∷ codes "R1" ∷ []) ∷ (codes "end" ∷ []) ∷ []

-- the rooms in a row, a door between each two neighbours, and the things
abbrev pub building_lines : ℕ → List DemoLine
building_lines rooms =
    (codes "building" ∷ []) ∷ (map room_line (range_with_len 1 rooms) ++ (map door_line (range_with_len 1 (rooms - 1)) ++ things_lines))

-- ---- the errands

abbrev pub plan_line : ℕ → ℕ → DemoLine
plan_line j room = codes "plan" ∷ (codes "G" ++ decimal j) ∷ (codes "INROOM(ROBOT,R" ++ (decimal room ++ codes ")")) ∷ []

abbrev pub learn_line : ℕ → DemoLine
learn_line j = codes "learn" ∷ (codes "M" ++ decimal j) ∷ codes "from" ∷ (codes "G" ++ decimal j) ∷ []

abbrev pub run_line : ℕ → DemoLine
run_line j = codes "run" ∷ (codes "G" ++ decimal j) ∷ []

-- an errand to a room: a plan, which is learned and run
abbrev pub errand_lines : ℕ → ℕ → List DemoLine
errand_lines j room = plan_line j room ∷ learn_line j ∷ run_line j ∷ []

-- as many errands as rooms
abbrev pub errands : ℕ → ℕ → List DemoLine
errands rooms seed = flat_map (λ j. errand_lines j (room_after rooms seed j)) (range_with_len 1 rooms)

-- ---- the whole

abbrev pub demo_lines : ℕ → ℕ → List DemoLine
demo_lines rooms seed = building_lines rooms ++ errands rooms seed

abbrev pub demo_script : ℕ → ℕ → List ℕ
demo_script rooms seed = text_of_lines (demo_lines rooms seed)
