-- The demo's numbers, rooms and script for three rooms and the seed 0, and the rooms of four.
use Rattle.std.specs.Prelude.{◌≡◌, ℕ, List, [], ◌∷◌, ◌++◌, codes, map}
use Rattle.px_demo.specs.Errands.{distance, number_after, room_after}
use Rattle.px_demo.specs.Script.{demo_script}

abbrev pub three_rooms : List ℕ
three_rooms =
    codes "building\nroom R1\nroom R2\nroom R3\ndoor D1 R1 R2 open\ndoor D2 R2 R3 open\nbox B1 R2\nrobot R1\nend\n"
    ++ codes "plan G1 INROOM(ROBOT,R2)\nlearn M1 from G1\nrun G1\nplan G2 INROOM(ROBOT,R3)\nlearn M2 from G2\nrun G2\n"
    ++ codes "plan G3 INROOM(ROBOT,R2)\nlearn M3 from G3\nrun G3\n"

pub record WorkedDemo : Type 0 where
  pub numbers : map (number_after 0) (1 ∷ 2 ∷ 3 ∷ 4 ∷ []) ≡ 12345 ∷ 1406932606 ∷ 654583775 ∷ 1449466924 ∷ []
  pub near : map distance (12345 ∷ 1406932606 ∷ 654583775 ∷ 1449466924 ∷ []) ≡ 1 ∷ 1 ∷ 1 ∷ 2 ∷ []
  pub three : map (room_after 3 0) (1 ∷ 2 ∷ 3 ∷ []) ≡ 2 ∷ 3 ∷ 2 ∷ []
  pub four : map (room_after 4 0) (1 ∷ 2 ∷ 3 ∷ 4 ∷ []) ≡ 2 ∷ 3 ∷ 4 ∷ 2 ∷ []
  pub script : demo_script 3 0 ≡ three_rooms
