-- Where the robot is sent: a room for each errand, by numbers that follow from a seed.
use Rattle.std.specs.Prelude.{◌+◌, ◌-◌, ◌*◌, ◌/◌, ◌%◌, ℕ, zero, suc, nat_le, nat_lt, if◌then◌else◌}

abbrev pub next_number : ℕ → ℕ
next_number s = (s * 1103515245 + 12345) % 2147483648

-- the number of an errand: each follows from the one before, and the first from the seed
abbrev pub number_after : ℕ → ℕ → ℕ
number_after seed zero = seed
number_after seed (suc errand) = next_number (number_after seed errand)

-- one room or two
abbrev pub distance : ℕ → ℕ
distance s = 1 + ((s / 65536) % 2)

-- where there is no room `far` rooms on from `here`: `far` rooms back, else one on, else one back
abbrev pub turned_back : ℕ → ℕ → ℕ → ℕ
turned_back rooms here far =
    if nat_lt far here then here - far else (if nat_le (here + 1) rooms then here + 1 else here - 1)

-- from room `here`: `far` rooms on where there is such a room, else turned back
abbrev pub target : ℕ → ℕ → ℕ → ℕ
target rooms here far =
    if nat_le (here + far) rooms then here + far else turned_back rooms here far

-- the room where the robot is after an errand: at first it is in room 1, and each errand's number says how far it goes
abbrev pub room_after : ℕ → ℕ → ℕ → ℕ
room_after rooms seed zero = 1
room_after rooms seed (suc errand) = target rooms (room_after rooms seed errand) (distance (number_after seed (suc errand)))
