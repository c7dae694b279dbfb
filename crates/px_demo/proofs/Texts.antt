-- Texts that grow at their end.
use Rattle.std.proofs.Common.{◌≡◌, ℕ, ◌+◌, ◌-◌, ◌<◌, ◌≤◌, suc, List, [], ◌∷◌, ◌++◌, codes, map, sym, ap, ◌∙◌, arith}
use Rattle.std.specs.Prelude.{Result, Ok, Err, OnOk}
use Rattle.std.specs.Fmt.{decimal}
use Rattle.std.specs.List.{flat_map, range_with_len}
use Rattle.std.proofs.lemmas.List.{append-nil, append_assoc}
use Rattle.std.proofs.lemmas.List.Concat.{flat_map-append}
use Rattle.px_demo.specs.Script.{DemoLine, building_lines, demo_script, door_line, errands, line_text, plan_line, room_line, text_of_lines, things_lines}

pub on-ok : {T E : Type 0} (result : Result T E) (P Q : Type 0) → (P → Q) → OnOk result P → OnOk result Q
on-ok (Ok value) P Q implies p = implies p
on-ok (Err error) P Q implies p = tt

pub joined : (old mid new x y : List ℕ) → mid ≡ old ++ x → new ≡ mid ++ y → new ≡ old ++ (x ++ y)
joined old mid new x y first second = second ∙ ap (λ (t : List ℕ). t ++ y) first ∙ append_assoc old x y

-- a text grows by a part of what is to follow
pub grows : (old new part rest all whole : List ℕ) → new ≡ old ++ part → all ≡ part ++ rest → old ++ all ≡ whole → new ++ rest ≡ whole
grows old new part rest all whole grown split so_far =
    ap (λ (t : List ℕ). t ++ rest) grown ∙ append_assoc old part rest ∙ sym (ap (λ (t : List ℕ). old ++ t) split) ∙ so_far

pub text-append : (one other : List DemoLine) → text_of_lines (one ++ other) ≡ text_of_lines one ++ text_of_lines other
text-append one other = flat_map-append line_text one other

-- the first of the lines of numbers in a row
pub first-line : (f : ℕ → DemoLine) (i n : ℕ) → i ≤ n
    → text_of_lines (map f (range_with_len i (n + 1 - i)))
    ≡ text_of_lines (f i ∷ []) ++ text_of_lines (map f (range_with_len (i + 1) (n + 1 - (i + 1))))
first-line f i n within =
    let e : n + 1 - i ≡ suc (n + 1 - (i + 1)) = omega arith in
    ap (λ (k : ℕ). text_of_lines (map f (range_with_len i k))) e ∙ text-append (f i ∷ []) (map f (range_with_len (i + 1) (n + 1 - (i + 1))))

-- the lines of the first of numbers in a row
pub first-lines : (g : ℕ → List DemoLine) (i n : ℕ) → i < n
    → text_of_lines (flat_map g (range_with_len (i + 1) (n - i))) ≡ text_of_lines (g (i + 1))
    ++ text_of_lines (flat_map g (range_with_len (i + 1 + 1) (n - (i + 1))))
first-lines g i n within =
    let e : n - i ≡ suc (n - (i + 1)) = omega arith in
    ap (λ (k : ℕ). text_of_lines (flat_map g (range_with_len (i + 1) k))) e
    ∙ text-append (g (i + 1)) (flat_map g (range_with_len (i + 1 + 1) (n - (i + 1))))

abbrev pub rooms-text : ℕ → List ℕ
rooms-text rooms = text_of_lines (map room_line (range_with_len 1 rooms))

abbrev pub doors-text : ℕ → List ℕ
doors-text rooms = text_of_lines (map door_line (range_with_len 1 (rooms - 1)))

abbrev pub things-text : List ℕ
things-text = text_of_lines things_lines

abbrev pub start-text : List ℕ
start-text = text_of_lines ((codes "building" ∷ []) ∷ [])

pub building-text : (rooms : ℕ) → text_of_lines (building_lines rooms)
    ≡ start-text ++ (rooms-text rooms ++ (doors-text rooms ++ things-text))
building-text rooms =
    text-append ((codes "building" ∷ []) ∷ [])
    (map room_line (range_with_len 1 rooms) ++ (map door_line (range_with_len 1 (rooms - 1)) ++ things_lines))
    ∙ ap (λ (t : List ℕ). start-text ++ t)
    (text-append (map room_line (range_with_len 1 rooms)) (map door_line (range_with_len 1 (rooms - 1)) ++ things_lines)
    ∙ ap (λ (t : List ℕ). rooms-text rooms ++ t) (text-append (map door_line (range_with_len 1 (rooms - 1))) things_lines))

-- the building's text, part after part
pub building-grows : (rooms : ℕ) (old t1 t2 t3 t4 : List ℕ) → t1 ≡ old ++ start-text → t2 ≡ t1 ++ rooms-text rooms
    → t3 ≡ t2 ++ doors-text rooms
    → t4 ≡ t3 ++ things-text → t4 ≡ old ++ text_of_lines (building_lines rooms)
building-grows rooms old t1 t2 t3 t4 p1 p2 p3 p4 =
    joined old t1 t4 (start-text) (rooms-text rooms ++ (doors-text rooms ++ things-text)) p1
    (joined t1 t2 t4 (rooms-text rooms) (doors-text rooms ++ things-text) p2 (joined t2 t3 t4 (doors-text rooms) things-text p3 p4))
    ∙ ap (λ (t : List ℕ). old ++ t) (sym (building-text rooms))

-- three lines, one after the other
pub three-grow : (a b c : DemoLine) (old t1 t2 t3 : List ℕ) → t1 ≡ old ++ text_of_lines (a ∷ []) → t2 ≡ t1 ++ text_of_lines (b ∷ [])
    → t3 ≡ t2 ++ text_of_lines (c ∷ [])
    → t3 ≡ old ++ text_of_lines (a ∷ b ∷ c ∷ [])
three-grow a b c old t1 t2 t3 p1 p2 p3 =
    joined old t1 t3 (text_of_lines (a ∷ [])) (text_of_lines (b ∷ []) ++ text_of_lines (c ∷ [])) p1
    (joined t1 t2 t3 (text_of_lines (b ∷ [])) (text_of_lines (c ∷ [])) p2 p3)
    ∙ ap (λ (t : List ℕ). old ++ t)
    (sym (text-append (a ∷ []) (b ∷ c ∷ []) ∙ ap (λ (t : List ℕ). text_of_lines (a ∷ []) ++ t) (text-append (b ∷ []) (c ∷ []))))

pub script_text : (rooms seed : ℕ) (one text : List ℕ) → one ≡ text_of_lines (building_lines rooms)
    → text ≡ one ++ text_of_lines (errands rooms seed)
    → text ≡ demo_script rooms seed
script_text rooms seed one text building grown =
    grown ∙ ap (λ (t : List ℕ). t ++ text_of_lines (errands rooms seed)) building
    ∙ sym (text-append (building_lines rooms) (errands rooms seed))

end-in-line : (one between other closing feed : List ℕ)
    → ((one ++ (between ++ ((other ++ closing) ++ []))) ++ feed) ++ [] ≡ one ++ (between ++ (other ++ (closing ++ feed)))
end-in-line one between other closing feed =
    append-nil ((one ++ (between ++ ((other ++ closing) ++ []))) ++ feed)
    ∙ append_assoc one (between ++ ((other ++ closing) ++ [])) feed
    ∙ ap (λ (t : List ℕ). one ++ t) (append_assoc between ((other ++ closing) ++ []) feed
    ∙ ap (λ (t : List ℕ). between ++ t) (ap (λ (t : List ℕ). t ++ feed) (append-nil (other ++ closing)) ∙ append_assoc other closing feed))

-- the line that asks for a plan, without its brackets
pub plan-text : (j room : ℕ) → text_of_lines (plan_line j room ∷ []) ≡ codes "plan G"
    ++ (decimal j ++ (codes " INROOM(ROBOT,R" ++ (decimal room ++ codes ")\n")))
plan-text j room = ap (λ (t : List ℕ). codes "plan G" ++ t)
    (end-in-line (decimal j) (codes " INROOM(ROBOT,R") (decimal room) (codes ")") (codes "\n"))
