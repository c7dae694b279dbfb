-- The demo's bytes are a script: the law.
use Rattle.std.specs.Str.{chars}
use Rattle.std.proofs.lemmas.Str.{IsUtf8-append, IsUtf8-from_is_utf8}
use Rattle.px_demo.specs.Errands.{room_after}
use Rattle.px_demo.specs.Script.{DemoLine, building_lines, demo_script, errands, line_text, text_of_lines}
use Rattle.px_demo.proofs.Texts.{building-text, doors-text, rooms-text, start-text, text-append}
use Rattle.px_script.specs.Scripts.{IsScript, Spells}
use Rattle.px_script.specs.declared.command.Command.{Command}
use Rattle.px_script.proofs.Common.{◌≡◌, ℕ, ◌≤◌, true, List, [], ◌∷◌, ◌++◌, map, refl, sym, ap, ◌∙◌, subst, arith, append_assoc, codes, flat_map, range_with_len, lines_of, AllByRecursion, IsUtf8, Declared, PassAll, nothing_declared, stage_now}
use Rattle.px_saved.proofs.Clean.{all-implied}
use Rattle.px_saved.proofs.Lines.{joined, lines-after}
use Rattle.px_saved.proofs.Printed.{joined-text}
use Rattle.px_saved.proofs.Words.{is_in_line}
use Rattle.px_demo_script.specs.Value.{DemoIsScript, demo_value, errand_commands, errand_results}
use Rattle.px_demo_script.proofs.Building.{building-is-text, building-passes, building_text, demo_building, has-rooms}
use Rattle.px_demo_script.proofs.Commands.{underway}
use Rattle.px_demo_script.proofs.Errands.{IsLineText, errands-pass, errands-text, lines_from, none-earlier}
use Rattle.px_demo_script.proofs.Lines.{line_bytes}

-- ---- the bytes are lines

lines-joined : (lines : List DemoLine) → text_of_lines lines ≡ joined (map line_bytes lines)
lines-joined [] = refl
lines-joined (line ∷ lines) = ap (λ text. line_text line ++ text) (lines-joined lines)

abbrev last_lines : List ℕ
last_lines = codes "box B1 R2\nrobot R1\nend"

-- the building without its last line feed
abbrev prefix : ℕ → List ℕ
prefix rooms = start-text ++ (rooms-text rooms ++ (doors-text rooms ++ last_lines))

prefix-is : (rooms : ℕ) → building_text rooms ≡ prefix rooms ++ 10 ∷ []
prefix-is rooms = building-text rooms
    ∙ sym (append_assoc start-text (rooms-text rooms ++ (doors-text rooms ++ last_lines)) (10 ∷ [])
    ∙ ap (λ text. start-text ++ text) (append_assoc (rooms-text rooms) (doors-text rooms ++ last_lines) (10 ∷ [])
    ∙ ap (λ text. rooms-text rooms ++ text) (append_assoc (doors-text rooms) last_lines (10 ∷ []))))

module _ (rooms seed : ℕ) (some : 3 ≤ rooms) (few : rooms ≤ 12) where
  abbrev lines : List (List ℕ)
  lines = lines_from rooms seed 1 rooms

  two-parts : demo_script rooms seed ≡ building_text rooms ++ joined lines
  two-parts = text-append (building_lines rooms) (errands rooms seed)
      ∙ ap (λ text. building_text rooms ++ text) (lines-joined (errands rooms seed))

  bytes-are : demo_script rooms seed ≡ prefix rooms ++ 10 ∷ joined lines
  bytes-are = two-parts ∙ ap (λ text. text ++ joined lines) (prefix-is rooms) ∙ append_assoc (prefix rooms) (10 ∷ []) (joined lines)

  line-texts : AllByRecursion IsLineText lines
  line-texts = errands-text rooms seed some few 1 rooms (omega (arith, few))

  is-text : IsUtf8 (demo_script rooms seed)
  is-text = subst IsUtf8 (sym two-parts) (IsUtf8-append (building_text rooms) (joined lines)
      (IsUtf8-from_is_utf8 (building_text rooms) (building-is-text rooms some few))
      (joined-text lines (all-implied IsLineText IsUtf8 (λ line is. is.0) lines line-texts)))

  -- ---- what they leave

  abbrev all_results : List (List ℕ)
  all_results = flat_map errand_results (range_with_len 1 rooms)

  abbrev all_commands : List Command
  all_commands = flat_map (λ j. errand_commands j (room_after rooms seed j)) (range_with_len 1 rooms)

  all-pass : (plans : List (List ℕ))
      × ((n : ℕ) → PassAll stage_now n (underway (demo_building rooms) [] [] []) (map chars lines)
      (underway (demo_building rooms) all_results plans all_commands))
  all-pass = errands-pass rooms seed some few (demo_building rooms) (has-rooms rooms some few) 1 rooms [] [] all_results [] all_commands
      (omega arith) (omega (arith, few)) none-earlier refl (omega (arith, few)) refl refl

  abbrev last : Declared
  last = underway (demo_building rooms) all_results all-pass.0 all_commands

  spells : Spells stage_now (demo_script rooms seed) last
  spells = record {
    text = is-text;
    lines = subst (λ bytes. PassAll stage_now 1 nothing_declared (lines_of bytes) last) (sym bytes-are)
        (lines-after stage_now (prefix rooms) lines (underway (demo_building rooms) [] [] []) last
        (all-implied IsLineText (λ line. is_in_line line ≡ true) (λ line is. is.1) lines line-texts)
        (subst (λ bytes. PassAll stage_now 1 nothing_declared (lines_of bytes) (underway (demo_building rooms) [] [] [])) (prefix-is rooms)
        (building-passes rooms some few))
        all-pass.1);
    closed = refl;
  }

  is-script : IsScript stage_now (demo_script rooms seed) (demo_value rooms seed)
  is-script = record { last = last; spells = spells; is = refl }

pub demo_is_script : DemoIsScript
demo_is_script rooms seed some few = is-script rooms seed some few
