-- The lines of all errands have no fault, and what they leave.
use Rattle.std.specs.Prelude.{◌-◌, ◌*◌, ◌^◌}
use Rattle.std.specs.Str.{chars}
use Rattle.std.proofs.lemmas.Fmt.{decimal_injective, length-decimal-le}
use Rattle.px_demo.specs.Errands.{room_after}
use Rattle.px_demo.specs.Script.{errand_lines, learn_line, plan_line, run_line}
use Rattle.px_names.specs.NameLaws.{bytes_eq-other}
use Rattle.px_rooms.specs.Domain.{in_room}
use Rattle.px_script.specs.declared.command.Command.{Command}
use Rattle.px_script.specs.declared.command.Command.TheVariants.{Plan, Learn, Run}
use Rattle.px_script.proofs.Common.{◌≡◌, ◌≢◌, ℕ, zero, suc, ◌+◌, ◌<◌, ◌≤◌, true, false, List, [], ◌∷◌, ◌++◌, map, length, refl, sym, ◌∙◌, arith, append_assoc, append-nil, AllByRecursion, IsUtf8, bytes_eq, codes, decimal, flat_map, has_name, length-append, number_in, range_with_len, Lexeme, Obj, PassAll, stage_now}
use Rattle.px_script.proofs.Lists.{known-last, known-still, number-kept, number-new}
use Rattle.px_saved.proofs.Words.{Reads, is_in_line}
use Rattle.px_demo_script.specs.Value.{errand_commands, errand_results, plan_number}
use Rattle.px_demo_script.proofs.Commands.{Building, HasRoom, learn-passes, not-added, plan-passes, run-passes, underway}
use Rattle.px_demo_script.proofs.Lines.{learn-reads, line_bytes, plan-reads, run-reads}
use Rattle.px_demo_script.proofs.Targets.{IsRoom, stays-in-rooms}

-- ---- names of errands

other-number : (letter j k : ℕ) → j < 2 ^ 31 → k < 2 ^ 31 → j ≢ k → bytes_eq (letter ∷ decimal j) (letter ∷ decimal k) ≡ false
other-number letter j k low below apart = bytes_eq-other (letter ∷ decimal j) (letter ∷ decimal k)
    (λ same. absurd (apart (decimal_injective j k (omega (arith, low)) (omega (arith, below)) (cc))))

other-letter : (letter other j k : ℕ) → letter ≢ other → bytes_eq (letter ∷ decimal j) (other ∷ decimal k) ≡ false
other-letter letter other j k apart = bytes_eq-other (letter ∷ decimal j) (other ∷ decimal k) (λ same. absurd (apart (cc)))

-- the names are of errands before this one: those from it on are new
pub record AreEarlier (first : ℕ) (names : List (List ℕ)) : Type 0 where
  pub plans : (j : ℕ) → first ≤ j → j ≤ 12 → has_name (codes "G" ++ decimal j) names ≡ false
  pub tables : (j : ℕ) → first ≤ j → j ≤ 12 → has_name (codes "M" ++ decimal j) names ≡ false

earlier-next : (first : ℕ) (names : List (List ℕ)) → first ≤ 12 → AreEarlier first names
    → AreEarlier (first + 1) ((names ++ (codes "G" ++ decimal first) ∷ []) ++ (codes "M" ++ decimal first) ∷ [])
earlier-next first names few are = let g = codes "G" ++ decimal first in let m = codes "M" ++ decimal first in record {
  plans = λ j above below. not-added (codes "G" ++ decimal j) m (names ++ g ∷ [])
      (not-added (codes "G" ++ decimal j) g names (are.plans j (omega (arith, above)) below)
      (other-number 71 j first (omega (arith, below)) (omega (arith, few)) (λ e. omega (arith, e, above))))
      (other-letter 71 77 j first (λ e. omega (arith, e)));
  tables = λ j above below. not-added (codes "M" ++ decimal j) m (names ++ g ∷ [])
      (not-added (codes "M" ++ decimal j) g names (are.tables j (omega (arith, above)) below)
      (other-letter 77 71 j first (λ e. omega (arith, e))))
      (other-number 77 j first (omega (arith, below)) (omega (arith, few)) (λ e. omega (arith, e, above)));
}

pub none-earlier : AreEarlier 1 []
none-earlier = record { plans = λ j above below. refl; tables = λ j above below. refl }

-- ---- their lines

abbrev pub lines_from : (rooms seed first count : ℕ) → List (List ℕ)
lines_from rooms seed first count =
    map line_bytes (flat_map (λ j. errand_lines j (room_after rooms seed j)) (range_with_len first count))

abbrev pub IsLineText : List ℕ → Type 0
IsLineText bytes = IsUtf8 bytes × (is_in_line bytes ≡ true)

of-reads : (bytes : List ℕ) (lexemes : List Lexeme) → Reads bytes lexemes → IsLineText bytes
of-reads bytes lexemes reads = (reads.text, reads.inside)

module _ (rooms seed : ℕ) (some : 3 ≤ rooms) (few : rooms ≤ 12) where
  low-room : (j : ℕ) → room_after rooms seed j < 2 ^ 31
  low-room j = let most = (stays-in-rooms rooms seed j some).1 in omega (arith, most, few)

  pub errands-text : (first count : ℕ) → first + count ≤ 13 → AllByRecursion IsLineText (lines_from rooms seed first count)
  errands-text first zero within = tt
  errands-text first (suc count) within =
      let room = room_after rooms seed first in let low : first < 2 ^ 31 = omega (arith, within) in (
        of-reads (line_bytes (plan_line first room)) _ (plan-reads first room low (low-room first)),
        (
          of-reads (line_bytes (learn_line first)) _ (learn-reads first low),
          (of-reads (line_bytes (run_line first)) _ (run-reads first low), errands-text (first + 1) count (omega (arith, within))),
        ),
      )

  -- ---- all of them pass

  module _ (building : Building) (has : (r : ℕ) → IsRoom rooms r → HasRoom building (codes "R" ++ decimal r) r) where
    -- what the errands from this one on leave: these results and commands, and some plans
    abbrev pub PassTo : (first count : ℕ) (results plans all : List (List ℕ)) (commands whole : List Command) → Type 0
    PassTo first count results plans all commands whole = (left : List (List ℕ))
        × ((n : ℕ) → PassAll stage_now n (underway building results plans commands) (map chars (lines_from rooms seed first count))
        (underway building all left whole))

    -- one errand, and those after it
    module _ (first count : ℕ) (results plans all : List (List ℕ)) (commands whole : List Command) (least : 1 ≤ first)
        (within : first + suc count ≤ 13) (earlier : AreEarlier first results) (number : length results ≡ plan_number first)
        (room_left : length commands + 3 * suc count ≤ 36) where
      abbrev g : List ℕ
      g = codes "G" ++ decimal first

      abbrev m : List ℕ
      m = codes "M" ++ decimal first

      abbrev room : ℕ
      room = room_after rooms seed first

      abbrev k : ℕ
      k = plan_number first

      abbrev planned : List (List ℕ)
      planned = results ++ g ∷ []

      abbrev pub learned : List (List ℕ)
      learned = planned ++ m ∷ []

      abbrev after_plan : List Command
      after_plan = commands ++ Plan k (in_room (Obj 0) (Obj room) ∷ []) 0 ∷ []

      abbrev after_learn : List Command
      after_learn = after_plan ++ Learn (k + 1) k ∷ []

      abbrev pub after_run : List Command
      after_run = after_learn ++ Run k [] ∷ []

      low : first < 2 ^ 31
      low = omega (arith, within)

      digits-few : length (decimal first) ≤ 2
      digits-few = length-decimal-le 2 first (omega arith) (omega (arith, within)) (omega (arith, within))

      g-fresh : has_name g results ≡ false
      g-fresh = earlier.plans first (omega arith) (omega (arith, within))

      m-fresh : has_name m planned ≡ false
      m-fresh = not-added m g results (earlier.tables first (omega arith) (omega (arith, within)))
          (other-letter 77 71 first first (λ e. omega (arith, e)))

      g-known : has_name g planned ≡ true
      g-known = known-last g results []

      g-number : number_in g planned ≡ k
      g-number = number-new g results [] g-fresh ∙ number

      long-plan : length after_plan ≡ length commands + 1
      long-plan = length-append commands (Plan k (in_room (Obj 0) (Obj room) ∷ []) 0 ∷ [])

      long-learn : length after_learn ≡ length after_plan + 1
      long-learn = length-append after_plan (Learn (k + 1) k ∷ [])

      pub long-run : length after_run ≡ length commands + 3
      long-run = let last = length-append after_learn (Run k [] ∷ []) in omega (arith, long-plan, long-learn, last)

      pub two-more : length learned ≡ plan_number (first + 1)
      two-more = let one = length-append results (g ∷ []) in let two = length-append planned (m ∷ []) in
          omega (arith, one, two, number, least)

      pub one-passes : PassTo (first + 1) count learned (plans ++ g ∷ []) all after_run whole
          → PassTo first (suc count) results plans all commands whole
      one-passes more = (
        more.0,
        λ n. (
          underway building planned (plans ++ g ∷ []) after_plan,
          plan-passes building results plans commands (omega (arith, room_left)) g (codes "R" ++ decimal room) room k
              (omega (arith, digits-few)) g-fresh number (has room (stays-in-rooms rooms seed first some)) n
              (line_bytes (plan_line first room)) (plan-reads first room low (low-room first)),
          (
            underway building learned (plans ++ g ∷ []) after_learn,
            learn-passes building planned (plans ++ g ∷ []) after_plan (omega (arith, room_left, long-plan)) m g (k + 1) k
                (omega (arith, digits-few)) m-fresh (length-append results (g ∷ []) ∙ omega (arith, number)) (known-last g plans []) g-number
                (n + 1) (line_bytes (learn_line first)) (learn-reads first low),
            (
              underway building learned (plans ++ g ∷ []) after_run,
              run-passes building learned (plans ++ g ∷ []) after_learn (omega (arith, room_left, long-plan, long-learn)) g k
                  (known-still g planned (m ∷ []) g-known) (number-kept g planned (m ∷ []) g-known ∙ g-number)
                  (n + 1 + 1) (line_bytes (run_line first)) (run-reads first low),
              more.1 (n + 1 + 1 + 1),
            ),
          ),
        ),
      )

    pub errands-pass : (first count : ℕ) (results plans all : List (List ℕ)) (commands whole : List Command) → 1 ≤ first
        → first + count ≤ 13 → AreEarlier first results → length results ≡ plan_number first → length commands + 3 * count ≤ 36
        → results ++ flat_map errand_results (range_with_len first count) ≡ all
        → commands ++ flat_map (λ j. errand_commands j (room_after rooms seed j)) (range_with_len first count) ≡ whole
        → PassTo first count results plans all commands whole
    errands-pass first zero results plans all commands whole least within earlier number room_left all_is whole_is =
        let same : all ≡ results = sym all_is ∙ append-nil results in
        let equal : whole ≡ commands = sym whole_is ∙ append-nil commands in
        (plans, λ n. λ i. underway building (same i) plans (equal i))
    errands-pass first (suc count) results plans all commands whole least within earlier number room_left all_is whole_is =
        let g = codes "G" ++ decimal first in let m = codes "M" ++ decimal first in let k = plan_number first in
        let room = room_after rooms seed first in
        let names = flat_map errand_results (range_with_len (first + 1) count) in
        let later = flat_map (λ (j : ℕ). errand_commands j (room_after rooms seed j)) (range_with_len (first + 1) count) in
        let planned = results ++ g ∷ [] in
        let asked : Command = Plan k (in_room (Obj 0) (Obj room) ∷ []) 0 in let taken : Command = Learn (k + 1) k in
        let ran : Command = Run k [] in
        let after_plan = commands ++ asked ∷ [] in let after_learn = after_plan ++ taken ∷ [] in
        let long = long-run first count results plans all commands whole least within earlier number room_left in
        one-passes first count results plans all commands whole least within earlier number room_left
        (errands-pass (first + 1) count (planned ++ m ∷ []) (plans ++ g ∷ []) all (after_learn ++ ran ∷ []) whole
        (omega (arith, least)) (omega (arith, within)) (earlier-next first results (omega (arith, within)) earlier)
        (two-more first count results plans all commands whole least within earlier number room_left) (omega (arith, long, room_left))
        (append_assoc planned (m ∷ []) names ∙ append_assoc results (g ∷ []) (m ∷ names) ∙ all_is)
        (append_assoc after_learn (ran ∷ []) later ∙ append_assoc after_plan (taken ∷ []) (ran ∷ later)
        ∙ append_assoc commands (asked ∷ []) (taken ∷ ran ∷ later) ∙ whole_is))
