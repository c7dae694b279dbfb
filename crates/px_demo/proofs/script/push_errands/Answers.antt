use Rattle.std.proofs.Common.{◌+◌, ◌++◌, ℕ, ap, ◌∙◌, arith}
use Rattle.std.specs.Prelude.{string_bytes}
use Rattle.px_demo.specs.Errands.{room_after}
use Rattle.px_demo.specs.Script.{errand_lines, text_of_lines}
use Rattle.px_demo.proofs.Steps.{number-step, room-step}
use Rattle.px_demo.proofs.Texts.{first-lines, grows}
use Rattle.px_demo.proofs.script.push_errands.Goals as goal

pub loop-done-preserved : goal.loop-done-preserved
loop-done-preserved c =
    let so_far = c.loop-done.invariant in
    let done = c.loop-done.done in
    let number_is = c.next_number-number.ensures.next ∙ number-step c.args.seed done c.loop-done.number so_far.1 in
    let room_is = c.target-room.ensures.target
    ∙ room-step c.args.rooms c.args.seed done _ _ _ number_is so_far.2 c.distance-far.ensures.distance in
    let grown = c.in_ok-push_errand.ensures
    ∙ ap (λ (r : ℕ). string_bytes c.loop-done.text ++ text_of_lines (errand_lines (done + 1) r)) room_is in (
      grows _ _ _ _ _ _ grown
          (first-lines (λ j. errand_lines j (room_after c.args.rooms c.args.seed j)) done c.args.rooms
          (omega (arith, c.loop-done-test.true))) so_far.0,
      number_is,
      room_is,
      c.next_number-number.ensures.small,
      c.target-room.ensures.there.0,
      c.target-room.ensures.there.1,
    )
