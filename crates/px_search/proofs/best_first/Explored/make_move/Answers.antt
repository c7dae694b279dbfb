use Rattle.std.proofs.Common.{◌≤◌, length, refl, arith}
use Rattle.px_support.specs.Asking.{task_for}
use Rattle.px_search.proofs.GoingLaws.{trying-within}
use Rattle.px_search.proofs.LoopLaws.{asks_step, exploring-grows, step_on, step-seen, step-earlier, step-trace, there_stands, step-new, step-onward, step-reached, step-origins, step-limit, step-full, step-within}
use Rattle.px_search.proofs.best_first.Explored.make_move.Goals as goal

pub node-key-requires : goal.node-key-requires
node-key-requires c = trying-within (task_for c.args.asked.now) c.requires.trying.4

pub after-requires-clause-node : goal.after-requires-clause-node
after-requires-clause-node c = asks_step (task_for c.args.asked.now) c.requires.trying.4 c.node-key.ensures

pub returns-then-place-count-clause-made : goal.returns-then-place-count-clause-made
returns-then-place-count-clause-made c = λ picked steps is_all i t at.
    let task = task_for c.args.asked.now in
    let made = c.in_ok-there.ensures in
    let st = step_on task c.args.step t c.node-key.ensures made.cache.keeps made.there at in
    step-seen task c.sound.ensures.once st c.in_ok-place.ensures.kept
    (omega (arith, c.if-place-count.true, c.count-count.ensures))

pub count_to-requires-clause-earlier : goal.count_to-requires-clause-earlier
count_to-requires-clause-earlier c =
    let task = task_for c.args.asked.now in
    let made = c.in_ok-there.ensures in
    let st = step_on task c.args.step c.requires.trying.4 c.node-key.ensures made.cache.keeps made.there c.requires.trying.5 in
    step-earlier task c.sound.ensures.once st c.in_ok-place.ensures.kept c.push.new.self.items c.in_ok-push.ensures.items

pub count_to-requires-clause-traced : goal.count_to-requires-clause-traced
count_to-requires-clause-traced c =
    let task = task_for c.args.asked.now in
    let made = c.in_ok-there.ensures in
    let st = step_on task c.args.step c.requires.trying.4 c.node-key.ensures made.cache.keeps made.there c.requires.trying.5 in
    step-trace task c.sound.ensures.once st c.in_ok-place.ensures.kept c.push.new.self.items c.in_ok-push.ensures.items

pub count_to-requires-clause-few : goal.count_to-requires-clause-few
count_to-requires-clause-few c =
    let task = task_for c.args.asked.now in
    let made = c.in_ok-there.ensures in
    let st = step_on task c.args.step c.requires.trying.4 c.node-key.ensures made.cache.keeps made.there c.requires.trying.5 in
    let few : length c.push.new.self.items ≤ task.nodes =
    step-origins task c.sound.ensures.once st c.in_ok-place.ensures.kept
    (λ h. omega (arith, h, c.if-place-count.false, c.count-count.ensures)) c.push.new.self.items c.in_ok-push.ensures.items in
    omega (arith, few, c.requires.asked.nodes.1)

pub returns-then-count-asked-clause-stops : goal.returns-then-count-asked-clause-stops
returns-then-count-asked-clause-stops c =
    let task = task_for c.args.asked.now in
    let made = c.in_ok-there.ensures in
    let st = step_on task c.args.step c.requires.trying.4 c.node-key.ensures made.cache.keeps made.there c.requires.trying.5 in (
      exploring-grows (task_for c.args.asked.now) c.args.self.now _ c.in_ok-there.ensures.cache refl c.requires.explored,
      step-full task c.sound.ensures.once st c.in_ok-place.ensures.kept
          (λ h. omega (arith, h, c.if-place-count.false, c.count-count.ensures)) c.push.new.self.items
          c.in_ok-moves.moves c.in_ok-push.ensures.items (omega (arith, c.if-count-asked.true, c.count-count.ensures))
          c.in_ok-moves.ensures,
    )

pub try_node-requires-clause-node : goal.try_node-requires-clause-node
try_node-requires-clause-node c =
    let task = task_for c.args.asked.now in
    let made = c.in_ok-there.ensures in
    let st = step_on task c.args.step c.requires.trying.4 c.node-key.ensures made.cache.keeps made.there c.requires.trying.5 in
    there_stands task c.sound.ensures.once st c.in_ok-place.ensures.kept

pub returns-in-Answered-clause-stops : goal.returns-in-Answered-clause-stops
returns-in-Answered-clause-stops c =
    let task = task_for c.args.asked.now in
    let made = c.in_ok-there.ensures in
    let st = step_on task c.args.step c.requires.trying.4 c.node-key.ensures made.cache.keeps made.there c.requires.trying.5 in (
      exploring-grows (task_for c.args.asked.now) c.args.self.now _ c.in_ok-there.ensures.cache refl c.requires.explored,
      step-reached task c.sound.ensures.once st c.in_ok-place.ensures.kept
          (λ h. omega (arith, h, c.if-place-count.false, c.count-count.ensures)) c.push.new.self.items
          c.in_ok-tried.tried c.in_ok-push.ensures.items (omega (arith, c.if-count-asked.false, c.count-count.ensures))
          c.in_ok-tried.ensures c.in-Answered.is,
    )

pub go_on-requires-clause-onward : goal.go_on-requires-clause-onward
go_on-requires-clause-onward c =
    let task = task_for c.args.asked.now in
    let made = c.in_ok-there.ensures in
    let st = step_on task c.args.step c.requires.trying.4 c.node-key.ensures made.cache.keeps made.there c.requires.trying.5 in (
      st.t.going.found,
      _,
      _,
      st.t.going.picking,
      step-onward task c.sound.ensures.once st c.in_ok-place.ensures.kept,
    )

pub returns-in_ok-go_on-in-Unanswered-clause-made : goal.returns-in_ok-go_on-in-Unanswered-clause-made
returns-in_ok-go_on-in-Unanswered-clause-made c = λ picked steps is_all i t at.
    let task = task_for c.args.asked.now in
    let made = c.in_ok-there.ensures in
    let st = step_on task c.args.step t c.node-key.ensures made.cache.keeps made.there at in
    step-new task c.sound.ensures.once st c.in_ok-place.ensures.kept
    (λ h. omega (arith, h, c.if-place-count.false, c.count-count.ensures)) c.push.new.self.items c.in_ok-tried.tried
    c.go_on.new.self c.in_ok-push.ensures.items (omega (arith, c.if-count-asked.false, c.count-count.ensures)) c.in_ok-tried.ensures
    c.in-Unanswered.is
    (c.in_ok-go_on-in-Unanswered.ensures st.t.going.found _ _ st.t.going.picking
    (step-onward task c.sound.ensures.once st c.in_ok-place.ensures.kept)
    (step-within task c.sound.ensures.once st c.in_ok-place.ensures.kept))

pub returns-in-Limited-clause-stops : goal.returns-in-Limited-clause-stops
returns-in-Limited-clause-stops c =
    let task = task_for c.args.asked.now in
    let made = c.in_ok-there.ensures in
    let st = step_on task c.args.step c.requires.trying.4 c.node-key.ensures made.cache.keeps made.there c.requires.trying.5 in (
      exploring-grows (task_for c.args.asked.now) c.args.self.now _ c.in_ok-there.ensures.cache refl c.requires.explored,
      step-limit task c.sound.ensures.once st c.in_ok-place.ensures.kept
          (λ h. omega (arith, h, c.if-place-count.false, c.count-count.ensures)) c.push.new.self.items c.in_ok-tried.tried
          c.in-Limited.met c.in_ok-push.ensures.items (omega (arith, c.if-count-asked.false, c.count-count.ensures))
          c.in_ok-tried.ensures c.in-Limited.is,
    )

pub returns-then-place-count-clause-explored : goal.returns-then-place-count-clause-explored
returns-then-place-count-clause-explored c =
    exploring-grows (task_for c.args.asked.now) c.args.self.now _ c.in_ok-there.ensures.cache refl c.requires.explored

pub returns-in_ok-go_on-in-Unanswered-clause-explored : goal.returns-in_ok-go_on-in-Unanswered-clause-explored
returns-in_ok-go_on-in-Unanswered-clause-explored c =
    exploring-grows (task_for c.args.asked.now) c.args.self.now _ c.in_ok-there.ensures.cache refl c.requires.explored
