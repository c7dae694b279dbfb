use Rattle.std.proofs.Common.{◌≡◌, ◌*◌, ap, arith}
use Rattle.px_turns.specs.Turning.{adds_most}
use Rattle.px_turns.proofs.RunPlaces.{edits-all}
use Rattle.px_turns.proofs.running.count_places.Goals as goal

pub returns : goal.returns
returns g c number =
    let all = edits-all number c.args.recorded.now in
    let product : c.args.turns * c.most_adds.result ≡ c.args.turns * adds_most c.args.problem.now.schemas =
    ap (λ n. c.args.turns * n) c.most_adds.ensures in
    omega (arith, all, product, c.in_ok-by_acting.ensures, c.in_ok-edits.ensures, c.in_ok-places.ensures)
