use Rattle.std.proofs.Common.{◌≡◌, ◌++◌, ◌-◌, ◌/◌, ℕ, List, length, take, drop, length-drop, sym, ap, subst, arith}
use Rattle.px_terms.specs.declared.atom.Atom.{Atom}
use Rattle.px_support.specs.Asking.{task_for}
use Rattle.px_search.specs.Offers.{ArePushes, IsOfferedWhole}
use Rattle.px_search.proofs.CacheLaws.{part-grows}
use Rattle.px_search.proofs.OfferLaws.{if_some}
use Rattle.px_search.proofs.WholeLaws.{rest-is, two-parts, whole-grows, whole-joined, whole-nothing, whole-pushes}
use Rattle.px_search.proofs.cache.Cache.+offered_each.Goals as goal

pub returns-then-gaps-eq0-clause-whole : goal.returns-then-gaps-eq0-clause-whole
returns-then-gaps-eq0-clause-whole t c =
    whole-nothing (task_for c.args.asked.now) c.args.self.now.numbers c.args.current.now.model.atoms c.args.gaps.now c.new.result.items
    (omega (arith, c.if-gaps-eq0.true)) c.new.ensures.items

pub offered_each-requires-2 : goal.offered_each-requires-2
offered_each-requires-2 t c =
    let gaps = c.args.gaps.now in
    let half : ℕ = length gaps / 2 in (
      omega (arith, ap length (rest-is half gaps), length-drop half gaps, c.if-gaps-eq0.false, c.if-gaps-eq1.false, c.decreases),
      (
        c.requires.asked,
        (
          c.in-Ok.ensures.cache.right,
          part-grows (task_for c.args.asked.now) c.args.self.now.numbers c.offered_each.new.self.numbers c.in-Ok.ensures.cache.keeps
              c.args.current.now.part c.args.current.now.model.atoms c.requires.part,
        ),
      ),
    )

pub merged-requires-clause-first : goal.merged-requires-clause-first
merged-requires-clause-first t c =
    let task = task_for c.args.asked.now in
    let facts = c.args.current.now.model.atoms in
    let first = c.in-Some.first.items in
    let front = take (length c.args.gaps.now / 2) c.args.gaps.now in
    let kept = c.offered_each-2.new.self.numbers in
    let before =
    whole-grows task c.offered_each.new.self.numbers kept facts front first c.in-Ok-offered_each.ensures.cache.keeps
    (if_some (λ steps. IsOfferedWhole task c.offered_each.new.self.numbers facts front steps.items) c.in-Ok.before c.in-Some.first
    c.in-Some.is c.in-Ok.ensures.whole) in (
      before.entries,
      subst (ArePushes kept before.entries) (sym c.deref.ensures.value) (whole-pushes task kept facts front first before),
    )

pub returns-clause-whole : goal.returns-clause-whole
returns-clause-whole t c =
    let task = task_for c.args.asked.now in
    let facts = c.args.current.now.model.atoms in
    let gaps = c.args.gaps.now in
    let half : ℕ = length gaps / 2 in
    let first = c.in-Some.first.items in
    let second = c.in-Some-after.second.items in
    let steps = c.in_ok-steps.steps.items in
    let kept = c.offered_each-2.new.self.numbers in
    let front : List Atom = take half gaps in
    let back : List Atom = take (length gaps - half) (drop half gaps) in
    let before : IsOfferedWhole task kept facts front first =
    whole-grows task c.offered_each.new.self.numbers kept facts front first c.in-Ok-offered_each.ensures.cache.keeps
    (if_some (λ steps. IsOfferedWhole task c.offered_each.new.self.numbers facts front steps.items) c.in-Ok.before c.in-Some.first
    c.in-Some.is c.in-Ok.ensures.whole) in
    let after : IsOfferedWhole task kept facts back second =
    if_some (λ steps. IsOfferedWhole task kept facts back steps.items) c.in-Ok-offered_each.after c.in-Some-after.second
    c.in-Some-after.is c.in-Ok-offered_each.ensures.whole in
    subst (λ (l : List Atom). IsOfferedWhole task kept facts l steps) (two-parts half gaps)
    (whole-joined task kept facts front back first second steps before after
    (c.in_ok-steps.ensures before.entries after.entries
    (subst (ArePushes kept before.entries) (sym c.deref.ensures.value) (whole-pushes task kept facts front first before))
    (subst (ArePushes kept after.entries) (sym c.deref-2.ensures.value) (whole-pushes task kept facts back second after))))
