use Rattle.std.proofs.Common.{List, ℕ, length, take, true, refl, sym, subst}
use Rattle.std.specs.Prelude.{set, slice_index_or}
use Rattle.std.proofs.lemmas.List.{take_more}
use Rattle.px_base.proofs.Loops.{whole_taken}
use Rattle.px_edit.specs.Keeping.{AreAsked}
use Rattle.px_edit.proofs.Flags.{asked-next}
use Rattle.px_edit.proofs.keeping.set_asked.Goals as goal

pub loop-place-preserved : goal.loop-place-preserved
loop-place-preserved c =
    let pair = slice_index_or c.args.wanted.now c.loop-place.place (0, 0) in
    subst (λ (w : List (ℕ × ℕ)). AreAsked (length c.args.flags.now) w (set c.loop-place.flags pair.0 true))
    (sym (take_more c.args.wanted.now c.loop-place.place (0, 0) c.loop-place-test.true))
    (asked-next (length c.args.flags.now) (take c.loop-place.place c.args.wanted.now) c.loop-place.flags pair
    (c.requires.within c.loop-place.place (0, 0) c.loop-place-test.true) c.loop-place.invariant)

pub returns : goal.returns
returns c =
    subst (λ (w : List (ℕ × ℕ)). AreAsked (length c.args.flags.now) w c.loop-place.flags)
    (whole_taken c.args.wanted.now (take c.loop-place.place c.args.wanted.now) c.loop-place.place refl c.loop-place-test.false)
    c.loop-place.invariant
