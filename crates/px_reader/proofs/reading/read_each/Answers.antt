use Rattle.px_reader.proofs.Common.{◌≡◌, ◌==◌, ◌<◌, ◌∙◌, ℕ, List, length, get_or, arith, refl, sym, ap, subst, lit<, chars, slice_split, without_return, LinesFail, lines_in, stage_view, declared_of}
use Rattle.std.proofs.lemmas.Iterator.Consumers.{YieldsList-at, YieldsList-turn, YieldsList-end}
use Rattle.std.proofs.lemmas.Iterator.Splits.{YieldsList-from_str_split}
use Rattle.std.proofs.lemmas.List.{length_push}
use Rattle.px_causes.specs.FaultViews.{refusal_of}
use Rattle.px_reader.proofs.LineSteps.{none-read, more-read, all-read, one-fails}
use Rattle.px_reader.proofs.reading.read_each.Goals as goal

-- the part at a place, where the place is told by another number, too
at_place : (parts : List (List ℕ)) (n k : ℕ) (line : List ℕ) → n ≡ k → (k < length parts) × (line ≡ get_or parts k line)
    → (n < length parts) × (line ≡ get_or parts n line)
at_place parts n k line same at = subst (λ k. (k < length parts) × (line ≡ get_or parts k line)) (sym same) at

pub loop-line-init : goal.loop-line-init
loop-line-init c = record {
  count = refl;
  read = none-read (stage_view c.args.stage.now) (λ line. chars (without_return line)) (slice_split (λ b. b == 10) c.args.text.now) _
      c.requires.start;
}

pub returns-in-Ok-Some-clause-fails : goal.returns-in-Ok-Some-clause-fails
returns-in-Ok-Some-clause-fails c =
    let parts = slice_split (λ b. b == 10) c.args.text.now in
    let turn = YieldsList-turn (YieldsList-at c.into_iter-line-iterator.ensures.into_iter_gives
    (YieldsList-from_str_split 10 c.args.text.now (lit< tt) c.split-line-items.ensures.text c.split-line-items.ensures.has_more
    c.split-line-items.ensures.pattern)) c.loop-line.yielded _ c.loop-line.yielded_by _ _ c.in-Some.line c.in-Some.is c.next.ensures.steps in
    let at = at_place parts c.loop-line.number (length c.loop-line.yielded) c.in-Some.line.now c.loop-line.invariant.count turn in
    let fails = rw c.in-Ok-Some.field-0-is at c.in-Ok-Some.ensures in
    subst (LinesFail (stage_view c.args.stage.now) (lines_in c.args.text.now)) (sym c.refused.ensures)
    (one-fails (stage_view c.args.stage.now) (λ line. chars (without_return line)) parts (declared_of c.loop-line.so_far)
    c.loop-line.number c.in-Some.line.now _ (refusal_of c.in-Ok-Some.fault) at.0
    (ap chars c.without_return.ensures ∙ ap (λ line. chars (without_return line)) at.1) c.loop-line.invariant.read fails)

pub loop-line-preserved : goal.loop-line-preserved
loop-line-preserved c =
    let parts = slice_split (λ b. b == 10) c.args.text.now in
    let turn = YieldsList-turn (YieldsList-at c.into_iter-line-iterator.ensures.into_iter_gives
    (YieldsList-from_str_split 10 c.args.text.now (lit< tt) c.split-line-items.ensures.text c.split-line-items.ensures.has_more
    c.split-line-items.ensures.pattern)) c.loop-line.yielded _ c.loop-line.yielded_by _ _ c.in-Some.line c.in-Some.is c.next.ensures.steps in
    let at = at_place parts c.loop-line.number (length c.loop-line.yielded) c.in-Some.line.now c.loop-line.invariant.count turn in
    record {
      count = omega (arith, c.loop-line.invariant.count, length_push c.loop-line.yielded c.in-Some.line);
      read = more-read (stage_view c.args.stage.now) (λ line. chars (without_return line)) parts (declared_of c.loop-line.so_far)
          (declared_of c.read_line.new.so_far) c.loop-line.number c.in-Some.line.now _ at.0
          (ap chars c.without_return.ensures ∙ ap (λ line. chars (without_return line)) at.1) c.loop-line.invariant.read
          (rw c.in-Ok-None.field-0-is at c.in-Ok-None.ensures);
    }

pub returns-clause-passes : goal.returns-clause-passes
returns-clause-passes c =
    let parts = slice_split (λ b. b == 10) c.args.text.now in
    let end = YieldsList-end (YieldsList-at c.into_iter-line-iterator.ensures.into_iter_gives
    (YieldsList-from_str_split 10 c.args.text.now (lit< tt) c.split-line-items.ensures.text c.split-line-items.ensures.has_more
    c.split-line-items.ensures.pattern)) c.loop-line.yielded _ c.loop-line.yielded_by _ _ c.in-None.is c.next.ensures.steps in
    all-read (stage_view c.args.stage.now) (λ line. chars (without_return line)) parts (declared_of c.loop-line.so_far)
    c.loop-line.number (omega (arith, end.1, c.loop-line.invariant.count)) c.loop-line.invariant.read
