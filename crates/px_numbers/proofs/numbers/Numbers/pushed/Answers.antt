use Rattle.std.proofs.Common.{◌≤◌, length, subst, sym, arith}
use Rattle.px_numbers.specs.declared.stacks.Frame.{Frame}
use Rattle.px_numbers.specs.Numbers.{Kept, KeepsAll}
use Rattle.px_numbers.specs.NumberLaws.{stack_at-grows}
use Rattle.px_ops.specs.KeepLaws.{keeps-places, keeps-once}
use Rattle.px_numbers.proofs.NumberSteps.{keeps_same, stack_within, descending_more}
use Rattle.px_numbers.proofs.numbers.Numbers.pushed.Goals as goal

pub invariant_of-self-2 : goal.invariant_of-self-2
invariant_of-self-2 c =
    let frame : Frame = record { entry = c.args.entry; below = c.args.below } in
    let within : c.args.below ≤ length c.self.inside.stacks =
    subst (λ (k : Kept). c.args.below ≤ length k.frames) (sym c.self.view_is)
    (stack_within c.args.self.now c.args.below c.requires.0 c.requires.1) in
    record {
      once = record {
        atoms = c.self.invariant.once.atoms;
        lists = c.self.invariant.once.lists;
        entries = c.self.invariant.once.entries;
        frames =
            keeps-once c.self.inside.stacks c.intern.new.self frame c.in_ok-place.place c.in_ok-place.ensures.kept
            c.self.invariant.once.frames;
      };
      descending =
          descending_more c.self.inside.stacks c.intern.new.self frame c.in_ok-place.place c.in_ok-place.ensures.kept within
          c.self.invariant.descending;
    }

pub returns-clause-keeps : goal.returns-clause-keeps
returns-clause-keeps c =
    let frame : Frame = record { entry = c.args.entry; below = c.args.below } in
    subst (λ (k : Kept). KeepsAll k (record {
      atoms = c.self.inside.atoms;
      lists = c.self.inside.lists;
      entries = c.self.inside.entries;
      frames = c.intern.new.self;
    })) c.self.view_is
    (record {
      atoms = keeps_same c.self.inside.atoms;
      lists = keeps_same c.self.inside.lists;
      entries = keeps_same c.self.inside.entries;
      frames = keeps-places c.self.inside.stacks c.intern.new.self frame c.in_ok-place.place c.in_ok-place.ensures.kept;
    })

pub returns-clause-stack : goal.returns-clause-stack
returns-clause-stack c = λ top stack at is.
    let frame : Frame = record { entry = c.args.entry; below = c.args.below } in
    let new : Kept =
    record { atoms = c.self.inside.atoms; lists = c.self.inside.lists; entries = c.self.inside.entries; frames = c.intern.new.self } in
    let keeps : KeepsAll c.args.self.now new = returns-clause-keeps c in (
      c.in_ok-place.place,
      frame,
      omega arith,
      c.in_ok-place.ensures.kept.here,
      keeps.entries c.args.entry top at,
      stack_at-grows c.args.self.now new c.args.below stack keeps is,
    )
