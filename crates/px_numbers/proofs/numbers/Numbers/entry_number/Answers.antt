use Rattle.std.proofs.Common.{subst}
use Rattle.px_numbers.specs.Numbers.{Kept, KeepsAll}
use Rattle.px_numbers.proofs.NumberSteps.{keeps_same, result_places, result_once}
use Rattle.px_numbers.proofs.numbers.Numbers.entry_number.Goals as goal

pub invariant_of-self : goal.invariant_of-self
invariant_of-self c = record {
  once = record {
    atoms = c.self.invariant.once.atoms;
    lists = c.self.invariant.once.lists;
    entries =
        result_once c.self.inside.entries c.intern.new.self c.args.entry c.intern.result c.intern.ensures.kept c.intern.ensures.err
        c.self.invariant.once.entries;
    frames = c.self.invariant.once.frames;
  };
  descending = c.self.invariant.descending;
}

pub returns-clause-keeps : goal.returns-clause-keeps
returns-clause-keeps c =
    subst (λ (k : Kept). KeepsAll k (record {
      atoms = c.self.inside.atoms;
      lists = c.self.inside.lists;
      entries = c.intern.new.self;
      frames = c.self.inside.stacks;
    })) c.self.view_is
    (record {
      atoms = keeps_same c.self.inside.atoms;
      lists = keeps_same c.self.inside.lists;
      entries =
          result_places c.self.inside.entries c.intern.new.self c.args.entry c.intern.result c.intern.ensures.kept c.intern.ensures.err;
      frames = keeps_same c.self.inside.stacks;
    })
