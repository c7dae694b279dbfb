use Rattle.std.proofs.Common.{ℕ, List, subst}
use Rattle.px_base.proofs.Loops.{ok_map}
use Rattle.px_ops.specs.Keeping.{Keeps}
use Rattle.px_terms.specs.declared.atom.Atom.{Atom}
use Rattle.px_numbers.specs.Numbers.{Kept, KeepsAll, IsModelAt, AreNumbersOf}
use Rattle.px_numbers.proofs.NumberSteps.{keeps_same, result_places, result_once}
use Rattle.px_numbers.proofs.numbers.Numbers.model_number.Goals as goal

pub invariant_of-self-2 : goal.invariant_of-self-2
invariant_of-self-2 c = record {
  once = record {
    atoms = c.numbers_of.ensures.once c.self.invariant.once.atoms;
    lists =
        result_once c.self.inside.lists c.intern.new.self c.from_vec.result c.intern.result c.intern.ensures.kept c.intern.ensures.err
        c.self.invariant.once.lists;
    entries = c.self.invariant.once.entries;
    frames = c.self.invariant.once.frames;
  };
  descending = c.self.invariant.descending;
}

pub returns-clause-keeps : goal.returns-clause-keeps
returns-clause-keeps c =
    subst (λ (k : Kept). KeepsAll k (record {
      atoms = c.numbers_of.new.index;
      lists = c.intern.new.self;
      entries = c.self.inside.entries;
      frames = c.self.inside.stacks;
    })) c.self.view_is
    (record {
      atoms = c.numbers_of.ensures.places;
      lists =
          result_places c.self.inside.lists c.intern.new.self c.from_vec.result c.intern.result c.intern.ensures.kept c.intern.ensures.err;
      entries = keeps_same c.self.inside.entries;
      frames = keeps_same c.self.inside.stacks;
    })

pub returns-clause-model : goal.returns-clause-model
returns-clause-model c =
    let new : Kept =
    record { atoms = c.numbers_of.new.index; lists = c.intern.new.self; entries = c.self.inside.entries; frames = c.self.inside.stacks }
    in
    ok_map (Keeps c.self.inside.lists c.intern.new.self c.from_vec.result) (λ number. IsModelAt new number c.args.model.now.atoms)
    (λ number kept. (
      c.in_ok-numbers.numbers.items,
      (subst (λ (l : List ℕ). Keeps c.self.inside.lists c.intern.new.self l number) c.from_vec.ensures kept).here,
      record {
        is_set = c.atoms.ensures.model.ascending;
        numbers_are =
            subst (λ (l : List Atom). AreNumbersOf new.atoms c.in_ok-numbers.numbers.items l) c.atoms.ensures.value
            c.in_ok-numbers.ensures.numbers;
      },
    )) c.intern.result c.intern.ensures.kept
