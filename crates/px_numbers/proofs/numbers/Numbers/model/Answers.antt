use Rattle.std.proofs.Common.{◌≡◌, ℕ, List, subst, sym}
use Rattle.std.specs.Prelude.{IfOk}
use Rattle.px_base.proofs.Loops.{ok_map}
use Rattle.px_numbers.specs.Numbers.{Kept, IsModelOf, IsModelAt}
use Rattle.px_numbers.specs.NumberLaws.{one_at}
use Rattle.px_numbers.proofs.numbers.Numbers.model.Goals as goal

pub model_of-requires : goal.model_of-requires
model_of-requires c =
    let inside : Kept =
    record { atoms = c.self.inside.atoms; lists = c.self.inside.lists; entries = c.self.inside.entries; frames = c.self.inside.stacks }
    in
    let known : IsModelAt inside c.args.number c.requires.0 =
    subst (λ (k : Kept). IsModelAt k c.args.number c.requires.0) (sym c.self.view_is) c.requires.1 in
    let same : known.0 ≡ c.list.result.now = one_at c.self.inside.lists c.args.number known.0 c.list.result.now known.1 c.list.ensures in
    (c.requires.0, subst (λ (l : List ℕ). IsModelOf c.self.inside.atoms l c.requires.0) same known.2)

pub returns : goal.returns
returns c =
    subst (λ (k : Kept). IfOk c.model_of.result (λ built. IsModelAt k c.args.number built.atoms)) c.self.view_is
    (ok_map (λ built. IsModelOf c.self.inside.atoms c.list.result.now built.atoms)
    (λ built. IsModelAt (record {
      atoms = c.self.inside.atoms;
      lists = c.self.inside.lists;
      entries = c.self.inside.entries;
      frames = c.self.inside.stacks;
    }) c.args.number
    built.atoms)
    (λ built is. (c.list.result.now, c.list.ensures, is)) c.model_of.result c.model_of.ensures)
