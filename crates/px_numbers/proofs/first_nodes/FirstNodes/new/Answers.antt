use Rattle.std.proofs.Common.{ap, sym, take}
use Rattle.px_numbers.proofs.NodewiseLaws.{nodes_are, nodes_stand}
use Rattle.px_numbers.proofs.first_nodes.FirstNodes.new.Goals as goal

pub invariant_of-result : goal.invariant_of-result
invariant_of-result c =
    record {
      few = c.requires.count;
      stand = nodes_stand c.args.numbers c.sound.ensures.descending c.args.keys c.requires.stand.0 c.requires.stand.1;
    }

pub returns : goal.returns
returns c = λ nodes all. ap (take c.args.count) (sym (nodes_are c.args.numbers c.sound.ensures.descending c.args.keys nodes all))
