use Rattle.std.specs.Prelude.{length}
use Rattle.px_match.proofs.Renewed.{matches_of}
use Rattle.px_match.proofs.keeping.renew.Goals as goal

pub put_new-requires-clause-room : goal.put_new-requires-clause-room
put_new-requires-clause-room c = c.take_gone.ensures.kept (length c.args.new.now.atoms) c.requires.room

pub returns-clause-kept : goal.returns-clause-kept
returns-clause-kept c = λ room are. c.put_new.ensures.kept room (c.take_gone.ensures.kept room are)

pub returns-clause-matches : goal.returns-clause-matches
returns-clause-matches c =
    let few = length c.args.new.now.atoms in
    matches_of few c.args.marks.now c.put_new.new.kept c.put_new.new.lists c.args.new.now.atoms c.put_new.ensures.atoms
    (c.put_new.ensures.kept few (c.take_gone.ensures.kept few c.requires.room))
