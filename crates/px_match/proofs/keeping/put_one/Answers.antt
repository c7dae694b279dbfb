use Rattle.std.proofs.Common.{sym, ap, ◌∙◌}
use Rattle.px_terms.specs.AtomSets.{with_atom}
use Rattle.px_match.specs.Keeping.{covers}
use Rattle.px_match.proofs.Fewer.{places_put}
use Rattle.px_match.proofs.Kept.{matches_set, matches_without, put-covered, put-other}
use Rattle.px_match.proofs.keeping.put_one.Goals as goal

pub insert_spare-requires-clause-room : goal.insert_spare-requires-clause-room
insert_spare-requires-clause-room c = c.requires.room (sym c.covers.ensures ∙ c.if-covers.true)

pub returns-then-covers : goal.returns-then-covers
returns-then-covers c = record {
  each = λ room atoms set hasnt is. record {
    same = c.insert_spare.ensures.atoms ∙ ap (with_atom c.args.atom.now) is.same
        ∙ sym (put-covered (covers c.args.mark.now) c.args.atom.now atoms set (sym c.covers.ensures ∙ c.if-covers.true));
    places =
        places_put room c.args.mark.now c.args.atom.now c.args.list.now c.insert_spare.new.self
        (matches_set c.args.mark.now atoms c.args.list.now.atoms set is.same)
        c.insert_spare.ensures.atoms (matches_without c.args.mark.now atoms c.args.list.now.atoms c.args.atom.now is.same hasnt)
        c.insert_spare.ensures.spare is.places;
  };
}

pub returns-else-covers : goal.returns-else-covers
returns-else-covers c = record {
  each = λ room atoms set hasnt is. record {
    same = is.same ∙ sym (put-other (covers c.args.mark.now) c.args.atom.now atoms set (sym c.covers.ensures ∙ c.if-covers.false));
    places = is.places;
  };
}
