use Rattle.std.proofs.Common.{sym, ap, ◌∙◌}
use Rattle.px_ops.specs.Models.{without_atom}
use Rattle.px_match.specs.Keeping.{covers}
use Rattle.px_match.proofs.Fewer.{places_taken}
use Rattle.px_match.proofs.Kept.{matches_set, taken-covered, taken-other}
use Rattle.px_match.proofs.keeping.take_one.Goals as goal

pub returns-then-covers : goal.returns-then-covers
returns-then-covers c = record {
  each = λ room atoms set is. record {
    same =
        c.remove.ensures.atoms ∙ ap (without_atom c.args.atom.now) is.same
        ∙ sym (taken-covered (covers c.args.mark.now) c.args.atom.now atoms set);
    places =
        places_taken room c.args.mark.now c.args.atom.now c.args.list.now c.remove.new.self c.remove.result
        (matches_set c.args.mark.now atoms c.args.list.now.atoms set is.same)
        c.remove.ensures.atoms c.remove.ensures.was_there c.remove.ensures.spare_kept c.remove.ensures.spare_won is.places;
  };
}

pub returns-else-covers : goal.returns-else-covers
returns-else-covers c = record {
  each = λ room atoms set is. record {
    same = is.same ∙ sym (taken-other (covers c.args.mark.now) c.args.atom.now atoms set (sym c.covers.ensures ∙ c.if-covers.false));
    places = is.places;
  };
}
