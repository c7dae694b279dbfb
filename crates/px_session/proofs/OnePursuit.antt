-- A command to pursue has one lawful reply.
use Rattle.std.specs.Prelude.{◌≡◌, ◌++◌, ℕ, List, [], ◌∷◌, codes, map}
use Rattle.std.proofs.Common.{refl, sym, ap, ◌∙◌, inl, inr}
use Rattle.std.specs.Fmt.{decimal}
use Rattle.px_names.specs.Lists.{NameLists}
use Rattle.px_names.specs.declared.kind.Kind.TheVariants as kind
use Rattle.px_terms.specs.declared.atom.Atom.{Atom}
use Rattle.px_terms.specs.declared.problem.Problem.{Problem}
use Rattle.px_printer.specs.PursuitEnds.{pursue_end_text}
use Rattle.px_printer.specs.Replies.{reply_text}
use Rattle.px_printer.specs.Texts.{indented_line, name_text, text_line}
use Rattle.px_printer.specs.Turns.{turn_lines}
use Rattle.px_printer.specs.declared.pursue_end.PursueEnd.{PursueEnd}
use Rattle.px_printer.specs.declared.reply.Reply.{Reply}
use Rattle.px_printer.specs.declared.reply.Reply.TheVariants as reply
use Rattle.px_printer.specs.declared.turn.Turn.{Turn}
use Rattle.px_pursue.specs.PursuitLaws.{AreLimitEnds, AreSameEnds}
use Rattle.px_pursue.proofs.One.{pursuits_are_one}
use Rattle.px_session.specs.Determined.{ArePursuitLimits, SameReply}
use Rattle.px_session.specs.Lawful.{TellsPursuit, turn_told}
use Rattle.px_session.specs.Sessions.{SessionState, leaves_edit}
use Rattle.px_session.proofs.OneRunning.{same-told}

same-pursuit : (name given searches others : ℕ) (turns more : List Turn) (end also : PursueEnd) → name ≡ given → searches ≡ others
    → turns ≡ more → AreSameEnds end also → SameReply (reply.Pursuit name searches turns end) (reply.Pursuit given others more also)
same-pursuit name given searches others turns more end also names counts told (inl ends) =
    inl (λ i. reply.Pursuit (names i) (counts i) (told i) (ends i))
same-pursuit name given searches others turns more end also names counts told (inr ends) = inr (inr (record {
  name = given;
  searches = others;
  turns = more;
  end = end;
  also_end = also;
  one_is = λ i. reply.Pursuit (names i) (counts i) (told i) end;
  other_is = refl;
  ends = ends;
}))

pub pursuit-one : (problem : Problem) (old : SessionState) (name : ℕ) (goal : List Atom) (variable_count : ℕ) (one other : Reply)
    (new later : SessionState) → TellsPursuit problem old name goal variable_count one new → TellsPursuit problem old name goal variable_count other later
    → SameReply one other × (new ≡ later)
pursuit-one problem old name goal variable_count (reply.Pursuit n searches turns end) (reply.Pursuit m others more also) new later p q =
    let same = pursuits_are_one leaves_edit problem old.learned.tables goal variable_count old.recorded old.atoms p.1.after q.1.after searches others
    (map turn_told turns) (map turn_told more) end also p.1.pursues q.1.pursues in (
      same-pursuit n m searches others turns more end also (p.0 ∙ sym q.0) same.0 (same-told turns more same.1) same.2,
      p.1.changed ∙ ap (λ (atoms : List Atom). record old { atoms = atoms; recorded = [] }) same.3 ∙ sym q.1.changed,
    )
pursuit-one problem old name goal variable_count (reply.Pursuit n searches turns end) other new later p q = absurd q
pursuit-one problem old name goal variable_count one other new later p q = absurd p

end-text : (end also : PursueEnd) → AreLimitEnds end also → pursue_end_text end ≡ pursue_end_text also
end-text end also are =
    ap pursue_end_text are.one_is ∙ ap (λ n. indented_line (codes "shapelimit" ∷ decimal n ∷ codes "shapes" ∷ [])) are.as_many
    ∙ sym (ap pursue_end_text are.other_is)

pub pursuit-text : (names : NameLists) (one other : Reply) → ArePursuitLimits one other → reply_text names one ≡ reply_text names other
pursuit-text names one other are =
    ap (reply_text names) are.one_is
    ∙ ap (λ (end : List ℕ). text_line (codes "pursue" ∷ name_text names kind.Result are.name ∷ decimal are.searches ∷ codes "searches" ∷ [])
    ++ (turn_lines names 1 are.turns ++ end)) (end-text are.end are.also_end are.ends)
    ∙ sym (ap (reply_text names) are.other_is)
