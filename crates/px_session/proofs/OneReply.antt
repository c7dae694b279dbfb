-- A state and a command have one lawful reply.
use Rattle.std.specs.Prelude.{◌≡◌, ℕ, [], ◌∷◌, codes, map}
use Rattle.std.proofs.Common.{sym, ap, ◌∙◌, inl, inr}
use Rattle.std.specs.Fmt.{decimal}
use Rattle.px_names.specs.Lists.{NameLists}
use Rattle.px_names.specs.declared.kind.Kind.TheVariants as kind
use Rattle.px_terms.specs.declared.problem.Problem.{Problem}
use Rattle.px_terms.specs.Validity.{IsValid}
use Rattle.px_planex.specs.Turns.{Recorded}
use Rattle.px_ends.specs.Tasks.{Task, task_of, task_with}
use Rattle.px_search.proofs.TreeLaws.{trees_are_one}
use Rattle.px_printer.specs.Replies.{reply_text}
use Rattle.px_printer.specs.Texts.{text_line, name_text}
use Rattle.px_printer.specs.declared.reply.Reply.{Reply}
use Rattle.px_printer.specs.declared.reply.Reply.TheVariants as reply
use Rattle.px_script.specs.declared.command.Command.{Command}
use Rattle.px_script.specs.declared.command.Command.TheVariants as command
use Rattle.px_session.specs.Determined.{LawfulIsOne, SameReply}
use Rattle.px_session.specs.Lawful.{Lawful, Notes, TellsFacts, TellsTree, recorded_for}
use Rattle.px_session.specs.Sessions.{Edit, IsSession, SessionState, of_atoms, of_rooms}
use Rattle.px_session.proofs.AskedReplies.{certifying-one, saving-one, show-one}
use Rattle.px_session.proofs.OneDuo.{duo-one}
use Rattle.px_session.proofs.OneEditing.{editing-one}
use Rattle.px_session.proofs.OneLearning.{learning-one}
use Rattle.px_session.proofs.OnePursuit.{pursuit-one, pursuit-text}
use Rattle.px_session.proofs.OneRunning.{run-one}
use Rattle.px_session.proofs.OneSearch.{search-one}

-- ---- disturb, tree, facts

notes-one : (old : SessionState) (note : Recorded Edit) (one other : Reply) (new later : SessionState) → Notes old note one new
    → Notes old note other later → SameReply one other × (new ≡ later)
notes-one old note (reply.Noted n) (reply.Noted m) new later p q = (inl (ap reply.Noted (p.0 ∙ sym q.0)), p.1 ∙ sym q.1)
notes-one old note (reply.Noted n) other new later p q = absurd q
notes-one old note one other new later p q = absurd p

tree-one : (task : Task) (name : ℕ) (old : SessionState) (one other : Reply) (new later : SessionState) → TellsTree task name old one new
    → TellsTree task name old other later → SameReply one other × (new ≡ later)
tree-one task name old (reply.Tree n tables tree) (reply.Tree m others also) new later p q =
    let names : n ≡ m = p.0 ∙ sym q.0 in
    let same : tables ≡ others = p.1 ∙ sym q.1 in
    let trees = trees_are_one task task.problem.weight tree also p.2 q.2 in
    (inl (λ i. reply.Tree (names i) (same i) (trees i)), p.3 ∙ sym q.3)
tree-one task name old (reply.Tree n tables tree) other new later p q = absurd q
tree-one task name old one other new later p q = absurd p

facts-one : (old : SessionState) (one other : Reply) (new later : SessionState) → TellsFacts old one new → TellsFacts old other later
    → SameReply one other × (new ≡ later)
facts-one old (reply.FactsAre atoms) (reply.FactsAre others) new later p q = (inl (ap reply.FactsAre (p.0 ∙ sym q.0)), p.2 ∙ sym q.2)
facts-one old (reply.FactsAre atoms) other new later p q = absurd q
facts-one old one other new later p q = absurd p

-- ---- all commands

reply-one : (problem : Problem) (old : SessionState) (given : Command) (one other : Reply) (new later : SessionState)
    → IsValid problem → IsSession problem old
    → Lawful problem old given one new → Lawful problem old given other later → SameReply one other × (new ≡ later)
reply-one problem old (command.Plan name goal variable_count) one other new later valid session p q =
    search-one (task_of problem old.learned.tables old.atoms goal variable_count) name old one other new later p q
reply-one problem old (command.Learn name source) one other new later valid session p q =
    learning-one problem valid old session name source one other new later p q
reply-one problem old (command.Edit name source prefix wanted) one other new later valid session p q =
    editing-one problem old name source prefix wanted one other new later p q
reply-one problem old (command.Show name) one other new later valid session p q =
    show-one problem old name one other new later p q
reply-one problem old (command.Save name) one other new later valid session p q =
    saving-one problem old name one other new later p q
reply-one problem old (command.Certify name) one other new later valid session p q =
    certifying-one problem old name one other new later p q
reply-one problem old (command.DisturbAtoms turn between edits) one other new later valid session p q =
    notes-one old (recorded_for turn between (map of_atoms edits)) one other new later p q
reply-one problem old (command.DisturbRooms turn between edits) one other new later valid session p q =
    notes-one old (recorded_for turn between (map of_rooms edits)) one other new later p q
reply-one problem old (command.Run name bound) one other new later valid session p q =
    run-one problem old name bound one other new later p q
reply-one problem old (command.Duo first second numbers) one other new later valid session p q =
    duo-one problem old first second numbers one other new later p q
reply-one problem old (command.Pursue name goal variable_count) one other new later valid session p q =
    pursuit-one problem old name goal variable_count one other new later p q
reply-one problem old (command.Tree name nodes goal variable_count) one other new later valid session p q =
    tree-one (task_with problem nodes old.learned.tables old.atoms goal variable_count) name old one other new later p q
reply-one problem old command.Facts one other new later valid session p q = facts-one old one other new later p q

pub text-one : (names : NameLists) (one other : Reply) → SameReply one other → reply_text names one ≡ reply_text names other
text-one names one other (inl is) = ap (reply_text names) is
text-one names one other (inr (inl are)) =
    ap (reply_text names) are.one_is
    ∙ ap (λ n. text_line (codes "shapelimit" ∷ name_text names kind.Result are.name ∷ decimal n ∷ codes "shapes" ∷ [])) are.as_many
    ∙ sym (ap (reply_text names) are.other_is)
text-one names one other (inr (inr are)) = pursuit-text names one other are

pub lawful_is_one : LawfulIsOne
lawful_is_one = record { replies = reply-one; texts = text-one }
