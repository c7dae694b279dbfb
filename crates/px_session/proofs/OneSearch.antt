-- A search has one lawful reply.
use Rattle.std.specs.Prelude.{◌≡◌, ℕ, List, [], length}
use Rattle.std.proofs.Common.{refl, sym, ap, ◌∙◌, subst, inl, inr}
use Rattle.px_terms.specs.declared.instance.OpInst.{OpInst}
use Rattle.px_table.specs.declared.entry.Move.{Move}
use Rattle.px_table.specs.declared.table.Table.{Table}
use Rattle.px_library.specs.Libraries.{with_table}
use Rattle.px_ends.specs.Made.{IsTableOfMoves}
use Rattle.px_ends.specs.Tasks.{Task, steps_of}
use Rattle.px_ends.proofs.ByValueLaws.{exhausted_with_all, value_ends_are_one}
use Rattle.px_ends.proofs.MadeOne.{tables_are_one}
use Rattle.px_printer.specs.declared.reply.Reply.{Reply}
use Rattle.px_printer.specs.declared.reply.Reply.TheVariants as reply
use Rattle.px_session.specs.Determined.{SameReply}
use Rattle.px_session.specs.Lawful.{FindsPlan, TellsSearch}
use Rattle.px_session.specs.Sessions.{SessionState}

found-one : (task : Task) (name : ℕ) (old : SessionState) (given other count more : ℕ) (steps others : List OpInst)
    (new later : SessionState) → given ≡ name → other ≡ name
    → FindsPlan task name old count steps new → FindsPlan task name old more others later
    → (reply.Plan given count steps ≡ reply.Plan other more others) × (new ≡ later)
found-one task name old given other count more steps others new later is_name other_name is is_other =
    let moves : is.moves ≡ is_other.moves = value_ends_are_one.found task task.problem.weight is.moves is_other.moves is.found is_other.found in
    let names : given ≡ other = is_name ∙ sym other_name in
    let counts : count ≡ more = is.counted ∙ ap length moves ∙ sym is_other.counted in
    let same_steps : steps ≡ others = is.taken ∙ ap (steps_of task.tables []) moves ∙ sym is_other.taken in
    let made : is.made ≡ is_other.made =
    tables_are_one task is_other.moves is.made is_other.made
    (subst (λ (ms : List Move). IsTableOfMoves task ms is.made) moves is.table) is_other.table in (
      λ i. reply.Plan (names i) (counts i) (same_steps i),
      is.stored ∙ ap (λ (t : Table). record old { plans = with_table old.plans name t }) made ∙ sym is_other.stored,
    )

pub search-one : (task : Task) (name : ℕ) (old : SessionState) (one other : Reply) (new later : SessionState)
    → TellsSearch task name old one new → TellsSearch task name old other later → SameReply one other × (new ≡ later)
search-one task name old (reply.Plan n c s) (reply.Plan m d t) new later p q = let r =
    found-one task name old n m c d s t new later p.0 q.0 p.1 q.1 in (inl r.0, r.1)
search-one task name old (reply.Plan n c s) (reply.Exhausted m) new later p q =
    absurd (exhausted_with_all.found task task.problem.weight task.problem.weight q.1 p.1.moves p.1.found)
search-one task name old (reply.Plan n c s) (reply.NodeLimit m nodes d) new later p q =
    absurd (value_ends_are_one.found_or_node_limit task task.problem.weight p.1.moves nodes d p.1.found q.1)
search-one task name old (reply.Plan n c s) (reply.ShapeLimit m node limit) new later p q =
    absurd (value_ends_are_one.shape_limit_or_found task task.problem.weight node limit p.1.moves q.1 p.1.found)
search-one task name old (reply.Exhausted n) (reply.Plan m d t) new later p q =
    absurd (exhausted_with_all.found task task.problem.weight task.problem.weight p.1 q.1.moves q.1.found)
search-one task name old (reply.Exhausted n) (reply.Exhausted m) new later p q = (inl (ap reply.Exhausted (p.0 ∙ sym q.0)), p.2 ∙ sym q.2)
search-one task name old (reply.Exhausted n) (reply.NodeLimit m nodes d) new later p q =
    absurd (exhausted_with_all.node_limit task task.problem.weight task.problem.weight p.1 nodes d q.1)
search-one task name old (reply.Exhausted n) (reply.ShapeLimit m node limit) new later p q =
    absurd (exhausted_with_all.shape_limit task task.problem.weight task.problem.weight p.1 node limit q.1)
search-one task name old (reply.NodeLimit n nodes c) (reply.Plan m d t) new later p q =
    absurd (value_ends_are_one.found_or_node_limit task task.problem.weight q.1.moves nodes c q.1.found p.1)
search-one task name old (reply.NodeLimit n nodes c) (reply.Exhausted m) new later p q =
    absurd (exhausted_with_all.node_limit task task.problem.weight task.problem.weight q.1 nodes c p.1)
search-one task name old (reply.NodeLimit n nodes c) (reply.NodeLimit m more d) new later p q =
    let same = value_ends_are_one.node_limit task task.problem.weight nodes more c d p.1 q.1 in
    let names : n ≡ m = p.0 ∙ sym q.0 in
    (inl (λ i. reply.NodeLimit (names i) (same.0 i) (same.1 i)), p.2 ∙ sym q.2)
search-one task name old (reply.NodeLimit n nodes c) (reply.ShapeLimit m node limit) new later p q =
    absurd (value_ends_are_one.shape_limit_or_node_limit task task.problem.weight node limit nodes c q.1 p.1)
search-one task name old (reply.ShapeLimit n node limit) (reply.Plan m d t) new later p q =
    absurd (value_ends_are_one.shape_limit_or_found task task.problem.weight node limit q.1.moves p.1 q.1.found)
search-one task name old (reply.ShapeLimit n node limit) (reply.Exhausted m) new later p q =
    absurd (exhausted_with_all.shape_limit task task.problem.weight task.problem.weight q.1 node limit p.1)
search-one task name old (reply.ShapeLimit n node limit) (reply.NodeLimit m nodes d) new later p q =
    absurd (value_ends_are_one.shape_limit_or_node_limit task task.problem.weight node limit nodes d p.1 q.1)
search-one task name old (reply.ShapeLimit n node limit) (reply.ShapeLimit m other kept) new later p q = (
  inr (inl (record {
    name = n;
    node = node;
    also_node = other;
    limit = limit;
    also_limit = kept;
    one_is = refl;
    other_is = ap (λ x. reply.ShapeLimit x other kept) (q.0 ∙ sym p.0);
    as_many = value_ends_are_one.shapes task task.problem.weight node limit p.1
        ∙ sym (value_ends_are_one.shapes task task.problem.weight other kept q.1);
  })),
  p.2 ∙ sym q.2,
)
search-one task name old (reply.Plan n c s) other new later p q = absurd q
search-one task name old (reply.Exhausted n) other new later p q = absurd q
search-one task name old (reply.NodeLimit n nodes c) other new later p q = absurd q
search-one task name old (reply.ShapeLimit n node limit) other new later p q = absurd q
search-one task name old one other new later p q = absurd p
