-- A command to run two tables in one world has one lawful reply, and its causes come in their order.
use Rattle.std.specs.Prelude.{◌≡◌, ℕ, cond, not, Option, Some, None, is_some, List, [], ◌∷◌}
use Rattle.std.proofs.Common.{refl, sym, ap, ◌∙◌, subst, inl}
use Rattle.px_terms.specs.declared.atom.Atom.{Atom}
use Rattle.px_terms.specs.declared.problem.Problem.{Problem}
use Rattle.px_table.specs.declared.table.Table.{Table}
use Rattle.px_duo.specs.Duos.{DuoRunning, Pair, both, duo_running, neither_sensed}
use Rattle.px_printer.specs.declared.duo_line.DuoLine.{DuoLine}
use Rattle.px_printer.specs.declared.reply.Reply.{Reply}
use Rattle.px_printer.specs.declared.reply.Reply.TheVariants as reply
use Rattle.px_session.specs.Determined.{SameReply}
use Rattle.px_session.specs.DuoRuns.{RunsDuo}
use Rattle.px_session.specs.Lawful.{IsDuoOf, TellsDuo, first_without_table}
use Rattle.px_session.specs.Sessions.{SessionState, any_table, leaves_edit}
use Rattle.px_session.proofs.OneLearning.{none_or_some, one_some}
use Rattle.px_session.proofs.TwoRunning.{lines_one}

-- ---- the first name without a table

abbrev picked : ℕ → ℕ → Option Table → Option Table → Option ℕ
picked first second one other = cond (not (is_some one)) (Some first) (cond (not (is_some other)) (Some second) None)

picked-both : (first second : ℕ) (one other : Option Table) (table also : Table) → one ≡ Some table → other ≡ Some also
    → picked first second one other ≡ None
picked-both first second one other table also e f = rw (e, f) refl

picked-first : (first second : ℕ) (one other : Option Table) → one ≡ None → picked first second one other ≡ Some first
picked-first first second one other e = rw e refl

picked-second : (first second : ℕ) (one other : Option Table) (table : Table) → one ≡ Some table → other ≡ None
    → picked first second one other ≡ Some second
picked-second first second one other table e f = rw (e, f) refl

module _ (old : SessionState) (first second : ℕ) where
  pub both-named : (table also : Table) → any_table old first ≡ Some table → any_table old second ≡ Some also
      → first_without_table old (first ∷ second ∷ []) ≡ None
  both-named = picked-both first second (any_table old first) (any_table old second)

  pub first-unnamed : any_table old first ≡ None → first_without_table old (first ∷ second ∷ []) ≡ Some first
  first-unnamed = picked-first first second (any_table old first) (any_table old second)

  pub second-unnamed : (table : Table) → any_table old first ≡ Some table → any_table old second ≡ None
      → first_without_table old (first ∷ second ∷ []) ≡ Some second
  second-unnamed = picked-second first second (any_table old first) (any_table old second)

-- ---- replies

module _ (problem : Problem) (old : SessionState) (first second : ℕ) (numbers : List ℕ) where
  runs-one : (tables : Pair Table) (lines others : List DuoLine) (after later : List Atom)
      → RunsDuo leaves_edit problem tables old.atoms numbers lines after → RunsDuo leaves_edit problem tables old.atoms numbers others later
      → (lines ≡ others) × (after ≡ later)
  runs-one tables lines others after later (memories, is) (also, are) =
      let same = lines_one leaves_edit problem tables numbers (duo_running old.atoms neither_sensed) (duo_running after memories)
      (duo_running later also) lines others is are in
      (same.0, ap (λ (d : DuoRunning). d.atoms) same.1)

  dual-one : (lines others : List DuoLine) (new later : SessionState) → IsDuoOf problem first second numbers old lines new
      → IsDuoOf problem first second numbers old others later → (lines ≡ others) × (new ≡ later)
  dual-one lines others new later p q =
      let one : p.one ≡ q.one = one_some (any_table old first) p.one q.one p.first_named q.first_named in
      let other : p.other ≡ q.other = one_some (any_table old second) p.other q.other p.second_named q.second_named in
      let tables : both p.one p.other ≡ both q.one q.other = λ i. both (one i) (other i) in
      let same = runs-one (both q.one q.other) lines others p.after q.after
      (subst (λ (ts : Pair Table). RunsDuo leaves_edit problem ts old.atoms numbers lines p.after) tables p.runs) q.runs in
      (same.0, p.changed ∙ ap (λ (atoms : List Atom). record old { atoms = atoms }) same.1 ∙ sym q.changed)

  unknown-or-dual : (given : ℕ) (lines : List DuoLine) (new : SessionState) → first_without_table old (first ∷ second ∷ []) ≡ Some given
      → ¬ IsDuoOf problem first second numbers old lines new
  unknown-or-dual given lines new unknown is =
      none_or_some (first_without_table old (first ∷ second ∷ [])) given
      (both-named old first second is.one is.other is.first_named is.second_named) unknown

  pub duo-one : (one other : Reply) (new later : SessionState) → TellsDuo problem old first second numbers one new
      → TellsDuo problem old first second numbers other later → SameReply one other × (new ≡ later)
  duo-one (reply.Unknown n) (reply.Unknown m) new later p q =
      (inl (ap reply.Unknown (one_some (first_without_table old (first ∷ second ∷ [])) n m p.0 q.0)), p.1 ∙ sym q.1)
  duo-one (reply.Unknown n) (reply.DuoRan a b lines) new later p q = absurd (unknown-or-dual n lines later p.0 q.2)
  duo-one (reply.DuoRan a b lines) (reply.Unknown m) new later p q = absurd (unknown-or-dual m lines new q.0 p.2)
  duo-one (reply.DuoRan a b lines) (reply.DuoRan c d others) new later p q =
      let same = dual-one lines others new later p.2 q.2 in
      let firsts : a ≡ c = p.0 ∙ sym q.0 in
      let seconds : b ≡ d = p.1 ∙ sym q.1 in
      (inl (λ i. reply.DuoRan (firsts i) (seconds i) (same.0 i)), same.1)
  duo-one (reply.Unknown n) other new later p q = absurd q
  duo-one (reply.DuoRan a b lines) other new later p q = absurd q
  duo-one one other new later p q = absurd p

  pub no-first : (answer : Reply) (new : SessionState) → any_table old first ≡ None
      → TellsDuo problem old first second numbers answer new → (answer ≡ reply.Unknown first) × (new ≡ old)
  no-first (reply.Unknown given) new none is = (
    ap reply.Unknown (one_some (first_without_table old (first ∷ second ∷ [])) given first is.0 (first-unnamed old first second none)),
    is.1,
  )
  no-first (reply.DuoRan one other lines) new none is = absurd (none_or_some (any_table old first) is.2.one none is.2.first_named)
  no-first answer new none is = absurd is

  pub no-second : (answer : Reply) (new : SessionState) (table : Table) → any_table old first ≡ Some table → any_table old second ≡ None
      → TellsDuo problem old first second numbers answer new → (answer ≡ reply.Unknown second) × (new ≡ old)
  no-second (reply.Unknown given) new table named none is = (
    ap reply.Unknown (one_some (first_without_table old (first ∷ second ∷ [])) given second is.0
        (second-unnamed old first second table named none)),
    is.1,
  )
  no-second (reply.DuoRan one other lines) new table named none is =
      absurd (none_or_some (any_table old second) is.2.other none is.2.second_named)
  no-second answer new table named none is = absurd is
