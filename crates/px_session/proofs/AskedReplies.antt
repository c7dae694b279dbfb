-- What is proved of the replies where it is asked for one table: there is one, with its names, it changes nothing, and what is saved is
-- read back.
use Rattle.std.specs.Prelude.{◌≡◌, ◌<◌, ℕ, Option, Some, None, List, [], ◌∷◌, length, slice_get, unwrap_or, All}
use Rattle.std.proofs.Common.{zero, suc, refl, sym, ap, ◌∙◌, subst, arith, inl, inr}
use Rattle.std.proofs.lemmas.List.Elements.{All-head, All-tail}
use Rattle.px_names.specs.Lists.{AreNameLists, NameLists}
use Rattle.px_names.specs.declared.kind.Kind.TheVariants as kind
use Rattle.px_terms.specs.declared.problem.Problem.{Problem}
use Rattle.px_table.specs.declared.table.Table.{Table}
use Rattle.px_table.specs.Tables.{IsTable}
use Rattle.px_cert.specs.Certificates.{certificate_text}
use Rattle.px_printer.specs.Replies.{IsReplyNamed}
use Rattle.px_printer.specs.Texts.{HasName}
use Rattle.px_printer.specs.declared.reply.Reply.{Reply}
use Rattle.px_printer.specs.declared.reply.Reply.TheVariants as reply
use Rattle.px_printer.specs.declared.reply.SaveWhy.{SaveWhy}
use Rattle.px_saved.specs.ReadBack.{IsShortName, ReplyIsReadBack}
use Rattle.px_saved.proofs.Law.{saved_is_read_back}
use Rattle.px_script.specs.declared.command.Command.{Command}
use Rattle.px_script.specs.declared.command.Command.TheVariants as command
use Rattle.px_session.specs.Asked.{IsTableRefused, IsTableWritten, RefusesWriting, TellsCertifying, TellsSaving, TellsShow}
use Rattle.px_session.specs.Causes.{AskedInOrder}
use Rattle.px_session.specs.Determined.{SameReply}
use Rattle.px_session.specs.Existing.{HasReply}
use Rattle.px_session.specs.Lawful.{Lawful}
use Rattle.px_session.specs.Named.{AreNamesOfProblem}
use Rattle.px_session.specs.Sessions.{IsLearnedTable, IsPlanTable, IsSession, SessionState, any_table}
use Rattle.px_session.specs.Writable.{HasWritableTables}
use Rattle.px_session.proofs.NamedBlocks.{named-block}
use Rattle.px_session.proofs.NamedTerms.{named-table}
use Rattle.px_session.proofs.OneLearning.{any-right, none_or_some, one_some}
use Rattle.px_session.proofs.WrittenTables.{cause-or-none, in-block, no-cause, why-one}

module _ (problem : Problem) (old : SessionState) (name : ℕ) where
  -- ---- one reply

  -- a refusal is the first cause
  refused-by : (table : Table) (why other : SaveWhy) (new : SessionState) → any_table old name ≡ Some table → RefusesWriting table why
      → IsTableRefused name old other new → (other ≡ why) × (new ≡ old)
  refused-by table why other new named cause is =
      let same : is.table ≡ table = one_some (any_table old name) is.table table is.named named in
      (why-one table other why (subst (λ (x : Table). RefusesWriting x other) same is.refused) cause, is.same)

  -- where there is a cause, nothing is written
  refused-or-written : (table also : Table) (why : SaveWhy) (new : SessionState) → any_table old name ≡ Some table
      → RefusesWriting table why → ¬ IsTableWritten name old also new
  refused-or-written table also why new named cause is =
      is.allowed why (subst (λ (x : Table). RefusesWriting x why) (one_some (any_table old name) table also named is.named) cause)

  pub show-one : (one other : Reply) (new later : SessionState) → TellsShow old name one new → TellsShow old name other later
      → SameReply one other × (new ≡ later)
  show-one (reply.Unknown n) (reply.Unknown m) new later p q = (inl (ap reply.Unknown (p.0 ∙ sym q.0)), p.2 ∙ sym q.2)
  show-one (reply.Unknown n) (reply.Shown m table) new later p q = absurd (none_or_some (any_table old name) table p.1 q.1)
  show-one (reply.Shown n table) (reply.Unknown m) new later p q = absurd (none_or_some (any_table old name) table q.1 p.1)
  show-one (reply.Shown n table) (reply.Shown m other) new later p q =
      let tables = one_some (any_table old name) table other p.1 q.1 in
      let names : n ≡ m = p.0 ∙ sym q.0 in
      (inl (λ i. reply.Shown (names i) (tables i)), p.2 ∙ sym q.2)
  show-one (reply.Unknown n) other new later p q = absurd q
  show-one (reply.Shown n table) other new later p q = absurd q
  show-one one other new later p q = absurd p

  pub saving-one : (one other : Reply) (new later : SessionState) → TellsSaving old name one new → TellsSaving old name other later
      → SameReply one other × (new ≡ later)
  saving-one (reply.Unknown n) (reply.Unknown m) new later p q = (inl (ap reply.Unknown (p.0 ∙ sym q.0)), p.2 ∙ sym q.2)
  saving-one (reply.Unknown n) (reply.SaveRefused m why) new later p q =
      absurd (none_or_some (any_table old name) q.1.table p.1 q.1.named)
  saving-one (reply.Unknown n) (reply.Saved m table) new later p q = absurd (none_or_some (any_table old name) table p.1 q.1.named)
  saving-one (reply.SaveRefused n why) (reply.Unknown m) new later p q =
      absurd (none_or_some (any_table old name) p.1.table q.1 p.1.named)
  saving-one (reply.SaveRefused n why) (reply.SaveRefused m other) new later p q =
      let same = refused-by p.1.table why other later p.1.named p.1.refused q.1 in
      let names : n ≡ m = p.0 ∙ sym q.0 in
      let causes : why ≡ other = sym same.0 in
      (inl (λ i. reply.SaveRefused (names i) (causes i)), p.1.same ∙ sym same.1)
  saving-one (reply.SaveRefused n why) (reply.Saved m table) new later p q =
      absurd (refused-or-written p.1.table table why later p.1.named p.1.refused q.1)
  saving-one (reply.Saved n table) (reply.Unknown m) new later p q = absurd (none_or_some (any_table old name) table q.1 p.1.named)
  saving-one (reply.Saved n table) (reply.SaveRefused m why) new later p q =
      absurd (refused-or-written q.1.table table why new q.1.named q.1.refused p.1)
  saving-one (reply.Saved n table) (reply.Saved m other) new later p q =
      let tables : table ≡ other = one_some (any_table old name) table other p.1.named q.1.named in
      let names : n ≡ m = p.0 ∙ sym q.0 in
      (inl (λ i. reply.Saved (names i) (tables i)), p.1.same ∙ sym q.1.same)
  saving-one (reply.Unknown n) other new later p q = absurd q
  saving-one (reply.SaveRefused n why) other new later p q = absurd q
  saving-one (reply.Saved n table) other new later p q = absurd q
  saving-one one other new later p q = absurd p

  pub certifying-one : (one other : Reply) (new later : SessionState) → TellsCertifying problem old name one new
      → TellsCertifying problem old name other later → SameReply one other × (new ≡ later)
  certifying-one (reply.Unknown n) (reply.Unknown m) new later p q = (inl (ap reply.Unknown (p.0 ∙ sym q.0)), p.2 ∙ sym q.2)
  certifying-one (reply.Unknown n) (reply.CertifyRefused m why) new later p q =
      absurd (none_or_some (any_table old name) q.1.table p.1 q.1.named)
  certifying-one (reply.Unknown n) (reply.Certified m bytes) new later p q =
      absurd (none_or_some (any_table old name) q.1.table p.1 q.1.written.named)
  certifying-one (reply.CertifyRefused n why) (reply.Unknown m) new later p q =
      absurd (none_or_some (any_table old name) p.1.table q.1 p.1.named)
  certifying-one (reply.CertifyRefused n why) (reply.CertifyRefused m other) new later p q =
      let same = refused-by p.1.table why other later p.1.named p.1.refused q.1 in
      let names : n ≡ m = p.0 ∙ sym q.0 in
      let causes : why ≡ other = sym same.0 in
      (inl (λ i. reply.CertifyRefused (names i) (causes i)), p.1.same ∙ sym same.1)
  certifying-one (reply.CertifyRefused n why) (reply.Certified m bytes) new later p q =
      absurd (refused-or-written p.1.table q.1.table why later p.1.named p.1.refused q.1.written)
  certifying-one (reply.Certified n bytes) (reply.Unknown m) new later p q =
      absurd (none_or_some (any_table old name) p.1.table q.1 p.1.written.named)
  certifying-one (reply.Certified n bytes) (reply.CertifyRefused m why) new later p q =
      absurd (refused-or-written q.1.table p.1.table why new q.1.named q.1.refused p.1.written)
  certifying-one (reply.Certified n bytes) (reply.Certified m more) new later p q =
      let tables : p.1.table ≡ q.1.table = one_some (any_table old name) p.1.table q.1.table p.1.written.named q.1.written.named in
      let same : bytes ≡ more = p.1.bytes_are ∙ ap (certificate_text problem) tables ∙ sym q.1.bytes_are in
      let names : n ≡ m = p.0 ∙ sym q.0 in
      (inl (λ i. reply.Certified (names i) (same i)), p.1.written.same ∙ sym q.1.written.same)
  certifying-one (reply.Unknown n) other new later p q = absurd q
  certifying-one (reply.CertifyRefused n why) other new later p q = absurd q
  certifying-one (reply.Certified n bytes) other new later p q = absurd q
  certifying-one one other new later p q = absurd p

  -- ---- the causes in their order

  pub none-to-show : (answer : Reply) (new : SessionState) → any_table old name ≡ None → TellsShow old name answer new
      → (answer ≡ reply.Unknown name) × (new ≡ old)
  none-to-show (reply.Unknown given) new none is = (ap reply.Unknown is.0, is.2)
  none-to-show (reply.Shown given table) new none is = absurd (none_or_some (any_table old name) table none is.1)
  none-to-show answer new none is = absurd is

  pub none-to-save : (answer : Reply) (new : SessionState) → any_table old name ≡ None → TellsSaving old name answer new
      → (answer ≡ reply.Unknown name) × (new ≡ old)
  none-to-save (reply.Unknown given) new none is = (ap reply.Unknown is.0, is.2)
  none-to-save (reply.SaveRefused given why) new none is = absurd (none_or_some (any_table old name) is.1.table none is.1.named)
  none-to-save (reply.Saved given table) new none is = absurd (none_or_some (any_table old name) table none is.1.named)
  none-to-save answer new none is = absurd is

  pub not-saved : (answer : Reply) (new : SessionState) (table : Table) (why : SaveWhy) → any_table old name ≡ Some table
      → RefusesWriting table why → TellsSaving old name answer new → (answer ≡ reply.SaveRefused name why) × (new ≡ old)
  not-saved (reply.Unknown given) new table why named cause is = absurd (none_or_some (any_table old name) table is.1 named)
  not-saved (reply.SaveRefused given other) new table why named cause is =
      let same = refused-by table why other new named cause is.1 in
      let names : given ≡ name = is.0 in
      let causes : other ≡ why = same.0 in
      (λ i. reply.SaveRefused (names i) (causes i), same.1)
  not-saved (reply.Saved given also) new table why named cause is =
      absurd (refused-or-written table also why new named cause is.1)
  not-saved answer new table why named cause is = absurd is

  pub none-to-certify : (answer : Reply) (new : SessionState) → any_table old name ≡ None
      → TellsCertifying problem old name answer new → (answer ≡ reply.Unknown name) × (new ≡ old)
  none-to-certify (reply.Unknown given) new none is = (ap reply.Unknown is.0, is.2)
  none-to-certify (reply.CertifyRefused given why) new none is =
      absurd (none_or_some (any_table old name) is.1.table none is.1.named)
  none-to-certify (reply.Certified given bytes) new none is =
      absurd (none_or_some (any_table old name) is.1.table none is.1.written.named)
  none-to-certify answer new none is = absurd is

  pub not-certified : (answer : Reply) (new : SessionState) (table : Table) (why : SaveWhy)
      → any_table old name ≡ Some table → RefusesWriting table why → TellsCertifying problem old name answer new
      → (answer ≡ reply.CertifyRefused name why) × (new ≡ old)
  not-certified (reply.Unknown given) new table why named cause is = absurd (none_or_some (any_table old name) table is.1 named)
  not-certified (reply.CertifyRefused given other) new table why named cause is =
      let same = refused-by table why other new named cause is.1 in
      let names : given ≡ name = is.0 in
      let causes : other ≡ why = same.0 in
      (λ i. reply.CertifyRefused (names i) (causes i), same.1)
  not-certified (reply.Certified given bytes) new table why named cause is =
      absurd (refused-or-written table is.1.table why new named cause is.1.written)
  not-certified answer new table why named cause is = absurd is

  -- ---- there is a reply

  pub show-reply : HasReply problem old (command.Show name)
  show-reply = by (any_table old name) refl
    where
      by : (found : Option Table) → any_table old name ≡ found → HasReply problem old (command.Show name)
      by None named = (reply.Unknown name, (old, (refl, named, refl)))
      by (Some table) named = (reply.Shown name table, (old, (refl, named, refl)))

  pub save-reply : HasReply problem old (command.Save name)
  save-reply = by (any_table old name) refl
    where
      by : (found : Option Table) → any_table old name ≡ found → HasReply problem old (command.Save name)
      by None named = (reply.Unknown name, (old, (refl, named, refl)))
      by (Some table) named = elim (cause-or-none table) [
        | inl found ↦
            (reply.SaveRefused name found.0, (old, (refl, record { table = table; named = named; refused = found.1; same = refl })))
        | inr allowed ↦ (reply.Saved name table, (old, (refl, record { named = named; allowed = allowed; same = refl })))
      ]

  pub certify-reply : HasReply problem old (command.Certify name)
  certify-reply = by (any_table old name) refl
    where
      by : (found : Option Table) → any_table old name ≡ found → HasReply problem old (command.Certify name)
      by None named = (reply.Unknown name, (old, (refl, named, refl)))
      by (Some table) named = elim (cause-or-none table) [
        | inl found ↦
            (reply.CertifyRefused name found.0, (old, (refl, record { table = table; named = named; refused = found.1; same = refl })))
        | inr allowed ↦ (
          reply.Certified name (certificate_text problem table),
          (
            old,
            (
              refl,
              record {
                table = table;
                written = record { named = named; allowed = allowed; same = refl };
                bytes_are = refl;
              },
            ),
          ),
        )
      ]

  -- ---- nothing changes

  pub show-same : (answer : Reply) (new : SessionState) → TellsShow old name answer new → new ≡ old
  show-same (reply.Unknown given) new is = is.2
  show-same (reply.Shown given table) new is = is.2
  show-same answer new is = absurd is

  pub saving-same : (answer : Reply) (new : SessionState) → TellsSaving old name answer new → new ≡ old
  saving-same (reply.Unknown given) new is = is.2
  saving-same (reply.SaveRefused given why) new is = is.1.same
  saving-same (reply.Saved given table) new is = is.1.same
  saving-same answer new is = absurd is

  pub certifying-same : (answer : Reply) (new : SessionState) → TellsCertifying problem old name answer new → new ≡ old
  certifying-same (reply.Unknown given) new is = is.2
  certifying-same (reply.CertifyRefused given why) new is = is.1.same
  certifying-same (reply.Certified given bytes) new is = is.1.written.same
  certifying-same answer new is = absurd is

  -- ---- names

  module _ (names : NameLists) (all : AreNamesOfProblem problem names) (plans : All (IsPlanTable problem) old.plans.tables)
      (learned : All (IsLearnedTable problem) old.learned.tables) (below : name < length names.results) where
    same-name : (given : ℕ) → given ≡ name → given < length names.results
    same-name given same = omega (arith, same, below)

    right : (table : Table) → any_table old name ≡ Some table → IsTable problem table
    right table named = any-right problem old plans learned name table named

    pub named-show : (answer : Reply) (new : SessionState) → TellsShow old name answer new → IsReplyNamed names answer
    named-show (reply.Unknown given) new is = same-name given is.0
    named-show (reply.Shown given table) new is = (same-name given is.0, named-table problem names all table (right table is.1))
    named-show answer new is = absurd is

    pub named-saving : (answer : Reply) (new : SessionState) → TellsSaving old name answer new → IsReplyNamed names answer
    named-saving (reply.Unknown given) new is = same-name given is.0
    named-saving (reply.SaveRefused given why) new is = same-name given is.0
    named-saving (reply.Saved given table) new is = (same-name given is.0, named-block problem names all table (right table is.1.named))
    named-saving answer new is = absurd is

    -- the bytes of a certificate have no names
    pub named-certifying : (answer : Reply) (new : SessionState) → TellsCertifying problem old name answer new → IsReplyNamed names answer
    named-certifying (reply.Unknown given) new is = same-name given is.0
    named-certifying (reply.CertifyRefused given why) new is = same-name given is.0
    named-certifying (reply.Certified given bytes) new is = tt
    named-certifying answer new is = absurd is

pub asked_in_order : AskedInOrder
asked_in_order = record {
  none_to_show = λ problem old name answer new. none-to-show problem old name answer new;
  none_to_save = λ problem old name answer new. none-to-save problem old name answer new;
  none_to_certify = λ problem old name answer new. none-to-certify problem old name answer new;
  not_saved = λ problem old name answer new. not-saved problem old name answer new;
  not_certified = λ problem old name answer new. not-certified problem old name answer new;
}

-- ---- what is saved is read back

-- the name of a number is one of the names
name-at : (P : List ℕ → Type 0) (names : List (List ℕ)) (n : ℕ) → All P names → n < length names → P (unwrap_or (slice_get names n) [])
name-at P [] n all below = absurd (omega (arith, below))
name-at P (name ∷ names) zero all below = All-head P name names all
name-at P (name ∷ names) (suc n) all below = name-at P names n (All-tail P name names all) (omega (arith, below))

module _ (problem : Problem) (names : NameLists) (named : AreNameLists names) (short : All IsShortName names.results)
    (old new : SessionState) (session : IsSession problem old) (written : HasWritableTables problem old) where
  of-command : (given : Command) (number : ℕ) (table : Table) → HasName names kind.Result number
      → Lawful problem old given (reply.Saved number table) new → ReplyIsReadBack problem names (reply.Saved number table)
  of-command (command.Plan n goal variable_count) number table has is = absurd is
  of-command (command.Learn n source) number table has is = absurd is
  of-command (command.Edit n source prefix wanted) number table has is = absurd is
  of-command (command.Show n) number table has is = absurd is
  of-command (command.Save n) number table has is =
      saved_is_read_back problem names number table named has (name-at IsShortName names.results number short has)
      (in-block problem old session written n table is.1.named (no-cause table is.1.allowed))
  of-command (command.Certify n) number table has is = absurd is
  of-command (command.DisturbAtoms turn between edits) number table has is = absurd is
  of-command (command.DisturbRooms turn between edits) number table has is = absurd is
  of-command (command.Run n bound) number table has is = absurd is
  of-command (command.Duo first second numbers) number table has is = absurd is
  of-command (command.Pursue n goal variable_count) number table has is = absurd is
  of-command (command.Tree n nodes goal variable_count) number table has is = absurd is
  of-command command.Facts number table has is = absurd is

  pub reply-read-back : (given : Command) (answer : Reply) → IsReplyNamed names answer → Lawful problem old given answer new
      → ReplyIsReadBack problem names answer
  reply-read-back given (reply.Saved number table) has is = of-command given number table has.0 is
  reply-read-back given _ has is = tt
