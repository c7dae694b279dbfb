-- What is kept stays right where more gets numbers.
use Rattle.std.proofs.Common.{◌≡◌, ℕ, Bool, List, [], ◌∷◌, map}
use Rattle.std.specs.Prelude.{Result, Ok, Err, OnOk}
use Rattle.std.specs.Bool.{Decides}
use Rattle.std.specs.Cmp.Lexicographic.{pointwise_decides}
use Rattle.std.proofs.lemmas.Bool.Decides.{Decides-and, Decides-eqb, Decides-like}
use Rattle.px_base.proofs.Loops.{on_ok}
use Rattle.px_terms.specs.declared.atom.Atom.{Atom}
use Rattle.px_terms.specs.Operators.{results_of}
use Rattle.px_terms.specs.OrderLaws.{atom_eq-decides}
use Rattle.px_table.specs.declared.entry.Move.TheVariants.{Push}
use Rattle.px_entries.specs.Entries.{effect_of}
use Rattle.px_diff.specs.declared.move_err.MoveErr.{MoveErr}
use Rattle.px_diff.specs.declared.move_err.MoveErr.TheVariants.{ShapeLimit, NoMemory}
use Rattle.px_numbers.specs.Numbers.{Kept, KeepsAll}
use Rattle.px_numbers.specs.NumberLaws.{model_at-grows}
use Rattle.px_ends.specs.Tasks.{Task}
use Rattle.px_search.specs.Cache.{AreRight, HaveGrown, IsAlteredAt, IsResultAt, IsStepsAt, OnAnswer, model_altered}
use Rattle.px_search.specs.Offers.{IsOffered, IsOfferAt, IsPartAt}
use Rattle.px_search.specs.contracts.cache.EntryPlacePartialEq.TheImpl as place_equality
use Rattle.px_search.specs.contracts.cache.WantPartialEq.TheImpl as want_equality
use Rattle.px_search.specs.contracts.cache.AlterationPartialEq.TheImpl as alteration_equality
use Rattle.px_search.specs.declared.cache.Alteration.{Alteration}
use Rattle.px_search.specs.declared.cache.Cache.{Cache}
use Rattle.px_search.specs.declared.cache.Offer.{Offer}
use Rattle.px_search.specs.declared.cache.EntryPlace.{EntryPlace}
use Rattle.px_search.specs.declared.cache.Want.{Want}
use Rattle.px_search.specs.declared.step.Step.{Step}
use Rattle.px_search.proofs.Pairs.{each-grows}
use Rattle.px_search.proofs.StepLaws.{steps-grow}
use Rattle.px_search.proofs.StruckLaws.{keeps_all_both}

-- ---- keys

abbrev pub place_eq : EntryPlace → EntryPlace → Bool
place_eq = (place_equality.ghosts).eq

pub place_eq-decides : (a b : EntryPlace) → Decides (place_eq a b) (a ≡ b)
place_eq-decides a b =
    Decides-like _ (λ e i. record { model = e.0 i; entry = e.1 i }) (λ e. ((λ i. (e i).model), (λ i. (e i).entry)))
    (Decides-and _ _ (Decides-eqb a.model b.model) (Decides-eqb a.entry b.entry))

abbrev pub want_eq : Want → Want → Bool
want_eq = (want_equality.ghosts).eq

pub want_eq-decides : (a b : Want) → Decides (want_eq a b) (a ≡ b)
want_eq-decides a b =
    Decides-like _ (λ e i. record { part = e.0 i; atom = e.1 i }) (λ e. ((λ i. (e i).part), (λ i. (e i).atom)))
    (Decides-and _ _ (Decides-eqb a.part b.part) (atom_eq-decides a.atom b.atom))

abbrev pub alteration_eq : Alteration → Alteration → Bool
alteration_eq = (alteration_equality.ghosts).eq

pub alteration_eq-decides : (a b : Alteration) → Decides (alteration_eq a b) (a ≡ b)
alteration_eq-decides a b =
    Decides-like _ (λ e i. record { model = e.0 i; deleted = e.1.0 i; added = e.1.1 i })
    (λ e. ((λ i. (e i).model), ((λ i. (e i).deleted), (λ i. (e i).added))))
    (Decides-and _ _ (Decides-eqb a.model b.model) (Decides-and _ _ (pointwise_decides atom_eq-decides a.deleted b.deleted)
    (pointwise_decides atom_eq-decides a.added b.added)))

-- ---- where more gets numbers

module _ (task : Task) (old new : Kept) (keeps : KeepsAll old new) where
  steps_at-grows : (place : EntryPlace) (offer : Offer) → IsStepsAt task old place offer → IsStepsAt task new place offer
  steps_at-grows place offer (model, entry, model_at, entry_at, successors) = (
    model,
    entry,
    model_at-grows old new place.model model keeps model_at,
    keeps.entries place.entry entry entry_at,
    record {
      moves = successors.moves;
      are = successors.are;
      every = successors.every;
      steps_are = steps-grow old new offer.steps successors.moves keeps successors.steps_are;
      unlimited = successors.unlimited;
    },
  )

  offered-grows : (facts wanted : List Atom) (steps : List Step) (is_all : Bool) → IsOffered task old facts wanted steps is_all
      → IsOffered task new facts wanted steps is_all
  offered-grows facts wanted steps is_all o =
      record {
        entries = o.entries;
        first = o.first;
        steps_are = steps-grow old new steps (map Push o.entries) keeps o.steps_are;
        unlimited = o.unlimited;
      }

  offer_at-grows : (want : Want) (offer : Offer) → IsOfferAt task old want offer → IsOfferAt task new want offer
  offer_at-grows want offer o = (
    o.0,
    model_at-grows old new want.part o.0 keeps o.1,
    λ facts is_set alike. offered-grows facts (want.atom ∷ []) offer.steps offer.is_all (o.2 facts is_set alike),
  )

  result_at-grows : (place : EntryPlace) (number : ℕ) → IsResultAt task old place number → IsResultAt task new place number
  result_at-grows place number (model, entry, model_at, entry_at, left) = (
    model,
    entry,
    model_at-grows old new place.model model keeps model_at,
    keeps.entries place.entry entry entry_at,
    model_at-grows old new number (results_of task.problem model (effect_of task.tables entry)) keeps left,
  )

  altered_at-grows : (alteration : Alteration) (number : ℕ) → IsAlteredAt old alteration number → IsAlteredAt new alteration number
  altered_at-grows alteration number (model, model_at, left) = (
    model,
    model_at-grows old new alteration.model model keeps model_at,
    model_at-grows old new number (model_altered alteration.deleted alteration.added model) keeps left,
  )

  pub part-grows : (number : ℕ) (facts : List Atom) → IsPartAt task old number facts → IsPartAt task new number facts
  part-grows number facts p =
      record { is_set = p.is_set; part = p.part; part_at = model_at-grows old new number p.part keeps p.part_at; alike = p.alike }

pub keeps_all_same : (kept : Kept) → KeepsAll kept kept
keeps_all_same kept = record { atoms = λ k x e. e; lists = λ k x e. e; entries = λ k x e. e; frames = λ k x e. e }

module _ (task : Task) where
  pub grown-same : (cache : Cache) → AreRight task cache → HaveGrown task cache cache
  grown-same cache right = record { keeps = keeps_all_same cache.numbers; right = right }

  pub right-grows : (old : Cache) (new : Kept) → KeepsAll old.numbers new → AreRight task old → AreRight task (record old { numbers = new })
  right-grows old new keeps right = record {
    tops =
        each-grows (IsStepsAt task old.numbers) (IsStepsAt task new) old.tops.entries
        (steps_at-grows task old.numbers new keeps) right.tops;
    wants =
        each-grows (IsOfferAt task old.numbers) (IsOfferAt task new) old.wants.entries
        (offer_at-grows task old.numbers new keeps) right.wants;
    results =
        each-grows (IsResultAt task old.numbers) (IsResultAt task new) old.results.entries
        (result_at-grows task old.numbers new keeps) right.results;
    altered =
        each-grows (IsAlteredAt old.numbers) (IsAlteredAt new) old.altered.entries
        (altered_at-grows task old.numbers new keeps) right.altered;
    never_limited = right.never_limited;
  }

  pub grown-numbers : (old : Cache) (new : Kept) → KeepsAll old.numbers new → AreRight task old
      → HaveGrown task old (record old { numbers = new })
  grown-numbers old new keeps right = record { keeps = keeps; right = right-grows old new keeps right }

  pub grown-both : (old mid new : Cache) → HaveGrown task old mid → HaveGrown task mid new → HaveGrown task old new
  grown-both old mid new first second =
      record { keeps = keeps_all_both old.numbers mid.numbers new.numbers first.keeps second.keeps; right = second.right }

-- ---- what results say

pub on_answer : {A : Type 0} (P Q : Type 0) (result : Result A MoveErr) → OnAnswer result P → (P → Q) → OnAnswer result Q
on_answer P Q (Ok answer) p f = f p
on_answer P Q (Err (ShapeLimit limit)) p f = f p
on_answer P Q (Err NoMemory) p f = tt

pub any_answer : {A P : Type 0} (result : Result A MoveErr) → P → OnAnswer result P
any_answer (Ok answer) p = p
any_answer (Err (ShapeLimit limit)) p = p
any_answer (Err NoMemory) p = tt

pub any_ok : {A E P : Type 0} (result : Result A E) → P → OnOk result P
any_ok (Ok answer) p = p
any_ok (Err error) p = tt

-- one result more, after what was kept before
module _ (task : Task) (old mid new : Cache) (before : HaveGrown task old mid) where
  pub answer-grown : {A : Type 0} (result : Result A MoveErr) → OnAnswer result (HaveGrown task mid new)
      → OnAnswer result (HaveGrown task old new)
  answer-grown result grown = on_answer (HaveGrown task mid new) (HaveGrown task old new) result grown (grown-both task old mid new before)
