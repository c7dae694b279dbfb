-- What is kept of what may be pushed for a wanted atom stays right, and gives the moves of a node.
use Rattle.std.proofs.Common.{◌≡◌, ◌↔◌, ◌⊎◌, ◌++◌, ℕ, zero, suc, length, Some, slice_get, Bool, true, false, not, List, [], ◌∷◌, map, refl, sym, ◌∙◌, ap, subst, inl, inr}
use Rattle.std.specs.Prelude.{All, Contains, IfSome, Option, filter}
use Rattle.std.specs.List.Sorted.{IsStrictlySortedBy}
use Rattle.std.specs.declared.cmp.Ordering.TheVariants.{Less}
use Rattle.std.proofs.lemmas.List.Elements.{All-contains, Contains-append_left, Contains-append_right, Contains-append_cases}
use Rattle.std.proofs.lemmas.List.Kept.{IsStrictlySortedBy-filter}
use Rattle.px_base.specs.ListLaws.{Contains-none, Contains-filter}
use Rattle.px_terms.specs.AtomSets.{IsAtomSet}
use Rattle.px_terms.specs.declared.atom.Atom.{Atom}
use Rattle.px_terms.specs.declared.problem.Problem.{Problem}
use Rattle.px_terms.specs.Validity.{IsValid}
use Rattle.px_table.specs.declared.entry.Entry.{Entry}
use Rattle.px_table.specs.declared.entry.Move.{Move}
use Rattle.px_table.specs.declared.entry.Move.TheVariants.{Push}
use Rattle.px_table.specs.declared.table.Table.{Table}
use Rattle.px_table.specs.EntryOrder.{order_of_entries}
use Rattle.px_entries.specs.Deciding.{AreDeciding}
use Rattle.px_entries.specs.Learned.{AreLearned}
use Rattle.px_gaps.specs.Known.{IsOpenWith}
use Rattle.px_diff.specs.Models.{AreComparable, RelevanceOverModels}
use Rattle.px_entries.specs.Unlimited.{IsNeverLimited}
use Rattle.px_diff.specs.Pushes.{IsPushable, IsRelevant}
use Rattle.px_diff.specs.Stacks.{AreUnlimitedOver, RelevanceOverStacks}
use Rattle.px_numbers.specs.Numbers.{Kept}
use Rattle.px_numbers.specs.NumberLaws.{one_model}
use Rattle.px_ends.specs.Tasks.{Task, needs_with}
use Rattle.px_search.specs.Going.{AreFirstSuccessors}
use Rattle.px_search.specs.Offers.{AreFirstOffers, AreWhole, IsAlike, IsOffered, IsOfferedWhole, IsOfferAt, IsPartAt}
use Rattle.px_search.specs.Steps.{AreStepsOf, DescribesMove, is_push_on, unstruck}
use Rattle.px_search.specs.declared.cache.Offer.{Offer}
use Rattle.px_search.specs.declared.cache.Want.{Want}
use Rattle.px_search.specs.declared.step.Step.{Step}
use Rattle.px_search.specs.declared.step.Step.TheVariants as step
use Rattle.px_search.proofs.FromLaws.{successors-open}
use Rattle.px_search.proofs.StruckLaws.{on_stack, not_true}

-- ---- the part that decides

self-deciding : (problem : Problem) (facts part : List Atom) → AreDeciding problem facts part → AreDeciding problem part part
self-deciding problem facts part deciding = λ atom. (λ has. (has, ((deciding atom).0 has).1), λ both. both.0)

deciding-of : (problem : Problem) (tables : List Table) (facts part : List Atom) → IsAlike problem tables facts part
    → AreDeciding problem part part → AreDeciding problem facts part
deciding-of problem tables facts part (inl same) deciding = subst (λ (l : List Atom). AreDeciding problem l part) (sym same) deciding
deciding-of problem tables facts part (inr both) deciding = both.1

module _ (task : Task) (kept : Kept) (facts others part wanted : List Atom) (steps : List Step) (is_all : Bool) (law : RelevanceOverModels)
    (valid : IsValid task.problem) (learned : AreLearned task.problem task.tables) where
  -- what is offered in a model is so in each with the same deciding facts, where no question is ever limited
  decided-alike : IsNeverLimited task.problem task.tables → IsAtomSet others → AreDeciding task.problem facts part
      → AreDeciding task.problem others part → IsOffered task kept facts wanted steps is_all
      → IsOffered task kept others wanted steps is_all
  decided-alike never is_set deciding deciding' o = record {
    entries = o.entries;
    first = record {
      sound = λ entry has. (alike entry).0 (o.first.sound entry has);
      ordered = o.first.ordered;
      others = λ entry pushable. o.first.others entry ((alike entry).1 pushable);
      every = λ all entry pushable. o.first.every all entry ((alike entry).1 pushable);
    };
    steps_are = o.steps_are;
    unlimited = λ entry relevant. never others is_set entry relevant.is_entry;
  }
    where
      comparable : AreComparable task.problem task.tables facts others
      comparable = record {
        valid = valid;
        learned = learned;
        alike = λ atom decides. (
          λ has. ((deciding' atom).0 ((deciding atom).1 (has, decides))).0,
          λ has. ((deciding atom).0 ((deciding' atom).1 (has, decides))).0,
        );
      }

      alike : (entry : Entry) → IsPushable task.problem task.tables wanted [] facts entry
          ↔ IsPushable task.problem task.tables wanted [] others entry
      alike entry = law.pushable task.problem task.tables wanted [] facts others entry comparable

  -- what is offered in a model is so in each of which it has that part
  pub offered-alike : IsAtomSet others → IsAlike task.problem task.tables facts part → IsAlike task.problem task.tables others part
      → IsOffered task kept facts wanted steps is_all → IsOffered task kept others wanted steps is_all
  offered-alike is_set (inl here) (inl there) o = subst (λ (l : List Atom). IsOffered task kept l wanted steps is_all) (here ∙ sym there) o
  offered-alike is_set (inl here) (inr there) o =
      decided-alike there.0 is_set (deciding-of task.problem task.tables facts part (inl here)
      (self-deciding task.problem others part there.1)) there.1 o
  offered-alike is_set (inr here) there o =
      decided-alike here.0 is_set here.1 (deciding-of task.problem task.tables others part there
      (self-deciding task.problem facts part here.1)) o

-- what is found in a model may be kept for its part
pub offer-at : (task : Task) (kept : Kept) (want : Want) (facts : List Atom) (offer : Offer) → RelevanceOverModels → IsValid task.problem
    → AreLearned task.problem task.tables
    → IsPartAt task kept want.part facts → IsOffered task kept facts (want.atom ∷ []) offer.steps offer.is_all
    → IsOfferAt task kept want offer
offer-at task kept want facts offer law valid learned p o = (
  p.part,
  p.part_at,
  λ others is_set alike. offered-alike task kept facts others p.part
      (want.atom ∷ []) offer.steps offer.is_all law valid learned is_set p.alike alike o,
)

-- what is kept for a part serves each model that has it
pub offered-here : (task : Task) (kept : Kept) (want : Want) (facts : List Atom) (offer : Offer) → IsPartAt task kept want.part facts
    → IsOfferAt task kept want offer → IsOffered task kept facts (want.atom ∷ []) offer.steps offer.is_all
offered-here task kept want facts offer p (part, part_at, each) =
    each facts p.is_set (subst (IsAlike task.problem task.tables facts) (one_model kept want.part p.part part p.part_at part_at) p.alike)

-- ---- all of them, and the first of them

module _ (task : Task) (facts wanted : List Atom) where
  pub whole-first : (entries : List Entry) (is_all : Bool)
      → ((entry : Entry) → Contains entries entry ↔ IsPushable task.problem task.tables wanted [] facts entry)
      → IsStrictlySortedBy order_of_entries entries
      → AreFirstOffers task facts wanted entries is_all
  whole-first entries is_all exact ordered = record {
    sound = λ entry has. (exact entry).0 has;
    ordered = ordered;
    others = λ entry pushable. inl ((exact entry).1 pushable);
    every = λ all entry pushable. (exact entry).1 pushable;
  }

  pub first-whole : (entries : List Entry) → AreFirstOffers task facts wanted entries true
      → AreUnlimitedOver task.problem task.tables wanted facts [] → AreWhole task facts wanted entries
  first-whole entries first unlimited =
      record { exact = λ entry. (λ has. first.sound entry has, λ pushable. first.every refl entry pushable); unlimited = unlimited }

  pub offered-whole : (kept : Kept) (steps : List Step) → IsOffered task kept facts wanted steps true
      ↔ IsOfferedWhole task kept facts wanted steps
  offered-whole kept steps = (
    λ o. record {
      entries = o.entries;
      whole = first-whole o.entries o.first o.unlimited;
      ordered = o.first.ordered;
      steps_are = o.steps_are;
    },
    λ w. record {
      entries = w.entries;
      first = whole-first w.entries true w.whole.exact w.ordered;
      steps_are = w.steps_are;
      unlimited = w.whole.unlimited;
    },
  )

  -- the first of them, where each of the others comes after all that are had
  pub some-first : (entries : List Entry) (is_all : Bool)
      → ((entry : Entry) → Contains entries entry → IsPushable task.problem task.tables wanted [] facts entry)
      → IsStrictlySortedBy order_of_entries entries
      → (is_all ≡ true → (entry : Entry) → IsPushable task.problem task.tables wanted [] facts entry → Contains entries entry)
      → ((entry : Entry) → IsPushable task.problem task.tables wanted [] facts entry
      → Contains entries entry ⊎ All (λ first. order_of_entries first entry ≡ Less) entries)
      → AreFirstOffers task facts wanted entries is_all
  some-first entries is_all sound ordered every others = record {
    sound = sound;
    ordered = ordered;
    others = λ entry pushable. elim (others entry pushable) [
      | inl has ↦ inl has
      | inr after ↦ inr (λ first has. All-contains (λ (e : Entry). order_of_entries e entry ≡ Less) entries first after has)
    ];
    every = every;
  }

-- ---- several wanted atoms

module _ (problem : Problem) (tables : List Table) (facts : List Atom) (entry : Entry) where
  -- an entry that is relevant for an atom is so wherever this atom is wanted
  pub relevant-for : {ws vs : List Atom} (r : IsRelevant problem tables ws [] entry) → Contains vs r.atom
      → IsRelevant problem tables vs [] entry
  relevant-for r has = record { is_entry = r.is_entry; fresh = r.fresh; atom = r.atom; is_wanted = has; added = r.added }

  wanted-more : (ws vs : List Atom) → ((atom : Atom) → Contains ws atom → Contains vs atom) → IsPushable problem tables ws [] facts entry
      → IsPushable problem tables vs [] facts entry
  wanted-more ws vs more p =
      record { relevant = relevant-for p.relevant (more p.relevant.atom p.relevant.is_wanted); open_entry = p.open_entry }

  pub pushable-none : ¬ IsPushable problem tables [] [] facts entry
  pushable-none p = Contains-none p.relevant.atom p.relevant.is_wanted

  pub pushable-both : (ws vs : List Atom) → IsPushable problem tables (ws ++ vs) [] facts entry
      ↔ (IsPushable problem tables ws [] facts entry ⊎ IsPushable problem tables vs [] facts entry)
  pushable-both ws vs = (
    λ p. elim (Contains-append_cases ws vs p.relevant.atom p.relevant.is_wanted) [
      | inl left ↦ inl (of p left)
      | inr right ↦ inr (of p right)
    ],
    λ either. elim either [
      | inl p ↦ wanted-more ws (ws ++ vs) (λ atom has. Contains-append_left ws vs atom has) p
      | inr p ↦ wanted-more vs (ws ++ vs) (λ atom has. Contains-append_right ws vs atom has) p
    ],
  )
    where
      of : {us : List Atom} (p : IsPushable problem tables (ws ++ vs) [] facts entry) → Contains us p.relevant.atom
          → IsPushable problem tables us [] facts entry
      of p has = record { relevant = relevant-for p.relevant has; open_entry = p.open_entry }

-- the entries for more atoms, after those for the atoms before them
pub exact-more : (problem : Problem) (tables : List Table) (facts ws vs : List Atom) (es fs gs : List Entry)
    → ((entry : Entry) → Contains es entry ↔ IsPushable problem tables ws [] facts entry)
    → ((entry : Entry) → Contains fs entry ↔ IsPushable problem tables vs [] facts entry) → gs ≡ es ++ fs → (entry : Entry)
    → Contains gs entry ↔ IsPushable problem tables (ws ++ vs) [] facts entry
exact-more problem tables facts ws vs es fs gs before here is entry =
    let both = pushable-both problem tables facts entry ws vs in (
      λ has. both.1 (elim (Contains-append_cases es fs entry (subst (λ (l : List Entry). Contains l entry) is has)) [
        | inl left ↦ inl ((before entry).0 left)
        | inr right ↦ inr ((here entry).0 right)
      ]),
      λ p. subst (λ (l : List Entry). Contains l entry) (sym is) (elim (both.0 p) [
        | inl left ↦ Contains-append_left es fs entry ((before entry).1 left)
        | inr right ↦ Contains-append_right es fs entry ((here entry).1 right)
      ]),
    )

pub whole-none : (task : Task) (facts : List Atom) → AreWhole task facts [] []
whole-none task facts = record {
  exact =
      λ entry. (λ has. absurd (Contains-none entry has), λ pushable. absurd (pushable-none task.problem task.tables facts entry pushable));
  unlimited = λ entry relevant. absurd (Contains-none relevant.atom relevant.is_wanted);
}

-- all those for more atoms
pub whole-more : (task : Task) (facts ws vs : List Atom) (es fs gs : List Entry) → AreWhole task facts ws es
    → AreWhole task facts vs fs → gs ≡ es ++ fs → AreWhole task facts (ws ++ vs) gs
whole-more task facts ws vs es fs gs before here is = record {
  exact = exact-more task.problem task.tables facts ws vs es fs gs before.exact here.exact is;
  unlimited = λ entry relevant. elim (Contains-append_cases ws vs relevant.atom relevant.is_wanted) [
    | inl left ↦ before.unlimited entry (relevant-for task.problem task.tables facts entry relevant left)
    | inr right ↦ here.unlimited entry (relevant-for task.problem task.tables facts entry relevant right)
  ];
}

-- ---- from steps to entries

pub apply-pushes : (kept : Kept) (s : Step) (entry : Entry) → s ≡ step.Apply → ¬ DescribesMove kept s (Push entry)
apply-pushes kept s entry same is = subst (λ (x : Step). DescribesMove kept x (Push entry)) same is

pub push-entry : (kept : Kept) (s : Step) (n : ℕ) (entry : Entry) → s ≡ step.Push n → DescribesMove kept s (Push entry)
    → slice_get kept.entries n ≡ Some entry
push-entry kept s n entry same is = subst (λ (x : Step). DescribesMove kept x (Push entry)) same is

-- ---- over a stack

abbrev pub off_stack : List Entry → List Entry → List Entry
off_stack stack entries = filter (λ entry. not (is_push_on stack (Push entry))) entries

pub unstruck-pushes : (stack entries : List Entry) → unstruck stack (map Push entries) ≡ map Push (off_stack stack entries)
unstruck-pushes stack [] = refl
unstruck-pushes stack (e ∷ es) = by (not (is_push_on stack (Push e))) refl (unstruck-pushes stack es)
  where
    by : (b : Bool) → not (is_push_on stack (Push e)) ≡ b → unstruck stack (map Push es) ≡ map Push (off_stack stack es)
        → unstruck stack (map Push (e ∷ es)) ≡ map Push (off_stack stack (e ∷ es))
    by true is rest = rw is (ap (λ (l : List Move). Push e ∷ l) rest)
    by false is rest = rw is rest

pub off_stack-members : (stack entries : List Entry) (entry : Entry) → Contains (off_stack stack entries) entry
    ↔ (Contains entries entry × ¬ Contains stack entry)
off_stack-members stack entries entry =
    let kept_ones = Contains-filter (λ e. not (is_push_on stack (Push e))) entries entry in (
      λ has. let k = kept_ones.0 has in (k.0, λ on. (not_true (is_push_on stack (Push entry))).0 k.1 ((on_stack stack entry).1 on)),
      λ both. kept_ones.1 (both.0, (not_true (is_push_on stack (Push entry))).1 (λ on. both.1 ((on_stack stack entry).0 on))),
    )

pub off_stack-ascend : (stack entries : List Entry) → IsStrictlySortedBy order_of_entries entries
    → IsStrictlySortedBy order_of_entries (off_stack stack entries)
off_stack-ascend stack entries ascends = IsStrictlySortedBy-filter order_of_entries (λ e. not (is_push_on stack (Push e))) entries ascends

-- what is offered, without what stands on the stack, is the first moves of the node
pub successors-offered : (task : Task) (kept : Kept) (model gaps : List Atom) (stack : List Entry) (steps left : List Step) (is_all : Bool)
    → RelevanceOverStacks → IsOpenWith task.problem (needs_with task model stack) gaps
    → IsOffered task kept model gaps steps is_all
    → ((moves : List Move) → AreStepsOf kept steps moves → AreStepsOf kept left (unstruck stack moves))
    → AreFirstSuccessors task kept (record { model = model; stack = stack }) left is_all
successors-offered task kept model gaps stack steps left is_all law opens o struck =
    successors-open task kept (record { model = model; stack = stack }) gaps (off_stack stack o.entries) left is_all opens
    (off_stack-ascend stack o.entries o.first.ordered)
    (λ entry has. let m = (members entry).0 has in (over entry).1 (o.first.sound entry m.0, m.1))
    (λ entry pushable.
    let both = (over entry).0 pushable in
    elim (o.first.others entry both.0) [
      | inl has ↦ inl ((members entry).1 (has, both.1))
      | inr after ↦ inr (λ first has. after first ((members first).0 has).0)
    ])
    (λ all entry pushable. let both = (over entry).0 pushable in (members entry).1 (o.first.every all entry both.0, both.1))
    (law.unlimited task.problem task.tables gaps model stack o.unlimited)
    (subst (AreStepsOf kept left) (unstruck-pushes stack o.entries) (struck (map Push o.entries) o.steps_are))
  where
    members : (entry : Entry) → Contains (off_stack stack o.entries) entry ↔ (Contains o.entries entry × ¬ Contains stack entry)
    members = off_stack-members stack o.entries

    over : (entry : Entry) → IsPushable task.problem task.tables gaps stack model entry
        ↔ (IsPushable task.problem task.tables gaps [] model entry × ¬ Contains stack entry)
    over = law.pushable task.problem task.tables gaps model stack

pub if_some : {A : Type 0} (P : A → Type 0) (option : Option A) (value : A) → option ≡ Some value → IfSome option P → P value
if_some {A} P option value is p = subst (λ (o : Option A). IfSome o P) is p
