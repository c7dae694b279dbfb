-- The first of what may be pushed: parts that are gathered, and what is left.
use Rattle.std.proofs.Common.{◌≡◌, ◌∙◌, ◌⊎◌, ◌<◌, ◌≤◌, ℕ, Bool, true, false, List, [], map, take, drop, refl, sym, ap, subst, inl, inr, arith}
use Rattle.std.specs.Prelude.{◌↔◌, All, Contains, MatchBool, not}
use Rattle.std.proofs.lemmas.List.{take-append-drop}
use Rattle.std.proofs.lemmas.List.Elements.{Contains-append_cases}
use Rattle.std.specs.declared.cmp.Ordering.TheVariants.{Less}
use Rattle.std.specs.List.Sorted.{IsPermutation}
use Rattle.std.proofs.lemmas.List.Sorted.{Contains-permutation, IsPermutation-sym}
use Rattle.px_base.specs.Answers.{both_answers}
use Rattle.px_base.specs.ListLaws.{All-at, All-each, Contains-none}
use Rattle.px_proof.specs.PlaceLaws.{Contains-mapped}
use Rattle.px_table.specs.EntryOrder.{order_of_entries}
use Rattle.px_table.specs.declared.entry.Entry.{Entry}
use Rattle.px_table.specs.declared.entry.Entry.TheVariants.{Macro, Op}
use Rattle.px_table.specs.declared.table.Table.{Table}
use Rattle.px_terms.specs.AtomSets.{IsAtomSet}
use Rattle.px_terms.specs.Operators.{adds}
use Rattle.px_terms.specs.Order.{instance_cmp}
use Rattle.px_terms.specs.declared.atom.Atom.{Atom}
use Rattle.px_terms.specs.declared.instance.OpInst.{OpInst}
use Rattle.px_terms.specs.declared.problem.Problem.{Problem}
use Rattle.px_gaps.specs.Closings.{OneOf}
use Rattle.px_gaps.specs.declared.question.MetLimit.{MetLimit}
use Rattle.px_diff.specs.Firsts.{AreEnough, AreFirstEntries, BringsFirst, ComeBefore, IsBeforePrefix, IsOfTableFrom}
use Rattle.px_diff.specs.Gathering.{Gathers}
use Rattle.px_entries.specs.Instances.{Covers, IsCovered, IsPartialInstance, StandsFor}
use Rattle.px_diff.specs.Macros.{GathersEntries, IsMacroEntry, IsOperatorEntry}
use Rattle.px_entries.specs.Unlimited.{IsNeverLimited}
use Rattle.px_diff.specs.Pushes.{IsPushable, LimitsRelevant}
use Rattle.px_diff.specs.declared.request.Request.{Request}
use Rattle.px_entries.specs.declared.partial.PartialInstance.{PartialInstance}
use Rattle.px_diff.proofs.FirstOrder.{before_prefix-order, enough-entries}
use Rattle.px_diff.proofs.GatherLemmas.{IsEarlier, IsShorter}
use Rattle.px_gaps.proofs.Grows.{one_none}
use Rattle.px_diff.proofs.WholeLemmas.{either, operator_adds, operators_gather, whole-exact}
use Rattle.px_table.specs.KernelLaws.{Contains-from_map}

part-of : {X : Type 0} (n : ℕ) (xs : List X) (x : X) → Contains xs x → Contains (take n xs) x ⊎ Contains (drop n xs) x
part-of n xs x has = Contains-append_cases (take n xs) (drop n xs) x (subst (λ l. Contains l x) (sym (take-append-drop n xs)) has)

pub match-yes : (P Q : Type 0) (b : Bool) → b ≡ true → MatchBool b P Q → P
match-yes P Q b is h = subst (λ (x : Bool). MatchBool x P Q) is h

pub match-no : (P Q : Type 0) (b : Bool) → b ≡ false → MatchBool b P Q → Q
match-no P Q b is h = subst (λ (x : Bool). MatchBool x P Q) is h

pub not-all : (b : Bool) → not b ≡ true → b ≡ false
not-all true is = absurd (cc)
not-all false is = refl

below-or-from : (m n : ℕ) → (m < n) ⊎ (n ≤ m)
below-or-from m n = grind arith

-- the same partial instances in another order
pub covers-permuted : (problem : Problem) (W : OpInst → Type 0) (made new : List PartialInstance) → IsPermutation made new
    → Covers problem W [] made → Covers problem W [] new
covers-permuted problem W made new permuted c = record {
  form =
      λ all. All-each (IsPartialInstance problem) new
      (λ partial has. All-at (IsPartialInstance problem) made partial (c.form all)
      (Contains-permutation new made partial (IsPermutation-sym made new permuted) has));
  kept = λ full one. absurd (one_none (λ partial. StandsFor problem partial full) one);
  only = λ full one. c.only full (one.0, Contains-permutation new made one.0 (IsPermutation-sym made new permuted) one.1, one.2);
  all = λ full is w. let one = c.all full is w in (one.0, Contains-permutation made new one.0 permuted one.1, one.2);
}

module _ (problem : Problem) (tables : List Table) (wanted : List Atom) (stack : List Entry) (model : List Atom) (enough : ℕ) where
  abbrev Pushable : Entry → Type 0
  Pushable = IsPushable problem tables wanted stack model

  abbrev GathersInsts : (OpInst → Type 0) → List OpInst → List OpInst → Type 0
  GathersInsts = Gathers problem tables wanted stack model

  abbrev BringsInsts : (OpInst → Type 0) → List OpInst → List OpInst → Type 0
  BringsInsts = BringsFirst instance_cmp (λ inst. Pushable (Op inst)) enough

  abbrev Brings : (Entry → Type 0) → List Entry → List Entry → Type 0
  Brings = BringsFirst order_of_entries Pushable enough

  -- ---- instances of operators

  -- those of the first matches are gathered, and those of the others come after them
  pub left-off : (matches : List PartialInstance) (place : ℕ) (old new : List OpInst)
      → GathersInsts (IsCovered problem (take place matches)) old new
      → ((full : OpInst) → IsCovered problem (drop place matches) full → ComeBefore new full)
      → AreEnough instance_cmp enough new → BringsInsts (IsCovered problem matches) old new
  left-off matches place old new g after are_enough = record {
    kept = g.kept;
    only = g.only;
    others = λ inst (partial, has, stands) p. elim (part-of place matches partial has) [
      | inl before ↦ inl (g.all inst (partial, before, stands) p)
      | inr later ↦ inr (after inst (partial, later, stands))
    ];
    are_enough = are_enough;
  }

  pub operators-brought : (matches : List PartialInstance) (found : List OpInst)
      → Covers problem (λ full. OneOf wanted (Contains (adds problem full))) [] matches → BringsInsts (IsCovered problem matches) [] found
      → Brings (λ entry. Unit {0}) [] (map Op found)
  operators-brought matches found covers b = record {
    kept = λ entry there. absurd (Contains-none entry there);
    only = λ entry there.
        let from = Contains-from_map Op found entry there in
        elim (b.only from.0 from.1) [ inl never ↦ absurd (Contains-none from.0 never) | inr p ↦ inr (subst Pushable from.2 p) ];
    others = λ entry u p. others entry p;
    are_enough = enough-entries enough found b.are_enough;
  }
    where
      Answer : Entry → Type 0
      Answer entry = Contains (map Op found) entry ⊎ All (λ earlier. order_of_entries earlier entry ≡ Less) (map Op found)

      after-all : (entry : Entry) → ((inst : OpInst) → Contains found inst → order_of_entries (Op inst) entry ≡ Less)
          → All (λ earlier. order_of_entries earlier entry ≡ Less) (map Op found)
      after-all entry each = All-each (λ (earlier : Entry). order_of_entries earlier entry ≡ Less) (map Op found) (λ earlier there.
          let from = Contains-from_map Op found earlier there in
          subst (λ (e : Entry). order_of_entries e entry ≡ Less) from.2 (each from.0 from.1))

      others : (entry : Entry) → Pushable entry → Answer entry
      others (Op inst) p =
          let adds_one = operator_adds problem tables wanted stack model inst p.relevant in
          elim (b.others inst (covers.all inst p.relevant.is_entry.of adds_one) p) [
            | inl there ↦ inl (Contains-mapped Op found inst there)
            | inr later ↦ inr (after-all (Op inst) (λ other has. All-at (λ (e : OpInst). instance_cmp e inst ≡ Less) found other later has))
          ]
      others (Macro number prefix sigma) p = inr (after-all (Macro number prefix sigma) (λ other has. refl))

  -- the entries of the instances that are found
  pub operators-told : (b : Bool) (matches lent : List PartialInstance) (start found : List OpInst) (entries : List Entry)
      → Covers problem (λ full. OneOf wanted (Contains (adds problem full))) [] matches → lent ≡ matches → start ≡ []
      → entries ≡ map Op found
      → MatchBool b (GathersInsts (IsCovered problem lent) start found) (BringsInsts (IsCovered problem lent) start found)
      → MatchBool b (GathersEntries problem tables wanted stack model IsOperatorEntry [] entries) (Brings (λ entry. Unit {0}) [] entries)
  operators-told true matches lent start found entries covers same none is g =
      subst (λ (l : List Entry). GathersEntries problem tables wanted stack model IsOperatorEntry [] l) (sym is)
      (operators_gather problem tables wanted stack model matches found covers
      (subst (λ (l : List OpInst). GathersInsts (IsCovered problem matches) l found) none
      (subst (λ (l : List PartialInstance). GathersInsts (IsCovered problem l) start found) same g)))
  operators-told false matches lent start found entries covers same none is b =
      subst (λ (l : List Entry). Brings (λ entry. Unit {0}) [] l) (sym is) (operators-brought matches found covers
      (subst (λ (l : List OpInst). BringsInsts (IsCovered problem matches) l found) none
      (subst (λ (l : List PartialInstance). BringsInsts (IsCovered problem l) start found) same b)))

  -- ---- first steps

  after-prefix : (number count n prefix : ℕ) (sigma : List ℕ) (entry : Entry) (found : List Entry) → Macro n prefix sigma ≡ entry
      → All (IsBeforePrefix number count) found → (number < n) ⊎ ((number ≡ n) × (count ≤ prefix))
      → All (λ earlier. order_of_entries earlier entry ≡ Less) found
  after-prefix number count n prefix sigma entry found same before from =
      All-each (λ (earlier : Entry). order_of_entries earlier entry ≡ Less) found (λ earlier has.
      subst (λ (e : Entry). order_of_entries earlier e ≡ Less) same
      (before_prefix-order number count n prefix sigma earlier (All-at (IsBeforePrefix number count) found earlier before has) from))

  -- fewer first steps are gathered, and all that is there comes before those of that many first steps
  pub prefixes-left : (number count : ℕ) (old new : List Entry)
      → GathersEntries problem tables wanted stack model (IsShorter problem tables wanted stack model number count) old new
      → All (IsBeforePrefix number count) new
      → AreEnough order_of_entries enough new → Brings (IsOfTableFrom number) old new
  prefixes-left number count old new g before are_enough = record {
    kept = g.kept;
    only = g.only;
    others = λ entry (n, from, (prefix, (sigma, same))) p. elim (below-or-from number n) [
      | inl later ↦ inr (after-prefix number count n prefix sigma entry new same before (inl later))
      | inr up_to ↦
          let level : number ≡ n = omega (arith, from, up_to) in
          elim (below-or-from prefix count) [
            | inl fewer ↦ inl (g.all entry (prefix, fewer, (sigma, ap (λ (m : ℕ). Macro m prefix sigma) level ∙ same)) p)
            | inr more ↦ inr (after-prefix number count n prefix sigma entry new same before (inr (level, more)))
          ]
    ];
    are_enough = are_enough;
  }

  -- earlier tables are gathered, and then some of this one
  pub tables-left : (number : ℕ) (old made new : List Entry)
      → GathersEntries problem tables wanted stack model (IsEarlier problem tables wanted stack model number) old made
      → Brings (IsOfTableFrom number) made new → Brings IsMacroEntry old new
  tables-left number old made new g b = record {
    kept = λ entry there. b.kept entry (g.kept entry there);
    only = λ entry there. elim (b.only entry there) [ inl before ↦ g.only entry before | inr p ↦ inr p ];
    others = λ entry (n, of) p. elim (below-or-from n number) [
      | inl earlier ↦ inl (b.kept entry (g.all entry (n, earlier, of) p))
      | inr from ↦ b.others entry (n, from, of) p
    ];
    are_enough = b.are_enough;
  }

  -- ---- all

  -- operators are gathered, and then some first steps
  pub macros-brought : (made new : List Entry) → GathersEntries problem tables wanted stack model IsOperatorEntry [] made
      → Brings IsMacroEntry made new → Brings (λ entry. Unit {0}) [] new
  macros-brought made new g b = record {
    kept = λ entry there. absurd (Contains-none entry there);
    only = λ entry there. elim (b.only entry there) [ inl before ↦ g.only entry before | inr p ↦ inr p ];
    others = λ entry u p. elim (either problem tables wanted stack model entry) [
      | inl operator ↦ inl (b.kept entry (g.all entry operator p))
      | inr steps ↦ b.others entry steps p
    ];
    are_enough = b.are_enough;
  }

-- where no question about an entry is ever limited, none about a relevant one meets the limit
pub never-met : (problem : Problem) (tables : List Table) (facts wanted : List Atom) (limit : MetLimit)
    → IsNeverLimited problem tables → IsAtomSet facts → ¬ LimitsRelevant problem tables wanted [] facts limit
never-met problem tables facts wanted limit never is_set l =
    never facts is_set l.entry l.relevant.is_entry limit.question limit.formula limit.shapes l.asked l.met

module _ (request : Request) (enough : ℕ) where
  abbrev IsFor : Entry → Type 0
  IsFor = IsPushable request.problem.now request.tables.now request.wanted.now request.stack.now request.model.now.atoms

  abbrev GathersFor : (Entry → Type 0) → List Entry → List Entry → Type 0
  GathersFor = GathersEntries request.problem.now request.tables.now request.wanted.now request.stack.now request.model.now.atoms

  abbrev BringsFor : (Entry → Type 0) → List Entry → List Entry → Type 0
  BringsFor = BringsFirst order_of_entries IsFor enough

  first-brought : (entries : List Entry) → BringsFor (λ entry. Unit {0}) [] entries → AreFirstEntries request enough false entries
  first-brought entries b = record {
    sound = λ entry there. elim (b.only entry there) [ inl never ↦ absurd (Contains-none entry never) | inr p ↦ p ];
    all = λ is entry p. absurd (cc);
    others = λ entry p. b.others entry tt p;
    are_enough = λ part. b.are_enough;
  }

  -- some operators
  pub first-operators : (b : Bool) (entries : List Entry) → not b ≡ true
      → MatchBool b (GathersFor IsOperatorEntry [] entries) (BringsFor (λ entry. Unit {0}) [] entries)
      → AreFirstEntries request enough b entries
  first-operators true entries is h = absurd (cc)
  first-operators false entries is h = first-brought entries h

  -- all operators, and MACROPs
  pub first-macros : (every b : Bool) (made new : List Entry) → not every ≡ false
      → MatchBool every (GathersFor IsOperatorEntry [] made) (BringsFor (λ entry. Unit {0}) [] made)
      → MatchBool b (GathersFor IsMacroEntry made new) (BringsFor IsMacroEntry made new) → AreFirstEntries request enough b new
  first-macros false b made new is h k = absurd (cc)
  first-macros true true made new is h k =
      let exact =
      whole-exact request.problem.now request.tables.now request.wanted.now request.stack.now request.model.now.atoms made new h k in
      record {
        sound = λ entry there. (exact entry).0 there;
        all = λ yes' entry p. (exact entry).1 p;
        others = λ entry p. inl ((exact entry).1 p);
        are_enough = λ part. absurd (cc);
      }
  first-macros true false made new is h k =
      first-brought new (macros-brought request.problem.now request.tables.now request.wanted.now request.stack.now request.model.now.atoms
      enough made new h k)

  -- all of them in another order
  pub first-ordered : (b : Bool) (made new : List Entry) → b ≡ true → ((entry : Entry) → Contains new entry ↔ Contains made entry)
      → AreFirstEntries request enough b made → AreFirstEntries request enough b new
  first-ordered b made new are_all members f = record {
    sound = λ entry there. f.sound entry ((members entry).0 there);
    all = λ is entry p. (members entry).1 (f.all is entry p);
    are_enough = λ part. both_answers b part are_all;
    others = λ entry p. elim (f.others entry p) [
      | inl there ↦ inl ((members entry).1 there)
      | inr later ↦ inr (All-each (λ (kept : Entry). order_of_entries kept entry ≡ Less) new
          (λ kept has. All-at (λ (kept : Entry). order_of_entries kept entry ≡ Less) made kept later ((members kept).0 has)))
    ];
  }
