-- The order of instances and of entries, where only the first are gathered.
use Rattle.std.proofs.Common.{◌≡◌, ◌∙◌, ◌⊎◌, ◌<◌, ◌≤◌, ℕ, zero, suc, true, false, List, [], ◌∷◌, length, map, take, get_or, refl, sym, ap, subst, inl, inr, arith}
use Rattle.std.specs.Prelude.{All, slice_index_or}
use Rattle.std.proofs.lemmas.List.Kept.{IsStrictlySortedBy-dedup}
use Rattle.std.proofs.lemmas.List.Elements.{All-cons, All-head, All-nil, All-tail, All-take}
use Rattle.std.proofs.lemmas.List.{length-map, length-take-le}
use Rattle.std.specs.List.{AllByRecursion, dedup}
use Rattle.std.specs.List.Sorted.{IsSorted, IsStrictlySortedBy}
use Rattle.std.specs.Cmp.{alike_right, nat_cmp_is, nat_cmp_total, tied_itself, upto}
use Rattle.std.specs.Cmp.Lexicographic.{slice_cmp}
use Rattle.std.specs.Ordering.{is_gt, is_lt, nat_cmp, ordering_reverse, ordering_then}
use Rattle.std.specs.declared.cmp.Ordering.{Ordering}
use Rattle.std.specs.declared.cmp.Ordering.TheVariants.{Less, Equal, Greater}
use Rattle.px_base.specs.ListLaws.{All-at, All-each}
use Rattle.px_terms.specs.contracts.term.TermOrd.TheImpl.Laws as term_order
use Rattle.px_terms.specs.Language.{substitute}
use Rattle.px_terms.specs.Order.{instance_cmp, instance_eq, term_cmp}
use Rattle.px_terms.specs.OrderLaws.{instance_cmp-matches_eq, instance_cmp-total}
use Rattle.px_terms.specs.Substitution.{substitute_instance}
use Rattle.px_terms.specs.Validity.{IsTermOf}
use Rattle.px_terms.specs.declared.instance.OpInst.{OpInst}
use Rattle.px_terms.specs.declared.problem.Problem.{Problem}
use Rattle.px_terms.specs.declared.term.Term.{Term}
use Rattle.px_terms.specs.declared.term.Term.TheVariants.{Obj, Var, Any}
use Rattle.px_question.specs.Answers.{object_terms}
use Rattle.px_table.specs.EntryOrder.{order_of_entries}
use Rattle.px_table.specs.declared.entry.Entry.{Entry}
use Rattle.px_table.specs.declared.entry.Entry.TheVariants.{Macro, Op}
use Rattle.px_diff.specs.Firsts.{AreEnough, ComeBefore, IsNotAfter, IsBeforePrefix}
use Rattle.px_entries.specs.Instances.{IsPartialInstance, StandsFor}
use Rattle.px_entries.specs.declared.partial.PartialInstance.{PartialInstance}
use Rattle.px_entries.proofs.PartialLemmas.{object_at}

-- ---- the least instance

abbrev NotAfter : Term → Term → Type 0
NotAfter t u = is_gt (term_cmp t u) ≡ false

then-not_after : (r s : Ordering) → is_gt r ≡ false → is_gt s ≡ false → is_gt (ordering_then r s) ≡ false
then-not_after Less s h k = refl
then-not_after Equal s h k = k
then-not_after Greater s h k = h

equal-not_after : (r : Ordering) → r ≡ Equal → is_gt r ≡ false
equal-not_after r is = ap is_gt is

same-not_after : (t u : Term) → t ≡ u → NotAfter t u
same-not_after t u is = subst (NotAfter t) is (equal-not_after (term_cmp t t) (tied_itself term_order.total-law t))

nat-less : (m n : ℕ) → m < n → nat_cmp m n ≡ Less
nat-less m n below = sym (nat_cmp_is m n Less below)

zero-first : (m : ℕ) → NotAfter (Obj 0) (Obj m)
zero-first zero = same-not_after (Obj 0) (Obj 0) refl
zero-first (suc m) = ap is_gt (nat-less 0 (suc m) (omega arith))

list-not_after : (f g : Term → Term) (P : Term → Type 0) → ((t : Term) → P t → NotAfter (f t) (g t)) → (ts : List Term) → All P ts
    → is_gt (slice_cmp term_cmp (map f ts) (map g ts)) ≡ false
list-not_after f g P each [] all = refl
list-not_after f g P each (t ∷ ts) all =
    then-not_after (term_cmp (f t) (g t)) (slice_cmp term_cmp (map f ts) (map g ts)) (each t (All-head P t ts all))
    (list-not_after f g P each ts (All-tail P t ts all))

abbrev pub IsZero : ℕ → Type 0
IsZero n = n ≡ 0

pub instance-least : (problem : Problem) (partial : PartialInstance) (lows : List ℕ) (full : OpInst) → IsPartialInstance problem partial
    → length lows ≡ partial.variable_count → All IsZero lows → StandsFor problem partial full
    → IsNotAfter (substitute_instance (object_terms lows) partial.inst) full
instance-least problem partial lows full form count low (objects, fills) =
    subst (IsNotAfter (substitute_instance (object_terms lows) partial.inst)) fills.same
    (then-not_after (nat_cmp partial.inst.op partial.inst.op)
    (slice_cmp term_cmp (map (substitute (object_terms lows)) partial.inst.args)
    (map (substitute (object_terms objects)) partial.inst.args))
    (equal-not_after (nat_cmp partial.inst.op partial.inst.op) (tied_itself nat_cmp_total partial.inst.op))
    (list-not_after (substitute (object_terms lows)) (substitute (object_terms objects))
    (IsTermOf problem partial.variable_count) each partial.inst.args form.terms))
  where
    at_most : (t u : Term) (m : ℕ) → t ≡ Obj 0 → u ≡ Obj m → NotAfter t u
    at_most t u m first second = subst (λ (x : Term). NotAfter x u) (sym first) (subst (NotAfter (Obj 0)) (sym second) (zero-first m))

    each : (t : Term) → IsTermOf problem partial.variable_count t → NotAfter (substitute (object_terms lows) t) (substitute (object_terms objects) t)
    each (Obj n) of = same-not_after (Obj n) (Obj n) refl
    each (Var v) of =
        at_most (slice_index_or (object_terms lows) v Any) (slice_index_or (object_terms objects) v Any) (get_or objects v 0)
        (object_at lows v (omega (arith, of, count)) ∙ ap Obj (low v 0 (omega (arith, of, count))))
        (object_at objects v (omega (arith, of, fills.count)))
    each Any of = absurd of

one-zero : (ns : List ℕ) → All IsZero ns → All IsZero (0 ∷ ns)
one-zero ns all = All-cons IsZero 0 ns refl all

abbrev pub eight_zeros : List ℕ
eight_zeros = 0 ∷ 0 ∷ 0 ∷ 0 ∷ 0 ∷ 0 ∷ 0 ∷ 0 ∷ []

-- at most eight times object 0
pub zeros-all : (n : ℕ) → All IsZero (take n eight_zeros)
zeros-all n =
    let three = one-zero (0 ∷ 0 ∷ []) (one-zero (0 ∷ []) (one-zero [] (All-nil IsZero))) in
    let five = one-zero (0 ∷ 0 ∷ 0 ∷ 0 ∷ []) (one-zero (0 ∷ 0 ∷ 0 ∷ []) three) in
    let seven = one-zero (0 ∷ 0 ∷ 0 ∷ 0 ∷ 0 ∷ 0 ∷ []) (one-zero (0 ∷ 0 ∷ 0 ∷ 0 ∷ 0 ∷ []) five) in
    All-take IsZero n eight_zeros (one-zero (0 ∷ 0 ∷ 0 ∷ 0 ∷ 0 ∷ 0 ∷ 0 ∷ []) seven)

pub zeros-long : (n : ℕ) → n ≤ 8 → length (take n eight_zeros) ≡ n
zeros-long n few = length-take-le n eight_zeros few

-- ---- one before the other

less-at_most : (a b c : OpInst) (r : Ordering) → instance_cmp b c ≡ r → instance_cmp a b ≡ Less → is_gt r ≡ false → instance_cmp a c ≡ Less
less-at_most a b c Less is before not_after = instance_cmp-total.trans a b c before is
less-at_most a b c Equal is before not_after = sym (alike_right instance_cmp-total b c a is) ∙ before
less-at_most a b c Greater is before not_after = absurd (cc)

-- what comes before the least comes before all
pub come_before-most : (insts : List OpInst) (least full : OpInst) → ComeBefore insts least → IsNotAfter least full → ComeBefore insts full
come_before-most insts least full before at_most = All-each (λ (earlier : OpInst). instance_cmp earlier full ≡ Less) insts (λ earlier has.
    less-at_most earlier least full (instance_cmp least full) refl
    (All-at (λ (e : OpInst). instance_cmp e least ≡ Less) insts earlier before has) at_most)

pub at_most-both : (a b c : OpInst) → IsNotAfter a b → IsNotAfter b c → IsNotAfter a c
at_most-both a b c first second = upto instance_cmp-total a b c first second

pub at_most-itself : (a : OpInst) → IsNotAfter a a
at_most-itself a = equal-not_after (instance_cmp a a) (tied_itself instance_cmp-total a)

less-not_after : (r : Ordering) → is_lt r ≡ true → is_gt r ≡ false
less-not_after Less is = refl
less-not_after Equal is = refl
less-not_after Greater is = absurd (cc)

turned-not_after : (r : Ordering) → is_lt r ≡ false → is_gt (ordering_reverse r) ≡ false
turned-not_after Less is = absurd (cc)
turned-not_after Equal is = refl
turned-not_after Greater is = refl

-- the lesser of two
pub lesser-first : (a b : OpInst) → is_lt (instance_cmp a b) ≡ true → IsNotAfter a b
lesser-first a b is = less-not_after (instance_cmp a b) is

pub lesser-second : (a b : OpInst) → is_lt (instance_cmp a b) ≡ false → IsNotAfter b a
lesser-second a b is = ap is_gt (instance_cmp-total.antisymm b a) ∙ turned-not_after (instance_cmp a b) is

-- ---- in order, each once

pub instances-ascend : (sorted new : List OpInst) → IsSorted instance_cmp sorted → new ≡ dedup instance_eq sorted
    → IsStrictlySortedBy instance_cmp new
instances-ascend sorted new ascends is =
    subst (IsStrictlySortedBy instance_cmp) (sym is) (IsStrictlySortedBy-dedup instance_cmp-total instance_cmp-matches_eq sorted ascends)

entries-ascend : (insts : List OpInst) → IsStrictlySortedBy instance_cmp insts → IsStrictlySortedBy order_of_entries (map Op insts)
unfolding IsStrictlySortedBy
entries-ascend [] ascend = ascend
entries-ascend (inst ∷ insts) ascend = (below insts ascend.0, entries-ascend insts ascend.1)
  where
    below : (others : List OpInst) → AllByRecursion (λ other. instance_cmp inst other ≡ Less) others
        → AllByRecursion (λ entry. order_of_entries (Op inst) entry ≡ Less) (map Op others)
    below [] all = all
    below (other ∷ others) all = (all.0, below others all.1)

-- the entries of enough instances are enough
pub enough-entries : (enough : ℕ) (insts : List OpInst) → AreEnough instance_cmp enough insts
    → AreEnough order_of_entries enough (map Op insts)
enough-entries enough insts are = record { ordered = entries-ascend insts are.ordered; many = omega (arith, are.many, length-map insts Op) }

-- ---- entries before first steps

then-less : (r s : Ordering) → r ≡ Less → ordering_then r s ≡ Less
then-less r s is = ap (λ (o : Ordering). ordering_then o s) is

then-equal : (r s : Ordering) → r ≡ Equal → ordering_then r s ≡ s
then-equal r s is = ap (λ (o : Ordering). ordering_then o s) is

nat-equal : (m n : ℕ) → m ≡ n → nat_cmp m n ≡ Equal
nat-equal m n is = sym (nat_cmp_is m n Equal is)

-- what comes before a number of first steps of a table comes before as many or more of it, and before those of later tables
pub before_prefix-order : (number count n prefix : ℕ) (sigma : List ℕ) (kept : Entry) → IsBeforePrefix number count kept
    → (number < n) ⊎ ((number ≡ n) × (count ≤ prefix)) → order_of_entries kept (Macro n prefix sigma) ≡ Less
before_prefix-order number count n prefix sigma (Op inst) before from = refl
before_prefix-order number count n prefix sigma (Macro m p tau) before from = elim from [
  | inl later ↦ then-less (nat_cmp m n) rest (nat-less m n
      (elim before [ inl less ↦ omega (arith, less, later) | inr same ↦ omega (arith, same.0, later) ]))
  | inr level ↦ elim before [
    | inl less ↦ then-less (nat_cmp m n) rest (nat-less m n (omega (arith, less, level.0)))
    | inr same ↦ then-equal (nat_cmp m n) rest (nat-equal m n (same.0 ∙ level.0))
        ∙ then-less (nat_cmp p prefix) (slice_cmp nat_cmp tau sigma) (nat-less p prefix (omega (arith, same.1, level.1)))
  ]
]
  where
    rest : Ordering
    rest = ordering_then (nat_cmp p prefix) (slice_cmp nat_cmp tau sigma)
