-- Objects for a table's parameters, chosen one after the other.
use Rattle.std.proofs.Common.{◌≡◌, ◌∙◌, ◌⊎◌, ℕ, zero, suc, ◌<◌, Bool, true, false, Some, None, List, [], ◌∷◌, ◌++◌, length, drop, set, slice_get, get_or, refl, ap, sym, subst, inl, inr, arith}
use Rattle.std.specs.Prelude.{All, Contains, cond, nat_lt, ◌==◌, slice_index, slice_index_or}
use borrow.Author.Tests.{ltb-true}
use Rattle.std.proofs.lemmas.List.{get_or_default, length-map, length-set, get_or-map, same_lists}
use Rattle.std.proofs.lemmas.Option.{get_or_from_slice_get, slice_get_within}
use Rattle.px_base.specs.Answers.{some_same}
use Rattle.px_proof.specs.PlaceLaws.{slice_get-read}
use Rattle.px_question.specs.Answers.{object_terms}
use Rattle.px_table.specs.declared.table.Table.{Table}
use Rattle.px_table.specs.Prefixes.{IsMacro}
use Rattle.px_terms.specs.declared.problem.Problem.{Problem}
use Rattle.px_terms.specs.declared.term.Term.{Term}
use Rattle.px_terms.specs.declared.term.Term.TheVariants.{Obj, Var, Any}
use Rattle.px_terms.specs.Language.{IsObject, object_of}
use Rattle.px_gaps.specs.Bindings.{ExtendsTerms, IsBinding, IsSlot, first_values}
use Rattle.px_entries.specs.Parameters.{AreFirstTerms, FitsTerms, merged_term}
use Rattle.px_gaps.proofs.Choosing.{set-at, term-at}
use Rattle.px_base.specs.ListLaws.{All-at, All-each, Contains-later}
use Rattle.px_gaps.specs.Closings.{OneOf}
use Rattle.px_base.proofs.Loops.{Contains-pushed}

same_object : (m n : ℕ) → Obj m ≡ Obj n → m ≡ n
same_object m n e = cc

no_variable : {G : Type 0} (n v : ℕ) → Obj n ≡ Var v → G
no_variable n v e = absurd (cc)

-- ---- at first

module _ (problem : Problem) (table : Table) (prefix : ℕ) (terms : List Term) (first : AreFirstTerms table prefix terms) where
  pub first-binding : 0 < problem.objects → IsBinding problem.objects terms
  first-binding some = record {
    each = λ v t at. elim (first.each v t at) [
      | inl used ↦ subst (IsSlot problem.objects v) (sym used.1) refl
      | inr other ↦ subst (IsSlot problem.objects v) (sym other.1) some
    ];
    some_object = λ _. some;
  }

  module _ (sigma : List ℕ) (is : IsMacro problem table prefix sigma) where
    long : length sigma ≡ length terms
    long = is.count ∙ sym first.count

    value-below : 0 < problem.objects → (v : ℕ) → v < length terms → slice_index sigma v < problem.objects
    value-below some v within = elim (first.each v (get_or terms v Any) (slice_get-read terms v Any within)) [
      | inl used ↦ is.used v (omega (arith, within, first.count)) used.0
      | inr other ↦ subst (λ (n : ℕ). n < problem.objects) (sym (is.unused v (omega (arith, within, first.count)) other.0)) some
    ]

    pub first-extends : 0 < problem.objects → ExtendsTerms problem.objects terms sigma
    first-extends some = record {
      count = long;
      below =
          λ k d within. subst (λ (n : ℕ). n < problem.objects) (get_or_default sigma k 0 d within)
          (value-below some k (omega (arith, within, long)));
      same = λ v n at. elim (first.each v (Obj n) at) [
        | inl used ↦ no_variable n v used.1
        | inr other ↦ is.unused v (omega (arith, slice_get_within terms v (Obj n) at, first.count)) other.0 ∙ sym (same_object n 0 other.1)
      ];
    }

    -- without objects no parameter is used
    pub zero-values : problem.objects ≡ 0 → sigma ≡ first_values terms
    zero-values none = same_lists sigma (first_values terms) (long ∙ sym (length-map terms object_of)) (λ k d within.
        let inside : k < length terms = omega (arith, within, long) in
        get_or_default sigma k d 0 within
        ∙ elim (first.each k (get_or terms k Any) (slice_get-read terms k Any inside)) [
          | inl used ↦ absurd (let less = is.used k (omega (arith, inside, first.count)) used.0 in omega (arith, less, none))
          | inr other ↦ is.unused k (omega (arith, inside, first.count)) other.0 ∙ sym (ap object_of other.1)
        ]
        ∙ sym (get_or-map object_of terms k Any d inside))

-- ---- where each parameter has an object

pub closed-values : (limit : ℕ) (terms : List Term) (sigma : List ℕ) → All IsObject terms → ExtendsTerms limit terms sigma
    → sigma ≡ first_values terms
closed-values limit terms sigma closed extends =
    same_lists sigma (first_values terms) (extends.count ∙ sym (length-map terms object_of)) (λ k d within.
    let inside : k < length terms = omega (arith, within, extends.count) in
    get_or_default sigma k d 0 within ∙ go k (get_or terms k Any) (slice_get-read terms k Any inside) (closed k Any inside)
    ∙ sym (get_or-map object_of terms k Any d inside))
  where
    go : (k : ℕ) (t : Term) → slice_get terms k ≡ Some t → IsObject t → slice_index sigma k ≡ object_of t
    go k (Obj n) at is = extends.same k n at
    go k (Var v) at is = absurd is
    go k Any at is = absurd is

pub all-objects : (limit : ℕ) (terms : List Term) → IsBinding limit terms → All (λ t. (v : ℕ) → ¬ (t ≡ Var v)) terms → All IsObject terms
all-objects limit terms binding none k d within =
    subst IsObject (get_or_default terms k Any d within)
    (go (get_or terms k Any) (binding.each k (get_or terms k Any) (slice_get-read terms k Any within)) (none k Any within))
  where
    go : (t : Term) → IsSlot limit k t → ((v : ℕ) → ¬ (t ≡ Var v)) → IsObject t
    go (Obj n) slot never = tt
    go (Var v) slot never = absurd (never v refl)
    go Any slot never = absurd slot

-- a variable among the terms stands at its place
pub variable-there : (limit : ℕ) (terms : List Term) (v : ℕ) → IsBinding limit terms → Contains terms (Var v)
    → slice_get terms v ≡ Some (Var v)
variable-there limit terms v binding has =
    let at : slice_get terms has.0 ≡ Some (Var v) = slice_get-read terms has.0 (Var v) has.1 ∙ ap (λ (t : Term). Some t) has.2 in
    subst (λ (k : ℕ). slice_get terms k ≡ Some (Var v)) (binding.each has.0 (Var v) at) at

-- ---- the objects of two lists of terms

cond_some : {X : Type 0} (b : Bool) (x y : X) → cond b (Some x) None ≡ Some y → (b ≡ true) × (x ≡ y)
cond_some true x y e = (refl, some_same e)
cond_some false x y e = absurd (cc)

pub merged-slot : (limit v : ℕ) (t other next : Term) → IsSlot limit v t → merged_term limit t other ≡ Some next → IsSlot limit v next
merged-slot limit v (Obj a) (Obj b) next slot is = subst (IsSlot limit v) (cond_some (a == b) (Obj a) next is).1 slot
merged-slot limit v (Obj a) (Var w) next slot is = subst (IsSlot limit v) (some_same is) slot
merged-slot limit v (Obj a) Any next slot is = subst (IsSlot limit v) (some_same is) slot
merged-slot limit v (Var u) (Obj b) next slot is =
    let both = cond_some (nat_lt b limit) (Obj b) next is in
    subst (IsSlot limit v) both.1 (ltb-true b limit both.0)
merged-slot limit v (Var u) (Var w) next slot is = subst (IsSlot limit v) (some_same is) slot
merged-slot limit v (Var u) Any next slot is = subst (IsSlot limit v) (some_same is) slot
merged-slot limit v Any other next slot is = absurd slot

-- the object is the term's, if that has one
abbrev pub IsValueAt : Term → ℕ → Type 0
IsValueAt t value = (n : ℕ) → t ≡ Obj n → value ≡ n

equal_numbers : (a b : ℕ) → a ≡ b → (a == b) ≡ true
equal_numbers a b e = grind (arith, e)

less_numbers : (a b : ℕ) → a < b → nat_lt a b ≡ true
less_numbers a b h = grind (arith, h)

pub merged-fits : (limit value : ℕ) (t other : Term) → value < limit → IsValueAt t value → IsValueAt other value
    → (next : Term) × (merged_term limit t other ≡ Some next) × IsValueAt next value
merged-fits limit value (Obj a) (Obj b) below first second =
    (Obj a, ap (λ (c : Bool). cond c (Some (Obj a)) None) (equal_numbers a b (sym (first a refl) ∙ second b refl)), first)
merged-fits limit value (Obj a) (Var w) below first second = (Obj a, refl, first)
merged-fits limit value (Obj a) Any below first second = (Obj a, refl, first)
merged-fits limit value (Var u) (Obj b) below first second = (
  Obj b,
  ap (λ (c : Bool). cond c (Some (Obj b)) None) (less_numbers b limit (subst (λ (n : ℕ). n < limit) (second b refl) below)),
  second,
)
merged-fits limit value (Var u) (Var w) below first second = (Var u, refl, first)
merged-fits limit value (Var u) Any below first second = (Var u, refl, first)
merged-fits limit value Any other below first second = (Any, refl, first)

-- ---- fitting by places

pub extends-fits : (limit : ℕ) (terms : List Term) (sigma : List ℕ) → ExtendsTerms limit terms sigma → FitsTerms terms sigma
extends-fits limit terms sigma extends v n at = extends.same v n at

pub fits-at : (terms : List Term) (sigma : List ℕ) (v : ℕ) (d : Term) → FitsTerms terms sigma → v < length terms
    → IsValueAt (get_or terms v d) (slice_index sigma v)
fits-at terms sigma v d fits within n is = fits v n (slice_get-read terms v d within ∙ ap (λ (t : Term). Some t) is)

pub value-within : (limit : ℕ) (terms : List Term) (sigma : List ℕ) (v : ℕ) → ExtendsTerms limit terms sigma → v < length terms
    → slice_index sigma v < limit
value-within limit terms sigma v extends within = extends.below v 0 (omega (arith, within, extends.count))

-- ---- an object for one parameter, by the term that is put in its place

pub put-binding : (limit v : ℕ) (terms : List Term) (next : Term) → IsBinding limit terms → IsSlot limit v next
    → IsBinding limit (set terms v next)
put-binding limit v terms next binding slot = record {
  each = λ w t at. elim (set-at terms v w next t at) [
    | inl here ↦ subst (λ (k : ℕ). IsSlot limit k t) here.0 (subst (IsSlot limit v) here.1 slot)
    | inr before ↦ binding.each w t before
  ];
  some_object = λ some. binding.some_object (omega (arith, some, length-set terms v next));
}

pub put-extends : (limit v : ℕ) (terms : List Term) (next : Term) (sigma : List ℕ) → ExtendsTerms limit terms sigma
    → IsValueAt next (slice_index sigma v) → ExtendsTerms limit (set terms v next) sigma
put-extends limit v terms next sigma extends value = record {
  count = extends.count ∙ sym (length-set terms v next);
  below = extends.below;
  same = λ w n at. elim (set-at terms v w next (Obj n) at) [
    | inl here ↦ ap (slice_index sigma) (sym here.0) ∙ value n here.1
    | inr before ↦ extends.same w n before
  ];
}

-- ---- two lists of terms, place by place

pub wider-fits : (wide narrow : List Term) → length narrow ≡ length wide
    → ((v n : ℕ) → v < length wide → get_or wide v Any ≡ Obj n → get_or narrow v Any ≡ Obj n) → (sigma : List ℕ) → FitsTerms narrow sigma
    → FitsTerms wide sigma
wider-fits wide narrow long each sigma fits v n at =
    let within : v < length wide = slice_get_within wide v (Obj n) at in
    fits v n (slice_get-read narrow v Any (omega (arith, within, long))
    ∙ ap (λ (t : Term). Some t) (each v n within (get_or_from_slice_get wide v (Obj n) Any at)))

module _ (limit : ℕ) (terms others : List Term) (alike : length others ≡ length terms) where
  both-fit : (sigma : List ℕ) → ExtendsTerms limit terms sigma → FitsTerms others sigma → (v : ℕ) → v < length terms
      → (next : Term) × (merged_term limit (get_or terms v Any) (get_or others v Any) ≡ Some next) × IsValueAt next (slice_index sigma v)
  both-fit sigma extends fits v within =
      merged-fits limit (slice_index sigma v) (get_or terms v Any) (get_or others v Any) (value-within limit terms sigma v extends within)
      (fits-at terms sigma v Any (extends-fits limit terms sigma extends) within)
      (fits-at others sigma v Any fits (omega (arith, within, alike)))

  module _ (next : List Term) (long : length next ≡ length terms)
      (each : (v : ℕ) → v < length terms → merged_term limit (get_or terms v Any) (get_or others v Any) ≡ Some (get_or next v Any)) where
    pub merged-binding : IsBinding limit terms → IsBinding limit next
    merged-binding binding = record {
      each = λ v t at.
          let within : v < length terms = omega (arith, slice_get_within next v t at, long) in
          merged-slot limit v (get_or terms v Any) (get_or others v Any) t
          (binding.each v (get_or terms v Any) (slice_get-read terms v Any within))
          (each v within ∙ ap (λ (u : Term). Some u) (get_or_from_slice_get next v t Any at));
      some_object = λ filled. binding.some_object (omega (arith, filled, long));
    }

    pub merged-extends : (sigma : List ℕ) → ExtendsTerms limit terms sigma → FitsTerms others sigma → ExtendsTerms limit next sigma
    merged-extends sigma extends fits = record {
      count = extends.count ∙ sym long;
      below = extends.below;
      same = λ v n at.
          let within : v < length terms = omega (arith, slice_get_within next v (Obj n) at, long) in
          let both = both-fit sigma extends fits v within in
          both.2 n (some_same (sym both.1 ∙ each v within) ∙ get_or_from_slice_get next v (Obj n) Any at);
    }

-- ---- matches of one argument

-- where the parameter's object is the wanted one, the terms may have it
pub put-fits : (limit p : ℕ) (terms : List Term) (sigma : List ℕ) (wanted d : Term) → p < length terms → ExtendsTerms limit terms sigma
    → slice_index_or (object_terms sigma) p Any ≡ wanted
    → (next : Term) × (merged_term limit (get_or terms p d) wanted ≡ Some next) × ExtendsTerms limit (set terms p next) sigma
put-fits limit p terms sigma wanted d within extends is =
    let value = slice_index sigma p in
    let wanted_is : Obj (slice_index sigma p) ≡ wanted = sym (term-at sigma p (omega (arith, within, extends.count))) ∙ is in
    let both =
    merged-fits limit value (get_or terms p d) wanted (value-within limit terms sigma p extends within)
    (fits-at terms sigma p d (extends-fits limit terms sigma extends) within)
    (λ n e. same_object (slice_index sigma p) n (wanted_is ∙ e)) in
    (both.0, both.1, put-extends limit p terms both.0 sigma extends both.2)

pub put-slot : (limit p : ℕ) (terms : List Term) (wanted d next : Term) → IsBinding limit terms → p < length terms
    → merged_term limit (get_or terms p d) wanted ≡ Some next → IsBinding limit (set terms p next)
put-slot limit p terms wanted d next binding within is =
    put-binding limit p terms next binding (merged-slot limit p (get_or terms p d) wanted next
    (binding.each p (get_or terms p d) (slice_get-read terms p d within)) is)

-- ---- one more term

pub pushed-at : (terms : List Term) (next : Term) (v : ℕ) (t : Term) → slice_get (terms ++ next ∷ []) v ≡ Some t
    → (slice_get terms v ≡ Some t) ⊎ ((v ≡ length terms) × (next ≡ t))
pushed-at [] next zero t at = inr (refl, some_same at)
pushed-at [] next (suc v) t at = absurd (cc)
pushed-at (u ∷ terms) next zero t at = inl at
pushed-at (u ∷ terms) next (suc v) t at =
    elim (pushed-at terms next v t at) [ inl before ↦ inl before | inr here ↦ inr (ap suc here.0, here.1) ]

-- ---- one more list of terms

pub pushed-all : (P : List Term → Type 0) (old new : List (List Term)) (one : List Term) → All P old → P one → new ≡ old ++ one ∷ []
    → All P new
pushed-all P old new one all here put =
    subst (All P) (sym put) (All-each P (old ++ one ∷ []) (λ choice has. elim ((Contains-pushed old one choice).0 has) [
      | inl before ↦ All-at P old choice all before
      | inr same ↦ subst P same here
    ]))

pub pushed-kept : (P : List Term → Type 0) (old new : List (List Term)) (one : List Term) → new ≡ old ++ one ∷ [] → OneOf old P
    → OneOf new P
pushed-kept P old new one put (choice, has, p) =
    (choice, subst (λ (l : List (List Term)). Contains l choice) (sym put) ((Contains-pushed old one choice).1 (inl has)), p)

pub pushed-last : (P : List Term → Type 0) (old new : List (List Term)) (one : List Term) → new ≡ old ++ one ∷ [] → P one → OneOf new P
pushed-last P old new one put p =
    (one, subst (λ (l : List (List Term)). Contains l one) (sym put) ((Contains-pushed old one one).1 (inr refl)), p)

-- ---- the last ones of a list

pub among-dropped : {X : Type 0} (n : ℕ) (xs : List X) (x : X) → Contains (drop n xs) x → Contains xs x
among-dropped zero xs x has = has
among-dropped (suc n) [] x has = has
among-dropped (suc n) (y ∷ xs) x has = Contains-later y xs x (among-dropped n xs x has)
