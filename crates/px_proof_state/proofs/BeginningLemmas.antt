-- Facts that begin alike stand together.
use Rattle.std.proofs.Common.{◌≡◌, ℕ, zero, suc, ◌<◌, ◌≤◌, Bool, true, false, Some, List, [], ◌∷◌, length, map, take, get_or, slice_get, refl, ap, sym, ◌∙◌, arith}
use Rattle.std.specs.Prelude.{All}
use Rattle.std.specs.Cmp.{tied_itself, upto}
use Rattle.std.specs.Cmp.Lexicographic.{slice_cmp}
use Rattle.std.proofs.lemmas.List.Elements.{All-from_recursion}
use Rattle.std.proofs.lemmas.Option.{get_or_from_slice_get, slice_get_within}
use Rattle.std.specs.List.Sorted.{IsStrictlySortedBy, IsPartitionedBy, IsPartitionPoint}
use Rattle.std.specs.Ordering.{is_gt, is_le, is_lt, nat_cmp, ordering_then}
use Rattle.std.specs.declared.cmp.Ordering.{Ordering}
use Rattle.std.specs.declared.cmp.Ordering.TheVariants.{Less, Equal, Greater}
use Rattle.px_terms.specs.AtomSets.{IsAtomSet}
use Rattle.px_terms.specs.Instances.{IsGround}
use Rattle.px_terms.specs.Language.{IsObject, substitute}
use Rattle.px_terms.specs.Order.{atom_cmp, term_cmp}
use Rattle.px_terms.specs.OrderLaws.{atom_cmp-total}
use Rattle.px_terms.specs.Substitution.{substitute_atom}
use Rattle.px_terms.specs.declared.atom.Atom.{Atom}
use Rattle.px_terms.specs.declared.term.Term.{Term}
use Rattle.px_terms.specs.declared.term.Term.TheVariants.{Obj, Var, Any}
use Rattle.px_proof_state.specs.Beginnings.{HasItsFacts, HasNone, beginning}

-- ---- the order of beginnings

then_up : (o p q : Ordering) → (is_gt p ≡ false → is_gt q ≡ false) → is_gt (ordering_then o p) ≡ false → is_gt (ordering_then o q) ≡ false
then_up Less p q rest up = refl
then_up Equal p q rest up = rest up
then_up Greater p q rest up = up

prefixes_up : (n : ℕ) (xs ys : List Term) → is_gt (slice_cmp term_cmp xs ys) ≡ false
    → is_gt (slice_cmp term_cmp (take n xs) (take n ys)) ≡ false
prefixes_up zero xs ys up = refl
prefixes_up (suc n) [] [] up = refl
prefixes_up (suc n) [] (y ∷ ys) up = refl
prefixes_up (suc n) (x ∷ xs) [] up = up
prefixes_up (suc n) (x ∷ xs) (y ∷ ys) up =
    then_up (term_cmp x y) (slice_cmp term_cmp xs ys) (slice_cmp term_cmp (take n xs) (take n ys)) (prefixes_up n xs ys) up

-- an atom that isn't greater has no greater beginning
beginnings_up : (n : ℕ) (a b : Atom) → is_gt (atom_cmp a b) ≡ false → is_gt (atom_cmp (beginning n a) (beginning n b)) ≡ false
beginnings_up n a b up =
    then_up (nat_cmp a.pred b.pred) (slice_cmp term_cmp a.args b.args) (slice_cmp term_cmp (take n a.args) (take n b.args))
    (prefixes_up n a.args b.args) up

-- a fact isn't greater than a later one
facts_up : (facts : List Atom) → IsAtomSet facts → (i j : ℕ) (d : Atom) → i ≤ j → j < length facts
    → is_gt (atom_cmp (get_or facts i d) (get_or facts j d)) ≡ false
unfolding IsStrictlySortedBy
facts_up [] up i j d le within = absurd (omega (arith, within))
facts_up (a ∷ facts) up zero zero d le within = ap is_gt (tied_itself atom_cmp-total a)
facts_up (a ∷ facts) up zero (suc j) d le within =
    ap is_gt (All-from_recursion (λ b. atom_cmp a b ≡ Less) facts up.0 j d (omega (arith, within)))
facts_up (a ∷ facts) up (suc i) zero d le within = absurd (omega (arith, le))
facts_up (a ∷ facts) up (suc i) (suc j) d le within = facts_up facts up.1 i j d (omega (arith, le)) (omega (arith, within))

less_is : (o : Ordering) → is_lt o ≡ true → o ≡ Less
less_is Less e = refl
less_is Equal e = absurd (cc)
less_is Greater e = absurd (cc)

le_of : (o : Ordering) → is_gt o ≡ false → is_le o ≡ true
le_of Less e = refl
le_of Equal e = refl
le_of Greater e = absurd (cc)

of_le : (o : Ordering) → is_le o ≡ true → is_gt o ≡ false
of_le Less e = refl
of_le Equal e = refl
of_le Greater e = absurd (cc)

lt_back : (x y z : Atom) (o : Ordering) → atom_cmp x y ≡ o → is_gt o ≡ false → is_lt (atom_cmp y z) ≡ true → is_lt (atom_cmp x z) ≡ true
lt_back x y z Less is up less = ap is_lt (atom_cmp-total.trans x y z is (less_is (atom_cmp y z) less))
lt_back x y z Equal is up less = ap is_lt (atom_cmp-total.congr x y z is) ∙ less
lt_back x y z Greater is up less = absurd (cc)

-- whether the fact begins before the atom, and whether not after it
abbrev pub is_before : ℕ → Atom → Atom → Bool
is_before n atom fact = is_lt (atom_cmp (beginning n fact) (beginning n atom))

abbrev pub is_not_after : ℕ → Atom → Atom → Bool
is_not_after n atom fact = is_le (atom_cmp (beginning n fact) (beginning n atom))

module _ (facts : List Atom) (up : IsAtomSet facts) (n : ℕ) (atom : Atom) where
  step_up : (i j : ℕ) (d : Atom) → i ≤ j → j < length facts
      → is_gt (atom_cmp (beginning n (get_or facts i d)) (beginning n (get_or facts j d))) ≡ false
  step_up i j d le within = beginnings_up n (get_or facts i d) (get_or facts j d) (facts_up facts up i j d le within)

  pub parted-before : IsPartitionedBy (is_before n atom) facts
  parted-before i j d le within less =
      lt_back (beginning n (get_or facts i d)) (beginning n (get_or facts j d)) (beginning n atom) _ refl (step_up i j d le within) less

  pub parted-not_after : IsPartitionedBy (is_not_after n atom) facts
  parted-not_after i j d le within not_after =
      le_of _ (upto atom_cmp-total (beginning n (get_or facts i d)) (beginning n (get_or facts j d)) (beginning n atom)
      (step_up i j d le within) (of_le _ not_after))

-- ---- instances begin alike

object_stays : (sigma : List Term) (t : Term) → IsObject t → substitute sigma t ≡ t
object_stays sigma (Obj o) is = refl
object_stays sigma (Var v) is = absurd is
object_stays sigma Any is = absurd is

-- the first terms are objects, and stay
prefixes_stay : (sigma : List Term) (n : ℕ) (ts : List Term) → All IsObject (take n ts) → take n (map (substitute sigma) ts) ≡ take n ts
prefixes_stay sigma zero ts all = refl
prefixes_stay sigma (suc n) [] all = refl
prefixes_stay sigma (suc n) (t ∷ ts) all =
    let head = object_stays sigma t (all 0 t (omega arith)) in
    let tail = prefixes_stay sigma n ts (λ k d within. all (suc k) d (omega (arith, within))) in
    λ i. head i ∷ tail i

pub ground_stays : (sigma ts : List Term) → All IsObject ts → map (substitute sigma) ts ≡ ts
ground_stays sigma [] all = refl
ground_stays sigma (t ∷ ts) all =
    let head = object_stays sigma t (all 0 t (omega arith)) in
    let tail = ground_stays sigma ts (λ k d within. all (suc k) d (omega (arith, within))) in
    λ i. head i ∷ tail i

-- a ground atom that is an instance begins as the atom does with its objects
alike : (n : ℕ) (atom fact : Atom) → All IsObject (take n atom.args) → IsGround fact → (sigma tau : List Term)
    → substitute_atom sigma atom ≡ substitute_atom tau fact → beginning n fact ≡ beginning n atom
alike n atom fact objects is_ground sigma tau same =
    let pred_is : fact.pred ≡ atom.pred = sym (ap (λ (a : Atom). a.pred) same) in
    let args_are : map (substitute sigma) atom.args ≡ fact.args = ap (λ (a : Atom). a.args) same ∙ ground_stays tau fact.args is_ground in
    let prefix_is : take n fact.args ≡ take n atom.args = sym (ap (take n) args_are) ∙ prefixes_stay sigma n atom.args objects in
    λ i. record { pred = pred_is i; args = prefix_is i }

module _ (facts : List Atom) (n : ℕ) (atom : Atom) (objects : All IsObject (take n atom.args)) where
  level : (fact : Atom) → IsGround fact → (sigma tau : List Term) → substitute_atom sigma atom ≡ substitute_atom tau fact
      → atom_cmp (beginning n fact) (beginning n atom) ≡ Equal
  level fact is_ground sigma tau same =
      ap (λ a. atom_cmp a (beginning n atom)) (alike n atom fact objects is_ground sigma tau same)
      ∙ tied_itself atom_cmp-total (beginning n atom)

  -- what begins before the atom is no instance
  pub none-before : (from first : ℕ)
      → IsPartitionPoint (λ a. is_before n atom a ≡ true) (λ a. is_before n atom a ≡ false) facts first → HasNone facts atom from first
  none-before from first below = record {
    apart = λ k fact at after less is_ground sigma tau same.
        let less_here : is_before n atom fact ≡ true =
        ap (is_before n atom) (sym (get_or_from_slice_get facts k fact fact at)) ∙ below.0 k fact (omega arith) less in
        absurd (never_lt (sym (ap is_lt (level fact is_ground sigma tau same)) ∙ less_here));
  }
    where
      never_lt : ¬ (false ≡ true)
      never_lt e = cc

  -- nor is what comes after one that begins after the atom
  pub none-past : IsAtomSet facts → (from : ℕ) (here : Atom) → slice_get facts from ≡ Some here
      → is_gt (atom_cmp (beginning n here) (beginning n atom)) ≡ true → (last : ℕ) → HasNone facts atom from last
  none-past up from here here_at past last = record {
    apart = λ k fact at after less is_ground sigma tau same.
        let level_there : is_not_after n atom (get_or facts k here) ≡ true =
        ap (is_not_after n atom) (get_or_from_slice_get facts k fact here at) ∙ ap is_le (level fact is_ground sigma tau same) in
        let level_here : is_not_after n atom here ≡ true =
        ap (is_not_after n atom) (sym (get_or_from_slice_get facts from here here here_at))
        ∙ parted-not_after facts up n atom from k here after (slice_get_within facts k fact at) level_there in
        absurd (never_gt (sym past ∙ of_le _ level_here));
  }
    where
      never_gt : ¬ (true ≡ false)
      never_gt e = cc

  pub has-its-facts : (first end : ℕ) → end ≤ length facts
      → IsPartitionPoint (λ a. is_before n atom a ≡ true) (λ a. is_before n atom a ≡ false) facts first
      → IsPartitionPoint (λ a. is_not_after n atom a ≡ true) (λ a. is_not_after n atom a ≡ false) facts end
      → HasItsFacts facts atom first end
  has-its-facts first end within below upto_end = record {
    within = within;
    before = λ k fact at less. (none-before 0 first below).apart k fact at (omega arith) less;
    after = λ k fact at past is_ground sigma tau same.
        let more_here : is_not_after n atom fact ≡ false =
        ap (is_not_after n atom) (sym (get_or_from_slice_get facts k fact fact at))
        ∙ upto_end.1 k fact past (slice_get_within facts k fact at) in
        absurd (never_gt (sym (ap is_le (level fact is_ground sigma tau same)) ∙ more_here));
  }
    where
      never_gt : ¬ (true ≡ false)
      never_gt e = cc
