-- What is to be shown of an operator so that the facts afterwards are its result, object by object.
use Rattle.std.specs.Prelude.{◌≡◌, ◌≢◌, ◌↔◌, ◌⊎◌, ◌==◌, ◌&&◌, ℕ, Bool, true, false, Some, List, [], ◌∷◌, Contains, slice_get}
use Rattle.std.proofs.Common.{zero, suc, refl, inl, inr, arith}
use Rattle.std.specs.List.{AllByRecursion, list_any}
use Rattle.std.proofs.lemmas.Bool.{eqb-true}
use Rattle.std.proofs.lemmas.Bool.Decides.{nat_tests}
use Rattle.px_base.specs.Answers.{both_answers}
use Rattle.px_base.specs.ListLaws.{Contains-first, Contains-later, AllByRecursion-at}
use Rattle.px_base.specs.SetLaws.{set_of-is_sorted, same_set}
use Rattle.px_terms.specs.declared.atom.Atom.{Atom}
use Rattle.px_terms.specs.declared.instance.OpInst.{OpInst}
use Rattle.px_terms.specs.declared.problem.Schema.{Schema}
use Rattle.px_terms.specs.declared.term.Term.{Term}
use Rattle.px_terms.specs.Instances.{is_instance}
use Rattle.px_terms.specs.Operators.{atoms_of, is_deleted, result_by}
use Rattle.px_terms.specs.OperatorLaws.{result_by-members}
use Rattle.px_terms.specs.Order.{atom_cmp}
use Rattle.px_terms.specs.OrderLaws.{atom_cmp-total, atom_cmp-same}
use Rattle.px_terms.specs.Substitution.{substitute_atom}
use Rattle.px_rooms.specs.Looking.{atoms_about}
use Rattle.px_rooms.specs.States.{RoomState, rendering}
use Rattle.px_rooms.proofs.About.{IsAbout, about-rendering, rendering-about}

-- ---- numbers

pub other-number : (m n : ℕ) → m ≢ n → (m == n) ≡ false
other-number m n differ =
    elim (m == n) as (λ b. (m == n) ≡ b → b ≡ false) [ true ↦ λ is. absurd (differ (eqb-true m n is)) | false ↦ λ _. refl ] refl

pub same-number : (n : ℕ) → (n == n) ≡ true
same-number n = grind (arith, nat_tests)

-- ---- lists

pub all_of : {X : Type 0} (P : X → Type 0) (xs : List X) → ((x : X) → Contains xs x → P x) → AllByRecursion P xs
all_of P [] each = tt
all_of P (x ∷ xs) each = (each x (Contains-first x xs), all_of P xs (λ q has. each q (Contains-later x xs q has)))

pub has_at : {X : Type 0} (xs : List X) (k : ℕ) (x : X) → slice_get xs k ≡ Some x → Contains xs x
has_at [] k x is = absurd (cc)
has_at (y ∷ xs) zero x is = (0, omega arith, cc)
has_at (y ∷ xs) (suc k) x is = let found = has_at xs k x is in (suc found.0, omega (arith, found.1), found.2)

-- ---- what is deleted

-- an atom about another object than the pattern isn't deleted by it
pattern-other : (atom pattern : Atom) (k m : ℕ) → IsAbout k atom → IsAbout m pattern → m ≢ k → is_instance atom pattern ≡ false
pattern-other atom pattern k m (terms, is) (others, is_p) differ =
    rw (is, is_p) (rw (other-number m k differ) (and-false (atom.pred == pattern.pred))) where
      and-false : (b : Bool) → (b && false) ≡ false
      and-false true = refl
      and-false false = refl

-- each delete pattern is about another object
abbrev pub IsSpared : Schema → OpInst → ℕ → Type 0
IsSpared schema inst k = AllByRecursion (λ pattern. (m : ℕ) × IsAbout m (substitute_atom inst.args pattern) × (m ≢ k)) schema.del

spared-by : (args : List Term) (patterns : List Atom) (k : ℕ) (atom : Atom)
    → AllByRecursion (λ pattern. (m : ℕ) × IsAbout m (substitute_atom args pattern) × (m ≢ k)) patterns → IsAbout k atom
    → list_any (λ pattern. is_instance atom (substitute_atom args pattern)) patterns ≡ false
spared-by args [] k atom all is = refl
spared-by args (p ∷ ps) k atom ((m, of_p, differ), all) is =
    rw (pattern-other atom (substitute_atom args p) k m is of_p differ) (spared-by args ps k atom all is)

pub spared : (schema : Schema) (inst : OpInst) (k : ℕ) (atom : Atom) → IsSpared schema inst k → IsAbout k atom
    → is_deleted schema inst atom ≡ false
spared schema inst k atom all is = spared-by inst.args schema.del k atom all is

-- ---- the change of the facts about one object

-- each fact afterwards was there and isn't deleted, or is added; each fact before is deleted, or is still there
pub record Changes (schema : Schema) (inst : OpInst) (before after : List Atom) : Type 0 where
  pub comes : AllByRecursion (λ a. (Contains before a × (is_deleted schema inst a ≡ false)) ⊎ Contains (atoms_of schema.add inst) a) after
  pub goes : AllByRecursion (λ a. (is_deleted schema inst a ≡ true) ⊎ Contains after a) before

-- nothing is changed where nothing is deleted
pub same-facts : (schema : Schema) (inst : OpInst) (k : ℕ) (facts : List Atom) → IsSpared schema inst k → AllByRecursion (IsAbout k) facts
    → Changes schema inst facts facts
same-facts schema inst k facts spare are = record {
  comes = all_of _ facts (λ a has. inl (has, spared schema inst k a spare (AllByRecursion-at (IsAbout k) facts a are has)));
  goes = all_of _ facts (λ a has. inr has);
}

-- the facts afterwards are the result where that is so of the facts about each object
pub result-by-changes : (schema : Schema) (inst : OpInst) (old new : RoomState)
    → ((k : ℕ) → Changes schema inst (atoms_about old k) (atoms_about new k))
    → AllByRecursion (λ a. (k : ℕ) × Contains (atoms_about new k) a) (atoms_of schema.add inst)
    → rendering new ≡ result_by schema (rendering old) inst
result-by-changes schema inst old new changes added =
    same_set atom_cmp atom_cmp-total atom_cmp-same (rendering new) (result_by schema (rendering old) inst)
    (set_of-is_sorted atom_cmp atom_cmp-total atom_cmp-same _) (set_of-is_sorted atom_cmp atom_cmp-total atom_cmp-same _)
    (λ a. (to a, back a)) where
      members : (a : Atom) → Contains (result_by schema (rendering old) inst) a
          ↔ ((Contains (rendering old) a × (is_deleted schema inst a ≡ false)) ⊎ Contains (atoms_of schema.add inst) a)
      members a = result_by-members schema (rendering old) inst a

      to : (a : Atom) → Contains (rendering new) a → Contains (result_by schema (rendering old) inst) a
      to a has =
          let found = rendering-about new a has in
          elim (AllByRecursion-at _ (atoms_about new found.0) a (changes found.0).comes found.1) [
            | inl was ↦ (members a).1 (inl (about-rendering old found.0 a was.0, was.1))
            | inr is_added ↦ (members a).1 (inr is_added)
          ]

      back : (a : Atom) → Contains (result_by schema (rendering old) inst) a → Contains (rendering new) a
      back a has = elim ((members a).0 has) [
        | inl was ↦
            let found = rendering-about old a was.0 in
            elim (AllByRecursion-at _ (atoms_about old found.0) a (changes found.0).goes found.1) [
              | inl gone ↦ both_answers (is_deleted schema inst a) was.1 gone
              | inr stays ↦ about-rendering new found.0 a stays
            ]
        | inr is_added ↦ let found =
            AllByRecursion-at _ (atoms_of schema.add inst) a added is_added in about-rendering new found.0 a found.1
      ]
