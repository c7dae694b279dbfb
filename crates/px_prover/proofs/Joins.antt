-- Attempts of one kind after another, for a question.
use Rattle.std.proofs.Common.{◌≡◌, ℕ, Bool, true, false, ◌&&◌, ◌||◌, List, [], ◌∷◌, length, map, refl, ap, sym, subst, ◌∙◌, arith}
use Rattle.std.specs.Prelude.{◌↔◌, ◌≤◌, Any, IsTrue, nat_eq, flat_map}
use Rattle.std.specs.List.{list_any}
use Rattle.std.proofs.lemmas.Bool.{eqb-true, eq-eqb}
use Rattle.std.proofs.lemmas.List.Folds.{Any-from_list_any, list_any-append, list_any-from_Any}
use Rattle.px_prover.specs.Asking.{setting_in}
use Rattle.px_prover.specs.Standing.{ticks_in}
use Rattle.px_prover.specs.Tries.{IsReadyIn, TriesSince}
use Rattle.px_prover.specs.declared.question.ProofQuestion.{ProofQuestion}
use Rattle.px_prover.proofs.Since.{fact-join, ancestor-join, axiom-join, gap-none, gap-closed}
use Rattle.px_proof.specs.declared.shape.Tick.{Tick}
use Rattle.px_proof.specs.declared.shape.Tick.TheVariants.{Fact, Anc, Step, Gap}
use Rattle.px_question.specs.Settings.{added_by}
use Rattle.px_proof_state.specs.Ancestors.{NeverAncestor, ComesAncestor}
use Rattle.px_proof_state.specs.Arena.{path_at}
use Rattle.px_proof_state.specs.Axioms.{NeverAxiom, ComesAxiom}
use Rattle.px_proof_state.specs.Matches.{ClosesBy}
use Rattle.px_proof_state.specs.Ranges.{TriesRange, NeverFact, ComesFact}
use Rattle.px_proof_state.specs.States.{ProofStateValue}
use Rattle.px_proof_state.specs.declared.open.OpenGoal.{OpenGoal}
use Rattle.px_terms.specs.declared.atom.Atom.{Atom}
use Rattle.px_terms.specs.declared.clause.Lit.{Lit}
use Rattle.px_terms.specs.declared.problem.Schema.{Schema}

-- from a number on that is past the last ancestor, none closes the goal
pub past-ancestors : (path : List Lit) (old : ProofStateValue) (goal : OpenGoal) (from : ℕ) → length path ≤ from
    → TriesRange (NeverAncestor path old goal) (ComesAncestor path old goal) from (length path) old old false
past-ancestors path old goal from past = record {
  least = λ is. absurd (cc);
  no_more = λ _. (refl, λ j low high. absurd (omega (arith, past, low, high)));
}

module _ (q : ProofQuestion) (old mid : ProofStateValue) (goal : OpenGoal) where
  -- a state that is the same is ready too
  pub ready-same : mid ≡ old → IsReadyIn q old goal → IsReadyIn q mid goal
  ready-same same ready = subst (λ (v : ProofStateValue). IsReadyIn q v goal) (sym same) ready

  tried-same : (start : Tick) (new : ProofStateValue) (found : Bool) → mid ≡ old → TriesSince q start mid new found
      → TriesSince q start old new found
  tried-same start new found same tried = subst (λ (v : ProofStateValue). TriesSince q start v new found) same tried

  module _ (ready : IsReadyIn q old goal) (new : ProofStateValue) (found : Bool) where
    pub join-fact : (from : ℕ) → TriesRange (NeverFact (setting_in q).objects (setting_in q).facts old goal)
        (ComesFact (setting_in q).objects (setting_in q).facts old goal) from (length (setting_in q).facts) old mid false
        → TriesSince q (Anc 0) mid new found → TriesSince q (Fact from) old new found
    join-fact from range later =
        fact-join q.loose (setting_in q) q.formula.now q.variable_count (ticks_in old.choices) old goal ready from mid range new found
        (tried-same (Anc 0) new found (range.no_more refl).0 later)

    pub join-ancestor : (from : ℕ)
        → TriesRange (NeverAncestor (path_at old.goals goal.above) old goal) (ComesAncestor (path_at old.goals goal.above) old goal) from
        (length (path_at old.goals goal.above)) old mid false
        → TriesSince q (Step 0 0) mid new found → TriesSince q (Anc from) old new found
    join-ancestor from range later =
        ancestor-join q.loose (setting_in q) q.formula.now q.variable_count (ticks_in old.choices) old goal ready from mid range new found
        (tried-same (Step 0 0) new found (range.no_more refl).0 later)

    pub join-axiom : (from place : ℕ)
        → TriesRange (NeverAxiom (setting_in q).axioms old goal from place) (ComesAxiom (setting_in q).axioms old goal from place) from
        (length (setting_in q).axioms) old mid false
        → TriesSince q Gap mid new found → TriesSince q (Step from place) old new found
    join-axiom from place range later =
        axiom-join q.loose (setting_in q) q.formula.now q.variable_count (ticks_in old.choices) old goal ready from place mid range new found
        (tried-same Gap new found (range.no_more refl).0 later)

-- the test of the predicates that operators add
any-map : (p : ℕ → Bool) (atoms : List Atom) → list_any p (map (λ (a : Atom). a.pred) atoms) ≡ list_any (λ (a : Atom). p a.pred) atoms
any-map p [] = refl
any-map p (a ∷ atoms) = ap (λ b. p a.pred || b) (any-map p atoms)

pub any-added : (p : ℕ → Bool) (schemas : List Schema)
    → list_any p (flat_map added_by schemas) ≡ list_any (λ (schema : Schema). list_any (λ (a : Atom). p a.pred) schema.add) schemas
any-added p [] = refl
any-added p (schema ∷ schemas) =
    list_any-append p (added_by schema) (flat_map added_by schemas)
    ∙ ap (λ b. b || list_any p (flat_map added_by schemas)) (any-map p schema.add)
    ∙ ap (λ b. list_any (λ (a : Atom). p a.pred) schema.add || b) (any-added p schemas)

any-test : {X : Type 0} (p : X → Bool) (P : X → Type 0) → ((x : X) → IsTrue (p x) ↔ P x) → (xs : List X) → IsTrue (list_any p xs) ↔ Any P xs
any-test p P each xs = (
  λ yes'. let one = Any-from_list_any p xs yes' in (one.0, one.1, one.2, one.3, (each one.1).0 one.4),
  λ one. list_any-from_Any p xs (one.0, one.1, one.2, one.3, (each one.1).1 one.4),
)

-- two tests of one fact answer alike
tests-alike : {P : Type 0} (a b : Bool) → IsTrue a ↔ P → IsTrue b ↔ P → a ≡ b
tests-alike true b test other = sym (other.1 (test.0 refl))
tests-alike false true test other = test.1 (other.0 refl)
tests-alike false false test other = refl

pub any-as : (p q : ℕ) (schemas : List Schema) (b c : Bool) → p ≡ q
    → IsTrue b ↔ Any (λ (schema : Schema). Any (λ (a : Atom). a.pred ≡ p) schema.add) schemas → b ≡ c
    → list_any (nat_eq q) (flat_map added_by schemas) ≡ c
any-as p q schemas b c same is answer =
    ap (λ n. list_any (nat_eq n) (flat_map added_by schemas)) (sym same) ∙ any-added (nat_eq p) schemas
    ∙ tests-alike (list_any (λ (schema : Schema). list_any (λ (a : Atom). nat_eq p a.pred) schema.add) schemas) b
    (any-test (λ (schema : Schema). list_any (λ (a : Atom). nat_eq p a.pred) schema.add)
    (λ (schema : Schema). Any (λ (a : Atom). a.pred ≡ p) schema.add)
    (λ schema. any-test (λ (a : Atom). nat_eq p a.pred) (λ (a : Atom). a.pred ≡ p)
    (λ a. (λ yes'. sym (eqb-true p a.pred yes'), λ here. eq-eqb p a.pred (sym here))) schema.add) schemas)
    is ∙ answer

-- where gaps are not allowed, the literal is denied, or no operator adds its predicate
first-off : (a b c : Bool) → a ≡ false → (a && b && c) ≡ false
first-off a b c e = rw e refl

second-off : (a b c : Bool) → b ≡ false → (a && b && c) ≡ false
second-off true b c e = rw e refl
second-off false b c e = refl

third-off : (a b c : Bool) → c ≡ false → (a && b && c) ≡ false
third-off true true c e = e
third-off true false c e = refl
third-off false b c e = refl

all-on : (a b c : Bool) → a ≡ true → b ≡ true → c ≡ true → (a && b && c) ≡ true
all-on a b c e f g = rw (e, f, g) refl

module _ (q : ProofQuestion) (old : ProofStateValue) (goal : OpenGoal) (ready : IsReadyIn q old goal) where
  pub gap-not_loose : q.loose ≡ false → TriesSince q Gap old old false
  gap-not_loose e =
      gap-none q.loose (setting_in q) q.formula.now q.variable_count (ticks_in old.choices) old goal ready
      (first-off q.loose goal.lit.positive (list_any (nat_eq goal.lit.atom.pred) (setting_in q).added) e)

  pub gap-denied : goal.lit.positive ≡ false → TriesSince q Gap old old false
  gap-denied e =
      gap-none q.loose (setting_in q) q.formula.now q.variable_count (ticks_in old.choices) old goal ready
      (second-off q.loose goal.lit.positive (list_any (nat_eq goal.lit.atom.pred) (setting_in q).added) e)

  pub gap-not_added : list_any (nat_eq goal.lit.atom.pred) (setting_in q).added ≡ false → TriesSince q Gap old old false
  gap-not_added e =
      gap-none q.loose (setting_in q) q.formula.now q.variable_count (ticks_in old.choices) old goal ready
      (third-off q.loose goal.lit.positive (list_any (nat_eq goal.lit.atom.pred) (setting_in q).added) e)

  pub gap-tried : q.loose ≡ true → goal.lit.positive ≡ true → list_any (nat_eq goal.lit.atom.pred) (setting_in q).added ≡ true
      → (new : ProofStateValue) (found : Bool) → ClosesBy old new Gap goal.lit goal.lit goal.next found → TriesSince q Gap old new found
  gap-tried e f g new found closes =
      gap-closed q.loose (setting_in q) q.formula.now q.variable_count (ticks_in old.choices) old goal ready
      (all-on q.loose goal.lit.positive (list_any (nat_eq goal.lit.atom.pred) (setting_in q).added) e f g) new found closes
