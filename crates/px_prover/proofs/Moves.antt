-- How the state of a question goes on, and how it goes back.
use Rattle.std.proofs.Common.{◌≡◌, ◌↔◌, ℕ, zero, suc, ◌+◌, ◌-◌, ◌<◌, ◌≤◌, Bool, true, false, Option, Some, None, List, [], ◌∷◌, ◌++◌, length, take, map, slice_get, refl, ap, sym, subst, ◌∙◌, arith}
use Rattle.std.specs.Prelude.{reverse}
use Rattle.std.proofs.lemmas.List.{length-map, reverse-append}
use Rattle.std.proofs.lemmas.List.Elements.{All-replicate}
use Rattle.px_prover.specs.Standing.{ticks_in, IsProperQuestion, IsSound, WasSound, IsStanding}
use Rattle.px_prover.specs.Tries.{IsReadyToTry, IsLonger, TriesAmong}
use Rattle.px_prover.proofs.Scopes.{object-there}
use Rattle.px_proof.specs.Literals.{positive_of}
use Rattle.px_base.specs.Answers.{some_same}
use Rattle.px_proof.specs.declared.shape.Tick.{Tick}
use Rattle.px_question.specs.Settings.{Setting}
use Rattle.px_proof_state.specs.Arena.{goals_at, AreOlder}
use Rattle.px_proof_state.specs.Matches.{choice_by}
use Rattle.px_proof_state.specs.Parts.{goals_under}
use Rattle.px_proof_state.specs.States.{ProofStateValue, IsOpening, CanRetract}
use Rattle.px_proof_state.specs.declared.open.Choice.{Choice}
use Rattle.px_proof_state.specs.declared.open.OpenGoal.{OpenGoal}
use Rattle.px_proof_state.proofs.Hanging.{goals_at-index, goals_at-nothing}
use Rattle.px_terms.specs.declared.atom.Atom.{Atom}
use Rattle.px_unify.specs.ChangeLaws.{variables-fresh}
use Rattle.px_unify.specs.declared.change.Change.{Change}
use Rattle.px_unify.specs.declared.change.Change.TheVariants.{Fresh}
use Rattle.px_unify.specs.Changes.{Meets, variables_of}
use Rattle.px_proof_walk.specs.Order.{IsAfter, TriesAfter}
use Rattle.px_proof_walk.specs.Pending.{Goal, Pending, open_after, goals_of, Closing, closing_at, fresh_of}
use Rattle.px_proof_walk.proofs.Lifting.{open_after-step}
use Rattle.px_proof_walk.specs.Possible.{IsPossible, IsFinished, open_count, left_of}
use Rattle.px_proof_walk.specs.Trail.{IsVisit, tick_or_none}
use Rattle.px_proof_walk.proofs.Objects.{feasible-from_bindings}

module _ (loose : Bool) (s : Setting) (formula : List Atom) (variable_count : ℕ) where
  pub sound-now : (choices : List Choice) (changes : List Change) (goals : List OpenGoal) (first : ℕ)
      → WasSound loose s formula variable_count choices changes goals first
      → IsSound loose s formula variable_count (ticks_in choices) (record { changes = changes; goals = goals; first = first; choices = choices })
  sound-now [] changes goals first was = was
  sound-now (c ∷ rest) changes goals first was = was.0

  pub standing-sound : (v : ProofStateValue) → IsStanding loose s formula variable_count v → IsSound loose s formula variable_count (ticks_in v.choices) v
  standing-sound v standing = sound-now v.choices v.changes v.goals v.first standing.was

  pub standing-ready : (v : ProofStateValue) (goal : OpenGoal) → IsStanding loose s formula variable_count v → 0 < v.first
      → slice_get v.goals (v.first - 1) ≡ Some goal → length (ticks_in v.choices) < s.limit
      → IsReadyToTry loose s formula variable_count (ticks_in v.choices) v goal
  standing-ready v goal standing some at room =
      record {
        asked = standing.asked;
        sound = standing-sound v standing;
        some = some;
        at = at;
        room = omega (arith, room, standing.asked.few_ticks);
      }

  -- a sound state shows its ticks possible
  pub sound-possible : (ticks : List Tick) (v : ProofStateValue) → IsProperQuestion s formula variable_count → IsSound loose s formula variable_count ticks v
      → IsPossible loose s formula variable_count ticks
  sound-possible ticks v asked sound =
      let p : Pending = record { variables = variables_of v.changes; goals = goals_at v.goals v.first } in (
        sound.closing,
        feasible-from_bindings loose s formula variable_count ticks p v.changes asked.setting asked.scope sound.facts_in sound.stands.pending refl
            sound.stands.matched sound.solvable
            (object-there loose s asked.setting ticks variable_count (goals_of s formula) p sound.stands.pending asked.some_object),
      )

  ticks-longer : (ticks : List Tick) (old new : ProofStateValue) (tick : Tick) → IsLonger loose s formula variable_count ticks old tick new
      → ticks_in new.choices ≡ ticks_in old.choices ++ tick ∷ []
  ticks-longer ticks old new tick longer = ap ticks_in longer.chosen

  was-longer : (choices : List Choice) (old new : ProofStateValue) (c : Choice) → choices ≡ c ∷ old.choices → c.mark ≤ length new.changes
      → c.goals ≤ length new.goals
      → take c.mark new.changes ≡ old.changes → take c.goals new.goals ≡ old.goals → c.first ≡ old.first
      → IsSound loose s formula variable_count (ticks_in choices)
      (record { changes = new.changes; goals = new.goals; first = new.first; choices = choices })
      → WasSound loose s formula variable_count old.choices old.changes old.goals old.first
      → WasSound loose s formula variable_count choices new.changes new.goals new.first
  was-longer choices old new c is mark goals changes_are goals_are first_is sound was =
      rw is (rw is at sound, mark, goals, rw (changes_are, goals_are, first_is) was)

  -- after one more tick it is still one of the question
  pub standing-longer : (old new : ProofStateValue) (tick : Tick) → IsStanding loose s formula variable_count old
      → IsLonger loose s formula variable_count (ticks_in old.choices) old tick new → IsStanding loose s formula variable_count new
  standing-longer old new tick standing longer = record {
    asked = standing.asked;
    was = was-longer new.choices old new (choice_by tick old) longer.chosen longer.more_changes longer.more_goals longer.changes
        longer.goals refl
        (subst (λ (ts : List Tick). IsSound loose s formula variable_count ts new)
        (sym (ticks-longer (ticks_in old.choices) old new tick longer)) longer.sound) standing.was;
  }

  -- what an attempt says of the lists
  pub later-tried : (last : Option Tick) (old new : ProofStateValue) (found : Bool) → IsStanding loose s formula variable_count old
      → TriesAmong (IsAfter last) loose s formula variable_count (ticks_in old.choices) old new found
      → TriesAfter (IsPossible loose s formula variable_count) (ticks_in old.choices) (ticks_in new.choices) last found
  later-tried last old new found standing tried = record {
    least = λ is_found.
        let h = tried.least is_found in
        let is = ticks-longer (ticks_in old.choices) old new h.0 h.2 in
        (h.0, is, h.1, rw is (sound-possible (ticks_in old.choices ++ h.0 ∷ []) new standing.asked h.2.sound), h.3);
    no_more = λ is_not. let h = tried.no_more is_not in (ap (λ (v : ProofStateValue). ticks_in v.choices) h.0, h.1);
  }

  pub later-standing : (last : Option Tick) (old new : ProofStateValue) (found : Bool) → IsStanding loose s formula variable_count old
      → TriesAmong (IsAfter last) loose s formula variable_count (ticks_in old.choices) old new found → IsStanding loose s formula variable_count new
  later-standing last old new true standing tried = let h = tried.least refl in standing-longer old new h.0 standing h.2
  later-standing last old new false standing tried =
      subst (λ (v : ProofStateValue). IsStanding loose s formula variable_count v) (sym (tried.no_more refl).0) standing

  -- ---- what is open

  pub count-open : (v : ProofStateValue) → IsStanding loose s formula variable_count v
      → open_count loose s formula variable_count (ticks_in v.choices) ≡ length (goals_at v.goals v.first)
  count-open v standing = ap left_of (standing-sound v standing).stands.pending

  pub none-long : (ticks : List Tick) (u : Tick) (n : ℕ) (goals : List Goal) (p q : Pending) → open_after loose s n goals ticks ≡ Some p
      → p.goals ≡ [] → ¬ (open_after loose s n goals (ticks ++ u ∷ []) ≡ Some q)
  none-long [] u n [] p q now empty later = cc
  none-long [] u n (g ∷ goals) p q now empty later =
      let same : (g ∷ goals) ≡ p.goals = ap (λ (r : Pending). r.goals) (some_same now) in cc
  none-long (t ∷ ticks) u n [] p q now empty later = cc
  none-long (t ∷ ticks) u n (g ∷ goals) p q now empty later =
      go (closing_at loose s n g t) refl (λ closing. none-long ticks u (n + fresh_of s t) (closing.parts ++ goals) p q)
    where
      go : (o : Option Closing) → closing_at loose s n g t ≡ o
          → ¬ ((closing : Closing) → open_after loose s (n + fresh_of s t) (closing.parts ++ goals) ticks ≡ Some p → p.goals ≡ []
          → ¬ (open_after loose s (n + fresh_of s t) (closing.parts ++ goals) (ticks ++ u ∷ []) ≡ Some q))
      go None is next = let none = rw is at now in cc
      go (Some closing) is next =
          next closing (sym (open_after-step loose s n g goals t ticks closing is) ∙ now) empty
          (sym (open_after-step loose s n g goals t (ticks ++ u ∷ []) closing is) ∙ later)

  -- where nothing is open nothing comes
  pub finished-tried : (v : ProofStateValue) (last : Option Tick) → IsStanding loose s formula variable_count v → v.first ≡ 0
      → TriesAfter (IsPossible loose s formula variable_count) (ticks_in v.choices) (ticks_in v.choices) last false
  finished-tried v last standing none = record {
    least = λ is_found. absurd (cc);
    no_more = λ is_not. (
      refl,
      λ u after leads.
          none-long (ticks_in v.choices) u variable_count (goals_of s formula)
          (record { variables = variables_of v.changes; goals = goals_at v.goals v.first }) leads.1.0
          (standing-sound v standing).stands.pending
          (ap (goals_at v.goals) none ∙ goals_at-nothing v.goals) leads.1.1,
    );
  }

  goals-there : (v : ProofStateValue) → AreOlder v.goals → 0 < v.first → v.first ≤ length v.goals → 0 < length (goals_at v.goals v.first)
  goals-there v older some within = go (read v.goals (v.first - 1) (omega (arith, some, within)))
    where
      read : {X : Type 0} (xs : List X) (k : ℕ) → k < length xs → (x : X) × (slice_get xs k ≡ Some x)
      read [] k less = absurd (omega (arith, less))
      read (x ∷ xs) zero less = (x, refl)
      read (x ∷ xs) (suc k) less = read xs k (omega (arith, less))

      go : (g : OpenGoal) × (slice_get v.goals (v.first - 1) ≡ Some g) → 0 < length (goals_at v.goals v.first)
      go (g, at) =
          let place : v.first ≡ suc (v.first - 1) = omega (arith, some) in
          let both = older (v.first - 1) g at in
          rw (ap (goals_at v.goals) place ∙ goals_at-index v.goals (v.first - 1) g at both.1 both.0) (omega arith)

  pub finished-is : (v : ProofStateValue) → IsStanding loose s formula variable_count v → (v.first ≡ 0)
      ↔ IsFinished loose s formula variable_count (ticks_in v.choices)
  finished-is v standing = (
    λ none. count-open v standing ∙ ap length (ap (goals_at v.goals) none ∙ goals_at-nothing v.goals),
    λ finished. by_first v.first refl finished,
  )
    where
      by_first : (n : ℕ) → v.first ≡ n → IsFinished loose s formula variable_count (ticks_in v.choices) → v.first ≡ 0
      by_first zero is finished = is
      by_first (suc n) is finished =
          let sound = standing-sound v standing in
          let zero_open : open_count loose s formula variable_count (ticks_in v.choices) ≡ 0 = finished in
          absurd (omega (arith, goals-there v sound.arena (omega (arith, is)) sound.within, count-open v standing, zero_open))

  -- ---- going back

  can : (choices : List Choice) (v : ProofStateValue) → v.choices ≡ choices
      → WasSound loose s formula variable_count choices v.changes v.goals v.first → CanRetract v
  can [] v is was = rw is tt
  can (c ∷ rest) v is was = rw is (was.1, was.2)

  -- ---- the start

  formula-goals : (atoms : List Atom) → goals_under [] s.height (map positive_of atoms) ≡ goals_of s atoms
  formula-goals [] = refl
  formula-goals (a ∷ atoms) = ap (λ gs. record { lit = positive_of a; path = []; budget = s.height } ∷ gs) (formula-goals atoms)

  pub opening-sound : (v : ProofStateValue) → IsOpening formula variable_count s.height v → IsSound loose s formula variable_count [] v
  opening-sound v opening =
      let variables : variables_of v.changes ≡ variable_count = ap variables_of opening.variables ∙ variables-fresh [] variable_count ∙ omega arith in
      record {
        stands = record {
          pending = λ i. Some (record { variables = sym variables i; goals = sym (opening.opened ∙ formula-goals formula) i });
          matched = λ tau. (λ fits. tt, λ solves. rw opening.variables (All-replicate (Meets tau) variable_count Fresh tt));
        };
        facts_in = tt;
        closing = tt;
        arena = opening.arena;
        within = opening.within;
        solvable = opening.solvable;
        few = omega (arith, variables);
      }

  pub opening-standing : (v : ProofStateValue) → IsProperQuestion s formula variable_count → IsOpening formula variable_count s.height v
      → IsStanding loose s formula variable_count v
  opening-standing v asked opening = record { asked = asked; was = go v.choices opening.choices }
    where
      sound : IsSound loose s formula variable_count [] v
      sound = opening-sound v opening

      go : (choices : List Choice) → choices ≡ [] → WasSound loose s formula variable_count choices v.changes v.goals v.first
      go [] is =
          let same : v.choices ≡ [] = opening.choices in
          record {
            stands = record { pending = sound.stands.pending; matched = sound.stands.matched };
            facts_in = sound.facts_in;
            closing = sound.closing;
            arena = sound.arena;
            within = sound.within;
            solvable = sound.solvable;
            few = sound.few;
          }
      go (c ∷ rest) is = absurd (cc)

-- the ticks of the choices from the first on
ticks-push : (choices : List Choice) (c : Choice) → ticks_in (choices ++ c ∷ []) ≡ c.tick ∷ ticks_in choices
ticks-push [] c = refl
ticks-push (d ∷ choices) c = ap (λ ts. ts ++ d.tick ∷ []) (ticks-push choices c)

pub ticks-map : (choices : List Choice) → ticks_in (reverse choices) ≡ map (λ (c : Choice). c.tick) choices
ticks-map [] = refl
ticks-map (c ∷ choices) =
    ap ticks_in (reverse-append (c ∷ []) choices) ∙ ticks-push (reverse choices) c ∙ ap (λ ts. c.tick ∷ ts) (ticks-map choices)

-- one place after another
pub open-next : (arena : List OpenGoal) (at : ℕ) (g : OpenGoal) → AreOlder arena → 0 < at → slice_get arena (at - 1) ≡ Some g
    → (length (goals_at arena at) ≡ suc (length (goals_at arena g.next))) × (g.next ≤ at - 1)
open-next arena at g older some is =
    let place : at ≡ suc (at - 1) = omega (arith, some) in
    let both = older (at - 1) g is in
    (ap length (ap (goals_at arena) place ∙ goals_at-index arena (at - 1) g is both.1 both.0), both.1)

pub open-none : (arena : List OpenGoal) (at : ℕ) → at ≡ 0 → length (goals_at arena at) ≡ 0
open-none arena at none = ap length (ap (goals_at arena) none ∙ goals_at-nothing arena)

-- the visit is that of the ticks of the choices
pub visit-made : (loose : Bool) (s : Setting) (formula : List Atom) (variable_count : ℕ) (v : ProofStateValue) → IsStanding loose s formula variable_count v
    → (choices : List Choice) → reverse choices ≡ v.choices → (kept : ℕ) (last : Option Tick) (places : ℕ) → kept ≡ length choices - 1
    → map (λ (c : Choice). c.tick) choices ≡ take (length choices - 1) (map (λ (c : Choice). c.tick) choices) ++ tick_or_none last
    → places ≡ length (goals_at v.goals v.first)
    → IsVisit (ticks_in v.choices) (open_count loose s formula variable_count (ticks_in v.choices))
    (record { kept = kept; last = last; places = places })
visit-made loose s formula variable_count v standing choices are kept last places kept_is ends places_are =
    let ticks_are : map (λ (c : Choice). c.tick) choices ≡ ticks_in v.choices = sym (ticks-map choices) ∙ ap ticks_in are in
    let count : length choices ≡ length (ticks_in v.choices) =
    sym (length-map choices (λ (c : Choice). c.tick)) ∙ ap length ticks_are in
    record {
      kept = kept_is ∙ ap (λ n. n - 1) count;
      ends =
          subst (λ (ts : List Tick). ts ≡ take kept ts ++ tick_or_none last) ticks_are
          (ends ∙ ap (λ n. take n (map (λ (c : Choice). c.tick) choices) ++ tick_or_none last) (sym kept_is));
      left = places_are ∙ sym (count-open loose s formula variable_count v standing);
    }
