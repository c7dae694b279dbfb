-- Attempts at facts, ancestors, axioms and a gap in their order.
use Rattle.std.proofs.Common.{◌≡◌, ◌⊎◌, ℕ, zero, suc, ◌<◌, ◌≤◌, Bool, true, false, ◌&&◌, Some, List, [], ◌∷◌, ◌++◌, length, slice_get, refl, ap, sym, ◌∙◌, arith, inl, inr}
use Rattle.std.specs.Prelude.{nat_eq}
use Rattle.std.specs.List.{list_any}
use Rattle.std.proofs.lemmas.Bool.{cases_lt}
use Rattle.px_terms.specs.Limits.{most_formula_variables}
use Rattle.px_prover.specs.Tries.{IsLonger, IsReadyToTry, IsSince, TriesAmong}
use Rattle.px_prover.proofs.Attempted.{fact-stands, fact-nowhere, ancestor-stands, ancestor-nowhere}
use Rattle.px_prover.proofs.AttemptedSteps.{axiom-first, axiom-nowhere}
use Rattle.px_prover.proofs.Growing.{fact-in, longer-closed, longer-stepped}
use Rattle.px_prover.proofs.Ready.{goal_in, ready-open, ready-path, ready-in}
use Rattle.px_proof.specs.Literals.{positive_of, complement_of}
use Rattle.px_proof.specs.PlaceLaws.{All-got, slice_get-within}
use Rattle.px_proof.specs.Shapes.{TickBefore, tick_kind}
use Rattle.px_proof.specs.declared.shape.Tick.{Tick}
use Rattle.px_proof.specs.declared.shape.Tick.TheVariants.{Fact, Anc, Step, Gap, Open}
use Rattle.px_question.specs.Settings.{Setting}
use Rattle.px_proof_state.specs.Ancestors.{NeverAncestor, ComesAncestor}
use Rattle.px_proof_state.specs.Arena.{goals_at, path_at}
use Rattle.px_proof_state.specs.Axioms.{IsFrom, NeverAxiom, ComesAxiom}
use Rattle.px_proof_state.specs.Ranges.{TriesRange, NeverFact, ComesFact}
use Rattle.px_proof_state.specs.States.{ProofStateValue}
use Rattle.px_proof_state.specs.declared.open.OpenGoal.{OpenGoal}
use Rattle.px_terms.specs.declared.atom.Atom.{Atom}
use Rattle.px_terms.specs.declared.clause.Clause.{Clause}
use Rattle.px_proof_state.specs.Matches.{ClosesBy}
use Rattle.px_prover.proofs.StepTurns.{none-at}
use Rattle.px_prover.proofs.Turns.{stands-closed, none-closed}
use Rattle.px_unify.specs.Changes.{variables_of}
use Rattle.px_proof_walk.specs.Pending.{IsFeasible, closing_at}
use Rattle.px_proof_walk.specs.Possible.{IsPossible}

-- ---- which ticks are left

since-fact : (from : ℕ) (u : Tick) → IsSince (Fact from) u → ((j : ℕ) × (u ≡ Fact j) × (from ≤ j)) ⊎ IsSince (Anc 0) u
since-fact from Open (inl e) = absurd (cc)
since-fact from Open (inr (inl h)) = absurd (omega (arith, h))
since-fact from Open (inr (inr (inl h))) = absurd (omega (arith, h.0))
since-fact from Open (inr (inr (inr h))) = absurd (omega (arith, h.0))
since-fact from (Fact j) (inl e) = let same : from ≡ j = cc in inl (j, refl, omega (arith, same))
since-fact from (Fact j) (inr (inl h)) = absurd (omega (arith, h))
since-fact from (Fact j) (inr (inr (inl h))) = inl (j, refl, omega (arith, h.1))
since-fact from (Fact j) (inr (inr (inr h))) = absurd (omega (arith, h.2))
since-fact from (Anc zero) since = inr (inl refl)
since-fact from (Anc (suc j)) since = inr (inr (inr (inl (refl, omega arith))))
since-fact from (Step c p) since = inr (inr (inl (omega arith)))
since-fact from Gap since = inr (inr (inl (omega arith)))

since-ancestor : (from : ℕ) (u : Tick) → IsSince (Anc from) u → ((j : ℕ) × (u ≡ Anc j) × (from ≤ j)) ⊎ IsSince (Step 0 0) u
since-ancestor from Open (inl e) = absurd (cc)
since-ancestor from Open (inr (inl h)) = absurd (omega (arith, h))
since-ancestor from Open (inr (inr (inl h))) = absurd (omega (arith, h.0))
since-ancestor from Open (inr (inr (inr h))) = absurd (omega (arith, h.0))
since-ancestor from (Fact j) (inl e) = absurd (cc)
since-ancestor from (Fact j) (inr (inl h)) = absurd (omega (arith, h))
since-ancestor from (Fact j) (inr (inr (inl h))) = absurd (omega (arith, h.0))
since-ancestor from (Fact j) (inr (inr (inr h))) = absurd (omega (arith, h.0))
since-ancestor from (Anc j) (inl e) = let same : from ≡ j = cc in inl (j, refl, omega (arith, same))
since-ancestor from (Anc j) (inr (inl h)) = absurd (omega (arith, h))
since-ancestor from (Anc j) (inr (inr (inl h))) = inl (j, refl, omega (arith, h.1))
since-ancestor from (Anc j) (inr (inr (inr h))) = absurd (omega (arith, h.2))
since-ancestor from (Step zero zero) since = inr (inl refl)
since-ancestor from (Step zero (suc p)) since = inr (inr (inr (inr (refl, refl, omega arith))))
since-ancestor from (Step (suc c) p) since = inr (inr (inr (inl (refl, omega arith))))
since-ancestor from Gap since = inr (inr (inl (omega arith)))

-- the place is not before the first one of the axiom
abbrev pub StandsAt : ℕ → ℕ → ℕ → ℕ → Type 0
StandsAt from place c p = ((c ≡ from) × (place ≤ p)) ⊎ (from < c)

since-step : (from place : ℕ) (u : Tick) → IsSince (Step from place) u
    → ((c : ℕ) × (p : ℕ) × (u ≡ Step c p) × StandsAt from place c p) ⊎ IsSince Gap u
since-step from place Open (inl e) = absurd (cc)
since-step from place Open (inr (inl h)) = absurd (omega (arith, h))
since-step from place Open (inr (inr (inl h))) = absurd (omega (arith, h.0))
since-step from place Open (inr (inr (inr h))) = absurd (omega (arith, h.0))
since-step from place (Fact j) (inl e) = absurd (cc)
since-step from place (Fact j) (inr (inl h)) = absurd (omega (arith, h))
since-step from place (Fact j) (inr (inr (inl h))) = absurd (omega (arith, h.0))
since-step from place (Fact j) (inr (inr (inr h))) = absurd (omega (arith, h.0))
since-step from place (Anc j) (inl e) = absurd (cc)
since-step from place (Anc j) (inr (inl h)) = absurd (omega (arith, h))
since-step from place (Anc j) (inr (inr (inl h))) = absurd (omega (arith, h.0))
since-step from place (Anc j) (inr (inr (inr h))) = absurd (omega (arith, h.0))
since-step from place (Step c p) (inl e) =
    let same : from ≡ c = cc in let at : place ≡ p = cc in inl (c, p, refl, inl (sym same, omega (arith, at)))
since-step from place (Step c p) (inr (inl h)) = absurd (omega (arith, h))
since-step from place (Step c p) (inr (inr (inl h))) = inl (c, p, refl, inr h.1)
since-step from place (Step c p) (inr (inr (inr h))) = inl (c, p, refl, inl (sym h.1, omega (arith, h.2)))
since-step from place Gap since = inr (inl refl)

since-gap : (u : Tick) → IsSince Gap u → u ≡ Gap
since-gap Open (inl e) = absurd (cc)
since-gap Open (inr (inl h)) = absurd (omega (arith, h))
since-gap Open (inr (inr (inl h))) = absurd (omega (arith, h.0))
since-gap Open (inr (inr (inr h))) = absurd (omega (arith, h.0))
since-gap (Fact j) (inl e) = absurd (cc)
since-gap (Fact j) (inr (inl h)) = absurd (omega (arith, h))
since-gap (Fact j) (inr (inr (inl h))) = absurd (omega (arith, h.0))
since-gap (Fact j) (inr (inr (inr h))) = absurd (omega (arith, h.0))
since-gap (Anc j) (inl e) = absurd (cc)
since-gap (Anc j) (inr (inl h)) = absurd (omega (arith, h))
since-gap (Anc j) (inr (inr (inl h))) = absurd (omega (arith, h.0))
since-gap (Anc j) (inr (inr (inr h))) = absurd (omega (arith, h.0))
since-gap (Step c p) (inl e) = absurd (cc)
since-gap (Step c p) (inr (inl h)) = absurd (omega (arith, h))
since-gap (Step c p) (inr (inr (inl h))) = absurd (omega (arith, h.0))
since-gap (Step c p) (inr (inr (inr h))) = absurd (omega (arith, h.0))
since-gap Gap since = refl

-- what is since a later kind stands after the ticks of an earlier one
pub kind-since : (start u : Tick) → IsSince start u → tick_kind start ≤ tick_kind u
kind-since start u (inl e) = rw (ap tick_kind e) (omega arith)
kind-since start u (inr (inl h)) = omega (arith, h)
kind-since start u (inr (inr (inl h))) = omega (arith, h.0)
kind-since start u (inr (inr (inr h))) = omega (arith, h.0)

by-kind : (t u : Tick) → tick_kind t < tick_kind u → TickBefore t u
by-kind t u less = inl less

-- what is since ancestors, axioms or a gap is since each earlier start too
since-earlier : (start later u : Tick) → tick_kind start < tick_kind later → IsSince later u → IsSince start u
since-earlier start later u less since = inr (by-kind start u (omega (arith, less, kind-since later u since)))

less_same_more : (m n : ℕ) → (m < n) ⊎ ((m ≡ n) ⊎ (n < m))
less_same_more m n = grind arith

pub fact-since : (from k : ℕ) → from ≤ k → IsSince (Fact from) (Fact k)
fact-since from k after = elim (less_same_more from k) [
  | inl h ↦ inr (inr (inl (refl, h)))
  | inr (inl e) ↦ inl (ap (λ (i : ℕ). Fact i) e)
  | inr (inr h) ↦ absurd (omega (arith, h, after))
]

pub anc-since : (from k : ℕ) → from ≤ k → IsSince (Anc from) (Anc k)
anc-since from k after = elim (less_same_more from k) [
  | inl h ↦ inr (inr (inl (refl, h)))
  | inr (inl e) ↦ inl (ap (λ (i : ℕ). Anc i) e)
  | inr (inr h) ↦ absurd (omega (arith, h, after))
]

at-least : (from place c p : ℕ) → StandsAt from place c p → from ≤ c
at-least from place c p (inl h) = omega (arith, h.0)
at-least from place c p (inr h) = omega (arith, h)

begin-at : (from place c p : ℕ) → StandsAt from place c p → (start : ℕ) × IsFrom c from place start × (start ≤ p)
begin-at from place c p (inl h) = (place, record { here = λ e. refl; later = λ other. absurd (other h.0) }, h.1)
begin-at from place c p (inr h) = (0, record { here = λ e. absurd (omega (arith, e, h)); later = λ other. refl }, omega arith)

start-before : (from place k c start q : ℕ) → IsFrom k from place start → k ≡ c → StandsAt from place c q → start ≤ q
start-before from place k c start q begins same (inl h) = omega (arith, begins.here (same ∙ h.0), h.1)
start-before from place k c start q begins same (inr h) = omega (arith, begins.later (λ e. omega (arith, e, same, h)))

step-since : (from place k start p : ℕ) → from ≤ k → IsFrom k from place start → start ≤ p → IsSince (Step from place) (Step k p)
step-since from place k start p after begins past = elim (less_same_more from k) [
  | inl h ↦ inr (inr (inl (refl, h)))
  | inr (inl e) ↦ at_place e (begins.here (sym e))
  | inr (inr h) ↦ absurd (omega (arith, h, after))
]
  where
    at_place : from ≡ k → start ≡ place → IsSince (Step from place) (Step k p)
    at_place e is = elim (less_same_more place p) [
      | inl h ↦ inr (inr (inr (refl, e, h)))
      | inr (inl same) ↦ inl (λ i. Step (e i) (same i))
      | inr (inr h) ↦ absurd (omega (arith, h, is, past))
    ]

past-none : {X : Type 0} (xs : List X) (k : ℕ) (x : X) → length xs ≤ k → ¬ (slice_get xs k ≡ Some x)
past-none xs k x past at = omega (arith, past, slice_get-within xs k x at)

module _ (loose : Bool) (s : Setting) (formula : List Atom) (variable_count : ℕ) (ticks : List Tick) (old : ProofStateValue) (goal : OpenGoal)
    (ready : IsReadyToTry loose s formula variable_count ticks old goal) where
  open_is : goals_at old.goals old.first ≡ goal_in old goal ∷ goals_at old.goals goal.next
  open_is = ready-open loose s formula variable_count ticks old goal ready

  path_is : path_at old.goals old.first ≡ goal.lit ∷ path_at old.goals goal.above
  path_is = ready-path loose s formula variable_count ticks old goal ready

  abbrev pub Leads : Tick → Type 0
  Leads u = IsPossible loose s formula variable_count (ticks ++ u ∷ [])

  abbrev pub Tried : Tick → ProofStateValue → Bool → Type 0
  Tried start new found = TriesAmong (IsSince start) loose s formula variable_count ticks old new found

  -- the first number of a kind that leads to a list comes before the later numbers and the later kinds
  found-number : (kind : ℕ → Tick) (from k : ℕ) (after : Tick) (new : ProofStateValue) → from ≤ k
      → ((u : Tick) → IsSince (kind from) u → ((j : ℕ) × (u ≡ kind j) × (from ≤ j)) ⊎ IsSince after u)
      → ((i j : ℕ) → i ≤ j → IsSince (kind i) (kind j)) → IsLonger loose s formula variable_count ticks old (kind k) new
      → ((j : ℕ) → from ≤ j → j < k → ¬ Leads (kind j)) → tick_kind (kind k) < tick_kind after → Tried (kind from) new true
  found-number kind from k after new reached split since longer never earlier = record {
    least = λ is_found. (kind k, since from k reached, longer, λ u start leads. go u (split u start) leads);
    no_more = λ is_not. absurd (cc);
  }
    where
      go : (u : Tick) → ((j : ℕ) × (u ≡ kind j) × (from ≤ j)) ⊎ IsSince after u → Leads u → IsSince (kind k) u
      go u (inl (j, e, past)) leads =
          elim (cases_lt j k) [ inl before ↦ absurd (never j past before (rw e at leads)) | inr later ↦ rw e (since k j later) ]
      go u (inr later) leads = since-earlier (kind k) after u earlier later

  -- where no tick before a later start leads to a list, trying from the later start on is trying from the earlier one on
  joined : (start after : Tick) (Here : Tick → Type 0) → ((u : Tick) → IsSince start u → Here u ⊎ IsSince after u)
      → ((u : Tick) → Here u → ¬ Leads u) → tick_kind start < tick_kind after
      → (new : ProofStateValue) (found : Bool) → Tried after new found → Tried start new found
  joined start after Here split none earlier new found later = record {
    least = λ is_found.
        let h = later.least is_found in
        (h.0, since-earlier start after h.0 earlier h.1, h.2, λ u since leads. go (IsSince h.0 u) u (h.3 u) (split u since) leads);
    no_more = λ is_not. let h = later.no_more is_not in (h.0, λ u since leads. go ⊥ u (h.1 u) (split u since) leads);
  }
    where
      go : (G : Type 0) (u : Tick) → (IsSince after u → Leads u → G) → Here u ⊎ IsSince after u → Leads u → G
      go G u next (inl here) leads = absurd (none u here leads)
      go G u next (inr since) leads = next since leads

  -- ---- facts

  fact-off : (from j : ℕ) → ((i : ℕ) → from ≤ i → i < length s.facts → NeverFact s.objects s.facts old goal i) → from ≤ j → ¬ Leads (Fact j)
  fact-off from j never after leads =
      fact-nowhere loose s ready.asked.setting formula variable_count ticks old old ready.sound.stands goal (goal_in old goal)
      (goals_at old.goals goal.next) open_is refl refl
      (ready-in loose s formula variable_count ticks old goal ready).lit j
      (elim (cases_lt j (length s.facts)) [ inl h ↦ never j after h | inr past ↦ λ fact at. absurd (past-none s.facts j fact past at) ])
      leads.1

  pub fact-found : (from : ℕ) (new : ProofStateValue)
      → TriesRange (NeverFact s.objects s.facts old goal) (ComesFact s.objects s.facts old goal) from (length s.facts) old new true
      → Tried (Fact from) new true
  fact-found from new range =
      let h = range.least refl in
      let stands =
      fact-stands loose s ready.asked.setting formula variable_count ticks old new ready.sound.stands goal (goal_in old goal)
      (goals_at old.goals goal.next) open_is refl refl h.0 h.3 in
      found-number (λ j. Fact j) from h.0 (Anc 0) new h.1 (since-fact from) fact-since
      (longer-closed loose s formula variable_count ticks old new goal ready (Fact h.0) tt (fact-in s h.0 h.3.0 h.3.1 h.3.2) stands
      (positive_of h.3.0) h.3.3)
      (λ j after before leads. fact-nowhere loose s ready.asked.setting formula variable_count ticks old old ready.sound.stands goal
      (goal_in old goal) (goals_at old.goals goal.next) open_is refl refl (ready-in loose s formula variable_count ticks old goal ready).lit j
      (h.4 j after before) leads.1) (omega arith)

  pub fact-join : (from : ℕ) (mid : ProofStateValue)
      → TriesRange (NeverFact s.objects s.facts old goal) (ComesFact s.objects s.facts old goal) from (length s.facts) old mid false
      → (new : ProofStateValue) (found : Bool) → Tried (Anc 0) new found → Tried (Fact from) new found
  fact-join from mid range new found later =
      joined (Fact from) (Anc 0) (λ u. (j : ℕ) × (u ≡ Fact j) × (from ≤ j)) (since-fact from)
      (λ u h leads. fact-off from h.0 (range.no_more refl).1 h.2 (rw h.1 at leads)) (omega arith) new found later

  -- ---- ancestors

  ancestor-off : (from j : ℕ) → ((i : ℕ) → from ≤ i → i < length (path_at old.goals goal.above)
      → NeverAncestor (path_at old.goals goal.above) old goal i) → from ≤ j → ¬ Leads (Anc j)
  ancestor-off from j never after leads =
      ancestor-nowhere loose s ready.asked.setting formula variable_count ticks old old ready.sound.stands goal (goal_in old goal)
      (goals_at old.goals goal.next) open_is refl refl j
      (elim (cases_lt j (length (path_at old.goals goal.above))) [
        | inl h ↦ never j after h
        | inr past ↦ λ above at. absurd
            (past-none (path_at old.goals goal.above) j above past at)
      ])
      leads.1

  pub ancestor-found : (from : ℕ) (new : ProofStateValue)
      → TriesRange (NeverAncestor (path_at old.goals goal.above) old goal) (ComesAncestor (path_at old.goals goal.above) old goal) from
      (length (path_at old.goals goal.above)) old new true → Tried (Anc from) new true
  ancestor-found from new range =
      let h = range.least refl in
      let stands =
      ancestor-stands loose s ready.asked.setting formula variable_count ticks old new ready.sound.stands goal (goal_in old goal)
      (goals_at old.goals goal.next) open_is refl refl h.0 h.3 in
      found-number (λ j. Anc j) from h.0 (Step 0 0) new h.1 (since-ancestor from) anc-since
      (longer-closed loose s formula variable_count ticks old new goal ready (Anc h.0) tt tt stands (complement_of h.3.0) h.3.2)
      (λ j after before leads. ancestor-nowhere loose s ready.asked.setting formula variable_count ticks old old ready.sound.stands goal
      (goal_in old goal) (goals_at old.goals goal.next) open_is refl refl j (h.4 j after before) leads.1) (omega arith)

  pub ancestor-join : (from : ℕ) (mid : ProofStateValue)
      → TriesRange (NeverAncestor (path_at old.goals goal.above) old goal) (ComesAncestor (path_at old.goals goal.above) old goal) from
      (length (path_at old.goals goal.above)) old mid false
      → (new : ProofStateValue) (found : Bool) → Tried (Step 0 0) new found → Tried (Anc from) new found
  ancestor-join from mid range new found later =
      joined (Anc from) (Step 0 0) (λ u. (j : ℕ) × (u ≡ Anc j) × (from ≤ j)) (since-ancestor from)
      (λ u h leads. ancestor-off from h.0 (range.no_more refl).1 h.2 (rw h.1 at leads)) (omega arith) new found later

  -- ---- axioms

  axiom-off : (from place c p : ℕ) → NeverAxiom s.axioms old goal from place c → StandsAt from place c p → ¬ Leads (Step c p)
  axiom-off from place c p never at leads =
      let begin = begin-at from place c p at in
      axiom-nowhere loose s formula variable_count ticks old old ready.sound.stands goal (goal_in old goal)
      (goals_at old.goals goal.next) open_is refl refl path_is refl from place c never begin.0 begin.1 p begin.2 leads.1

  pub axiom-found : (from place : ℕ) (new : ProofStateValue)
      → TriesRange (NeverAxiom s.axioms old goal from place) (ComesAxiom s.axioms old goal from place) from (length s.axioms) old new true
      → Tried (Step from place) new true
  axiom-found from place new range = record {
    least = λ is_found.
        let h = range.least refl in
        let first =
        axiom-first loose s formula variable_count ticks old new ready.sound.stands goal (goal_in old goal)
        (goals_at old.goals goal.next) open_is refl refl path_is refl from place h.0 h.3 in
        let few : first.clause.variable_count ≤ most_formula_variables =
        All-got (λ (c : Clause). c.variable_count ≤ most_formula_variables) s.axioms h.0 first.clause ready.asked.clauses first.is_at in (
          Step h.0 first.p,
          step-since from place h.0 first.start first.p h.1 first.begins first.after,
          longer-stepped loose s formula variable_count ticks old new goal ready
              (Step h.0 first.p) tt tt first.stays first.clause first.p few first.closes,
          λ u since leads. go h.0 first.start first.p first.begins
              (λ c p at before. axiom-off from place c p (h.4 c (at-least from place c p at) before) at) first.before u
              (since-step from place u since) leads,
        );
    no_more = λ is_not. absurd (cc);
  }
    where
      go : (k start p : ℕ) → IsFrom k from place start → ((c q : ℕ) → StandsAt from place c q → c < k → ¬ Leads (Step c q))
          → ((q : ℕ) → start ≤ q → q < p → ¬ IsFeasible loose s formula variable_count (ticks ++ Step k q ∷ []))
          → (u : Tick) → ((c : ℕ) × (q : ℕ) × (u ≡ Step c q) × StandsAt from place c q) ⊎ IsSince Gap u → Leads u → IsSince (Step k p) u
      go k start p begins earlier before u (inl (c, q, e, at)) leads = rw e (elim (less_same_more k c) [
        | inl h ↦ inr (inr (inl (refl, h)))
        | inr (inl same) ↦ elim (less_same_more p q) [
          | inl h ↦ inr (inr (inr (refl, same, h)))
          | inr (inl is) ↦ inl (λ i. Step (same i) (is i))
          | inr (inr h) ↦ absurd (before q (start-before from place k c start q begins same at) h
              (subst-leads k c q same (rw e at leads)).1)
        ]
        | inr (inr h) ↦ absurd (earlier c q at h (rw e at leads))
      ])
        where
          subst-leads : (k c q : ℕ) → k ≡ c → Leads (Step c q) → Leads (Step k q)
          subst-leads k c q same h = rw same h
      go k start p begins earlier before u (inr later) leads = inr (by-kind (Step k p) u (omega (arith, kind-since Gap u later)))

  pub axiom-join : (from place : ℕ) (mid : ProofStateValue)
      → TriesRange (NeverAxiom s.axioms old goal from place) (ComesAxiom s.axioms old goal from place) from (length s.axioms) old mid false
      → (new : ProofStateValue) (found : Bool) → Tried Gap new found → Tried (Step from place) new found
  axiom-join from place mid range new found later =
      joined (Step from place) Gap (λ u. (c : ℕ) × (q : ℕ) × (u ≡ Step c q) × StandsAt from place c q) (since-step from place)
      (λ u h leads. axiom-off from place h.0 h.1 (never h.0 (at-least from place h.0 h.1 h.3)) h.3 (rw h.2 at leads))
      (omega arith) new found later
    where
      never : (c : ℕ) → from ≤ c → NeverAxiom s.axioms old goal from place c
      never c after =
          elim (cases_lt c (length s.axioms)) [
            | inl h ↦ (range.no_more refl).1 c after h
            | inr past ↦ λ clause at. absurd
                (past-none s.axioms c clause past at)
          ]

  -- ---- a gap

  pub gap-none : (loose && goal.lit.positive && list_any (nat_eq goal.lit.atom.pred) s.added) ≡ false → Tried Gap old false
  gap-none is = record {
    least = λ is_found. absurd (cc);
    no_more = λ is_not. (refl, λ u since leads. off u (since-gap u since) leads);
  }
    where
      off : (u : Tick) → u ≡ Gap → ¬ Leads u
      off u e leads =
          none-at loose s formula variable_count ticks old old ready.sound.stands Gap (goal_in old goal) (goals_at old.goals goal.next) open_is
          (rw is refl) (rw e at leads).1

  pub gap-closed : (loose && goal.lit.positive && list_any (nat_eq goal.lit.atom.pred) s.added) ≡ true
      → (new : ProofStateValue) (found : Bool) → ClosesBy old new Gap goal.lit goal.lit goal.next found → Tried Gap new found
  gap-closed is new true closes = record {
    least = λ is_found.
        let closing : closing_at loose s (variables_of old.changes) (goal_in old goal) Gap
        ≡ Some (record { equal_to = goal.lit; parts = [] }) = rw is refl in
        let stands =
        stands-closed loose s formula variable_count ticks old new ready.sound.stands Gap (goal_in old goal)
        (goals_at old.goals goal.next) goal.lit goal.next open_is refl closing refl closes in (
          Gap,
          inl refl,
          longer-closed loose s formula variable_count ticks old new goal ready Gap tt tt stands goal.lit closes,
          λ u since leads. inl (sym (since-gap u since)),
        );
    no_more = λ is_not. absurd (cc);
  }
  gap-closed is new false closes = record {
    least = λ is_found. absurd (cc);
    no_more = λ is_not. (closes.unchanged refl, λ u since leads. off u (since-gap u since) leads);
  }
    where
      off : (u : Tick) → u ≡ Gap → ¬ Leads u
      off u e leads =
          let closing : closing_at loose s (variables_of old.changes) (goal_in old goal) Gap
          ≡ Some (record { equal_to = goal.lit; parts = [] }) = rw is refl in
          none-closed loose s formula variable_count ticks old new ready.sound.stands Gap (goal_in old goal)
          (goals_at old.goals goal.next) goal.lit goal.next open_is refl closing refl closes (rw e at leads).1
