-- What holds of each run, turn by turn: sensing leaves the atoms, and a run keeps of them what edits and actions keep.
use Rattle.std.specs.Prelude.{◌≡◌, ℕ, Bool, true, false, cond, List, [], ◌∷◌, All, filter}
use Rattle.std.specs.List.{flat_map}
use Rattle.std.proofs.Common.{suc, refl, sym, ap, subst, inl, inr}
use Rattle.std.proofs.lemmas.List.Elements.{All-append, All-head, All-nil, All-tail}
use Rattle.px_terms.specs.declared.atom.Atom.{Atom}
use Rattle.px_terms.specs.declared.problem.Problem.{Problem}
use Rattle.px_table.specs.declared.table.Table.{Table}
use Rattle.px_planex.specs.declared.event.Event.TheVariants.{Sense, Act}
use Rattle.px_planex.specs.declared.event.Outcome.{Outcome}
use Rattle.px_planex.specs.declared.event.Outcome.TheVariants.{Disturbed, Sensed, Acted, Slipped, Goal, NoKernel, NotSensed}
use Rattle.px_planex.specs.Execution.{Happens, Running}
use Rattle.px_planex.specs.Turns.{EndsTurn, Recorded, TakesTurn, TakesTurns, TurnValue, after_edits, disturbed_by, edits_at, is_at}

module _ {E : Type 0} (P : E → Type 0) where
  abbrev pub OfAll : Recorded E → Type 0
  OfAll one = All P one.edits

  -- what holds of all edits that are recorded holds of those of a turn and point
  pub all-at : (recorded : List (Recorded E)) (number : ℕ) (between : Bool) → All OfAll recorded → All P (edits_at recorded number between)
  all-at [] number between all = All-nil P
  all-at (one ∷ recorded) number between all =
      by (All-head OfAll one recorded all) (all-at recorded number between (All-tail OfAll one recorded all)) (is_at number between one)
    where
      by : All P one.edits → All P (edits_at recorded number between) → (b : Bool)
          → All P (flat_map (λ (r : Recorded E). r.edits) (cond b (one
          ∷ filter (is_at number between) recorded) (filter (is_at number between) recorded)))
      by here rest true = All-append P one.edits (edits_at recorded number between) here rest
      by here rest false = rest

module _ {E : Type 0} (leaves : E → List Atom → List Atom) (problem : Problem) (table : Table) (bound : List (ℕ × ℕ)) where
  -- sensing leaves the atoms
  pub sense-atoms : (outcome : Outcome) (old new : Running) → Happens leaves problem table bound old Sense outcome new
      → new.atoms ≡ old.atoms
  sense-atoms NoKernel old new is = ap (λ (r : Running). r.atoms) is.1
  sense-atoms Goal old new is = ap (λ (r : Running). r.atoms) is.3
  sense-atoms (Sensed i) old new is = ap (λ (r : Running). r.atoms) is.4
  sense-atoms Disturbed old new is = absurd is
  sense-atoms NotSensed old new is = absurd is
  sense-atoms Slipped old new is = absurd is
  sense-atoms Acted old new is = absurd is

  -- where each edit of a kind keeps what holds of the atoms, and so does each action after a sensing
  module _ (P : List Atom → Type 0) (Own : E → Type 0)
      (edited : (edit : E) (atoms : List Atom) → Own edit → P atoms → P (leaves edit atoms))
      (acted : (outcome : Outcome) (old sensed before new : Running) → Happens leaves problem table bound old Sense outcome sensed
      → before.memory ≡ sensed.memory → Happens leaves problem table bound before Act Acted new → P before.atoms → P new.atoms) where
    abbrev Holds : Running → Type 0
    Holds running = P running.atoms

    edits-keep : (edits : List E) (atoms : List Atom) → All Own edits → P atoms → P (after_edits leaves edits atoms)
    edits-keep [] atoms own holds = holds
    edits-keep (edit ∷ edits) atoms own holds =
        edits-keep edits (leaves edit atoms) (All-tail Own edit edits own) (edited edit atoms (All-head Own edit edits own) holds)

    ends-keep : (between : List E) (old sensed : Running) (outcome : Outcome) (turn : TurnValue) (new : Running) → All Own between
        → Happens leaves problem table bound old Sense outcome sensed → EndsTurn leaves problem table bound between sensed outcome turn new
        → Holds sensed → Holds new
    ends-keep between old sensed NoKernel turn new own senses is holds = subst Holds (sym is.1) holds
    ends-keep between old sensed Goal turn new own senses is holds = subst Holds (sym is.1) holds
    ends-keep between old sensed (Sensed i) turn new own senses (inl (told, acts)) holds =
        acted (Sensed i) old sensed (disturbed_by leaves between sensed) new senses refl acts (edits-keep between sensed.atoms own holds)
    ends-keep between old sensed (Sensed i) turn new own senses (inr (told, slips)) holds =
        subst Holds (sym slips.3) (edits-keep between sensed.atoms own holds)
    ends-keep between old sensed Disturbed turn new own senses is holds = absurd is
    ends-keep between old sensed NotSensed turn new own senses is holds = absurd is
    ends-keep between old sensed Slipped turn new own senses is holds = absurd is
    ends-keep between old sensed Acted turn new own senses is holds = absurd is

    turn-keeps : (before between : List E) (old : Running) (turn : TurnValue) (new : Running) → All Own before → All Own between
        → TakesTurn leaves problem table bound before between old turn new → Holds old → Holds new
    turn-keeps before between old turn new first second (outcome, (sensed, senses, ends)) holds =
        let disturbed = disturbed_by leaves before old in
        ends-keep between disturbed sensed outcome turn new second senses ends
        (subst P (sym (sense-atoms outcome disturbed sensed senses)) (edits-keep before old.atoms first holds))

    pub turns-keep : (recorded : List (Recorded E)) (number : ℕ) (old : Running) (turns : List TurnValue) (new : Running)
        → All (OfAll Own) recorded
        → TakesTurns leaves problem table bound recorded number old turns new → Holds old → Holds new
    turns-keep recorded number old [] new own is holds = absurd is
    turns-keep recorded number old (turn ∷ turns) new own (mid, takes, inl (last, none, same)) holds =
        subst Holds (sym same)
        (turn-keeps (edits_at recorded number false) (edits_at recorded number true) old turn mid (all-at Own recorded number false own)
        (all-at Own recorded number true own) takes holds)
    turns-keep recorded number old (turn ∷ turns) new own (mid, takes, inr (goes_on, later)) holds =
        turns-keep recorded (suc number) mid turns new own later
        (turn-keeps (edits_at recorded number false) (edits_at recorded number true) old turn mid (all-at Own recorded number false own)
        (all-at Own recorded number true own) takes holds)
