-- Facts are counted once they are added: what a line's fault is before and after that.
use Rattle.px_causes.proofs.Common.{◌≡◌, ℕ, Bool, true, false, length, List, [], ◌∷◌, ◌++◌, map, refl, sym, ap, ◌∙◌, ◌&&◌, None, Some, nat_lt, Declared, Statement, fact, greatest, fault_at, first_of, passed, Stage, SignedAtom, no-cause, only-limits, IsRight, Atom, atom_set, atom_of, is_fact, early_fault, early_limits, leaves, own_limits, limits, Refusal, causes_with, most_facts, is_bad_table, coded}
use Rattle.px_script.proofs.Faultless.{none-first}
use Rattle.std.specs.Prelude.{IfSome, Option}
use Rattle.std.specs.Option.{option_map}
use Rattle.px_causes.specs.EarlyFaults.{IsFirstLimit, late_fault}
use Rattle.px_causes.specs.FaultViews.{limit_refusal, refusal_of}
use Rattle.px_causes.specs.declared.line_fault.LineFault.{LineFault}
use Rattle.px_causes.specs.declared.line_fault.PassedLimit.{PassedLimit}

-- a last cause that isn't there
without-last : (causes : List (Bool × Refusal)) (last : Bool × Refusal) → last.0 ≡ false → first_of (causes ++ last ∷ []) ≡ first_of causes
without-last [] last good = rw good refl
without-last ((true, cause) ∷ causes) last good = refl
without-last ((false, cause) ∷ causes) last good = without-last causes last good

-- a line of other kinds has all its faults early
pub early-all : (stage : Stage) (d : Declared) (s : Statement) → is_fact s ≡ false → early_fault stage d s ≡ fault_at stage d s
early-all stage d (fact xs) other = cc
early-all stage d s other = refl

first-prefix : (causes more : List (Bool × Refusal)) (fault : Refusal) → first_of causes ≡ Some fault
    → first_of (causes ++ more) ≡ Some fault
first-prefix [] more fault is = cc
first-prefix ((true, cause) ∷ causes) more fault is = is
first-prefix ((false, cause) ∷ causes) more fault is = first-prefix causes more fault is

-- a limit that is passed is the fault, and where none is, what is told of a bad table
pub late-limit : (d : Declared) (s : Statement) (limit : PassedLimit) → IsFirstLimit (Some limit) (early_limits d s)
    → Some (limit_refusal limit) ≡ late_fault d s
late-limit d s limit is =
    sym (first-prefix (map passed (early_limits d s)) ((is_bad_table d s, coded 12) ∷ []) (limit_refusal limit) (sym is))

-- a fault that is there early is the line's
pub early-some : (stage : Stage) (d : Declared) (s : Statement) (fault : Refusal) → early_fault stage d s ≡ Some fault
    → fault_at stage d s ≡ Some fault
early-some stage d (fact xs) fault is = first-prefix (causes_with stage d (fact xs) (early_limits d (fact xs)))
    (map passed (own_limits d (fact xs)) ++ (is_bad_table d (fact xs), coded 12) ∷ []) fault
    (sym (without-last (causes_with stage d (fact xs) (early_limits d (fact xs))) (is_bad_table d (fact xs), coded 12) refl) ∙ is)
early-some stage d s fault is = is

-- what is told of a line before it is declared, by its first fault
pub told-found : (stage : Stage) (d : Declared) (s : Statement) (fault : Option LineFault)
    → option_map refusal_of fault ≡ early_fault stage d s → IfSome fault (λ one. fault_at stage d s ≡ Some (refusal_of one))
told-found stage d s (Some one) is = early-some stage d s (refusal_of one) (sym is)
told-found stage d s None is = tt

pub told-none : (stage : Stage) (d : Declared) (s : Statement) (fault : Option LineFault)
    → option_map refusal_of fault ≡ early_fault stage d s → fault ≡ None → is_fact s ≡ false → fault_at stage d s ≡ None
told-none stage d s None is none other = sym (early-all stage d s other) ∙ sym is
told-none stage d s (Some one) is none other = cc

early-none : (stage : Stage) (d : Declared) (s : Statement) → early_fault stage d s ≡ None
    → first_of (causes_with stage d s (early_limits d s)) ≡ None
early-none stage d s none = (none-first (causes_with stage d s (early_limits d s)) ((is_bad_table d s, coded 12) ∷ []) none).0

pub early-right : (stage : Stage) (d : Declared) (s : Statement) → early_fault stage d s ≡ None → IsRight d s
early-right stage d s none = (no-cause stage d s (early_limits d s) (early-none stage d s none)).1

module _ (stage : Stage) (n : ℕ) (d after : Declared) where
  -- the limit of facts is the one that is left
  counted : (xs : List SignedAtom) (many : Bool) → after ≡ leaves n d (fact xs) → early_fault stage d (fact xs) ≡ None
      → nat_lt (greatest after.version most_facts) (length after.facts) ≡ many
      → fault_at stage d (fact xs) ≡ first_of (passed (many, 11) ∷ [])
  counted xs many is none count = let set : List Atom = atom_set (map (atom_of d []) xs ++ d.facts) in
      let one : nat_lt (greatest d.version most_facts) (length set) ≡ many
      = sym (ap (λ (e : Declared). nat_lt (greatest e.version most_facts) (length e.facts)) is) ∙ count in
      let left = no-cause stage d (fact xs) (early_limits d (fact xs)) (early-none stage d (fact xs) none) in
      without-last (causes_with stage d (fact xs) (limits d (fact xs))) (is_bad_table d (fact xs), coded 12) refl
      ∙ only-limits stage d (fact xs) (limits d (fact xs)) left.0 left.1 ∙ ap (λ b. first_of (passed (b, 11) ∷ [])) one

  pub few-facts : (s : Statement) → after ≡ leaves n d s → early_fault stage d s ≡ None
      → (is_fact s && nat_lt (greatest after.version most_facts) (length after.facts)) ≡ false → fault_at stage d s ≡ None
  few-facts (fact xs) is none few = counted xs false is none few
  few-facts s is none few = none

  pub many-facts : (s : Statement) → after ≡ leaves n d s → early_fault stage d s ≡ None
      → (is_fact s && nat_lt (greatest after.version most_facts) (length after.facts)) ≡ true
      → fault_at stage d s ≡ Some (record { code = 8; limit = 11 })
  many-facts (fact xs) is none many = counted xs true is none many
  many-facts _ is none many = cc
