-- Where no cause is there, the line is without a fault.
use Rattle.px_script.specs.Faults as faults
use Rattle.px_script.proofs.Common.{◌≡◌, ℕ, Bool, true, false, not, ◌&&◌, List, [], ◌∷◌, map, refl, sym, ◌∙◌, inl, inr, Option, None, Some, AllByRecursion, list_any, option_map, not-false, or_parts, both_answers, has_name, Statement, Line, Block, line_of, Declared, OpenBlock, block_here, declared_by, names_here, kind_of_block, Stage, whole_language, is_unbuilt, is_out_of_order, declares_after_command, may_stand, is_late, has_two_domains, varies_too_early, lacks_robot, has_unknown_name, wanted_by, repeats, repeats_name, taken_here, has_wrong_arity, is_unbound, has_long_name, is_long, is_numbered, causes_with, fault_at, first_of, passed, own_limits, has_duplicate, repeats_itself, OnlyTakesAway, ◌++◌, Refusal, is_bad_table}
use Rattle.px_script.specs.Statements.{ask, Show}
use Rattle.px_script.proofs.Lists.{by_test, none-passes, passes-test}
use Rattle.px_script.specs.Faultless.{IsFaultless, IsRight, StandsRight}

pub stands-right : (d : Declared) (l : Line) → is_out_of_order d l ≡ false → StandsRight d l
stands-right d l e = let a = or_parts _ (lacks_robot d (block_here d) l.place) e in let b = or_parts _ (varies_too_early d l) a.0 in
    let c = or_parts _ (has_two_domains d l.place) b.0 in let f = or_parts _ (is_late d l.place) c.0 in
    let g = or_parts (declares_after_command d l.place) (not (may_stand (block_here d) l.place)) f.0 in
    record { after = g.0; stands = not-false _ g.1; late = f.1; domains = c.1; early = b.1; robot = a.1 }

none-passed : (limits : List (Bool × ℕ)) → first_of (map passed limits) ≡ None → AllByRecursion (λ test. test.0 ≡ false) limits
none-passed [] none = tt
none-passed (test ∷ more) none = let both = passes-test test.0 _ _ none in (both.0, none-passed more both.1)

-- none of the causes is there, and no limit of these is passed
pub no-cause : (stage : Stage) (d : Declared) (s : Statement) (last : List (Bool × ℕ)) → first_of (causes_with stage d s last) ≡ None
    → (is_unbuilt stage s ≡ false) × IsRight d s × (first_of (map passed last) ≡ None)
no-cause stage d s last e = let l = line_of s in let a = passes-test (is_out_of_order d l) _ _ e in
    let b = passes-test (is_unbuilt stage s) _ _ a.1 in let c = passes-test (has_unknown_name d l) _ _ b.1 in
    let f = passes-test (has_duplicate d s) _ _ c.1 in let g = passes-test (has_wrong_arity d l) _ _ f.1 in
    let h = passes-test (is_unbound d l) _ _ g.1 in (b.0, record { order = a.0; known = c.0; single = f.0; arity = g.0; bound = h.0 }, h.1)

-- where the line is right, the limits are left
pub only-limits : (stage : Stage) (d : Declared) (s : Statement) (last : List (Bool × ℕ)) → is_unbuilt stage s ≡ false → IsRight d s
    → first_of (causes_with stage d s last) ≡ first_of (map passed last)
only-limits stage d s last built r = rw (r.order, built, r.known, r.single, r.arity, r.bound) refl

-- none of the first causes is there, nor of those after them
pub none-first : (xs ys : List (Bool × Refusal)) → first_of (xs ++ ys) ≡ None → (first_of xs ≡ None) × (first_of ys ≡ None)
none-first [] ys none = (refl, none)
none-first (x ∷ xs) ys none = let both = passes-test x.0 _ _ none in let more = none-first xs ys both.1 in
    (rw (both.0, more.0) refl, more.1)

-- the line is built, and has no fault in the whole language
pub no-fault : (stage : Stage) (d : Declared) (s : Statement) → fault_at stage d s ≡ None → (is_unbuilt stage s ≡ false) × IsFaultless d s
no-fault stage d s e = let l = line_of s in let first = none-first (causes_with stage d s (faults.limits d s)) _ e in
    let none = no-cause stage d s (faults.limits d s) first.0 in let r : IsRight d s = none.1 in
    let k = passes-test (has_long_name d l) _ _ none.2 in let twice = or_parts (repeats_name d l) (repeats_itself d s) r.single in
    let is : IsFaultless d s = record {
      right = r;
      order = stands-right d l r.order;
      known = none-passes (λ w. not (has_name w.1 (names_here d w.0))) _ (λ w e. not-false _ e) (wanted_by l) (or_parts _ _ r.known).1;
      single = none-passes (λ group. repeats (taken_here d group.0) group.1) _ (λ group e. e) (declared_by l) twice.0;
      itself = twice.1;
      short = none-passes (λ group. is_numbered group.0 && list_any (is_long d.version) group.1) _ (λ group e. e) (declared_by l) k.0;
      limits = none-passed (own_limits d s) k.1;
      no_bad_table = (passes-test (is_bad_table d s) _ _ first.1).0;
    } in (none.0, is)

-- each line is built in the whole language
whole-built : (s : Statement) → is_unbuilt whole_language s ≡ false
whole-built (ask Show n) = refl
whole-built _ = refl

pub only-takes-away : (stage : Stage) (d : Declared) (s : Statement) → OnlyTakesAway stage d s
only-takes-away stage d s = by_test (is_unbuilt stage s)
    (λ unbuilt. by_test (is_out_of_order d (line_of s)) (λ late. inl (rw late refl)) (λ right. inr (rw (right, unbuilt) refl)))
    (λ built. inl (rw (built, whole-built s) refl))

-- a line that has no fault there has none in the whole language
pub stage-takes-away : (stage : Stage) (d : Declared) (s : Statement) → fault_at stage d s ≡ None → fault_at whole_language d s ≡ None
stage-takes-away stage d s e = elim (only-takes-away stage d s) [ inl same ↦ sym same ∙ e | inr unbuilt ↦ cc ]

-- a line that may stand in no block
pub at-top : (d : Declared) (l : Line) → StandsRight d l → ((b : Block) → may_stand (Some b) l.place ≡ false) → d.block ≡ None
at-top d l right never = by_block d.block right.stands
  where
    by_block : (o : Option OpenBlock) → may_stand (option_map (λ block. kind_of_block block.kind) o) l.place ≡ true → o ≡ None
    by_block None stands = refl
    by_block (Some block) stands = both_answers (may_stand (Some (kind_of_block block.kind)) l.place) (never _) stands
