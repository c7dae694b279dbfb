-- A line without a fault: what each cause says where it isn't there.
use Rattle.std.specs.Prelude.{◌≡◌, ◌&&◌, true, false}
use Rattle.std.specs.List.{AllByRecursion, list_any}
use Rattle.px_script.specs.Common.{has_name}
use Rattle.px_script.specs.Statements.{Statement, Line, line_of}
use Rattle.px_script.specs.Declarations.{Declared, block_here, declared_by, names_here}
use Rattle.px_script.specs.Causes.{is_out_of_order, declares_after_command, may_stand, is_late, has_two_domains, varies_too_early, lacks_robot, has_unknown_name, wanted_by, repeats, taken_here, has_wrong_arity, is_unbound, is_long, is_numbered}
use Rattle.px_script.specs.Faults.{own_limits, has_duplicate, repeats_itself, is_bad_table}

-- No cause to refuse the line is there but for limits and for what isn't built.
pub record IsRight (d : Declared) (s : Statement) : Type 0 where
  pub order : is_out_of_order d (line_of s) ≡ false
  pub known : has_unknown_name d (line_of s) ≡ false
  pub single : has_duplicate d s ≡ false
  pub arity : has_wrong_arity d (line_of s) ≡ false
  pub bound : is_unbound d (line_of s) ≡ false

-- the cases of order, one by one
pub record StandsRight (d : Declared) (l : Line) : Type 0 where
  pub after : declares_after_command d l.place ≡ false
  pub stands : may_stand (block_here d) l.place ≡ true
  pub late : is_late d l.place ≡ false
  pub domains : has_two_domains d l.place ≡ false
  pub early : varies_too_early d l ≡ false
  pub robot : lacks_robot d (block_here d) l.place ≡ false

-- No cause is there but that the stage hasn't got the word: what each says, name by name and limit by limit.
pub record IsFaultless (d : Declared) (s : Statement) : Type 0 where
  pub right : IsRight d s
  pub order : StandsRight d (line_of s)
  pub known : AllByRecursion (λ w. has_name w.1 (names_here d w.0) ≡ true) (wanted_by (line_of s))
  pub single : AllByRecursion (λ group. repeats (taken_here d group.0) group.1 ≡ false) (declared_by (line_of s))
  pub itself : repeats_itself d s ≡ false
  pub short : AllByRecursion (λ group. (is_numbered group.0 && list_any (is_long d.version) group.1) ≡ false) (declared_by (line_of s))
  pub limits : AllByRecursion (λ test. test.0 ≡ false) (own_limits d s)
  pub no_bad_table : is_bad_table d s ≡ false
