-- Tests of lines, token by token and of what stands to their ends.
use Rattle.px_base.specs.declared.no_memory.NoMemory.{NoMemory}
use Rattle.px_causes.proofs.Common.{◌≡◌, ◌||◌, ◌∙◌, ap, sym, true, false, List, list_any, list_any-map, flat_map, Declared, is_undeclared, Option, Result, Ok, Err, IfOk, Statement, line_of, length-map}
use Rattle.px_script.specs.Causes.{has_long_name}
use Rattle.px_script.specs.Items.{declared_in, wanted_in}
use Rattle.px_lines.proofs.Views.{any-said}
use Rattle.px_lines.specs.ItemViews.{rest_view, said_items, said_view}
use Rattle.px_lines.specs.LineViews.{line_view}
use Rattle.px_lines.specs.declared.reading.Line.{Line}
use Rattle.px_lines.specs.declared.items.Rest.{Rest}
use Rattle.px_lines.specs.declared.items.Said.{Said}
use Rattle.px_causes.specs.Checks.{group_is_long, group_repeats}
use Rattle.px_causes.specs.EarlyFaults.{IsFirstLimit, early_limits, early_own}
use Rattle.px_causes.specs.declared.line_fault.PassedLimit.{PassedLimit}
use Rattle.px_causes.proofs.Twice.{or_false}

-- a test of one thing
pub ruleset single = (or_false)

-- a count of names seen otherwise
pub ruleset lengths = (length-map)

-- a test of names seen otherwise
pub ruleset seen = (list_any-map)

pub wanted-any : (d : Declared) (ones : List Said) (last : Rest) → list_any (is_undeclared d) (flat_map wanted_in (said_items ones last))
    ≡ (list_any (λ one. list_any (is_undeclared d) (wanted_in (said_view one))) ones
    || list_any (is_undeclared d) (flat_map wanted_in (rest_view last)))
wanted-any d ones last = any-said wanted_in (is_undeclared d) ones last

pub ruleset wanted = (wanted-any)

pub repeated-any : (d : Declared) (ones : List Said) (last : Rest)
    → list_any (group_repeats d) (flat_map declared_in (said_items ones last))
    ≡ (list_any (λ one. list_any (group_repeats d) (declared_in (said_view one))) ones
    || list_any (group_repeats d) (flat_map declared_in (rest_view last)))
repeated-any d ones last = any-said declared_in (group_repeats d) ones last

pub ruleset declared = (repeated-any)

-- a long name among the single tokens, or else in what follows them; it is too long in every version
module _ (d : Declared) (l : Line) (ones : List Said) (same : ones ≡ l.ones.items) where
  long-any : has_long_name d (line_view l) ≡ (list_any (λ one. list_any group_is_long (declared_in (said_view one))) ones
      || list_any group_is_long (flat_map declared_in (rest_view l.last)))
  long-any = any-said declared_in group_is_long l.ones.items l.last
      ∙ ap (λ xs. list_any (λ one. list_any group_is_long (declared_in (said_view one))) xs
      || list_any group_is_long (flat_map declared_in (rest_view l.last))) (sym same)

  pub long-first : list_any (λ one. list_any group_is_long (declared_in (said_view one))) ones ≡ true
      → has_long_name d (line_view l) ≡ true
  long-first long = long-any ∙ ap (λ b. b || list_any group_is_long (flat_map declared_in (rest_view l.last))) long

  pub long-then : list_any (λ one. list_any group_is_long (declared_in (said_view one))) ones ≡ false
      → has_long_name d (line_view l) ≡ list_any group_is_long (flat_map declared_in (rest_view l.last))
  long-then none = long-any ∙ ap (λ b. b || list_any group_is_long (flat_map declared_in (rest_view l.last))) none

-- where no name is too long, the other limits are left
pub own-first : (d : Declared) (s : Statement) (l : Line) → line_of s ≡ line_view l → has_long_name d (line_view l) ≡ false
    → (r : Result (Option PassedLimit) NoMemory) → IfOk r (λ found. IsFirstLimit found (early_own d s))
    → IfOk r (λ found. IsFirstLimit found (early_limits d s))
own-first d s l same none (Ok found) own = rw (ap (has_long_name d) same ∙ none) own
own-first d s l same none (Err e) own = tt
