-- What is reported of a run, and where none is run.
use Rattle.std.specs.Prelude.{◌≡◌, ◌≤◌, ◌&&◌, ℕ, Bool, true, false, not, cond, nat_le, nat_lt, Some, None, List, [], ◌∷◌, map, find, option_map, All}
use Rattle.std.proofs.Common.{refl, sym, ◌∙◌, arith}
use Rattle.std.proofs.lemmas.Bool.Decides.{nat_tests}
use Rattle.std.proofs.lemmas.List.Elements.{All-head, All-tail}
use Rattle.px_terms.specs.declared.atom.Atom.{Atom}
use Rattle.px_terms.specs.declared.problem.Problem.{Problem}
use Rattle.px_table.specs.declared.table.Table.{Table}
use Rattle.px_match.specs.Matching.{first_bad}
use Rattle.px_planex.specs.Turns.{RunsTable}
use Rattle.px_printer.specs.declared.turn.Turn.{Turn}
use Rattle.px_session.specs.Lawful.{IsRunOf, first_unknown}
use Rattle.px_turns.specs.Told.{turn_told}
use Rattle.px_session.specs.Sessions.{SessionState, any_table, leaves_edit}

-- ---- parameters from 1 on are bad where they are above the table's

same-test : (params n : ℕ) → 1 ≤ n → not (nat_le 1 n && nat_le n params) ≡ nat_lt params n
same-test params n from = grind (arith, nat_tests)

pub bad-unknown : (table : Table) (bound : List (ℕ × ℕ)) → All (λ pair. 1 ≤ pair.0) bound
    → first_bad table bound ≡ first_unknown table bound
bad-unknown table [] from = refl
bad-unknown table (pair ∷ bound) from =
    let test = same-test table.params pair.0 (All-head (λ (p : ℕ × ℕ). 1 ≤ p.0) pair bound from) in
    by (not (nat_le 1 pair.0 && nat_le pair.0 table.params)) (nat_lt table.params pair.0) test
    (bad-unknown table bound (All-tail (λ (p : ℕ × ℕ). 1 ≤ p.0) pair bound from))
  where
    by : (a b : Bool) → a ≡ b → first_bad table bound ≡ first_unknown table bound
        → option_map (λ (p : ℕ × ℕ). p.0) (cond a (Some pair) (find (λ (p : ℕ × ℕ). not (nat_le 1 p.0 && nat_le p.0 table.params)) bound))
        ≡ option_map (λ (p : ℕ × ℕ). p.0) (cond b (Some pair) (find (λ (p : ℕ × ℕ). nat_lt table.params p.0) bound))
    by true true same rest = refl
    by false false same rest = rest
    by true false same rest = absurd (cc)
    by false true same rest = absurd (cc)

-- ---- a run

pub run-told : (problem : Problem) (name : ℕ) (bound : List (ℕ × ℕ)) (old new : SessionState) (table : Table) (turns : List Turn)
    (after : List Atom)
    → All (λ pair. 1 ≤ pair.0) bound → any_table old name ≡ Some table → first_bad table bound ≡ None
    → RunsTable leaves_edit problem table bound old.recorded old.atoms (map turn_told turns) after
    → new ≡ record old { atoms = after; recorded = [] }
    → IsRunOf problem name bound old turns new
run-told problem name bound old new table turns after from named known runs changed = record {
  table = table;
  named = named;
  known = sym (bad-unknown table bound from) ∙ known;
  after = after;
  runs = runs;
  changed = changed;
}
