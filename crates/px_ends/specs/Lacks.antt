-- How much a node lacks: how many of the atoms that are still needed have no instance among the facts.
use Rattle.std.specs.Prelude.{◌≡◌, ◌==◌, ◌+◌, ◌&&◌, ◌||◌, Bool, true, false, not, ℕ, List, map}
use Rattle.std.specs.List.{count_by, list_all, list_any, sum_by, zip}
use Rattle.std.specs.Cmp.Lexicographic.{pointwise}
use Rattle.px_terms.specs.declared.atom.Atom.{Atom}
use Rattle.px_terms.specs.declared.term.Term.{Term}
use Rattle.px_terms.specs.declared.term.Term.TheVariants.{Obj, Var, Any}
use Rattle.px_terms.specs.Order.{term_eq}
use Rattle.px_table.specs.declared.entry.Entry.{Entry}
use Rattle.px_table.specs.declared.node.Node.{Node}
use Rattle.px_entries.specs.Entries.{obligations_of}
use Rattle.px_gaps.specs.declared.question.Obligation.{Obligation}
use Rattle.px_ends.specs.Tasks.{Task, goal_from}

-- the term with these objects for the variables
abbrev pub with_objects : (ℕ → ℕ) → Term → Term
with_objects objects (Obj n) = Obj n
with_objects objects (Var v) = Obj (objects v)
with_objects objects Any = Any

-- some objects for the variables of the pattern, one for each, make it the atom
abbrev pub IsMatch : Atom → Atom → Type 0
IsMatch pattern atom =
    (objects : ℕ → ℕ) × (atom ≡ record { pred = pattern.pred; args = map (with_objects objects) pattern.args })

-- ---- the test of it

-- an object stays, and for a variable comes an object
abbrev pub fits_place : Term → Term → Bool
fits_place (Obj m) (Obj n) = m == n
fits_place (Obj m) (Var v) = false
fits_place (Obj m) Any = false
fits_place (Var w) (Obj n) = true
fits_place (Var w) (Var v) = false
fits_place (Var w) Any = false
fits_place Any (Obj n) = false
fits_place Any (Var v) = false
fits_place Any Any = true

-- where terms of the pattern are the same, so are those of the atom
abbrev pub are_alike : List Term → List Term → Bool
are_alike pattern terms =
    list_all (λ p. list_all (λ q. not (term_eq p.0 q.0) || term_eq p.1 q.1) (zip pattern terms)) (zip pattern terms)

abbrev pub fits : Atom → Atom → Bool
fits pattern atom = (atom.pred == pattern.pred) && (pointwise fits_place pattern.args atom.args && are_alike pattern.args atom.args)

-- ---- what is lacking

-- how many atoms of the formula, as it lists them, have no match among the facts: each counts by itself, and nothing is proved
abbrev pub lacks_of : Obligation → ℕ
lacks_of needed = count_by (λ atom. not (list_any (fits atom) needed.facts)) needed.formula

-- what an entry lacks in the model, over all that it needs
abbrev pub lacks : Task → List Atom → Entry → ℕ
lacks task model entry = sum_by lacks_of (obligations_of task.problem task.tables model entry)

-- what the goal and all entries of the stack lack in the node's model: an estimate of how far it is to a solved node
abbrev pub needs : Task → Node → ℕ
needs task node = lacks_of (goal_from task node.model) + sum_by (lacks task node.model) node.stack
