-- What a script is about, made of what its lines have declared.
use Rattle.px_reader.proofs.Common.{◌≡◌, ℕ, List, sym, ap, ◌∙◌, subst, IfSome, Option, None, Some, option_map, Atom, Problem, content_of, facts_of, Declared, script_of, Thing, first_state, rendering, IsInRange}
use Rattle.px_script.specs.Declarations.{problem_here}
use Rattle.px_ops.specs.ModelValue.{ModelValue}
use Rattle.px_rooms.specs.declared.building.Building.{Building}
use Rattle.px_table.specs.declared.table.Table.{Table}
use Rattle.px_script.specs.declared.command.Command.{Command}

abbrev pub things_of : Option Building → Option (List Thing)
things_of b = option_map (λ building. building.things) b

-- what holds of the things holds of the building
pub lifted : (P : List Thing → Type 0) (b : Option Building) (things : Option (List Thing)) → things_of b ≡ things → IfSome things P
    → IfSome b (λ building. P building.things)
lifted P None things is h = tt
lifted P (Some building) things is h = subst (λ o. IfSome o P) (sym is) h

pub facts_made : (own facts : List Atom) (b : Option Building) (building : Building) → b ≡ Some building
    → facts ≡ rendering (first_state building.things) → facts ≡ facts_of own (things_of b)
facts_made own facts b building is made = made ∙ ap (λ o. facts_of own (things_of o)) (sym is)

-- ---- the whole

module _ (d : Declared) (r : IsInRange (content_of d)) (problem : Problem) (facts : ModelValue) (b : Option Building)
    (saved : List (ℕ × Table)) (commands : List Command) (is : things_of b ≡ d.things) (problem_is : problem ≡ problem_here d)
    (facts_are : facts.atoms ≡ facts_of d.facts (things_of b)) (saved_are : saved ≡ d.saved) (commands_are : commands ≡ d.commands) where
  -- the parts make the content
  pub content_is : script_of d.version d.names problem facts b saved commands ≡ content_of d
  content_is = let all : facts.atoms ≡ facts_of d.facts d.things = facts_are ∙ ap (facts_of d.facts) is in λ i. record {
    version = d.version;
    names = d.names;
    problem = problem_is i;
    facts = all i;
    building = is i;
    saved = saved_are i;
    commands = commands_are i;
  }

  pub content_in_range : IsInRange (script_of d.version d.names problem facts b saved commands)
  content_in_range = subst IsInRange (sym content_is) r
