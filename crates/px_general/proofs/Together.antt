-- The laws of generalisation put together.
use Rattle.std.specs.Prelude.{◌≡◌, List}
use Rattle.px_terms.specs.declared.problem.Problem.{Problem}
use Rattle.px_terms.specs.declared.term.Term.{Term}
use Rattle.px_terms.specs.Validity.{IsValid}
use Rattle.px_table.specs.declared.table.Table.{Table}
use Rattle.px_table.specs.Tables.{IsTable}
use Rattle.px_table.specs.WellSortedLaws.{sorts_by_places-said}
use Rattle.px_general.specs.General.{Generalises, IsNumbered}
use Rattle.px_general.specs.Replayed.{IsReplayed}
use Rattle.px_general.proofs.GeneralTable.{general-is_table}
use Rattle.px_general.proofs.Shaped.{sound_for}
use Rattle.px_general.proofs.SupportInstances.{general_for}

pub generalises : (problem : Problem) (plan general : Table) (names roots : List Term) → IsValid problem → IsTable problem plan
    → plan.params ≡ 0 → IsReplayed problem plan general names roots → IsNumbered general → Generalises problem plan general
generalises problem plan general names roots valid is_table no_params replayed numbered =
    let is_general = general-is_table problem valid plan general names roots is_table no_params replayed in
    record {
      no_params = no_params;
      table = is_general;
      goal_variable_count = replayed.goal_variable_count;
      numbered = numbered;
      sorts = sorts_by_places-said problem general is_general.sorted replayed.sorts;
      sound = sound_for problem valid plan general names roots is_table no_params replayed is_general;
      all = general_for problem plan general names roots is_table no_params replayed;
    }
