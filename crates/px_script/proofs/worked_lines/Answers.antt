use Rattle.px_script.proofs.Common.{◌≡◌, ℕ, List, Some, Statement, spelling, Spell, refl}
use Rattle.std.specs.Fmt.{digits}
use Rattle.px_base.specs.Sets.{with_item, set_of}
use Rattle.px_script.proofs.Computed.{after-so, fit-so, refuse-so}
use Rattle.unicode_ident.proofs.Computing.{unicode_ident}
use lib.Utf8.{encode}
use Rattle.px_script.proofs.Law.{lines_read, scan_by, scan, scan-lexes}
use Rattle.px_script.specs.Parsing.{all_within, items_after}
use Rattle.px_script.proofs.worked_lines.Goals as goal

pub returns-clause-domains : goal.returns-clause-domains
unfolding lines_read scan_by unicode_ident encode all_within items_after with_item set_of
returns-clause-domains c = search (after-so, refuse-so) depth 14

pub returns-clause-buildings : goal.returns-clause-buildings
unfolding lines_read scan_by unicode_ident encode all_within items_after with_item set_of
returns-clause-buildings c = search (after-so, refuse-so) depth 14

pub returns-clause-commands : goal.returns-clause-commands
unfolding lines_read scan_by unicode_ident encode all_within items_after with_item set_of digits
returns-clause-commands c = record {
  plans = search (after-so, refuse-so) depth 14;
  numbers_variables = search (after-so, refuse-so) depth 14;
  learns = search (after-so, refuse-so) depth 14;
  shows = search (after-so, refuse-so) depth 14;
  disturbs = search (after-so, refuse-so) depth 14;
  disturbs_after_run = search (after-so, refuse-so) depth 14;
  disturbs_rooms = search (after-so, refuse-so) depth 14;
  runs = search (after-so, refuse-so) depth 14;
  last_parameter = search (after-so, refuse-so) depth 14;
  tells_facts = search (after-so, refuse-so) depth 14;
  no_form = search (after-so, refuse-so) depth 14;
  unknown = search (after-so, refuse-so) depth 14;
  known_result = search (after-so, refuse-so) depth 14;
  arity = search (after-so, refuse-so) depth 14;
  unbound = search (after-so, refuse-so) depth 14;
  out_of_order = search (after-so, refuse-so) depth 14;
  many_commands = search (after-so, refuse-so) depth 14;
  many_disturbing_rooms = search (after-so, refuse-so) depth 14;
  many_disturbed_rooms = search (after-so, refuse-so) depth 14;
  limits = search (after-so, refuse-so) depth 14;
}

-- the plain scan finds its spelling
spell : (characters : List ℕ) (s : Statement) → scan characters ≡ Some (spelling s) → Spell characters s
spell characters s e = record { lexes = scan-lexes characters (spelling s) e }

pub returns-clause-spellings : goal.returns-clause-spellings
unfolding scan_by unicode_ident encode digits
returns-clause-spellings c = search spell

pub returns-clause-limits : goal.returns-clause-limits
unfolding lines_read scan_by unicode_ident encode all_within items_after with_item set_of
returns-clause-limits c = search (after-so, fit-so, refuse-so) depth 14

pub returns-clause-sorts : goal.returns-clause-sorts
unfolding lines_read scan_by unicode_ident encode all_within items_after with_item set_of
returns-clause-sorts c = search (after-so, fit-so, refuse-so) depth 14

pub returns-clause-duos : goal.returns-clause-duos
unfolding lines_read scan_by unicode_ident encode all_within items_after with_item set_of digits
returns-clause-duos c = record {
  duos = search (after-so, fit-so, refuse-so) depth 14;
  keeps_disturbs = search (after-so, fit-so, refuse-so) depth 14;
  most_events = search (after-so, fit-so, refuse-so) depth 14;
  new = search (after-so, fit-so, refuse-so) depth 14;
  no_form = search (after-so, fit-so, refuse-so) depth 14;
  unknown = search (after-so, fit-so, refuse-so) depth 14;
  numbers = search (after-so, fit-so, refuse-so) depth 14;
  many_events = search (after-so, fit-so, refuse-so) depth 14;
  numbers_first = search (after-so, fit-so, refuse-so) depth 14;
  commands_first = search (after-so, fit-so, refuse-so) depth 14;
}

pub returns-clause-edits : goal.returns-clause-edits
unfolding lines_read scan_by unicode_ident encode all_within items_after with_item set_of digits
returns-clause-edits c = record {
  edits = search (after-so, fit-so, refuse-so) depth 14;
  gives_a_table = search (after-so, fit-so, refuse-so) depth 14;
  named = search (after-so, fit-so, refuse-so) depth 14;
  no_plan = search (after-so, fit-so, refuse-so) depth 14;
  most_pairs = search (after-so, fit-so, refuse-so) depth 14;
  new = search (after-so, fit-so, refuse-so) depth 14;
  no_form = search (after-so, fit-so, refuse-so) depth 14;
  out_of_order = search (after-so, fit-so, refuse-so) depth 14;
  unknown = search (after-so, fit-so, refuse-so) depth 14;
  known_result = search (after-so, fit-so, refuse-so) depth 14;
  limits = search (after-so, fit-so, refuse-so) depth 14;
  commands_first = search (after-so, fit-so, refuse-so) depth 14;
}

pub returns-clause-pursuits : goal.returns-clause-pursuits
unfolding lines_read scan_by unicode_ident encode all_within items_after with_item set_of digits
returns-clause-pursuits c = record {
  pursuing = search spell;
  pursues = search (after-so, fit-so, refuse-so) depth 14;
  gives_no_table = search (after-so, fit-so, refuse-so) depth 14;
  keeps_disturbs = search (after-so, fit-so, refuse-so) depth 14;
  new = search (after-so, fit-so, refuse-so) depth 14;
  no_form = search (after-so, fit-so, refuse-so) depth 14;
  out_of_order = search (after-so, fit-so, refuse-so) depth 14;
  unknown = search (after-so, fit-so, refuse-so) depth 14;
  unknown_table = search (after-so, fit-so, refuse-so) depth 14;
  known_result = search (after-so, fit-so, refuse-so) depth 14;
  arity = search (after-so, fit-so, refuse-so) depth 14;
  unbound = search (after-so, fit-so, refuse-so) depth 14;
  limits = search (after-so, fit-so, refuse-so) depth 14;
  many_atoms = search (after-so, fit-so, refuse-so) depth 14;
  many_commands = search (after-so, fit-so, refuse-so) depth 14;
}

pub returns-clause-tables : goal.returns-clause-tables
unfolding lines_read scan_by unicode_ident encode all_within items_after with_item set_of digits
returns-clause-tables c = record {
  opening = search spell;
  a_step = search spell;
  a_plain_step = search spell;
  a_goal = search spell;
  proofs = search spell;
  no_proofs_written = search spell;
  whole_proofs = refl;
  no_proofs = refl;
  cut_proof = refl;
  steps = search (after-so, fit-so, refuse-so) depth 14;
  rows = search (after-so, fit-so, refuse-so) depth 14;
  variables = search (after-so, fit-so, refuse-so) depth 14;
  closed = search (after-so, fit-so, refuse-so) depth 14;
  in_a_building = search (after-so, fit-so, refuse-so) depth 14;
  bad_tables = search (after-so, fit-so, refuse-so) depth 14;
  bad_proofs = search (after-so, fit-so, refuse-so) depth 14;
  new = search (after-so, fit-so, refuse-so) depth 14;
  no_form = search (after-so, fit-so, refuse-so) depth 14;
  out_of_order = search (after-so, fit-so, refuse-so) depth 14;
  early = search (after-so, fit-so, refuse-so) depth 14;
  unknown = search (after-so, fit-so, refuse-so) depth 14;
  known_table = search (after-so, fit-so, refuse-so) depth 14;
  arity = search (after-so, fit-so, refuse-so) depth 14;
  unbound = search (after-so, fit-so, refuse-so) depth 14;
  fit = search (after-so, fit-so, refuse-so) depth 14;
  proofs_fit = search (after-so, fit-so, refuse-so) depth 14;
  many_atoms = search (after-so, fit-so, refuse-so) depth 14;
  great_numbers = search (after-so, fit-so, refuse-so) depth 14;
  great_in_proofs = search (after-so, fit-so, refuse-so) depth 14;
  many_tables = search (after-so, fit-so, refuse-so) depth 14;
  many_steps = search (after-so, fit-so, refuse-so) depth 14;
  high_proofs = search (after-so, fit-so, refuse-so) depth 14;
}

pub returns-clause-asking : goal.returns-clause-asking
unfolding lines_read scan_by unicode_ident encode all_within items_after with_item set_of digits
returns-clause-asking c = record {
  are_written = search spell depth 14;
  asks = search (after-so, refuse-so) depth 14;
  of_blocks = search (after-so, refuse-so) depth 14;
  keep_disturbs = search (after-so, refuse-so) depth 14;
  new_commands = search (after-so, refuse-so) depth 14;
  without_form = search (after-so, refuse-so) depth 14;
  in_blocks = search (after-so, refuse-so) depth 14;
  unknown_tables = search (after-so, refuse-so) depth 14;
  many_commands = search (after-so, refuse-so) depth 14;
}

pub returns-clause-weights : goal.returns-clause-weights
unfolding lines_read scan_by unicode_ident encode all_within items_after with_item set_of digits
returns-clause-weights c = record {
  weighing = search spell;
  most = search (after-so, fit-so, refuse-so) depth 14;
  none = search (after-so, fit-so, refuse-so) depth 14;
  defaults = search (after-so, fit-so, refuse-so) depth 14;
  old_defaults = search (after-so, fit-so, refuse-so) depth 14;
  of_a_building = search (after-so, fit-so, refuse-so) depth 14;
  sorted = search (after-so, fit-so, refuse-so) depth 14;
  many_objects = search (after-so, fit-so, refuse-so) depth 14;
  new = search (after-so, fit-so, refuse-so) depth 14;
  no_form = search (after-so, fit-so, refuse-so) depth 14;
  out_of_order = search (after-so, fit-so, refuse-so) depth 14;
  twice = search (after-so, fit-so, refuse-so) depth 14;
  limits = search (after-so, fit-so, refuse-so) depth 14;
}

pub returns-clause-trees : goal.returns-clause-trees
unfolding lines_read scan_by unicode_ident encode all_within items_after with_item set_of digits
returns-clause-trees c = record {
  growing = search spell;
  grows = search (after-so, fit-so, refuse-so) depth 14;
  gives_no_table = search (after-so, fit-so, refuse-so) depth 14;
  new_command = search (after-so, fit-so, refuse-so) depth 14;
  without_form = search (after-so, fit-so, refuse-so) depth 14;
  wrong_place = search (after-so, fit-so, refuse-so) depth 14;
  unknown = search (after-so, fit-so, refuse-so) depth 14;
  known_result = search (after-so, fit-so, refuse-so) depth 14;
  arity = search (after-so, fit-so, refuse-so) depth 14;
  unbound = search (after-so, fit-so, refuse-so) depth 14;
  passed = search (after-so, fit-so, refuse-so) depth 14;
  many_commands = search (after-so, fit-so, refuse-so) depth 14;
}

pub returns-clause-later : goal.returns-clause-later
unfolding lines_read scan_by unicode_ident encode all_within items_after with_item set_of digits
returns-clause-later c = search after-so depth 14
