use Rattle.px_script.proofs.Common.{◌≡◌, ℕ, List, Option, None, Some, AllByRecursion, subst, AllByRecursion-map, ScriptValue, content_of, Refusal, coded, Stage, stage_now, FirstFault, IsScript}
use Rattle.std.specs.Str.{chars, is_utf8}
use Rattle.std.specs.Str.Lossy.{utf8_valid_len}
use Rattle.std.specs.Fmt.{digits}
use Rattle.unicode_ident.proofs.Computing.{unicode_ident}
use lib.Utf8.{encode}
use Rattle.px_base.specs.Sets.{with_item, set_of}
use Rattle.px_script.specs.Worked.{AreRefused}
use Rattle.px_script.proofs.Law.{Reading, passes, fails, by_reading, lines_read, scan_by, text_read, TextSays, text-says}
use Rattle.px_script.specs.Parsing.{all_within, items_after}
use Rattle.px_script.proofs.worked_texts.Goals as goal

-- what is read is so

abbrev content_in : Reading → Option ScriptValue
content_in (passes last) = Some (content_of last)
content_in (fails at refusal) = None

script-so : (bytes : List ℕ) (script : ScriptValue) → content_in (text_read stage_now bytes) ≡ Some script → IsScript stage_now bytes script
script-so bytes script e = by_reading (λ r. TextSays stage_now bytes r × (content_in r ≡ Some script))
    (λ last so. record { last = last; spells = so.0; is = let e = so.1 in cc }) (λ at refusal so. let e = so.1 in cc)
    (text_read stage_now bytes) (text-says stage_now bytes, e)

refused-so : (stage : Stage) (bytes : List ℕ) (line : ℕ) (refusal : Refusal) → text_read stage bytes ≡ fails line refusal
    → FirstFault stage bytes line refusal
refused-so stage bytes line refusal e = subst (TextSays stage bytes) e (text-says stage bytes)

each-refused : (texts : List (ℕ × ℕ × List ℕ)) → AllByRecursion (λ t. text_read stage_now t.2 ≡ fails t.0 (coded t.1)) texts
    → AreRefused texts
each-refused texts each = record { each = AllByRecursion-map _ _ (λ t e. refused-so stage_now t.2 t.0 (coded t.1) e) texts each }

pub returns-clause-scripts : goal.returns-clause-scripts
unfolding lines_read scan_by all_within items_after with_item set_of encode chars is_utf8 unicode_ident
returns-clause-scripts c = search script-so

pub returns-clause-refusals : goal.returns-clause-refusals
unfolding lines_read scan_by all_within items_after with_item set_of encode chars is_utf8 utf8_valid_len unicode_ident digits
returns-clause-refusals c = record {
  no_character = search (refused-so, each-refused) depth 14;
  second_mark = search (refused-so, each-refused) depth 14;
  late_mark = search (refused-so, each-refused) depth 14;
  no_form = search (refused-so, each-refused) depth 14;
  unknown = search (refused-so, each-refused) depth 14;
  duplicate = search (refused-so, each-refused) depth 14;
  arity = search (refused-so, each-refused) depth 14;
  wide_predicate = search (refused-so, each-refused) depth 14;
  other_version = search (refused-so, each-refused) depth 14;
  of_sorts = search (refused-so, each-refused) depth 14;
  bad_table = search (refused-so, each-refused) depth 14;
  cut_table = search (refused-so, each-refused) depth 14;
  order = search (refused-so, each-refused) depth 14;
  not_built = search (refused-so, each-refused) depth 14;
  order_before_unbuilt = search (refused-so, each-refused) depth 14;
  unbuilt_before_name = search (refused-so, each-refused) depth 14;
}
