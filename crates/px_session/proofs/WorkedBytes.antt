-- The bytes of the worked script are that script.
use Rattle.std.specs.Prelude.{◌≡◌, ℕ, Option, Some, None, List}
use Rattle.std.proofs.Common.{refl}
use Rattle.std.specs.Fmt.{digits}
use Rattle.std.specs.Str.{chars, is_utf8}
use Rattle.unicode_ident.proofs.Computing.{unicode_ident}
use lib.Utf8.{encode}
use Rattle.px_base.specs.Sets.{set_of, with_item}
use Rattle.px_script.specs.Content.{ScriptValue, content_of}
use Rattle.px_script.specs.Scripts.{IsScript}
use Rattle.px_script.specs.Stages.{stage_now}
use Rattle.px_script.proofs.Law.{Reading, TextSays, by_reading, fails, lines_read, passes, scan_by, text-says, text_read}
use Rattle.px_script.specs.Parsing.{all_within, items_after}
use Rattle.px_session.specs.WorkedSession.{idle_bytes, idle_script}

abbrev content_in : Reading → Option ScriptValue
content_in (passes last) = Some (content_of last)
content_in (fails at refusal) = None

script-so : (bytes : List ℕ) (script : ScriptValue) → content_in (text_read stage_now bytes) ≡ Some script → IsScript stage_now bytes script
script-so bytes script e = by_reading (λ r. TextSays stage_now bytes r × (content_in r ≡ Some script))
    (λ last so. record { last = last; spells = so.0; is = let e = so.1 in cc }) (λ at refusal so. let e = so.1 in cc)
    (text_read stage_now bytes) (text-says stage_now bytes, e)

pub idle_spelt : IsScript stage_now idle_bytes idle_script
unfolding lines_read scan_by all_within items_after with_item set_of encode chars is_utf8 unicode_ident digits
idle_spelt = script-so idle_bytes idle_script refl
