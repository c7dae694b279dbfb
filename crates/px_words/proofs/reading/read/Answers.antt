use Rattle.std.proofs.Common.{◌≡◌, ℕ, List, ap, map, ◌∙◌}
use Rattle.std.proofs.lemmas.Result.{IfErr-weaker, IfOk-weaker}
use Rattle.clap.specs.Matches.{found_of}
use Rattle.clap.specs.Simple.{App, app_of, is_simple, matches_of}
use Rattle.clap.specs.Takes.{takes}
use Rattle.px_words.specs.Reading.{planex}
use Rattle.px_words.proofs.ReadingLemmas.{reads, takes-them}
use Rattle.px_words.proofs.reading.read.Goals as goal

pub returns : goal.returns
returns c =
    let app_is : app_of c.in_ok-command.command ≡ planex = c.in_ok-command.ensures in
    let words : List (List ℕ) = map (λ word. word.now) c.args.words.now in
    let parse = c.try_get_matches_from in
    record {
      read = IfOk-weaker parse.result _ _
          (λ m h. reads (found_of m) words c.requires.taken
          ((h (ap is_simple app_is)).0 ∙ ap (λ (a : App). matches_of a words) app_is)) parse.ensures.matches;
      memory = IfErr-weaker parse.result _ _
          (λ e h. h (ap (λ (a : App). takes a words) app_is ∙ takes-them words c.requires.taken)) parse.ensures.passes;
    }
