-- The words that are worked out.
use Rattle.std.proofs.Common.{refl}
use Rattle.px_words.specs.Worked.{WorkedWords}

pub worked_words : WorkedWords
worked_words = record {
  run = refl;
  check = refl;
  demo = refl;
  zeros = refl;
  nothing = refl;
  more = refl;
  more_to_check = refl;
  fewer = refl;
  too_few_rooms = refl;
  too_many_rooms = refl;
  large = refl;
  long = refl;
  sign = refl;
  hyphens = refl;
}
