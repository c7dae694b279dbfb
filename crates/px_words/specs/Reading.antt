-- The command that `clap` reads, and what the words order that it found.
use Rattle.std.specs.Prelude.{List, ℕ, codes, true, if◌then◌else◌, Option, None, Some, option_and_then}
use Rattle.std.specs.Str.{bytes_eq}
use Rattle.clap.specs.Simple.{App, new_app, new_rule, on_top, with_rule}
use Rattle.clap.specs.Walk.{Rule}
use Rattle.clap.specs.Words.{first_value}
use Rattle.clap.specs.declared.parser.matches.Found.{Found}
use Rattle.px_words.specs.Orders.{demo_order, lone_order}
use Rattle.px_words.specs.declared.orders.Order.{Order}

abbrev pub word_rule : Rule
word_rule = record (new_rule (codes "WORD")) { required = true }

-- a first word, and two that may be left out; the program's name isn't among them
abbrev pub planex : App
planex = with_rule (with_rule (with_rule (on_top (λ top. record top { no_binary_name = true }) (new_app (codes "planex"))) word_rule)
    (new_rule (codes "ROOMS"))) (new_rule (codes "SEED"))

-- what a first word orders, with the two words that may follow it
abbrev pub order_in : List ℕ → (rooms seed : Option (List ℕ)) → Option Order
order_in word None None = lone_order word
order_in word (Some rooms) (Some seed) = if bytes_eq word (codes "demo") then demo_order rooms seed else None
order_in word None (Some seed) = None
order_in word (Some rooms) None = None

-- what the words order that `clap` found
abbrev pub order_read : Found → Option Order
order_read found = option_and_then (λ word. order_in word (first_value found (codes "ROOMS")) (first_value found (codes "SEED")))
    (first_value found (codes "WORD"))
