-- Proofs of the laws of every order.
use Rattle.std.proofs.Common.{◌≡◌, ℕ, suc, List, length, sym, ◌∙◌, ap, inl, inr, arith}
use Rattle.px_order.specs.Spaces.{Space, Order, IsLinear, IsBefore}
use Rattle.px_order.specs.Ends.{Aim}
use Rattle.px_order.specs.RunLaws.{runs-one, once, made, over-reaches}
use Rattle.px_order.specs.RunOrigins.{few-moves}
use Rattle.px_order.specs.Prefixes.{prefix-gone}
use Rattle.px_order.specs.Asked.{gone-picked, tested-found, over-gone, over-tested}
use Rattle.px_order.specs.EndLaws.{one-stop, same-earlier, no-stop, not-found, not-full, not-limited}
use Rattle.px_order.specs.Breadth.{down_from, InOrder, in_order, begins-least, over-whole}
use Rattle.px_order.specs.Shortlex.{breadth_order, breadth_length, lower-total}
use Rattle.px_order.specs.BlindEnds.{found-breadth, exhausted-breadth, node-limit-breadth, asked-breadth}
use Rattle.px_order.specs.AgendaLaws.{agenda-first, agenda-next, agenda-left, agenda-more, agenda-none, counter-next}
use Rattle.px_order.specs.OpenPlaces.{AgendaGoesOn, BlindNeedsNoAgenda}
use Rattle.px_order.specs.OrderLaws.{AskedByRun, RunsAreOne, NodesStandOnce, AllIsFound, BlindIsBreadth, OneStop, ExhaustedInAll, BlindEnds}

module _ {N M : Type 0} (space : Space N M) where
  pub runs_are_one : RunsAreOne space
  runs_are_one order linear n found lists picked places r s =
      runs-one space order (lower-total order linear) n found lists picked places r s

  pub nodes_stand_once : NodesStandOnce space
  nodes_stand_once = record {
    once = λ order found b. once space order b.1.0 found b.0 b.1.1;
    made = λ order found b. made space order b.1.0 found b.0 b.1.1;
    few = λ order found b. few-moves space order b.1.0 found b.0 b.1.1;
  }

  pub all_is_found : AllIsFound space
  all_is_found order found picked over moves can = over-reaches space order found picked over moves can

  pub blind_is_breadth : BlindIsBreadth space
  blind_is_breadth = record {
    in_order = λ order linear n found picked r. counted order linear found picked
        (in_order space (IsBefore order) (breadth_order order linear) order (breadth_length order linear) n found picked r);
    beginning = λ order linear. begins-least space (IsBefore order) (breadth_order order linear) order (breadth_length order linear);
    whole = λ order linear. over-whole space (IsBefore order) (breadth_order order linear) order (breadth_length order linear);
  }
    where
      counted : (order : Order N M) (linear : IsLinear order) (found : List (List M)) (picked : List ℕ)
          → InOrder space (IsBefore order) (breadth_order order linear) order (breadth_length order linear) found picked
          → (count : ℕ) × (picked ≡ down_from count)
      counted order linear found picked (inl first) = (0, first.1)
      counted order linear found picked (inr going) = (suc going.next, going.picked_is)

  pub agenda_goes_on : AgendaGoesOn space
  agenda_goes_on = record {
    first = λ order ranks put. agenda-first space order ranks put;
    picks = λ order found picked old new worth place agenda taken least tie. (
      agenda-next space order found picked old new worth place agenda taken least tie,
      agenda-left space order found picked old new worth place agenda taken,
    );
    finds = λ order found picked old new moves within agenda put. agenda-more space order found picked old new moves within agenda put;
    none_left = λ order found picked agenda. agenda-none space order found picked agenda;
  }

  pub blind_needs_no_agenda : BlindNeedsNoAgenda space
  blind_needs_no_agenda order linear found count comes below =
      counter-next space (IsBefore order) (breadth_order order linear) order (breadth_length order linear) found count comes below

module _ {N M Q : Type 0} (space : Space N M) (aim : Aim N Q) where
  pub one_stop : OneStop space aim
  one_stop = record {
    stop = λ order linear earlier others last next s t. (
      same-earlier space aim order (lower-total order linear) earlier others last next s t,
      one-stop space aim order (lower-total order linear) earlier others last next s t,
    );
    gone_through = λ order earlier last stop. prefix-gone space order aim earlier last stop;
    found = λ order linear moves others f g.
        one-stop space aim order (lower-total order linear) f.earlier g.earlier moves others f.stop g.stop;
    node_limit = λ order linear earlier others number count k l. (
      same-earlier space aim order (lower-total order linear) earlier others k.last l.last k.stop l.stop,
      k.moves_are ∙ ap (λ (list : List M). length list)
          (one-stop space aim order (lower-total order linear) earlier others k.last l.last k.stop l.stop) ∙ sym l.moves_are,
    );
    found_or_node_limit = λ order linear moves earlier number f limit.
        let same = same-earlier space aim order (lower-total order linear) f.earlier earlier moves limit.last f.stop limit.stop in
        omega (arith, f.room, limit.full, ap (λ (lists : List (List M)). length lists) same);
  }

  pub asked_by_run : AskedByRun space aim
  asked_by_run = record {
    gone_through = λ order linear earlier last stop. gone-picked space order (lower-total order linear) aim earlier last stop;
    tested = λ order linear earlier last stop. tested-found space order (lower-total order linear) aim earlier last stop;
    over_gone_through = λ order linear found picked over. over-gone space order (lower-total order linear) aim found picked over;
    over_tested = λ order linear found picked over. over-tested space order (lower-total order linear) aim found picked over;
  }

  pub exhausted_in_all : ExhaustedInAll space aim
  exhausted_in_all = record {
    stop = λ order other x. no-stop space aim order other x;
    found = λ order other x. not-found space aim order other x;
    node_limit = λ order other x. not-full space aim order other x;
    limited = λ order other x. not-limited space aim order other x;
  }

  pub blind_ends : BlindEnds space aim
  blind_ends = record {
    found = λ order linear. found-breadth space (IsBefore order) (breadth_order order linear) order (breadth_length order linear) aim;
    exhausted = λ order linear.
        exhausted-breadth space (IsBefore order) (breadth_order order linear) order (breadth_length order linear) aim;
    node_limit = λ order linear.
        node-limit-breadth space (IsBefore order) (breadth_order order linear) order (breadth_length order linear) aim;
    asked = λ order linear. asked-breadth space (IsBefore order) (breadth_order order linear) order (breadth_length order linear) aim;
  }
