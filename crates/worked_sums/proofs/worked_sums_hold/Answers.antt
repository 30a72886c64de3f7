use Rattle.std.proofs.Common.{refl}
use Rattle.worked_sums.proofs.worked_sums_hold.Goals as goal

-- Every sum is its value by computation.
pub returns : goal.returns
returns c =
    record {
      running_ten_over_thirds = refl;
      greatest_ten_over_thirds = refl;
      seven = (refl, refl);
      leap_day = refl;
      no_leap_day = refl;
      january = refl;
      pass = (refl, refl);
      tariffs = (refl, refl);
      remainders = (refl, refl);
      yearly = refl;
      january_issued = (refl, refl);
      january_waived = (refl, refl);
      kwmax_january = refl;
      kwmax_february = refl;
      kwh_january = refl;
      kwh_february = refl;
      runs = record {
        costs = record {
          opened = (refl, refl);
          entered = (refl, refl);
          before = (refl, refl);
          passed = ((refl, refl), (refl, refl));
          settled = (refl, refl);
          nothing_stands = ((refl, refl), (refl, refl));
          at_once = (refl, refl);
          nothing_stands_at_once = ((refl, refl), (refl, refl));
          costs = (refl, refl);
          net_costs = (refl, refl);
          odd_running = (refl, refl);
          odd_greatest = (refl, refl);
        };
        bills = record {
          landed = ((refl, refl), (refl, refl));
          fixed = (refl, refl);
          fixing_kept = (refl, refl);
          contracted = (refl, refl);
          charge_kept = (refl, refl);
          january_started = (refl, refl);
          draft_kept = (refl, refl);
          january = (refl, refl);
          february = (refl, refl);
          bills_kept = (refl, refl);
          torn = (refl, refl);
          tearing_undoes = (refl, refl);
          within_february = (refl, refl);
          second_contract = (refl, refl);
          from_the_top = (refl, refl);
          reckoned_charge = (refl, refl);
          reckoned_running = refl;
          reckoned_greatest = refl;
        };
        refusals = record {
          opening = (refl, refl);
          coupling = (refl, refl);
          consumers = (refl, refl);
          costing = (refl, refl);
          taking_back = (refl, refl);
          passing = (refl, refl);
          nothing_to_go_by = (refl, refl);
          settling = (refl, refl);
          fixing = (refl, refl);
          largest_tariff = (refl, refl);
          tariff_too_high = (refl, refl);
          contracting = (refl, refl);
          charging = (refl, refl);
          metering = (refl, refl);
          draft_out = (refl, refl);
          first_reading = (refl, refl);
          later_draft_out = (refl, refl);
          coupling_fixed = (refl, refl);
          draft_spent = (refl, refl);
        };
        tables = record {
          twenty_takers = (refl, refl);
          more_takers_running = refl;
          more_takers_greatest = refl;
          couplings_full = (refl, refl);
          thirty_two_takers = refl;
          last_coupling = (refl, refl);
          all_couplings_full = (refl, refl);
          last_contract = (refl, refl);
          contracts_full = (refl, refl);
          systems_full = (refl, refl);
          last_system = (refl, refl);
        };
        settling = record {
          by_number = (refl, refl);
          stranded = ((refl, refl), (refl, refl));
          by_level = (refl, refl);
          landed = ((refl, refl), (refl, refl));
          order = (refl, refl);
          three_levels_order = (refl, refl);
          three_levels_told = (refl, refl);
          three_levels_landed = ((refl, refl), (refl, refl));
          fixed_left_out = (refl, refl);
          settled_below = (refl, refl);
          landed_below = ((refl, refl), (refl, refl));
        };
      };
    }
