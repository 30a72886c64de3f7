-- What is held of a contract: when it is made, when a draft is handed out or torn, and when a month is billed.
use Rattle.std.proofs.Common.{◌≡◌, ℕ, ◌+◌, ◌-◌, ◌≤◌, is_some, Some, None, Option, sym, ap, ◌∙◌, subst, arith}
use Rattle.billing.specs.declared.fixings.Fixing.{Fixing}
use Rattle.billing.specs.Charges.{largest_charge, largest_fee, largest_kw}
use Rattle.billing.specs.Metering.{cents_to_date, largest_line}
use Rattle.calendar.specs.Days.{month_of}
use Rattle.year_model.specs.declared.tables.Contract.{Contract}
use Rattle.year_model.specs.declared.tables.Started.{Started}
use Rattle.year_model.specs.declared.tables.System.{System}
use Rattle.year_model.specs.Bills.{billed, kwh_line, kwmax_line, new_contract, plain_rate, tariff_of_contract, with_draft}
use Rattle.year_model.specs.Calls.{largest_number}
use Rattle.year_model.specs.Makings.{Lawful, Makings}
use Rattle.year_model.specs.Sound.{no_system}
use Rattle.year_model.specs.State.{State}
use Rattle.year_model.proofs.Grids.{Held}
use Rattle.year_model.proofs.Lookups.{Entry}
use Rattle.year_model.proofs.MonthsBilled.{cents_rise, month_whole, no_cents, portion_small}

-- a new contract at a fixed system
pub held_new : (s : State) (x : System) (f : Fixing) (n kw fee first last reading yearly : ℕ) → Entry s.systems n x → x.fixing ≡ Some f → kw ≤ largest_kw → fee ≤ largest_fee
    → 1 ≤ month_of first → month_of last ≤ 12 → first ≤ last → reading ≤ largest_number → yearly ≤ largest_charge → Held s (new_contract n kw fee first last reading yearly)
held_new s x f n kw fee first last reading yearly at fixed kw_fits fee_fits from to ordered read small =
    let c = new_contract n kw fee first last reading yearly in
    let none : reading - reading ≡ 0 = omega arith in
    record {
      placed = ((at.low, at.high), ap (λ (z : System). is_some z.fixing) (at.here no_system) ∙ ap (λ (o : Option Fixing). is_some o) fixed);
      months = (from, omega arith, omega arith, to);
      charge = (ordered, kw_fits, fee_fits, small);
      meter = (omega arith, omega arith, read);
      cents = omega arith;
      lines = (sym (no_cents (tariff_of_contract s c 2)), sym (ap (λ v. cents_to_date (tariff_of_contract s c 3) plain_rate v) none ∙ no_cents (tariff_of_contract s c 3)));
      draft = λ d e. let z : ◌≡◌ {A = ℕ} 0 1 = cc in absurd (omega arith);
      payable = λ d e. let z : ◌≡◌ {A = ℕ} 0 1 = cc in absurd (omega arith);
    }

-- another draft, where what is asked of a draft holds of it
held_with_draft : (s : State) (c : Contract) → Held s c → (draft : Option Started)
    → ((d : Started) → draft ≡ Some d → (d.kwmax ≤ largest_kw) × (c.reading ≤ d.reading) × (d.reading ≤ largest_number) × (c.month ≤ month_of c.last))
    → ((d : Started) → draft ≡ Some d → (kwmax_line s c d.kwmax ≤ largest_line) × (kwh_line s c d.reading ≤ largest_line))
    → Held s (with_draft c draft)
held_with_draft s c held draft fits payable =
    record { placed = held.placed; months = held.months; charge = held.charge; meter = held.meter; cents = held.cents; lines = held.lines; draft = fits; payable = payable }

-- no draft
pub held_torn : (s : State) (c : Contract) → Held s c → Held s (with_draft c None)
held_torn s c held =
    held_with_draft s c held None
    (λ d e. let z : ◌≡◌ {A = ℕ} 0 1 = cc in absurd (omega arith))
    (λ d e. let z : ◌≡◌ {A = ℕ} 0 1 = cc in absurd (omega arith))

-- a draft handed out
pub held_started : (s : State) (c : Contract) → Held s c → (d : Started) → d.kwmax ≤ largest_kw → c.reading ≤ d.reading → d.reading ≤ largest_number → c.month ≤ month_of c.last
    → kwmax_line s c d.kwmax ≤ largest_line → kwh_line s c d.reading ≤ largest_line → Held s (with_draft c (Some d))
held_started s c held d kwmax rises read left kwmax_pays kwh_pays =
    held_with_draft s c held (Some d)
    (λ e is. let same : d ≡ e = cc in subst (λ (x : Started). (x.kwmax ≤ largest_kw) × (c.reading ≤ x.reading) × (x.reading ≤ largest_number) × (c.month ≤ month_of c.last)) same (kwmax, rises, read, left))
    (λ e is. let same : d ≡ e = cc in subst (λ (x : Started). (kwmax_line s c x.kwmax ≤ largest_line) × (kwh_line s c x.reading ≤ largest_line)) same (kwmax_pays, kwh_pays))

-- What is due to date is what was issued before and the line.
line_adds : (tariff v w issued : ℕ) → issued ≡ cents_to_date tariff plain_rate v → v ≤ w → issued + (cents_to_date tariff plain_rate w - issued) ≡ cents_to_date tariff plain_rate w
line_adds tariff v w issued due more = let rise = cents_rise tariff v w more in omega arith

-- a month billed
pub held_billed : (m : Makings) → Lawful m → (s : State) (c : Contract) → Held s c → (d : Started) → c.started ≡ Some d → Held s (billed m s c d)
held_billed m law s c held d out =
    let fits = held.draft d out in
    let months = held.months in
    let meter = held.meter in
    let low : 1 ≤ c.month = omega arith in
    let high : c.month ≤ 12 = omega arith in
    let whole = month_whole m law c held.charge.3 c.month low high held.charge.0 in
    let small = portion_small m law c held.charge.3 c.month low high in
    record {
      placed = held.placed;
      months = (months.0, omega arith, omega arith, months.3);
      charge = held.charge;
      meter = (omega arith, omega arith, fits.2);
      cents = omega (arith, held.cents, held.charge.3);
      lines = (
        line_adds (tariff_of_contract s c 2) c.kwmax (c.kwmax + d.kwmax) c.cents.kwmax held.lines.0 (omega arith),
        line_adds (tariff_of_contract s c 3) (c.reading - c.opening) (d.reading - c.opening) c.cents.kwh held.lines.1 (omega arith),
      );
      draft = λ e is. let z : ◌≡◌ {A = ℕ} 0 1 = cc in absurd (omega arith);
      payable = λ e is. let z : ◌≡◌ {A = ℕ} 0 1 = cc in absurd (omega arith);
    }
