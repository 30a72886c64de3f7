-- Every call leads from a reached state to a reached one.
use Rattle.std.proofs.Common.{◌≡◌, ℕ, ◌≤◌, leb, [], ◌∷◌, refl, sym, ap, ◌∙◌, subst, arith}
use Rattle.std.proofs.lemmas.Bool.{and_from, le-leb}
use mathlib.Core.Logic.{∥∥₁_map}
use Rattle.edition.specs.Edition2013.{rows_2013}
use Rattle.edition.specs.Tables.{known_in, percent_in}
use Rattle.edition.specs.WholeRows.{all_whole, hundred_in}
use Rattle.sharing.specs.Running.{running_share}
use Rattle.sharing.specs.RunningLaw.{running_law}
use Rattle.year_model.specs.Calls.{Call}
use Rattle.year_model.specs.Makings.{Lawful, Makings}
use Rattle.year_model.specs.State.{State, begun}
use Rattle.year_model.specs.Steps.{after}
use Rattle.tariff_year.specs.declared.basis.Basis.{Basis}
use Rattle.page.specs.Reached.{Reached, page_makings}

-- The edition of 2013 and the running rule are lawful in every calendar year.
pub lawful_page : (calendar : ℕ) → 2000 ≤ calendar → calendar ≤ 2099 → Lawful (page_makings calendar)
lawful_page calendar from to =
    record {
      dated = and_from (leb 2000 calendar) (leb calendar 2099) (le-leb 2000 calendar from) (le-leb calendar 2099 to);
      twelve = omega arith;
      sharing = running_law 32;
      hundred = hundred_in rows_2013 (all_whole rows_2013 refl);
    }

pub reached_new : (m : Makings) (s : State) → s ≡ begun → Reached m s
reached_new m s new = ∣ ([], sym new) ∣₁

pub reached_by : (m : Makings) (c : Call) (s t : State) → t ≡ after m s c → Reached m s → Reached m t
reached_by m c s t goes reached =
    ∥∥₁_map reached (λ p. (c ∷ p.0, ap (λ (x : State). after m x c) p.1 ∙ sym goes))

-- the makings of a page's year, at any book
abbrev makings_at : ℕ → ℕ → Makings
makings_at calendar book =
    record {
      calendar = calendar;
      book = book;
      longest = 32;
      share = running_share;
      known = known_in rows_2013;
      percent = percent_in rows_2013;
    }

-- A call of the year keeps what it is made of, and leads to a reached state.
pub call_kept : {E R : Type 0} (basis later : Basis E R) (c : Call) (s t : State) → later ≡ basis → t ≡ after (makings_at basis.calendar.year basis.book) s c → (basis.book ≡ 0) × Reached (page_makings basis.calendar.year) s
    → (later.book ≡ 0) × Reached (page_makings later.calendar.year) t
call_kept {E} {R} basis later c s t same goes before =
    let there = reached_by (page_makings basis.calendar.year) c s t (subst (λ b. t ≡ after (makings_at basis.calendar.year b) s c) before.0 goes) before.1 in
    subst (λ (b : Basis E R). (b.book ≡ 0) × Reached (page_makings b.calendar.year) t) (sym same) (before.0, there)
